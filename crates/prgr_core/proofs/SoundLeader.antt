-- The events of a leader keep a state of lists sound.
use Rattle.std.proofs.lemmas.Bool.{eqb-true, ltb-true, and_parts, or_cases}
use Rattle.std.proofs.Common.{◌≡◌, ℕ, ◌+◌, Bool, true, false, List, [], ◌∷◌, length, Option, Some, None, refl, sym, ◌∙◌, ap, subst, ◌⊎◌, inl, inr, eqb, arith, ◌||◌, is_none, nat_lt}
use Rattle.std.specs.Prelude.{slice_get, slice_set, if◌then◌else◌}
use Rattle.prgr_core.specs.declared.member.TheConstants.{WAITING, LAST_VALUE}
use Rattle.prgr_core.specs.declared.member.Member.{Member}
use Rattle.prgr_core.specs.declared.member.Scans.{Scans}
use Rattle.prgr_core.specs.declared.member.Role.{Role}
use Rattle.prgr_core.specs.declared.member.Role.TheVariants.{Follows, Leads}
use Rattle.prgr_core.specs.declared.watcher.Watcher.{Watcher}
use Rattle.prgr_core.specs.declared.progress.Progress.{Progress}
use Rattle.prgr_core.specs.declared.event.PrgrEvent.TheVariants.{Lead, Scan, ScanDelay, Advance, GiveUp}
use Rattle.prgr_core.specs.Members.{IsLeading, HasScanned, HasScannedDelay, is_waiting, is_value, is_done, has_scanned, have_scanned_all, leading, following, leading_with, with_scanned, no_scans}
use Rattle.prgr_core.specs.Watchers.{delay_of}
use Rattle.prgr_core.specs.Machine.{machine_of, IsWatcher, IsAmongWatchers}
use Rattle.prgr_core.specs.Invariant.{ProgressInvariant}
use Rattle.prgr_core.specs.Step.{with_member, by_role, after, IsSound, scan_of, delay_scan_of, delay_count, advanced, led, given_up}
use Rattle.prgr_core.proofs.LeaderChanges.{rescanned_fits, free_delay, AddDone, AddDelay, IsDoneWord, lead_keeps, give_up_keeps, advance_keeps}
use Rattle.prgr_core.proofs.SoundParts.{is_member, becomes, still_numbered, sound_with, member_sound}
use Rattle.prgr_core.proofs.SoundMembers.{is_value_true}
use Rattle.prgr_core.proofs.Parts.{and_then_some, unless_some, some_same, slice_get-slice_set, list_all-at, some_true}
use Rattle.std.proofs.lemmas.Option.{cond_some}

-- ---- what the tests tell

none_true : (o : Option ℕ) → is_none o ≡ true → o ≡ None
none_true None e = refl
none_true (Some x) e = absurd (cc)

by_role_some : (role : Role) (next : Scans → Option Progress) (t : Progress) → by_role role next ≡ Some t → (scans : Scans) × (role ≡ Leads scans) × (next scans ≡ Some t)
by_role_some Follows next t e = absurd (cc)
by_role_some (Leads scans) next t e = (scans, refl, e)

done_word : (counter word : ℕ) → is_done counter word ≡ true → IsDoneWord counter word
done_word counter word e =
    elim (or_cases (is_waiting word) (eqb word (counter + 1)) e) as (λ _. IsDoneWord counter word) [
      | inl waits ↦ inl (eqb-true word WAITING waits)
      | inr confirmed ↦ inr (eqb-true word (counter + 1) confirmed)
    ]

scan_knows_by : (b : Bool) (scans : Scans) (j : ℕ) → (if b then with_scanned j scans else scans).counter ≡ scans.counter
scan_knows_by true scans j = refl
scan_knows_by false scans j = refl

scan_knows : (counter : ℕ) (scans : Scans) (j word : ℕ) → (scan_of counter scans j word).counter ≡ scans.counter
scan_knows counter scans j word = scan_knows_by (is_done counter word) scans j

scan_keeps_delay_by : (b : Bool) (scans : Scans) (j : ℕ) → (if b then with_scanned j scans else scans).delay ≡ true → scans.delay ≡ true
scan_keeps_delay_by true scans j e = e
scan_keeps_delay_by false scans j e = e

scan_keeps_delay : (counter : ℕ) (scans : Scans) (j word : ℕ) → (scan_of counter scans j word).delay ≡ true → scans.delay ≡ true
scan_keeps_delay counter scans j word = scan_keeps_delay_by (is_done counter word) scans j

delay_keeps_by : (b : Bool) (scans : Scans) → ((if b then record scans { delay = true } else scans).counter ≡ scans.counter) × ((if b then record scans { delay = true } else scans).members ≡ scans.members)
delay_keeps_by true scans = (refl, refl)
delay_keeps_by false scans = (refl, refl)

delay_scan_keeps : (scans : Scans) (count : ℕ) → ((delay_scan_of scans count).counter ≡ scans.counter) × ((delay_scan_of scans count).members ≡ scans.members)
delay_scan_keeps scans count = delay_keeps_by (eqb count 0) scans

-- a scan adds a member that its word shows to be done
scan_adds : (s : Progress) (scans : Scans) (j : ℕ) (other : Member) → slice_get s.members j ≡ Some other → (b : Bool) → is_done s.counter other.word ≡ b → AddDone (machine_of s) scans (if b then with_scanned j scans else scans)
scan_adds s scans j other at false e y is scanned = inl scanned
scan_adds s scans j other at true e y is scanned =
    elim (slice_get-slice_set scans.members j true y.number true scanned) as (λ _. (slice_get scans.members y.number ≡ Some true) ⊎ IsDoneWord s.counter y.word) [
      | inl here ↦
          let found : Some y ≡ Some other = sym is ∙ ap (λ n. slice_get s.members n) here.0 ∙ at in
          let same : y ≡ other = cc in
          inr (subst (λ (z : Member). IsDoneWord s.counter z.word) (sym same) (done_word s.counter other.word e))
      | inr before ↦ inl before.1
    ]

no_watcher : (k : ℕ) {w : Watcher} → slice_get [] k ≡ Some w → ⊥
no_watcher k e = (cc)

-- where there is a watcher, a raise needs the delay scanned
delay_looked : (delay : Bool) (ws : List Watcher) (w : Watcher) → IsAmongWatchers ws w → (delay || eqb (length ws) 0) ≡ true → delay ≡ true
delay_looked true ws w is e = refl
delay_looked false [] w is e = absurd (no_watcher is.0 is.1)
delay_looked false (x ∷ ws) w is e = absurd (let none = eqb-true (length (x ∷ ws)) 0 e in omega (arith, none))

-- a scan of the delay that adds it found its count at 0
delay_adds : (s : Progress) (scans : Scans) (b : Bool) → eqb (delay_count s (delay_of (s.counter + 1))) 0 ≡ b → IsSound s → AddDelay (machine_of s) scans (if b then record scans { delay = true } else scans)
delay_adds s scans true e sound scanned = inr (free_delay (machine_of s) sound.invariant (eqb-true (delay_count s (delay_of (s.counter + 1))) 0 e))
delay_adds s scans false e sound scanned = inl scanned

-- ---- each event

pub led_sound : (s : Progress) → IsSound s → (k : ℕ) (t : Progress) → after s (Lead k) ≡ Some t → IsSound t
led_sound s sound k t e =
    let found = and_then_some _ _ t e in
    let a = found.0 in
    let made = cond_some _ _ t found.2 in
    let tests = and_parts (is_none s.leader) (is_value a.word) made.0 in
    let kept = lead_keeps (machine_of s) sound.invariant (λ x. slice_get (slice_set s.members k (leading a)) x.number ≡ Some x) a (becomes s sound k a (leading a) found.1 refl) (none_true s.leader tests.0) (is_value_true a.word tests.1) in
    let kept_k = subst (λ n. ProgressInvariant (machine_of (record (with_member s k (leading a)) { leader = Some n }))) (sound.numbered k a found.1) kept in
    subst IsSound made.1 (sound_with (led s k a) kept_k (still_numbered s sound k a (leading a) found.1 refl))

pub scanned_sound : (s : Progress) → IsSound s → (k j : ℕ) (t : Progress) → after s (Scan k j) ≡ Some t → IsSound t
scanned_sound s sound k j t e =
    let found = and_then_some _ _ t e in
    let a = found.0 in
    let leads = by_role_some a.role _ t found.2 in
    let awake = unless_some _ _ t leads.2 in
    let other = and_then_some _ _ t awake.1 in
    let scans = scan_of s.counter leads.0 j other.0.word in
    let made = some_same (with_member s k (leading_with scans a)) t other.2 in
    let known : scans.counter ≡ leads.0.counter = scan_knows s.counter leads.0 j other.0.word in
    subst IsSound made (member_sound s sound k a (leading_with scans a) found.1 refl (rescanned_fits (machine_of s) sound.invariant a (is_member s sound k a found.1) leads.0 scans leads.1 known (scan_adds s leads.0 j other.0 other.1 _ refl) (λ scanned. inl (scan_keeps_delay s.counter leads.0 j other.0.word scanned))))

pub delay_scanned_sound : (s : Progress) → IsSound s → (k : ℕ) (t : Progress) → after s (ScanDelay k) ≡ Some t → IsSound t
delay_scanned_sound s sound k t e =
    let found = and_then_some _ _ t e in
    let a = found.0 in
    let leads = by_role_some a.role _ t found.2 in
    let scans = delay_scan_of leads.0 (delay_count s (delay_of (s.counter + 1))) in
    let made = some_same (with_member s k (leading_with scans a)) t leads.2 in
    let same = delay_scan_keeps leads.0 (delay_count s (delay_of (s.counter + 1))) in
    subst IsSound made (member_sound s sound k a (leading_with scans a) found.1 refl (rescanned_fits (machine_of s) sound.invariant a (is_member s sound k a found.1) leads.0 scans leads.1 same.0 (λ y is scanned. inl (subst (λ (members : List Bool). slice_get members y.number ≡ Some true) same.1 scanned)) (delay_adds s leads.0 _ refl sound)))

pub advanced_sound : (s : Progress) → IsSound s → (k : ℕ) (t : Progress) → after s (Advance k) ≡ Some t → IsSound t
advanced_sound s sound k t e =
    let found = and_then_some _ _ t e in
    let a = found.0 in
    let leads = by_role_some a.role _ t found.2 in
    let made = cond_some _ _ t leads.2 in
    let both = and_parts _ (nat_lt s.counter LAST_VALUE) made.0 in
    let scanned = and_parts (have_scanned_all leads.0 s.members) (leads.0.delay || eqb (length s.watchers) 0) both.0 in
    let b = leading_with (no_scans (Some (s.counter + 1))) a in
    let all : (y : Member) → slice_get s.members y.number ≡ Some y → HasScanned a.role y.number =
    λ y is. subst (λ role. HasScanned role y.number) (sym leads.1) (some_true _ (list_all-at (λ member. has_scanned leads.0 member.number) s.members y.number y scanned.0 is)) in
    let looked : (w : Watcher) → IsWatcher (machine_of s) w → HasScannedDelay a.role =
    λ w is. subst HasScannedDelay (sym leads.1) (delay_looked leads.0.delay s.watchers w is scanned.1) in
    let kept = advance_keeps (machine_of s) sound.invariant (λ x. slice_get (slice_set s.members k b) x.number ≡ Some x) a (becomes s sound k a b found.1 refl) (subst IsLeading (sym leads.1) tt) all looked (ltb-true s.counter LAST_VALUE both.1) in
    subst IsSound made.1 (sound_with (advanced s k a) kept (still_numbered s sound k a b found.1 refl))

pub given_up_sound : (s : Progress) → IsSound s → (k : ℕ) (t : Progress) → after s (GiveUp k) ≡ Some t → IsSound t
given_up_sound s sound k t e =
    let found = and_then_some _ _ t e in
    let a = found.0 in
    let leads = by_role_some a.role _ t found.2 in
    let made = some_same (given_up s k a) t leads.2 in
    let kept = give_up_keeps (machine_of s) sound.invariant (λ x. slice_get (slice_set s.members k (following a)) x.number ≡ Some x) a (becomes s sound k a (following a) found.1 refl) (subst IsLeading (sym leads.1) tt) in
    subst IsSound made (sound_with (given_up s k a) kept (still_numbered s sound k a (following a) found.1 refl))
