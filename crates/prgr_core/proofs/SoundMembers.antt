-- The events of one member that change neither the leader nor the counter keep a state of lists sound.
use Rattle.std.proofs.lemmas.Bool.{eqb-false, eqb-true, ltb-true, and_parts}
use Rattle.std.proofs.Common.{◌≡◌, ℕ, ◌≤◌, true, Some, refl, sym, subst, arith, nat_lt}
use Rattle.std.specs.Prelude.{slice_get}
use Rattle.prgr_core.specs.declared.member.TheConstants.{WAITING, LAST_VALUE}
use Rattle.prgr_core.specs.declared.member.Member.{Member}
use Rattle.prgr_core.specs.declared.member.Role.{Role}
use Rattle.prgr_core.specs.declared.member.Role.TheVariants.{Follows, Leads}
use Rattle.prgr_core.specs.declared.member.Loaded.{Loaded}
use Rattle.prgr_core.specs.declared.member.Loaded.TheVariants.{CounterAndRoot}
use Rattle.prgr_core.specs.declared.progress.Progress.{Progress}
use Rattle.prgr_core.specs.declared.event.PrgrEvent.TheVariants.{LoadCounter, LoadRoot, Report, Wait, Enter}
use Rattle.prgr_core.specs.Members.{IsValue, HasLoaded, HasLoadedRoot, IsLeading, is_waiting, is_value, counter_loaded, root_loaded, confirmed, waiting, entering}
use Rattle.prgr_core.specs.Machine.{machine_of}
use Rattle.prgr_core.specs.Step.{with_member, after, IsSound, reported, follows}
use Rattle.prgr_core.proofs.MemberChanges.{counter_loaded_fits, root_loaded_fits, confirmed_fits, waiting_fits, entering_fits}
use Rattle.prgr_core.proofs.SoundParts.{is_member, member_sound}
use Rattle.prgr_core.proofs.Parts.{and_then_some, unless_made}
use Rattle.std.proofs.lemmas.Option.{cond_some}

-- ---- what the tests tell

pub is_value_true : (word : ℕ) → is_value word ≡ true → IsValue word
is_value_true word e = let both = and_parts (nat_lt 0 word) (nat_lt word WAITING) e in (ltb-true 0 word both.0, ltb-true word WAITING both.1)

follows_true : (role : Role) → follows role ≡ true → IsLeading role → ⊥
follows_true Follows e leads = leads
follows_true (Leads scans) e leads = absurd (cc)

reported_some : (s : Progress) (k : ℕ) (a : Member) (loaded : Loaded) (t : Progress) → reported s k a loaded ≡ Some t → (c : ℕ) × HasLoadedRoot loaded c × (with_member s k (confirmed c a) ≡ t)
reported_some s k a (CounterAndRoot c) t e = (c, refl, cc)
reported_some s k a loaded t e = absurd (cc)

-- ---- each event

pub counter_loaded_sound : (s : Progress) → IsSound s → (k : ℕ) (t : Progress) → after s (LoadCounter k) ≡ Some t → IsSound t
counter_loaded_sound s sound k t e =
    let found = and_then_some _ _ t e in
    let a = found.0 in
    let made = unless_made (is_waiting a.word) (with_member s k (counter_loaded s.counter a)) t found.2 in
    let is = is_member s sound k a found.1 in
    subst IsSound made.1 (member_sound s sound k a (counter_loaded s.counter a) found.1 refl (counter_loaded_fits (machine_of s) sound.invariant a is (eqb-false a.word WAITING made.0)))

pub root_loaded_sound : (s : Progress) → IsSound s → (k : ℕ) (t : Progress) → after s (LoadRoot k) ≡ Some t → IsSound t
root_loaded_sound s sound k t e =
    let found = and_then_some _ _ t e in
    let a = found.0 in
    let made = cond_some _ _ t found.2 in
    subst IsSound made.1 (member_sound s sound k a (root_loaded s.generation a) found.1 refl (root_loaded_fits (machine_of s) sound.invariant a (is_member s sound k a found.1)))

pub reported_sound : (s : Progress) → IsSound s → (k : ℕ) (t : Progress) → after s (Report k) ≡ Some t → IsSound t
reported_sound s sound k t e =
    let found = and_then_some _ _ t e in
    let a = found.0 in
    let made = reported_some s k a a.loaded t found.2 in
    subst IsSound made.2 (member_sound s sound k a (confirmed made.0 a) found.1 refl (confirmed_fits (machine_of s) sound.invariant a (is_member s sound k a found.1) made.0 made.1))

pub waiting_sound : (s : Progress) → IsSound s → (k : ℕ) (t : Progress) → after s (Wait k) ≡ Some t → IsSound t
waiting_sound s sound k t e =
    let found = and_then_some _ _ t e in
    let a = found.0 in
    let made = cond_some _ _ t found.2 in
    let tests = and_parts (is_value a.word) (follows a.role) made.0 in
    subst IsSound made.1 (member_sound s sound k a (waiting a) found.1 refl (waiting_fits (machine_of s) sound.invariant a (is_member s sound k a found.1) (follows_true a.role tests.1)))

pub entering_sound : (s : Progress) → IsSound s → (k : ℕ) (t : Progress) → after s (Enter k) ≡ Some t → IsSound t
entering_sound s sound k t e =
    let found = and_then_some _ _ t e in
    let a = found.0 in
    let made = cond_some _ _ t found.2 in
    subst IsSound made.1 (member_sound s sound k a (entering a) found.1 refl (entering_fits (machine_of s) sound.invariant a (is_member s sound k a found.1) (eqb-true a.word WAITING made.0)))

-- a counter that a member of a sound state has loaded is in range
pub loaded_in_range : (s : Progress) → IsSound s → (k : ℕ) (a : Member) → Some a ≡ slice_get s.members k → (c : ℕ) → a.loaded ≡ CounterAndRoot c → c ≤ LAST_VALUE
loaded_in_range s sound k a at c is =
    let loaded : HasLoaded a.loaded c = subst (λ l. HasLoaded l c) (sym is) refl in
    let near = sound.invariant.loads_near a (is_member s sound k a (sym at)) c loaded in
    let range = sound.invariant.counter_in_range in
    omega (arith, near, range)
