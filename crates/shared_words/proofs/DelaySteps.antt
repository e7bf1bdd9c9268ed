-- The steps on the delay counts keep the rule: a watcher raises or lowers one, and a leader looks at one.
use Rattle.std.proofs.Common.{◌≡◌, ℕ, zero, suc, ◌+◌, ◌-◌, ◌%◌, ◌^◌, ◌<◌, ◌≤◌, inl, Bool, true, cond, ◌&&◌, List, length, drop, set, get_or-set_other, get_or-set_same, refl, sym, ap, subst, ◌∙◌, arith}
use Rattle.std.proofs.lemmas.Bool.{and_from}
use Rattle.std.proofs.lemmas.List.Sums.{count_by-le-length}
use mathlib.Core.Option.{none, some}
use lib.ListN.{get_elem?}
use lib.Seq.{set-get_or}
use Rattle.std.specs.Prelude.{Some, None, slice_get, slice_index, ◌==◌}
use Rattle.std.specs.Option.{option_and_then}
use Rattle.atomic_table.specs.Table.{State, keeps, step, Allows}
use Rattle.prgr_core.specs.declared.member.Member as machines
use Rattle.prgr_core.specs.declared.member.Role.{Role}
use Rattle.prgr_core.specs.declared.member.Role.TheVariants.{Leads}
use Rattle.prgr_core.specs.declared.member.Scans.{Scans}
use Rattle.prgr_core.specs.declared.watcher.Delay.{Delay}
use Rattle.prgr_core.specs.declared.watcher.Delay.TheVariants.{Even, Odd}
use Rattle.prgr_core.specs.declared.watcher.Watcher as watching
use Rattle.prgr_core.specs.declared.watcher.TheConstants.{DELAY_COUNTS}
use Rattle.prgr_core.specs.declared.progress.Progress.{Progress}
use Rattle.prgr_core.specs.declared.event.PrgrEvent.{PrgrEvent}
use Rattle.prgr_core.specs.declared.event.PrgrEvent.TheVariants as prgr
use Rattle.prgr_core.specs.Members as members
use Rattle.prgr_core.specs.Watchers as watchers
use Rattle.prgr_core.specs.Watchers.{delay_of, delay_numbered, holders}
use Rattle.prgr_core.specs.Step.{after, with_member, with_watcher, with_delay_count, by_role, delay_count, delay_scan_of, raised, lowered}
use Rattle.prgr_core.proofs.Delays.{is_held}
use Rattle.area_core.specs.declared.table.Published.{Published}
use Rattle.shared_words.specs.declared.table.TheConstants.{COUNTER, LEAD, DELAYS, CONFIRMED}
use Rattle.shared_words.specs.declared.opening.Opening.{Opening}
use Rattle.shared_words.specs.declared.view.MemberView.{MemberView}
use Rattle.shared_words.specs.declared.view.WatcherView.{WatcherView}
use Rattle.shared_words.specs.declared.view.WriterView.{WriterView}
use Rattle.shared_words.specs.declared.view.View.{View}
use Rattle.shared_words.specs.declared.view.View.TheVariants.{Member, Watcher}
use Rattle.shared_words.specs.Shown.{progress_of, leader_in}
use Rattle.shared_words.specs.Seats.{member_of, watcher_of}
use Rattle.shared_words.specs.Kinds.{Sat, MayScanDelay, MayAddDelay, MayDropDelay, scans_of, known_counter, delay_looked, delay_scanned, with_delay, delay_raised, without_delay, delay_lowered}
use Rattle.shared_words.specs.Rule.{RunningRule}
use Rattle.shared_words.proofs.ShownMembers.{shown_at, there, watchers_length}
use Rattle.shared_words.proofs.SlotFrames.{goes_on}
use Rattle.shared_words.proofs.Frames.{after_step, same_rest, stored_front, progress_set, member_step}
use Rattle.shared_words.proofs.MemberStores.{seat_of}
use Rattle.shared_words.proofs.LeaderSteps.{still_knows}
use Rattle.shared_words.proofs.LeaderScans.{leads_with, knows_counter}
use Rattle.shared_words.proofs.WatcherFrames.{progress_watched, watcher_seat, watcher_here, watcher_step}

-- ---- the events

-- a delay counter goes by its number
numbered_so : (which : ℕ) → which < DELAY_COUNTS → delay_numbered which ≡ Some (delay_of which)
numbered_so zero few = refl
numbered_so (suc zero) few = refl
numbered_so (suc (suc n)) few = absurd (omega arith)

add_event : (p : Progress) (k which : ℕ) (a : watching.Watcher) → slice_get p.watchers k ≡ Some a → which < DELAY_COUNTS → watchers.may_add a.phase (delay_of which) ≡ true → after p (prgr.WatchAdd k which) ≡ Some (raised p k a (delay_of which))
add_event p k which a at few may =
    ap (option_and_then (λ (watcher : watching.Watcher). option_and_then (λ (delay : Delay). cond (watchers.may_add watcher.phase delay) (Some (raised p k watcher delay)) None) (delay_numbered which))) at
    ∙ ap (option_and_then (λ (delay : Delay). cond (watchers.may_add a.phase delay) (Some (raised p k a delay)) None)) (numbered_so which few)
    ∙ ap (λ (t : Bool). cond t (Some (raised p k a (delay_of which))) None) may

sub_event : (p : Progress) (k which : ℕ) (a : watching.Watcher) → slice_get p.watchers k ≡ Some a → which < DELAY_COUNTS → (watchers.may_leave a.phase && watchers.holds_delay (delay_of which) a) ≡ true → after p (prgr.WatchSub k which) ≡ Some (lowered p k a (delay_of which))
sub_event p k which a at few may =
    ap (option_and_then (λ (watcher : watching.Watcher). option_and_then (λ (delay : Delay). cond (watchers.may_leave watcher.phase && watchers.holds_delay delay watcher) (Some (lowered p k watcher delay)) None) (delay_numbered which))) at
    ∙ ap (option_and_then (λ (delay : Delay). cond (watchers.may_leave a.phase && watchers.holds_delay delay a) (Some (lowered p k a delay)) None)) (numbered_so which few)
    ∙ ap (λ (t : Bool). cond t (Some (lowered p k a (delay_of which))) None) may

look_event : (p : Progress) (k : ℕ) (a : machines.Member) (scans : Scans) → slice_get p.members k ≡ Some a → a.role ≡ Leads scans → after p (prgr.ScanDelay k) ≡ Some (with_member p k (members.leading_with (delay_scan_of scans (delay_count p (delay_of (p.counter + 1)))) a))
look_event p k a scans at is =
    ap (option_and_then (λ (member : machines.Member). by_role member.role (λ (sc : Scans). Some (with_member p k (members.leading_with (delay_scan_of sc (delay_count p (delay_of (p.counter + 1)))) member))))) at
    ∙ ap (λ (role : Role). by_role role (λ (sc : Scans). Some (with_member p k (members.leading_with (delay_scan_of sc (delay_count p (delay_of (p.counter + 1)))) a)))) is

-- ---- the words

-- the word of a delay count is that count
count_at : (words : List ℕ) (w : WriterView) (seats : List View) (which : ℕ) → which < DELAY_COUNTS → delay_count (progress_of words w seats) (delay_of which) ≡ slice_index words (DELAYS + which)
count_at words w seats zero few = refl
count_at words w seats (suc zero) few = refl
count_at words w seats (suc (suc n)) few = absurd (omega arith)

-- the state of the machine with another delay count
progress_delay : (words : List ℕ) (w : WriterView) (seats : List View) (which x : ℕ) → which < DELAY_COUNTS → CONFIRMED ≤ length words → progress_of (set words (DELAYS + which) x) w seats ≡ with_delay_count (progress_of words w seats) (delay_of which) x
progress_delay words w seats zero x few long = λ i. record (progress_of words w seats) {
  counter = get_or-set_other words DELAYS COUNTER x 0 (λ e. absurd (omega arith)) i;
  leader = leader_in (get_or-set_other words DELAYS LEAD x 0 (λ e. absurd (omega arith)) i);
  delay_even = get_or-set_same words DELAYS x 0 (omega (arith, long)) i;
  delay_odd = get_or-set_other words DELAYS (DELAYS + 1) x 0 (λ e. absurd (omega arith)) i;
}
progress_delay words w seats (suc zero) x few long = λ i. record (progress_of words w seats) {
  counter = get_or-set_other words (DELAYS + 1) COUNTER x 0 (λ e. absurd (omega arith)) i;
  leader = leader_in (get_or-set_other words (DELAYS + 1) LEAD x 0 (λ e. absurd (omega arith)) i);
  delay_even = get_or-set_other words (DELAYS + 1) DELAYS x 0 (λ e. absurd (omega arith)) i;
  delay_odd = get_or-set_same words (DELAYS + 1) x 0 (omega (arith, long)) i;
}
progress_delay words w seats (suc (suc n)) x few long = absurd (omega arith)

-- the delay count of a value goes by the rest of the value by 2
parity : (value which : ℕ) → which ≡ value % 2 → delay_of value ≡ delay_of which
parity value which is = let rest : value % 2 ≡ which % 2 = omega (arith, is) in ap (λ (n : ℕ). cond (n == 0) Even Odd) rest

module _ {Served : Published → Type 0} {opening : Opening} (s : State (Unit {0}) View) (r : RunningRule Served opening s) where
  -- the state of the machine
  abbrev p : Progress
  p = progress_of s.words r.writer r.seats

  -- no more watchers hold a count than were made
  few_hold : (delay : Delay) → delay_count p delay ≤ opening.watchers
  few_hold delay =
      let counted : delay_count p delay ≡ holders delay p.watchers = r.machine.progress.invariant.delays_counted delay in
      let most : holders delay p.watchers ≤ length p.watchers = count_by-le-length (watchers.holds_delay delay) p.watchers in
      let made : length p.watchers ≡ opening.watchers = watchers_length r.writer.watchers (drop (length r.writer.members) r.seats) ∙ r.published.watched in
      omega (arith, counted, most, made)

  -- and not more than the machine has at most
  most_hold : (delay : Delay) → delay_count p delay ≤ 4
  most_hold delay =
      let counted : delay_count p delay ≡ holders delay p.watchers = r.machine.progress.invariant.delays_counted delay in
      let most : holders delay p.watchers ≤ length p.watchers = count_by-le-length (watchers.holds_delay delay) p.watchers in
      let few = r.machine.progress.watchers_few in
      omega (arith, counted, most, few)

  -- ---- by a watcher

  module _ (which place : ℕ) (v : WatcherView) (few : which < DELAY_COUNTS) (at : get_elem? r.seats place ≡ some (Watcher v)) where
    -- a store of a delay count, which is an event of the watcher
    delay_store : (x : ℕ) (a : watching.Watcher) (event : PrgrEvent) → a.number ≡ v.watcher.number → after p event ≡ Some (with_delay_count (with_watcher p v.watcher.number a) (delay_of which) x)
        → RunningRule Served opening (after_step s (set s.words (DELAYS + which) x) (suc place) (Watcher (record v { watcher = a })))
    delay_store x a event number made =
        let knows = r.each_seat place (Watcher v) at in
        let size = r.words.all in
        let v' : WatcherView = record v { watcher = a } in
        let words' : List ℕ = set s.words (DELAYS + which) x in
        let watched = progress_watched words' r.writer r.seats place v.watcher.number v' knows.numbered knows.made (there r.seats place (Watcher v) at) in
        let counted = progress_delay s.words r.writer r.seats which x few (omega (arith, size)) in
        watcher_step s r words' place v' (record {
          rest = stored_front s.words (DELAYS + which) x (omega arith) (omega (arith, few)) (omega (arith, few, size)) (λ e. absurd (omega arith));
          knows = record {
            numbered = subst (λ (n : ℕ). length r.writer.members + n ≡ place) (sym number) knows.numbered;
            made = subst (λ (n : ℕ). n < length r.writer.watchers) (sym number) knows.made;
            seen = knows.seen;
            words = knows.words;
          };
          moves = inl (event, made ∙ ap (λ (q : Progress). Some q) (sym (watched ∙ ap (λ (q : Progress). with_watcher q v.watcher.number a) counted)));
          members = λ j. get_or-set_other s.words (DELAYS + which) (CONFIRMED + j) x 0 (λ e. absurd (omega (arith, few)));
          leader = get_or-set_other s.words (DELAYS + which) LEAD x 0 (λ e. absurd (omega arith));
        })

    adds : MayAddDelay which v → RunningRule Served opening (after_step s (set s.words (DELAYS + which) (slice_index s.words (DELAYS + which) + 1)) (suc place) (Watcher (with_delay which v)))
    adds may =
        let a = v.watcher in
        delay_store (slice_index s.words (DELAYS + which) + 1) (watchers.delay_added (delay_of which) a) (prgr.WatchAdd a.number which) refl
        (add_event p a.number which a (watcher_here s r place v at) few may.may
        ∙ ap (λ (n : ℕ). Some (with_delay_count (with_watcher p a.number (watchers.delay_added (delay_of which) a)) (delay_of which) (n + 1))) (count_at s.words r.writer r.seats which few))

    drops : MayDropDelay which v → RunningRule Served opening (after_step s (set s.words (DELAYS + which) (slice_index s.words (DELAYS + which) - 1)) (suc place) (Watcher (without_delay which v)))
    drops may =
        let a = v.watcher in
        delay_store (slice_index s.words (DELAYS + which) - 1) (watchers.delay_dropped (delay_of which) a) (prgr.WatchSub a.number which) refl
        (sub_event p a.number which a (watcher_here s r place v at) few (and_from (watchers.may_leave a.phase) (watchers.holds_delay (delay_of which) a) may.leaves may.holds)
        ∙ ap (λ (n : ℕ). Some (with_delay_count (with_watcher p a.number (watchers.delay_dropped (delay_of which) a)) (delay_of which) (n - 1))) (count_at s.words r.writer r.seats which few))

    -- what it holds is counted
    one_holds : MayDropDelay which v → 1 ≤ slice_index s.words (DELAYS + which)
    one_holds may =
        let counted : delay_count p (delay_of which) ≡ holders (delay_of which) p.watchers = r.machine.progress.invariant.delays_counted (delay_of which) in
        let one : 1 ≤ holders (delay_of which) p.watchers = is_held (delay_of which) p.watchers v.watcher.number v.watcher (watcher_here s r place v at) may.holds in
        omega (arith, counted, one, count_at s.words r.writer r.seats which few)

  -- ---- by the leader

  looks : (which k : ℕ) (m : MemberView) → get_elem? r.seats k ≡ some (Member m) → MayScanDelay which m → RunningRule Served opening (after_step s s.words (suc k) (Member (delay_looked which (slice_index s.words (DELAYS + which)) m)))
  looks which k m here may =
      let knows = r.each_seat k (Member m) here in
      let shown = shown_at r.writer.members r.seats k m knows.made here in
      let scans = scans_of m.member.role in
      let found = slice_index s.words (DELAYS + which) in
      let m' = delay_looked which found m in
      let known : known_counter m ≡ p.counter = knows_counter s r k m here may.leader in
      let few : which < DELAY_COUNTS = (let is = may.is in omega (arith, is)) in
      let same : which ≡ (p.counter + 1) % 2 = may.is ∙ ap (λ (n : ℕ). (n + 1) % 2) known in
      let word : delay_count p (delay_of (p.counter + 1)) ≡ found = ap (delay_count p) (parity (p.counter + 1) which same) ∙ count_at s.words r.writer r.seats which few in
      member_step s r s.words k m m' here (record {
        rest = same_rest s.words;
        knows = still_knows r.writer k m m'.member m'.found refl refl knows;
        moves = inl (
          prgr.ScanDelay k,
          look_event p k m.member scans shown (leads_with m.member.role may.leader.leads)
              ∙ ap (λ (n : ℕ). Some (with_member p k (members.leading_with (delay_scan_of scans n) m.member))) word
              ∙ ap (λ (q : Progress). Some q) (sym (progress_set s.words r.writer r.seats k m' knows.made (there r.seats k (Member m) here))),
        );
        own = r.machine.own_words k m.member shown;
        others = λ j apart. refl;
        leader = r.machine.leader_made;
        slots = goes_on r.writer m m'.member m'.found refl refl;
      })

-- a watcher may raise a delay count
pub add_delay_is_allowed : (Served : Published → Type 0) (opening : Opening) (slots id which : ℕ) (me : Sat) → me.0 ≡ Watcher (watcher_of me.0) → MayAddDelay which (watcher_of me.0)
    → Allows (RunningRule Served opening) slots id me (DELAYS + which) (λ n. (n + 1) % 2 ^ 64) (delay_raised (step slots (DELAYS + which) 1 0 none) me)
add_delay_is_allowed Served opening slots id which me is may s r wide at fits =
    let v = watcher_of me.0 in
    let seat = watcher_seat s r id v (at ∙ ap some is) in
    let n = slice_index s.words (DELAYS + which) in
    let most = most_hold s r (delay_of which) in
    let sum : (n + 1) % 2 ^ 64 ≡ n + 1 = omega (arith, most, count_at s.words r.writer r.seats which may.there) in
    let back : DELAYS + which - DELAYS ≡ which = omega arith in (
      Watcher (with_delay (DELAYS + which - DELAYS) v),
      keeps,
      tt,
      subst (λ (z : ℕ × (ℕ × ℕ)). RunningRule Served opening (after_step s (set s.words (DELAYS + which) z.0) z.1.0 (Watcher (with_delay z.1.1 v)))) (λ i. (sym sum i, (sym seat.1 i, sym back i))) (adds s r which seat.0 v may.there seat.2 may),
      refl,
    )

-- and lower one that it holds
pub sub_delay_is_allowed : (Served : Published → Type 0) (opening : Opening) (slots id which : ℕ) (me : Sat) → me.0 ≡ Watcher (watcher_of me.0) → MayDropDelay which (watcher_of me.0)
    → Allows (RunningRule Served opening) slots id me (DELAYS + which) (λ n. (n + (2 ^ 64 - 1)) % 2 ^ 64) (delay_lowered (step slots (DELAYS + which) 1 0 none) me)
sub_delay_is_allowed Served opening slots id which me is may s r wide at fits =
    let v = watcher_of me.0 in
    let seat = watcher_seat s r id v (at ∙ ap some is) in
    let n = slice_index s.words (DELAYS + which) in
    let most = most_hold s r (delay_of which) in
    let one = one_holds s r which seat.0 v may.there seat.2 may in
    let rest : (n + (2 ^ 64 - 1)) % 2 ^ 64 ≡ n - 1 = omega (arith, most, one, count_at s.words r.writer r.seats which may.there) in
    let back : DELAYS + which - DELAYS ≡ which = omega arith in (
      Watcher (without_delay (DELAYS + which - DELAYS) v),
      keeps,
      tt,
      subst (λ (z : ℕ × (ℕ × ℕ)). RunningRule Served opening (after_step s (set s.words (DELAYS + which) z.0) z.1.0 (Watcher (without_delay z.1.1 v)))) (λ i. (sym rest i, (sym seat.1 i, sym back i))) (drops s r which seat.0 v may.there seat.2 may),
      refl,
    )

-- a leader may look at the delay count of the value after the counter
pub load_delay_is_allowed : (Served : Published → Type 0) (opening : Opening) (slots id which made : ℕ) (me : Sat) → made ≡ opening.watchers → me.0 ≡ Member (member_of me.0) → MayScanDelay which (member_of me.0)
    → Allows (RunningRule Served opening) slots id me (DELAYS + which) (λ n. n) (delay_scanned made (step slots (DELAYS + which) 0 0 none) me)
load_delay_is_allowed Served opening slots id which made me picked is may s r wide at fits =
    let m = member_of me.0 in
    let seat = seat_of s r id m (at ∙ ap some is) in
    let found = slice_index s.words (DELAYS + which) in
    let few : which < DELAY_COUNTS = (let same = may.is in omega (arith, same)) in
    let most = few_hold s r (delay_of which) in
    let back : DELAYS + which - DELAYS ≡ which = omega arith in (
      Member (delay_looked (DELAYS + which - DELAYS) found m),
      keeps,
      tt,
      subst (λ (z : List ℕ × (ℕ × ℕ)). RunningRule Served opening (after_step s z.0 z.1.0 (Member (delay_looked z.1.1 found m)))) (λ i. (sym (set-get_or s.words (DELAYS + which) 0) i, (sym seat.1 i, sym back i))) (looks s r which seat.0 m seat.2 may),
      record { few = omega (arith, most, picked, count_at s.words r.writer r.seats which few); view = refl },
    )
