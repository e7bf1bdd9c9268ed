-- A leader's look at a member's word keeps the rule, and so does the raise of the counter.
use Rattle.std.proofs.Common.{◌≡◌, ℕ, suc, ◌+◌, ◌-◌, ◌%◌, ◌^◌, ◌<◌, ◌≤◌, inl, Bool, true, false, cond, ◌&&◌, ◌||◌, List, length, drop, set, get_or-set_other, get_or-set_same, refl, sym, ap, subst, ◌∙◌, arith, ne_eqb}
use mathlib.Core.Option.{none, some}
use mathlib.Core.Logic.{dite}
use native.Mathlib.Decide.{ℕ_discrete}
use lib.ListN.{get_elem?}
use lib.Seq.{set-get_or}
use Rattle.std.specs.Prelude.{Some, None, slice_get, slice_index, unwrap_or, nat_lt, IsTrue, ◌==◌}
use Rattle.std.specs.Option.{option_and_then}
use Rattle.std.proofs.lemmas.Bool.{lt-ltb, eqb-false}
use Rattle.atomic_table.specs.Table.{State, keeps, step, Allows}
use Rattle.prgr_core.specs.declared.member.TheConstants.{WAITING, LAST_VALUE}
use Rattle.prgr_core.specs.declared.member.Member as machines
use Rattle.prgr_core.specs.declared.member.Role.{Role}
use Rattle.prgr_core.specs.declared.member.Role.TheVariants.{Follows, Leads}
use Rattle.prgr_core.specs.declared.member.Scans.{Scans}
use Rattle.prgr_core.specs.declared.progress.Progress.{Progress}
use Rattle.prgr_core.specs.declared.event.PrgrEvent.TheVariants as prgr
use Rattle.prgr_core.specs.Members as members
use Rattle.prgr_core.specs.Members.{IsLeading}
use Rattle.prgr_core.specs.Step.{after, with_member, by_role, scan_of, scan_of_other, may_advance, advanced, opening_member}
use Rattle.prgr_core.proofs.SoundParts.{is_member}
use Rattle.area_core.specs.declared.table.Published.{Published}
use Rattle.area_core.proofs.Tests.{all_pass}
use Rattle.shared_words.specs.declared.table.TheConstants.{COUNTER, LEAD, CONFIRMED}
use Rattle.shared_words.specs.declared.opening.Opening.{Opening}
use Rattle.shared_words.specs.declared.view.MemberView.{MemberView}
use Rattle.shared_words.specs.declared.view.View.{View}
use Rattle.shared_words.specs.declared.view.View.TheVariants.{Member}
use Rattle.shared_words.specs.Shown.{progress_of}
use Rattle.shared_words.specs.Seats.{member_of}
use Rattle.shared_words.specs.Kinds.{Sat, KnowsAsLeader, MayScan, MayRaise, scans_of, known_counter, word_scanned, scanned, counter_raised, raised}
use Rattle.shared_words.specs.Rule.{RunningRule}
use Rattle.shared_words.proofs.ShownMembers.{shown_at, shown_length, there, there_is, within_get, watchers_length}
use Rattle.shared_words.proofs.SlotFrames.{goes_on}
use Rattle.shared_words.proofs.Frames.{after_step, same_rest, progress_set, member_step}
use Rattle.shared_words.proofs.MemberStores.{seat_of}
use Rattle.shared_words.proofs.LeaderSteps.{still_knows, machine_store}

-- ---- the events

-- a leader's role has its scans
pub leads_with : (role : Role) → IsLeading role → role ≡ Leads (scans_of role)
leads_with Follows leads = absurd leads
leads_with (Leads scans) leads = refl

scan_event : (p : Progress) (k j : ℕ) (a o : machines.Member) (scans : Scans) → slice_get p.members k ≡ Some a → slice_get p.members j ≡ Some o → a.role ≡ Leads scans → members.is_waiting a.word ≡ false
    → after p (prgr.Scan k j) ≡ Some (with_member p k (members.leading_with (scan_of p.counter scans j o.word) a))
scan_event p k j a o scans at other is awake =
    ap (option_and_then (λ (member : machines.Member). by_role member.role (λ (sc : Scans). cond (members.is_waiting member.word) None (scan_of_other p k member sc j)))) at
    ∙ ap (λ (role : Role). by_role role (λ (sc : Scans). cond (members.is_waiting a.word) None (scan_of_other p k a sc j))) is
    ∙ ap (λ (t : Bool). cond t None (scan_of_other p k a scans j)) awake
    ∙ ap (option_and_then (λ (x : machines.Member). Some (with_member p k (members.leading_with (scan_of p.counter scans j x.word) a)))) other

advance_event : (p : Progress) (k : ℕ) (a : machines.Member) (scans : Scans) → slice_get p.members k ≡ Some a → a.role ≡ Leads scans → may_advance p scans ≡ true → after p (prgr.Advance k) ≡ Some (advanced p k a)
advance_event p k a scans at is may =
    ap (option_and_then (λ (member : machines.Member). by_role member.role (λ (sc : Scans). cond (may_advance p sc) (Some (advanced p k member)) None))) at
    ∙ ap (λ (role : Role). by_role role (λ (sc : Scans). cond (may_advance p sc) (Some (advanced p k a)) None)) is
    ∙ ap (λ (t : Bool). cond t (Some (advanced p k a)) None) may

module _ {Served : Published → Type 0} {opening : Opening} (s : State (Unit {0}) View) (r : RunningRule Served opening s) where
  -- the state of the machine
  abbrev p : Progress
  p = progress_of s.words r.writer r.seats

  module _ (k : ℕ) (m : MemberView) (here : get_elem? r.seats k ≡ some (Member m)) (leader : KnowsAsLeader m) where
    shown : slice_get p.members k ≡ Some m.member
    shown = shown_at r.writer.members r.seats k m (r.each_seat k (Member m) here).made here

    among : slice_get p.members m.member.number ≡ Some m.member
    among = is_member p r.machine.progress k m.member shown

    -- what it knows is the counter
    pub knows_counter : known_counter m ≡ slice_index s.words COUNTER
    knows_counter = r.machine.progress.invariant.leader_knows m.member among (known_counter m) leader.knows

    -- it does not wait
    awake : members.is_waiting m.member.word ≡ false
    awake = let value = r.machine.progress.invariant.leader_awake m.member among leader.leads in ne_eqb m.member.word WAITING (λ e. absurd (omega arith))

    scans_word : (j : ℕ) → j < opening.members → RunningRule Served opening (after_step s s.words (suc k) (Member (word_scanned j (slice_index s.words (CONFIRMED + j)) m)))
    scans_word j few =
        let knows = r.each_seat k (Member m) here in
        let made = r.published.made in
        let o = unwrap_or (slice_get p.members j) (opening_member 0) in
        let other : slice_get p.members j ≡ Some o = there_is p.members j (opening_member 0) (omega (arith, shown_length r.writer.members r.seats)) in
        let word : slice_index s.words (CONFIRMED + j) ≡ o.word = r.machine.own_words j o other in
        let scans = scans_of m.member.role in
        let m' = word_scanned j (slice_index s.words (CONFIRMED + j)) m in
        let event = scan_event p k j m.member o scans shown other (leads_with m.member.role leader.leads) awake in
        member_step s r s.words k m m' here (record {
          rest = same_rest s.words;
          knows = still_knows r.writer k m m'.member m'.found refl refl knows;
          moves = inl (
            prgr.Scan k j,
            event
                ∙ ap (λ (z : ℕ × ℕ). Some (with_member p k (members.leading_with (scan_of z.0 scans j z.1) m.member))) (λ i. (sym knows_counter i, sym word i))
                ∙ ap (λ (q : Progress). Some q) (sym (progress_set s.words r.writer r.seats k m' knows.made (there r.seats k (Member m) here))),
          );
          own = r.machine.own_words k m.member shown;
          others = λ x apart. refl;
          leader = r.machine.leader_made;
          slots = goes_on r.writer m m'.member m'.found refl refl;
        })

    -- the word of a member is at most the value after the counter, unless it waits
    word_near : (j : ℕ) → j < opening.members → members.is_waiting (slice_index s.words (CONFIRMED + j)) ≡ false → slice_index s.words (CONFIRMED + j) ≤ known_counter m + 1
    word_near j few apart =
        let made = r.published.made in
        let o = unwrap_or (slice_get p.members j) (opening_member 0) in
        let other : slice_get p.members j ≡ Some o = there_is p.members j (opening_member 0) (omega (arith, shown_length r.writer.members r.seats)) in
        let word : slice_index s.words (CONFIRMED + j) ≡ o.word = r.machine.own_words j o other in
        let among = is_member p r.machine.progress j o other in
        let fits = r.machine.progress.invariant.words_fit o among in
        let awake : o.word ≡ WAITING → ⊥ = λ e. eqb-false _ _ apart (word ∙ e) in
        dite (ℕ_discrete o.word 0)
        (λ (enters : o.word ≡ 0). omega arith)
        (λ (other_word : o.word ≡ 0 → ⊥).
        let near = r.machine.progress.invariant.words_near o among (omega (arith, other_word), omega (arith, awake)) in
        omega (arith, knows_counter))

    -- each member is scanned
    all_scanned : (scans : Scans) → ((j : ℕ) → j < opening.members → IsTrue (members.has_scanned scans j)) → members.have_scanned_all scans p.members ≡ true
    all_scanned scans each = all_pass (λ (x : machines.Member). members.has_scanned scans x.number) p.members (λ i x at.
        let made = r.published.made in
        let within = within_get p.members i x at in
        subst (λ (n : ℕ). members.has_scanned scans n ≡ true) (sym (r.machine.progress.numbered i x at)) (each i (omega (arith, shown_length r.writer.members r.seats))))

    raises : MayRaise opening m → RunningRule Served opening (after_step s (set s.words COUNTER (slice_index s.words COUNTER + 1)) (suc k) (Member (counter_raised m)))
    raises may =
        let n = slice_index s.words COUNTER in
        let size = r.words.all in
        let scans = scans_of m.member.role in
        let all = all_scanned scans may.all in
        let watched : length p.watchers ≡ opening.watchers = watchers_length r.writer.watchers (drop (length r.writer.members) r.seats) ∙ r.published.watched in
        let delay : (scans.delay || (length p.watchers == 0)) ≡ true = ap (λ (x : ℕ). scans.delay || (x == 0)) watched ∙ may.delay in
        let below : nat_lt n LAST_VALUE ≡ true = lt-ltb n LAST_VALUE (subst (λ (x : ℕ). x < LAST_VALUE) knows_counter may.below) in
        let may_now : may_advance p scans ≡ true = λ i. all i && delay i && below i in
        let event = advance_event p k m.member scans shown (leads_with m.member.role leader.leads) may_now in
        machine_store s r COUNTER (n + 1) (omega arith) (omega arith) (λ e. omega arith) (n + 1) (slice_index s.words LEAD)
        (get_or-set_same s.words COUNTER (n + 1) 0 (omega arith)) (get_or-set_other s.words COUNTER LEAD (n + 1) 0 (λ e. absurd (omega arith))) r.machine.leader_made
        k m (members.leading_with (members.no_scans (Some (known_counter m + 1))) m.member) m.found (prgr.Advance k) here refl refl refl
        (event ∙ ap (λ (c : ℕ). Some (record (with_member p k (members.leading_with (members.no_scans (Some (c + 1))) m.member)) { counter = n + 1 })) (sym knows_counter))

-- a leader may look at the word of each member
pub load_confirmed_is_allowed : (Served : Published → Type 0) (opening : Opening) (slots id other : ℕ) (me : Sat) → me.0 ≡ Member (member_of me.0) → MayScan opening other (member_of me.0)
    → Allows (RunningRule Served opening) slots id me (CONFIRMED + other) (λ n. n) (scanned (step slots (CONFIRMED + other) 0 0 none) me)
load_confirmed_is_allowed Served opening slots id other me is may s r wide at fits =
    let m = member_of me.0 in
    let seat = seat_of s r id m (at ∙ ap some is) in
    let found = slice_index s.words (CONFIRMED + other) in
    let back : CONFIRMED + other - CONFIRMED ≡ other = omega arith in (
      Member (word_scanned (CONFIRMED + other - CONFIRMED) found m),
      keeps,
      tt,
      subst (λ (z : List ℕ × (ℕ × ℕ)). RunningRule Served opening (after_step s z.0 z.1.0 (Member (word_scanned z.1.1 found m)))) (λ i. (sym (set-get_or s.words (CONFIRMED + other) 0) i, (sym seat.1 i, sym back i))) (scans_word s r seat.0 m seat.2 may.leader other may.there),
      record { near = word_near s r seat.0 m seat.2 may.leader other may.there; view = refl },
    )

-- a leader that has scanned all may raise the counter
pub store_counter_is_allowed : (Served : Published → Type 0) (opening : Opening) (slots id : ℕ) (me : Sat) → me.0 ≡ Member (member_of me.0) → MayRaise opening (member_of me.0)
    → Allows (RunningRule Served opening) slots id me COUNTER (λ n. (n + 1) % 2 ^ 64) (raised (step slots COUNTER 1 0 none) me)
store_counter_is_allowed Served opening slots id me is may s r wide at fits =
    let m = member_of me.0 in
    let seat = seat_of s r id m (at ∙ ap some is) in
    let n = slice_index s.words COUNTER in
    let known : known_counter m ≡ n = knows_counter s r seat.0 m seat.2 may.leader in
    let below = may.below in
    let sum : (n + 1) % 2 ^ 64 ≡ n + 1 = omega arith in (
      Member (counter_raised m),
      keeps,
      tt,
      subst (λ (z : ℕ × ℕ). RunningRule Served opening (after_step s (set s.words COUNTER z.0) z.1 (Member (counter_raised m)))) (λ i. (sym sum i, sym seat.1 i)) (raises s r seat.0 m seat.2 may.leader may),
      refl,
    )
