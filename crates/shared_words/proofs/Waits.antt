-- The stores by which a member begins and ends to wait keep the rule.
use Rattle.std.proofs.Common.{◌≡◌, ℕ, ◌+◌, set, refl, sym, ap, subst, ◌∙◌}
use mathlib.Core.Option.{none, some}
use Rattle.std.specs.Prelude.{Some, slice_get}
use Rattle.std.specs.Option.{option_and_then}
use Rattle.std.proofs.Common.{Bool, true, false, cond, ◌&&◌, None, arith}
use Rattle.std.proofs.lemmas.Bool.{eqb-true}
use Rattle.atomic_table.specs.Table.{keeps, step, Allows}
use Rattle.prgr_core.specs.declared.member.TheConstants.{WAITING, ENTERING}
use Rattle.prgr_core.specs.declared.member.Member as machines
use Rattle.prgr_core.specs.declared.member.Loaded.TheVariants.{Nothing}
use Rattle.prgr_core.specs.declared.progress.Progress.{Progress}
use Rattle.prgr_core.specs.declared.event.PrgrEvent.TheVariants as prgr
use Rattle.prgr_core.specs.Members as members
use Rattle.prgr_core.specs.Step.{after, with_member, follows}
use Rattle.area_core.specs.declared.table.Published.{Published}
use Rattle.shared_words.specs.declared.table.TheConstants.{CONFIRMED}
use Rattle.shared_words.specs.declared.opening.Opening.{Opening}
use Rattle.shared_words.specs.declared.view.MemberView.{MemberView}
use Rattle.shared_words.specs.declared.view.WriterView.{WriterView}
use Rattle.shared_words.specs.declared.view.View.TheVariants.{Member}
use Rattle.shared_words.specs.Shown.{progress_of}
use Rattle.shared_words.specs.Seats.{member_of}
use Rattle.shared_words.specs.Kinds.{Sat, MayWait, MayEnter, now_waiting, now_entering, waiting_stored, entering_stored}
use Rattle.shared_words.specs.Rule.{RunningRule}
use Rattle.shared_words.proofs.ShownMembers.{shown_at}
use Rattle.marks.proofs.MemberSteps.{known_at_rest}
use Rattle.shared_words.specs.Processes.{process_of, under_of, AreAtRest}
use Rattle.shared_words.proofs.SlotFrames.{SlotsGoOn, rests}
use Rattle.shared_words.proofs.Frames.{after_step}
use Rattle.shared_words.proofs.MemberStores.{seat_of, own_store}

waiting_event : (p : Progress) (k : ℕ) (a : machines.Member) → slice_get p.members k ≡ Some a → members.is_value a.word ≡ true → follows a.role ≡ true → after p (prgr.Wait k) ≡ Some (with_member p k (members.waiting a))
waiting_event p k a at awake apart =
    let both : (members.is_value a.word && follows a.role) ≡ true = λ i. awake i && apart i in
    ap (option_and_then (λ (member : machines.Member). cond (members.is_value member.word && follows member.role) (Some (with_member p k (members.waiting member))) None)) at
    ∙ ap (λ (t : Bool). cond t (Some (with_member p k (members.waiting a))) None) both

entering_event : (p : Progress) (k : ℕ) (a : machines.Member) → slice_get p.members k ≡ Some a → members.is_waiting a.word ≡ true → after p (prgr.Enter k) ≡ Some (with_member p k (members.entering a))
entering_event p k a at waits =
    ap (option_and_then (λ (member : machines.Member). cond (members.is_waiting member.word) (Some (with_member p k (members.entering member))) None)) at
    ∙ ap (λ (t : Bool). cond t (Some (with_member p k (members.entering a))) None) waits

-- ---- what is known of its processes

-- a member whose processes are at rest may change its word
now_rests : (w : WriterView) (m : MemberView) (word : ℕ) → AreAtRest m → SlotsGoOn w m (record m { member = record m.member { word = word; loaded = Nothing } })
now_rests w m word rest = record {
  slots = refl;
  known = λ process h. known_at_rest (under_of m) (under_of (record m { member = record m.member { word = word; loaded = Nothing } })) process (process_of m process) w.looks h (rest process) (omega arith);
}

-- so may one that is not awake
sleeps_on : (w : WriterView) (m : MemberView) (word : ℕ) → members.is_value m.member.word ≡ false → SlotsGoOn w m (record m { member = record m.member { word = word; loaded = Nothing } })
sleeps_on w m word asleep = record {
  slots = refl;
  known = λ process h. known_at_rest (under_of m) (under_of (record m { member = record m.member { word = word; loaded = Nothing } })) process (process_of m process) w.looks h (rests (under_of m) process (process_of m process) w.looks asleep h) (omega arith);
}

-- as is one that waits
waits_asleep : (word : ℕ) → members.is_waiting word ≡ true → members.is_value word ≡ false
waits_asleep word waits = ap members.is_value (eqb-true word WAITING waits)

-- ---- the stores

-- a member may begin to wait
pub store_waiting_is_allowed : (Served : Published → Type 0) (opening : Opening) (slots id number : ℕ) (me : Sat) → me.0 ≡ Member (member_of me.0) → (member_of me.0).member.number ≡ number → MayWait (member_of me.0)
    → Allows (RunningRule Served opening) slots id me (CONFIRMED + number) (λ _. WAITING) (λ _. waiting_stored (step slots (CONFIRMED + number) WAITING 0 none) me WAITING)
store_waiting_is_allowed Served opening slots id number me is numbered may s r wide at fits =
    let m = member_of me.0 in
    let seat = seat_of s r id m (at ∙ ap some is) in
    let k = seat.0 in
    let knows = r.each_seat k (Member m) seat.2 in
    let place : number ≡ k = sym numbered ∙ knows.numbered in
    let stored = own_store s r k WAITING m (now_waiting m) (prgr.Wait k) seat.2 refl refl refl refl refl refl (now_rests r.writer m WAITING may.rest)
    (waiting_event (progress_of s.words r.writer r.seats) k m.member (shown_at r.writer.members r.seats k m knows.made seat.2) may.awake may.follows) in (
      Member (now_waiting m),
      keeps,
      tt,
      subst (λ (z : ℕ × ℕ). RunningRule Served opening (after_step s (set s.words (CONFIRMED + z.0) WAITING) z.1 (Member (now_waiting m)))) (λ i. (sym place i, sym seat.1 i)) stored,
      refl,
    )

-- a member that waits may end its wait
pub store_entering_is_allowed : (Served : Published → Type 0) (opening : Opening) (slots id number : ℕ) (me : Sat) → me.0 ≡ Member (member_of me.0) → (member_of me.0).member.number ≡ number → MayEnter (member_of me.0)
    → Allows (RunningRule Served opening) slots id me (CONFIRMED + number) (λ _. ENTERING) (λ _. entering_stored (step slots (CONFIRMED + number) ENTERING 0 none) me ENTERING)
store_entering_is_allowed Served opening slots id number me is numbered may s r wide at fits =
    let m = member_of me.0 in
    let seat = seat_of s r id m (at ∙ ap some is) in
    let k = seat.0 in
    let knows = r.each_seat k (Member m) seat.2 in
    let place : number ≡ k = sym numbered ∙ knows.numbered in
    let stored = own_store s r k ENTERING m (now_entering m) (prgr.Enter k) seat.2 refl refl refl refl refl refl (sleeps_on r.writer m ENTERING (waits_asleep m.member.word may))
    (entering_event (progress_of s.words r.writer r.seats) k m.member (shown_at r.writer.members r.seats k m knows.made seat.2) may) in (
      Member (now_entering m),
      keeps,
      tt,
      subst (λ (z : ℕ × ℕ). RunningRule Served opening (after_step s (set s.words (CONFIRMED + z.0) ENTERING) z.1 (Member (now_entering m)))) (λ i. (sym place i, sym seat.1 i)) stored,
      refl,
    )
