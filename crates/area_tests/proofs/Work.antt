-- A member with one process that makes turns: what each call leaves of it.
use Rattle.std.proofs.Common.{◌≡◌, ℕ, ◌+◌, ◌*◌, ◌<◌, inr, length, refl, sym, ap, subst, ◌∙◌, arith}
use Rattle.std.specs.Prelude.{IsTrue}
use Rattle.atomic_table.specs.Seated.{TableId}
use Rattle.prgr_core.specs.Step.{follows}
use Rattle.term_core.specs.declared.hold.Kind.{Kind}
use Rattle.area_core.specs.declared.table.Published.{Published}
use Rattle.marks.specs.declared.mark.ProcessView.{ProcessView}
use Rattle.marks.specs.Names.{IsAtRest}
use Rattle.shared_words.specs.declared.opening.Opening.{Opening}
use Rattle.shared_words.specs.declared.seats.Member as tokens
use Rattle.shared_words.specs.declared.view.MemberView.{MemberView}
use Rattle.shared_words.specs.Processes.{process_of, AreCopied}
use Rattle.progress_words.specs.Tokens.{view_of, IsMemberOf}
use Rattle.anchors.specs.Holds.{anchors_of, IsUnkilled, HasHeld, MayRun, HoldsAnchors}
use Rattle.anchors.specs.Drops.{AnchorsStored, HasDropped, HasKilled}
use Rattle.anchors.proofs.Stored.{hold_stored, one_stored, run_still}
use Rattle.area_tests.specs.Work.{MayEnd, IsWorking, IsPlaying, IsUnder, GoesOn, turns_done}

-- ---- stores of anchors

module _ (table : TableId) (opening : Opening) (process : ℕ) (old new : tokens.Member) (of : IsMemberOf table new) (copied : AreCopied new.anchors.items (view_of new)) (stored : AnchorsStored process (view_of old) (view_of new)) where
  ends_stored : MayEnd table opening process old → MayEnd table opening process new
  ends_stored h = record {
    of = of;
    copied = copied;
    run = run_still opening process process (view_of old) (view_of new) stored h.run;
    learnt = subst (λ (m : MemberView). m.member.generation < length m.seen) (sym stored.same) h.learnt;
    follows = subst (λ (m : MemberView). IsTrue (follows m.member.role)) (sym stored.same) h.follows;
    others = λ other apart. subst IsAtRest (sym (stored.others other apart)) (h.others other apart);
  }

turns_stored : (process : ℕ) (old new : MemberView) → AnchorsStored process old new → turns_done process new ≡ turns_done process old
turns_stored process old new stored = ap (λ (q : ProcessView). length q.marks) stored.slot

-- the process goes on after stores that kill it not
stored_goes : (table : TableId) (opening : Opening) (process : ℕ) (old new : tokens.Member) → IsWorking table opening process old → IsMemberOf table new → new.number ≡ old.number → AreCopied new.anchors.items (view_of new) → AnchorsStored process (view_of old) (view_of new) → IsUnkilled (anchors_of (view_of new) process) → GoesOn table opening process old new
stored_goes table opening process old new h of number copied stored unkilled = record {
  works = record { ends = ends_stored table opening process old new of copied stored h.ends; unkilled = unkilled };
  under = λ p under. subst (IsUnder p) (sym stored.same) under;
  turns = turns_stored process (view_of old) (view_of new) stored;
  number = number;
}

-- an area is held
pub held_goes : (table : TableId) (opening : Opening) (process serial : ℕ) (kind : Kind) (old new : tokens.Member) → IsWorking table opening process old → IsMemberOf table new → new.number ≡ old.number → AreCopied new.anchors.items (view_of new) → HasHeld process kind serial (view_of old) (view_of new) → GoesOn table opening process old new
held_goes table opening process serial kind old new h of number copied held = stored_goes table opening process old new h of number copied (hold_stored process (view_of old) (view_of new) held.stored) held.unkilled

pub held_names : (process : ℕ) (kind : Kind) (serial : ℕ) (old new : MemberView) → HasHeld process kind serial old new → HoldsAnchors kind (anchors_of new process) serial
held_names process kind serial old new held = (held.names kind serial).1 (inr (refl, refl))

-- none is, where there is no room
pub refused_goes : (table : TableId) (opening : Opening) (process : ℕ) (old new : tokens.Member) → IsWorking table opening process old → IsMemberOf table new → new.number ≡ old.number → AreCopied new.anchors.items (view_of new) → view_of new ≡ view_of old → GoesOn table opening process old new
refused_goes table opening process old new h of number copied same = record {
  works = record {
    ends = record {
      of = of;
      copied = copied;
      run = subst (MayRun opening process) (sym same) h.ends.run;
      learnt = subst (λ (m : MemberView). m.member.generation < length m.seen) (sym same) h.ends.learnt;
      follows = subst (λ (m : MemberView). IsTrue (follows m.member.role)) (sym same) h.ends.follows;
      others = λ other apart. subst (λ (m : MemberView). IsAtRest (process_of m other)) (sym same) (h.ends.others other apart);
    };
    unkilled = subst (λ (m : MemberView). IsUnkilled (anchors_of m process)) (sym same) h.unkilled;
  };
  under = λ p under. subst (IsUnder p) (sym same) under;
  turns = ap (λ (m : MemberView). turns_done process m) same;
  number = number;
}

-- one is dropped
pub dropped_goes : (table : TableId) (opening : Opening) (process serial : ℕ) (kind : Kind) (old new : tokens.Member) → IsWorking table opening process old → IsMemberOf table new → new.number ≡ old.number → AreCopied new.anchors.items (view_of new) → HasDropped process kind serial (view_of old) (view_of new) → GoesOn table opening process old new
dropped_goes table opening process serial kind old new h of number copied dropped =
    stored_goes table opening process old new h of number copied dropped.stored
    (λ place word s at told. (let before = (dropped.kills s).0 (record { place = place; word = word; at = at; passes = told }) in h.unkilled before.place before.word s before.at before.passes))

-- ---- before the first turn ends

plays_on : (table : TableId) (opening : Opening) (process : ℕ) (p : Published) (old new : tokens.Member) → IsPlaying table opening process p old → GoesOn table opening process old new → IsPlaying table opening process p new
plays_on table opening process p old new h goes = record { works = goes.works; under = goes.under p h.under; turns = goes.turns ∙ h.turns }

pub held_plays : (table : TableId) (opening : Opening) (process serial : ℕ) (kind : Kind) (p : Published) (old new : tokens.Member) → IsPlaying table opening process p old → IsMemberOf table new → new.number ≡ old.number → AreCopied new.anchors.items (view_of new) → HasHeld process kind serial (view_of old) (view_of new) → IsPlaying table opening process p new
held_plays table opening process serial kind p old new h of number copied held = plays_on table opening process p old new h (held_goes table opening process serial kind old new h.works of number copied held)

pub refused_plays : (table : TableId) (opening : Opening) (process : ℕ) (p : Published) (old new : tokens.Member) → IsPlaying table opening process p old → IsMemberOf table new → new.number ≡ old.number → AreCopied new.anchors.items (view_of new) → view_of new ≡ view_of old → IsPlaying table opening process p new
refused_plays table opening process p old new h of number copied same = plays_on table opening process p old new h (refused_goes table opening process old new h.works of number copied same)

pub dropped_plays : (table : TableId) (opening : Opening) (process serial : ℕ) (kind : Kind) (p : Published) (old new : tokens.Member) → IsPlaying table opening process p old → IsMemberOf table new → new.number ≡ old.number → AreCopied new.anchors.items (view_of new) → HasDropped process kind serial (view_of old) (view_of new) → IsPlaying table opening process p new
dropped_plays table opening process serial kind p old new h of number copied dropped = plays_on table opening process p old new h (dropped_goes table opening process serial kind old new h.works of number copied dropped)

-- ---- the process is killed

pub killed_ends : (table : TableId) (opening : Opening) (process serial : ℕ) (old new : tokens.Member) → IsWorking table opening process old → IsMemberOf table new → AreCopied new.anchors.items (view_of new) → HasKilled process serial (view_of old) (view_of new) → MayEnd table opening process new
killed_ends table opening process serial old new h of copied killed =
    ends_stored table opening process old new of copied (subst (AnchorsStored process (view_of old)) (sym killed.view) (one_stored process (killed.place + 1) (serial * 4) (view_of old) (omega arith))) h.ends

pub killed_turns : (process serial : ℕ) (old new : MemberView) → HasKilled process serial old new → turns_done process new ≡ turns_done process old
killed_turns process serial old new killed = turns_stored process old new (subst (AnchorsStored process old) (sym killed.view) (one_stored process (killed.place + 1) (serial * 4) old (omega arith)))
