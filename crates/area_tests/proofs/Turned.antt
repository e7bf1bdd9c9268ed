-- A turn of a member's process ends: what the mark leaves.
use Rattle.std.proofs.Common.{◌≡◌, ℕ, suc, ◌+◌, ◌<◌, length, sym, ap, subst, ◌∙◌, arith}
use mathlib.Core.Logic.{dite}
use native.Mathlib.Decide.{ℕ_discrete}
use Rattle.std.specs.Prelude.{IsTrue}
use Rattle.atomic_table.specs.Seated.{TableId}
use Rattle.prgr_core.specs.Step.{follows}
use Rattle.area_core.specs.declared.table.Published.{Published}
use Rattle.marks.specs.declared.mark.ProcessView.{ProcessView}
use Rattle.marks.specs.Names.{IsAtRest}
use Rattle.shared_words.specs.declared.opening.Opening.{Opening}
use Rattle.shared_words.specs.declared.seats.Member as tokens
use Rattle.shared_words.specs.declared.view.MemberView.{MemberView}
use Rattle.shared_words.specs.Processes.{process_of, AreAtRest, AreCopied}
use Rattle.shared_words.specs.Slots.{with_slot}
use Rattle.shared_words.proofs.AnchorStores.{process_here, process_else}
use Rattle.progress_words.specs.Tokens.{view_of, IsMemberOf}
use Rattle.anchors.specs.Holds.{anchors_of, IsUnkilled, MayRun}
use Rattle.area_tests.specs.Work.{MayEnd, IsWorking, IsUnder, turns_done}

-- the mark of the turn has joined, and the process is at rest
pub turn_rests : (process turns : ℕ) (old new : MemberView) → new ≡ with_slot process 0 turns old → IsAtRest (process_of new process)
turn_rests process turns old new is =
    subst IsAtRest (sym (ap (λ (m : MemberView). process_of m process) is ∙ process_here process 0 turns old))
    (record { frames = λ serial. (λ h. h, λ h. h); literals = λ serial. (λ h. h, λ h. h) })

pub turn_counts : (process turns : ℕ) (old new : MemberView) → new ≡ with_slot process 0 turns old → turns_done process new ≡ turns_done process old + 1
turn_counts process turns old new is =
    let grown : suc (turns_done process old) ≡ turns_done process old + 1 = omega (arith) in
    ap (λ (m : MemberView). turns_done process m) is ∙ ap (λ (q : ProcessView). length q.marks) (process_here process 0 turns old) ∙ grown

pub turn_works : (table : TableId) (opening : Opening) (process turns : ℕ) (old new : tokens.Member) → IsWorking table opening process old → IsMemberOf table new → AreCopied new.anchors.items (view_of new) → view_of new ≡ with_slot process 0 turns (view_of old) → IsWorking table opening process new
turn_works table opening process turns old new h of copied is = record {
  ends = record {
    of = of;
    copied = copied;
    run = subst (MayRun opening process) (sym is) (record { awake = h.ends.run.awake; below = h.ends.run.below; own = h.ends.run.own; noted = h.ends.run.noted });
    learnt = subst (λ (m : MemberView). m.member.generation < length m.seen) (sym is) h.ends.learnt;
    follows = subst (λ (m : MemberView). IsTrue (follows m.member.role)) (sym is) h.ends.follows;
    others = λ other apart. subst IsAtRest (sym (ap (λ (m : MemberView). process_of m other) is ∙ process_else process 0 turns (view_of old) other apart)) (h.ends.others other apart);
  };
  unkilled = subst IsUnkilled (sym (ap (λ (m : MemberView). anchors_of m process) is ∙ ap (λ (q : ProcessView). q.slot.anchors) (process_here process 0 turns (view_of old)))) h.unkilled;
}

pub turn_under : (process turns : ℕ) (p : Published) (old new : MemberView) → new ≡ with_slot process 0 turns old → IsUnder p old → IsUnder p new
turn_under process turns p old new is h = subst (IsUnder p) (sym is) h

-- all processes are then at rest
pub all_rest : (table : TableId) (opening : Opening) (process : ℕ) (token : tokens.Member) → MayEnd table opening process token → IsAtRest (process_of (view_of token) process) → AreAtRest (view_of token)
all_rest table opening process token h rest other =
    dite (ℕ_discrete other process)
    (λ (same : other ≡ process). subst (λ (n : ℕ). IsAtRest (process_of (view_of token) n)) (sym same) rest)
    (λ (apart : other ≡ process → ⊥). h.others other apart)
