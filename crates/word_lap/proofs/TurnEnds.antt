-- What the end of a turn leaves of what a member knows.
use Rattle.std.proofs.Common.{◌≡◌, ℕ, ◌+◌, ◌≤◌, inl, inr, List, length, refl, sym, ap, subst, ◌∙◌}
use Rattle.std.proofs.lemmas.Bool.{or_cases}
use Rattle.atomic_table.specs.Seated.{TableId}
use Rattle.term_core.specs.declared.hold.Kind.{Kind}
use Rattle.term_core.specs.declared.hold.Kind.TheVariants as kinds
use Rattle.area_core.specs.Generations.{names_frame, names_literal}
use Rattle.marks.specs.declared.kept.LookKind.{LookKind}
use Rattle.marks.specs.declared.kept.LookKind.TheVariants.{Both, Frame}
use Rattle.marks.specs.declared.mark.Mark.{Mark}
use Rattle.marks.specs.declared.mark.ProcessView.{ProcessView}
use Rattle.marks.specs.Names.{MarkNames}
use Rattle.shared_words.specs.declared.opening.Opening.{Opening}
use Rattle.shared_words.specs.declared.seats.Member as tokens
use Rattle.shared_words.specs.declared.view.MemberView.{MemberView}
use Rattle.shared_words.specs.Processes.{AreCopied, process_of}
use Rattle.shared_words.specs.Seats.{IsMemberSeat}
use Rattle.shared_words.specs.Slots.{with_slot}
use Rattle.anchors.specs.Holds.{HoldsAnchors, MayRun, anchors_of, view_of}
use Rattle.anchors.specs.Turns.{LAST_TURN, MayMark}
use Rattle.anchors.proofs.Stored.{run_still}
use Rattle.machine_core.specs.declared.process.TurnEnd.{TurnEnd}
use Rattle.machine_core.specs.declared.process.TurnEnd.TheVariants.{Again, Ended}
use Rattle.word_lap.specs.Schedulers.{IsToken}
use Rattle.word_lap.specs.Turning.{CountsOn, HasEndedWith, HasMarkedEnd}
use Rattle.word_lap.proofs.Tokens.{token_on}

-- where the process goes on nothing is changed
pub again_ends : (process : ℕ) (m : MemberView) → HasEndedWith process Again m m
again_ends process m = refl

pub runs_ended : (opening : Opening) (process : ℕ) (end : TurnEnd) (old mid : MemberView) → HasEndedWith process end old mid → MayRun opening process old → MayRun opening process mid
runs_ended opening process Again old mid ends run = subst (MayRun opening process) (sym ends) run
runs_ended opening process (Ended fin) old mid ends run = run_still opening process process old mid ends.stored run

pub marks_ended : (process : ℕ) (end : TurnEnd) (old mid : MemberView) → HasEndedWith process end old mid → (process_of mid process).marks ≡ (process_of old process).marks
marks_ended process Again old mid ends = ap (λ (m : MemberView). (process_of m process).marks) ends
marks_ended process (Ended fin) old mid ends = ap (λ (p : ProcessView). p.marks) ends.stored.slot

-- who names nothing for frames or literals names nothing in either kind of looks
none_named : (anchors : List ℕ) → ((kind : Kind) (serial : ℕ) → HoldsAnchors kind anchors serial → ⊥) → (kind : LookKind) (serial : ℕ) → MarkNames kind anchors serial → ⊥
none_named anchors empty Frame serial named = empty kinds.Frame serial (record { place = named.place; word = named.word; at = named.at; passes = named.passes })
none_named anchors empty Both serial named =
    elim (or_cases (names_frame named.word serial) (names_literal named.word serial) named.passes) as (λ _. ⊥) [
      | inl frame ↦ empty kinds.Frame serial (record { place = named.place; word = named.word; at = named.at; passes = frame })
      | inr literal ↦ empty kinds.Literal serial (record { place = named.place; word = named.word; at = named.at; passes = literal })
    ]

pub may_mark : (process turns : ℕ) (end : TurnEnd) (old mid : MemberView) → HasEndedWith process end old mid → CountsOn turns (length (process_of old process).marks) end → MayMark process turns mid
may_mark process turns end old mid ends (inl more) = inl (more ∙ ap (λ (xs : List Mark). length xs + 1) (sym (marks_ended process end old mid ends)))
may_mark process turns Again old mid ends (inr full) = absurd (let some = full.1.1 in cc)
may_mark process turns (Ended fin) old mid ends (inr full) =
    inr (full.0, subst (λ (xs : List Mark). LAST_TURN ≤ length xs) (sym (marks_ended process (Ended fin) old mid ends)) full.1.0, none_named (anchors_of mid process) ends.empty)

pub token_marked : (table : TableId) (old new : tokens.Member) (process turns : ℕ) → IsToken table old → IsMemberSeat table new.number new.seat → new.root ≡ old.root → AreCopied new.anchors.items (view_of new)
    → view_of new ≡ with_slot process 0 turns (view_of old) → IsToken table new
token_marked table old new process turns h seat root copied view = token_on table old new h seat root copied (ap (λ (m : MemberView). m.member.generation) view) (ap (λ (m : MemberView). m.seen) view)

pub marked_end : (process turns : ℕ) (end : TurnEnd) (old mid new : MemberView) → HasEndedWith process end old mid → new ≡ with_slot process 0 turns mid → HasMarkedEnd process turns end old new
marked_end process turns end old mid new ends view = record { ended = mid; ends = ends; marked = view }
