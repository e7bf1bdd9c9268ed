use Rattle.std.proofs.Common.{length, ap, subst, ◌∙◌}
use Rattle.write_permit.specs.Book.{shown}
use Rattle.write_permit.specs.Permit.{next_of}
use Rattle.word_run.specs.declared.slice_step.SliceStep.TheVariants.{Over, AtOnce, Operates}
use Rattle.word_run.specs.Desks.{AddsInSlices, DeskState}
use Rattle.word_run.proofs.Answering.{step_answers}
use Rattle.word_run.proofs.Slices.{slice_homes, slice_on, slices_same}
use Rattle.word_run.proofs.slicing.Slicing.step.Goals.{in-Over, in-AtOnce+in_ok-make_at_once-in-AtOnce, in-Operates+in_ok-operate-in-Operates}
use Rattle.word_run.proofs.slicing.Slicing.step.Goals as goal

-- a home for each inbox
pub make_at_once-requires-clause-homes : goal.make_at_once-requires-clause-homes
make_at_once-requires-clause-homes g c = slice_homes g.E.RoundName.began c.self.inside.desk (length c.args.inboxes.now) c.self.invariant.since c.requires.homes

-- each kind of step adds what its call adds
pub returns-clause-adds : goal.returns-clause-adds
returns-clause-adds g c =
    elim c.match-slice_step.branch [
      | in-Over w ↦ rw w.self-inside-is (slices_same c.args.self.now c.self.inside.desk c.self.view_is)
      | in-AtOnce+in_ok-make_at_once-in-AtOnce w ↦ rw w.self-inside-is (subst (λ d. AddsInSlices d w.make_at_once.new.desk) c.self.view_is w.make_at_once.ensures)
      | in-Operates+in_ok-operate-in-Operates w ↦ rw w.self-inside-is (subst (λ d. AddsInSlices d w.operate.new.desk) c.self.view_is w.operate.ensures)
    ]

-- there was no next command exactly where all are done
pub returns-clause-over : goal.returns-clause-over
returns-clause-over g c =
    let next = c.next_command.ensures ∙ ap (λ (d : DeskState). next_of (shown d.book.plain) c.args.who) (c.desk.view_is ∙ c.self.view_is) in
    elim c.match-slice_step.branch [
      | in-Over w ↦ rw w.result-is (step_answers _ _ _ Over c.slice_step.ensures next w.in-Over.is)
      | in-AtOnce+in_ok-make_at_once-in-AtOnce w ↦ rw w.result-is (step_answers _ _ _ AtOnce c.slice_step.ensures next w.in-AtOnce.is)
      | in-Operates+in_ok-operate-in-Operates w ↦ rw w.result-is (step_answers _ _ _ Operates c.slice_step.ensures next w.in-Operates.is)
    ]

-- behind each call the desk is one since the round began, and its answers are those of the round
pub invariant_of-self : goal.invariant_of-self
invariant_of-self g c = slice_on g.E.RoundName.began g.E.RoundName.answered c.self.inside.desk c.make_at_once.new.desk c.self.invariant c.make_at_once.ensures

pub invariant_of-self-in_err-operate-in-Operates : goal.invariant_of-self-in_err-operate-in-Operates
invariant_of-self-in_err-operate-in-Operates g c = slice_on g.E.RoundName.began g.E.RoundName.answered c.self.inside.desk c.operate.new.desk c.self.invariant c.operate.ensures

pub invariant_of-self-2 : goal.invariant_of-self-2
invariant_of-self-2 g c =
    elim c.match-slice_step.branch [
      | in-Over w ↦ rw w.self-inside-is c.self.invariant
      | in-AtOnce+in_ok-make_at_once-in-AtOnce w ↦ rw w.self-inside-is (slice_on g.E.RoundName.began g.E.RoundName.answered c.self.inside.desk w.make_at_once.new.desk c.self.invariant w.make_at_once.ensures)
      | in-Operates+in_ok-operate-in-Operates w ↦ rw w.self-inside-is (slice_on g.E.RoundName.began g.E.RoundName.answered c.self.inside.desk w.operate.new.desk c.self.invariant w.operate.ensures)
    ]
