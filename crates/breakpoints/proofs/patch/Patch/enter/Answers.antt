-- Calls are led to the decisions, once the value is reached.
use Rattle.std.proofs.Common.{ap, arith}
use Rattle.std.proofs.lemmas.Result.{err_from_is_err_and}
use Rattle.shared_words.specs.Seats.{writer_of}
use Rattle.progress_words.specs.Tokens.{written_by}
use Rattle.breakpoints.specs.declared.patch.Phase.TheVariants.{Staged}
use Rattle.breakpoints.specs.Patches.{phase_need}
use Rattle.breakpoints.proofs.PhaseSteps.{may_enter, enter_stands, enter_patched, enter_rising}
use Rattle.breakpoints.proofs.PatchCalls.{at_phase, enter_moves, still_at_phase, waits_on}
use Rattle.breakpoints.proofs.patch.Patch.enter.Goals as goal

pub returns-in_err-reached-clause-patch : goal.returns-in_err-reached-clause-patch
returns-in_err-reached-clause-patch g c =
    still_at_phase c.args.self.now (written_by c.args.writer.now) (written_by c.reached.new.writer) c.reached.ensures.loaded c.requires.patch

pub returns-in_err-reached-clause-waits : goal.returns-in_err-reached-clause-waits
returns-in_err-reached-clause-waits g c =
    let p = err_from_is_err_and c.from_residual.result c.from_residual.ensures.1 in
    rw (p.1, p.2) (waits_on c.args.self.now (written_by c.args.writer.now) (written_by c.reached.new.writer) c.args.need c.in_err-reached.field-0.0 (ap phase_need c.requires.phase) c.reached.ensures.loaded c.in_err-reached.ensures.below)

pub store_entry-requires-clause-may : goal.store_entry-requires-clause-may
store_entry-requires-clause-may g c =
    let x = c.args.self.now in
    let old = written_by c.args.writer.now in
    let w = written_by c.reached.new.writer in
    may_enter x.at x.on old w w w c.args.need c.args.need (at_phase x old (Staged c.args.need) c.requires.phase c.requires.patch) c.requires.set c.reached.ensures.loaded

pub returns-clause-patch : goal.returns-clause-patch
returns-clause-patch g c =
    let x = c.args.self.now in
    let old = written_by c.args.writer.now in
    enter_stands x.at x.on old (written_by c.reached.new.writer) (written_by c.store_entry.new.writer) (written_by c.later-need.new.writer) c.args.need c.later-need.result
    (at_phase x old (Staged c.args.need) c.requires.phase c.requires.patch) c.requires.set c.reached.ensures.loaded (ap writer_of c.store_entry.ensures.view) c.later-need.ensures.loaded c.later-need.ensures.taken

pub returns-clause-answers : goal.returns-clause-answers
returns-clause-answers g c = λ p.
    let x = c.args.self.now in
    let old = written_by c.args.writer.now in
    let w = written_by c.reached.new.writer in
    let mid = written_by c.store_entry.new.writer in
    let new = written_by c.later-need.new.writer in
    let h = at_phase x old (Staged c.args.need) c.requires.phase c.requires.patch in
    let rises = enter_rising x.at x.on old w mid new c.args.need c.later-need.result h c.requires.set c.reached.ensures.loaded (ap writer_of c.store_entry.ensures.view) c.later-need.ensures.loaded c.later-need.ensures.taken in
    let enough = c.in_ok-reached.ensures.ok in
    enter_moves x old new c.args.need c.later-need.result c.requires.phase c.requires.set (omega (arith, enough, rises))
    (enter_patched x.at x.on old w mid new c.args.need c.later-need.result h c.requires.set c.reached.ensures.loaded (ap writer_of c.store_entry.ensures.view) c.later-need.ensures.loaded c.later-need.ensures.taken)
