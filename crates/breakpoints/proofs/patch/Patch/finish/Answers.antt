-- The index that was active before is made equal, once the value is reached.
use Rattle.std.proofs.Common.{arith}
use Rattle.std.proofs.lemmas.Result.{err_from_is_err_and}
use Rattle.progress_words.specs.Tokens.{written_by}
use Rattle.progress_words.proofs.Rooted.{some_published}
use Rattle.breakpoints.proofs.PhaseSteps.{last_patching, last_unread, finish_rest, finish_patched, finish_rising}
use Rattle.breakpoints.proofs.PatchCalls.{finish_ends, still_at_phase, waits_on}
use Rattle.breakpoints.proofs.patch.Patch.finish.Goals as goal

pub returns-in_err-reached-clause-patch : goal.returns-in_err-reached-clause-patch
returns-in_err-reached-clause-patch g c =
    still_at_phase c.args.self.now (written_by c.args.writer.now) (written_by c.reached.new.writer) c.reached.ensures.loaded c.requires.patch

pub returns-in_err-reached-clause-waits : goal.returns-in_err-reached-clause-waits
returns-in_err-reached-clause-waits g c =
    let p = err_from_is_err_and c.from_residual.result c.from_residual.ensures.1 in
    rw (p.1, p.2) (waits_on c.args.self.now (written_by c.args.writer.now) (written_by c.reached.new.writer) c.args.need c.in_err-reached.field-0.0 c.requires.phase c.reached.ensures.loaded c.in_err-reached.ensures.below)

pub decide-requires-clause-patchable : goal.decide-requires-clause-patchable
decide-requires-clause-patchable g c =
    let x = c.args.self.now in
    (last_patching x.at x.on x.phase (written_by c.args.writer.now) (written_by c.reached.new.writer) c.args.need c.requires.patch c.requires.last c.requires.phase c.reached.ensures.loaded
    c.in_ok-reached.ensures.ok (some_published _ _ c.reached.new.writer c.reached.ensures.token)).patchable

pub decide-requires-clause-indices : goal.decide-requires-clause-indices
decide-requires-clause-indices g c =
    let x = c.args.self.now in
    (last_patching x.at x.on x.phase (written_by c.args.writer.now) (written_by c.reached.new.writer) c.args.need c.requires.patch c.requires.last c.requires.phase c.reached.ensures.loaded
    c.in_ok-reached.ensures.ok (some_published _ _ c.reached.new.writer c.reached.ensures.token)).indices

pub decide-requires-clause-unread : goal.decide-requires-clause-unread
decide-requires-clause-unread g c =
    let x = c.args.self.now in
    last_unread x.at x.on x.phase (written_by c.args.writer.now) (written_by c.reached.new.writer) c.args.need c.requires.patch c.requires.last c.requires.phase c.reached.ensures.loaded
    c.in_ok-reached.ensures.ok (some_published _ _ c.reached.new.writer c.reached.ensures.token)

pub returns-clause-patch : goal.returns-clause-patch
returns-clause-patch g c =
    let x = c.args.self.now in
    finish_rest x.at x.on x.phase (written_by c.args.writer.now) (written_by c.reached.new.writer) c.args.need c.requires.patch c.requires.last c.requires.phase c.reached.ensures.loaded
    c.in_ok-reached.ensures.ok (some_published _ _ c.reached.new.writer c.reached.ensures.token) (written_by c.decide.new.writer) c.decide.ensures.stored

pub returns-clause-answers : goal.returns-clause-answers
returns-clause-answers g c = λ p.
    let x = c.args.self.now in
    let old = written_by c.args.writer.now in
    let w = written_by c.reached.new.writer in
    let new = written_by c.decide.new.writer in
    let some = some_published _ _ c.reached.new.writer c.reached.ensures.token in
    let enough = c.in_ok-reached.ensures.ok in
    let rises = finish_rising x.at x.on x.phase old w c.args.need c.requires.patch c.requires.last c.requires.phase c.reached.ensures.loaded enough some new c.decide.ensures.stored in
    finish_ends x old new c.args.need c.requires.phase c.requires.last (omega (arith, enough, rises))
    (finish_patched x.at x.on x.phase old w c.args.need c.requires.patch c.requires.last c.requires.phase c.reached.ensures.loaded enough some new c.decide.ensures.stored)
