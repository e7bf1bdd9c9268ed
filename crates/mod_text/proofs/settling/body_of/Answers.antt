-- The body ends before the first line that is none of it.
use Rattle.mod_text.proofs.Common.{◌∙◌, sym}
use Rattle.mod_text.proofs.Settles.{body_stops, body_more, body_is_whole}
use Rattle.mod_text.proofs.settling.body_of.Goals as goal

pub returns-then-not-is_body_line-clause-body : goal.returns-then-not-is_body_line-clause-body
returns-then-not-is_body_line-clause-body c = body_stops c.args.lines.now c.loop-place.place _ c.loop-place-test.true c.loop-place.invariant (sym c.if-not-is_body_line.true ∙ c.is_body_line.ensures)

pub loop-place-preserved : goal.loop-place-preserved
loop-place-preserved c = body_more c.args.lines.now c.loop-place.place _ c.loop-place-test.true c.loop-place.invariant (sym c.if-not-is_body_line.false ∙ c.is_body_line.ensures)

pub returns-clause-body : goal.returns-clause-body
returns-clause-body c = body_is_whole c.args.lines.now c.loop-place.place c.loop-place-test.false c.loop-place.invariant
