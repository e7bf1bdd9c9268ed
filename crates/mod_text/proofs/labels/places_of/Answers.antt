-- A line more adds its label.
use Rattle.mod_text.proofs.PlaceTables.{places_more}
use Rattle.mod_text.proofs.labels.places_of.Goals as goal

pub loop-line-preserved : goal.loop-line-preserved
loop-line-preserved c =
    places_more c.loop-line.places c.add_line.new.places c.loop-line.number c.in_ok-number.number c.args.body.now c.loop-line.line-index _ c.loop-line-test.true c.loop-line.invariant c.in_ok-number.ensures.places c.in_ok-number.ensures.number
