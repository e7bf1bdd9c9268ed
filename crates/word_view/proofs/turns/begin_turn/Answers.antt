-- What the view shows is what was held.
use Rattle.std.proofs.Common.{subst}
use Rattle.machine_core.specs.View.{Shown}
use Rattle.word_view.specs.Turned.{HasTurned}
use Rattle.word_view.proofs.turns.begin_turn.Goals as goal

pub returns : goal.returns
returns g c = subst (λ (shown : Shown). HasTurned g.K.Began.began shown c.turn_over.result.0 c.turn_over.result.1 c.args.process.now c.turn_over.new.process c.args.lines.now c.turn_over.new.lines) c.new-view.ensures.shown c.turn_over.ensures
