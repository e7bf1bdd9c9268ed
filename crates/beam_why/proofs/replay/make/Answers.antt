-- A command that is made keeps the areas.
use Rattle.beam_why.proofs.Replays.{areas_made}
use Rattle.beam_why.proofs.replay.make.Goals as goal

pub returns-in-Ok : goal.returns-in-Ok
returns-in-Ok c = areas_made c.args.texts.now c.args.server.now c.apply.new.self c.args.cmd.now c.in-Ok._answer c.generation-generation.ensures.sound c.in-Ok.ensures.ok
