use Rattle.area_core.proofs.Opened.{made_sound}
use Rattle.area_core.proofs.state.AreaState.new.Goals as goal

-- the opening state is sound
pub returns-in-Ok-clause-sound : goal.returns-in-Ok-clause-sound
returns-in-Ok-clause-sound c = made_sound c.args.members c.args.watchers c.in_ok-progress.progress c.in-Ok.table c.in_ok-progress.ensures.ok c.in_ok-progress.ensures.sound c.in-Ok.ensures
