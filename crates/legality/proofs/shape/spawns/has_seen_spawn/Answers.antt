use Rattle.std.proofs.Common.{sym}
use Rattle.legality.proofs.SpawnSteps.{no_spawn, spawn_beyond, spawn_step}
use Rattle.legality.proofs.shape.spawns.has_seen_spawn.Goals as goal

-- no spawn
pub returns-in_default : goal.returns-in_default
returns-in_default c = no_spawn _ _ _ _ (sym c.in_default.ensures)

-- a spawn of a loader that the script has not
pub returns-then-loader-numbers : goal.returns-then-loader-numbers
returns-then-loader-numbers c = spawn_beyond _ _ _ _ c.in-Some.loader (sym c.in-Some.ensures) c.if-loader-numbers.true

-- a spawn
pub returns : goal.returns
returns c = spawn_step _ _ _ _ _ c.in-Some.loader _ (sym c.in-Some.ensures) c.if-loader-numbers.false c.next_begins_from.ensures.answer c.next_begins_from.ensures.next
