use Rattle.legality.proofs.LogsMatching.{no_log, spawn_log}
use Rattle.legality.proofs.shape.matching.after_log_of.Goals as goal

-- no spawn
pub returns-in_default : goal.returns-in_default
returns-in_default c commands more = no_log c.args.command.now commands more c.args.processes.now c.in_default.not-Spawn

-- a spawn whose log comes first
pub returns-then-is_log_of : goal.returns-then-is_log_of
returns-then-is_log_of c commands more = spawn_log _ _ _ commands more _ _ _ c.in-Spawn.is c.in-Some.ensures.cases.0 (c.is_log_of.ensures.0 c.if-is_log_of.true)
