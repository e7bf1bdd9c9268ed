-- Where turns follow, spans rise.
use Rattle.std.proofs.Common.{All}
use Rattle.std.proofs.lemmas.List.Elements.{All-from_recursion}
use Rattle.script_core.specs.declared.script.Script.{Script}
use Rattle.run_log.specs.declared.logs.ProcessLog.{ProcessLog}
use Rattle.run_log.specs.declared.logs.RunLog.{RunLog}
use Rattle.run_log.specs.Legal.{TurnsFollow}
use Rattle.legality.specs.RisingSpans.{AreRisingSpans}
use Rattle.legality.proofs.RisingNumbers.{following_rises}
use Rattle.legality.proofs.Ends.{all_from}

pub turns_rise : (s : Script) (log : RunLog) → TurnsFollow s log → All (λ process. AreRisingSpans process.spans) log.processes
turns_rise s log follow =
    All-from_recursion (λ (process : ProcessLog). AreRisingSpans process.spans) log.processes
    (all_from (λ (process : ProcessLog). AreRisingSpans process.spans) log.processes (λ number process at. following_rises _ _ process.spans process.fin (follow number process at)))
