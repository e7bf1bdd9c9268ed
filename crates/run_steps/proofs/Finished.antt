-- The logs of processes that have ended.
use Rattle.std.proofs.Common.{◌≡◌, ◌≢◌, ℕ, List, [], ◌∷◌, length, slice_get, Some, All, sym, ap, ◌∙◌, arith}
use Rattle.std.proofs.lemmas.Option.{slice_get-get_or}
use Rattle.server_core.specs.ServerState.{ServerState}
use Rattle.machine_core.specs.declared.process.End.{End}
use Rattle.machine_core.specs.Process.{PlainProcess, new_process}
use Rattle.script_core.specs.Processes.{SpawnLine}
use Rattle.run_log.specs.declared.logs.Span.{Span}
use Rattle.run_log.specs.declared.logs.ProcessLog.{ProcessLog}
use Rattle.run_log.specs.Legal.{SpansFollow}

-- what holds of each log that is there
pub all_logs : (P : ProcessLog → Type 0) (logs : List ProcessLog) → ((n : ℕ) (log : ProcessLog) → slice_get logs n ≡ Some log → P log) → All P logs
all_logs P logs h k d below = h k _ (slice_get-get_or logs k d below)

pub some_spans : (states : ℕ → ServerState) (p : PlainProcess) (spans : List Span) (fin : End) → SpansFollow states p spans fin → length spans ≢ 0
some_spans states p [] fin h e = absurd h
some_spans states p (span ∷ spans) fin h e = absurd (omega (arith, e))

pub same_start : (number : ℕ) (line : SpawnLine) (p : PlainProcess) → p.target ≡ line.target → p.args ≡ line.args → new_process number line.target line.args ≡ new_process number p.target p.args
same_start number line p t a = ap (λ x. new_process number x line.args) (sym t) ∙ ap (λ x. new_process number p.target x) (sym a)
