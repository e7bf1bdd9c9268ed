-- What a run knows of one process of the script: the process, the spans of its turns so far, and whether it goes on.
-- Source: this project's profile. The definitions see processes by number, wherever a program holds them and in whatever order it runs them.
use Rattle.std.specs.Prelude.{ℕ, List, [], Option, Some, None}
use Rattle.term_core.specs.declared.atom.Mfa.{Mfa}
use Rattle.term_core.specs.PlainTerm.{PlainTerm}
use Rattle.machine_core.specs.declared.process.End.{End}
use Rattle.machine_core.specs.declared.process.End.TheVariants.{Normal}
use Rattle.machine_core.specs.declared.process.TurnEnd.{TurnEnd}
use Rattle.machine_core.specs.declared.process.TurnEnd.TheVariants as turns
use Rattle.machine_core.specs.Process.{PlainProcess, new_process}
use Rattle.run_log.specs.declared.logs.Span.{Span}
use Rattle.run_log.specs.declared.logs.ProcessLog.{ProcessLog}
use Rattle.run_steps.specs.declared.phase.Phase.{Phase}
use Rattle.run_steps.specs.declared.phase.Phase.TheVariants.{Waiting, Going, Ended}

-- a process of the script as definitions see it, with its spans so far and its phase
pub record Stand : Type 0 where
  pub process : PlainProcess
  pub spans : List Span
  pub phase : Phase

-- a process before its first turn, once its spawn was made
abbrev pub going_stand : ℕ → Mfa → List PlainTerm → Stand
going_stand number target args = record { process = new_process number target args; spans = []; phase = Going }

-- the phase of a process after a turn
abbrev pub phase_after : TurnEnd → Phase
phase_after turns.Again = Going
phase_after (turns.Ended end) = Ended end

-- the phase of a process that was spawned, by its end, if it has ended
abbrev pub phase_of : Option End → Phase
phase_of None = Going
phase_of (Some end) = Ended end

-- a phase that is an end
abbrev pub IsEnd : Phase → Type 0
IsEnd Waiting = ⊥
IsEnd Going = ⊥
IsEnd (Ended end) = Unit {0}

-- how a process ended; the value for one that has not is never used
abbrev pub end_of : Phase → End
end_of Waiting = Normal
end_of Going = Normal
end_of (Ended end) = end

-- the log of a process that has ended
abbrev pub log_of : Stand → ProcessLog
log_of stand = record { target = stand.process.target; args = stand.process.args; spans = stand.spans; fin = end_of stand.phase }
