-- A process that has had no turn has no frames.
use Rattle.std.proofs.Common.{◌≡◌, [], ℕ, ap, List, Result, Ok, Err, IfOk}
use Rattle.term_core.specs.PlainTerm.{PlainTerm}
use Rattle.term_core.specs.declared.atom.Mfa.{Mfa}
use Rattle.term_core.specs.declared.no_memory.NoMemory.{NoMemory}
use Rattle.machine_core.specs.declared.process.Process.{Process}
use Rattle.machine_core.specs.Process.{PlainProcess, Words, new_process, process_of}
use Rattle.server_tests.proofs.turns.process_of_main.Goals as goal

frames_none : (r : Result Process NoMemory) (n : ℕ) (m : Mfa) (args : List PlainTerm) → ((words : Words) → IfOk r (λ process. process_of words process ≡ new_process n m args)) → IfOk r (λ process. (words : Words) → (process_of words process).frames ≡ [])
frames_none (Ok p) n m args h = λ words. ap (λ (x : PlainProcess). x.frames) (h words)
frames_none (Err e) n m args h = tt

turns_none : (r : Result Process NoMemory) (n : ℕ) (m : Mfa) (args : List PlainTerm) → ((words : Words) → IfOk r (λ process. process_of words process ≡ new_process n m args)) → IfOk r (λ process. (words : Words) → (process_of words process).turns ≡ 0)
turns_none (Ok p) n m args h = λ words. ap (λ (x : PlainProcess). x.turns) (h words)
turns_none (Err e) n m args h = tt

pub returns-clause-frames : goal.returns-clause-frames
returns-clause-frames c = frames_none c.new.result _ _ _ c.new.ensures

pub returns-clause-turns : goal.returns-clause-turns
returns-clause-turns c = turns_none c.new.result _ _ _ c.new.ensures
