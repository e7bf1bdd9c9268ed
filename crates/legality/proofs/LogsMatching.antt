-- The process logs that are left behind those of spawns.
use Rattle.std.proofs.Common.{◌≡◌, ◌↔◌, ℕ, suc, ◌+◌, ◌<◌, ◌==◌, Bool, true, add-one, List, [], ◌∷◌, ◌++◌, length, drop, get_or, refl, sym, ap, ◌∙◌, arith}
use Rattle.std.proofs.lemmas.Bool.Decides.{Decides-eqb}
use Rattle.term_core.proofs.Lefts.{left_from}
use Rattle.term_core.specs.declared.atom.Mfa.{Mfa}
use Rattle.term_core.specs.PlainTerm.{PlainTerm}
use Rattle.script_core.specs.declared.script.ScriptCmd.{ScriptCmd}
use Rattle.script_core.specs.declared.script.ScriptCmd.TheVariants.{Spawn}
use Rattle.run_log.specs.declared.logs.ProcessLog.{ProcessLog}
use Rattle.script_core.specs.Processes.{SpawnLine, spawns_from, spawns_of}
use Rattle.run_log.specs.Legal.{LogsMatch}
use Rattle.legality.proofs.Equivalences.{through, of_equal}

-- a log is matched with a call alone, wherever the spawn stands
moved : (l p m q : ℕ) (commands : List ScriptCmd) (more : List SpawnLine) (processes : List ProcessLog) → LogsMatch (spawns_from l p commands ++ more) processes → LogsMatch (spawns_from m q commands ++ more) processes
moved l p m q [] more processes h = h
moved l p m q (Spawn target args ∷ commands) more [] h = absurd h
moved l p m q (Spawn target args ∷ commands) more (process ∷ processes) h = (record { target = h.0.target; args = h.0.args }, moved l (suc p) m (suc q) commands more processes h.1)
moved l p m q (cmd ∷ commands) more processes h = moved l (suc p) m (suc q) commands more processes h

-- so the place of the spawns may be any
pub anywhere : (l p m q : ℕ) (commands : List ScriptCmd) (more : List SpawnLine) (processes : List ProcessLog) → LogsMatch (spawns_from l p commands ++ more) processes ↔ LogsMatch (spawns_from m q commands ++ more) processes
anywhere l p m q commands more processes = (moved l p m q commands more processes, moved m q l p commands more processes)

-- a command that is no spawn has no log
pub no_log : (c : ScriptCmd) (commands : List ScriptCmd) (more : List SpawnLine) (processes : List ProcessLog) → ((target : Mfa) (args : List PlainTerm) → c ≡ Spawn target args → ⊥)
    → LogsMatch (spawns_from 0 0 (c ∷ commands) ++ more) processes ↔ LogsMatch (spawns_from 0 0 commands ++ more) processes
no_log (Spawn target args) commands more processes n = absurd (n target args refl)
no_log c commands more processes n = anywhere 0 1 0 0 commands more processes

-- a spawn has the first log
pub own_log : (target : Mfa) (args : List PlainTerm) (commands : List ScriptCmd) (more : List SpawnLine) (process : ProcessLog) (processes : List ProcessLog) → process.target ≡ target → process.args ≡ args
    → LogsMatch (spawns_from 0 0 (Spawn target args ∷ commands) ++ more) (process ∷ processes) ↔ LogsMatch (spawns_from 0 0 commands ++ more) processes
own_log target args commands more process processes t a = (λ h. moved 0 1 0 0 commands more processes h.1, λ h. (record { target = t; args = a }, moved 0 0 0 1 commands more processes h))

-- a spawn whose log comes first leaves the logs behind it
pub spawn_log : (command : ScriptCmd) (target : Mfa) (args : List PlainTerm) (commands : List ScriptCmd) (more : List SpawnLine) (processes : List ProcessLog) (process : ProcessLog) (others : List ProcessLog) → command ≡ Spawn target args
    → processes ≡ process ∷ others → (process.target ≡ target) × (process.args ≡ args) → LogsMatch (spawns_from 0 0 (command ∷ commands) ++ more) processes ↔ LogsMatch (spawns_from 0 0 commands ++ more) others
spawn_log command target args commands more processes process others is first call =
    through (of_equal (λ c. LogsMatch (spawns_from 0 0 (c ∷ commands) ++ more) processes) command (Spawn target args) is)
    (through (of_equal (LogsMatch (spawns_from 0 0 (Spawn target args ∷ commands) ++ more)) processes (process ∷ others) first) (own_log target args commands more process others call.0 call.1))

-- the spawns of the loaders that are left
pub loader_next : (i : ℕ) (loaders : List (List ScriptCmd)) (commands : List ScriptCmd) → commands ≡ get_or loaders i commands → i < length loaders → spawns_of i (drop i loaders) ≡ spawns_from i 0 commands ++ spawns_of (i + 1) (drop (i + 1) loaders)
loader_next i loaders commands is less = ap (spawns_of i) (left_from loaders i commands is less) ∙ ap (λ n. spawns_from i 0 commands ++ spawns_of n (drop (i + 1) loaders)) (sym (add-one i))

-- where no spawn is left, no log may be
pub none_over : (processes : List ProcessLog) (r : Bool) → r ≡ (length processes == 0) → LogsMatch [] processes ↔ (r ≡ true)
none_over [] r e = (λ h. e, λ h. tt)
none_over (process ∷ processes) r e = (λ h. absurd h, λ h. let z = (Decides-eqb (length (process ∷ processes)) 0).0 (sym e ∙ h) in omega (arith, z))
