-- The spawn line of a process, and the command of a loader that it is.
use Rattle.std.proofs.Common.{◌≡◌, ℕ, ◌+◌, List, slice_get, Some, ap, subst, ◌∙◌, arith}
use Rattle.term_core.specs.declared.atom.Mfa.{Mfa}
use Rattle.term_core.specs.PlainTerm.{PlainTerm}
use Rattle.script_core.specs.declared.script.Script.{Script}
use Rattle.script_core.specs.declared.script.ScriptCmd.TheVariants.{Spawn}
use Rattle.script_core.specs.Processes.{SpawnLine, spawn_number, spawns_of}
use Rattle.script_core.proofs.SpawnLines.{line_at, spawn_at}
use Rattle.run_log.specs.Legal.{commands_of}

-- the command at which a loader spawns a process
pub line_text : (s : Script) (number : ℕ) (line : SpawnLine) → slice_get (spawns_of 0 s.loaders) number ≡ Some line → (slice_get (commands_of s line.loader) line.place ≡ Some (Spawn line.target line.args)) × (number ≡ spawn_number s.loaders line.loader line.place)
line_text s number line h =
    let l = line_at 0 s.loaders number line h in
    let e : l.at ≡ line.loader = omega (arith, l.loader_is) in
    (subst (λ k. slice_get (commands_of s k) line.place ≡ Some (Spawn line.target line.args)) e l.command, l.number_is ∙ ap (λ k. spawn_number s.loaders k line.place) e)

-- the spawn line of a loader's command
pub spawn_line : (s : Script) (loader place : ℕ) (target : Mfa) (args : List PlainTerm) → slice_get (commands_of s loader) place ≡ Some (Spawn target args)
    → slice_get (spawns_of 0 s.loaders) (spawn_number s.loaders loader place) ≡ Some (record { loader = loader; place = place; target = target; args = args })
spawn_line s loader place target args next =
    let e : 0 + loader ≡ loader = omega arith in
    spawn_at 0 s.loaders loader place target args next ∙ ap (λ k. Some (record { loader = k; place = place; target = target; args = args })) e
