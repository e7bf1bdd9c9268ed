-- The permit: the script, the journal so far, the server to which it leads, how far each loader is, and who may change the code. And what each of its calls makes of it.
-- Source: this project's profile; the phases of a purge are those of the manual page `erlang`, on `purge_module`. A call that has no case here is not made.
use Rattle.std.specs.Prelude.{ℕ, ◌+◌, Bool, true, false, List, [], ◌∷◌, ◌++◌, slice_get, slice_set, Option, Some, None, option_map, option_and_then, unwrap_or}
use Rattle.term_core.specs.declared.atom.AtomId.{AtomId}
use Rattle.term_core.specs.declared.atom.Mfa.{Mfa}
use Rattle.server_core.specs.declared.command.Applied.{Applied}
use Rattle.server_core.specs.declared.command.Cmd.{Cmd}
use Rattle.server_core.specs.declared.command.Cmd.TheVariants as cmds
use Rattle.server_core.specs.declared.command.Linger.{Linger}
use Rattle.server_core.specs.declared.command.Reply.TheVariants as replies
use Rattle.server_core.specs.ServerState.{ServerState, old_of}
use Rattle.server_core.specs.CommandTable.{Outcome, apply_of}
use Rattle.script_core.specs.declared.script.Script.{Script}
use Rattle.script_core.specs.declared.script.ScriptCmd.{ScriptCmd}
use Rattle.script_core.specs.declared.script.ScriptCmd.TheVariants.{Load, Delete, SoftPurge, Purge, CheckOld, Put, Erase, Trace, Spawn}
use Rattle.script_core.specs.Processes.{spawn_number, spawns_in}
use Rattle.run_log.specs.declared.logs.Entry.{Entry}
use Rattle.run_log.specs.declared.logs.Who.{Who}
use Rattle.run_log.specs.declared.logs.Who.TheVariants.{Loader, Runtime}
use Rattle.run_log.specs.declared.underway.HalfPurge.{HalfPurge}
use Rattle.run_log.specs.Legal.{commands_of}
use Rattle.write_permit.specs.declared.answers.Seize.{Seize}
use Rattle.write_permit.specs.declared.answers.Seize.TheVariants as seizes
use Rattle.write_permit.specs.declared.commands.OldCode.{OldCode}
use Rattle.write_permit.specs.declared.holder.Holder.{Holder}
use Rattle.write_permit.specs.declared.holder.Holder.TheVariants.{Free, Held, Purging, Tracing}
use Rattle.write_permit.specs.declared.loader_run.LoaderRun.{LoaderRun}

-- what a permit shows
pub record PermitState : Type 0 where
  pub script : Script
  pub server : ServerState
  pub journal : List Entry
  pub loaders : List LoaderRun
  pub holder : Holder

-- how many commands of a loader are done
abbrev pub done_of : List LoaderRun → ℕ → ℕ
done_of loaders loader = unwrap_or (option_map (λ l. l.done) (slice_get loaders loader)) 0

-- the first command of a loader that is not done
abbrev pub next_of : PermitState → ℕ → Option ScriptCmd
next_of p loader = slice_get (commands_of p.script loader) (done_of p.loaders loader)

-- the loader that has the permission
abbrev pub holder_of : Holder → Option ℕ
holder_of Free = None
holder_of (Held by) = Some by
holder_of (Purging by name) = Some by
holder_of (Tracing by generation) = Some by

-- the purge that waits for its second half, as the journal has it
abbrev pub half_of : Holder → Option HalfPurge
half_of Free = None
half_of (Held by) = None
half_of (Purging by name) = Some (record { who = Loader by; «module» = name })
half_of (Tracing by generation) = None

-- the loaders as the journal has them: a trace has its entry there before its command is done
abbrev pub entered_by : Holder → List LoaderRun → List LoaderRun
entered_by Free loaders = loaders
entered_by (Held by) loaders = loaders
entered_by (Purging by name) loaders = loaders
entered_by (Tracing by generation) loaders = unwrap_or (option_map (λ l. slice_set loaders by (record l { done = l.done + 1 })) (slice_get loaders by)) loaders

-- whether a command of the script needs the permission
abbrev pub needs_permission : ScriptCmd → Bool
needs_permission (CheckOld name) = false
needs_permission (Spawn target args) = false
needs_permission command = true

-- whether a command of the script makes a process
abbrev pub is_spawn : ScriptCmd → Bool
is_spawn (Spawn target args) = true
is_spawn command = false

-- what a loader is answered that asks for the permission
abbrev pub seize_answer : Holder → Seize
seize_answer Free = seizes.Seized
seize_answer (Held by) = seizes.Held by
seize_answer (Purging by name) = seizes.Held by
seize_answer (Tracing by generation) = seizes.Held by

-- who has the permission after a loader asked for it
abbrev pub seized_by : ℕ → Holder → Holder
seized_by who Free = Held who
seized_by who (Held by) = Held by
seized_by who (Purging by name) = Purging by name
seized_by who (Tracing by generation) = Tracing by generation

-- who has the permission after want of memory: a loader gives it up where its command has no entry yet
abbrev pub given_up : Holder → Holder
given_up Free = Free
given_up (Held by) = Free
given_up (Purging by name) = Purging by name
given_up (Tracing by generation) = Tracing by generation

-- a permit after a call, with what the server answered
pub record PermitStep : Type 0 where
  pub state : PermitState
  pub answer : Applied

-- a command's entry joins the journal, and the server makes the change
abbrev pub joined : PermitState → Who → Cmd → Outcome → PermitState
joined p who cmd o = record p { server = o.state; journal = p.journal ++ (record { who = who; cmd = cmd; reply = o.answer.reply; published = o.answer.published }) ∷ [] }

-- a command of the server is made, by the command table
abbrev pub made_of : PermitState → Who → Cmd → Option PermitStep
made_of p who cmd = option_map (λ o. record { state = joined p who cmd o; answer = o.answer }) (apply_of p.script.modules p.server cmd)

-- a loader after one of its commands
abbrev pub loader_after : ScriptCmd → LoaderRun → LoaderRun
loader_after command l = record { done = l.done + 1; next_process = l.next_process + spawns_in command }

-- one command more of a loader is done
abbrev pub counted_in : List LoaderRun → ℕ → ScriptCmd → List LoaderRun
counted_in loaders who command = unwrap_or (option_map (λ l. slice_set loaders who (loader_after command l)) (slice_get loaders who)) loaders

-- a command of the script is done by this last command of the server
abbrev pub done_by : PermitState → ℕ → ScriptCmd → Cmd → Option PermitStep
done_by p who command cmd = option_map (λ s. record { state = record (s.state) { loaders = counted_in p.loaders who command }; answer = s.answer }) (made_of p (Loader who) cmd)

-- the process of which a soft purge tells: the first of those that linger in the old code, if there is such code
abbrev pub lingering : List Linger → Option ℕ → Option Linger
lingering [] old = None
lingering (l ∷ ls) None = None
lingering (l ∷ ls) (Some serial) = Some l

-- the command of the server with which a command of the script is made that is made at once, as these processes linger; a purge is, where there is no old code
abbrev pub command_opening : ServerState → List Linger → ScriptCmd → Cmd
command_opening s among (Load refs) = cmds.Load refs
command_opening s among (Delete name) = cmds.Delete name
command_opening s among (SoftPurge name) = cmds.SoftPurge name (lingering among (old_of s name.0))
command_opening s among (Purge name) = cmds.Purge name false
command_opening s among (CheckOld name) = cmds.CheckOld name
command_opening s among (Put key term) = cmds.Put key term
command_opening s among (Erase key) = cmds.Erase key
command_opening s among (Trace target on) = cmds.Trace target on
command_opening s among (Spawn target args) = cmds.Spawn target args

-- ---- commands that need no permission

-- a loader's next command is made at once
abbrev pub at_once_of : PermitState → ℕ → Option PermitStep
at_once_of p who = option_and_then (λ command. done_by p who command (command_opening p.server [] command)) (next_of p who)

-- the process that a loader's next command makes, if it makes one: its number is that of the spawn line
abbrev pub spawned_by : PermitState → ℕ → Option ScriptCmd → Option ℕ
spawned_by p who (Some (Spawn target args)) = Some (spawn_number p.script.loaders who (done_of p.loaders who))
spawned_by p who command = None

-- ---- commands that need the permission

-- a loader's command is done: the permission is free
abbrev pub freed : PermitStep → PermitStep
freed s = record { state = record (s.state) { holder = Free }; answer = s.answer }

-- a loader's next command is done by this last command of the server
abbrev pub command_ended : PermitState → ℕ → Cmd → Option PermitStep
command_ended p who cmd = option_and_then (λ command. option_map freed (done_by p who command cmd)) (next_of p who)

-- the old code that a command purges in two halves: that of a purge, where there is some
abbrev pub purged_code : ServerState → ScriptCmd → Option OldCode
purged_code s (Purge name) = option_map (λ serial. record { «module» = name; serial = serial }) (old_of s name.0)
purged_code s command = None

-- the first half of a purge: the module's old code is doomed
abbrev pub doomed_by : PermitState → ℕ → AtomId → Option PermitState
doomed_by p who name = option_map (λ s. record (s.state) { holder = Purging who name }) (made_of p (Loader who) (cmds.Doom name))

-- the entry of a trace that changes what is traced joins; its command is not done until the breakpoint is switched throughout
abbrev pub entered_trace : PermitState → ℕ → Mfa → Bool → Option PermitState
entered_trace p who target on =
    option_and_then (λ s. option_map (λ generation. record (s.state) { holder = Tracing who generation }) s.answer.published) (made_of p (Loader who) (cmds.Trace target on))

-- then it is done, with the answer of its entry
abbrev pub settled : PermitState → ℕ → ℕ → PermitStep
settled p by generation =
    record { state = record p { loaders = entered_by (Tracing by generation) p.loaders; holder = Free }; answer = record { reply = replies.True; published = Some generation } }

-- a command is done that purges no old code
abbrev pub command_begun : PermitState → List Linger → ℕ → ScriptCmd → Option OldCode → Option PermitStep
command_begun p among who command None = command_ended p who (command_opening p.server among command)
command_begun p among who command (Some code) = None

-- the loader that has the permission goes on with its next command to its end, where that purges no old code
abbrev pub advanced : PermitState → List Linger → ℕ → Holder → Option PermitStep
advanced p among who Free = None
advanced p among who (Held by) = option_and_then (λ command. command_begun p among who command (purged_code p.server command)) (next_of p who)
advanced p among who (Purging by name) = None
advanced p among who (Tracing by generation) = Some (settled p by generation)

-- ---- areas

-- the runtime releases an area
abbrev pub released_by : PermitState → ℕ → Option PermitState
released_by p serial = option_map (λ s. s.state) (made_of p Runtime (cmds.Release serial))
