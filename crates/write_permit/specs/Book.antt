-- What a permit keeps: the journal leads to the server, each loader's entries are the first of its commands, and the module table agrees with the server.
-- Source: this project's profile. A commit takes all its memory before its entry, so these facts hold after want of memory too.
use Rattle.std.specs.Prelude.{◌≡◌, ℕ, ◌≤◌, Bool, true, List, [], ◌∷◌, length, take, slice_get, Some, None, IsSomeAnd}
use Rattle.term_core.specs.declared.atom.AtomId.{AtomId}
use Rattle.term_core.specs.declared.atom.Mfa.{Mfa}
use Rattle.server_core.specs.declared.command.Cmd.{Cmd}
use Rattle.server_core.specs.declared.command.Cmd.TheVariants as cmds
use Rattle.server_core.specs.declared.command.Reply.TheVariants as replies
use Rattle.server_core.specs.ServerState.{ServerState, IsSound, empty_state, old_of}
use Rattle.server_core.specs.CommandTable.{published}
use Rattle.server_core.specs.Decided.{with_doomed}
use Rattle.script_core.specs.declared.script.Script.{Script}
use Rattle.script_core.specs.declared.script.ScriptCmd.TheVariants.{Purge, Trace}
use Rattle.script_core.specs.declared.script.ScriptCmd.{ScriptCmd}
use Rattle.script_core.specs.Processes.{first_number, spawn_number}
use Rattle.script_core.specs.Sound.{IsScript}
use Rattle.run_log.specs.declared.logs.Entry.{Entry}
use Rattle.run_log.specs.declared.logs.Who.TheVariants.{Loader}
use Rattle.run_log.specs.Journal.{newest_state}
use Rattle.run_log.specs.Legal.{PurgesGo, Replays, commands_in, commands_of}
use Rattle.write_permit.specs.declared.book.Book.{Book}
use Rattle.write_permit.specs.declared.holder.Holder.{Holder}
use Rattle.write_permit.specs.declared.holder.Holder.TheVariants.{Free, Held, Purging, Tracing}
use Rattle.write_permit.specs.declared.loader_run.LoaderRun.{LoaderRun}
use Rattle.server_core.specs.declared.command.Linger.{Linger}
use Rattle.write_permit.specs.Agreement.{AgreesWithServer}
use Rattle.write_permit.specs.Permit.{PermitState, done_of, entered_by, half_of, needs_permission, next_of, command_opening, purged_code}

-- what a permit shows of what it keeps
abbrev pub shown : Book → PermitState
shown b = record { script = b.script; server = b.server; journal = b.journal; loaders = b.loaders.items; holder = b.holder }

-- the journal leads to the server, and each loader's entries end the first of its commands, in order; the loaders are as the journal has them
pub record IsLog (script : Script) (server : ServerState) (journal : List Entry) (loaders : List LoaderRun) : Type 0 where
  pub replays : Replays script.modules empty_state journal
  pub server_is : server ≡ newest_state script.modules empty_state journal
  pub many : length loaders ≡ length script.loaders
  pub within : (loader : ℕ) → done_of loaders loader ≤ length (commands_of script loader)
  pub in_order : (loader : ℕ) → commands_in loader journal ≡ take (done_of loaders loader) (commands_of script loader)
  pub numbers : (loader : ℕ) (l : LoaderRun) → slice_get loaders loader ≡ Some l → l.next_process ≡ spawn_number script.loaders loader l.done

-- no command of a loader is done, and each one's next process is its first
pub record HaveBegun (all : List (List ScriptCmd)) (loaders : List LoaderRun) : Type 0 where
  pub many : length loaders ≡ length all
  pub each : (loader : ℕ) (l : LoaderRun) → slice_get loaders loader ≡ Some l → (l.done ≡ 0) × (l.next_process ≡ first_number all loader)

-- nothing is doomed while a loader has the permission whose next command needs it
pub record IsHeld (p : PermitState) (by : ℕ) : Type 0 where
  pub rest : p.server.doomed ≡ []
  pub next : IsSomeAnd (next_of p by) (λ command. needs_permission command ≡ true)

-- a purge waits: it is the next command of its loader, and just the old code of its module is doomed
pub record PurgeWaits (p : PermitState) (by : ℕ) (name : AtomId) : Type 0 where
  pub next : next_of p by ≡ Some (Purge name)
  pub doomed : IsSomeAnd (old_of p.server name.0) (λ serial. p.server.doomed ≡ serial ∷ [])

-- a trace waits: it is the next command of its loader, its entry is in the journal with the generation that it published, and nothing is doomed
pub record TraceWaits (p : PermitState) (by generation : ℕ) : Type 0 where
  pub rest : p.server.doomed ≡ []
  pub target : Mfa
  pub on : Bool
  pub next : next_of p by ≡ Some (Trace target on)
  pub place : ℕ
  pub entry : slice_get p.journal place ≡ Some (record { who = Loader by; cmd = cmds.Trace target on; reply = replies.True; published = Some generation })

-- what is doomed, and what the loader is about that has the permission
abbrev pub HoldsJust : PermitState → Holder → Type 0
HoldsJust p Free = p.server.doomed ≡ []
HoldsJust p (Held by) = IsHeld p by
HoldsJust p (Purging by name) = PurgeWaits p by name
HoldsJust p (Tracing by generation) = TraceWaits p by generation

-- the last command of the server for a command of the loader that has the permission: the command is made at once, unless it purges old code, or its
-- purge comes to its end
abbrev pub EndsBy : PermitState → Holder → ScriptCmd → Cmd → Type 0
EndsBy p Free command cmd = ⊥
EndsBy p (Held by) command cmd = (purged_code p.server command ≡ None) × ((among : List Linger) × (cmd ≡ command_opening p.server among command))
EndsBy p (Purging by name) command cmd = (killed : Bool) × (cmd ≡ cmds.Purge name killed)
EndsBy p (Tracing by generation) command cmd = ⊥

-- the server's state once old code is doomed
abbrev pub after_doom : ServerState → ℕ → ServerState
after_doom s serial = (published (with_doomed s serial) replies.Ok).state

-- what every permit shows
pub record IsPermit (p : PermitState) : Type 0 where
  pub script : IsScript p.script
  pub log : IsLog p.script p.server p.journal (entered_by p.holder p.loaders)
  pub sound : IsSound p.server
  pub purges : PurgesGo p.script.modules empty_state None p.journal (half_of p.holder)
  pub holds : HoldsJust p p.holder

-- what every permit keeps
pub record IsBook (b : Book) : Type 0 where
  pub permit : IsPermit (shown b)
  pub agrees : AgreesWithServer b.modules.instances b.server
