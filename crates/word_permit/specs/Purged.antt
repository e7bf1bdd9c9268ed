-- What soft purges and purges leave, call by call: each waits at the newest generation, looks through all slots, and ends once a look tells how.
-- Source: Erlang/OTP, the manual pages code (soft_purge, purge) and erlang (purge_module); that each call gives one answer is this project's own.
use Rattle.std.specs.Prelude.{◌≡◌, ◌⊎◌, ℕ, ◌<◌, ◌≤◌, Bool, true, false, List, ◌++◌, length, Option, Some, None, IfSome, IsSomeAnd}
use Rattle.term_core.specs.declared.atom.AtomId.{AtomId}
use Rattle.mod_core.specs.declared.code.Module.{Module}
use Rattle.area_core.specs.Generations.{names_frame}
use Rattle.marks.specs.declared.kept.LookKind.TheVariants.{Frame}
use Rattle.marks.specs.declared.kept.WriterKept.{WriterKept}
use Rattle.marks.specs.Steps.{with_drop_kept, with_lingering}
use Rattle.shared_words.specs.declared.view.WriterView.{WriterView}
use Rattle.shared_words.specs.Drops.{AgreesWithLooks, drop_of}
use Rattle.shared_words.specs.Lingering.{anchor_again, lingering_of, with_anchor_found}
use Rattle.shared_words.specs.Views.{newest_number}
use Rattle.progress_words.specs.declared.answers.NotYet as late
use Rattle.progress_words.specs.Tokens.{written_by}
use Rattle.anchors.specs.declared.answers.Scan.{Scan}
use Rattle.anchors.specs.declared.answers.Scan.TheVariants as scans
use Rattle.server_core.specs.declared.change.Change.{Change}
use Rattle.server_core.specs.declared.change.Change.TheVariants.{Condemn, DropOld}
use Rattle.server_core.specs.declared.command.Applied.{Applied}
use Rattle.server_core.specs.declared.command.Cmd.{Cmd}
use Rattle.server_core.specs.declared.command.Cmd.TheVariants as cmds
use Rattle.server_core.specs.declared.command.Linger.{Linger}
use Rattle.server_core.specs.declared.command.Reply.TheVariants as replies
use Rattle.server_core.specs.CommandTable.{Outcome, answered, apply_of}
use Rattle.server_core.specs.Decided.{Fits, change_made}
use Rattle.server_core.specs.ServerState.{IsSound, ServerState, old_of}
use Rattle.script_core.specs.declared.script.ScriptCmd.{ScriptCmd}
use Rattle.script_core.specs.declared.script.ScriptCmd.TheVariants.{Purge, SoftPurge}
use Rattle.run_log.specs.declared.logs.Entry.{Entry}
use Rattle.run_law.specs.Answers.{IsAnswerKept}
use Rattle.breakpoints.specs.Patches.{LoadsCounter}
use Rattle.write_permit.specs.declared.book.Book.{Book}
use Rattle.write_permit.specs.declared.holder.Holder.{Holder}
use Rattle.write_permit.specs.declared.holder.Holder.TheVariants.{Held, Purging}
use Rattle.write_permit.specs.Agreement.{newest_followed, newest_of}
use Rattle.write_permit.specs.Book.{EndsBy, shown}
use Rattle.write_permit.specs.Permit.{PermitState, done_of, doomed_by, command_ended, next_of}
use Rattle.word_permit.specs.declared.answers.CommandStep.{CommandStep}
use Rattle.word_permit.specs.declared.answers.CommandStep.TheVariants.{Done, NotYet, AwaitRelease, Lingers}
use Rattle.word_permit.specs.declared.book.Decision.{Decision}
use Rattle.word_permit.specs.declared.book.WordBook.{WordBook}
use Rattle.word_permit.specs.declared.purging.Purged.{Purged}
use Rattle.word_permit.specs.declared.purging.Purged.TheVariants.{Softly, Wholly}
use Rattle.word_permit.specs.Answers.{TellsDrop}
use Rattle.word_permit.specs.Books.{OpAnswers, PublishesNone}
use Rattle.word_permit.specs.Looks.{HasLookedFor, IsLookTaken}
use Rattle.word_permit.specs.Waiting.{GoesOverWords}

-- ---- which commands

-- a soft purge or a purge
abbrev pub is_purge : ScriptCmd → Bool
is_purge (SoftPurge name) = true
is_purge (Purge name) = true
is_purge command = false

-- a loader's next command is one
abbrev pub Purges : PermitState → ℕ → Type 0
Purges p who = IsSomeAnd (next_of p who) (λ command. is_purge command ≡ true)

-- the command purges the old code with this serial
abbrev pub IsOldCodeOf : ServerState → ScriptCmd → ℕ → Type 0
IsOldCodeOf s (SoftPurge name) serial = old_of s name.0 ≡ Some serial
IsOldCodeOf s (Purge name) serial = old_of s name.0 ≡ Some serial
IsOldCodeOf s command serial = ⊥

-- the last command of the server for the loader's next one is this one
abbrev pub EndsNext : PermitState → ℕ → Cmd → Type 0
EndsNext p who cmd = IsSomeAnd (next_of p who) (λ command. EndsBy p p.holder command cmd)

-- ---- a command of the server

-- the command table has a case for it, and what it answers was told
pub record IsMadeBy (p : PermitState) (d : Decision) : Type 0 where
  pub fits : Fits p.server d.change
  pub given : apply_of p.script.modules p.server d.cmd ≡ Some (change_made p.server d.change)
  pub answer : (change_made p.server d.change).answer ≡ d.applied

-- the change drops the old code with this serial
abbrev pub DropsCode : Change → ℕ → Type 0
DropsCode (DropOld generation name serial says retired) dropped = serial ≡ dropped
DropsCode change dropped = ⊥

-- the change dooms old code
abbrev pub DoomsCode : Change → Type 0
DoomsCode (Condemn generation serial) = Unit {0}
DoomsCode change = ⊥

-- the command leaves the server's state
abbrev pub LeavesServer : List Module → ServerState → Cmd → Type 0
LeavesServer texts s cmd = (o : Outcome) → apply_of texts s cmd ≡ Some o → (o.state ≡ s) × (o.answer.published ≡ None)

-- what the command tells of processes is kept, in this state and at the newest generation
abbrev pub IsToldBy : ServerState → WriterView → WriterKept → Cmd → Type 0
IsToldBy s w kept cmd = IsAnswerKept s (newest_number w.published) kept cmd

-- so it is once the drop of the old code is kept besides, and it tells of that drop
abbrev pub IsToldByDrop : ServerState → WriterView → ℕ → Cmd → Type 0
IsToldByDrop s w serial cmd =
    ((kept : WriterKept) → kept ≡ with_drop_kept w.looks (drop_of w Frame serial) → AgreesWithLooks w.looks (drop_of w Frame serial) → IsToldBy s w kept cmd)
    × TellsDrop s (newest_number w.published) (drop_of w Frame serial) cmd

-- ---- what a call leaves

-- the counter was loaded or slots were, and nothing that the permit shows or publishes has changed
pub record JustLooks (old new : WordBook) : Type 0 where
  pub plain : new.plain ≡ old.plain
  pub published : PublishesNone old new
  pub waiting : new.waiting ≡ old.waiting
  pub longer : length (written_by old.tables.writer).pairs ≤ length (written_by new.tables.writer).pairs

-- the newest counter that the writer loaded is below the value that is waited for, which is the last that was taken, at the newest generation
pub record IsLookLate (new : WordBook) (answer : late.NotYet) : Type 0 where
  pub looks : new.look ≡ Some answer.need
  pub taken : IsLookTaken (written_by new.tables.writer) answer.need
  pub loaded : answer.current ≡ (written_by new.tables.writer).counter
  pub below : answer.current < answer.need

-- nothing changes but that the counter was loaded in this call, and it is the value that was waited for before
pub record StillWaits (old new : WordBook) (need : ℕ) : Type 0 where
  pub same : shown new.plain ≡ shown old.plain
  pub published : PublishesNone old new
  pub still : IfSome old.look (λ value. value ≡ need)
  pub loads : LoadsCounter (written_by old.tables.writer) (written_by new.tables.writer)

-- a purge dooms in its first call: one that goes on has doomed its code before
abbrev pub HasBegun : ℕ → WordBook → Type 0
HasBegun who b = (name : AtomId) → next_of (shown b.plain) who ≡ Some (Purge name) → b.plain.holder ≡ Purging who name

-- the loader's purge has begun: the old code is doomed, and the generation that shows it is published
pub record HasDoomedCode (who : ℕ) (old new : WordBook) : Type 0 where
  pub name : AtomId
  pub holds : old.plain.holder ≡ Held who
  pub next : next_of (shown old.plain) who ≡ Some (Purge name)
  pub doomed : doomed_by (shown old.plain) who name ≡ Some (shown new.plain)

-- the purge waits before it looks, as it did, or since its old code is doomed: then its value was taken behind that, in this call
pub record AwaitsLook (who : ℕ) (old new : WordBook) (answer : late.NotYet) : Type 0 where
  pub waits : IsLookLate new answer
  pub none : new.waiting ≡ None
  pub since : (HasBegun who old × StillWaits old new answer.need) ⊎ HasDoomedCode who old new

-- which of the two commands it is: a purge, whose code is doomed, or a soft purge, which dooms nothing
abbrev pub LingersAs : ℕ → Holder → ScriptCmd → Type 0
LingersAs who holder (SoftPurge name) = holder ≡ Held who
LingersAs who holder (Purge name) = holder ≡ Purging who name
LingersAs who holder command = ⊥

-- the anchor that the look found was loaded once more behind it, and names the old code no more; the writer has learnt no more than that
pub record HasLeftCode (serial process turn place : ℕ) (known new : WriterView) : Type 0 where
  pub word : ℕ
  pub left : names_frame word serial ≡ false
  pub view : new ≡ with_anchor_found (anchor_again place word (lingering_of known process serial turn) known) known

-- what the writer has learnt behind the look: for a soft purge, that the process has left the old code; for a purge, nothing
abbrev pub IsLearntBehind : Holder → ℕ → ℕ → ℕ → ℕ → WriterView → WriterView → Type 0
IsLearntBehind (Held who) serial process turn place known new = HasLeftCode serial process turn place known new
IsLearntBehind (Purging who name) serial process turn place known new = new ≡ known
IsLearntBehind holder serial process turn place known new = ⊥

-- the purge waits: a look that was made in this call, behind a wait at the newest generation, found an anchor that names its old code for a frame. Of
-- slots the writer has learnt by that look, and a soft purge besides that the anchor, which it loaded again, names the code no more: where it names the
-- code still, the process lingers, and the soft purge is done
pub record LingersIn (who : ℕ) (old new : WordBook) (process turn place word : ℕ) : Type 0 where
  pub begun : HasBegun who old
  pub same : shown new.plain ≡ shown old.plain
  pub published : PublishesNone old new
  pub none : new.waiting ≡ None
  pub serial : ℕ
  pub code : IsSomeAnd (next_of (shown old.plain) who) (λ command. IsOldCodeOf old.plain.server command serial)
  pub holds : IsSomeAnd (next_of (shown old.plain) who) (LingersAs who old.plain.holder)
  -- what the writer knew behind the look
  pub known : WriterView
  pub found : HasLookedFor serial (written_by old.tables.writer) known (scans.Named process turn place word)
  pub learnt : IsLearntBehind old.plain.holder serial process turn place known (written_by new.tables.writer)

-- what the last command of a soft purge or a purge answers
abbrev pub RepliesSo : Cmd → Applied → Type 0
RepliesSo (cmds.SoftPurge name None) applied = applied.reply ≡ replies.True
RepliesSo (cmds.SoftPurge name (Some linger)) applied = applied.reply ≡ replies.FalseBy linger
RepliesSo (cmds.Purge name killed) applied = applied.reply ≡ answered killed
RepliesSo cmd applied = Unit {0}

-- the loader's command is done by this last command of the server, and the writer keeps what that tells of processes
pub record EndsWith (who : ℕ) (cmd : Cmd) (old new : WordBook) (applied : Applied) : Type 0 where
  pub ends : EndsNext (shown old.plain) who cmd
  pub step : command_ended (shown old.plain) who cmd ≡ Some (record { state = shown new.plain; answer = applied })
  pub reply : RepliesSo cmd applied
  pub told : IsToldBy old.plain.server (written_by old.tables.writer) (written_by new.tables.writer).looks cmd
  pub none : new.waiting ≡ None

-- of looks the drop of the old code is kept besides, and nothing else
abbrev pub IsCodeDropped : ℕ → WriterView → WriterView → Type 0
IsCodeDropped serial known new = new.looks ≡ with_drop_kept known.looks (drop_of known Frame serial)

-- of looks the answer is kept besides that this process lingers, and nothing else
pub record IsLingerKept (serial process turn : ℕ) (known new : WriterView) (linger : Linger) : Type 0 where
  pub linger_is : linger ≡ record { process = process; turn = turn }
  pub looks : new.looks ≡ with_lingering known.looks (lingering_of known process serial turn)

-- what a look found ends the command: where it was clear the old code goes, and a purge tells whether that has killed one; where it named a process, a soft
-- purge tells that this one lingers, and a purge does not end
abbrev pub IsEndedBy : ℕ → Scan → WriterView → WriterView → Cmd → Type 0
IsEndedBy serial (scans.Clear killed) known new (cmds.SoftPurge name None) = IsCodeDropped serial known new
IsEndedBy serial (scans.Clear killed) known new (cmds.Purge name told) = (told ≡ killed) × IsCodeDropped serial known new
IsEndedBy serial (scans.Named process turn place word) known new (cmds.SoftPurge name (Some linger)) = IsLingerKept serial process turn known new linger
IsEndedBy serial scan known new cmd = ⊥

-- in this call the writer looked for the old code, behind a wait at the newest generation, and what it found ended the command
pub record EndsByLook (serial : ℕ) (cmd : Cmd) (old new : WriterView) : Type 0 where
  -- what the writer knew behind the look
  pub known : WriterView
  pub published : known.published ≡ old.published
  pub scan : Scan
  pub found : HasLookedFor serial old known scan
  pub ends : IsEndedBy serial scan known new cmd

-- so it is where there is old code; where there is none, the writer has made no step
abbrev pub EndsByCode : Option ℕ → Cmd → WriterView → WriterView → Type 0
EndsByCode (Some serial) cmd old new = EndsByLook serial cmd old new
EndsByCode None cmd old new = new ≡ old

-- the command names a module with this old code
abbrev pub NamesCode : ServerState → ℕ → Cmd → Type 0
NamesCode s serial (cmds.SoftPurge name linger) = old_of s name.0 ≡ Some serial
NamesCode s serial (cmds.Purge name killed) = old_of s name.0 ≡ Some serial
NamesCode s serial cmd = ⊥

-- by the old code of the module that the command names
abbrev pub IsEndLooked : ServerState → WriterView → WriterView → Cmd → Type 0
IsEndLooked s old new (cmds.SoftPurge name linger) = EndsByCode (old_of s name.0) (cmds.SoftPurge name linger) old new
IsEndLooked s old new (cmds.Purge name killed) = EndsByCode (old_of s name.0) (cmds.Purge name killed) old new
IsEndLooked s old new cmd = ⊥

-- the loader's soft purge or purge is done by this last command of the server, and by a look of this very call, if there is old code
pub record EndsPurge (who : ℕ) (old new : WordBook) (applied : Applied) : Type 0 where
  pub cmd : Cmd
  pub ended : EndsWith who cmd old new applied
  pub looked : IsEndLooked old.plain.server (written_by old.tables.writer) (written_by new.tables.writer) cmd

-- what each answer says
abbrev pub PurgeAnswers : ℕ → WordBook → WordBook → CommandStep → Type 0
PurgeAnswers who old new (Done applied) = EndsPurge who old new applied
PurgeAnswers who old new (NotYet answer) = AwaitsLook who old new answer
PurgeAnswers who old new AwaitRelease = ⊥
PurgeAnswers who old new (Lingers process turn place word) = LingersIn who old new process turn place word

-- what is so where a call ends the command by this last command of the server
abbrev pub EndAnswers : ℕ → Cmd → WordBook → WordBook → CommandStep → Type 0
EndAnswers who cmd old new (Done applied) = EndsWith who cmd old new applied
EndAnswers who cmd old new (NotYet answer) = ⊥
EndAnswers who cmd old new AwaitRelease = ⊥
EndAnswers who cmd old new (Lingers process turn place word) = ⊥

-- the look named this anchor, and nothing has changed since; a soft purge has learnt that the process has left the old code
pub record AwaitsFound (serial : ℕ) (scan : Scan) (old new : WordBook) (process turn place word : ℕ) : Type 0 where
  pub found : scan ≡ scans.Named process turn place word
  pub same : shown new.plain ≡ shown old.plain
  pub published : PublishesNone old new
  pub learnt : IsLearntBehind old.plain.holder serial process turn place (written_by old.tables.writer) (written_by new.tables.writer)
  pub none : new.waiting ≡ None

-- the command ends by what the look found
pub record EndsByFound (who serial : ℕ) (scan : Scan) (old new : WordBook) (applied : Applied) : Type 0 where
  pub cmd : Cmd
  pub ended : EndsWith who cmd old new applied
  pub code : NamesCode old.plain.server serial cmd
  pub ends : IsEndedBy serial scan (written_by old.tables.writer) (written_by new.tables.writer) cmd

-- what is so behind a look: the command ends, or waits for whom the look found
abbrev pub LookAnswers : ℕ → ℕ → Scan → WordBook → WordBook → CommandStep → Type 0
LookAnswers who serial scan old new (Done applied) = EndsByFound who serial scan old new applied
LookAnswers who serial scan old new (NotYet answer) = ⊥
LookAnswers who serial scan old new AwaitRelease = ⊥
LookAnswers who serial scan old new (Lingers process turn place word) = AwaitsFound serial scan old new process turn place word

-- the same of each command that needs the permission
pub record CommandAnswers (who : ℕ) (old new : WordBook) (step : CommandStep) : Type 0 where
  pub goes : IsSomeAnd (next_of (shown old.plain) who) GoesOverWords → OpAnswers who old new step
  pub purges : Purges (shown old.plain) who → PurgeAnswers who old new step

-- the command of the script that is purged by
abbrev pub purging_command : Purged → ScriptCmd
purging_command (Softly name) = SoftPurge name
purging_command (Wholly name) = Purge name

-- what a command of the script purges, if it does
abbrev pub purged_by : ScriptCmd → Option Purged
purged_by (SoftPurge name) = Some (Softly name)
purged_by (Purge name) = Some (Wholly name)
purged_by command = None

-- the change with which old code is doomed is made: the module table follows the newest entry, and the purge waits
pub record IsDoomMade (who : ℕ) (name : AtomId) (change : Change) (old new : Book) : Type 0 where
  pub applied : Applied
  pub made_is : change_made old.server change ≡ record { state = new.server; answer = applied }
  pub state : shown new ≡ record (shown old) { server = new.server; holder = Purging who name }
  pub table : new.modules.instances ≡ newest_followed old.modules.instances new.server (newest_of old.journal)
  pub sound : IsSound new.server

-- entries join, no loader has fewer commands done, and the script stays
pub record HasGrown (old new : Book) : Type 0 where
  pub script : new.script ≡ old.script
  pub more : List Entry
  pub journal : new.journal ≡ old.journal ++ more
  pub done : (loader : ℕ) → done_of old.loaders.items loader ≤ done_of new.loaders.items loader
