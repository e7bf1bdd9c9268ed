-- What a permit keeps over the words that all threads share, and what each call leaves of it.
-- Source: this project's profile; the phases of a load are those of erts internal documentation, CodeLoading.
use Rattle.std.specs.Prelude.{◌≡◌, ◌⊎◌, ℕ, ◌≤◌, Bool, List, [], ◌∷◌, ◌++◌, Option, Some, None, IfSome, IsSomeAnd, All, length}
use Rattle.atomic_table.specs.Seated.{TableId}
use Rattle.term_core.specs.declared.atom.Mfa.{Mfa}
use Rattle.shared_words.specs.declared.opening.Opening.{Opening}
use Rattle.progress_words.specs.declared.answers.NotYet as told
use Rattle.progress_words.specs.Tokens.{written_by}
use Rattle.change_laws.specs.Changes.{incoming}
use Rattle.change_laws.specs.Names.{IsNumbered}
use Rattle.server_core.specs.declared.change.Change.{Change}
use Rattle.server_core.specs.declared.change.Change.TheVariants.{SetTrace, ClearTrace}
use Rattle.server_core.specs.declared.command.Applied.{Applied}
use Rattle.server_core.specs.declared.command.Cmd.{Cmd}
use Rattle.server_core.specs.declared.command.Cmd.TheVariants.{Purge, Release, SoftPurge, Spawn}
use Rattle.server_core.specs.ServerState.{empty_state}
use Rattle.script_core.specs.declared.script.Script.{Script}
use Rattle.script_core.specs.declared.script.ScriptCmd.TheVariants.{Trace}
use Rattle.staging.specs.declared.tables.Tables.{Tables}
use Rattle.staging.specs.Placed.{NextAwaitsRelease}
use Rattle.staging.specs.Stages.{IsLateFor, areas_at, stage_number}
use Rattle.staging.specs.Traced.{IsPatchLate}
use Rattle.staging.specs.Whose.{AreTablesOf}
use Rattle.run_log.specs.declared.logs.Entry.{Entry}
use Rattle.write_permit.specs.declared.book.Book.{Book}
use Rattle.write_permit.specs.declared.holder.Holder.{Holder}
use Rattle.write_permit.specs.declared.holder.Holder.TheVariants.{Free, Held, Tracing}
use Rattle.write_permit.specs.Book.{IsBook, shown}
use Rattle.write_permit.specs.Permit.{advanced, entered_trace, given_up, next_of}
use Rattle.word_permit.specs.declared.answers.CommandStep.{CommandStep}
use Rattle.word_permit.specs.declared.answers.CommandStep.TheVariants.{Done, NotYet, AwaitRelease, Lingers}
use Rattle.word_permit.specs.declared.book.Waiting.{Waiting}
use Rattle.word_permit.specs.declared.book.WordBook.{WordBook}
use Rattle.word_permit.specs.Looks.{IsLookTaken}
use Rattle.word_permit.specs.Needs.{IsAwaited}
use Rattle.word_permit.specs.Answers.{AnswersAgree}
use Rattle.word_permit.specs.Notes.{AreThoseSpawned}
use Rattle.run_law.specs.Published.{ArePublished}
use Rattle.word_permit.specs.Runs.{Run}
use Rattle.word_permit.specs.Waiting.{WordsStand}

-- ---- what a permit keeps

-- the journal leads to the server, each loader's entries are those of its commands that are done, the writer has published what the journal has, and it keeps
-- what the journal tells of processes, the releases and drops that the journal tells, and what it waits for before an area is released; of its notes this is known
pub record HasTablesWith (names : List Mfa) (table : TableId) (opening : Opening) (Notes : Type 0) (b : WordBook) : Type 0 where
  pub book : IsBook b.plain
  -- each name that a text exports has a number
  pub texts : All (IsNumbered names) b.plain.script.modules
  pub tables : AreTablesOf table opening b.tables
  pub exports : b.tables.exports ≡ names
  pub published : ArePublished names b.plain.script.modules b.plain.journal (written_by b.tables.writer).published
  pub notes : Notes
  pub answered : AnswersAgree b.plain.script.modules b.plain.journal (written_by b.tables.writer).looks
  pub awaited : IfSome b.need (IsAwaited (written_by b.tables.writer))

-- and its notes are those of the processes that were spawned
abbrev pub HasItsTables : List Mfa → TableId → Opening → WordBook → Type 0
HasItsTables names table opening b = HasTablesWith names table opening (AreThoseSpawned b.plain.script b.plain.journal (written_by b.tables.writer).notes) b

-- and the words stand for the server
pub record IsWordBook (names : List Mfa) (table : TableId) (opening : Opening) (b : WordBook) : Type 0 where
  pub has : HasItsTables names table opening b
  pub words : WordsStand names (shown b.plain) b.tables b.waiting
  -- and what is waited for before a look for frames was taken at the newest generation
  pub looked : IfSome b.look (IsLookTaken (written_by b.tables.writer))

-- a call keeps this, over whatever words and by whatever numbers of names, and the words are as before
pub record IsKept (old new : WordBook) : Type 0 where
  pub tables : new.tables ≡ old.tables
  pub script : new.plain.script ≡ old.plain.script
  pub book : (names : List Mfa) (table : TableId) (opening : Opening) → IsWordBook names table opening old → IsWordBook names table opening new

-- so it is before the first command
pub record IsBegun (script : Script) (t : Tables) (b : WordBook) : Type 0 where
  pub script_is : b.plain.script ≡ script
  pub journal : b.plain.journal ≡ []
  pub server : b.plain.server ≡ empty_state
  pub holder : b.plain.holder ≡ Free
  pub tables : b.tables ≡ t
  pub waiting : b.waiting ≡ None
  pub need : b.need ≡ None
  pub look : b.look ≡ None

-- a permit keeps it of the run that a name stands for
abbrev pub KeepsRun : List Mfa → Option Run → WordBook → Type 0
KeepsRun names run b = IsSomeAnd run (λ r. IsWordBook names r.table r.opening b × (b.plain.script ≡ r.script))

-- ---- what a call leaves

-- what waits to be published, and the values that a release and a look wait for, are as before
pub record IsWaitingStill (old new : WordBook) : Type 0 where
  pub waiting : new.waiting ≡ old.waiting
  pub need : new.need ≡ old.need
  pub look : new.look ≡ old.look

-- as many generations are published as before
abbrev pub PublishesNone : WordBook → WordBook → Type 0
PublishesNone old new = (written_by new.tables.writer).published ≡ (written_by old.tables.writer).published

-- the loader's command is done: its entry joined the journal, the server made it, and the permission is free
pub record EndsPlain (who : ℕ) (old new : Book) (applied : Applied) : Type 0 where
  pub step : advanced (shown old) [] who old.holder ≡ Some (record { state = shown new; answer = applied })
  pub script : new.script ≡ old.script

-- a command that tells nothing of processes
abbrev pub TellsNone : Cmd → Type 0
TellsNone (Release serial) = ⊥
TellsNone (SoftPurge name linger) = ⊥
TellsNone (Purge name killed) = ⊥
TellsNone cmd = Unit {0}

-- a command that makes no process
abbrev pub SpawnsNone : Cmd → Type 0
SpawnsNone (Spawn target args) = ⊥
SpawnsNone cmd = Unit {0}

-- an entry joined that publishes nothing, and tells nothing of processes
abbrev pub JoinsQuietly : List Entry → List Entry → Type 0
JoinsQuietly old new = (e : Entry) × ((new ≡ old ++ e ∷ []) × ((e.published ≡ None) × TellsNone e.cmd))

-- and makes none
abbrev pub JoinsUnpublished : List Entry → List Entry → Type 0
JoinsUnpublished old new = (e : Entry) × ((new ≡ old ++ e ∷ []) × ((e.published ≡ None) × (TellsNone e.cmd × SpawnsNone e.cmd)))

-- the stage of what waits is not behind that of what waited before
abbrev pub StageGoesOn : Option Waiting → Option Waiting → Type 0
StageGoesOn old new = IfSome old (λ before. IfSome new (λ after. stage_number before.stage ≤ stage_number after.stage))

-- nothing is published and no entry joined, and this is why the command waits; where it waited before, the words are no less far with it
pub record HasWaited (old new : WordBook) (Why : Type 0) : Type 0 where
  pub same : shown new.plain ≡ shown old.plain
  pub published : PublishesNone old new
  pub waits : (w : Waiting) × (new.waiting ≡ Some w)
  pub forward : StageGoesOn old.waiting new.waiting
  pub why : Why

-- what a change waits for: the same value as before this call, if it waited then; one of what is traced for that of its patch, whose next phase has another
-- one once the counter has reached it
abbrev pub IsLateBy : Change → Tables → Tables → told.NotYet → Type 0
IsLateBy (SetTrace generation at traced) old new answer = IsPatchLate old new answer
IsLateBy (ClearTrace generation at) old new answer = IsPatchLate old new answer
IsLateBy change old new answer = IsLateFor change old new answer

-- the command waits on as it was decided, for the value that its change waits for, and the counter that was loaded in this call is below it
pub record IsLateStill (old new : WordBook) (answer : told.NotYet) : Type 0 where
  pub waiting : Waiting
  pub waits : new.waiting ≡ Some waiting
  pub same : IfSome old.waiting (λ before. waiting.decision ≡ before.decision)
  -- it lacks no block: all that it brings in has its area
  pub placed : length (areas_at waiting.stage) ≡ length (incoming waiting.decision.change)
  pub late : IsLateBy waiting.decision.change old.tables new.tables answer

-- the command waits on as it was decided, for a block: in the pool of what comes in next none is free, and one waits for its release
pub record LacksBlock (old new : WordBook) : Type 0 where
  pub waiting : Waiting
  pub waits : new.waiting ≡ Some waiting
  pub same : IfSome old.waiting (λ before. waiting.decision ≡ before.decision)
  pub lacks : NextAwaitsRelease waiting.decision.change new.tables.pools (areas_at waiting.stage)

-- nothing changes: the trace was published before
pub record StillSettles (who : ℕ) (old new : WordBook) : Type 0 where
  pub generation : ℕ
  pub holds : old.plain.holder ≡ Tracing who generation
  pub same : shown new.plain ≡ shown old.plain
  pub published : PublishesNone old new

-- the trace's entry joined the journal, and the generation that shows it is published
pub record HasEntered (who : ℕ) (old new : WordBook) : Type 0 where
  pub target : Mfa
  pub on : Bool
  pub holds : old.plain.holder ≡ Held who
  pub next : next_of (shown old.plain) who ≡ Some (Trace target on)
  pub entered : entered_trace (shown old.plain) who target on ≡ Some (shown new.plain)

-- the trace waits for a value of its patch, as it did or since its entry joined; the counter that was loaded in this call is below it. It is the value that
-- the patch waited for before this call, unless that counter has reached that one
pub record AwaitsPatch (who : ℕ) (old new : WordBook) (answer : told.NotYet) : Type 0 where
  pub late : IsPatchLate old.tables new.tables answer
  pub none : new.waiting ≡ None
  pub since : StillSettles who old new ⊎ HasEntered who old new

-- what each answer says of a command that purges nothing: it waits for no process
abbrev pub OpAnswers : ℕ → WordBook → WordBook → CommandStep → Type 0
OpAnswers who old new (Done applied) = EndsPlain who old.plain new.plain applied
OpAnswers who old new (NotYet answer) = HasWaited old new (IsLateStill old new answer) ⊎ AwaitsPatch who old new answer
OpAnswers who old new AwaitRelease = HasWaited old new (LacksBlock old new)
OpAnswers who old new (Lingers process turn place word) = ⊥

-- want of memory: no entry joined and nothing is published, what was staged is taken back, and nothing waits
pub record HasTakenBack (old new : WordBook) : Type 0 where
  pub same : shown new.plain ≡ shown old.plain
  pub published : PublishesNone old new
  pub none : new.waiting ≡ None

-- another has the permission, or nobody
abbrev pub with_holder : WordBook → Holder → WordBook
with_holder b holder = record b { plain = record (b.plain) { holder = holder } }

-- and the loader gave the permission up
pub record HasGivenUp (old new : WordBook) : Type 0 where
  pub same : shown new.plain ≡ record (shown old.plain) { holder = given_up old.plain.holder }
  pub published : PublishesNone old new
  pub none : new.waiting ≡ None
