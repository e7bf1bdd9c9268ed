-- What is made of a step's answer: the server makes a change that was published, and else the entry that joined before is taken back.
-- Source: this project's own; an entry joins the journal before the root is stored, so that nothing can fail behind that store.
use Rattle.std.specs.Prelude.{◌≡◌, ℕ, List, [], ◌∷◌, ◌++◌, slice_set, Some, Result, Ok, Err}
use Rattle.term_core.specs.declared.no_memory.NoMemory.{NoMemory}
use Rattle.server_core.specs.declared.change.Change.{Change}
use Rattle.server_core.specs.declared.command.Applied.{Applied}
use Rattle.server_core.specs.Decided.{change_made}
use Rattle.server_core.specs.ServerState.{IsSound}
use Rattle.run_log.specs.declared.logs.Entry.{Entry}
use Rattle.staging.specs.declared.stage.Stage.{Stage}
use Rattle.staging.specs.declared.stage.Step.{Step}
use Rattle.staging.specs.declared.stage.Step.TheVariants as steps
use Rattle.write_permit.specs.declared.book.Book.{Book}
use Rattle.write_permit.specs.declared.holder.Holder.TheVariants.{Free}
use Rattle.write_permit.specs.declared.loader_run.LoaderRun.{LoaderRun}
use Rattle.write_permit.specs.Agreement.{newest_followed, newest_of}
use Rattle.write_permit.specs.Book.{shown}
use Rattle.word_permit.specs.declared.answers.CommandStep.{CommandStep}
use Rattle.word_permit.specs.declared.answers.CommandStep.TheVariants.{Done, NotYet, AwaitRelease}
use Rattle.word_permit.specs.declared.book.Decision.{Decision}
use Rattle.word_permit.specs.declared.book.WordBook.{WordBook}

-- the change is made: the module table follows the newest entry, the loader is one command further, and the permission is free
pub record IsFinished (who : ℕ) (change : Change) (after : LoaderRun) (old new : Book) (applied : Applied) : Type 0 where
  pub made_is : change_made old.server change ≡ record { state = new.server; answer = applied }
  pub state : shown new ≡ record (shown old) { server = new.server; loaders = slice_set old.loaders.items who after; holder = Free }
  pub table : new.modules.instances ≡ newest_followed old.modules.instances new.server (newest_of old.journal)
  pub sound : IsSound new.server

-- what was decided for an entry
abbrev pub decision_of : Entry → Change → Decision
decision_of e change = record { cmd = e.cmd; change = change; applied = record { reply = e.reply; published = e.published } }

-- the newest entry is taken back
abbrev pub without_newest : WordBook → List Entry → WordBook
without_newest b before = record b { plain = record (b.plain) { journal = before } }

-- and what was decided for it waits at this stage
abbrev pub waiting_with : WordBook → List Entry → Entry → Change → Stage → WordBook
waiting_with b before e change stage = record (without_newest b before) { waiting = Some (record { decision = decision_of e change; stage = stage }) }

-- so it is, whatever the newest entry is
abbrev pub WaitsAt : Change → Stage → WordBook → WordBook → Type 0
WaitsAt change stage old new = (before : List Entry) (e : Entry) → old.plain.journal ≡ before ++ e ∷ [] → new ≡ waiting_with old before e change stage

-- what is made of each answer
abbrev pub IsSettled : ℕ → Change → Stage → LoaderRun → WordBook → WordBook → Result Step NoMemory → Result CommandStep NoMemory → Type 0
IsSettled who change stage after old new (Ok (steps.Published generation)) told = (applied : Applied) × ((told ≡ Ok (Done applied)) × (IsFinished who change after old.plain new.plain applied × (new ≡ record old { plain = new.plain })))
IsSettled who change stage after old new (Ok (steps.NotYet answer)) told = (told ≡ Ok (NotYet answer)) × WaitsAt change stage old new
IsSettled who change stage after old new (Ok steps.AwaitRelease) told = (told ≡ Ok AwaitRelease) × WaitsAt change stage old new
IsSettled who change stage after old new (Err fault) told = (told ≡ Err fault) × ((before : List Entry) (e : Entry) → old.plain.journal ≡ before ++ e ∷ [] → new ≡ without_newest old before)
