-- A trace by its phases: what is made of a step's answer, and what each half leaves, up to the store of the root and behind it.
-- Source: Erlang/OTP erts internal documentation, Tracing; that the entry joins with the store of the root is this project's own.
use Rattle.std.specs.Prelude.{◌≡◌, ℕ, Some, None}
use Rattle.progress_words.specs.declared.answers.NotYet.{NotYet}
use Rattle.server_core.specs.declared.change.Change.{Change}
use Rattle.server_core.specs.declared.command.Applied.{Applied}
use Rattle.server_core.specs.Decided.{change_made}
use Rattle.server_core.specs.ServerState.{IsSound}
use Rattle.staging.specs.declared.stage.Stage.{Stage}
use Rattle.staging.specs.declared.stage.Step.{Step}
use Rattle.staging.specs.declared.stage.Step.TheVariants as steps
use Rattle.staging.specs.Traced.{IsPatchLate, NeedGoesOn}
use Rattle.write_permit.specs.declared.book.Book.{Book}
use Rattle.write_permit.specs.declared.holder.Holder.TheVariants.{Tracing}
use Rattle.write_permit.specs.Agreement.{newest_followed, newest_of}
use Rattle.write_permit.specs.Book.{shown}
use Rattle.word_permit.specs.declared.answers.CommandStep.{CommandStep}
use Rattle.word_permit.specs.declared.answers.CommandStep.TheVariants as told
use Rattle.word_permit.specs.declared.book.Decision.{Decision}
use Rattle.word_permit.specs.declared.book.Waiting.{Waiting}
use Rattle.word_permit.specs.declared.book.WordBook.{WordBook}
use Rattle.word_permit.specs.Books.{EndsPlain, HasEntered, HasWaited, IsLateStill, StillSettles}
use Rattle.word_permit.specs.Settled.{WaitsAt}

-- ---- a step's answer

-- the trace is made: the module table follows the newest entry, and the breakpoint that this generation shows is to be switched throughout
pub record IsTraceMade (who generation : ℕ) (change : Change) (old new : Book) : Type 0 where
  pub applied : Applied
  pub made_is : change_made old.server change ≡ record { state = new.server; answer = applied }
  pub state : shown new ≡ record (shown old) { server = new.server; holder = Tracing who generation }
  pub table : new.modules.instances ≡ newest_followed old.modules.instances new.server (newest_of old.journal)
  pub sound : IsSound new.server

-- what is made of each answer
abbrev pub IsEntered : ℕ → Change → Stage → WordBook → WordBook → Step → Type 0
IsEntered who change stage old new (steps.Published generation) = IsTraceMade who generation change old.plain new.plain × (new ≡ record old { plain = new.plain })
IsEntered who change stage old new (steps.NotYet answer) = WaitsAt change stage old new
IsEntered who change stage old new steps.AwaitRelease = WaitsAt change stage old new

-- ---- up to the store of the root

-- the trace waits on as it was decided
pub record SwitchWaits (d : Decision) (old new : WordBook) (answer : NotYet) : Type 0 where
  pub waits : HasWaited old new (IsLateStill old new answer)
  pub waiting : Waiting
  pub is : new.waiting ≡ Some waiting
  pub decision : waiting.decision ≡ d

-- the trace is published by this generation, and no command waits to be published; what the patch waited for it awaits still, or the counter has reached it
pub record IsSwitched (who generation : ℕ) (old new : WordBook) : Type 0 where
  pub entered : HasEntered who old new
  pub need : NeedGoesOn old.tables new.tables
  pub holder : new.plain.holder ≡ Tracing who generation
  pub none : new.waiting ≡ None

-- what each answer says; a trace brings nothing in, so it waits for no block
abbrev pub SwitchAnswers : ℕ → Decision → WordBook → WordBook → Step → Type 0
SwitchAnswers who d old new (steps.Published generation) = IsSwitched who generation old new
SwitchAnswers who d old new (steps.NotYet answer) = SwitchWaits d old new answer
SwitchAnswers who d old new steps.AwaitRelease = ⊥

-- ---- behind it

-- the switch waits for a value of its patch
pub record SettleWaits (who : ℕ) (old new : WordBook) (answer : NotYet) : Type 0 where
  pub late : IsPatchLate old.tables new.tables answer
  pub need : NeedGoesOn old.tables new.tables
  pub still : StillSettles who old new

-- the command is done, or the switch waits
abbrev pub SettleAnswers : ℕ → WordBook → WordBook → CommandStep → Type 0
SettleAnswers who old new (told.Done applied) = EndsPlain who old.plain new.plain applied
SettleAnswers who old new (told.NotYet answer) = SettleWaits who old new answer
SettleAnswers who old new told.AwaitRelease = ⊥
SettleAnswers who old new (told.Lingers process turn place word) = ⊥
