-- What a permit tells of areas that wait for their release, and what a release leaves.
-- Source: Erlang/OTP, the manual page of persistent_term, and erts internal documentation, ThreadProgress; what is kept in the words is this project's own.
use Rattle.std.specs.Prelude.{◌≡◌, ℕ, ◌<◌, List, [], slice_get, unwrap_or, Some, IsTrue, IsSomeAnd}
use Rattle.area_core.specs.declared.map.TheConstants.{PROCESSES}
use Rattle.marks.specs.declared.kept.EndedWait.{EndedWait}
use Rattle.marks.specs.declared.kept.LookKind.TheVariants.{Both}
use Rattle.shared_words.specs.declared.view.WriterView.{WriterView}
use Rattle.shared_words.specs.Rule.{HasEnded}
use Rattle.shared_words.specs.Slots.{IsClear}
use Rattle.progress_words.specs.declared.answers.NotYet as late
use Rattle.progress_words.specs.Tokens.{written_by}
use Rattle.anchors.specs.declared.answers.Scan.{Scan}
use Rattle.anchors.specs.declared.answers.Scan.TheVariants as scans
use Rattle.anchors.specs.Scans.{IsSlotNamed}
use Rattle.server_core.specs.ServerState.{is_retired, serial_behind}
use Rattle.staging.specs.Released.{IsStagedStill}
use Rattle.staging.specs.Stages.{IsLate}
use Rattle.write_permit.specs.Book.{shown}
use Rattle.write_permit.specs.Permit.{released_by}
use Rattle.word_permit.specs.declared.answers.Pumped.{Pumped}
use Rattle.word_permit.specs.declared.answers.Pumped.TheVariants.{Released, NotYet, Named, Nothing}
use Rattle.word_permit.specs.declared.book.AreaNeed.{AreaNeed}
use Rattle.word_permit.specs.declared.book.WordBook.{WordBook}
use Rattle.word_permit.specs.Books.{PublishesNone}
use Rattle.word_permit.specs.Needs.{IsAwaited}

-- an anchor of a slot was found to name the area, after a wait for it that is over: it is the one that a look has named since then, and the turn word of its
-- slot was loaded since then too
pub record IsNamedBy (serial : ℕ) (old new : WriterView) (process turn place word : ℕ) : Type 0 where
  pub below : process < PROCESSES
  pub wait : EndedWait
  pub serial_is : wait.serial ≡ serial
  pub kind_is : wait.kind ≡ Both
  pub over : HasEnded new wait
  pub found : IsSlotNamed wait process turn place word old new

-- what a look through all slots has found since then
abbrev pub LooksFound : ℕ → WriterView → WriterView → Scan → Type 0
LooksFound serial old new (scans.Named process turn place word) = IsNamedBy serial old new process turn place word
LooksFound serial old new (scans.Clear killed) = IsClear new Both serial

-- an area that waited is released: its entry joined the journal by the runtime, and the server made it; what is staged and what a loader waits for is as before, also the value of
-- the counter that a purge waits for before it looks, since nothing is published
pub record HasReleased (serial : ℕ) (old new : WordBook) : Type 0 where
  pub waited : IsTrue (is_retired old.plain.server serial)
  pub step : released_by (shown old.plain) serial ≡ Some (shown new.plain)
  pub published : PublishesNone old new
  pub staged : IsStagedStill old.tables new.tables
  pub waiting : new.waiting ≡ old.waiting
  pub look : new.look ≡ old.look

-- nothing is released: what the permit shows, the blocks, what is staged, and what a loader waits for, are as before
pub record ReleasesNone (old new : WordBook) : Type 0 where
  pub same : shown new.plain ≡ shown old.plain
  pub pools : new.tables.pools ≡ old.tables.pools
  pub published : PublishesNone old new
  pub staged : IsStagedStill old.tables new.tables
  pub waiting : new.waiting ≡ old.waiting
  pub look : new.look ≡ old.look

-- the value was taken for an area that waits for its release, while the newest generation had that retired; it is the one that was awaited before this call,
-- if its area waits still; and the counter that was loaded in this call is below it
pub record IsAwaitedStill (old new : WordBook) (answer : late.NotYet) : Type 0 where
  pub need : AreaNeed
  pub kept : new.need ≡ Some need
  pub waits : IsTrue (is_retired old.plain.server need.serial)
  pub taken : IsAwaited (written_by new.tables.writer) need
  pub same : (before : AreaNeed) → old.need ≡ Some before → IsTrue (is_retired old.plain.server before.serial) → need ≡ before
  pub value : answer.need ≡ need.value
  pub below : IsLate old.tables new.tables answer

-- the area that is asked for behind this one: the one that was dropped next, or else the one that has waited longest
abbrev pub asked_behind : List ℕ → ℕ → ℕ
asked_behind retired serial = unwrap_or (serial_behind retired serial) (unwrap_or (slice_get retired 0) serial)

-- a value was taken for that area, and it is waited for next
abbrev pub AsksNext : ℕ → WordBook → WordBook → Type 0
AsksNext serial old new = IsSomeAnd new.need (λ n. n.serial ≡ asked_behind old.plain.server.retired serial)

-- what each answer says
abbrev pub PumpAnswers : WordBook → WordBook → Pumped → Type 0
PumpAnswers old new (Released serial) = HasReleased serial old new
PumpAnswers old new (NotYet answer) = ReleasesNone old new × IsAwaitedStill old new answer
PumpAnswers old new (Named serial process turn place word) =
    ReleasesNone old new × (IsTrue (is_retired old.plain.server serial) × (IsNamedBy serial (written_by old.tables.writer) (written_by new.tables.writer) process turn place word × AsksNext serial old new))
PumpAnswers old new Nothing = ReleasesNone old new × (old.plain.server.retired ≡ [])
