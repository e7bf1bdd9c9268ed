-- What the writer waits for: a value of the counter that no thread reaches while it reads a generation before the one
-- that the value was taken at.
-- Source: Erlang/OTP erts internal documentation, ThreadProgress, on operations that are scheduled for later.
use Rattle.std.specs.Prelude.{◌≡◌, ℕ, ◌<◌, ◌≤◌}
use Rattle.atomic_table.specs.Table.{State}
use Rattle.prgr_core.specs.Invariant.{CounterInRange}
use Rattle.area_core.specs.declared.table.Published.{Published}
use Rattle.area_core.specs.Blocks.{Among}
use Rattle.area_core.specs.Step.{IsReadable}
use Rattle.shared_words.specs.declared.opening.Opening.{Opening}
use Rattle.shared_words.specs.declared.view.View.{View}
use Rattle.shared_words.specs.declared.view.WriterView.{WriterView}
use Rattle.shared_words.specs.Shown.{state_of}
use Rattle.shared_words.specs.Kinds.{counter_kept}
use Rattle.shared_words.specs.Rule.{RunningRule}
use Rattle.progress_words.specs.declared.answers.NotYet.{NotYet}

-- the writer took this value to wait for while this generation was the newest
abbrev pub HasTaken : WriterView → ℕ → ℕ → Type 0
HasTaken w generation need = Among w.pairs (record { generation = generation; need = need })

-- the writer has loaded the counter, which never falls
pub record HasLoadedCounter (old new : WriterView) : Type 0 where
  pub counter : ℕ
  pub range : CounterInRange counter
  pub rising : old.counter ≤ counter
  pub view : new ≡ counter_kept counter old

-- the counter that was loaded in this call is below the value that was asked for
pub record IsBelow (need : ℕ) (w : WriterView) (answer : NotYet) : Type 0 where
  pub asked : answer.need ≡ need
  pub loaded : answer.current ≡ w.counter
  pub below : answer.current < answer.need

-- while the writer knows this, no thread reads a generation below this one, nor comes to by a load of the root
abbrev pub HasPassed : (Published → Type 0) → Opening → WriterView → ℕ → Type 0
HasPassed Served opening w generation =
    (s : State (Unit {0}) View) (r : RunningRule Served opening s) → r.writer ≡ w → (g : ℕ) → IsReadable (state_of s.words r.writer r.seats) g → generation ≤ g
