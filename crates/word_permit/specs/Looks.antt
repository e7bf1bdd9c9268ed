-- Looks through the slots of processes for frames of old code: what is waited for before one, and what is known after it.
-- Source: Erlang/OTP, the manual page of the module code (soft_purge, purge); erts internal documentation, ThreadProgress.
use Rattle.std.specs.Prelude.{◌≡◌, ℕ, ◌≤◌, List, ◌∷◌, ◌++◌, All}
use Rattle.prgr_core.specs.declared.member.Retirement.{Retirement}
use Rattle.marks.specs.declared.kept.EndedWait.{EndedWait}
use Rattle.marks.specs.declared.kept.LookKind.TheVariants.{Frame}
use Rattle.anchors.specs.declared.answers.Scan.{Scan}
use Rattle.anchors.specs.Scans.{LooksMore, ScanCause}
use Rattle.shared_words.specs.declared.view.WriterView.{WriterView}
use Rattle.shared_words.specs.Rule.{HasEnded}
use Rattle.shared_words.specs.Slots.{wait_for}
use Rattle.shared_words.specs.Views.{newest_number}

-- the values that the writer took to wait for end with this one, which it took at this generation, and others of the same generation
pub record IsLastTaken (w : WriterView) (generation need : ℕ) : Type 0 where
  pub before : List Retirement
  pub after : List Retirement
  pub pairs : w.pairs ≡ before ++ record { generation = generation; need = need } ∷ after
  pub same : All (λ pair. pair.generation ≡ generation) after

-- a value that is waited for before a look: the last one that was taken, at the newest generation
abbrev pub IsLookTaken : WriterView → ℕ → Type 0
IsLookTaken w need = IsLastTaken w (newest_number w.published) need

-- such a value was taken at the newest generation, and is reached
pub record IsReached (w : WriterView) : Type 0 where
  pub need : ℕ
  pub taken : IsLastTaken w (newest_number w.published) need
  pub reached : need ≤ w.counter

-- the look stands on a wait for the newest generation
abbrev pub newest_wait : WriterView → ℕ → EndedWait
newest_wait w serial = record { generation = newest_number w.published; serial = serial; kind = Frame }

-- no word of a slot was loaded since then
pub record KeepsLooks (old new : WriterView) : Type 0 where
  pub looks : new.looks ≡ old.looks
  pub named : new.named ≡ old.named

-- what the writer knows now, but of slots what it knew then
abbrev pub before_look : WriterView → WriterView → WriterView
before_look old new = record new { looks = old.looks; named = old.named }

-- so it was found since then: all that the writer has learnt of slots since, it has learnt by this look
pub record HasLookedFor (serial : ℕ) (old new : WriterView) (scan : Scan) : Type 0 where
  -- the wait was over when the look began
  pub over : HasEnded (before_look old new) (newest_wait new serial)
  pub cause : ScanCause (newest_wait new serial) (before_look old new) new scan
  -- and the writer knows of no later wait that is over
  pub wait_is : wait_for new Frame serial ≡ newest_wait new serial
  -- it keeps no drop since then, and no answer that a process lingers
  pub more : LooksMore (before_look old new) new

-- so some look found it, at whatever time
abbrev pub HasLooked : ℕ → WriterView → Scan → Type 0
HasLooked serial new scan = (old : WriterView) × HasLookedFor serial old new scan
