-- A member that reports more than once has reported.
use Rattle.std.proofs.Common.{◌≡◌, ℕ, ◌∙◌}
use Rattle.atomic_table.specs.Seated.{TableId}
use Rattle.area_core.specs.declared.table.Published.{Published}
use Rattle.shared_words.specs.declared.seats.Member as tokens
use Rattle.progress_words.specs.Reports.{HoldsReported}
use Rattle.anchors.specs.Holds.{view_of}
use Rattle.word_lap.specs.Schedulers.{IsBetweenTurns, IsToken}
use Rattle.word_lap.proofs.Reports.{reports_on}

pub record CaughtSteps (Served : Published → Type 0) (table : TableId) (old new : tokens.Member) (generation : ℕ) : Type 0 where
  pub token : IsToken table new
  pub number : new.number ≡ old.number
  pub between : IsBetweenTurns (view_of new)
  pub reported : HoldsReported Served (view_of old) (view_of new) generation

pub caught_once : (Served : Published → Type 0) (table : TableId) (old new : tokens.Member) (generation : ℕ) → IsToken table new → new.number ≡ old.number → IsBetweenTurns (view_of new) → HoldsReported Served (view_of old) (view_of new) generation
    → CaughtSteps Served table old new generation
caught_once Served table old new generation token number between reported = record { token = token; number = number; between = between; reported = reported }

pub caught_more : (Served : Published → Type 0) (table : TableId) (old mid new : tokens.Member) (before generation : ℕ) → CaughtSteps Served table old mid before → IsToken table new → new.number ≡ mid.number → IsBetweenTurns (view_of new)
    → HoldsReported Served (view_of mid) (view_of new) generation → CaughtSteps Served table old new generation
caught_more Served table old mid new before generation h token number between reported =
    record { token = token; number = number ∙ h.number; between = between; reported = reports_on Served (view_of old) (view_of mid) (view_of new) before generation h.reported reported }
