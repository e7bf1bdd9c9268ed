-- An area is released once its block is cleared: what both steps leave.
use Rattle.std.proofs.Common.{ℕ, List, subst}
use Rattle.term_core.specs.declared.atom.Mfa.{Mfa}
use Rattle.shared_words.specs.declared.view.WriterView.{WriterView}
use Rattle.staging.specs.declared.tables.Tables.{Tables}
use Rattle.staging.specs.Released.{KeepsRelease, SettlingReleased, StagesReleased, StandReleased, StandStill}
use Rattle.staging.specs.Renewed.{IsSameButWords}

module _ (names : List Mfa) (old mid new : Tables) (serial : ℕ) where
  pub rest_whole : StandReleased names serial mid new → StandStill names old mid → StandReleased names serial old new
  rest_whole freed still s had = freed s (still.rest s had)

  pub stages_whole : StagesReleased names serial mid new → StandStill names old mid → StagesReleased names serial old new
  stages_whole freed still s change stage had = freed s change stage (still.stages s change stage had)

  pub settling_whole : SettlingReleased names serial mid new → StandStill names old mid → SettlingReleased names serial old new
  settling_whole freed still s had = freed s (still.settling s had)

-- the drop is kept, as none of the words that were cleared is one of a look
drop_words : (serial : ℕ) (old : WriterView) (words : List ℕ) (new : WriterView) → KeepsRelease serial (record old { words = words }) new → KeepsRelease serial old new
drop_words serial old words new kept = record { looks = kept.looks; published = kept.published; notes = kept.notes; waits = kept.waits; pairs = kept.pairs }

pub drop_whole : (serial : ℕ) (old mid new : WriterView) → IsSameButWords old mid → KeepsRelease serial mid new → KeepsRelease serial old new
drop_whole serial old mid new same kept = drop_words serial old mid.words new (subst (λ (w : WriterView). KeepsRelease serial w new) same kept)
