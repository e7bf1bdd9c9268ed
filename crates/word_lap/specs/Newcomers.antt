-- What a spawned process takes along of the generations that its spawner had seen.
-- Source: this project's profile.
use Rattle.std.specs.Prelude.{◌≡◌, ℕ, ◌+◌, length, Option, IsSomeAnd}
use Rattle.atomic_table.specs.Seated.{TableId}
use Rattle.shared_words.specs.declared.seats.Note as tokens
use Rattle.progress_words.specs.Tokens.{IsNoteOf, noted_by}

-- its note is one of these words for it, and has learnt of the generations that were published then
pub record IsNotedIn (table : TableId) (number published : ℕ) (note : tokens.Note) : Type 0 where
  pub of : IsNoteOf table number note
  pub told : (noted_by note).note.published ≡ published
  pub learnt : length (noted_by note).seen ≡ published + 1

-- the same of the words that a name stands for
abbrev pub IsNoted : Option TableId → ℕ → ℕ → tokens.Note → Type 0
IsNoted table number published note = IsSomeAnd table (λ t. IsNotedIn t number published note)
