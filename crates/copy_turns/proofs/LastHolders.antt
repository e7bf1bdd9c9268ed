-- Who holds a turn, of copiers that come in one by one, the last in the row first.
use Rattle.std.proofs.Common.{◌≡◌, ℕ, List, [], ◌∷◌, ◌++◌, Option, None, Some, refl, sym, ap, ◌∙◌, ◌↔◌}
use Rattle.std.proofs.lemmas.List.Elements.{All-nil, All-cons, All-head, All-tail}
use Rattle.std.specs.Prelude.{slice_index}
use Rattle.copy_turns.specs.declared.holdings.FoundTurn.{FoundTurn}
use Rattle.copy_turns.specs.declared.holdings.Holdings.{Holdings}
use Rattle.copy_turns.specs.declared.turn.Holding.{Holding}
use Rattle.copy_turns.specs.declared.turn.Turn.{Turn}
use Rattle.copy_turns.specs.declared.turn.Turn.TheVariants.{First, Second}
use Rattle.copy_turns.specs.Turns.{turn_place, turn_word}
use Rattle.copy_turns.specs.Holdings.{turn_held_in, with_held, first_holder, holdings_of}
use Rattle.copy_turns.specs.Copiers.{CopierState, NobodyHolds, turn_held_by, turn_held, turn_holder, last_words}
use Rattle.copy_turns.proofs.TurnCases.{none_by_word}

-- the seat of a copier holds what the copier does
pub seat_holds : (turn : Turn) (held : Option Holding) (found : List FoundTurn) → turn_held_in turn (holdings_of held found) ≡ turn_held turn held
seat_holds First None found = refl
seat_holds Second None found = refl
seat_holds turn (Some held) found = by turn held.turn where
  by : (t u : Turn) → turn_held_in t (with_held u (Some held.process) (record { first = None; second = None; idle = 0; found = found })) ≡ turn_held t (Some (record { turn = u; process = held.process }))
  by First First = refl
  by First Second = refl
  by Second First = refl
  by Second Second = refl

-- the last one in the row, and then those in front of it
pub holder_last : (turn : Turn) (copiers : List CopierState) (copier : CopierState) (rest : Option ℕ) → turn_holder turn (copiers ++ copier ∷ []) rest ≡ turn_holder turn copiers (first_holder (turn_held_by turn copier) rest)
holder_last turn [] copier rest = refl
holder_last turn (one ∷ copiers) copier rest = ap (first_holder (turn_held_by turn one)) (holder_last turn copiers copier rest)

none_behind : (held : Option ℕ) → first_holder held None ≡ held
none_behind None = refl
none_behind (Some process) = refl

-- who holds a turn once all came in to the last one's seat
pub last_holder : (turn : Turn) (copiers front : List CopierState) (last : CopierState) (h all : Holdings) → copiers ≡ front ++ last ∷ [] → turn_held_in turn h ≡ turn_held_by turn last → turn_held_in turn all ≡ turn_holder turn front (turn_held_in turn h) → turn_held_in turn all ≡ turn_holder turn copiers None
last_holder turn copiers front last h all whole own came =
    came
    ∙ ap (turn_holder turn front) (own ∙ sym (none_behind (turn_held_by turn last)))
    ∙ sym (holder_last turn front last None)
    ∙ ap (λ (cs : List CopierState). turn_holder turn cs None) (sym whole)

-- ---- nobody

no_holder : (turn : Turn) (copiers : List CopierState) → NobodyHolds turn copiers → turn_holder turn copiers None ≡ None
no_holder turn [] none = refl
no_holder turn (copier ∷ copiers) none =
    ap (λ (held : Option ℕ). first_holder held (turn_holder turn copiers None)) (All-head (λ c. turn_held_by turn c ≡ None) copier copiers none)
    ∙ no_holder turn copiers (All-tail (λ c. turn_held_by turn c ≡ None) copier copiers none)

none_of_two : (one two : Option ℕ) → first_holder one two ≡ None → (one ≡ None) × (two ≡ None)
none_of_two None two none = (refl, none)
none_of_two (Some process) two none = absurd (cc)

nobody : (turn : Turn) (copiers : List CopierState) → turn_holder turn copiers None ≡ None → NobodyHolds turn copiers
nobody turn [] none = All-nil (λ c. turn_held_by turn c ≡ None)
nobody turn (copier ∷ copiers) none =
    let both = none_of_two (turn_held_by turn copier) (turn_holder turn copiers None) none in
    All-cons (λ c. turn_held_by turn c ≡ None) copier copiers both.0 (nobody turn copiers both.1)

last_word_at : (turn : Turn) (copiers : List CopierState) → slice_index (last_words copiers) (turn_place turn) ≡ turn_word (turn_holder turn copiers None)
last_word_at First copiers = refl
last_word_at Second copiers = refl

-- a word is 0 where none of the copiers holds its turn, and nowhere else
pub free_words : (copiers : List CopierState) (words : List ℕ) → words ≡ last_words copiers → (turn : Turn) → (slice_index words (turn_place turn) ≡ 0) ↔ NobodyHolds turn copiers
free_words copiers words are turn =
    let word : slice_index words (turn_place turn) ≡ turn_word (turn_holder turn copiers None) = ap (λ (ws : List ℕ). slice_index ws (turn_place turn)) are ∙ last_word_at turn copiers in (
      (λ zero. nobody turn copiers (none_by_word (turn_holder turn copiers None) (sym word ∙ zero))),
      (λ none. word ∙ ap turn_word (no_holder turn copiers none)),
    )
