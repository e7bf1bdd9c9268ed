-- What callers see of turns and of copiers.
-- Source: as Turns.
use Rattle.std.specs.Prelude.{◌≡◌, ℕ, ◌+◌, ◌<◌, ◌==◌, ◌⊎◌, List, [], ◌∷◌, length, Option, None, Some, All, if◌then◌else◌, refl}
use Rattle.std.specs.Coded.{Coded, code_by, coded×, coded_ℕ, coded_list, coded_option}
use Rattle.atomic_table.specs.Seated.{TableId, table_id_coded}
use Rattle.copy_turns.specs.declared.holdings.FoundTurn.{FoundTurn}
use Rattle.copy_turns.specs.declared.turn.Holding.{Holding}
use Rattle.copy_turns.specs.declared.turn.Taken.{Taken}
use Rattle.copy_turns.specs.declared.turn.Taken.TheVariants.{Held, Busy}
use Rattle.copy_turns.specs.declared.turn.Turn.{Turn}
use Rattle.copy_turns.specs.declared.turn.Turn.TheVariants.{First, Second}
use Rattle.copy_turns.specs.Turns.{turn_place, turn_at, turn_back, turn_word}
use Rattle.copy_turns.specs.Holdings.{first_holder}

-- turns: which table of words they have, and how many copiers
pub record TurnTable : Type 0 where
  pub table : TableId
  pub copiers : ℕ

-- a copier: which table its turns have, the turn that it holds, and the words that it found, the newest first
pub record CopierState : Type 0 where
  pub table : TableId
  pub held : Option Holding
  pub found : List FoundTurn

-- what turns show can be coded, as each value of a model must be
abbrev pub turn_table_code : Coded TurnTable
turn_table_code = code_by (TableId × ℕ) (coded× table_id_coded coded_ℕ) (λ t. (t.table, t.copiers)) (λ p. record { table = p.0; copiers = p.1 }) (λ _. refl)

abbrev pub holding_code : Coded Holding
holding_code = code_by (ℕ × ℕ) (coded× coded_ℕ coded_ℕ) (λ h. (turn_place h.turn, h.process)) (λ p. record { turn = turn_at p.0; process = p.1 }) (λ h i. record { turn = turn_back h.turn i; process = h.process })

abbrev pub found_turn_code : Coded FoundTurn
found_turn_code = code_by (ℕ × ℕ) (coded× coded_ℕ coded_ℕ) (λ f. (turn_place f.turn, f.word)) (λ p. record { turn = turn_at p.0; word = p.1 }) (λ f i. record { turn = turn_back f.turn i; word = f.word })

-- and so can what a copier shows
abbrev pub copier_state_code : Coded CopierState
copier_state_code =
    code_by
    (TableId × (Option Holding × List FoundTurn))
    (coded× table_id_coded (coded× (coded_option holding_code) (coded_list found_turn_code)))
    (λ c. (c.table, (c.held, c.found)))
    (λ p. record { table = p.0; held = p.1.0; found = p.1.1 })
    (λ _. refl)

-- a copier that holds nothing and has tried nothing
abbrev pub new_copier : TableId → CopierState
new_copier table = record { table = table; held = None; found = [] }

-- these hold nothing
abbrev pub AreNew : List CopierState → Type 0
AreNew copiers = All (λ copier. copier.held ≡ None) copiers

-- these are all copiers of the turns
pub record AreAllCopiers (turns : TurnTable) (copiers : List CopierState) : Type 0 where
  pub all : length copiers ≡ turns.copiers
  pub theirs : All (λ copier. copier.table ≡ turns.table) copiers

-- ---- how an answer comes

-- the copier tried a turn and found this word
abbrev pub finds : Turn → ℕ → CopierState → CopierState
finds turn word copier = record copier { found = record { turn = turn; word = word } ∷ copier.found }

-- it holds a turn for a process
abbrev pub holds_for : Turn → ℕ → CopierState → CopierState
holds_for turn process copier = record copier { held = Some (record { turn = turn; process = process }) }

-- it tried a turn for a process and found this word: where that is 0 it holds the turn
abbrev pub turn_tried : Turn → ℕ → ℕ → CopierState → CopierState
turn_tried turn process word copier = if word == 0 then holds_for turn process (finds turn word copier) else finds turn word copier

-- it found the first turn free, and holds that
abbrev pub FirstWasFree : ℕ → CopierState → CopierState → Type 0
FirstWasFree process old new = new ≡ holds_for First process (finds First 0 old)

-- it found the first turn held, and the second one free, and holds that
abbrev pub SecondWasFree : ℕ → CopierState → CopierState → Type 0
SecondWasFree process old new = (word : ℕ) × (0 < word) × (new ≡ holds_for Second process (finds Second 0 (finds First word old)))

abbrev pub HoldsOne : ℕ → CopierState → CopierState → Type 0
HoldsOne process old new = FirstWasFree process old new ⊎ SecondWasFree process old new

-- it found both turns held, for these processes
abbrev pub found_both : ℕ → ℕ → CopierState → CopierState
found_both first second old = finds Second (second + 1) (finds First (first + 1) old)

-- a fact where a turn is held
abbrev pub OnHeld : Taken → Type 0 → Type 0
OnHeld Held P = P
OnHeld (Busy first second) P = Unit {0}

-- a fact on the two processes where both are busy
abbrev pub IfBusy : Taken → (ℕ → ℕ → Type 0) → Type 0
IfBusy Held P = Unit {0}
IfBusy (Busy first second) P = P first second

-- ---- the end

-- the process for which a copier holds this turn
abbrev pub turn_held : Turn → Option Holding → Option ℕ
turn_held turn None = None
turn_held turn (Some held) = if turn_place held.turn == turn_place turn then Some held.process else None

abbrev pub turn_held_by : Turn → CopierState → Option ℕ
turn_held_by turn copier = turn_held turn copier.held

-- the process for which one of these copiers holds this turn, of the first that does; where none does, this one
abbrev pub turn_holder : Turn → List CopierState → Option ℕ → Option ℕ
turn_holder turn [] other = other
turn_holder turn (copier ∷ copiers) other = first_holder (turn_held_by turn copier) (turn_holder turn copiers other)

-- none of these copiers holds this turn
abbrev pub NobodyHolds : Turn → List CopierState → Type 0
NobodyHolds turn copiers = All (λ copier. turn_held_by turn copier ≡ None) copiers

-- the words of both turns, as these copiers hold them
abbrev pub last_words : List CopierState → List ℕ
last_words copiers = turn_word (turn_holder First copiers None) ∷ turn_word (turn_holder Second copiers None) ∷ []
