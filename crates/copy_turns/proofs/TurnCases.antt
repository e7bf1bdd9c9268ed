-- Turns, case by case.
use Rattle.std.proofs.Common.{◌≡◌, ◌≢◌, ℕ, ◌+◌, ◌<◌, ◌≤◌, List, Option, None, Some, refl, ap, arith}
use Rattle.copy_turns.specs.declared.holdings.FoundTurn.{FoundTurn}
use Rattle.copy_turns.specs.declared.holdings.Holdings.{Holdings}
use Rattle.copy_turns.specs.declared.turn.Holding.{Holding}
use Rattle.copy_turns.specs.declared.turn.Turn.{Turn}
use Rattle.copy_turns.specs.declared.turn.Turn.TheVariants.{First, Second}
use Rattle.copy_turns.specs.Turns.{turn_place, turn_word, held_count}
use Rattle.copy_turns.specs.Holdings.{turn_held_in, with_held, copiers_in, first_holder, holdings_joined, holdings_of, holdings_spent, idle_copiers, turn_given}

abbrev pub other : Turn → Turn
other First = Second
other Second = First

-- what holds of a turn and of the other one holds of each
pub both_turns : (P : Turn → Type 0) (turn : Turn) → P turn → P (other turn) → (any : Turn) → P any
both_turns P First here there First = here
both_turns P First here there Second = there
both_turns P Second here there First = there
both_turns P Second here there Second = here

-- ---- words

pub word_within : (turn : Turn) → turn_place turn < 2
word_within First = omega arith
word_within Second = omega arith

pub words_apart : (turn : Turn) → turn_place (other turn) ≢ turn_place turn
words_apart First e = absurd (omega arith)
words_apart Second e = absurd (omega arith)

-- ---- what a seat holds

pub held_here : (turn : Turn) (held : Option ℕ) (h : Holdings) → turn_held_in turn (with_held turn held h) ≡ held
held_here First held h = refl
held_here Second held h = refl

pub held_there : (turn : Turn) (held : Option ℕ) (h : Holdings) → turn_held_in (other turn) (with_held turn held h) ≡ turn_held_in (other turn) h
held_there First held h = refl
held_there Second held h = refl

pub found_kept : (turn : Turn) (held : Option ℕ) (h : Holdings) → (with_held turn held h).found ≡ h.found
found_kept First held h = refl
found_kept Second held h = refl

pub idle_kept : (turn : Turn) (held : Option ℕ) (h : Holdings) → (with_held turn held h).idle ≡ h.idle
idle_kept First held h = refl
idle_kept Second held h = refl

-- what is held is read from these two fields alone
pub held_same : (turn : Turn) (h : Holdings) (idle : ℕ) (found : List FoundTurn) → turn_held_in turn (record h { idle = idle; found = found }) ≡ turn_held_in turn h
held_same First h idle found = refl
held_same Second h idle found = refl

-- the copiers of a seat, by either turn
pub copiers_by : (turn : Turn) (h : Holdings) → copiers_in h ≡ h.idle + held_count (turn_held_in turn h) + held_count (turn_held_in (other turn) h)
copiers_by First h = refl
copiers_by Second h = omega arith

-- who handed all on holds nothing
pub spent_holds_nothing : (turn : Turn) → turn_held_in turn holdings_spent ≡ None
spent_holds_nothing First = refl
spent_holds_nothing Second = refl

-- and so does a new copier
pub given_holds_nothing : (turn : Turn) → turn_held_in turn (idle_copiers 1) ≡ None
given_holds_nothing First = refl
given_holds_nothing Second = refl

-- a turn given back leaves the seat of a copier that holds nothing
pub given_back : (turn : Turn) (process : ℕ) (found : List FoundTurn) → turn_given turn (holdings_of (Some (record { turn = turn; process = process })) found) ≡ holdings_of None found
given_back First process found = refl
given_back Second process found = refl

-- the seat of a copier holds the copier's turn
pub held_own : (held : Holding) (found : List FoundTurn) → turn_held_in held.turn (holdings_of (Some held) found) ≡ Some held.process
held_own held found = held_here held.turn (Some held.process) (record { first = None; second = None; idle = 0; found = found })

-- ---- holders

pub count_by_word : (held : Option ℕ) → held_count held ≤ turn_word held
count_by_word None = omega arith
count_by_word (Some process) = omega arith

pub none_by_word : (held : Option ℕ) → turn_word held ≡ 0 → held ≡ None
none_by_word None none = refl
none_by_word (Some process) none = absurd (omega arith)

pub word_by_count : (held : Option ℕ) → held_count held ≡ 0 → turn_word held ≡ 0
word_by_count None none = refl
word_by_count (Some process) none = absurd (omega arith)

pub process_by_word : (held : Option ℕ) (process : ℕ) → turn_word held ≡ process + 1 → held ≡ Some process
process_by_word None process is = absurd (omega arith)
process_by_word (Some one) process is = let same : one ≡ process = omega arith in ap (λ (n : ℕ). Some n) same

pub joined_in : (turn : Turn) (h u : Holdings) → turn_held_in turn (holdings_joined h u) ≡ first_holder (turn_held_in turn u) (turn_held_in turn h)
joined_in First h u = refl
joined_in Second h u = refl

-- where no more than one of two holds, nothing of the two is lost
pub joined_word : (one two : Option ℕ) → held_count one + held_count two ≤ 1 → turn_word (first_holder one two) ≡ turn_word one + turn_word two
joined_word None two few = omega arith
joined_word (Some process) None few = omega arith
joined_word (Some process) (Some second) few = absurd (omega arith)

pub joined_count : (one two : Option ℕ) → held_count one + held_count two ≤ 1 → held_count (first_holder one two) ≡ held_count one + held_count two
joined_count None two few = omega arith
joined_count (Some process) None few = refl
joined_count (Some process) (Some second) few = absurd (omega arith)

joined_most : (one two : Option ℕ) → held_count (first_holder one two) ≤ held_count one + held_count two
joined_most None two = omega arith
joined_most (Some process) two = omega arith

-- a seat stands for the copiers of both
pub joined_copiers : (h u : Holdings) → copiers_in (holdings_joined h u) ≡ copiers_in h + copiers_in u
joined_copiers h u =
    let first = joined_most u.first h.first in
    let second = joined_most u.second h.second in
    omega arith

-- that of a copier stands for one
pub copier_is_one : (held : Option Holding) (found : List FoundTurn) → copiers_in (holdings_of held found) ≡ 1
copier_is_one None found = refl
copier_is_one (Some held) found = by held.turn where
  by : (turn : Turn) → copiers_in (with_held turn (Some held.process) (record { first = None; second = None; idle = 0; found = found })) ≡ 1
  by First = refl
  by Second = refl
