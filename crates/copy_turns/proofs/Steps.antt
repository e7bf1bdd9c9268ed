-- The steps of a seat keep the rule: a turn is tried, or given back, and a word is loaded.
use Rattle.std.proofs.Common.{◌≡◌, ℕ, ◌+◌, ◌-◌, ◌<◌, ◌≤◌, Bool, true, false, cond, List, None, Some, length-set, set, sum_by, get_or-set_same, get_or-set_other, refl, sym, ap, subst, ◌∙◌, arith}
use Rattle.std.proofs.lemmas.Bool.{eqb-true}
use mathlib.Core.Option.{none, some}
use lib.ListN.{get_elem?}
use lib.Seq.{set-get_or}
use prog.Atomic.{either}
use Rattle.std.specs.Prelude.{slice_index, ◌==◌}
use Rattle.atomic_table.specs.Table.{State, keeps, step, Allows}
use Rattle.copy_turns.specs.declared.holdings.Holdings.{Holdings}
use Rattle.copy_turns.specs.declared.turn.Turn.{Turn}
use Rattle.copy_turns.specs.declared.turn.TheConstants.{PROCESS_LIMIT}
use Rattle.copy_turns.specs.Turns.{turn_place, turn_at, turn_back, turn_word, held_count}
use Rattle.copy_turns.specs.Holdings.{turn_held_in, with_found_turn, copiers_in, holdings_spent, tried_seat, turn_given, turn_taken}
use Rattle.copy_turns.specs.Rule.{AreTurns}
use Rattle.copy_turns.specs.Steps.{SeatHoldings, TriesTurn, GivesTurn, TellsHolder}
use Rattle.copy_turns.proofs.Sums.{part_of_sum, sum_set, whole_is_all, zero_by}
use Rattle.copy_turns.proofs.TurnCases.{other, both_turns, word_within, words_apart, held_here, held_there, held_same, idle_kept, copiers_by, count_by_word, spent_holds_nothing, word_by_count}

abbrev pub Table : Type 0
Table = State (Unit {0}) Holdings

-- the table after a step of one seat
abbrev pub after_step : Table → List ℕ → ℕ → Holdings → Table
after_step s words id h = record { words = words; homes = s.homes; views = set s.views id h }

-- what a seat says of a turn: how often it holds it, and its word
abbrev pub count_in : Turn → Holdings → ℕ
count_in turn h = held_count (turn_held_in turn h)

abbrev pub word_in : Turn → Holdings → ℕ
word_in turn h = turn_word (turn_held_in turn h)

module _ (copiers : ℕ) (s : Table) (r : AreTurns copiers s) (id : ℕ) (h : Holdings) (at : get_elem? s.views id ≡ some h) where
  -- a sum over all seats stays where the part of this one does
  sum_stays : (f : Holdings → ℕ) (new : Holdings) → f new ≡ f h → sum_by f (set s.views id new) ≡ sum_by f s.views
  sum_stays f new same = let changed = sum_set f s.views id h new at in omega arith

  -- a step after which the seat holds what it held
  pub keeps_held : (new : Holdings) → ((turn : Turn) → turn_held_in turn new ≡ turn_held_in turn h) → copiers_in new ≡ copiers_in h → AreTurns copiers (after_step s s.words id new)
  keeps_held new same all = record {
    words = r.words;
    one = λ turn. let few = r.one turn in let stays = sum_stays (count_in turn) new (ap held_count (same turn)) in omega arith;
    told = λ turn. r.told turn ∙ sym (sum_stays (word_in turn) new (ap turn_word (same turn)));
    narrow = r.narrow;
    counted = sum_stays copiers_in new all ∙ r.counted;
  }

  -- a step that stores the word of a turn
  sets_turn : (turn : Turn) (word : ℕ) (new : Holdings) → word ≤ PROCESS_LIMIT → sum_by (count_in turn) (set s.views id new) ≤ 1 → word ≡ sum_by (word_in turn) (set s.views id new) → turn_held_in (other turn) new ≡ turn_held_in (other turn) h → copiers_in new ≡ copiers_in h
      → AreTurns copiers (after_step s (set s.words (turn_place turn) word) id new)
  sets_turn turn word new small one told rest all =
      let after = set s.words (turn_place turn) word in
      let size = r.words in
      let within = word_within turn in
      let here : slice_index after (turn_place turn) ≡ word = get_or-set_same s.words (turn_place turn) word 0 (omega arith) in
      let there : slice_index after (turn_place (other turn)) ≡ slice_index s.words (turn_place (other turn)) = get_or-set_other s.words (turn_place turn) (turn_place (other turn)) word 0 (words_apart turn) in
      record {
        words = length-set s.words (turn_place turn) word ∙ r.words;
        one = both_turns (λ t. sum_by (count_in t) (set s.views id new) ≤ 1) turn one
            (let few = r.one (other turn) in let stays = sum_stays (count_in (other turn)) new (ap held_count rest) in omega arith);
        told = both_turns (λ t. slice_index after (turn_place t) ≡ sum_by (word_in t) (set s.views id new)) turn (here ∙ told)
            (there ∙ r.told (other turn) ∙ sym (sum_stays (word_in (other turn)) new (ap turn_word rest)));
        narrow = both_turns (λ t. slice_index after (turn_place t) ≤ PROCESS_LIMIT) turn (subst (λ n. n ≤ PROCESS_LIMIT) (sym here) small) (subst (λ n. n ≤ PROCESS_LIMIT) (sym there) (r.narrow (other turn)));
        counted = sum_stays copiers_in new all ∙ r.counted;
      }

  -- a turn that is free is taken
  takes_free : (turn : Turn) (process : ℕ) → process < PROCESS_LIMIT → 0 < h.idle → slice_index s.words (turn_place turn) ≡ 0
      → AreTurns copiers (after_step s (set s.words (turn_place turn) (process + 1)) id (turn_taken turn process (with_found_turn turn (slice_index s.words (turn_place turn)) h)))
  takes_free turn process below idle free =
      let found = with_found_turn turn (slice_index s.words (turn_place turn)) h in
      let less : Holdings = record found { idle = h.idle - 1 } in
      let new = turn_taken turn process found in
      let nothing : sum_by (word_in turn) s.views ≡ 0 = sym (r.told turn) ∙ free in
      let nobody : sum_by (count_in turn) s.views ≡ 0 = zero_by (count_in turn) (word_in turn) (λ u none. let few = count_by_word (turn_held_in turn u) in omega arith) s.views nothing in
      let own = part_of_sum (word_in turn) s.views id h at in
      let own_count = count_by_word (turn_held_in turn h) in
      let counts = sum_set (count_in turn) s.views id h new at in
      let words = sum_set (word_in turn) s.views id h new at in
      let counts_new : count_in turn new ≡ 1 = ap held_count (held_here turn (Some process) less) in
      let word_new : word_in turn new ≡ process + 1 = ap turn_word (held_here turn (Some process) less) in
      let rest : turn_held_in (other turn) new ≡ turn_held_in (other turn) h = held_there turn (Some process) less ∙ held_same (other turn) h less.idle less.found in
      let before = copiers_by turn h in
      let after = copiers_by turn new in
      let left : new.idle ≡ h.idle - 1 = idle_kept turn (Some process) less in
      let rest_count : count_in (other turn) new ≡ count_in (other turn) h = ap held_count rest in
      sets_turn turn (process + 1) new (omega arith) (omega arith) (omega arith) rest (omega arith)

  -- a turn is given back
  gives_held : (turn : Turn) (process : ℕ) → turn_held_in turn h ≡ Some process → AreTurns copiers (after_step s (set s.words (turn_place turn) 0) id (turn_given turn h))
  gives_held turn process held =
      let more : Holdings = record h { idle = h.idle + 1 } in
      let new = turn_given turn h in
      let few = r.one turn in
      let counts = sum_set (count_in turn) s.views id h new at in
      let count_old : count_in turn h ≡ 1 = ap held_count held in
      let count_new : count_in turn new ≡ 0 = ap held_count (held_here turn None more) in
      let nobody : sum_by (count_in turn) (set s.views id new) ≡ 0 = omega arith in
      let nothing : sum_by (word_in turn) (set s.views id new) ≡ 0 = zero_by (word_in turn) (count_in turn) (λ u none. word_by_count (turn_held_in turn u) none) (set s.views id new) nobody in
      let rest : turn_held_in (other turn) new ≡ turn_held_in (other turn) h = held_there turn None more ∙ held_same (other turn) h more.idle more.found in
      let before = copiers_by turn h in
      let after = copiers_by turn new in
      let left : new.idle ≡ h.idle + 1 = idle_kept turn None more in
      let rest_count : count_in (other turn) new ≡ count_in (other turn) h = ap held_count rest in
      sets_turn turn 0 new (omega arith) (omega arith) (sym nothing) rest (omega arith)

  -- where this seat stands for all copiers, it holds what is held
  all_by_one : (turn : Turn) → copiers_in h ≡ copiers → slice_index s.words (turn_place turn) ≡ word_in turn h
  all_by_one turn whole =
      let smaller : (u : Holdings) → count_in turn u ≤ copiers_in u = λ u. let parts = copiers_by turn u in omega arith in
      let held : sum_by (count_in turn) s.views ≡ count_in turn h = whole_is_all (count_in turn) copiers_in smaller s.views id h holdings_spent refl at (r.counted ∙ sym whole) in
      let none_left = sum_set (count_in turn) s.views id h holdings_spent at in
      let words = sum_set (word_in turn) s.views id h holdings_spent at in
      let empty : count_in turn holdings_spent ≡ 0 = ap held_count (spent_holds_nothing turn) in
      let empty_word : word_in turn holdings_spent ≡ 0 = word_by_count (turn_held_in turn holdings_spent) empty in
      let nobody : sum_by (count_in turn) (set s.views id holdings_spent) ≡ 0 = omega arith in
      let nothing : sum_by (word_in turn) (set s.views id holdings_spent) ≡ 0 = zero_by (word_in turn) (count_in turn) (λ u none. word_by_count (turn_held_in turn u) none) (set s.views id holdings_spent) nobody in
      let told = r.told turn in
      omega arith

  -- a turn is tried, by whether it was free
  tries : (turn : Turn) (process : ℕ) → process < PROCESS_LIMIT → 0 < h.idle → (b : Bool) → (slice_index s.words (turn_place turn) == 0) ≡ b
      → AreTurns copiers (after_step s (set s.words (turn_place turn) (either b (process + 1) (slice_index s.words (turn_place turn)))) id (cond b (turn_taken turn process (with_found_turn turn (slice_index s.words (turn_place turn)) h)) (with_found_turn turn (slice_index s.words (turn_place turn)) h)))
  tries turn process below idle true is = takes_free turn process below idle (eqb-true (slice_index s.words (turn_place turn)) 0 is)
  tries turn process below idle false is =
      let new = with_found_turn turn (slice_index s.words (turn_place turn)) h in
      subst (λ (words : List ℕ). AreTurns copiers (after_step s words id new)) (sym (set-get_or s.words (turn_place turn) 0)) (keeps_held new (λ t. held_same t h h.idle new.found) refl)

-- a turn may be tried by the seat of a copier that holds nothing
try_allowed : (copiers slots id : ℕ) (turn : Turn) (process : ℕ) (me : SeatHoldings) → process < PROCESS_LIMIT → 0 < me.0.idle
    → Allows (AreTurns copiers) slots id me (turn_place turn) (λ n. either (n == 0) (process + 1) n) (TriesTurn (step slots (turn_place turn) 0 (process + 1) none) me)
try_allowed copiers slots id turn process me below idle s r wide at fits =
    let found = slice_index s.words (turn_place turn) in
    let number : process + 1 - 1 ≡ process = omega arith in
    let same : tried_seat (turn_at (turn_place turn)) (process + 1 - 1) found me.0 ≡ tried_seat turn process found me.0 = λ i. tried_seat (turn_back turn i) (number i) found me.0 in (
      tried_seat (turn_at (turn_place turn)) (process + 1 - 1) found me.0,
      keeps,
      tt,
      subst (λ (new : Holdings). AreTurns copiers (after_step s (set s.words (turn_place turn) (either (found == 0) (process + 1) found)) id new)) (sym same) (tries copiers s r id me.0 at turn process below idle (found == 0) refl),
      record { tried = refl; narrow = r.narrow turn },
    )

pub try_is_allowed : (copiers slots id : ℕ) (turn : Turn) (word process : ℕ) (me : SeatHoldings) → word ≡ turn_place turn → process < PROCESS_LIMIT → 0 < me.0.idle
    → Allows (AreTurns copiers) slots id me word (λ n. either (n == 0) (process + 1) n) (TriesTurn (step slots word 0 (process + 1) none) me)
try_is_allowed copiers slots id turn word process me is below idle =
    subst (λ (w : ℕ). Allows (AreTurns copiers) slots id me w (λ n. either (n == 0) (process + 1) n) (TriesTurn (step slots w 0 (process + 1) none) me)) (sym is) (try_allowed copiers slots id turn process me below idle)

-- a turn may be given back by the seat that holds it
give_allowed : (copiers slots id : ℕ) (turn : Turn) (process : ℕ) (me : SeatHoldings) → turn_held_in turn me.0 ≡ Some process → Allows (AreTurns copiers) slots id me (turn_place turn) (λ _. 0) (λ _. GivesTurn (step slots (turn_place turn) 0 0 none) me 0)
give_allowed copiers slots id turn process me held s r wide at fits =
    let same : turn_given (turn_at (turn_place turn)) me.0 ≡ turn_given turn me.0 = ap (λ (t : Turn). turn_given t me.0) (turn_back turn) in (
      turn_given (turn_at (turn_place turn)) me.0,
      keeps,
      tt,
      subst (λ (new : Holdings). AreTurns copiers (after_step s (set s.words (turn_place turn) 0) id new)) (sym same) (gives_held copiers s r id me.0 at turn process held),
      refl,
    )

pub give_is_allowed : (copiers slots id : ℕ) (turn : Turn) (word process : ℕ) (me : SeatHoldings) → word ≡ turn_place turn → turn_held_in turn me.0 ≡ Some process → Allows (AreTurns copiers) slots id me word (λ _. 0) (λ _. GivesTurn (step slots word 0 0 none) me 0)
give_is_allowed copiers slots id turn word process me is held =
    subst (λ (w : ℕ). Allows (AreTurns copiers) slots id me w (λ _. 0) (λ _. GivesTurn (step slots w 0 0 none) me 0)) (sym is) (give_allowed copiers slots id turn process me held)

-- the seat that stands for all copiers is told what it holds
last_allowed : (copiers slots id : ℕ) (turn : Turn) (me : SeatHoldings) → copiers_in me.0 ≡ copiers → Allows (AreTurns copiers) slots id me (turn_place turn) (λ n. n) (TellsHolder (step slots (turn_place turn) 0 0 none) me)
last_allowed copiers slots id turn me whole s r wide at fits = (
  me.0,
  keeps,
  tt,
  subst (λ (words : List ℕ). AreTurns copiers (after_step s words id me.0)) (sym (set-get_or s.words (turn_place turn) 0)) (keeps_held copiers s r id me.0 at me.0 (λ t. refl) refl),
  record { same = refl; whole = all_by_one copiers s r id me.0 at turn whole ∙ ap (λ (t : Turn). word_in t me.0) (sym (turn_back turn)) },
)

pub last_is_allowed : (copiers slots id : ℕ) (turn : Turn) (word : ℕ) (me : SeatHoldings) → word ≡ turn_place turn → copiers_in me.0 ≡ copiers → Allows (AreTurns copiers) slots id me word (λ n. n) (TellsHolder (step slots word 0 0 none) me)
last_is_allowed copiers slots id turn word me is whole =
    subst (λ (w : ℕ). Allows (AreTurns copiers) slots id me w (λ n. n) (TellsHolder (step slots w 0 0 none) me)) (sym is) (last_allowed copiers slots id turn me whole)
