-- The words of slots and blocks, as the state shows them: which stands where, and what a store behind the words of the
-- progress machine makes of them.
use Rattle.std.proofs.Common.{◌≡◌, ℕ, zero, suc, ◌<◌, ◌≤◌, List, [], ◌∷◌, ◌++◌, length, length-append, length-drop, drop, set, refl, sym, ap, ◌∙◌, arith}
use Rattle.std.specs.Prelude.{slice_index}
use Rattle.area_core.specs.declared.map.TheConstants.{SLOTS_START, TABLE_WORDS}
use Rattle.area_core.specs.Map.{word_at, opening_words}
use Rattle.shared_words.specs.Shown.{block_words}
use Rattle.shared_words.proofs.SoundState.{front_length}
use Rattle.shared_words.proofs.ShownMembers.{drop_none}

-- behind other words in front
set_behind : (front words : List ℕ) (k x : ℕ) → length front ≤ k → k < length words → front ++ drop (length front) (set words k x) ≡ set (front ++ drop (length front) words) k x
set_behind [] words k x late within = refl
set_behind (f ∷ fs) [] k x late within = absurd (omega arith)
set_behind (f ∷ fs) (y ∷ ys) zero x late within = absurd (omega arith)
set_behind (f ∷ fs) (y ∷ ys) (suc k) x late within = ap (λ (ws : List ℕ). f ∷ ws) (set_behind fs ys k x (omega arith) (omega arith))

at_behind : (front words : List ℕ) (k : ℕ) → length front ≤ k → word_at (front ++ drop (length front) words) k ≡ slice_index words k
at_behind [] [] k late = refl
at_behind [] (y ∷ ys) zero late = refl
at_behind [] (y ∷ ys) (suc k) late = at_behind [] ys k (omega arith)
at_behind (f ∷ fs) words zero late = absurd (omega arith)
at_behind (f ∷ fs) [] (suc k) late = ap (λ (ws : List ℕ). word_at (fs ++ ws) k) (sym (drop_none (length fs))) ∙ at_behind fs [] k (omega arith)
at_behind (f ∷ fs) (y ∷ ys) (suc k) late = at_behind fs ys k (omega arith)

-- a store behind the words of the machine
pub shown_stored : (words : List ℕ) (word value : ℕ) → SLOTS_START ≤ word → word < length words → block_words (set words word value) ≡ set (block_words words) word value
shown_stored words word value late within =
    ap (λ (n : ℕ). opening_words SLOTS_START ++ drop n (set words word value)) (sym front_length)
    ∙ set_behind (opening_words SLOTS_START) words word value (omega (arith, front_length)) within
    ∙ ap (λ (n : ℕ). set (opening_words SLOTS_START ++ drop n words) word value) front_length

-- a word behind those of the machine
pub shown_word : (words : List ℕ) (word : ℕ) → SLOTS_START ≤ word → word_at (block_words words) word ≡ slice_index words word
shown_word words word late =
    ap (λ (n : ℕ). word_at (opening_words SLOTS_START ++ drop n words) word) (sym front_length)
    ∙ at_behind (opening_words SLOTS_START) words word (omega (arith, front_length))

-- all words are shown
pub shown_words : (words : List ℕ) → length words ≡ TABLE_WORDS → length (block_words words) ≡ TABLE_WORDS
shown_words words all = omega (arith, front_length, length-append (opening_words SLOTS_START) (drop SLOTS_START words), length-drop SLOTS_START words)
