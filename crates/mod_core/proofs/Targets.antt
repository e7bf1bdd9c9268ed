-- A place of an instruction tells its number: how many instructions of its function begin before it.
use Rattle.std.proofs.Common.{◌≡◌, ℕ, zero, suc, ◌+◌, ◌<◌, ◌≤◌, List, [], ◌∷◌, length, map, take, refl, sym, ap, ◌∙◌, cond, nat_lt, ⊎_elim, arith, add-one, All, lt-ltb, ◌-◌}
use borrow.Author.Tests.{le-ltb}
use Rattle.std.specs.List.{count_by, range_with_len, sum_by}
use Rattle.std.proofs.lemmas.Bool.{cases_lt}
use Rattle.std.proofs.lemmas.List.Elements.{All-head, All-tail}
use Rattle.std.proofs.lemmas.List.FromFn.{map-range_with_len_more}
use Rattle.std.proofs.lemmas.List.Sums.{sum_by-append}
use Rattle.mod_core.specs.declared.code.Instr.{Instr}
use Rattle.mod_core.specs.declared.code.Instr.TheVariants.{Eq, Less, Jump}
use Rattle.mod_core.specs.declared.code.Function.{Function}
use Rattle.mod_core.specs.Module.{IsInstr}
use Rattle.mod_core.specs.ModuleImage.{code_len, place_in, placed, placed_code}
use Rattle.mod_core.specs.Decoding.{number_at, number_from}
use Rattle.mod_core.proofs.Lengths.{some_words}

-- ---- places go up

pub len_less : (is : List Instr) (i j : ℕ) → i < j → j ≤ length is → code_len (take i is) < code_len (take j is)
len_less (x ∷ is) zero (suc j) before within = omega (arith, some_words x)
len_less (x ∷ is) (suc i) (suc j) before within = omega (arith, len_less is i j (omega arith) (omega arith))
len_less is i j before within = absurd (omega arith)

-- how many of the places before one are before another
abbrev before : ℕ → List Instr → ℕ → ℕ → ℕ
before start is k n = count_by (λ p. nat_lt p (place_in start is k)) (map (place_in start is) (range_with_len 0 n))

one_more : (start : ℕ) (is : List Instr) (k n : ℕ) → before start is k (n + 1) ≡ before start is k n + cond (nat_lt (place_in start is n) (place_in start is k)) 1 0
one_more start is k n =
    let g : ℕ → ℕ = place_in start is in
    let test : ℕ → ℕ = λ p. cond (nat_lt p (g k)) 1 0 in
    ap (sum_by test) (map-range_with_len_more g 0 n n (omega arith)) ∙ sum_by-append test (map g (range_with_len 0 n)) (g n ∷ []) ∙ (let e : sum_by test (g n ∷ []) ≡ test (g n) = omega arith in ap (λ x. sum_by test (map g (range_with_len 0 n)) + x) e)

-- all places of the instructions before
all_before : (start : ℕ) (is : List Instr) (k n : ℕ) → n ≤ k → k ≤ length is → before start is k n ≡ n
all_before start is k zero n_within within = refl
all_before start is k (suc n) n_within within =
    let last : ◌≡◌ {A = ℕ} (cond (nat_lt (place_in start is n) (place_in start is k)) 1 0) 1 = ap (λ b. cond b 1 0) (lt-ltb (place_in start is n) (place_in start is k) (omega (arith, len_less is n k (omega arith) within))) in
    ap (before start is k) (sym (add-one n)) ∙ one_more start is k n ∙ omega (arith, all_before start is k n (omega arith) within, last)

-- and no other
number_is : (start : ℕ) (is : List Instr) (k m : ℕ) → k + m ≤ length is + 1 → k ≤ length is → before start is k (k + m) ≡ k
number_is start is k zero all within = ap (before start is k) (let e : k + 0 ≡ k = omega arith in e) ∙ all_before start is k k (omega arith) within
number_is start is k (suc m) all within =
    let n : ℕ = k + m in
    let not_before : place_in start is k ≤ place_in start is n = ⊎_elim (λ h. omega (arith, len_less is k n h (omega arith))) (λ h. (let e : k ≡ n = omega arith in omega (arith, ap (place_in start is) e))) (cases_lt k n) in
    let last : ◌≡◌ {A = ℕ} (cond (nat_lt (place_in start is n) (place_in start is k)) 1 0) 0 = ap (λ b. cond b 1 0) (le-ltb (place_in start is n) (place_in start is k) not_before) in
    let next : k + suc m ≡ n + 1 = omega arith in
    ap (before start is k) next ∙ one_more start is k n ∙ omega (arith, number_is start is k m (omega arith) within, last)

-- the number of an instruction from its place in the table of places
pub number_of_place : (start : ℕ) (is : List Instr) (places : List ℕ) (k : ℕ) → places ≡ map (place_in start is) (range_with_len 0 (length is + 1)) → length is ≤ 1024 → k ≤ length is → number_at places (place_in start is k) ≡ k
number_of_place start is places k table few within =
    let whole : before start is k (length is + 1) ≡ k = (let e : k + (length is + 1 - k) ≡ length is + 1 = omega arith in ap (before start is k) (sym e)) ∙ number_is start is k (length is + 1 - k) (omega arith) within in
    ap (λ ps. number_from (count_by (λ p. nat_lt p (place_in start is k)) ps)) table ∙ omega (arith, whole)

-- ---- instructions with numbers again

module _ (g h : ℕ → ℕ) (fs : List Function) (len : ℕ) (back : (k : ℕ) → k ≤ len → h (g k) ≡ k) where
  unplaced : (i : Instr) → IsInstr fs len i → placed h (placed g i) ≡ i
  unplaced (Eq a b target) is = ap (Eq a b) (back target is.2)
  unplaced (Less a b target) is = ap (Less a b) (back target is.2)
  unplaced (Jump target) is = ap Jump (back target is)
  unplaced i is = refl

  pub unplaced_code : (is : List Instr) → All (IsInstr fs len) is → map (placed h) (map (placed g) is) ≡ is
  unplaced_code [] all = refl
  unplaced_code (i ∷ is) all = λ t. unplaced i (All-head (IsInstr fs len) i is all) t ∷ unplaced_code is (All-tail (IsInstr fs len) i is all) t

-- the code of a function from its instructions with places
pub code_again : (fs : List Function) (start : ℕ) (is : List Instr) (places : List ℕ) → places ≡ map (place_in start is) (range_with_len 0 (length is + 1)) → length is ≤ 1024 → All (IsInstr fs (length is)) is → map (placed (number_at places)) (placed_code start is) ≡ is
code_again fs start is places table few all =
    unplaced_code (place_in start is) (number_at places) fs (length is) (λ k within. number_of_place start is places k table few within) is all
