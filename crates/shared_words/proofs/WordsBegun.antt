-- The words of a table as the code stores them one by one.
use Rattle.std.proofs.Common.{◌≡◌, ℕ, ◌+◌, ◌<◌, ◌≤◌, List, replicate, set, get_or-set_other, get_or-set_same, length-set, sym, ap, subst, ◌∙◌, arith}
use mathlib.Core.Logic.{dite}
use native.Mathlib.Decide.{ℕ_discrete}
use Rattle.std.specs.Prelude.{slice_index}
use Rattle.std.proofs.lemmas.List.{length-replicate}
use Rattle.term_core.proofs.Lists.{zeros}
use Rattle.prgr_core.specs.declared.member.TheConstants.{WAITING, OPENING_COUNTER, OPENING_WORD, MOST_MEMBERS}
use Rattle.area_core.specs.declared.map.TheConstants.{TABLE_WORDS}
use Rattle.shared_words.specs.declared.table.TheConstants.{ROOT, COUNTER, LEAD, DELAYS, CONFIRMED}
use Rattle.shared_words.specs.Making.{AreBegunTo}

-- a word of zeros behind a store of the counter
zero_else : (n k : ℕ) → (k ≡ COUNTER → ⊥) → slice_index (set (replicate n 0) COUNTER OPENING_COUNTER) k ≡ 0
zero_else n k other = get_or-set_other (replicate n 0) COUNTER k OPENING_COUNTER 0 other ∙ zeros n k

-- zeros with the opening counter
begun_zeros : (members n : ℕ) → n ≡ TABLE_WORDS → AreBegunTo members 0 (set (replicate n 0) COUNTER OPENING_COUNTER)
begun_zeros members n size = record {
  all = length-set (replicate n 0) COUNTER OPENING_COUNTER ∙ length-replicate {A = ℕ} n 0 ∙ size;
  root = zero_else n ROOT (λ e. absurd (omega arith));
  counter = get_or-set_same (replicate n 0) COUNTER OPENING_COUNTER 0 (omega (arith, length-replicate {A = ℕ} n 0));
  lead = zero_else n LEAD (λ e. absurd (omega arith));
  even = zero_else n DELAYS (λ e. absurd (omega arith));
  odd = zero_else n (DELAYS + 1) (λ e. absurd (omega arith));
  awake = λ k made few. absurd (omega arith);
  waiting = λ k late few. absurd (omega arith);
  behind = λ place late. zero_else n place (λ e. absurd (omega arith));
}

pub begun_none : (members n : ℕ) (words : List ℕ) → words ≡ replicate n 0 → n ≡ TABLE_WORDS → AreBegunTo members 0 (set words COUNTER OPENING_COUNTER)
begun_none members n words is size = subst (λ (ws : List ℕ). AreBegunTo members 0 (set ws COUNTER OPENING_COUNTER)) (sym is) (begun_zeros members n size)

-- the word of one member more
pub begun_more : (members n word : ℕ) (words : List ℕ) → n < MOST_MEMBERS → (n < members → word ≡ OPENING_WORD) → (members ≤ n → word ≡ WAITING) → AreBegunTo members n words → AreBegunTo members (n + 1) (set words (CONFIRMED + n) word)
begun_more members n word words few made other h =
    let size = h.all in record {
      all = length-set words (CONFIRMED + n) word ∙ h.all;
      root = get_or-set_other words (CONFIRMED + n) ROOT word 0 (λ e. absurd (omega arith)) ∙ h.root;
      counter = get_or-set_other words (CONFIRMED + n) COUNTER word 0 (λ e. absurd (omega arith)) ∙ h.counter;
      lead = get_or-set_other words (CONFIRMED + n) LEAD word 0 (λ e. absurd (omega arith)) ∙ h.lead;
      even = get_or-set_other words (CONFIRMED + n) DELAYS word 0 (λ e. absurd (omega arith)) ∙ h.even;
      odd = get_or-set_other words (CONFIRMED + n) (DELAYS + 1) word 0 (λ e. absurd (omega arith)) ∙ h.odd;
      awake = λ k below count. dite (ℕ_discrete k n)
          (λ here. ap (λ (j : ℕ). slice_index (set words (CONFIRMED + n) word) (CONFIRMED + j)) here ∙ get_or-set_same words (CONFIRMED + n) word 0 (omega arith) ∙ made (omega arith))
          (λ apart. get_or-set_other words (CONFIRMED + n) (CONFIRMED + k) word 0 (λ e. apart (omega arith)) ∙ h.awake k below (omega arith));
      waiting = λ k late count. dite (ℕ_discrete k n)
          (λ here. ap (λ (j : ℕ). slice_index (set words (CONFIRMED + n) word) (CONFIRMED + j)) here ∙ get_or-set_same words (CONFIRMED + n) word 0 (omega arith) ∙ other (omega arith))
          (λ apart. get_or-set_other words (CONFIRMED + n) (CONFIRMED + k) word 0 (λ e. apart (omega arith)) ∙ h.waiting k late (omega arith));
      behind = λ place late. get_or-set_other words (CONFIRMED + n) place word 0 (λ e. absurd (omega arith)) ∙ h.behind place late;
    }
