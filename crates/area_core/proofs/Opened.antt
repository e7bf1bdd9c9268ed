-- The state in which events begin is sound: each word is 0, nothing is loaded, and no area is kept.
use Rattle.std.proofs.Common.{◌≡◌, ℕ, zero, suc, false, List, [], ◌∷◌, Option, Some, None, length, replicate, refl, sym, ap, subst, ◌∙◌, arith}
use Rattle.std.proofs.lemmas.List.{length-replicate}
use Rattle.std.specs.Prelude.{◌==◌, slice_get}
use Rattle.prgr_core.specs.declared.progress.Progress.{Progress}
use Rattle.prgr_core.specs.Step.{progress_opening as opening_progress, IsSound as IsProgressSound}
use Rattle.area_core.specs.declared.map.TheConstants.{TABLE_WORDS, BUCKETS}
use Rattle.area_core.specs.declared.table.Published.{Published}
use Rattle.area_core.specs.declared.table.Table.{Table}
use Rattle.area_core.specs.Map.{word_at, opening_words, slot_place}
use Rattle.area_core.specs.Generations.{is_naming}
use Rattle.area_core.specs.Terms.{looked, look_at, found_outcome, key_in, TermsStand}
use Rattle.area_core.specs.Blocks.{BlockInvariant, RootFits, InstancesPlaced, CodeStands, BreakpointsStand, term_blocks_words, UsedAreKept, Among}
use Rattle.area_core.specs.Step.{with_progress, opening_of, opening_published, blocks_of, IsReadable, IsSound}
use Rattle.area_core.proofs.Counted.{opened}

-- ---- words

no_element : {X : Type 0} (k : ℕ) {x : X} → slice_get {X = X} [] k ≡ Some x → ⊥
no_element k e = (cc)

none_among : {X : Type 0} (x : X) → Among {X = X} [] x → ⊥
none_among x is = no_element is.0 is.1

zero_at : (count place : ℕ) → word_at (replicate count 0) place ≡ 0
zero_at zero place = refl
zero_at (suc n) zero = refl
zero_at (suc n) (suc place) = zero_at n place

-- each word is 0 at first
opening_word : (count place : ℕ) → word_at (opening_words count) place ≡ 0
opening_word count place = ap (λ words. word_at words place) (sym (opened count)) ∙ zero_at count place

-- there are so many
length-opening_words : (count : ℕ) → length (opening_words count) ≡ count
length-opening_words count = ap (λ (words : List ℕ). length words) (sym (opened count)) ∙ length-replicate count 0

-- ---- keys

-- an empty bucket tells that the key is not there
looks_on : (block : ℕ → ℕ) (key bucket : ℕ) (known : Option (Option ℕ)) → key_in block bucket ≡ 0 → found_outcome known ≡ None → found_outcome (look_at block key bucket known) ≡ None
looks_on block key bucket (Some found) empty e = e
looks_on block key bucket None empty e = rw empty refl

looked_empty : (block : ℕ → ℕ) → ((at : ℕ) → block at ≡ 0) → (key n : ℕ) → found_outcome (looked block key n) ≡ None
unfolding looked
looked_empty block empty key zero = refl
looked_empty block empty key (suc n) = looks_on block key _ (looked block key n) (empty _) (looked_empty block empty key n)

-- ---- the blocks

-- it is the opening generation
one_at : (g : ℕ) (p q : Published) → slice_get (q ∷ []) g ≡ Some p → q ≡ p
one_at zero p q e = cc
one_at (suc g) p q e = absurd (no_element g e)

-- what holds of the opening generation holds of each that was published
each_published : (Counts : ℕ → Type 0) (P : Published → Type 0) → P opening_published → (g : ℕ) (p : Published) → Counts g → slice_get (opening_published ∷ []) g ≡ Some p → P p
each_published Counts P first g p counts at = subst P (one_at g p opening_published at) first

module _ (word : ℕ → ℕ) (empty : (place : ℕ) → word place ≡ 0) where
  code_opened : CodeStands word opening_published
  code_opened entry within = ap (λ w. w == 0) (empty _)

  terms_opened : TermsStand (term_blocks_words word opening_published.root) opening_published
  terms_opened = record {
    found = λ i k at. absurd (no_element i at);
    only = λ key value found. absurd (let none = looked_empty (term_blocks_words word opening_published.root) (λ at. empty _) key BUCKETS in cc);
  }

  used_opened : UsedAreKept [] opening_published
  used_opened serial used = absurd (cc)

  -- words that are all 0 stand for the opening generation, whatever counts
  pub blocks_opened : (Counts : ℕ → Type 0) → BlockInvariant (record { word = word; published = opening_published ∷ []; kept = [] }) Counts
  blocks_opened Counts = record {
    roots_fit = each_published Counts (λ p. RootFits p.root) (record { code = omega arith; bp = omega arith; term = omega arith });
    instances_placed = each_published Counts InstancesPlaced (λ a is. absurd (none_among a is));
    code_stands = each_published Counts (CodeStands word) code_opened;
    breakpoints_stand = each_published Counts (BreakpointsStand word) (λ a is. absurd (none_among a is));
    terms_stand = each_published Counts (λ p. TermsStand (term_blocks_words word p.root) p) terms_opened;
    used_kept = each_published Counts (UsedAreKept []) used_opened;
    areas_stand = λ g p counts at k is. absurd (none_among k is);
    images_stand = λ k is. absurd (none_among k is);
    kept_fit = λ k is. absurd (none_among k is);
    kept_apart = λ i j a b apart at_i at_j. absurd (no_element i at_i);
    named_kept = λ process anchor is naming. absurd (let none : is_naming (word (slot_place process anchor)) ≡ false = ap is_naming (empty _) in cc);
    anchors_apart = λ process a b is_a is_b apart some others. absurd (some (empty _));
  }

-- ---- the whole

-- the opening state of so many words is sound but for their number
blocks_of_opening : (members watchers count : ℕ) → BlockInvariant (blocks_of (opening_of members watchers count)) (IsReadable (opening_of members watchers count))
blocks_of_opening members watchers count = blocks_opened (word_at (opening_words count)) (opening_word count) (IsReadable (opening_of members watchers count))

-- the opening state is sound where that of the progress machine is
pub opened_sound : (members watchers : ℕ) → IsProgressSound (opening_progress members watchers) → IsSound (opening_of members watchers TABLE_WORDS)
opened_sound members watchers progress = record {
  progress = progress;
  blocks = blocks_of_opening members watchers TABLE_WORDS;
  words = length-opening_words TABLE_WORDS;
  published = refl;
}

-- the same with its parts as the code makes them
pub made_sound : (members watchers : ℕ) (progress : Progress) (t : Table) → progress ≡ opening_progress members watchers → IsProgressSound progress → t ≡ record { progress = progress; words = opening_words TABLE_WORDS; published = opening_published ∷ []; kept = [] } → IsSound t
made_sound members watchers progress t is sound made =
    let same : with_progress (opening_of members watchers TABLE_WORDS) progress ≡ opening_of members watchers TABLE_WORDS = ap (with_progress (opening_of members watchers TABLE_WORDS)) is in
    subst IsSound (sym (made ∙ same)) (opened_sound members watchers (subst IsProgressSound is sound))
