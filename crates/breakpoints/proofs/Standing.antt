-- What the indices of a writer say of a function that is patched, and what stays of it while only words are stored.
use Rattle.std.proofs.Common.{◌≡◌, ℕ, ◌<◌, inl, inr, Bool, cond, List, length, length-set, sym, ap, subst, ◌∙◌, arith}
use Rattle.std.specs.Prelude.{◌==◌, ◌&&◌, Option, Some, None, slice_get, slice_set}
use Rattle.std.proofs.lemmas.Bool.{cases_eq, eq-eqb, ne_eqb}
use Rattle.prgr_core.proofs.Parts.{some_same}
use Rattle.term_core.specs.declared.area.AreaRef.{AreaRef}
use Rattle.term_core.specs.declared.area.CodeRef.{CodeRef}
use Rattle.area_core.specs.declared.map.WordKind.TheVariants.{InBlock}
use Rattle.area_core.specs.declared.table.KeptArea.{KeptArea}
use Rattle.area_core.specs.declared.table.Published.{Published}
use Rattle.area_core.specs.Map.{kind_at, word_at}
use Rattle.area_core.specs.Blocks.{Among, IsForInstances, KeptApart}
use Rattle.area_core.specs.Generations.{is_traced_function, traced_word}
use Rattle.area_core.specs.Stores.{entry_word}
use Rattle.area_core.proofs.Places.{word_here, word_there}
use Rattle.shared_words.specs.declared.view.WriterView.{WriterView}
use Rattle.shared_words.specs.Publishing.{kept_left, with_word}
use Rattle.breakpoints.specs.Indices.{AreIndices}
use Rattle.breakpoints.specs.Patches.{HasPatched, IsPatchable}
use Rattle.breakpoints.proofs.Spots.{area_for}

-- ---- words

-- a word that is stored leaves the areas that are kept, where it is one of a block
pub stored_view : (w : WriterView) (place value block at : ℕ) → kind_at place ≡ InBlock block at → with_word place value w ≡ record w { words = slice_set w.words place value }
stored_view w place value block at kind i = record w { words = slice_set w.words place value; kept = kept_left w value (kind i) }

-- one word was stored
pub record IsSetAt (place value : ℕ) (before after : List ℕ) : Type 0 where
  pub long : length after ≡ length before
  pub here : word_at after place ≡ value
  pub there : (other : ℕ) → (other ≡ place → ⊥) → word_at after other ≡ word_at before other

pub set_at : (words : List ℕ) (place value : ℕ) → length words ≡ 83413 → place < 83413 → IsSetAt place value words (slice_set words place value)
set_at words place value all within = record {
  long = length-set words place value;
  here = word_here words place value (omega (arith, all, within));
  there = word_there words place value;
}

-- ---- tests

-- the word that stands for whether a function is traced
pub traced_is : (p : Published) (serial function : ℕ) (on : Bool) → is_traced_function p serial function ≡ on → traced_word p serial function ≡ entry_word on
traced_is p serial function on is = ap entry_word is

pub traced_alike : (p q : Published) (serial function : ℕ) → is_traced_function p serial function ≡ is_traced_function q serial function → traced_word p serial function ≡ traced_word q serial function
traced_alike p q serial function is = ap entry_word is

-- a choice where both numbers are these
pub chosen : (s t f g : ℕ) (x y : Bool) → s ≡ t → f ≡ g → cond ((s == t) && (f == g)) x y ≡ x
chosen s t f g x y a b i = cond (eq-eqb s t a i && eq-eqb f g b i) x y

-- and where they are not
pub passed : (s t f g : ℕ) (x y : Bool) → (s ≡ t → f ≡ g → ⊥) → cond ((s == t) && (f == g)) x y ≡ y
passed s t f g x y differ =
    elim (cases_eq s t) as (λ _. cond ((s == t) && (f == g)) x y ≡ y) [
      | inl same ↦ (λ i. cond (eq-eqb s t same i && ne_eqb f g (differ same) i) x y)
      | inr other ↦ (λ i. cond (ne_eqb s t other i && (f == g)) x y)
    ]

-- ---- areas

-- kept areas of one serial are one
pub same_serial : (kept : List KeptArea) → KeptApart kept → (a b : KeptArea) → Among kept a → Among kept b → a.area.serial ≡ b.area.serial → a ≡ b
same_serial kept apart a b is_a is_b same =
    elim (cases_eq is_a.0 is_b.0) as (λ _. a ≡ b) [
      | inl one ↦ some_same a b (sym is_a.1 ∙ ap (slice_get kept) one ∙ is_b.1)
      | inr two ↦ absurd ((apart is_a.0 is_b.0 a b two is_a.1 is_b.1).0 same)
    ]

-- the function that is patched is one of a block for instances
pub patch_for : (patched : Option CodeRef) (w : WriterView) (at : CodeRef) → AreIndices patched w → IsPatchable w at → IsForInstances at.area.block × (at.function < 16)
patch_for patched w at own can =
    subst (λ (a : AreaRef). IsForInstances a.block × (at.function < 16)) can.is (area_for can.area at.function (own.areas can.area can.kept) can.has)

-- while one function is patched, less is asked of the indices
pub weakened : (at : CodeRef) (w : WriterView) → AreIndices None w → AreIndices (Some at) w
weakened at w own = record {
  all = own.all;
  areas = own.areas;
  alone = own.alone;
  placed = own.placed;
  fits = own.fits;
  stands = own.stands;
  entries = own.entries;
  agree = λ block function for few _. own.agree block function for few tt;
  clear = own.clear;
}

-- a function stays one that can be patched
pub patchable_with : (w : WriterView) (at : CodeRef) (words : List ℕ) → IsPatchable w at → IsPatchable (record w { words = words }) at
patchable_with w at words can = record { area = can.area; kept = can.kept; is = can.is; has = can.has; listed = can.listed; instance = can.instance }

-- ---- what a step leaves

pub patched_then : (at : CodeRef) (a b c : WriterView) → HasPatched at a b → HasPatched at b c → HasPatched at a c
patched_then at a b c first second = record {
  view = second.view ∙ ap (λ (v : WriterView). record v { words = c.words; pairs = c.pairs; counter = c.counter }) first.view;
  long = second.long ∙ first.long;
  others = λ place decision entry. second.others place decision entry ∙ first.others place decision entry;
  more = λ pair among. second.more pair (first.more pair among);
  longer = (let one = first.longer in let two = second.longer in omega (arith, one, two));
  rising = (let one = first.rising in let two = second.rising in omega (arith, one, two));
}
