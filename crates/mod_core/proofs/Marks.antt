-- The serial and the entry words of an image, which may be any, and the words without them.
use Rattle.std.proofs.Common.{◌≡◌, ◌⊎◌, ℕ, ◌+◌, ◌-◌, ◌*◌, ◌/◌, ◌%◌, ◌<◌, List, [], ◌∷◌, ◌++◌, length, get_or, refl, sym, ap, ◌∙◌, arith, ⊎_elim, inl, inr, Bool, true, false, ◌&&◌, ◌||◌, cond, nat_eq, nat_le, nat_lt, length-append, below_more, Result, Ok, Err, IsErrOf, slice_index}
use Rattle.std.proofs.lemmas.Bool.{eqb-true, false≢true, leb-true, false_from_ne_true}
use borrow.Author.Tests.{ltb-true}
use Rattle.std.proofs.lemmas.Bool.Decides.{nat_tests}
use Rattle.std.proofs.Math.Seq.{get_or-append_seam}
use Rattle.std.proofs.lemmas.Grind.{same_number_lists}
use Rattle.std.proofs.lemmas.List.{get_or_append_left}
use Rattle.std.proofs.lemmas.Option.{slice_get-get_or}
use Rattle.term_core.specs.declared.image_fault.ImageFault.{ImageFault}
use Rattle.term_core.specs.declared.image_fault.ImageFault.TheVariants.{Bad, NoMemory}
use Rattle.term_core.specs.Gives.{GivesUnless}
use Rattle.mod_core.specs.declared.code.Function.{Function}
use Rattle.mod_core.specs.declared.code.Module.{Module}
use Rattle.mod_core.specs.ModuleImage.{IsFixedPlace, IsImageOfModule, module_image}
use Rattle.mod_core.specs.Decoding.{IsUnmarked, is_mark}
use Rattle.mod_core.proofs.Lengths.{image_end}
use Rattle.mod_core.proofs.Places.{code_behind_heads}
use Rattle.mod_core.proofs.Heads.{first_function, head_word}

-- ---- marks

mark_cases : (a b c d : Bool) → (a || (b && (c && d))) ≡ true → (a ≡ true) ⊎ ((b ≡ true) × (c ≡ true) × (d ≡ true))
mark_cases true b c d e = inl refl
mark_cases false true true true e = inr (refl, refl, refl)
mark_cases false b c d e = absurd (false≢true e)

-- a mark is the serial or an entry word
pub mark_is : (count at : ℕ) → is_mark count at ≡ true → (at ≡ 0) ⊎ ((i : ℕ) × ((i < count) × (at ≡ 4 + 4 * i + 2)))
mark_is count at e =
    ⊎_elim (λ zero_at. inl (eqb-true at 0 zero_at))
    (λ h. inr ((at - 6) / 4, (ltb-true ((at - 6) / 4) count h.2, omega (arith, leb-true 6 at h.0, eqb-true ((at - 6) % 4) 0 h.1))))
    (mark_cases (nat_eq at 0) (nat_le 6 at) (nat_eq ((at - 6) % 4) 0) (nat_lt ((at - 6) / 4) count) e)

entry_is_mark : (count i : ℕ) → i < count → is_mark count (4 + 4 * i + 2) ≡ true
entry_is_mark count i below = grind (arith, nat_tests)

-- an image has 0 at its marks
marks_are_zero : (m : Module) (at : ℕ) → is_mark (length m.functions) at ≡ true → slice_index (module_image m) at ≡ 0
marks_are_zero m at mark =
    ⊎_elim (λ serial. ap (λ k. get_or (module_image m) k 0) serial)
    (λ h. let f : Function = get_or m.functions h.0 first_function in
    ap (λ k. get_or (module_image m) k 0) h.1.1 ∙ head_word m h.0 2 f (slice_get-get_or m.functions h.0 first_function h.1.0) (omega arith))
    (mark_is (length m.functions) at mark)

-- where nothing is marked, the place is fixed
fixed_unless : (m : Module) (at : ℕ) → at < length (module_image m) → is_mark (length m.functions) at ≡ false → IsFixedPlace m at
fixed_unless m at within not_mark = record {
  within = within;
  no_serial = λ e. false≢true (sym not_mark ∙ ap (is_mark (length m.functions)) e);
  no_entry = λ i below e. false≢true (sym not_mark ∙ ap (is_mark (length m.functions)) e ∙ entry_is_mark (length m.functions) i below);
}

not_marked : (m : Module) (at : ℕ) → IsFixedPlace m at → is_mark (length m.functions) at ≡ true → ⊥
not_marked m at fixed mark = ⊎_elim (λ e. fixed.no_serial e) (λ h. fixed.no_entry h.0 h.1.0 h.1.1) (mark_is (length m.functions) at mark)

-- an image has the number of its functions
has_count : (m : Module) → 3 < length (module_image m)
has_count m = omega (arith, image_end m, code_behind_heads m)

at_place : (words copy : List ℕ) (m : Module) (at : ℕ) → at < length words → IsImageOfModule m words → (mark : Bool) → is_mark (length m.functions) at ≡ mark → slice_index copy at ≡ cond (is_mark (length m.functions) at) 0 (slice_index words at) → get_or copy at 0 ≡ get_or (module_image m) at 0
at_place words copy m at below image true e here = here ∙ ap (λ b. cond b 0 (slice_index words at)) e ∙ sym (marks_are_zero m at e)
at_place words copy m at below image false e here = here ∙ ap (λ b. cond b 0 (slice_index words at)) e ∙ image.same at (fixed_unless m at (omega (arith, image.whole)) e)

-- the words of a module's image tell the number of its functions
count_told : (words : List ℕ) (m : Module) → IsImageOfModule m words → slice_index words 3 ≡ length m.functions
count_told words m image = image.same 3 (record { within = has_count m; no_serial = λ e. absurd (omega (arith, e)); no_entry = λ i below e. absurd (omega (arith, e)) })

-- one word more is copied
pub copied_more : (count : ℕ) (words copy more : List ℕ) (at word : ℕ) → length copy ≡ at → ((k : ℕ) → k < at → get_or copy k 0 ≡ cond (is_mark count k) 0 (get_or words k 0)) → word ≡ cond (is_mark count at) 0 (get_or words at 0) → more ≡ copy ++ word ∷ [] →
    (length more ≡ at + 1) × ((k : ℕ) → k < at + 1 → get_or more k 0 ≡ cond (is_mark count k) 0 (get_or words k 0))
copied_more count words copy more at word long each word_is more_is = (
  omega (arith, ap length more_is, length-append copy (word ∷ []), long),
  below_more (λ k. get_or more k 0 ≡ cond (is_mark count k) 0 (get_or words k 0)) at
      (λ k h. ap (λ ws. get_or ws k 0) more_is ∙ get_or_append_left copy (word ∷ []) 0 k (omega (arith, long)) ∙ each k h)
      ((λ t. get_or (more_is t) (sym long t) 0) ∙ get_or-append_seam copy word [] 0 ∙ word_is),
)

-- and at the end all of them
pub copied_all : (count : ℕ) (words copy : List ℕ) (at : ℕ) → at ≡ length words → length copy ≡ at → ((k : ℕ) → k < at → get_or copy k 0 ≡ cond (is_mark count k) 0 (get_or words k 0)) → count ≡ slice_index words 3 → IsUnmarked words copy
copied_all count words copy at all long each count_is = record {
  long = long ∙ all;
  each = λ k below. each k (omega (arith, all)) ∙ ap (λ n. cond (is_mark n k) 0 (get_or words k 0)) count_is;
}

-- the words of a module without their marks are its image
pub unmarked_is : (words copy : List ℕ) (m : Module) → IsUnmarked words copy → IsImageOfModule m words → copy ≡ module_image m
unmarked_is words copy m unmarked image =
    let count = count_told words m image in
    let here = λ (at : ℕ) (below : at < length words). unmarked.each at below ∙ ap (λ n. cond (is_mark n at) 0 (slice_index words at)) count in
    same_number_lists copy (module_image m) (unmarked.long ∙ image.whole)
    (λ at below. at_place words copy m at (omega (arith, unmarked.long)) image (is_mark (length m.functions) at) refl (here at (omega (arith, unmarked.long))))

both_places : (words : List ℕ) (m o : Module) (at : ℕ) → length m.functions ≡ length o.functions → IsImageOfModule m words → IsImageOfModule o words → (mark : Bool) → is_mark (length m.functions) at ≡ mark → at < length (module_image m) → get_or (module_image m) at 0 ≡ get_or (module_image o) at 0
both_places words m o at count one other true e below = marks_are_zero m at e ∙ sym (marks_are_zero o at (sym (ap (λ n. is_mark n at) count) ∙ e))
both_places words m o at count one other false e below =
    sym (one.same at (fixed_unless m at below e)) ∙ other.same at (fixed_unless o at (omega (arith, one.whole, other.whole)) (sym (ap (λ n. is_mark n at) count) ∙ e))

-- words are the images of two modules where these have one image
pub same_image : (words : List ℕ) (m o : Module) → IsImageOfModule m words → IsImageOfModule o words → module_image m ≡ module_image o
same_image words m o one other =
    let count : length m.functions ≡ length o.functions = sym (count_told words m one) ∙ count_told words o other in
    same_number_lists (module_image m) (module_image o) (sym one.whole ∙ other.whole) (λ at below. both_places words m o at count one other (is_mark (length m.functions) at) refl below)

-- and words with that image are the module's
pub marked_is : (words copy : List ℕ) (m : Module) → IsUnmarked words copy → copy ≡ module_image m → IsImageOfModule m words
marked_is words copy m unmarked same =
    let long : length words ≡ length (module_image m) = sym unmarked.long ∙ ap length same in
    let count : slice_index words 3 ≡ length m.functions = sym (unmarked.each 3 (omega (arith, long, has_count m))) ∙ ap (λ ws. get_or ws 3 0) same in
    record {
      whole = long;
      same = λ at fixed.
          sym (unmarked.each at (omega (arith, long, fixed.within)) ∙ ap (λ n. cond (is_mark n at) 0 (slice_index words at)) count ∙ ap (λ b. cond b 0 (slice_index words at)) (false_from_ne_true (is_mark (length m.functions) at) (not_marked m at fixed)))
          ∙ ap (λ ws. get_or ws at 0) same;
    }

-- ---- faults

-- what gives a module, or else wants memory, finds no fault in the words
pub not_bad : (r : Result Module ImageFault) (m : Module) → GivesUnless NoMemory r m → IsErrOf r Bad → ⊥
not_bad (Ok x) m gives bad = cc
not_bad (Err e) m gives bad = cc
