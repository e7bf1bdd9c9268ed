-- That the words of an area tell whether it is an instance or a complex term: 0 stands in each instance's image, and in no term's.
use Rattle.std.proofs.Common.{◌≡◌, ◌+◌, ◌∙◌, ℕ, Bool, true, false, refl, sym, ap, subst, arith, All, IsTrue, List, [], ◌∷◌, ◌++◌, length, slice_get, slice_index, Option, Some, None, if◌then◌else◌}
use Rattle.std.proofs.lemmas.Bool.Decides.{nat_tests}
use Rattle.std.proofs.lemmas.List.{append-nil, take_all}
use Rattle.std.proofs.lemmas.Option.{get_or_from_slice_get, slice_get_within}
use Rattle.term_core.specs.Image.{image_of}
use Rattle.term_core.specs.ImageWords.{found_len, is_image_word}
use Rattle.term_core.specs.PlainTerm.{PlainTerm, term_words}
use Rattle.term_core.proofs.ImageReadings.{found_fit}
use Rattle.term_core.proofs.ImageTerms.{found_len-image, length-image}
use Rattle.mod_core.specs.declared.code.Function.{Function}
use Rattle.mod_core.specs.declared.code.Module.{Module}
use Rattle.mod_core.specs.ModuleImage.{code_start, constants_of, constants_start, constants_words, function_heads, functions_words}
use Rattle.server_core.specs.Generations.{is_serial}
use Rattle.server_core.specs.ServerState.{IsShortTerm, instance_image}
use Rattle.machine_core.specs.GenerationReads.{function_count, is_term_image}

same_number : (n k : ℕ) → n ≡ k → is_serial (Some n) k ≡ true
same_number n k e = grind (arith, nat_tests)

-- the image of a term is told as one
pub term_image : (t : PlainTerm) → IsShortTerm t → is_term_image (image_of t) ≡ true
term_image t h =
    let found : found_len 1 (image_of t) ≡ Some (term_words t + 0) = ap (found_len 1) (sym (append-nil (image_of t))) ∙ found_len-image t h.fits h.short 0 [] in
    ap (λ o. is_serial o (length (image_of t))) found ∙ same_number (term_words t + 0) (length (image_of t)) (omega (arith, length-image t))

-- 0 stands somewhere among these words
record HasZero (words : List ℕ) : Type 0 where
  at : ℕ
  is : slice_get words at ≡ Some 0

-- in the image of an instance: as the entry word of its first function, or as the number of its functions
zero_among : (serial name version start : ℕ) (fs : List Function) (rest : List ℕ) → HasZero (serial ∷ name ∷ version ∷ length fs ∷ (function_heads start fs ++ rest))
zero_among serial name version start [] rest = record { at = 3; is = refl }
zero_among serial name version start (f ∷ fs) rest = record { at = 6; is = refl }

instance_zero : (serial : ℕ) (m : Module) → HasZero (instance_image serial m)
instance_zero serial m =
    zero_among serial m.name.0 m.version (code_start m.functions) m.functions
    (functions_words (code_start m.functions) (constants_start m.functions) m.functions ++ constants_words (constants_of m.functions))

pub found_number : (o : Option ℕ) (k : ℕ) → is_serial o k ≡ true → o ≡ Some k
found_number None k e = absurd (cc)
found_number (Some n) k e = let same : n ≡ k = grind (arith, nat_tests) in ap Some same

no_zero : (words : List ℕ) (at : ℕ) → slice_get words at ≡ Some 0 → All (λ word. IsTrue (is_image_word word)) words → ⊥
no_zero words at e fit =
    let within = slice_get_within words at 0 e in
    let zero_fits : is_image_word 0 ≡ true = subst (λ word. IsTrue (is_image_word word)) (get_or_from_slice_get words at 0 0 e) (fit at 0 within) in
    cc

no_image : (words : List ℕ) (b : Bool) → is_term_image words ≡ b → HasZero words → b ≡ false
no_image words false e z = refl
no_image words true e z =
    let fit = found_fit words 1 (length words) (found_number (found_len 1 words) (length words) e) in
    absurd (no_zero words z.at z.is (subst (λ ws. All (λ word. IsTrue (is_image_word word)) ws) (take_all (length words) words (omega arith)) fit))

-- an instance's image is no term's
pub instance_no_term : (serial : ℕ) (m : Module) → is_term_image (instance_image serial m) ≡ false
instance_no_term serial m = no_image (instance_image serial m) (is_term_image (instance_image serial m)) refl (instance_zero serial m)

-- so its words tell how many functions it has
pub instance_functions : (serial : ℕ) (m : Module) → function_count (instance_image serial m) ≡ length m.functions
instance_functions serial m = ap (λ b. if b then 0 else length m.functions) (instance_no_term serial m)

-- and a term has none
pub term_functions : (t : PlainTerm) → IsShortTerm t → function_count (image_of t) ≡ 0
term_functions t h = ap (λ b. if b then 0 else slice_index (image_of t) 3) (term_image t h)
