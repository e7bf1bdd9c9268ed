-- The table of areas as instances and terms: what stands at a serial's place, and what stands behind once something came in.
use Rattle.std.proofs.Common.{◌≡◌, ℕ, zero, suc, ◌+◌, ◌-◌, ◌<◌, true, false, cond, nat_eq, List, [], ◌∷◌, ◌++◌, length, Option, Some, None, option_map, option_and_then, slice_get, refl, sym, ap, ◌∙◌, length-append, arith}
use Rattle.std.proofs.lemmas.Bool.Decides.{nat_tests}
use Rattle.term_core.specs.Image.{image_of}
use Rattle.term_core.specs.PlainTerm.{PlainTerm}
use Rattle.mod_core.specs.declared.code.Module.{Module}
use Rattle.server_core.specs.declared.areas.Area.{Area}
use Rattle.server_core.specs.declared.areas.Area.TheVariants.{Loaded, Stored}
use Rattle.server_core.specs.Areas.{area_at, instances_in, terms_in, words_among}
use Rattle.server_core.specs.ServerState.{code_among, first_words, instance_image, term_among}

-- the module of an area, if it is of an instance
abbrev pub module_in : Area → Option Module
module_in (Loaded m) = Some m
module_in (Stored t) = None

-- the term of an area, if it is of one
abbrev pub stored_in : Area → Option PlainTerm
stored_in (Loaded m) = None
stored_in (Stored t) = Some t

-- the words of an area
abbrev pub words_in : ℕ → Area → List ℕ
words_in serial (Loaded m) = instance_image serial m
words_in serial (Stored t) = image_of t

-- serials below the first are those of no instance
instances_below : (n serial : ℕ) (areas : List Area) → serial < n → code_among (instances_in n areas) serial ≡ None
instances_below n serial [] below = refl
instances_below n serial (Loaded m ∷ areas) below =
    let other : nat_eq n serial ≡ false = grind (arith, nat_tests) in
    rw other (instances_below (n + 1) serial areas (omega arith))
instances_below n serial (Stored t ∷ areas) below = instances_below (n + 1) serial areas (omega arith)

-- and of no term
terms_below : (n serial : ℕ) (areas : List Area) → serial < n → term_among (terms_in n areas) serial ≡ None
terms_below n serial [] below = refl
terms_below n serial (Loaded m ∷ areas) below = terms_below (n + 1) serial areas (omega arith)
terms_below n serial (Stored t ∷ areas) below =
    let other : nat_eq n serial ≡ false = grind (arith, nat_tests) in
    rw other (terms_below (n + 1) serial areas (omega arith))

-- the instances stand in order
instances_at : (n k : ℕ) (areas : List Area) → code_among (instances_in n areas) (n + k) ≡ option_and_then module_in (slice_get areas k)
instances_at n k [] = refl
instances_at n zero (Loaded m ∷ areas) = let same : nat_eq n (n + zero) ≡ true = grind (arith, nat_tests) in rw same refl
instances_at n zero (Stored t ∷ areas) = instances_below (n + 1) (n + zero) areas (omega arith)
instances_at n (suc k) (Loaded m ∷ areas) =
    let other : nat_eq n (n + suc k) ≡ false = grind (arith, nat_tests) in
    let next : n + suc k ≡ (n + 1) + k = omega arith in
    rw other (ap (code_among (instances_in (n + 1) areas)) next ∙ instances_at (n + 1) k areas)
instances_at n (suc k) (Stored t ∷ areas) =
    let next : n + suc k ≡ (n + 1) + k = omega arith in
    ap (code_among (instances_in (n + 1) areas)) next ∙ instances_at (n + 1) k areas

-- and so do the terms
stored_at : (n k : ℕ) (areas : List Area) → term_among (terms_in n areas) (n + k) ≡ option_and_then stored_in (slice_get areas k)
stored_at n k [] = refl
stored_at n zero (Loaded m ∷ areas) = terms_below (n + 1) (n + zero) areas (omega arith)
stored_at n zero (Stored t ∷ areas) = let same : nat_eq n (n + zero) ≡ true = grind (arith, nat_tests) in rw same refl
stored_at n (suc k) (Loaded m ∷ areas) =
    let next : n + suc k ≡ (n + 1) + k = omega arith in
    ap (term_among (terms_in (n + 1) areas)) next ∙ stored_at (n + 1) k areas
stored_at n (suc k) (Stored t ∷ areas) =
    let other : nat_eq n (n + suc k) ≡ false = grind (arith, nat_tests) in
    let next : n + suc k ≡ (n + 1) + k = omega arith in
    rw other (ap (term_among (terms_in (n + 1) areas)) next ∙ stored_at (n + 1) k areas)

not_first : (k : ℕ) → nat_eq (suc k) 0 ≡ false
not_first k = grind (arith, nat_tests)

-- the module of the instance with a serial is that of its area
pub code_at : (areas : List Area) (serial : ℕ) → code_among (instances_in 1 areas) serial ≡ option_and_then module_in (area_at areas serial)
code_at areas zero = instances_below 1 0 areas (omega arith)
code_at areas (suc k) =
    let from : suc k ≡ 1 + k = omega arith in
    let place : suc k - 1 ≡ k = omega arith in
    ap (code_among (instances_in 1 areas)) from ∙ instances_at 1 k areas ∙ ap (λ i. option_and_then module_in (slice_get areas i)) (sym place) ∙ ap (λ b. option_and_then module_in (cond b None (slice_get areas (suc k - 1)))) (sym (not_first k))

-- and so is the term of the area with a serial
pub term_at_serial : (areas : List Area) (serial : ℕ) → term_among (terms_in 1 areas) serial ≡ option_and_then stored_in (area_at areas serial)
term_at_serial areas zero = terms_below 1 0 areas (omega arith)
term_at_serial areas (suc k) =
    let from : suc k ≡ 1 + k = omega arith in
    let place : suc k - 1 ≡ k = omega arith in
    ap (term_among (terms_in 1 areas)) from ∙ stored_at 1 k areas ∙ ap (λ i. option_and_then stored_in (slice_get areas i)) (sym place) ∙ ap (λ b. option_and_then stored_in (cond b None (slice_get areas (suc k - 1)))) (sym (not_first k))

of_area : (serial : ℕ) (o : Option Area) → first_words (option_map (instance_image serial) (option_and_then module_in o)) (option_map image_of (option_and_then stored_in o)) ≡ option_map (words_in serial) o
of_area serial None = refl
of_area serial (Some (Loaded m)) = refl
of_area serial (Some (Stored t)) = refl

-- the words of the area with a serial
pub words_at : (areas : List Area) (serial : ℕ) → words_among areas serial ≡ option_map (words_in serial) (area_at areas serial)
words_at areas serial = (λ i. first_words (option_map (instance_image serial) (code_at areas serial i)) (option_map image_of (term_at_serial areas serial i))) ∙ of_area serial (area_at areas serial)

-- a word of an area that was found
pub word_found : (areas : List Area) (serial at : ℕ) (o : Option Area) → o ≡ area_at areas serial → option_and_then (λ words. slice_get words at) (option_map (words_in serial) o) ≡ option_and_then (λ words. slice_get words at) (words_among areas serial)
word_found areas serial at o found = ap (λ p. option_and_then (λ words. slice_get words at) (option_map (words_in serial) p)) found ∙ ap (option_and_then (λ words. slice_get words at)) (sym (words_at areas serial))

-- the module of an area that was found
pub code_found : (areas : List Area) (serial : ℕ) (o : Option Area) → o ≡ area_at areas serial → option_and_then module_in o ≡ code_among (instances_in 1 areas) serial
code_found areas serial o found = ap (option_and_then module_in) found ∙ sym (code_at areas serial)

-- a term that came in is no instance
pub instances_stored : (n : ℕ) (areas : List Area) (t : PlainTerm) → instances_in n (areas ++ Stored t ∷ []) ≡ instances_in n areas
instances_stored n [] t = refl
instances_stored n (Loaded m ∷ areas) t = ap (λ is. record { serial = n; code = m } ∷ is) (instances_stored (n + 1) areas t)
instances_stored n (Stored u ∷ areas) t = instances_stored (n + 1) areas t

-- it stands behind the terms before
pub terms_stored : (n : ℕ) (areas : List Area) (t : PlainTerm) → terms_in n (areas ++ Stored t ∷ []) ≡ terms_in n areas ++ record { serial = n + length areas; term = t } ∷ []
terms_stored n [] t = let e : n ≡ n + 0 = omega arith in ap (λ k. record { serial = k; term = t } ∷ []) e
terms_stored n (Loaded m ∷ areas) t =
    let e : (n + 1) + length areas ≡ n + suc (length areas) = omega arith in
    terms_stored (n + 1) areas t ∙ ap (λ k. terms_in (n + 1) areas ++ record { serial = k; term = t } ∷ []) e
terms_stored n (Stored u ∷ areas) t =
    let e : (n + 1) + length areas ≡ n + suc (length areas) = omega arith in
    ap (λ ts. record { serial = n; term = u } ∷ ts) (terms_stored (n + 1) areas t ∙ ap (λ k. terms_in (n + 1) areas ++ record { serial = k; term = t } ∷ []) e)

-- what the areas say once a term came in
pub record IsStored (areas all : List Area) (t : PlainTerm) : Type 0 where
  pub next : length all + 1 ≡ (length areas + 1) + 1
  pub instances : instances_in 1 all ≡ instances_in 1 areas
  pub terms : terms_in 1 all ≡ terms_in 1 areas ++ record { serial = length areas + 1; term = t } ∷ []

pub stored_last : (areas all : List Area) (t : PlainTerm) → all ≡ areas ++ Stored t ∷ [] → IsStored areas all t
stored_last areas all t pushed =
    let serial : 1 + length areas ≡ length areas + 1 = omega arith in
    record {
      next = omega (arith, length-append areas (Stored t ∷ []), ap length pushed);
      instances = ap (instances_in 1) pushed ∙ instances_stored 1 areas t;
      terms = ap (terms_in 1) pushed ∙ terms_stored 1 areas t ∙ ap (λ k. terms_in 1 areas ++ record { serial = k; term = t } ∷ []) serial;
    }
