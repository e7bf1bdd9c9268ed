-- How many words stand for the parts of a module, wherever its complex constants have their images, and which constants these are.
use Rattle.std.proofs.Common.{◌≡◌, ℕ, ◌+◌, ◌*◌, List, [], ◌∷◌, ◌++◌, length, map, refl, sym, ap, ◌∙◌, arith, sum_by, length-append, append_assoc, ◌≤◌}
use Rattle.std.proofs.lemmas.List.Sums.{sum_by-cons}
use Rattle.term_core.specs.Image.{image_of}
use Rattle.term_core.specs.PlainTerm.{PlainTerm}
use Rattle.term_core.proofs.ImageTerms.{length-image}
use Rattle.mod_core.specs.declared.code.Instr.{Instr}
use Rattle.mod_core.specs.declared.code.Instr.TheVariants.{Move}
use Rattle.mod_core.specs.declared.code.Function.{Function}
use Rattle.mod_core.specs.declared.code.Module.{Module}
use Rattle.mod_core.specs.ModuleImage.{code_constants, code_len, code_start, code_words, constants_len, constants_of, constants_start, constants_words, function_heads, function_len, function_words, functions_words, instr_constants, instr_len, instr_words, module_image, place_from, place_in, placed, placed_code, return_ok}
use Rattle.mod_core.specs.Valid.{words_with}

-- ---- constants

-- the images of constants have as many words as the constants
pub constants_words_len : (ts : List PlainTerm) → length (constants_words ts) ≡ constants_len ts
constants_words_len [] = refl
constants_words_len (t ∷ ts) = omega (arith, length-append (image_of t) (constants_words ts), length-image t, constants_words_len ts)

-- constants one behind another
pub constants_len-append : (ts us : List PlainTerm) → constants_len (ts ++ us) ≡ constants_len ts + constants_len us
constants_len-append [] us = omega arith
constants_len-append (t ∷ ts) us = omega (arith, constants_len-append ts us)

-- ---- instructions

-- an instruction has as many words, wherever its constants stand
pub instr_words_len : (place : ℕ) (i : Instr) → length (instr_words place i) ≡ instr_len i
instr_words_len place (Move from to) = refl
instr_words_len place i = refl

-- and whatever the place of its target
pub placed_len : (place : ℕ → ℕ) (i : Instr) → instr_len (placed place i) ≡ instr_len i
placed_len place (Move from to) = refl
placed_len place i = refl

-- it has the same constants
pub placed_constants : (place : ℕ → ℕ) (i : Instr) → instr_constants (placed place i) ≡ instr_constants i
placed_constants place (Move from to) = refl
placed_constants place i = refl

-- each instruction has a word, and at most four
pub some_words : (i : Instr) → 1 ≤ instr_len i
some_words (Move from to) = omega arith
some_words i = omega arith

-- ---- code

-- code has as many words, wherever its constants stand
pub code_words_len : (place : ℕ) (is : List Instr) → length (code_words place is) ≡ code_len is
code_words_len place [] = refl
code_words_len place (i ∷ is) =
    omega (arith, length-append (instr_words place i) (code_words (place + constants_len (instr_constants i)) is), instr_words_len place i, code_words_len (place + constants_len (instr_constants i)) is)

-- and whatever the places of its targets
pub placed_code_len : (place : ℕ → ℕ) (is : List Instr) → code_len (map (placed place) is) ≡ code_len is
placed_code_len place [] = refl
placed_code_len place (i ∷ is) = omega (arith, placed_len place i, placed_code_len place is)

-- it has the same constants
pub placed_code_constants : (place : ℕ → ℕ) (is : List Instr) → code_constants (map (placed place) is) ≡ code_constants is
placed_code_constants place [] = refl
placed_code_constants place (i ∷ is) = λ j. placed_constants place i j ++ placed_code_constants place is j

-- code behind code
pub code_len-append : (is js : List Instr) → code_len (is ++ js) ≡ code_len is + code_len js
code_len-append [] js = omega arith
code_len-append (i ∷ is) js = omega (arith, code_len-append is js)

-- its words: the constants of the code behind stand behind those of the code in front
pub code_words-append : (place : ℕ) (is js : List Instr) → code_words place (is ++ js) ≡ code_words place is ++ code_words (place + constants_len (code_constants is)) js
code_words-append place [] js = let e : place ≡ place + 0 = omega arith in ap (λ p. code_words p js) e
code_words-append place (i ∷ is) js =
    let next : ℕ = place + constants_len (instr_constants i) in
    let e : next + constants_len (code_constants is) ≡ place + constants_len (code_constants (i ∷ is)) = omega (arith, constants_len-append (instr_constants i) (code_constants is)) in
    ap (λ ws. instr_words place i ++ ws) (code_words-append next is js ∙ ap (λ p. code_words next is ++ code_words p js) e)
    ∙ sym (append_assoc (instr_words place i) (code_words next is) (code_words (place + constants_len (code_constants (i ∷ is))) js))

-- ---- functions

-- the words of a function are as many as its length says, wherever it begins and its constants stand
pub function_words_len : (start constants : ℕ) (f : Function) → length (function_words start constants f) ≡ function_len f
function_words_len start constants f =
    omega (arith, code_words_len constants (placed_code start f.code), placed_code_len (place_in start f.code) f.code, length-append (code_words constants (placed_code start f.code)) (instr_words constants return_ok))

-- each function has four words in the table
pub heads_len : (place : ℕ) (fs : List Function) → length (function_heads place fs) ≡ 4 * length fs
heads_len place [] = refl
heads_len place (f ∷ fs) = omega (arith, heads_len (place + function_len f) fs)

-- the code of all functions has the words of each
pub functions_words_len : (place constants : ℕ) (fs : List Function) → length (functions_words place constants fs) ≡ sum_by function_len fs
functions_words_len place constants [] = refl
functions_words_len place constants (f ∷ fs) =
    let next : ℕ = constants + constants_len (code_constants f.code) in
    omega (arith, function_words_len place constants f, functions_words_len (place + function_len f) next fs, length-append (function_words place constants f) (functions_words (place + function_len f) next fs), sum_by-cons function_len f fs)

-- and ends where one more function would begin
pub place_from_end : (place : ℕ) (fs : List Function) → place_from place fs (length fs) ≡ place + sum_by function_len fs
place_from_end place [] = omega arith
place_from_end place (f ∷ fs) = omega (arith, place_from_end (place + function_len f) fs, sum_by-cons function_len f fs)

-- ---- an image

-- the words up to the end of the code
abbrev pub front_words : Module → List ℕ
front_words m = (0 ∷ m.name.0 ∷ m.version ∷ length m.functions ∷ []) ++ (function_heads (code_start m.functions) m.functions ++ functions_words (code_start m.functions) (constants_start m.functions) m.functions)

-- an image is these and the images of the constants
pub front_and_constants : (m : Module) → module_image m ≡ front_words m ++ constants_words (constants_of m.functions)
front_and_constants m = simp append_assoc

-- the images of the constants begin behind the code
pub front_words_len : (m : Module) → length (front_words m) ≡ constants_start m.functions
front_words_len m =
    let start : ℕ = code_start m.functions in
    let end : ℕ = constants_start m.functions in
    omega (arith, heads_len start m.functions, functions_words_len start end m.functions, length-append (function_heads start m.functions) (functions_words start end m.functions), place_from_end start m.functions)

-- an image ends behind its constants
pub image_end : (m : Module) → length (module_image m) ≡ constants_start m.functions + constants_len (constants_of m.functions)
image_end m =
    omega (arith, ap length (front_and_constants m), length-append (front_words m) (constants_words (constants_of m.functions)), front_words_len m, constants_words_len (constants_of m.functions))

-- it has the words of its head, of each function and of the constants
pub image_len : (m : Module) → length (module_image m) ≡ words_with m.functions
image_len m = omega (arith, image_end m, place_from_end (code_start m.functions) m.functions)
