-- The table of functions: what the head of a function tells, and functions that are read one after another.
use Rattle.std.proofs.Common.{◌≡◌, ℕ, zero, suc, ◌+◌, ◌*◌, ◌/◌, ◌%◌, ◌<◌, ◌≤◌, List, [], ◌∷◌, ◌++◌, length, get_or, take, sym, ap, ◌∙◌, arith, Bool, true, false, cond, nat_eq, append_assoc, Some, slice_get, slice_index}
use Rattle.std.proofs.lemmas.Bool.Decides.{nat_tests}
use Rattle.std.proofs.lemmas.List.{get_or_append_left, take_all, take_more}
use Rattle.std.proofs.lemmas.Option.{same_Some, slice_get-get_or}
use Rattle.mod_core.specs.declared.code.Instr.{Instr}
use Rattle.mod_core.specs.declared.code.Function.{Function}
use Rattle.mod_core.specs.declared.code.Module.{Module}
use Rattle.mod_core.specs.Module.{IsModule}
use Rattle.mod_core.specs.ModuleImage.{code_start, constants_of, constants_start, constants_words, function_head, function_heads, function_len, function_place, functions_words, module_image, place_from}
use Rattle.mod_core.specs.Decoding.{IsFunctionIn, IsLeft, number_from}
use Rattle.mod_core.proofs.ReadRows.{function_is}

-- any function
abbrev pub first_function : Function
first_function = record { name = record { 0 = 0 }; arity = 0; exported = false; code = [] }

-- ---- the heads of functions

head_in : (fs : List Function) (place i j : ℕ) (f : Function) (rest : List ℕ) → slice_get fs i ≡ Some f → j < 4 → get_or (function_heads place fs ++ rest) (4 * i + j) 0 ≡ get_or (function_head f (place_from place fs i)) j 0
head_in [] place i j f rest found below = absurd (grind arith)
head_in (g ∷ fs) place zero j f rest found below =
    let e : 4 * zero + j ≡ j = omega arith in
    let head = function_head g place in
    let more = function_heads (place + function_len g) fs in
    ap (λ k. get_or ((head ++ more) ++ rest) k 0) e ∙ ap (λ ws. get_or ws j 0) (append_assoc head more rest) ∙ get_or_append_left head (more ++ rest) 0 j below ∙ ap (λ h. get_or (function_head h place) j 0) (same_Some g f found)
head_in (g ∷ fs) place (suc i) j f rest found below =
    let e : 4 * suc i + j ≡ suc (suc (suc (suc (4 * i + j)))) = omega arith in
    ap (λ k. get_or (function_heads place (g ∷ fs) ++ rest) k 0) e ∙ head_in fs (place + function_len g) i j f rest found below

-- a word of the head of a function
pub head_word : (m : Module) (n j : ℕ) (f : Function) → slice_get m.functions n ≡ Some f → j < 4 → slice_index (module_image m) (4 + 4 * n + j) ≡ slice_index (function_head f (function_place m n)) j
head_word m n j f found below =
    let e : 4 + 4 * n + j ≡ suc (suc (suc (suc (4 * n + j)))) = omega arith in
    ap (λ k. get_or (module_image m) k 0) e ∙ head_in m.functions (code_start m.functions) n j f (functions_words (code_start m.functions) (constants_start m.functions) m.functions ++ constants_words (constants_of m.functions)) found below

arity_back : (word arity : ℕ) (exported : Bool) → word ≡ arity * 2 + cond exported 1 0 → arity ≤ 15 → (number_from (word / 2) ≡ arity) × (nat_eq (word % 2) 1 ≡ exported)
arity_back word arity true e few = (omega (arith, e), grind (arith, nat_tests))
arity_back word arity false e few = (omega (arith, e), grind (arith, nat_tests))

-- a head tells its function
pub function_told : (words : List ℕ) (m : Module) (n : ℕ) (f : Function) → IsFunctionIn words m n f → (name second : ℕ) → name ≡ number_from (slice_index words (4 + 4 * n)) → second ≡ slice_index words (4 + 4 * n + 1) → (arity : ℕ) → arity ≡ number_from (second / 2) → (code : List Instr) → code ≡ f.code →
    ◌≡◌ {A = Function} (record { name = record { 0 = name }; arity = arity; exported = nat_eq (second % 2) 1; code = code }) f
function_told words m n f h name second name_is second_is arity arity_is code code_is =
    let sound = function_is words m n f h in
    let first : slice_index words (4 + 4 * n) ≡ f.name.0 = (λ t. get_or (h.image t) (4 + 4 * n) 0) ∙ ap (λ k. get_or (module_image m) k 0) (let e : 4 + 4 * n ≡ 4 + 4 * n + 0 = omega arith in e) ∙ head_word m n 0 f h.found (omega arith) in
    let told : slice_index words (4 + 4 * n + 1) ≡ f.arity * 2 + cond f.exported 1 0 = (λ t. get_or (h.image t) (4 + 4 * n + 1) 0) ∙ head_word m n 1 f h.found (omega arith) in
    let name_back : name ≡ f.name.0 = omega (arith, name_is, first, sound.named) in
    let back = arity_back second f.arity f.exported (second_is ∙ told) sound.arity in
    λ t. record { name = record { 0 = name_back t }; arity = (arity_is ∙ back.0) t; exported = back.1 t; code = code_is t }

-- ---- functions that are read one after another

-- the first functions of a module have been read
pub record HasRead (m : Module) (number : ℕ) (functions : List Function) (left : ℕ) : Type 0 where
  pub kept : functions ≡ take number m.functions
  pub left_is : IsLeft m number left

module _ (words : List ℕ) (m : Module) (is_module : IsModule m) (image : words ≡ module_image m) where
  count_is : slice_index words 3 ≡ length m.functions
  count_is = λ t. get_or (image t) 3 0

  -- at the start none
  pub none_read : (functions : List Function) (left : ℕ) → functions ≡ [] → left ≡ length words → HasRead m 0 functions left
  none_read functions left none left_is = record { kept = none; left_is = record { whole = omega (arith, left_is, ap length image) } }

  -- the next function, if there is one
  pub next_is : (n : ℕ) → n < slice_index words 3 → IsFunctionIn words m n (get_or m.functions n first_function)
  next_is n below = record { is_module = is_module; image = image; found = slice_get-get_or m.functions n first_function (omega (arith, count_is)) }

  -- one more
  pub one_more_read : (n : ℕ) (functions more : List Function) (left rest : ℕ) (f : Function) → n < slice_index words 3 → HasRead m n functions left → f ≡ get_or m.functions n first_function → more ≡ functions ++ f ∷ [] → IsLeft m (n + 1) rest → HasRead m (n + 1) more rest
  one_more_read n functions more left rest f below so_far f_is more_is rest_is = record {
    kept = more_is ∙ (λ t. so_far.kept t ++ f_is t ∷ []) ∙ sym (take_more m.functions n first_function (omega (arith, count_is)));
    left_is = rest_is;
  }

  -- all of them
  pub all_read : (n : ℕ) (functions : List Function) (left : ℕ) → slice_index words 3 ≤ n → HasRead m n functions left → functions ≡ m.functions
  all_read n functions left all so_far = so_far.kept ∙ take_all n m.functions (omega (arith, count_is))

  pub most_read : (n : ℕ) (functions : List Function) (left : ℕ) → 16 ≤ n → HasRead m n functions left → functions ≡ m.functions
  most_read n functions left all so_far = so_far.kept ∙ take_all n m.functions (omega (arith, is_module.few))

  -- the title is told too
  pub module_told : (name version : ℕ) (functions : List Function) → name ≡ number_from (slice_index words 1) → version ≡ number_from (slice_index words 2) → functions ≡ m.functions → ◌≡◌ {A = Module} (record { name = record { 0 = name }; version = version; functions = functions }) m
  module_told name version functions name_is version_is functions_are =
      let first : slice_index words 1 ≡ m.name.0 = λ t. get_or (image t) 1 0 in
      let second : slice_index words 2 ≡ m.version = λ t. get_or (image t) 2 0 in
      let name_back : name ≡ m.name.0 = omega (arith, name_is, first, is_module.named) in
      let version_back : version ≡ m.version = omega (arith, version_is, second, is_module.greatest_version) in
      λ t. record { name = record { 0 = name_back t }; version = version_back t; functions = functions_are t }
