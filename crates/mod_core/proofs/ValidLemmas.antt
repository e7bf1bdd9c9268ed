-- Functions that are one, and the words of a module's functions.
use Rattle.std.proofs.Common.{◌≡◌, ℕ, ◌+◌, ◌*◌, ◌<◌, ◌≤◌, List, [], ◌∷◌, length, take, get_or, slice_get, Option, Some, None, MatchOption, ⊎_elim, refl, sym, ap, ◌∙◌, subst, sum_by, ◌-◌, arith}
use Rattle.std.proofs.lemmas.Bool.{cases_lt}
use Rattle.std.proofs.lemmas.List.{length-take-le, get_or-take, take_all}
use Rattle.std.proofs.lemmas.List.Sums.{sum_by-cons, sum_by_more_le}
use Rattle.std.proofs.lemmas.Option.{same_Some, slice_get_read, slice_get_within}
use Rattle.mod_core.specs.declared.code.Instr.{Instr}
use Rattle.mod_core.specs.declared.code.Function.{Function}
use Rattle.mod_core.specs.declared.code.Module.{Module}
use Rattle.mod_core.specs.Module.{SameFunction, IsModule}
use Rattle.mod_core.specs.ModuleImage.{code_constants, code_len, constants_len, constants_of, function_len}
use Rattle.mod_core.specs.Valid.{function_words_with, words_with, AreFunctions, HasTitle}
use Rattle.mod_core.proofs.Lengths.{constants_len-append, image_len}

-- ---- functions that are one

-- a function of the list, and an earlier one
record Earlier (fs : List Function) (place number : ℕ) (other this : Function) : Type 0 where
  pub other_at : slice_get fs place ≡ Some other
  pub this_at : slice_get fs number ≡ Some this
  pub below : place < number

earlier_at : (fs : List Function) (place number : ℕ) (other this : Function) → number < length fs → this ≡ get_or fs number this → place < length (take number fs) → other ≡ get_or (take number fs) place other → Earlier fs place number other this
earlier_at fs place number other this this_in this_is other_in other_is =
    let below : place < number = omega (arith, length-take-le number fs (omega arith)) in
    record {
      other_at = slice_get_read fs (length fs) place other refl (omega arith) (other_is ∙ get_or-take number fs place other below);
      this_at = slice_get_read fs (length fs) number this refl this_in this_is;
      below = below;
    }

agree_at : (fs : List Function) (i j : ℕ) (a b : Function) → slice_get fs i ≡ Some a → slice_get fs j ≡ Some b → SameFunction fs i j → (a.name ≡ b.name) × (a.arity ≡ b.arity)
agree_at fs i j a b at_i at_j same =
    let first = same_Some same.first a (sym same.first_at ∙ at_i) in
    let second = same_Some same.second b (sym same.second_at ∙ at_j) in
    (sym (ap (λ (f : Function). f.name) first) ∙ same.name ∙ ap (λ (f : Function). f.name) second, sym (ap (λ (f : Function). f.arity) first) ∙ same.arity ∙ ap (λ (f : Function). f.arity) second)

-- an earlier function that agrees with this one is this one
pub is_one_again : (fs : List Function) (place number : ℕ) (other this : Function) → number < length fs → this ≡ get_or fs number this → place < length (take number fs) → other ≡ get_or (take number fs) place other → (other.name ≡ this.name) × (other.arity ≡ this.arity) → ((earlier : ℕ) → earlier < number → SameFunction fs earlier number → ⊥) → ⊥
is_one_again fs place number other this this_in this_is other_in other_is agree none =
    let at = earlier_at fs place number other this this_in this_is other_in other_is in
    none place at.below (record { first = other; second = this; first_at = at.other_at; second_at = at.this_at; name = agree.0; arity = agree.1 })

-- where one more function does not agree with this one, one more is not this one
pub one_more_apart : (fs : List Function) (place number : ℕ) (other this : Function) → number < length fs → this ≡ get_or fs number this → place < length (take number fs) → other ≡ get_or (take number fs) place other → ((other.name ≡ this.name) × (other.arity ≡ this.arity) → ⊥)
    → ((earlier : ℕ) → earlier < place → SameFunction fs earlier number → ⊥) → (earlier : ℕ) → earlier < place + 1 → SameFunction fs earlier number → ⊥
one_more_apart fs place number other this this_in this_is other_in other_is differ so_far earlier below same =
    let at = earlier_at fs place number other this this_in this_is other_in other_is in
    ⊎_elim (λ h. so_far earlier h same)
    (λ h. let here : earlier ≡ place = omega arith in differ (agree_at fs place number other this at.other_at at.this_at (subst (λ (k : ℕ). SameFunction fs k number) here same)))
    (cases_lt earlier place)

-- where the functions before each are not that one, no two are one
pub apart_more : (fs : List Function) (number : ℕ) → ((i j : ℕ) → i < j → j < number → SameFunction fs i j → ⊥) → ((earlier : ℕ) → earlier < number → SameFunction fs earlier number → ⊥) → (i j : ℕ) → i < j → j < number + 1 → SameFunction fs i j → ⊥
apart_more fs number so_far this i j before below same =
    ⊎_elim (λ h. so_far i j before h same)
    (λ h. let here : j ≡ number = omega arith in this i (omega arith) (subst (λ (k : ℕ). SameFunction fs i k) here same))
    (cases_lt j number)

pub apart_all : (fs : List Function) (number : ℕ) → length fs ≤ number → ((i j : ℕ) → i < j → j < number → SameFunction fs i j → ⊥) → (i j : ℕ) → i < j → SameFunction fs i j → ⊥
apart_all fs number all so_far i j before same =
    let within = slice_get_within fs j same.second same.second_at in
    so_far i j before (omega arith) same

-- ---- words

-- what is left behind the words of a function's code and constants is left behind the function
pub behind_function : (o : Option ℕ) (room left : ℕ) (f : Function) (code : List Instr) → code ≡ f.code → 6 ≤ room → left ≡ room - 6 → MatchOption o (left < code_len code + constants_len (code_constants code)) (λ n. n + (code_len code + constants_len (code_constants code)) ≡ left) →
    MatchOption o (room < function_words_with f) (λ n. n + function_words_with f ≡ room)
behind_function None room left f code is enough less few = omega (arith, few, ap code_len is, ap (λ js. constants_len (code_constants js)) is)
behind_function (Some n) room left f code is enough less are = omega (arith, are, ap code_len is, ap (λ js. constants_len (code_constants js)) is)

functions_and_constants : (fs : List Function) → sum_by function_words_with fs ≡ 4 * length fs + (sum_by function_len fs + constants_len (constants_of fs))
functions_and_constants [] = refl
functions_and_constants (f ∷ fs) =
    omega (arith, sum_by-cons function_words_with f fs, sum_by-cons function_len f fs, constants_len-append (code_constants f.code) (constants_of fs), functions_and_constants fs)

-- the words of an image are its head's and those of the functions
words_are : (fs : List Function) → words_with fs ≡ 4 + sum_by function_words_with fs
words_are fs = ap (λ n. 4 + n) (sym (functions_and_constants fs))

-- where a function has more words than are left, the image has too many
pub too_many : (fs : List Function) (i : ℕ) (f : Function) (left : ℕ) → i < length fs → f ≡ get_or fs i f → left + sum_by function_words_with (take i fs) ≡ 1020 → left < function_words_with f → words_with fs ≤ 1024 → ⊥
too_many fs i f left within is so_far over short =
    let front = sum_by_more_le function_words_with fs i f within in
    let this = ap function_words_with is in
    omega (arith, words_are fs, front, this)

-- and where none has, it has few enough
pub few_enough : (fs : List Function) (i left : ℕ) → length fs ≤ i → left + sum_by function_words_with (take i fs) ≡ 1020 → words_with fs ≤ 1024
few_enough fs i left all so_far = omega (arith, words_are fs, ap (sum_by function_words_with) (take_all i fs all))

-- ---- modules

-- a module with a title and these functions
pub module_is : (m : Module) (fs : List Function) → fs ≡ m.functions → HasTitle m → AreFunctions fs → IsModule m
module_is m fs same title functions =
    let are = subst AreFunctions same functions in
    record { named = title.named; least_version = title.least_version; greatest_version = title.greatest_version; functions = are.functions; few = are.few; apart = are.apart; short = omega (arith, image_len m, are.short) }

pub functions_are : (m : Module) (fs : List Function) → fs ≡ m.functions → IsModule m → AreFunctions fs
functions_are m fs same is =
    subst AreFunctions (sym same) (record { few = is.few; functions = is.functions; apart = is.apart; short = omega (arith, image_len m, is.short) })
