-- The versions of a made script are modules, no two agree in name and version, and each that a command names is given.
use Rattle.std.proofs.Common.{◌≡◌, ℕ, zero, suc, ◌+◌, ◌<◌, ◌≤◌, List, [], ◌∷◌, ◌++◌, map, slice_get, Some, IsTrue, is_some, All, refl, sym, ap, ◌∙◌, arith, lit<, lit≤, pos}
use Rattle.std.proofs.lemmas.Int.{ints}
use Rattle.std.proofs.lemmas.List.Elements.{All-append, All-cons, All-nil}
use Rattle.std.proofs.lemmas.Option.{none-some, same_Some}
use Rattle.std.specs.List.{AllByRecursion, range_with_len}
use Rattle.term_core.specs.declared.atom.AtomId.{AtomId}
use Rattle.term_core.specs.declared.term.Term.TheVariants.{Int}
use Rattle.term_core.specs.Written.{IsTermInteger}
use Rattle.mod_core.specs.declared.code.Function.{Function}
use Rattle.mod_core.specs.declared.code.Instr.TheVariants.{Add, CallExt, Less, PgetOr}
use Rattle.mod_core.specs.declared.code.Operand.TheVariants.{Reg, Const}
use Rattle.mod_core.specs.declared.code.Module.{Module}
use Rattle.mod_core.specs.HeldNames.{HasAtomsAmong, IsFunctionHeld, IsModuleHeld}
use Rattle.mod_core.specs.Module.{IsConstant, IsFunction, IsInstr, IsModule, SameFunction}
use Rattle.server_core.specs.CommandTable.{AreTexts, text_of}
use Rattle.script_core.proofs.JoinedPlaces.{JoinedAt, in_front, behind, joined_at}
use Rattle.script_maker.specs.declared.subject.Subject.{Subject}
use Rattle.script_maker.specs.MadeScript.{made_module, made_names, made_versions, main_code, main_function, subject_of, version_function, version_of}

-- a subject whose names are in the table
pub record IsSubject (about : Subject) : Type 0 where
  pub module_named : about.«module».0 < 9
  pub key_named : about.key.0 < 9

pub first_subject : IsSubject (subject_of 0)
first_subject = record { module_named = lit< tt; key_named = lit< tt }

pub second_subject : IsSubject (subject_of 1)
second_subject = record { module_named = lit< tt; key_named = lit< tt }

-- what holds of a list's elements one by one
one_by_one : {X : Type 0} (P : X → Type 0) (xs : List X) → AllByRecursion P xs → All P xs
one_by_one P [] each = All-nil P
one_by_one P (x ∷ xs) each = All-cons P x xs each.0 (one_by_one P xs each.1)

-- `main/0` and `ver/0` are two functions
functions_apart : (about : Subject) (version i j : ℕ) → i < j → SameFunction (made_module about version).functions i j → ⊥
functions_apart about version i (suc (suc j)) below same = absurd (none-some same.second same.second_at)
functions_apart about version zero (suc zero) below same =
    let first = same_Some _ same.first same.first_at in
    let second = same_Some _ same.second same.second_at in
    let named = ap (λ (f : Function). f.name) first ∙ same.name ∙ sym (ap (λ (f : Function). f.name) second) in
    let number : 4 ≡ 5 = ap (λ (a : AtomId). a.0) named in
    absurd (omega (arith, number))
functions_apart about version (suc i) (suc zero) below same = absurd (omega arith)
functions_apart about version i zero below same = absurd (omega arith)

-- a number that a made script has is an integer of a term
pub is_integer : (n : ℕ) → n ≤ 999999 → IsTermInteger (pos n)
is_integer n small = record { low = omega (arith, ints); high = omega (arith, ints, small) }

constant : (n : ℕ) → n ≤ 999999 → IsConstant (Int (pos n))
constant n small = record { leaves = is_integer n small; short = lit≤ tt }

-- the code of `main/0` is sound, whatever its functions
main_sound : (about : Subject) (fs : List Function) → IsSubject about → All (IsInstr fs 6) (main_code about)
main_sound about fs is =
    let P = IsInstr fs 6 in
    let call : P (CallExt (version_of about) 1) = (record { module_named = omega (arith, is.module_named); name_named = lit< tt; arity = lit≤ tt }, record { back = lit< tt; arguments = lit≤ tt }) in
    let look : P (PgetOr about.key (Const (Int (pos 0))) 2) = (omega (arith, is.key_named), constant 0 (lit≤ tt), lit< tt) in
    let add : P (Add (Reg 0) (Const (Int (pos 1))) 0) = (lit< tt, constant 1 (lit≤ tt), lit< tt) in
    let less : P (Less (Reg 0) (Const (Int (pos 8))) 0) = (lit< tt, constant 8 (lit≤ tt), lit≤ tt) in
    one_by_one P (main_code about) (call, (lit< tt, (look, (tt, (add, (less, tt))))))

-- a version is a module
module_sound : (about : Subject) (version : ℕ) → IsSubject about → 1 ≤ version → version ≤ 999999 → IsModule (made_module about version)
module_sound about version is least most =
    let fs = (made_module about version).functions in
    let main : IsFunction fs (main_function about) = record { named = lit< tt; arity = lit≤ tt; code = main_sound about fs is } in
    let told : IsFunction fs (version_function version) = record { named = lit< tt; arity = lit≤ tt; code = one_by_one (IsInstr fs 1) (version_function version).code (constant version most, tt) } in
    record {
      named = omega (arith, is.module_named);
      least_version = least;
      greatest_version = most;
      functions = one_by_one (IsFunction fs) fs (main, (told, tt));
      few = lit≤ tt;
      apart = functions_apart about version;
      short = lit≤ tt;
    }

-- and its names are in the table
module_held : (about : Subject) (version : ℕ) → IsSubject about → IsModuleHeld made_names (made_module about version)
module_held about version is =
    let P = HasAtomsAmong 9 in
    let call : P (CallExt (version_of about) 1) = (is.module_named, lit< tt) in
    let look : P (PgetOr about.key (Const (Int (pos 0))) 2) = (is.key_named, tt) in
    let add : P (Add (Reg 0) (Const (Int (pos 1))) 0) = (tt, tt) in
    let less : P (Less (Reg 0) (Const (Int (pos 8))) 0) = (tt, tt) in
    let main : IsFunctionHeld 9 (main_function about) = record { name = lit< tt; code = one_by_one P (main_code about) (call, (tt, (look, (tt, (add, (less, tt)))))) } in
    let told : IsFunctionHeld 9 (version_function version) = record { name = lit< tt; code = one_by_one P (version_function version).code (tt, tt) } in
    record { name = is.module_named; functions = one_by_one (IsFunctionHeld 9) (made_module about version).functions (main, (told, tt)) }

-- what holds of versions in a row holds of each
each_version : (P : Module → Type 0) (about : Subject) (a n bound : ℕ) → a + n ≤ bound → ((version : ℕ) → a ≤ version → version < bound → P (made_module about version)) → All P (map (made_module about) (range_with_len a n))
each_version P about a zero bound fits each = All-nil P
each_version P about a (suc n) bound fits each =
    All-cons P (made_module about a) (map (made_module about) (range_with_len (a + 1) n)) (each a (omega arith) (omega (arith, fits)))
    (each_version P about (a + 1) n bound (omega (arith, fits)) (λ version low high. each version (omega (arith, low)) high))

-- the texts are modules
texts_sound : All IsModule (made_versions (subject_of 0) ++ made_versions (subject_of 1))
texts_sound =
    All-append IsModule (made_versions (subject_of 0)) (made_versions (subject_of 1))
    (each_version IsModule (subject_of 0) 1 8 9 (lit≤ tt) (λ version low high. module_sound (subject_of 0) version first_subject low (omega (arith, high))))
    (each_version IsModule (subject_of 1) 1 8 9 (lit≤ tt) (λ version low high. module_sound (subject_of 1) version second_subject low (omega (arith, high))))

-- whose names are in the table
pub texts_held : All (IsModuleHeld made_names) (made_versions (subject_of 0) ++ made_versions (subject_of 1))
texts_held =
    All-append (IsModuleHeld made_names) (made_versions (subject_of 0)) (made_versions (subject_of 1))
    (each_version (IsModuleHeld made_names) (subject_of 0) 1 8 9 (lit≤ tt) (λ version low high. module_held (subject_of 0) version first_subject))
    (each_version (IsModuleHeld made_names) (subject_of 1) 1 8 9 (lit≤ tt) (λ version low high. module_held (subject_of 1) version second_subject))

-- the version at a place of a row
record IsAt (about : Subject) (version : ℕ) (m : Module) : Type 0 where
  name_is : m.name ≡ about.«module»
  version_is : m.version ≡ version

version_at_place : (about : Subject) (a n i : ℕ) (m : Module) → slice_get (map (made_module about) (range_with_len a n)) i ≡ Some m → IsAt about (a + i) m
version_at_place about a zero i m at = absurd (none-some m at)
version_at_place about a (suc n) zero m at =
    let is = same_Some (made_module about a) m at in
    record { name_is = sym (ap (λ (x : Module). x.name) is); version_is = omega (arith, ap (λ (x : Module). x.version) is) }
version_at_place about a (suc n) (suc i) m at =
    let later = version_at_place about (a + 1) n i m at in
    record { name_is = later.name_is; version_is = omega (arith, later.version_is) }

-- a place of both rows: a version of the first module, or one of the second
data Placed (i : ℕ) (m : Module) : Type 0 where
  of_first : m.name.0 ≡ 3 → m.version ≡ 1 + i → Placed i m
  of_second : m.name.0 ≡ 7 → m.version + 7 ≡ i → Placed i m

placed_by : (i : ℕ) (m : Module) → JoinedAt (made_versions (subject_of 0)) (made_versions (subject_of 1)) i m → Placed i m
placed_by i m (in_front at) = let is = version_at_place (subject_of 0) 1 8 i m at in of_first (ap (λ (a : AtomId). a.0) is.name_is) is.version_is
placed_by i m (behind n place at) = let is = version_at_place (subject_of 1) 1 8 n m at in of_second (ap (λ (a : AtomId). a.0) is.name_is) (omega (arith, is.version_is, place))

two_placed : (i j : ℕ) (m n : Module) → i < j → m.name.0 ≡ n.name.0 → m.version ≡ n.version → Placed i m → Placed j n → ⊥
two_placed i j m n below name version (of_first a b) (of_first c d) = omega (arith, below, version, b, d)
two_placed i j m n below name version (of_first a b) (of_second c d) = omega (arith, name, a, c)
two_placed i j m n below name version (of_second a b) (of_first c d) = omega (arith, name, a, c)
two_placed i j m n below name version (of_second a b) (of_second c d) = omega (arith, below, version, b, d)

-- the texts can be loaded
pub texts_are : AreTexts (made_versions (subject_of 0) ++ made_versions (subject_of 1))
texts_are = record {
  sound = texts_sound;
  apart = λ i j m n below at_i at_j name version.
      two_placed i j m n below (ap (λ (a : AtomId). a.0) name) version
      (placed_by i m (joined_at (made_versions (subject_of 0)) (made_versions (subject_of 1)) i m at_i))
      (placed_by j n (joined_at (made_versions (subject_of 0)) (made_versions (subject_of 1)) j n at_j));
}

-- each version of the first module is given
pub first_given : (v : ℕ) → v < 8 → IsTrue (is_some (text_of (made_versions (subject_of 0) ++ made_versions (subject_of 1)) (record { name = (subject_of 0).«module»; version = 1 + v })))
first_given (suc (suc (suc (suc (suc (suc (suc (suc v)))))))) below = absurd (omega (arith, below))
first_given v below = refl

-- and each of the second
pub second_given : (v : ℕ) → v < 8 → IsTrue (is_some (text_of (made_versions (subject_of 0) ++ made_versions (subject_of 1)) (record { name = (subject_of 1).«module»; version = 1 + v })))
second_given (suc (suc (suc (suc (suc (suc (suc (suc v)))))))) below = absurd (omega (arith, below))
second_given v below = refl
