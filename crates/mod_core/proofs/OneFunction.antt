-- A module of one function is a module where its parts are within the limits.
use Rattle.std.proofs.Common.{◌≡◌, ℕ, ◌<◌, ◌≤◌, List, [], ◌∷◌, length, sym, ap, subst, All, arith}
use Rattle.std.proofs.lemmas.List.Elements.{All-cons, All-nil}
use Rattle.std.proofs.lemmas.Option.{slice_get_within}
use Rattle.term_core.specs.declared.names.TheConstants.{MOST_NAMES}
use Rattle.mod_core.specs.declared.code.TheConstants.{GREATEST_VERSION, LONGEST_IMAGE}
use Rattle.mod_core.specs.declared.code.Function.{Function}
use Rattle.mod_core.specs.declared.code.Module.{Module}
use Rattle.mod_core.specs.Module.{IsFunction, IsModule, SameFunction}
use Rattle.mod_core.specs.ModuleImage.{module_image}

lone : (f : Function) (functions : List Function) → functions ≡ f ∷ [] → (i j : ℕ) → i < j → SameFunction functions i j → ⊥
lone f functions one i j below same = omega (arith, slice_get_within functions j same.second same.second_at, ap length one)

-- what makes a module of one function
pub is_module_of_one : (m : Module) (f : Function) → m.functions ≡ f ∷ [] → m.name.0 < MOST_NAMES → 1 ≤ m.version → m.version ≤ GREATEST_VERSION → IsFunction (f ∷ []) f →
    length (module_image m) ≤ LONGEST_IMAGE → IsModule m
is_module_of_one m f one named least greatest sound short = record {
  named = named;
  least_version = least;
  greatest_version = greatest;
  functions = subst (λ fs. All (IsFunction fs) fs) (sym one) (All-cons (IsFunction (f ∷ [])) f [] sound (All-nil (IsFunction (f ∷ []))));
  few = omega (arith, ap length one);
  apart = lone f m.functions one;
  short = short;
}
