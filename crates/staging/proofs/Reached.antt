-- What a name reaches by the modules of a load, from the last one on.
use Rattle.std.proofs.Common.{◌≡◌, ℕ, zero, suc, ◌+◌, ◌-◌, ◌<◌, Bool, true, false, cond, nat_eq, List, [], ◌∷◌, length, map, drop, get_or, Option, Some, None, refl, sym, ap, subst, ◌∙◌, arith, add-one}
use Rattle.std.specs.Prelude.{slice_get}
use Rattle.std.proofs.lemmas.Bool.Decides.{nat_tests}
use Rattle.std.proofs.lemmas.List.{length-map}
use Rattle.std.proofs.lemmas.Option.{slice_get-get_or, slice_get_read}
use Rattle.prgr_core.proofs.Parts.{some_same}
use Rattle.term_core.specs.declared.area.AreaRef.{AreaRef}
use Rattle.term_core.specs.declared.area.CodeRef.{CodeRef}
use Rattle.term_core.specs.declared.atom.Mfa.{Mfa}
use Rattle.mod_core.specs.declared.code.Module.{Module}
use Rattle.server_core.specs.declared.change.Change.{Change}
use Rattle.server_core.specs.declared.change.Change.TheVariants.{BringIn}
use Rattle.staging.specs.Exported.{export_in, or_first, reached_after, reached_by, reached_in}
use Rattle.change_laws.specs.Changes.{incoming, instance}

-- none of the modules from this one on is that of the name
pub record NoneFrom (ms : List Module) (areas : List AreaRef) (to : Mfa) (place : ℕ) : Type 0 where
  pub none : reached_by (drop place ms) (drop place areas) to ≡ None

-- what those from a place on are about
pub from_place : (ms : List Module) (areas : List AreaRef) (to : Mfa) (k : ℕ) (m : Module) (a : AreaRef) → slice_get ms k ≡ Some m → slice_get areas k ≡ Some a → reached_by (drop k ms) (drop k areas) to ≡ or_first (reached_by (drop (k + 1) ms) (drop (k + 1) areas) to) (reached_in m a to)
from_place [] areas to k m a there at = absurd (cc)
from_place (n ∷ ms) [] to k m a there at = absurd (cc)
from_place (n ∷ ms) (b ∷ areas) to zero m a there at =
    let same : n ≡ m = some_same n m there in let is : b ≡ a = some_same b a at in
    λ i. or_first (reached_by ms areas to) (reached_in (same i) (is i) to)
from_place (n ∷ ms) (b ∷ areas) to (suc k) m a there at = rw add-one (rw add-one at (from_place ms areas to k m a there at))

-- the last one counts
pub last_counts : (ms : List Module) (areas : List AreaRef) (to : Mfa) (k : ℕ) (r : Option CodeRef) → reached_by (drop k ms) (drop k areas) to ≡ Some r → reached_by ms areas to ≡ Some r
last_counts ms areas to zero r e = e
last_counts [] areas to (suc k) r e = absurd (cc)
last_counts (m ∷ ms) [] to (suc k) r e = absurd (none_behind (drop k ms) r e)
  where
    none_behind : (ns : List Module) (r : Option CodeRef) → reached_by ns [] to ≡ Some r → ⊥
    none_behind [] r e = (cc)
    none_behind (n ∷ ns) r e = (cc)
last_counts (m ∷ ms) (a ∷ areas) to (suc k) r e = ap (λ (o : Option (Option CodeRef)). or_first o (reached_in m a to)) (last_counts ms areas to k r e)

-- one more
pub none_more : (ms : List Module) (areas : List AreaRef) (to : Mfa) (k : ℕ) (m : Module) (a : AreaRef) → slice_get ms k ≡ Some m → slice_get areas k ≡ Some a → reached_in m a to ≡ None → NoneFrom ms areas to (k + 1) → NoneFrom ms areas to k
none_more ms areas to k m a there at none behind = record { none = from_place ms areas to k m a there at ∙ ap (λ (o : Option (Option CodeRef)). or_first o (reached_in m a to)) behind.none ∙ none }

-- the one that is found counts
pub found_here : (ms : List Module) (areas : List AreaRef) (to : Mfa) (k : ℕ) (m : Module) (a : AreaRef) (r : Option CodeRef) → slice_get ms k ≡ Some m → slice_get areas k ≡ Some a → reached_in m a to ≡ Some r → NoneFrom ms areas to (k + 1) → reached_by ms areas to ≡ Some r
found_here ms areas to k m a r there at is behind = last_counts ms areas to k r (from_place ms areas to k m a there at ∙ ap (λ (o : Option (Option CodeRef)). or_first o (reached_in m a to)) behind.none ∙ is)

-- ---- names

pub equal_test : (a b : ℕ) → a ≡ b → nat_eq a b ≡ true
equal_test a b same = by (nat_eq a b) refl
  where
    by : (t : Bool) → nat_eq a b ≡ t → t ≡ true
    by true e = refl
    by false e = absurd (grind (arith, nat_tests))

pub unequal_test : (a b : ℕ) → (a ≡ b → ⊥) → nat_eq a b ≡ false
unequal_test a b other = by (nat_eq a b) refl
  where
    by : (t : Bool) → nat_eq a b ≡ t → t ≡ false
    by false e = refl
    by true e = absurd (other (grind (arith, nat_tests)))

pub is_about : (m : Module) (a : AreaRef) (to : Mfa) → m.name.0 ≡ to.«module».0 → reached_in m a to ≡ Some (export_in to m a)
is_about m a to same = ap (λ (t : Bool). cond t (Some (export_in to m a)) None) (equal_test m.name.0 to.«module».0 same)

pub is_not_about : (m : Module) (a : AreaRef) (to : Mfa) → (m.name.0 ≡ to.«module».0 → ⊥) → reached_in m a to ≡ None
is_not_about m a to other = ap (λ (t : Bool). cond t (Some (export_in to m a)) None) (unequal_test m.name.0 to.«module».0 other)

-- ---- one module, as the call looks at it

-- the module at this place from behind, with its area
module _ (change : Change) (taken : List AreaRef) (to : Mfa) (ms : List Module) (whole : length taken ≡ length (incoming change)) (comes : incoming change ≡ map instance ms) (n back : ℕ) (long : n ≡ length ms) (within : back < n) (m j : Module) (d : AreaRef) (is : m ≡ j) (found : j ≡ get_or ms (n - 1 - back) j)
    (none : NoneFrom ms taken to (length ms - back)) where
  abbrev place : ℕ
  place = n - 1 - back

  there : slice_get ms place ≡ Some m
  there = slice_get_read ms n place j long (omega (arith, within)) found ∙ ap Some (sym is)

  its : slice_get taken place ≡ Some (get_or taken place d)
  its = slice_get-get_or taken place d (let count = whole ∙ ap length comes ∙ length-map ms instance in omega (arith, count, long, within))

  behind : NoneFrom ms taken to (place + 1)
  behind = subst (NoneFrom ms taken to) (omega (arith, long, within)) none

  pub found_place : m.name.0 ≡ to.«module».0 → (r : Option CodeRef) → r ≡ export_in to m (get_or taken place d) → Some r ≡ reached_by ms taken to
  found_place same r e = ap Some e ∙ sym (found_here ms taken to place m (get_or taken place d) (export_in to m (get_or taken place d)) there its (is_about m (get_or taken place d) to same) behind)

  pub none_place : (m.name.0 ≡ to.«module».0 → ⊥) → NoneFrom ms taken to (length ms - (back + 1))
  none_place other = subst (NoneFrom ms taken to) (omega (arith, long, within)) (none_more ms taken to place m (get_or taken place d) there its (is_not_about m (get_or taken place d) to other) behind)

-- a load is about what its modules are about
pub load_reaches : (change : Change) (generation : _) (modules : _) (areas : _) (versions : _) → change ≡ BringIn generation modules areas versions → (taken : List AreaRef) (to : Mfa) → reached_by modules.items taken to ≡ reached_after change taken to
load_reaches change generation modules areas versions is taken to = sym (ap (λ (x : Change). reached_after x taken to) is)

pub load_comes : (change : Change) (generation : _) (modules : _) (areas : _) (versions : _) → change ≡ BringIn generation modules areas versions → incoming change ≡ map instance modules.items
load_comes change generation modules areas versions is = ap incoming is
