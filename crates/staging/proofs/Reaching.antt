-- What each name reaches once the change is made, by the areas of what comes in.
use Rattle.std.proofs.Common.{◌≡◌, ◌≢◌, ℕ, zero, suc, ◌+◌, Bool, true, false, cond, nat_eq, List, [], ◌∷◌, length, Option, Some, None, refl, sym, ap, subst, ◌∙◌, arith}
use Rattle.std.specs.Prelude.{slice_get}
use Rattle.std.specs.Option.{option_map}
use Rattle.std.proofs.lemmas.Bool.Decides.{nat_tests}
use Rattle.std.proofs.lemmas.List.{length-map}
use Rattle.std.proofs.lemmas.Option.{slice_get-get_or}
use Rattle.prgr_core.proofs.Parts.{some_same}
use Rattle.term_core.specs.declared.area.AreaRef.{AreaRef}
use Rattle.term_core.specs.declared.area.CodeRef.{CodeRef}
use Rattle.term_core.specs.declared.atom.Mfa.{Mfa}
use Rattle.mod_core.specs.declared.code.Module.{Module}
use Rattle.area_core.specs.Blocks.{Among}
use Rattle.server_core.specs.declared.change.Change.{Change}
use Rattle.server_core.specs.declared.change.Change.TheVariants.{BringIn, MakeOld}
use Rattle.server_core.specs.Decided.{Fits, change_made}
use Rattle.server_core.specs.Generations.{function_ref}
use Rattle.server_core.specs.ServerState.{Entry, IsSound, ServerState, dispatch_of, export_of}
use Rattle.change_laws.specs.Calls.{DeletedIsNotReached, DeletesLeaveOthers, LoadsAreReached, LoadsLeaveOthers, OthersLeaveCalls}
use Rattle.code_index.specs.Exports.{function_ref_of}
use Rattle.literal_areas.specs.declared.areas.Areas.{Areas}
use Rattle.literal_areas.specs.Blocks.{with_area}
use Rattle.literal_areas.proofs.Serials.{serial_here}
use Rattle.literal_areas.specs.declared.blocks.BlockUse.TheVariants.{Live}
use Rattle.staging.specs.Exported.{export_in, or_first, reached_after, reached_by, reached_in}
use Rattle.change_laws.specs.Changes.{incoming, instance}
use Rattle.staging.specs.Placed.{AreTaken, with_areas}
use Rattle.staging.specs.Upcoming.{areas_in}
use Rattle.staging.proofs.AreasIn.{stands_listed}
use Rattle.staging.proofs.Mixed.{reached_in_state}
use Rattle.staging.proofs.Reached.{equal_test}
use Rattle.staging.proofs.Taken.{taken_live}

-- ---- the laws on calls

pub record CallLaws : Type 0 where
  pub loaded : LoadsAreReached
  pub not_loaded : LoadsLeaveOthers
  pub deleted : DeletedIsNotReached
  pub not_deleted : DeletesLeaveOthers
  pub others : OthersLeaveCalls

-- ---- by the modules of a load

-- the module of the name stands at this place, and its area
pub record IsFound (ms : List Module) (areas : List AreaRef) (to : Mfa) (r : Option CodeRef) : Type 0 where
  pub place : ℕ
  pub code : Module
  pub area : AreaRef
  pub there : slice_get ms place ≡ Some code
  pub its : slice_get areas place ≡ Some area
  pub name : code.name.0 ≡ to.«module».0
  pub is : r ≡ export_in to code area

found_first : (m : Module) (ms : List Module) (area : AreaRef) (areas : List AreaRef) (to : Mfa) (r : Option CodeRef) → reached_in m area to ≡ Some r → IsFound (m ∷ ms) (area ∷ areas) to r
found_first m ms area areas to r e = by_name (nat_eq m.name.0 to.«module».0) refl e
  where
    by_name : (t : Bool) → nat_eq m.name.0 to.«module».0 ≡ t → cond t (Some (export_in to m area)) None ≡ Some r → IsFound (m ∷ ms) (area ∷ areas) to r
    by_name true is e = record { place = zero; code = m; area = area; there = refl; its = refl; name = grind (arith, nat_tests); is = sym (some_same (export_in to m area) r e) }
    by_name false is e = absurd (cc)

found_by : (ms : List Module) (areas : List AreaRef) (to : Mfa) (r : Option CodeRef) → reached_by ms areas to ≡ Some r → IsFound ms areas to r
found_by [] areas to r e = absurd (cc)
found_by (m ∷ ms) [] to r e = absurd (cc)
found_by (m ∷ ms) (area ∷ areas) to r e = by_rest (reached_by ms areas to) refl e (found_by ms areas to r)
  where
    behind : IsFound ms areas to r → IsFound (m ∷ ms) (area ∷ areas) to r
    behind f = record { place = suc f.place; code = f.code; area = f.area; there = f.there; its = f.its; name = f.name; is = f.is }

    by_rest : (o : Option (Option CodeRef)) → reached_by ms areas to ≡ o → or_first o (reached_in m area to) ≡ Some r → (reached_by ms areas to ≡ Some r → IsFound ms areas to r) → IsFound (m ∷ ms) (area ∷ areas) to r
    by_rest None is e again = found_first m ms area areas to r e
    by_rest (Some last) is e again = behind (again (is ∙ e))

not_first : (m : Module) (area : AreaRef) (to : Mfa) → reached_in m area to ≡ None → m.name.0 ≢ to.«module».0
not_first m area to e same = some_none (export_in to m area) (sym (ap (λ (t : Bool). cond t (Some (export_in to m area)) None) (equal_test m.name.0 to.«module».0 same)) ∙ e)
  where
    some_none : (r : Option CodeRef) → Some r ≡ None → ⊥
    some_none r e = (cc)

none_by : (ms : List Module) (areas : List AreaRef) (to : Mfa) → reached_by ms areas to ≡ None → length ms ≡ length areas → (k : ℕ) (m : Module) → slice_get ms k ≡ Some m → m.name.0 ≢ to.«module».0
none_by [] areas to e long k m at = absurd (cc)
none_by (n ∷ ms) [] to e long k m at = absurd (omega (arith, long))
none_by (n ∷ ms) (area ∷ areas) to e long k m at =
    let shorter : length ms ≡ length areas = omega (arith, long) in
    by_rest (reached_by ms areas to) refl e (λ is j there. none_by ms areas to is shorter j m there) k at
  where
    by_rest : (o : Option (Option CodeRef)) → reached_by ms areas to ≡ o → or_first o (reached_in n area to) ≡ None → (reached_by ms areas to ≡ None → (j : ℕ) → slice_get ms j ≡ Some m → m.name.0 ≢ to.«module».0) → (k : ℕ) → slice_get (n ∷ ms) k ≡ Some m → m.name.0 ≢ to.«module».0
    by_rest None is e again zero at = subst (λ (x : Module). x.name.0 ≢ to.«module».0) (some_same n m at) (not_first n area to e)
    by_rest None is e again (suc k) at = again is k at
    by_rest (Some last) is e again k at = absurd (cc)

-- the areas have the next serials
serial_taken : (taken : List AreaRef) (pools : Areas) (i : ℕ) (area : AreaRef) → AreTaken taken pools → slice_get taken i ≡ Some area → area.serial ≡ pools.next + i
serial_taken [] pools i area were at = absurd (cc)
serial_taken (a ∷ taken) pools zero area were at = let same : a ≡ area = some_same a area at in let first = were.0 in let serial : a.serial ≡ area.serial = ap (λ (x : AreaRef). x.serial) same in omega (arith, first, serial)
serial_taken (a ∷ taken) pools (suc i) area were at = let behind = serial_taken taken (with_area a pools) i area were.2 at in omega (arith, behind)

-- ---- what a name reaches

-- it reaches this, in an area of the pools
pub record Reaches (s after : ServerState) (pools : Areas) (to : Mfa) (r : Option CodeRef) : Type 0 where
  pub same : reached_in_state after to ≡ option_map function_ref_of r
  pub placed : (at : CodeRef) → r ≡ Some at → Among (areas_in pools) at.area

in_area : (code : Module) (area : AreaRef) (serial : ℕ) (to : Mfa) → area.serial ≡ serial → option_map function_ref (option_map {U = Entry} (λ i. record { serial = serial; function = i }) (export_of code to)) ≡ option_map function_ref_of (export_in to code area)
in_area code area serial to is = by_export (export_of code to)
  where
    by_export : (o : Option ℕ) → option_map function_ref (option_map {U = Entry} (λ i. record { serial = serial; function = i }) o) ≡ option_map function_ref_of (option_map {U = CodeRef} (λ function. record { area = area; function = function }) o)
    by_export None = refl
    by_export (Some i) = ap (λ (n : ℕ). Some (record { serial = n; function = i })) (sym is)

its_area : (code : Module) (area : AreaRef) (to : Mfa) (at : CodeRef) → export_in to code area ≡ Some at → area ≡ at.area
its_area code area to at e = by_export (export_of code to) e
  where
    by_export : (o : Option ℕ) → option_map {U = CodeRef} (λ function. record { area = area; function = function }) o ≡ Some at → area ≡ at.area
    by_export None e = absurd (cc)
    by_export (Some i) e = ap (λ (x : CodeRef). x.area) (some_same (record { area = area; function = i }) at e)

module _ (laws : CallLaws) (s : ServerState) (sound : IsSound s) (taken : List AreaRef) (rest : Areas) (next : rest.next ≡ s.next_serial) (were : AreTaken taken rest) (to : Mfa) where
  no_change : (after : ServerState) (r : Option CodeRef) → None ≡ Some r → Reaches s after (with_areas taken rest) to r
  no_change after r e = absurd (cc)

  -- the change is about the name
  pub changed_reaches : (change : Change) → Fits s change → (r : Option CodeRef) → reached_after change taken to ≡ Some r → Reaches s (change_made s change).state (with_areas taken rest) to r
  changed_reaches (BringIn generation modules areas versions) fits r e =
      let f = found_by modules.items taken to r e in
      let serial : f.area.serial ≡ s.next_serial + f.place = (let is = serial_taken taken rest f.place f.area were f.its in omega (arith, is, next)) in
      record {
        same = ap (option_map function_ref) (laws.loaded s modules.items f.place f.code to sound fits.1 f.there f.name) ∙ in_area f.code f.area (s.next_serial + f.place) to serial ∙ ap (option_map function_ref_of) (sym f.is);
        placed = λ at is. subst (Among (areas_in (with_areas taken rest))) (its_area f.code f.area to at (sym f.is ∙ is))
            (stands_listed (with_areas taken rest) f.area (serial_here (with_areas taken rest) f.area.block (Live f.area.serial) (taken_live taken rest f.place f.area were f.its)));
      }
  changed_reaches (MakeOld generation name) fits r e = by_name (nat_eq name.0 to.«module».0) refl e
    where
      by_name : (t : Bool) → nat_eq name.0 to.«module».0 ≡ t → cond t (Some None) None ≡ Some r → Reaches s (change_made s (MakeOld generation name)).state (with_areas taken rest) to r
      by_name false is e = absurd (cc)
      by_name true is e =
          let none : None ≡ r = some_same None r e in
          record {
            same = ap (option_map function_ref) (laws.deleted s name.0 to (grind (arith, nat_tests))) ∙ ap (option_map function_ref_of) none;
            placed = λ at is. absurd (no_code at (none ∙ is));
          }
        where
          no_code : (at : CodeRef) → None ≡ Some at → ⊥
          no_code at e = (cc)
  changed_reaches change fits r e = no_change _ r e

  -- it is not
  pub other_reaches : (change : Change) → length taken ≡ length (incoming change) → reached_after change taken to ≡ None → dispatch_of (change_made s change).state to ≡ dispatch_of s to
  other_reaches (BringIn generation modules areas versions) whole e =
      laws.not_loaded s modules.items to sound
      (λ k d within. none_by modules.items taken to e (let long = length-map modules.items instance in omega (arith, long, whole)) k _ (slice_get-get_or modules.items k d within))
  other_reaches (MakeOld generation name) whole e = laws.not_deleted s name.0 to (λ same. some_none None (sym (ap (λ (t : Bool). cond t (Some None) None) (equal_test name.0 to.«module».0 same)) ∙ e))
    where
      some_none : (r : Option CodeRef) → Some r ≡ None → ⊥
      some_none r e = (cc)
  other_reaches change whole e = laws.others s change to tt
