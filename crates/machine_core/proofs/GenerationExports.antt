-- That the export table of a generation has at the number of a name what a call of it reaches.
use Rattle.std.proofs.Common.{◌≡◌, ◌∙◌, ◌==◌, ◌&&◌, ℕ, Bool, true, false, refl, sym, ap, arith, List, get_or, slice_get, Option, Some, None, is_some, option_and_then, option_map, unwrap_or}
use Rattle.std.proofs.lemmas.Bool.Decides.{nat_tests}
use Rattle.std.proofs.lemmas.List.Quantifiers.{position-Some}
use Rattle.std.proofs.lemmas.Option.{slice_get-get_or, slice_get-map}
use Rattle.term_core.specs.declared.atom.Mfa.{Mfa}
use Rattle.term_core.specs.declared.generation.FunctionRef.{FunctionRef}
use Rattle.mod_core.specs.declared.code.Module.{Module}
use Rattle.server_core.specs.Generations.{AreNumbered, function_ref, generation_of, is_same_name, number_of_name}
use Rattle.server_core.specs.ServerState.{Entry, IsSound, ServerState, code_of, current_of, dispatch_of, export_of}
use Rattle.machine_core.specs.GenerationReads.{exported_under, place_within, reads_in}
use Rattle.machine_core.specs.Reads.{dispatched}
use Rattle.machine_core.specs.ServerReads.{reads_of}
use Rattle.machine_core.proofs.GenerationCalls.{current_is}

both : (a b : Bool) → (a && b) ≡ true → (a ≡ true) × (b ≡ true)
both true b e = (refl, e)
both false b e = absurd (cc)

-- two names that are one are equal
same_name : (to other : Mfa) → is_same_name to other ≡ true → other ≡ to
same_name to other e =
    let parts = both (to.«module».0 == other.«module».0) (to.name.0 == other.name.0 && to.arity == other.arity) e in
    let later = both (to.name.0 == other.name.0) (to.arity == other.arity) parts.1 in
    let one = parts.0 in
    let two = later.0 in
    let three = later.1 in
    let a : other.«module».0 ≡ to.«module».0 = grind (arith, nat_tests) in
    let b : other.name.0 ≡ to.name.0 = grind (arith, nat_tests) in
    let c : other.arity ≡ to.arity = grind (arith, nat_tests) in
    (λ i. record { «module» = record { 0 = a i }; name = record { 0 = b i }; arity = c i })

module _ (names : List Mfa) (s : ServerState) (numbered : AreNumbered names s) where
  -- what a name reaches, in plain numbers
  abbrev reached : Mfa → Option FunctionRef
  reached to = option_map function_ref (dispatch_of s to)

  no_number : (to : Mfa) (o : Option Entry) → dispatch_of s to ≡ o → number_of_name names to ≡ None → option_map function_ref o ≡ None
  no_number to None e none = refl
  no_number to (Some x) e none = absurd (let some = numbered to (ap is_some e) in cc)

  at_number : (to : Mfa) (o : Option ℕ) → number_of_name names to ≡ o → option_and_then (λ n. unwrap_or (slice_get (generation_of names s).exports n) None) o ≡ reached to
  at_number to None e = sym (no_number to (dispatch_of s to) refl e)
  at_number to (Some n) e =
      let found = position-Some (is_same_name to) names n to e in
      ap (λ o. unwrap_or o None) (slice_get-map reached names n ∙ ap (option_map reached) (slice_get-get_or names n to found.0))
      ∙ ap reached (same_name to (get_or names n to) found.1)

  -- the entry at the number of a name
  pub exported_is : (to : Mfa) → exported_under names (generation_of names s) to ≡ option_map function_ref (dispatch_of s to)
  exported_is to = at_number to (number_of_name names to) refl

-- a function of this instance
abbrev entry_of_serial : ℕ → ℕ → Entry
entry_of_serial serial i = record { serial = serial; function = i }

own_place : (serial : ℕ) (o : Option ℕ) →
    option_map (entry_of_serial serial) (option_and_then (place_within serial) (option_map function_ref (option_map (entry_of_serial serial) o))) ≡ option_map (entry_of_serial serial) o
own_place serial None = refl
own_place serial (Some i) = let own : (serial == serial) ≡ true = grind (arith, nat_tests) in rw own refl

own_code : (to : Mfa) (serial : ℕ) (o : Option Module) →
    option_map (entry_of_serial serial) (option_and_then (place_within serial) (option_map function_ref (option_and_then (λ m. option_map (entry_of_serial serial) (export_of m to)) o)))
    ≡ option_and_then (λ m. option_map (entry_of_serial serial) (export_of m to)) o
own_code to serial None = refl
own_code to serial (Some m) = own_place serial (export_of m to)

read_code : (to : Mfa) (serial : ℕ) (o : Option Module) → option_map (entry_of_serial serial) (option_and_then (λ m. export_of m to) o) ≡ option_and_then (λ m. option_map (entry_of_serial serial) (export_of m to)) o
read_code to serial None = refl
read_code to serial (Some m) = refl

read_current : (s : ServerState) (to : Mfa) (o : Option ℕ) →
    option_and_then (λ serial. option_map (entry_of_serial serial) (option_and_then (λ m. export_of m to) (code_of s serial))) o
    ≡ option_and_then (λ serial. option_and_then (λ m. option_map (entry_of_serial serial) (export_of m to)) (code_of s serial)) o
read_current s to None = refl
read_current s to (Some serial) = read_code to serial (code_of s serial)

-- what is read of a state
pub dispatched_read : (s : ServerState) (to : Mfa) → dispatched (reads_of s) to ≡ dispatch_of s to
dispatched_read s to = read_current s to (current_of s to.«module».0)

module _ (names : List Mfa) (s : ServerState) (sound : IsSound s) (numbered : AreNumbered names s) where
  by_current : (to : Mfa) (o : Option ℕ) → current_of s to.«module».0 ≡ o →
      option_and_then (λ serial. option_map (entry_of_serial serial) (option_and_then (place_within serial) (exported_under names (generation_of names s) to))) o ≡ dispatch_of s to
  by_current to None e = rw e refl
  by_current to (Some serial) e =
      let is : dispatch_of s to ≡ option_and_then (λ m. option_map (entry_of_serial serial) (export_of m to)) (code_of s serial) = rw e refl in
      ap (λ o. option_map (entry_of_serial serial) (option_and_then (place_within serial) o)) (exported_is names s numbered to ∙ ap (option_map function_ref) is)
      ∙ own_code to serial (code_of s serial) ∙ sym is

  -- what is read of a generation
  pub dispatched_is : (to : Mfa) → dispatched (reads_in names (generation_of names s)) to ≡ dispatch_of s to
  dispatched_is to =
      ap (λ o. option_and_then (λ serial. option_map (entry_of_serial serial) (option_and_then (place_within serial) (exported_under names (generation_of names s) to))) o) (current_is names s sound to.«module».0)
      ∙ by_current to (current_of s to.«module».0) refl
