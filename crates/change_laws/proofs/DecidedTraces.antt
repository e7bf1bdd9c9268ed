-- A breakpoint for which a command was decided is set in current code.
use Rattle.std.proofs.Common.{◌≡◌, ℕ, ◌≤◌, Bool, true, false, cond, not, nat_eq, List, [], ◌∷◌, ◌++◌, length, filter, Option, Some, None, option_and_then, option_map, refl, sym, ap, ◌∙◌, length-append, arith}
use Rattle.term_core.specs.declared.area.CodeRef.{CodeRef}
use Rattle.term_core.specs.declared.atom.Mfa.{Mfa}
use Rattle.term_core.specs.Plain.{plain}
use Rattle.mod_core.specs.declared.code.Module.{Module}
use Rattle.server_core.specs.declared.change.Change.{Change}
use Rattle.server_core.specs.declared.change.Change.TheVariants.{SetTrace}
use Rattle.server_core.specs.declared.command.Cmd.{Cmd}
use Rattle.server_core.specs.declared.command.Reply.TheVariants as replies
use Rattle.server_core.specs.CommandTable.{Outcome, apply_of, published, with_trace}
use Rattle.server_core.specs.Decided.{change_made}
use Rattle.server_core.specs.ServerState.{Entry, ServerState, code_of, current_of, entry_of, function_named, is_same_entry, traceable_of}
use Rattle.server_core.proofs.Changes.{Came, as_before, came, came_in, was_deleted, was_doomed, was_erased, was_purged, was_put, was_released, was_soft_purged, was_traced}
use Rattle.server_core.proofs.CommandLaws.{put_keeps}
use Rattle.change_laws.specs.Breakpoints.{SetsInCode}
use Rattle.change_laws.specs.Uses.{IsCurrentCode}
use Rattle.change_laws.proofs.Dropped.{load_leaves_rest}

-- what can be traced is a function of current code
in_current : (s : ServerState) (to : Mfa) (e : Entry) → traceable_of s to ≡ Some e → IsCurrentCode s e.serial
in_current s to e h = by (current_of s to.«module».0) refl h
  where
    named : (serial : ℕ) (o : Option ℕ) → option_map (λ i. record { serial = serial; function = i }) o ≡ Some e → serial ≡ e.serial
    named serial None h = absurd (cc)
    named serial (Some i) h = let same : record { serial = serial; function = i } ≡ e = cc in ap (λ (x : Entry). x.serial) same

    of_code : (serial : ℕ) (o : Option Module) → option_and_then (λ m. option_map (λ i. record { serial = serial; function = i }) (function_named m to)) o ≡ Some e → serial ≡ e.serial
    of_code serial None h = absurd (cc)
    of_code serial (Some m) h = named serial (function_named m to) h

    by : (o : Option ℕ) → current_of s to.«module».0 ≡ o → option_and_then (λ serial. option_and_then (λ m. option_map (λ i. record { serial = serial; function = i }) (function_named m to)) (code_of s serial)) o ≡ Some e → IsCurrentCode s e.serial
    by None now h = absurd (cc)
    by (Some serial) now h = (to.«module».0, now ∙ ap Some (of_code serial (code_of s serial) h))

-- a list with one more at its end is no list that is not longer
not_longer : {A : Type 0} (e : Entry) (xs ys : List Entry) → xs ++ e ∷ [] ≡ ys → length ys ≤ length xs → A
not_longer e xs ys same few = absurd (omega (arith, few, ap length same, length-append xs (e ∷ [])))

filter_few : (test : Entry → Bool) (xs : List Entry) → length (filter test xs) ≤ length xs
filter_few test [] = omega arith
filter_few test (x ∷ xs) = by (test x) (filter_few test xs)
  where
    by : (b : Bool) → length (filter test xs) ≤ length xs → length (cond b (x ∷ filter test xs) (filter test xs)) ≤ length (x ∷ xs)
    by true few = omega (arith, few)
    by false few = omega (arith, few)

-- the same list with one more at its end has the same at its end
same_last : (xs : List Entry) (a b : Entry) → xs ++ a ∷ [] ≡ xs ++ b ∷ [] → a ≡ b
same_last [] a b same = cc
same_last (x ∷ xs) a b same = same_last xs a b (cc)

module _ (texts : List Module) (s : ServerState) (cmd : Cmd) (at : CodeRef) where
  -- what a command came to that sets the breakpoint
  abbrev outcome : Outcome
  outcome = published (with_trace s (entry_of at) true) replies.True

  -- no other list stands for what is traced then
  other : {A : Type 0} (o : Outcome) → outcome ≡ o → length o.state.traced ≤ length s.traced → A
  other o is few = not_longer (entry_of at) s.traced o.state.traced (ap (λ (x : Outcome). x.state.traced) is) few

  same_many : (xs : List Entry) → xs ≡ s.traced → length xs ≤ length s.traced
  same_many xs same = omega (arith, ap length same)

  set_in : Came texts s cmd outcome → IsCurrentCode s at.area.serial
  set_in (as_before reply is) = other _ is (omega arith)
  set_in (came_in refs modules command rest comes is) = other _ is (same_many _ (load_leaves_rest s modules).traced)
  set_in (was_deleted name command rest old current is) = other _ is (omega arith)
  set_in (was_soft_purged name serial command rest old is) = other _ is (filter_few (λ e. not (nat_eq e.serial serial)) s.traced)
  set_in (was_doomed name serial command rest old is) = other _ is (omega arith)
  set_in (was_purged name killed serial command doomed old is) = other _ is (filter_few (λ e. not (nat_eq e.serial serial)) s.traced)
  set_in (was_put key term command rest put is) = other _ is (same_many _ (put_keeps (λ (t : ServerState). t.traced) s key.0 (plain term) s.traced refl refl))
  set_in (was_erased key p command rest held is) = other _ is (omega arith)
  set_in (was_traced target true e command rest found news is) =
      let same : entry_of at ≡ e = same_last s.traced (entry_of at) e (ap (λ (x : Outcome). x.state.traced) is) in
      let now = in_current s target e found in
      (now.0, now.1 ∙ ap (λ (x : Entry). Some x.serial) (sym same))
  set_in (was_traced target false e command rest found news is) = other _ is (filter_few (λ x. not (is_same_entry e x)) s.traced)
  set_in (was_released serial command retired is) = other _ is (omega arith)

pub decided_in_code : (texts : List Module) (s : ServerState) (cmd : Cmd) (change : Change) → apply_of texts s cmd ≡ Some (change_made s change) → SetsInCode s change
decided_in_code texts s cmd (SetTrace generation at traced) h = set_in texts s cmd at (came texts s cmd (change_made s (SetTrace generation at traced)) h)
decided_in_code texts s cmd change h = tt
