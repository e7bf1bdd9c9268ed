-- Once the functions that some texts export have their numbers, each name that is reached has one.
use Rattle.std.proofs.Common.{◌≡◌, ◌⊎◌, inl, inr, ℕ, Bool, true, false, cond, List, [], ◌∷◌, ◌++◌, get_or, All, Contains, Option, Some, None, is_some, IsSome, refl, sym, ap, subst}
use Rattle.std.proofs.lemmas.List.{get_or_default}
use Rattle.term_core.specs.declared.atom.AtomId.{AtomId}
use Rattle.term_core.specs.declared.atom.Mfa.{Mfa}
use Rattle.term_core.proofs.Places.{position-append_found}
use Rattle.mod_core.specs.declared.code.Module.{Module}
use Rattle.change_laws.specs.Names.{IsNumbered}
use Rattle.export_table.specs.Exports.{entry_of, is_same_mfa, exports_with}
use Rattle.export_table.proofs.Entries.{entry_next}
use Rattle.run_log.specs.ExportedFunctions.{AreExportedFunctions}
use Rattle.run_log.proofs.Members.{contains_cases, none_contained}
use Rattle.word_run.specs.Beginning.{exports_after}

abbrev IsHeld : List Mfa → Mfa → Type 0
IsHeld names to = IsSome (entry_of names to)

found_behind : (names : List Mfa) (x to : Mfa) (o : Option ℕ) → entry_of names to ≡ o → IsSome o → IsHeld (names ++ x ∷ []) to
found_behind names x to None is h = absurd (cc)
found_behind names x to (Some n) is h = ap is_some (position-append_found (is_same_mfa to) names (x ∷ []) n is)

held_by : (names : List Mfa) (x to : Mfa) (b : Bool) → IsHeld names to → IsHeld (cond b names (names ++ x ∷ [])) to
held_by names x to true h = h
held_by names x to false h = found_behind names x to (entry_of names to) refl h

with_kept : (names : List Mfa) (x to : Mfa) → IsHeld names to → IsHeld (exports_with names x) to
with_kept names x to h = held_by names x to (is_some (entry_of names x)) h

own_by : (names : List Mfa) (to : Mfa) (o : Option ℕ) → entry_of names to ≡ o → IsHeld (exports_with names to) to
own_by names to None is = ap is_some (entry_next names to is)
own_by names to (Some n) is = with_kept names to to (ap is_some is)

after_kept : (functions names : List Mfa) (to : Mfa) → IsHeld names to → IsHeld (exports_after names functions) to
after_kept [] names to h = h
after_kept (x ∷ functions) names to h = after_kept functions (exports_with names x) to (with_kept names x to h)

after_own : (functions names : List Mfa) (to : Mfa) → Contains functions to → IsHeld (exports_after names functions) to
after_own [] names to h = absurd (none_contained to h)
after_own (x ∷ functions) names to h = by (contains_cases x to functions h) (λ later. after_own functions (exports_with names x) to later)
  where
    by : (x ≡ to) ⊎ Contains functions to → (Contains functions to → IsHeld (exports_after (exports_with names x) functions) to) → IsHeld (exports_after (exports_with names x) functions) to
    by (inl same) more = after_kept functions (exports_with names x) to (subst (λ (y : Mfa). IsHeld (exports_with names y) to) (sym same) (own_by names to (entry_of names to) refl))
    by (inr later) more = more later

same_atom : (a b : AtomId) → a.0 ≡ b.0 → a ≡ b
same_atom a b e = ap (λ (n : ℕ). record { 0 = n }) e

-- each name that a text exports has a number
pub texts_numbered : (names : List (List ℕ)) (texts : List Module) (functions numbered : List Mfa) → AreExportedFunctions names texts functions → numbered ≡ exports_after [] functions → All (IsNumbered numbered) texts
texts_numbered names texts functions numbered all is k d below to same exported =
    subst (λ (xs : List Mfa). IsHeld xs to) (sym is)
    (after_own functions [] to (all.whole to (k, get_or texts k d, below, get_or_default texts k (get_or texts k d) d below, record { here = same_atom (get_or texts k d).name to.«module» same; exported = exported })))
