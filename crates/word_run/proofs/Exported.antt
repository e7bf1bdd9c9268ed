-- The functions that the texts of a script export are one list, since their order is strict.
use Rattle.std.proofs.Common.{◌≡◌, ℕ, List, map, sym, subst}
use Rattle.std.proofs.lemmas.List.{map-id}
use Rattle.std.specs.List.Sorted.{IsStrictlySortedBy}
use Rattle.term_core.specs.declared.atom.Mfa.{Mfa}
use Rattle.mod_core.specs.declared.code.Module.{Module}
use Rattle.run_log.specs.ExportedFunctions.{AreExportedFunctions}
use Rattle.run_log.specs.Snapshots.{mfa_cmp}
use Rattle.run_log.proofs.Snapshots.{mfa_total, same_sorted}

by_itself : (names : List (List ℕ)) (xs : List Mfa) → IsStrictlySortedBy (mfa_cmp names) xs → IsStrictlySortedBy (mfa_cmp names) (map (λ (f : Mfa). f) xs)
by_itself names xs h = subst (IsStrictlySortedBy (mfa_cmp names)) (sym (map-id xs)) h

pub functions_are_one : (names : List (List ℕ)) (texts : List Module) (xs ys : List Mfa) → AreExportedFunctions names texts xs → AreExportedFunctions names texts ys → xs ≡ ys
functions_are_one names texts xs ys h k =
    same_sorted (mfa_cmp names) (λ (f : Mfa). f) (mfa_total names) xs ys (by_itself names xs h.sorted) (by_itself names ys k.sorted)
    (λ f at. k.whole f (h.exported f at)) (λ f at. h.whole f (k.exported f at))
