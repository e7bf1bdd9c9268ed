-- The exports of a state are what it reaches of the functions that its modules export.
use Rattle.std.proofs.Common.{◌≡◌, ℕ, ◌+◌, ◌<◌, ◌++◌, length, take, get_or, Bool, List, [], ◌∷◌, map, filter, Option, Some, None, is_some, IsSomeAnd, option_map, refl, sym, ap, subst, ◌∙◌, cond}
use Rattle.std.proofs.lemmas.List.{take_more}
use Rattle.std.proofs.lemmas.List.Elements.{filter_map-append}
use Rattle.std.proofs.lemmas.List.Kept.{IsStrictlySortedBy-filter}
use Rattle.std.specs.List.{AllByRecursion, cons_option}
use Rattle.std.specs.List.Sorted.{IsStrictlySortedBy}
use Rattle.std.specs.Option.{option_to_list}
use Rattle.term_core.specs.declared.area.CodeRef.{CodeRef}
use Rattle.term_core.specs.declared.atom.Mfa.{Mfa}
use Rattle.mod_core.specs.declared.code.Module.{Module}
use Rattle.server_core.specs.ServerState.{ServerState, Entry, IsSound, dispatch_of, entry_of}
use Rattle.run_log.specs.Snapshots.{AreExports, IsExport, mfa_cmp}
use Rattle.run_log.specs.ExportedFunctions.{AreExportedFunctions}
use Rattle.run_log.specs.SeenExports.{export_in, exports_among}
use Rattle.run_log.specs.InstanceTexts.{AreOfTexts}
use Rattle.run_log.proofs.Dispatch.{dispatched_exported}
use Rattle.run_log.proofs.Members.{contains_given}

-- whether a function is exported
abbrev is_reached : ServerState → Mfa → Bool
is_reached s to = is_some (dispatch_of s to)

-- their functions are those that are exported
functions_reached : (s : ServerState) (functions : List Mfa) → map (λ export. export.0) (exports_among s functions) ≡ filter (is_reached s) functions
functions_reached s [] = refl
functions_reached s (to ∷ functions) = by (dispatch_of s to) (functions_reached s functions)
  where
    by : (o : Option Entry) → map (λ export. export.0) (exports_among s functions) ≡ filter (is_reached s) functions
        → map (λ export. export.0) (cons_option (option_map (λ e. (to, e.serial)) o) (exports_among s functions)) ≡ cond (is_some o) (to ∷ filter (is_reached s) functions) (filter (is_reached s) functions)
    by None rest = rest
    by (Some e) rest = ap (λ fs. to ∷ fs) rest

-- and each is exported
each_export : (s : ServerState) (functions : List Mfa) → AllByRecursion (IsExport s) (exports_among s functions)
each_export s [] = tt
each_export s (to ∷ functions) = by (dispatch_of s to) refl (each_export s functions)
  where
    by : (o : Option Entry) → dispatch_of s to ≡ o → AllByRecursion (IsExport s) (exports_among s functions) → AllByRecursion (IsExport s) (cons_option (option_map (λ e. (to, e.serial)) o) (exports_among s functions))
    by None at rest = rest
    by (Some e) at rest = (subst (λ o. IsSomeAnd o (λ f. f.serial ≡ e.serial)) (sym at) refl, rest)

-- the serial that an export has is that of the instance
export_is : (s : ServerState) (export : Mfa × ℕ) (o : Option Entry) → dispatch_of s export.0 ≡ o → IsSomeAnd o (λ e. e.serial ≡ export.1) → export_in s export.0 ≡ Some export
export_is s export None at h = absurd h
export_is s export (Some e) at h = ap (option_map (λ f. (export.0, f.serial))) at ∙ ap (λ n. Some (export.0, n)) h

exported_somewhere : (texts : List Module) (s : ServerState) (export : Mfa × ℕ) → IsSound s → AreOfTexts texts s → (o : Option Entry) → dispatch_of s export.0 ≡ o → IsSomeAnd o (λ e. e.serial ≡ export.1) → (e : Entry) × (dispatch_of s export.0 ≡ Some e)
exported_somewhere texts s export sound known None at h = absurd h
exported_somewhere texts s export sound known (Some e) at h = (e, at)

-- these are the exports of the state
pub are_exports : (names : List (List ℕ)) (texts : List Module) (s : ServerState) (functions : List Mfa) → IsSound s → AreExportedFunctions names texts functions → AreOfTexts texts s → AreExports names s (exports_among s functions)
are_exports names texts s functions sound all known = record {
  sorted = subst (IsStrictlySortedBy (mfa_cmp names)) (sym (functions_reached s functions)) (IsStrictlySortedBy-filter (mfa_cmp names) (is_reached s) functions all.sorted);
  exported = each_export s functions;
  whole = λ export h.
      let e = exported_somewhere texts s export sound known (dispatch_of s export.0) refl h in
      contains_given (export_in s) functions export.0 export (all.whole export.0 (dispatched_exported texts s export.0 e.0 sound known e.1)) (export_is s export (dispatch_of s export.0) refl h);
}

-- a function to stand for those past the end of a list
abbrev pub no_function : Mfa
no_function = record { «module» = record { 0 = 0 }; name = record { 0 = 0 }; arity = 0 }

-- one more function
pub one_more : (s : ServerState) (functions : List Mfa) (i : ℕ) (d : Mfa) (at : Option CodeRef) → i < length functions → option_map entry_of at ≡ dispatch_of s (get_or functions i d)
    → exports_among s (take (i + 1) functions) ≡ exports_among s (take i functions) ++ option_to_list (option_map (λ a. (get_or functions i d, a.area.serial)) at)
one_more s functions i d at within found =
    let to = get_or functions i d in
    ap (exports_among s) (take_more functions i d within)
    ∙ filter_map-append (export_in s) (take i functions) (to ∷ [])
    ∙ ap (λ (o : Option Entry). exports_among s (take i functions) ++ cons_option {X = Mfa × ℕ} (option_map (λ e. (to, e.serial)) o) []) (sym found)
    ∙ ap (λ xs. exports_among s (take i functions) ++ xs) (by to at)
  where
    by : (to : Mfa) (o : Option CodeRef) → cons_option {X = Mfa × ℕ} (option_map (λ e. (to, e.serial)) (option_map entry_of o)) [] ≡ option_to_list (option_map (λ a. (to, a.area.serial)) o)
    by to None = refl
    by to (Some a) = refl
