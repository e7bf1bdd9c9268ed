-- The exported functions of all texts, sorted by their names, each once.
use Rattle.std.proofs.Common.{◌≡◌, ℕ, ◌<◌, Bool, true, false, ◌&&◌, ◌||◌, List, [], ◌∷◌, ◌++◌, length, map, filter, cond, Contains, All, ◌==◌, get_or, Option, Some, None, IsSome, ◌⊎◌, inl, inr, refl, sym, ap, subst, ◌∙◌}
use Rattle.std.proofs.lemmas.Bool.{eqb-true, eq-eqb, and_parts}
use Rattle.std.proofs.lemmas.Cmp.{eq_by_cmp_equiv, nat_cmp_total, on_total, then_total}
use Rattle.std.proofs.lemmas.List.Elements.{All-contains, Contains-get_or, Contains-append_left, Contains-append_right, Contains-append_cases}
use Rattle.std.proofs.lemmas.List.Kept.{Any-dedup, Contains-from_dedup, IsStrictlySortedBy-dedup}
use Rattle.std.proofs.lemmas.List.Quantifiers.{position-Some}
use Rattle.std.proofs.lemmas.List.Sorted.{Contains-permutation, IsPermutation-sym, ranks_by}
use Rattle.std.proofs.lemmas.Map.Lookups.{exact_bytes, exact_unsigned}
use Rattle.std.proofs.lemmas.Option.{slice_get-get_or, unwrap_or-slice_get}
use Rattle.std.specs.declared.cmp.Ordering.{Ordering}
use Rattle.std.specs.declared.cmp.Ordering.TheVariants.{Less, Equal, Greater}
use Rattle.std.specs.Cmp.{IsTotalOrder, IsStrictWeakOrder}
use Rattle.std.specs.Cmp.Lexicographic.{on_texts}
use Rattle.std.specs.List.{dedup, flat_map, list_any}
use Rattle.std.specs.List.Sorted.{IsPermutation, IsSorted}
use Rattle.std.specs.Ordering.{eq_by_cmp, is_eq, is_lt, nat_cmp, ordering_then}
use Rattle.term_core.specs.declared.atom.AtomId.{AtomId}
use Rattle.term_core.specs.declared.atom.Mfa.{Mfa}
use Rattle.term_core.specs.Names.{IsNames, number_of}
use Rattle.term_core.specs.TermText.{atom_text}
use Rattle.term_core.proofs.GrownNames.{number_of-at}
use Rattle.term_core.proofs.Places.{is_some-position}
use Rattle.mod_core.specs.declared.code.Function.{Function}
use Rattle.mod_core.specs.declared.code.Module.{Module}
use Rattle.mod_core.specs.HeldNames.{IsFunctionHeld, IsModuleHeld}
use Rattle.server_core.specs.ServerState.{export_of, is_export}
use Rattle.script_core.specs.declared.script.Script.{Script}
use Rattle.script_core.specs.Sound.{IsScript}
use Rattle.run_log.specs.Snapshots.{mfa_cmp, name_cmp}
use Rattle.run_log.specs.ExportedFunctions.{AreExportedFunctions, exports_in, full_name}
use Rattle.run_log.specs.InstanceTexts.{IsExportedBy}
use Rattle.run_log.proofs.Members.{contains_cases, contains_first, contains_later, none_contained}

-- ---- the order

pub mfa_cmp_total : (names : List (List ℕ)) → IsTotalOrder (mfa_cmp names)
mfa_cmp_total names =
    then_total (on_texts (λ f. atom_text names f.«module».0)) (then_total (on_texts (λ f. atom_text names f.name.0)) (on_total (λ (f : Mfa). f.arity) nat_cmp_total))

pub mfa_lt_ranks : (names : List (List ℕ)) → IsStrictWeakOrder (λ f g. is_lt (mfa_cmp names f g))
mfa_lt_ranks names = ranks_by (mfa_cmp_total names) (λ (f : Mfa). f)

-- both parts of an order are equal where it is
first_equal : (a b : Ordering) → is_eq (ordering_then a b) ≡ true → (a ≡ Equal) × (is_eq b ≡ true)
first_equal Less b h = absurd (cc)
first_equal Equal b h = (refl, h)
first_equal Greater b h = absurd (cc)

equal_is : (a : Ordering) → is_eq a ≡ true → a ≡ Equal
equal_is Less h = absurd (cc)
equal_is Equal h = refl
equal_is Greater h = absurd (cc)

-- atoms of one text are one
same_number : (names : List (List ℕ)) (a b : ℕ) → IsNames names → a < length names → b < length names → atom_text names a ≡ atom_text names b → a ≡ b
same_number names a b sound first second same =
    let at = λ (n : ℕ) (in_table : n < length names). number_of-at names (atom_text names n) n sound (slice_get-get_or names n [] in_table ∙ ap (λ t. Some t) (sym (unwrap_or-slice_get names n []))) in
    let numbers : ◌≡◌ {A = Option ℕ} (Some a) (Some b) = sym (at a first) ∙ ap (number_of names) same ∙ at b second in
    cc

-- a function whose names are in the table
pub record IsNamed (names : List (List ℕ)) (f : Mfa) : Type 0 where
  pub outer : f.«module».0 < length names
  pub inner : f.name.0 < length names

same_mfa : (f g : Mfa) → f.«module».0 ≡ g.«module».0 → f.name.0 ≡ g.name.0 → f.arity ≡ g.arity → f ≡ g
same_mfa f g m n a =
    ap (λ x. record { «module» = record { 0 = x }; name = f.name; arity = f.arity }) m
    ∙ ap (λ x. record { «module» = g.«module»; name = record { 0 = x }; arity = f.arity }) n
    ∙ ap (λ x. record { «module» = g.«module»; name = g.name; arity = x }) a

-- named functions that the order does not tell apart are one
named_same : (names : List (List ℕ)) (f g : Mfa) → IsNames names → IsNamed names f → IsNamed names g → eq_by_cmp (mfa_cmp names) f g ≡ true → f ≡ g
named_same names f g sound held known h =
    let outer = first_equal (name_cmp names f.«module».0 g.«module».0) (ordering_then (name_cmp names f.name.0 g.name.0) (nat_cmp f.arity g.arity)) h in
    let inner = first_equal (name_cmp names f.name.0 g.name.0) (nat_cmp f.arity g.arity) outer.1 in
    same_mfa f g (same_number names f.«module».0 g.«module».0 sound held.outer known.outer (exact_bytes _ _ outer.0))
    (same_number names f.name.0 g.name.0 sound held.inner known.inner (exact_bytes _ _ inner.0))
    (exact_unsigned f.arity g.arity (equal_is (nat_cmp f.arity g.arity) inner.1))

-- ---- what a module exports

-- a function among those that a module exports, under its name and its arity
pub record IsOwnExport (module_name : AtomId) (fs : List Function) (to : Mfa) : Type 0 where
  pub function : Function
  pub known : Contains fs function
  pub exported : function.exported ≡ true
  pub is : full_name module_name function ≡ to

own_later : (module_name : AtomId) (f : Function) (fs : List Function) (to : Mfa) → IsOwnExport module_name fs to → IsOwnExport module_name (f ∷ fs) to
own_later module_name f fs to own = record { function = own.function; known = contains_later f own.function fs own.known; exported = own.exported; is = own.is }

own_listed : (module_name : AtomId) (fs : List Function) (to : Mfa) → Contains (map (full_name module_name) (filter (λ f. f.exported) fs)) to → IsOwnExport module_name fs to
own_listed module_name [] to h = absurd (none_contained to h)
own_listed module_name (f ∷ fs) to h = by f.exported refl h (λ k. own_later module_name f fs to (own_listed module_name fs to k))
  where
    first : f.exported ≡ true → (full_name module_name f ≡ to) ⊎ Contains (map (full_name module_name) (filter (λ g. g.exported) fs)) to → (Contains (map (full_name module_name) (filter (λ g. g.exported) fs)) to → IsOwnExport module_name (f ∷ fs) to) → IsOwnExport module_name (f ∷ fs) to
    first e (inl is) later = record { function = f; known = contains_first f fs; exported = e; is = is }
    first e (inr k) later = later k

    by : (b : Bool) → f.exported ≡ b → Contains (map (full_name module_name) (cond b (f ∷ filter (λ g. g.exported) fs) (filter (λ g. g.exported) fs))) to
        → (Contains (map (full_name module_name) (filter (λ g. g.exported) fs)) to → IsOwnExport module_name (f ∷ fs) to) → IsOwnExport module_name (f ∷ fs) to
    by true e k later = first e (contains_cases (full_name module_name f) to _ k) later
    by false e k later = later k

listed_own : (module_name : AtomId) (fs : List Function) (f : Function) → Contains fs f → f.exported ≡ true → Contains (map (full_name module_name) (filter (λ g. g.exported) fs)) (full_name module_name f)
listed_own module_name [] f h e = absurd (none_contained f h)
listed_own module_name (g ∷ fs) f h e = by g.exported refl (contains_cases g f fs h) (λ k. listed_own module_name fs f k e)
  where
    by : (b : Bool) → g.exported ≡ b → (g ≡ f) ⊎ Contains fs f → (Contains fs f → Contains (map (full_name module_name) (filter (λ x. x.exported) fs)) (full_name module_name f))
        → Contains (map (full_name module_name) (cond b (g ∷ filter (λ x. x.exported) fs) (filter (λ x. x.exported) fs))) (full_name module_name f)
    by true is (inl same) later = subst (λ x. Contains (full_name module_name g ∷ map (full_name module_name) (filter (λ y. y.exported) fs)) (full_name module_name x)) same (contains_first (full_name module_name g) _)
    by true is (inr k) later = contains_later (full_name module_name g) (full_name module_name f) _ (later k)
    by false is (inl same) later = let no : true ≡ false = sym e ∙ ap (λ (x : Function). x.exported) (sym same) ∙ is in absurd (cc)
    by false is (inr k) later = later k

-- what the look-up finds is an export of the module's own
own_found : (m : Module) (to : Mfa) → IsExportedBy to m → IsOwnExport m.name m.functions to
own_found m to by = at (export_of m to) refl by.exported
  where
    at : (o : Option ℕ) → export_of m to ≡ o → IsSome o → IsOwnExport m.name m.functions to
    at None e h = absurd (cc)
    at (Some i) e h =
        let found = position-Some (is_export to) m.functions i (record { name = to.name; arity = to.arity; exported = false; code = [] }) e in
        let f = get_or m.functions i (record { name = to.name; arity = to.arity; exported = false; code = [] }) in
        let parts = and_parts f.exported (f.name.0 == to.name.0 && f.arity == to.arity) found.1 in
        let names = and_parts (f.name.0 == to.name.0) (f.arity == to.arity) parts.1 in
        record {
          function = f;
          known = Contains-get_or m.functions i (record { name = to.name; arity = to.arity; exported = false; code = [] }) found.0;
          exported = parts.0;
          is = same_mfa (full_name m.name f) to (ap (λ (a : AtomId). a.0) by.here) (eqb-true f.name.0 to.name.0 names.0) (eqb-true f.arity to.arity names.1);
        }

any_contained : {X : Type 0} (p : X → Bool) (xs : List X) (x : X) → Contains xs x → p x ≡ true → list_any p xs ≡ true
any_contained p [] x h e = absurd (none_contained x h)
any_contained p (y ∷ ys) x h e = at (contains_cases y x ys h) (λ k. any_contained p ys x k e)
  where
    passes : (b c : Bool) → c ≡ true → (b || c) ≡ true
    passes true c k = refl
    passes false c k = k

    at : (y ≡ x) ⊎ Contains ys x → (Contains ys x → list_any p ys ≡ true) → (p y || list_any p ys) ≡ true
    at (inl same) later = ap (λ b. b || list_any p ys) (ap p same ∙ e)
    at (inr k) later = passes (p y) (list_any p ys) (later k)

-- and an export of its own is found
found_own : (m : Module) (to : Mfa) → IsOwnExport m.name m.functions to → IsExportedBy to m
found_own m to own = record {
  here = ap (λ (x : Mfa). x.«module») own.is;
  exported = is_some-position (is_export to) m.functions ∙ any_contained (is_export to) m.functions own.function own.known (is_own own.function to own.exported (ap (λ (x : Mfa). x.name.0) own.is) (ap (λ (x : Mfa). x.arity) own.is));
}
  where
    is_own : (f : Function) (to : Mfa) → f.exported ≡ true → f.name.0 ≡ to.name.0 → f.arity ≡ to.arity → is_export to f ≡ true
    is_own f to e n a = rw e (rw (eq-eqb f.name.0 to.name.0 n) (eq-eqb f.arity to.arity a))

-- ---- what the texts export

-- the functions that a module exports are those that it lists
by_listed : (m : Module) (to : Mfa) → IsExportedBy to m → Contains (exports_in m) to
by_listed m to by = let own = own_found m to by in subst (Contains (exports_in m)) own.is (listed_own m.name m.functions own.function own.known own.exported)

listed_by : (m : Module) (to : Mfa) → Contains (exports_in m) to → IsExportedBy to m
listed_by m to h = found_own m to (own_listed m.name m.functions to h)

one_listed : (texts : List Module) (m : Module) (to : Mfa) → Contains texts m → IsExportedBy to m → Contains (flat_map exports_in texts) to
one_listed [] m to h by = absurd (none_contained m h)
one_listed (n ∷ texts) m to h by = at (contains_cases n m texts h) (λ k. one_listed texts m to k by)
  where
    at : (n ≡ m) ⊎ Contains texts m → (Contains texts m → Contains (flat_map exports_in texts) to) → Contains (exports_in n ++ flat_map exports_in texts) to
    at (inl same) later = Contains-append_left (exports_in n) (flat_map exports_in texts) to (subst (λ x. Contains (exports_in x) to) (sym same) (by_listed m to by))
    at (inr k) later = Contains-append_right (exports_in n) (flat_map exports_in texts) to (later k)

-- a module among these that exports a function
record HasExporter (texts : List Module) (to : Mfa) : Type 0 where
  code : Module
  known : Contains texts code
  by : IsExportedBy to code

listed_one : (texts : List Module) (to : Mfa) → Contains (flat_map exports_in texts) to → HasExporter texts to
listed_one [] to h = absurd (none_contained to h)
listed_one (m ∷ texts) to h = at (Contains-append_cases (exports_in m) (flat_map exports_in texts) to h) (λ k. listed_one texts to k)
  where
    at : Contains (exports_in m) to ⊎ Contains (flat_map exports_in texts) to → (Contains (flat_map exports_in texts) to → HasExporter texts to) → HasExporter (m ∷ texts) to
    at (inl k) later = record { code = m; known = contains_first m texts; by = listed_by m to k }
    at (inr k) later = let found = later k in record { code = found.code; known = contains_later m found.code texts found.known; by = found.by }

-- what a text exports is named
listed_named : (names : List (List ℕ)) (texts : List Module) (to : Mfa) → All (IsModuleHeld names) texts → HasExporter texts to → IsNamed names to
listed_named names texts to held found =
    let m = All-contains (IsModuleHeld names) texts found.code held found.known in
    let own = own_found found.code to found.by in
    record {
      outer = subst (λ (a : AtomId). a.0 < length names) found.by.here m.name;
      inner = subst (λ (f : Mfa). f.name.0 < length names) own.is (All-contains (IsFunctionHeld (length names)) found.code.functions own.function m.functions own.known).name;
    }

-- the functions of all texts, sorted and each once
pub functions_are : (s : Script) (ys zs : List Mfa) → IsScript s → IsPermutation (flat_map exports_in s.modules) ys → IsSorted (mfa_cmp s.names) ys → zs ≡ dedup (eq_by_cmp (mfa_cmp s.names)) ys → AreExportedFunctions s.names s.modules zs
functions_are s ys zs script moved sorted once = subst (AreExportedFunctions s.names s.modules) (sym once) (record {
  sorted = IsStrictlySortedBy-dedup (mfa_cmp_total s.names) (λ f g. refl) ys sorted;
  exported = λ to h. let found = exporter to h in (found.known.0, found.code, found.known.1, found.known.2, found.by);
  whole = λ to h.
      let m = h.1 in
      let there = Contains-permutation (flat_map exports_in s.modules) ys to moved (one_listed s.modules m to (h.0, h.2, h.3) h.4) in
      let kept = Any-dedup (eq_by_cmp_equiv (mfa_cmp_total s.names)) ys to there in
      let known : Contains (dedup (eq_by_cmp (mfa_cmp s.names)) ys) kept.1 = (kept.0, kept.2, kept.3) in
      subst (Contains (dedup (eq_by_cmp (mfa_cmp s.names)) ys))
      (sym (named_same s.names to kept.1 script.names (listed_named s.names s.modules to script.held (record { code = m; known = (h.0, h.2, h.3); by = h.4 })) (listed_named s.names s.modules kept.1 script.held (exporter kept.1 known)) kept.4))
      known;
})
  where
    exporter : (to : Mfa) → Contains (dedup (eq_by_cmp (mfa_cmp s.names)) ys) to → HasExporter s.modules to
    exporter to h = listed_one s.modules to (Contains-permutation ys (flat_map exports_in s.modules) to (IsPermutation-sym _ _ moved) (Contains-from_dedup (eq_by_cmp (mfa_cmp s.names)) ys to h))
