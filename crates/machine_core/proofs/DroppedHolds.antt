-- That just what the frames name stays held of a kind, where the areas that are held are taken out one by one.
use Rattle.std.proofs.Common.{◌≡◌, ◌∙◌, ℕ, arith, refl, sym, ap, Bool, true, false, not, ◌&&◌, ◌||◌, ◌==◌, IsTrue, List, [], ◌∷◌, ◌++◌, map, append_assoc, subst}
use Rattle.std.proofs.lemmas.Bool.Decides.{nat_tests}
use Rattle.std.proofs.lemmas.List.{append-nil, map-append}
use Rattle.std.proofs.lemmas.List.Folds.{list_any-append}
use Rattle.std.specs.List.{flat_map, list_any}
use Rattle.term_core.specs.declared.area.AreaRef.{AreaRef}
use Rattle.term_core.specs.declared.hold.Kind.{Kind}
use Rattle.term_core.specs.declared.hold.Kind.TheVariants.{Frame as for_frames, Literal as for_literals}
use Rattle.machine_core.specs.declared.process.Frame.{Frame}
use Rattle.machine_core.specs.HoldKinds.{held_for, holding}
use Rattle.machine_core.specs.Holds.{Holds, is_among, is_held, serials_of, without_hold, without_serial}
use Rattle.machine_core.specs.Process.{area_serials, code_names, value_area, value_areas}
use Rattle.machine_core.proofs.CodeNames.{among-flat_map, among_serials}
use Rattle.machine_core.proofs.SerialLists.{among-serials_of, among-without, increasing-serials_of, increasing-without, same_serials, serials_of-same}
use Rattle.machine_core.proofs.AreaLists.{swapped}

-- ---- what frames name

any_quoted : (fs : List Frame) (q : ℕ) → list_any (λ f. is_among (value_areas f.registers) q) fs ≡ list_any (λ f. list_any (λ v. is_among (value_area v) q) f.registers) fs
any_quoted [] q = refl
any_quoted (f ∷ fs) q =
    ap (λ b. b || list_any (λ g. is_among (value_areas g.registers) q) fs) (among-flat_map value_area f.registers q)
    ∙ ap (λ b. list_any (λ v. is_among (value_area v) q) f.registers || b) (any_quoted fs q)

-- the instances that frames name are those whose code they run
pub named_instance : (kind : Kind) (fs : List Frame) (q : ℕ) → kind ≡ for_frames → list_any (λ f. f.code.area.serial == q) fs ≡ is_among (held_for (code_names fs) kind) q
named_instance kind fs q e =
    sym (ap (λ k. is_among (held_for (code_names fs) k) q) e ∙ among-serials_of (map (λ f. f.code.area.serial) fs) q ∙ among_serials fs q)

-- and the areas that they name for literals are those of their literals
pub named_literal : (kind : Kind) (fs : List Frame) (q : ℕ) → kind ≡ for_literals → list_any (λ f. list_any (λ v. is_among (value_area v) q) f.registers) fs ≡ is_among (held_for (code_names fs) kind) q
named_literal kind fs q e =
    sym (ap (λ k. is_among (held_for (code_names fs) k) q) e
    ∙ among-serials_of (flat_map (λ (f : Frame). value_areas f.registers) fs) q ∙ among-flat_map (λ (f : Frame). value_areas f.registers) fs q ∙ any_quoted fs q)

-- serials in order are in order already
ordered_again : (ns : List ℕ) → serials_of (serials_of ns) ≡ serials_of ns
ordered_again ns = serials_of-same (serials_of ns) ns (among-serials_of ns)

named_ordered : (kind : Kind) (fs : List Frame) → serials_of (held_for (code_names fs) kind) ≡ held_for (code_names fs) kind
named_ordered for_frames fs = ordered_again (map (λ f. f.code.area.serial) fs)
named_ordered for_literals fs = ordered_again (flat_map (λ (f : Frame). value_areas f.registers) fs)

-- ---- what is held of a kind

holding-own : (held : Holds) (kind : Kind) → holding held kind (held_for held kind) ≡ held
holding-own held for_frames = refl
holding-own held for_literals = refl

held-holding : (held : Holds) (kind : Kind) (ns : List ℕ) (n : ℕ) → is_held (holding held kind ns) n kind ≡ is_among ns n
held-holding held for_frames ns n = refl
held-holding held for_literals ns n = refl

without-holding : (held : Holds) (kind : Kind) (ns : List ℕ) (n : ℕ) → without_hold (holding held kind ns) n kind ≡ holding held kind (without_serial ns n)
without-holding held for_frames ns n = refl
without-holding held for_literals ns n = refl

-- ---- the last of serials

among_last : (ns : List ℕ) (k q : ℕ) → is_among (ns ++ k ∷ []) q ≡ (k == q || is_among ns q)
among_last ns k q = list_any-append (λ n. n == q) ns (k ∷ []) ∙ swapped (is_among ns q) (k == q)

-- a serial that stands before again changes nothing
last_there : (ns : List ℕ) (k : ℕ) → is_among ns k ≡ true → serials_of (ns ++ k ∷ []) ≡ serials_of ns
last_there ns k h = serials_of-same (ns ++ k ∷ []) ns (λ q. among_last ns k q ∙ there_or q (k == q) refl)
  where
    there_or : (q : ℕ) (b : Bool) → (k == q) ≡ b → (b || is_among ns q) ≡ is_among ns q
    there_or q true e = let same : k ≡ q = grind (arith, nat_tests) in sym (subst (λ n. is_among ns n ≡ true) same h)
    there_or q false e = refl

-- and one that does not is taken out
last_out : (ns : List ℕ) (k : ℕ) → is_among ns k ≡ false → without_serial (serials_of (ns ++ k ∷ [])) k ≡ serials_of ns
last_out ns k h =
    same_serials (without_serial (serials_of (ns ++ k ∷ [])) k) (serials_of ns) (increasing-without (serials_of (ns ++ k ∷ [])) k (increasing-serials_of (ns ++ k ∷ []))) (increasing-serials_of ns)
    (λ q. among-without (serials_of (ns ++ k ∷ [])) k q ∙ ap (λ b. not (q == k) && b) (among-serials_of (ns ++ k ∷ []) q ∙ among_last ns k q) ∙ out_or q (q == k) refl ∙ sym (among-serials_of ns q))
  where
    out_or : (q : ℕ) (b : Bool) → (q == k) ≡ b → (not b && (k == q || is_among ns q)) ≡ is_among ns q
    out_or q true e = let same : k ≡ q = grind (arith, nat_tests) in sym (subst (λ n. is_among ns n ≡ false) same h)
    out_or q false e = let other : (k == q) ≡ false = grind (arith, nat_tests) in rw other refl

first_last : (ns : List ℕ) (k : ℕ) → is_among (serials_of (ns ++ k ∷ [])) k ≡ true
first_last ns k = among-serials_of (ns ++ k ∷ []) k ∙ among_last ns k k ∙ same_or k (is_among ns k)
  where
    same_or : (n : ℕ) (b : Bool) → (n == n || b) ≡ true
    same_or n b = grind (arith, nat_tests)

-- the serials of names and of areas, the last one apart
parted : (names : List ℕ) (areas rest : List AreaRef) (area : AreaRef) → areas ≡ rest ++ area ∷ [] → names ++ area_serials areas ≡ (names ++ area_serials rest) ++ area.serial ∷ []
parted names areas rest area e =
    ap (λ xs. names ++ area_serials xs) e ∙ ap (λ ns. names ++ ns) (map-append (λ a. a.serial) rest (area ∷ [])) ∙ sym (append_assoc names (area_serials rest) (area.serial ∷ []))

-- ---- the loop

-- what is held while areas are left: of this kind what the frames name, and these; of the other what was held at first
abbrev pub LeftHeld : Holds → Holds → Kind → List Frame → List AreaRef → Type 0
LeftHeld first held kind frames areas = held ≡ holding first kind (serials_of (held_for (code_names frames) kind ++ area_serials areas))

module _ (first : Holds) (kind : Kind) (frames : List Frame) where
  abbrev names : List ℕ
  names = held_for (code_names frames) kind

  -- at first the areas are all that is held
  pub left_first : (areas : List AreaRef) → ((n : ℕ) → IsTrue (is_among names n) → IsTrue (is_among (held_for first kind) n)) → held_for first kind ≡ serials_of (area_serials areas) →
      LeftHeld first first kind frames areas
  left_first areas h e =
      sym (ap (holding first kind)
      (serials_of-same (names ++ area_serials areas) (area_serials areas) (λ n. list_any-append (λ m. m == n) names (area_serials areas) ∙ all_or n (is_among names n) refl) ∙ sym e)
      ∙ holding-own first kind)
    where
      all_or : (n : ℕ) (b : Bool) → is_among names n ≡ b → (b || is_among (area_serials areas) n) ≡ is_among (area_serials areas) n
      all_or n true a = sym (sym (among-serials_of (area_serials areas) n) ∙ (ap (λ ns. is_among ns n) (sym e) ∙ h n a))
      all_or n false a = refl

  -- at last nothing is left but what the frames name
  pub left_last : (held : Holds) (areas : List AreaRef) → areas ≡ [] → LeftHeld first held kind frames areas → held ≡ holding first kind names
  left_last held areas none e = e ∙ ap (λ xs. holding first kind (serials_of (names ++ area_serials xs))) none ∙ ap (λ ns. holding first kind (serials_of ns)) (append-nil names) ∙ ap (holding first kind) (named_ordered kind frames)

  module _ (held : Holds) (areas rest : List AreaRef) (area : AreaRef) (e : LeftHeld first held kind frames areas) (p : areas ≡ rest ++ area ∷ []) where
    -- the last area is held
    pub last_held : IsTrue (is_held held area.serial kind)
    last_held =
        ap (λ h. is_held h area.serial kind) e ∙ held-holding first kind (serials_of (names ++ area_serials areas)) area.serial
        ∙ ap (λ ns. is_among (serials_of ns) area.serial) (parted names areas rest area p) ∙ first_last (names ++ area_serials rest) area.serial

    among_either : is_among (names ++ area_serials rest) area.serial ≡ (is_among names area.serial || is_among (area_serials rest) area.serial)
    among_either = list_any-append (λ m. m == area.serial) names (area_serials rest)

    -- it stays so where it is still named
    pub left_named : (is_among names area.serial || is_among (area_serials rest) area.serial) ≡ true → LeftHeld first held kind frames rest
    left_named h = e ∙ ap (holding first kind) (ap serials_of (parted names areas rest area p) ∙ last_there (names ++ area_serials rest) area.serial (among_either ∙ h))

    -- and is held no more where its hold was dropped
    pub left_dropped : (now : Holds) → (is_among names area.serial || is_among (area_serials rest) area.serial) ≡ false → now ≡ without_hold held area.serial kind → LeftHeld first now kind frames rest
    left_dropped now h d =
        d ∙ ap (λ x. without_hold x area.serial kind) e ∙ without-holding first kind (serials_of (names ++ area_serials areas)) area.serial
        ∙ ap (holding first kind) (ap (λ ns. without_serial (serials_of ns) area.serial) (parted names areas rest area p) ∙ last_out (names ++ area_serials rest) area.serial (among_either ∙ h))
