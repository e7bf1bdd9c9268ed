-- What is known of the values of frames, one by one and with the topmost frame apart, and that nothing is copied where nothing is retired.
use Rattle.std.proofs.Common.{◌≡◌, ◌<◌, ◌∙◌, ◌||◌, ◌==◌, ℕ, zero, suc, refl, sym, ap, arith, subst, Bool, true, false, IsTrue, All, List, [], ◌∷◌, ◌++◌, length, map, get_or, if◌then◌else◌}
use Rattle.std.proofs.lemmas.Bool.Decides.{nat_tests}
use Rattle.std.proofs.Common.{length-append}
use Rattle.std.proofs.Math.ListN.{get_or-append}
use Rattle.std.proofs.lemmas.List.Elements.{All-head, All-map, All-tail}
use Rattle.std.specs.List.{list_any}
use Rattle.std.proofs.lemmas.Bool.{or_right}
use Rattle.term_core.specs.declared.area.AreaRef.{AreaRef}
use Rattle.term_core.specs.declared.hold.Kind.TheVariants.{Literal as for_literals}
use Rattle.machine_core.specs.declared.areas.HeldAreas.{HeldAreas}
use Rattle.machine_core.specs.declared.process.Frame.{Frame}
use Rattle.machine_core.specs.declared.process.Value.{Value}
use Rattle.machine_core.specs.HoldKinds.{holding}
use Rattle.machine_core.specs.Holds.{Holds, is_among, is_area_held, serials_of}
use Rattle.machine_core.specs.Process.{PlainFrame, PlainValue, Words, area_holds, area_serials, code_names, frame_names, frame_of, frames_of, literal, owned, value_shown, values_shown}
use Rattle.machine_core.specs.Stand.{AreHeld, IsValueHeld}
use Rattle.machine_core.specs.Turn.{copied, copied_value}
use Rattle.machine_core.specs.View.{AreValues, HasValues, Shown}
use Rattle.machine_core.proofs.AreaLists.{same_holds}
use Rattle.machine_core.proofs.CodeNames.{code_names-shown, frames_of-push}
use Rattle.machine_core.proofs.NamedAreas.{literals_held, names_held}
use Rattle.machine_core.proofs.SerialLists.{among-serials_of, same_first}
use Rattle.machine_core.specs.Reads.{Reads}

-- ---- one of the areas that are held for literals

among_at : (areas : List AreaRef) (n : ℕ) (d : AreaRef) → n < length areas → is_among (area_serials areas) (get_or areas n d).serial ≡ true
among_at [] n d h = absurd (omega arith)
among_at (a ∷ areas) zero d h = same_first a.serial (is_among (area_serials areas) a.serial)
among_at (a ∷ areas) (suc n) d h = or_right (a.serial == (get_or areas n d).serial) (is_among (area_serials areas) (get_or areas n d).serial) (among_at areas n d (omega arith))

-- each area of a list of them is held
pub listed_held : (first held : Holds) (areas : List AreaRef) (n : ℕ) (d : AreaRef) → n < length areas → held ≡ first → first.literals ≡ serials_of (area_serials areas) → IsTrue (is_area_held held (get_or areas n d).serial)
listed_held first held areas n d below same e =
    or_right (is_among held.frames (get_or areas n d).serial) (is_among held.literals (get_or areas n d).serial)
    (ap (λ (x : Holds). is_among x.literals (get_or areas n d).serial) same ∙ ap (λ ns. is_among ns (get_or areas n d).serial) e ∙ among-serials_of (area_serials areas) (get_or areas n d).serial ∙ among_at areas n d below)

-- ---- the values of a frame

-- the area of each literal is held for it
pub value_named : (words : Words) (held : Holds) (values : List Value) (n : ℕ) (value : Value) → n < length values → value ≡ get_or values n value → All (IsValueHeld held) (values_shown words values) → IsValueHeld held (value_shown words value)
value_named words held [] n value below is all = absurd (omega arith)
value_named words held (v ∷ vs) zero value below is all =
    let h : IsValueHeld held (value_shown words v) = All-head (IsValueHeld held) (value_shown words v) (values_shown words vs) all in
    subst (λ u. IsValueHeld held (value_shown words u)) (sym is) h
value_named words held (v ∷ vs) (suc n) value below is all = value_named words held vs n value (omega arith) is (All-tail (IsValueHeld held) (value_shown words v) (values_shown words vs) all)

-- ---- the frames below the topmost

module _ (shown now : Shown) (frames rest : List Frame) (f : Frame) (same : now ≡ shown) (parted : frames ≡ rest ++ f ∷ []) where
  -- what they name is held
  pub rest_named : (held later : Holds) → later ≡ held → AreHeld held (frames_of shown.words frames) → AreHeld later (frames_of now.words rest)
  rest_named held later still h =
      let all : AreHeld held (frame_of shown.words f ∷ frames_of shown.words rest) = subst (AreHeld held) (ap (frames_of shown.words) parted ∙ frames_of-push shown.words rest f) h in
      subst (λ (x : Holds). AreHeld x (frames_of now.words rest)) (sym still) (subst (λ (s : Shown). AreHeld held (frames_of s.words rest)) (sym same) all.2)

  -- and their literals stand at images
  pub rest_values : AreValues shown frames → AreValues now rest
  rest_values h = subst (λ (s : Shown). AreValues s rest) (sym same) (All-front (HasValues shown) rest (f ∷ []) (subst (AreValues shown) parted h))
    where
      All-front : {X : Type 0} (P : X → Type 0) (xs ys : List X) → All P (xs ++ ys) → All P xs
      All-front P xs ys all = λ k d l. subst P (get_or-append xs ys d k l) (all k d (omega (arith, length-append xs ys)))

-- ---- what is copied

module _ (s : Reads) where
  none_retired : (areas : List AreaRef) (n : ℕ) → list_any (λ a. s.retired a.serial) areas ≡ false → is_among (area_serials areas) n ≡ true → s.retired n ≡ false
  none_retired [] n none h = absurd (cc)
  none_retired (a ∷ areas) n none h = none_first (a.serial == n) refl (s.retired a.serial) refl none h (none_retired areas n)
    where
      none_first : (b : Bool) → (a.serial == n) ≡ b → (c : Bool) → s.retired a.serial ≡ c → (c || list_any (λ a. s.retired a.serial) areas) ≡ false → (b || is_among (area_serials areas) n) ≡ true →
          (list_any (λ a. s.retired a.serial) areas ≡ false → is_among (area_serials areas) n ≡ true → s.retired n ≡ false) → s.retired n ≡ false
      none_first b e true r none h later = absurd (cc)
      none_first true e false r none h later = let same : a.serial ≡ n = grind (arith, nat_tests) in subst (λ m. s.retired m ≡ false) same r
      none_first false e false r none h later = later none h

  module _ (held : Holds) (kept : (n : ℕ) → is_among held.literals n ≡ true → s.retired n ≡ false) where
    value_same : (value : PlainValue) → IsValueHeld held value → copied_value s value ≡ value
    value_same (owned term) h = refl
    value_same (literal serial term) h = ap (λ b. if b then owned term else literal serial term) (kept serial h)

    values_same : (values : List PlainValue) → All (IsValueHeld held) values → map (copied_value s) values ≡ values
    values_same [] h = refl
    values_same (v ∷ vs) h =
        ap (λ u. u ∷ map (copied_value s) vs) (value_same v (All-head (IsValueHeld held) v vs h)) ∙ ap (λ us. v ∷ us) (values_same vs (All-tail (IsValueHeld held) v vs h))

    frames_same : (frames : List PlainFrame) → AreHeld held frames → copied s frames ≡ frames
    frames_same [] h = refl
    frames_same (f ∷ below) h = ap (λ rs. record f { registers = rs } ∷ copied s below) (values_same f.registers h.1) ∙ ap (λ fs. f ∷ fs) (frames_same below h.2)

  -- where no area that is held for literals is retired, nothing is copied
  pub nothing_copied : (held : Holds) (frames : List PlainFrame) (areas : HeldAreas) (listed : List AreaRef) → held ≡ frame_names frames → held ≡ area_holds areas → listed ≡ areas.literals →
      list_any (λ a. s.retired a.serial) listed ≡ false → copied s frames ≡ frames
  nothing_copied held frames areas listed names tracked is none =
      frames_same held (λ n h. none_retired listed n none (ap (λ xs. is_among (area_serials xs) n) is ∙ sym (among-serials_of (area_serials areas.literals) n) ∙ ap (λ (x : Holds). is_among x.literals n) (sym tracked) ∙ h)) frames
      (subst (λ (x : Holds). AreHeld x frames) (sym names) (names_held frames))

  value_held : (held : Holds) (value : PlainValue) → IsValueHeld held value → IsValueHeld held (copied_value s value)
  value_held held (owned term) h = tt
  value_held held (literal serial term) h = elim (s.retired serial) as (λ b. IsValueHeld held (if b then owned term else literal serial term)) [ true ↦ tt | false ↦ h ]

  copied_held : (held : Holds) (frames : List PlainFrame) → AreHeld held frames → AreHeld held (copied s frames)
  copied_held held [] h = tt
  copied_held held (f ∷ below) h = (h.0, All-map (IsValueHeld held) (copied_value s) f.registers (λ k d l. value_held held _ (h.1 k d l)), copied_held held below h.2)

  same_instances : (frames : List PlainFrame) → map (λ f. f.serial) (copied s frames) ≡ map (λ f. f.serial) frames
  same_instances [] = refl
  same_instances (f ∷ below) = ap (λ ns. f.serial ∷ ns) (same_instances below)

  module _ (words : Words) (held : Holds) (before after : List Frame) (names : held ≡ frame_names (frames_of words before)) (is : frames_of words after ≡ copied s (frames_of words before)) where
    copied_shown : code_names after ≡ frame_names (copied s (frames_of words before))
    copied_shown = code_names-shown words after ∙ ap frame_names is

    -- what copied frames name for literals is held for them still
    pub copied_named : (later : Holds) (serial : ℕ) → later ≡ held → IsTrue (is_among (code_names after).literals serial) → IsTrue (is_among later.literals serial)
    copied_named later serial still h =
        ap (λ (x : Holds). is_among x.literals serial) still
        ∙ literals_held held (copied s (frames_of words before)) serial
        (copied_held held (frames_of words before) (subst (λ (x : Holds). AreHeld x (frames_of words before)) (sym names) (names_held (frames_of words before))))
        (ap (λ (x : Holds). is_among x.literals serial) (sym copied_shown) ∙ h)

    -- and just that, where the other holds are dropped
    pub copied_holds : (later now : Holds) → later ≡ held → now ≡ holding later for_literals (code_names after).literals → now ≡ frame_names (copied s (frames_of words before))
    copied_holds later now still dropped =
        dropped
        ∙ same_holds (holding later for_literals (code_names after).literals) (frame_names (copied s (frames_of words before)))
        (ap (λ (x : Holds). x.frames) (still ∙ names) ∙ ap serials_of (sym (same_instances (frames_of words before)))) (ap (λ (x : Holds). x.literals) copied_shown)

    -- which are the areas that are noted then
    pub copied_areas : (later now : Holds) (areas : HeldAreas) (frames : List Frame) → later ≡ held → now ≡ holding later for_literals (code_names after).literals → area_holds areas ≡ code_names frames → frames ≡ after →
        now ≡ area_holds areas
    copied_areas later now areas frames still dropped noted same = copied_holds later now still dropped ∙ sym (noted ∙ ap code_names same ∙ copied_shown)

-- what all frames name is held
pub all_named : (shown now : Shown) (held later : Holds) (frames : List Frame) → now ≡ shown → later ≡ held → held ≡ frame_names (frames_of shown.words frames) → AreHeld later (frames_of now.words frames)
all_named shown now held later frames same still names =
    subst (λ (s : Shown). AreHeld later (frames_of s.words frames)) (sym same)
    (subst (λ (x : Holds). AreHeld x (frames_of shown.words frames)) (sym (still ∙ names)) (names_held (frames_of shown.words frames)))
