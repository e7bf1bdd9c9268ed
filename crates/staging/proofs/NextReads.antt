-- What the generation of a state says of areas, as the words show it, is what the state says.
use Rattle.std.proofs.Common.{◌≡◌, ℕ, zero, suc, ◌<◌, ◌⊎◌, inl, inr, Bool, true, false, List, [], ◌∷◌, ◌++◌, map, Option, Some, None, refl, sym, ap, subst, ◌∙◌, arith, if◌then◌else◌}
use Rattle.std.specs.Prelude.{◌==◌, ◌||◌, slice_get, unwrap_or, option_map, option_and_then, IsSomeAnd}
use Rattle.std.specs.List.{list_any}
use Rattle.std.proofs.lemmas.Bool.{eqb-true, eq-eqb, false_from_ne_true, or_cases, true≢false}
use Rattle.std.proofs.lemmas.List.Folds.{list_any-append}
use Rattle.term_core.specs.declared.atom.Mfa.{Mfa}
use Rattle.term_core.specs.declared.generation.Generation.{Generation}
use Rattle.mod_core.specs.declared.code.Module.{Module}
use Rattle.mod_core.specs.Module.{IsModule}
use Rattle.area_core.specs.declared.table.Published.{Published}
use Rattle.area_core.specs.Generations as generations
use Rattle.area_core.specs.Generations.{has_serial, holds_area}
use Rattle.server_core.specs.Generations.{generation_of, is_current_code, is_old_code, is_serial, key_term, serials_below}
use Rattle.server_core.specs.ServerState.{IsDropped, IsInstanceOf, IsSound, Persistent, ServerState, code_of, current_of, is_retired, key_area, old_of, persistent_among}
use Rattle.machine_core.proofs.ImageKinds.{found_number}
use Rattle.machine_core.proofs.GenerationAreas.{some_of}
use Rattle.prgr_core.proofs.Parts.{some_same}
use Rattle.change_laws.specs.Uses.{IsUsed}
use Rattle.staging.specs.Standing.{AreKeysOnce}

-- ---- serials that pass a test

pub any_either : {X : Type 0} (test : X → Bool) (xs ys : List X) → list_any test (xs ++ ys) ≡ true → (list_any test xs ≡ true) ⊎ (list_any test ys ≡ true)
any_either test xs ys e = or_cases (list_any test xs) (list_any test ys) (sym (list_any-append test xs ys) ∙ e)

pub one_is : (n q : ℕ) → (n == q || false) ≡ true → n ≡ q
one_is n q e =
    elim (or_cases (n == q) false e) as (λ _. n ≡ q) [
      | inl here ↦ eqb-true n q here
      | inr none ↦ absurd (true≢false (sym none))
    ]

one_passes : (test : ℕ → Bool) (n q : ℕ) (b : Bool) → test n ≡ b → list_any (λ (x : ℕ). x == q) (if b then n ∷ [] else []) ≡ true → test q ≡ true
one_passes test n q true is e = ap test (sym (one_is n q e)) ∙ is
one_passes test n q false is e = absurd (true≢false (sym e))

pub below_passes : (test : ℕ → Bool) (n q : ℕ) → has_serial (serials_below test n) q ≡ true → test q ≡ true
below_passes test zero q e = absurd (true≢false (sym e))
below_passes test (suc n) q e =
    elim (any_either (λ (x : ℕ). x == q) (serials_below test n) (if test n then n ∷ [] else []) e) as (λ _. test q ≡ true) [
      | inl first ↦ below_passes test n q first
      | inr last ↦ one_passes test n q (test n) refl last
    ]

-- ---- versions

-- a serial is the current or old code of its module
pub record IsVersion (of : ℕ → Option ℕ) (code : Option Module) (n : ℕ) : Type 0 where
  pub m : Module
  pub code_is : code ≡ Some m
  pub is : of m.name.0 ≡ Some n

version_of : (of : ℕ → Option ℕ) (code : Option Module) (n : ℕ) → unwrap_or (option_map (λ m. is_serial (of m.name.0) n) code) false ≡ true → IsVersion of code n
version_of of None n e = absurd (true≢false (sym e))
version_of of (Some m) n e = record { m = m; code_is = refl; is = found_number (of m.name.0) n e }

-- ---- keys

once_behind : (q : Persistent) (keys : List Persistent) → AreKeysOnce (q ∷ keys) → AreKeysOnce keys
once_behind q keys once j k x y here there same = let even = once (suc j) (suc k) x y here there same in omega (arith, even)

-- a key that stands once holds what it stands for
pub held_at : (keys : List Persistent) (i : ℕ) (p : Persistent) → AreKeysOnce keys → slice_get keys i ≡ Some p → persistent_among keys p.key ≡ Some p
held_at [] i p once at = absurd (cc)
held_at (q ∷ keys) zero p once at = choose (q.key == p.key) (eq-eqb q.key p.key (ap (λ (x : Persistent). x.key) (some_same q p at)))
  where
    choose : (b : Bool) → b ≡ true → (if b then Some q else persistent_among keys p.key) ≡ Some p
    choose true e = at
    choose false e = absurd (true≢false (sym e))
held_at (q ∷ keys) (suc i) p once at = choose (q.key == p.key) refl (held_at keys i p (once_behind q keys once) at)
  where
    choose : (b : Bool) → (q.key == p.key) ≡ b → persistent_among keys p.key ≡ Some p → (if b then Some q else persistent_among keys p.key) ≡ Some p
    choose true e behind = absurd (let even = once 0 (suc i) q p refl at (eqb-true q.key p.key e) in omega (arith, even))
    choose false e behind = behind

pub record HoldsArea (keys : List Persistent) (serial : ℕ) : Type 0 where
  pub place : ℕ
  pub p : Persistent
  pub at : slice_get keys place ≡ Some p
  pub area : p.area ≡ Some serial

area_held : (p : Persistent) (serial : ℕ) (o : Option ℕ) → p.area ≡ o → holds_area serial (key_term p).holding ≡ true → p.area ≡ Some serial
area_held p serial None is e = absurd (true≢false (sym (subst (λ (a : Option ℕ). holds_area serial (key_term (record p { area = a })).holding ≡ true) is e)))
area_held p serial (Some n) is e = is ∙ ap (λ (k : ℕ). Some k) (eqb-true n serial (subst (λ (a : Option ℕ). holds_area serial (key_term (record p { area = a })).holding ≡ true) is e))

holder : (keys : List Persistent) (serial : ℕ) → list_any (λ k. holds_area serial k.holding) (map key_term keys) ≡ true → HoldsArea keys serial
holder [] serial e = absurd (true≢false (sym e))
holder (p ∷ keys) serial e =
    elim (or_cases (holds_area serial (key_term p).holding) (list_any (λ k. holds_area serial k.holding) (map key_term keys)) e) as (λ _. HoldsArea (p ∷ keys) serial) [
      | inl here ↦ record { place = 0; p = p; at = refl; area = area_held p serial p.area refl here }
      | inr behind ↦ let found = holder keys serial behind in record { place = suc found.place; p = found.p; at = found.at; area = found.area }
    ]

-- ---- what a state says

module _ (s : ServerState) (sound : IsSound s) where
  its_module : (name serial : ℕ) → IsInstanceOf s name serial → (m : Module) × (code_of s serial ≡ Some m) × (m.name.0 ≡ name)
  its_module name serial is = found (code_of s serial) refl is
    where
      found : (o : Option Module) → code_of s serial ≡ o → IsSomeAnd o (λ m. m.name.0 ≡ name) → (m : Module) × (code_of s serial ≡ Some m) × (m.name.0 ≡ name)
      found None code h = absurd h
      found (Some m) code h = (m, code, h)

  pub current_module : (name serial : ℕ) → current_of s name ≡ Some serial → (m : Module) × (code_of s serial ≡ Some m) × (m.name.0 ≡ name)
  current_module name serial is = its_module name serial (some_of (IsInstanceOf s name) (current_of s name) serial (sound.current name) is)

  pub old_module : (name serial : ℕ) → old_of s name ≡ Some serial → (m : Module) × (code_of s serial ≡ Some m) × (m.name.0 ≡ name)
  old_module name serial is = its_module name serial (some_of (IsInstanceOf s name) (old_of s name) serial (sound.old name) is)

  pub code_known : (serial : ℕ) (m : Module) → code_of s serial ≡ Some m → IsModule m × (serial < s.next_serial)
  code_known serial m code = some_of (λ m. IsModule m × (serial < s.next_serial)) (code_of s serial) m (sound.modules serial) code

  -- what is old code is current nowhere
  pub old_not_current : (name other serial : ℕ) → old_of s name ≡ Some serial → current_of s other ≡ Some serial → ⊥
  old_not_current name other serial old current =
      let before = old_module name serial old in
      let now = current_module other serial current in
      let same : before.0 ≡ now.0 = some_same before.0 now.0 (sym before.1 ∙ now.1) in
      let one : name ≡ other = sym before.2 ∙ ap (λ (m : Module). m.name.0) same ∙ now.2 in
      sound.apart other serial current (ap (old_of s) (sym one) ∙ old)

  -- what was dropped is not used
  pub dropped_unused : (serial : ℕ) → IsDropped s serial → IsUsed s serial → ⊥
  dropped_unused serial dropped used =
      elim used as (λ _. ⊥) [
        | inl current ↦ dropped.not_current current.0 current.1
        | inr (inl old) ↦ dropped.not_old old.0 old.1
        | inr (inr held) ↦ dropped.not_held held.0 held.1
      ]

  pub used_unretired : (serial : ℕ) → IsUsed s serial → is_retired s serial ≡ false
  used_unretired serial used = false_from_ne_true (is_retired s serial) (λ e. dropped_unused serial (sound.retired serial e) used)

-- ---- what its generation says

module _ (names : List Mfa) (s : ServerState) (p : Published) (shows : p.state ≡ generation_of names s) where
  pub shown_current : (serial : ℕ) → generations.is_current p serial ≡ true → IsVersion (current_of s) (code_of s serial) serial
  shown_current serial e =
      version_of (current_of s) (code_of s serial) serial (below_passes (is_current_code s) s.next_serial serial (subst (λ (g : Generation). has_serial g.current serial ≡ true) shows e))

  pub shown_old : (serial : ℕ) → has_serial p.state.old serial ≡ true → IsVersion (old_of s) (code_of s serial) serial
  shown_old serial e =
      version_of (old_of s) (code_of s serial) serial (below_passes (is_old_code s) s.next_serial serial (subst (λ (g : Generation). has_serial g.old serial ≡ true) shows e))

  -- an instance has code, and is used
  pub record IsShownInstance (serial : ℕ) : Type 0 where
    pub m : Module
    pub code : code_of s serial ≡ Some m
    pub used : IsUsed s serial

  pub shown_instance : (serial : ℕ) → generations.is_instance p serial ≡ true → IsShownInstance serial
  shown_instance serial e =
      elim (or_cases (has_serial p.state.current serial) (has_serial p.state.old serial) e) as (λ _. IsShownInstance serial) [
        | inl current ↦ let is = shown_current serial current in record { m = is.m; code = is.code_is; used = inl (is.m.name.0, is.is) }
        | inr old ↦ let is = shown_old serial old in record { m = is.m; code = is.code_is; used = inr (inl (is.m.name.0, is.is)) }
      ]

  pub shown_key : AreKeysOnce s.keys → (serial : ℕ) → generations.is_key_area p serial ≡ true → (key : ℕ) × (key_area s key ≡ Some serial)
  shown_key once serial e =
      let found = holder s.keys serial (subst (λ (g : Generation). list_any (λ k. holds_area serial k.holding) g.keys ≡ true) shows e) in
      (found.p.key, ap (λ (o : Option Persistent). option_and_then (λ (x : Persistent). x.area) o) (held_at s.keys found.place found.p once found.at) ∙ found.area)

  -- what the generation uses the state uses
  pub shown_used : AreKeysOnce s.keys → (serial : ℕ) → generations.is_used p serial ≡ true → IsUsed s serial
  shown_used once serial e =
      elim (or_cases (generations.is_instance p serial) (generations.is_key_area p serial) e) as (λ _. IsUsed s serial) [
        | inl is ↦ (shown_instance serial is).used
        | inr held ↦ inr (inr (shown_key once serial held))
      ]

  pub shown_retired : (serial : ℕ) → generations.is_retired_area p serial ≡ is_retired s serial
  shown_retired serial = ap (λ (g : Generation). has_serial g.retired serial) shows
