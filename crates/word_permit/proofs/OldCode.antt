-- Old code of the server is gone for frames in the newest generation: no turn under it or a later one comes to the instance.
use Rattle.std.proofs.Common.{◌≡◌, ℕ, zero, suc, ◌<◌, ◌==◌, ◌||◌, Bool, true, false, List, [], ◌∷◌, Some, IfSome, unwrap_or, option_map, inl, inr, if◌then◌else◌, refl, sym, ap, subst, ◌∙◌, arith}
use Rattle.std.specs.Prelude.{IsTrue}
use Rattle.std.specs.List.{list_any}
use Rattle.std.proofs.lemmas.Bool.{cases_lt}
use Rattle.std.proofs.lemmas.Bool.{eq-eqb}
use Rattle.std.proofs.lemmas.List.Folds.{list_any-append}
use Rattle.std.proofs.lemmas.Option.{none-some}
use Rattle.term_core.specs.declared.atom.Mfa.{Mfa}
use Rattle.term_core.specs.declared.generation.Generation.{Generation}
use Rattle.mod_core.specs.declared.code.Module.{Module}
use Rattle.mod_core.specs.Module.{IsModule}
use Rattle.area_core.specs.declared.table.Published.{Published}
use Rattle.area_core.specs.Generations.{has_serial, is_retired_area}
use Rattle.marks.specs.declared.kept.LookKind.TheVariants.{Frame}
use Rattle.shared_words.specs.Rule.{is_gone}
use Rattle.server_core.specs.Generations.{generation_of, is_old_code, is_serial, serials_below}
use Rattle.server_core.specs.ServerState.{IsInstanceOf, IsSound, ServerState, code_of, empty_state, old_of}
use Rattle.run_log.proofs.SpanRuns.{some_and}
use Rattle.staging.specs.Standing.{IsShownBy}

or_right : (a b : Bool) → b ≡ true → (a || b) ≡ true
or_right true b h = refl
or_right false b h = h

or_left : (a b : Bool) → a ≡ true → (a || b) ≡ true
or_left a b h = ap (λ x. x || b) h

-- a serial that passes is among those that do
below_has : (test : ℕ → Bool) (n q : ℕ) → q < n → test q ≡ true → has_serial (serials_below test n) q ≡ true
below_has test zero q low is = absurd (omega (arith, low))
below_has test (suc n) q low is =
    list_any-append (λ (x : ℕ). x == q) (serials_below test n) (if test n then n ∷ [] else [])
    ∙ elim (cases_lt q n) as (λ _. (list_any (λ (x : ℕ). x == q) (serials_below test n) || list_any (λ (x : ℕ). x == q) (if test n then n ∷ [] else [])) ≡ true) [
      | inl less ↦ or_left _ _ (below_has test n q less is)
      | inr more ↦
          let same : n ≡ q = omega (arith, low, more) in
          or_right _ _ (ap (λ (b : Bool). list_any (λ (x : ℕ). x == q) (if b then n ∷ [] else [])) (ap test same ∙ is) ∙ or_left (n == q) false (eq-eqb n q same))
    ]

module _ (s : ServerState) (sound : IsSound s) (name serial : ℕ) (old : old_of s name ≡ Some serial) where
  instance : IsInstanceOf s name serial
  instance = subst (λ o. IfSome o (IsInstanceOf s name)) old (sound.old name)

  low_serial : serial < s.next_serial
  low_serial =
      let code = some_and (code_of s serial) (λ (m : Module). m.name.0 ≡ name) instance in
      let module_is = subst (λ o. IfSome o (λ (m : Module). IsModule m × (serial < s.next_serial))) code.1.0 (sound.modules serial) in
      module_is.1

  is_old : is_old_code s serial ≡ true
  is_old =
      let code = some_and (code_of s serial) (λ (m : Module). m.name.0 ≡ name) instance in
      ap (λ o. unwrap_or (option_map (λ (m : Module). is_serial (old_of s m.name.0) serial) o) false) code.1.0
      ∙ ap (λ o. is_serial o serial) (ap (old_of s) code.1.1 ∙ old)
      ∙ eq-eqb serial serial refl

  has_old : (names : List Mfa) → has_serial (generation_of names s).old serial ≡ true
  has_old names = below_has (is_old_code s) s.next_serial serial low_serial is_old

no_old_first : (name serial : ℕ) → old_of empty_state name ≡ Some serial → ⊥
no_old_first name serial h = none-some serial h

-- so a look for frames in it may begin once the newest generation is passed
pub old_gone : (names : List Mfa) (s : ServerState) (p : Published) (name serial : ℕ) → IsShownBy names s p → old_of s name ≡ Some serial → IsTrue (is_gone p Frame serial)
old_gone names s p name serial shown old =
    let since = shown.since in
    let before : old_of shown.stood name ≡ Some serial = sym (ap (λ (x : ServerState). old_of x name) since.same) ∙ old in
    elim shown.shows as (λ _. IsTrue (is_gone p Frame serial)) [
      | inl state ↦ or_right (is_retired_area p serial) (has_serial p.state.old serial) (ap (λ (g : Generation). has_serial g.old serial) state ∙ has_old shown.stood shown.sound name serial before names)
      | inr first ↦ absurd (no_old_first name serial (ap (λ (x : ServerState). old_of x name) (sym first.1) ∙ before))
    ]
