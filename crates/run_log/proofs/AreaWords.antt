-- Areas and their words stay over each command: serials are never used again.
use Rattle.std.proofs.Common.{◌≡◌, ℕ, ◌<◌, ◌≤◌, ◌⊎◌, inl, inr, List, Option, Some, None, IfSome, option_map, refl, sym, ap, ◌∙◌, arith}
use Rattle.std.proofs.lemmas.Bool.{cases_lt}
use Rattle.std.proofs.lemmas.Option.{none-some}
use Rattle.term_core.specs.Image.{image_of}
use Rattle.term_core.specs.PlainTerm.{PlainTerm}
use Rattle.mod_core.specs.declared.code.Module.{Module}
use Rattle.mod_core.specs.Module.{IsModule}
use Rattle.server_core.specs.declared.command.Cmd.{Cmd}
use Rattle.server_core.specs.ServerState.{ServerState, IsSound, IsTermArea, code_of, first_words, instance_image, term_of_area, words_of_area}
use Rattle.machine_core.specs.LaterStates.{HasAreas, HasTerms, HasWords}
use Rattle.run_log.specs.Journal.{next_state}
use Rattle.run_log.proofs.Steps.{Grows, next_grows, next_is, next_stays}

-- no area has a serial that is still to be given
pub record AreasBelow (s : ServerState) : Type 0 where
  pub codes : (serial : ℕ) → s.next_serial ≤ serial → code_of s serial ≡ None
  pub terms : (serial : ℕ) → s.next_serial ≤ serial → term_of_area s serial ≡ None

above_none : {A : Type 0} (n serial : ℕ) (o : Option A) → IfSome o (λ _. serial < n) → n ≤ serial → o ≡ None
above_none n serial None h k = refl
above_none n serial (Some a) h k = absurd (omega (arith, h, k))

code_known : (s : ServerState) (serial : ℕ) (o : Option Module) → IfSome o (λ m. IsModule m × (serial < s.next_serial)) → IfSome o (λ _. serial < s.next_serial)
code_known s serial None h = tt
code_known s serial (Some m) h = h.1

term_known : (s : ServerState) (serial : ℕ) (o : Option PlainTerm) → IfSome o (IsTermArea s serial) → IfSome o (λ _. serial < s.next_serial)
term_known s serial None h = tt
term_known s serial (Some t) h = h.known

-- so it is in every sound state
pub sound_below : (s : ServerState) → IsSound s → AreasBelow s
sound_below s sound = record {
  codes = λ serial k. above_none s.next_serial serial (code_of s serial) (code_known s serial (code_of s serial) (sound.modules serial)) k;
  terms = λ serial k. above_none s.next_serial serial (term_of_area s serial) (term_known s serial (term_of_area s serial) (sound.terms serial)) k;
}

no_words : {A : Type 0} (s : ServerState) (serial : ℕ) (words : List ℕ) → code_of s serial ≡ None → term_of_area s serial ≡ None → words_of_area s serial ≡ Some words → A
no_words s serial words c t h = absurd (none-some words (sym (ap (λ o. first_words (option_map (instance_image serial) o) (option_map image_of (term_of_area s serial))) c ∙ ap (λ o. first_words None (option_map image_of o)) t) ∙ h))

no_term : {A : Type 0} (s : ServerState) (serial : ℕ) (term : PlainTerm) → term_of_area s serial ≡ None → term_of_area s serial ≡ Some term → A
no_term s serial term none h = absurd (none-some term (sym none ∙ h))

grown_terms : (s t : ServerState) → Grows s t → AreasBelow s → HasTerms s t
grown_terms s t g below serial term h = by (cases_lt serial s.next_serial)
  where
    by : (serial < s.next_serial) ⊎ (s.next_serial ≤ serial) → term_of_area t serial ≡ Some term
    by (inl known) = g.terms serial (inl known) ∙ h
    by (inr new) = no_term s serial term (below.terms serial new) h

grown_words : (s t : ServerState) → Grows s t → AreasBelow s → HasWords s t
grown_words s t g below serial words h = by (cases_lt serial s.next_serial)
  where
    by : (serial < s.next_serial) ⊎ (s.next_serial ≤ serial) → words_of_area t serial ≡ Some words
    by (inl known) =
        ap (λ o. first_words (option_map (instance_image serial) o) (option_map image_of (term_of_area t serial))) (g.codes serial (inl known))
        ∙ ap (λ o. first_words (option_map (instance_image serial) (code_of s serial)) (option_map image_of o)) (g.terms serial (inl known))
        ∙ h
    by (inr new) = no_words s serial words (below.codes serial new) (below.terms serial new) h

-- a command keeps each area and its words
pub areas_stay : (texts : List Module) (s : ServerState) (cmd : Cmd) → AreasBelow s → HasAreas s (next_state texts s cmd)
areas_stay texts s cmd below =
    let t = next_state texts s cmd in
    let grown = next_grows s t cmd (next_is texts s cmd) in
    record { instances = next_stays s t cmd (next_is texts s cmd); terms = grown_terms s t grown below; words = grown_words s t grown below }
