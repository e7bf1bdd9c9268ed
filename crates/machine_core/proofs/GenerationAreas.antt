-- Which areas a generation of a sound state has: the instances and the complex terms that are not released, each with its image.
use Rattle.std.proofs.Common.{◌≡◌, ◌<◌, ◌∙◌, ℕ, Bool, true, false, refl, sym, ap, subst, arith, List, [], slice_index, Option, Some, None, IfSome, option_map, unwrap_or, if◌then◌else◌}
use Rattle.term_core.specs.declared.atom.Mfa.{Mfa}
use Rattle.term_core.specs.Image.{image_of}
use Rattle.term_core.specs.PlainTerm.{PlainTerm}
use Rattle.mod_core.specs.declared.code.Module.{Module}
use Rattle.mod_core.specs.Module.{IsModule}
use Rattle.server_core.specs.Generations.{generation_of}
use Rattle.server_core.specs.ServerState.{IsDropped, IsSound, IsTermArea, ServerState, code_of, current_of, first_words, instance_image, is_serial_in, key_area, term_of_area}
use Rattle.machine_core.specs.GenerationReads.{function_count, shown_in, words_in}
use Rattle.machine_core.specs.View.{IsOfModule, shown_of}
use Rattle.machine_core.proofs.GenerationCode.{module_read}
use Rattle.machine_core.proofs.ImageKinds.{instance_functions, term_functions}
use Rattle.machine_core.proofs.KeptAreas.{words_kept}
use Rattle.machine_core.proofs.Viewing.{is_of_module, module_words}

-- what holds of what there is
pub some_of : {X : Type 0} (P : X → Type 0) (o : Option X) (x : X) → IfSome o P → o ≡ Some x → P x
some_of P o x h e = subst (λ o. IfSome o P) e h

module _ (names : List Mfa) (s : ServerState) (sound : IsSound s) where
  -- an area that may not be dropped is not released
  unreleased : (serial : ℕ) (b : Bool) → is_serial_in s.released serial ≡ b → (IsDropped s serial → ⊥) → b ≡ false
  unreleased serial false e h = refl
  unreleased serial true e h = absurd (h (sound.released serial e))

  -- current code is not released
  pub current_kept : (name serial : ℕ) → current_of s name ≡ Some serial → is_serial_in s.released serial ≡ false
  current_kept name serial e = unreleased serial (is_serial_in s.released serial) refl (λ d. d.not_current name e)

  -- nor is the area of a key
  pub key_kept : (key serial : ℕ) → key_area s key ≡ Some serial → is_serial_in s.released serial ≡ false
  key_kept key serial e = unreleased serial (is_serial_in s.released serial) refl (λ d. d.not_held key e)

  -- the words of an instance that is not released are its image
  pub instance_words : (serial : ℕ) (m : Module) → code_of s serial ≡ Some m → is_serial_in s.released serial ≡ false → words_in (generation_of names s) serial ≡ instance_image serial m
  instance_words serial m code kept = words_kept s names serial sound ∙ rw (kept, code) refl

  -- those of a complex term too
  pub term_words_in : (serial : ℕ) (t : PlainTerm) → term_of_area s serial ≡ Some t → is_serial_in s.released serial ≡ false → words_in (generation_of names s) serial ≡ image_of t
  term_words_in serial t area kept =
      let none = (some_of (IsTermArea s serial) (term_of_area s serial) t (sound.terms serial) area).no_code in
      words_kept s names serial sound ∙ rw (kept, none, area) refl

  -- what a generation says of an instance is what its module says
  pub of_module : (block : ℕ → ℕ) (serial : ℕ) (m : Module) → code_of s serial ≡ Some m → is_serial_in s.released serial ≡ false → IsOfModule (shown_in names block (generation_of names s)) serial m
  of_module block serial m code kept =
      let words = instance_words serial m code kept in
      let module_sound = (some_of (λ m. IsModule m × (serial < s.next_serial)) (code_of s serial) m (sound.modules serial) code).0 in
      module_read names block (generation_of names s) (shown_of s) serial m (is_of_module s serial m module_sound code) (words ∙ sym (module_words s serial m code))
      (ap function_count words ∙ instance_functions serial m) (ap (λ ws. slice_index ws 1) words)

  -- an area that has functions is an instance that is not released
  pub record IsKept (serial : ℕ) : Type 0 where
    pub m : Module
    pub code : code_of s serial ≡ Some m
    pub kept : is_serial_in s.released serial ≡ false

  kept_case : (serial : ℕ) (b : Bool) (o : Option Module) (t : Option PlainTerm) → is_serial_in s.released serial ≡ b → code_of s serial ≡ o → IfSome t (IsTermArea s serial) →
      0 < function_count (unwrap_or (if b then None else first_words (option_map (instance_image serial) o) (option_map image_of t)) []) → IsKept serial
  kept_case serial true o t released code h count = absurd (omega (arith, count))
  kept_case serial false (Some m) t released code h count = record { m = m; code = code; kept = released }
  kept_case serial false None (Some t) released code h count = absurd (omega (arith, count, term_functions t h.sound))
  kept_case serial false None None released code h count = absurd (omega (arith, count))

  pub kept_instance : (serial : ℕ) → 0 < function_count (words_in (generation_of names s) serial) → IsKept serial
  kept_instance serial count =
      kept_case serial (is_serial_in s.released serial) (code_of s serial) (term_of_area s serial) refl refl (sound.terms serial)
      (subst (λ words. 0 < function_count words) (words_kept s names serial sound) count)
