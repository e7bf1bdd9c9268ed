-- That a generation says of each area that is not released what the state says, and so where literals stand.
use Rattle.std.proofs.Common.{◌≡◌, ◌⊎◌, ◌<◌, ◌+◌, ◌∙◌, ℕ, true, false, refl, sym, ap, subst, inl, inr, List, [], length, Option, Some, None, IfSome, is_some, option_map, unwrap_or}
use Rattle.term_core.specs.declared.atom.Mfa.{Mfa}
use Rattle.term_core.specs.Image.{IsImageAt, image_of}
use Rattle.term_core.specs.PlainTerm.{PlainTerm}
use Rattle.mod_core.specs.declared.code.Module.{Module}
use Rattle.server_core.specs.Generations.{generation_of}
use Rattle.server_core.specs.ServerState.{IsSound, IsTermArea, ServerState, code_of, first_words, instance_image, is_serial_in, term_of_area}
use Rattle.machine_core.specs.declared.process.LitRef.{LitRef}
use Rattle.machine_core.specs.GenerationLaws.{IsAreaOfState}
use Rattle.machine_core.specs.GenerationReads.{function_count, is_term_image, shown_in}
use Rattle.machine_core.specs.ServerReads.{functions_of}
use Rattle.machine_core.specs.View.{IsLiteral, IsNoEntry, IsReadable, Shown, server_words, shown_at}
use Rattle.machine_core.proofs.ImageKinds.{instance_functions, instance_no_term, term_functions, term_image}
use Rattle.machine_core.proofs.KeptAreas.{words_agree}

-- ---- areas

-- what words tell of the area that they are
record AreTold (s : ServerState) (serial : ℕ) (words : List ℕ) : Type 0 where
  functions : function_count words ≡ functions_of s serial
  is_term : is_term_image words ≡ is_some (term_of_area s serial)

told_by : (s : ServerState) (serial : ℕ) (o : Option Module) (t : Option PlainTerm) → code_of s serial ≡ o → term_of_area s serial ≡ t → IfSome t (IsTermArea s serial) →
    AreTold s serial (unwrap_or (first_words (option_map (instance_image serial) o) (option_map image_of t)) [])
told_by s serial (Some m) None code area h = record {
  functions = instance_functions serial m ∙ rw code refl;
  is_term = instance_no_term serial m ∙ rw area refl;
}
told_by s serial (Some m) (Some t) code area h = absurd (let none = h.no_code in cc)
told_by s serial None (Some t) code area h = record {
  functions = term_functions t h.sound ∙ rw code refl;
  is_term = term_image t h.sound ∙ rw area refl;
}
told_by s serial None None code area h = record { functions = rw code refl; is_term = rw area refl }

module _ (names : List Mfa) (s : ServerState) (sound : IsSound s) where
  -- the same of what a generation says
  pub area_agrees : (serial : ℕ) → is_serial_in s.released serial ≡ false → IsAreaOfState names s serial
  area_agrees serial kept =
      let words = words_agree s names serial sound kept in
      let told : AreTold s serial (server_words s serial) = told_by s serial (code_of s serial) (term_of_area s serial) refl refl (sound.terms serial) in
      record { words = words; functions = ap function_count words ∙ told.functions; is_term = ap is_term_image words ∙ told.is_term }

-- ---- literals

-- two views show the same of an area
record ShowSame (a b : Shown) (serial : ℕ) : Type 0 where
  words : b.words serial ≡ a.words serial
  functions : b.reads.functions serial ≡ a.reads.functions serial
  is_term : b.reads.is_term serial ≡ a.reads.is_term serial
  block : b.block serial ≡ a.block serial

module _ (a b : Shown) where
  no_entry : (serial at : ℕ) → ShowSame a b serial → (a.reads.is_term serial ≡ true) ⊎ IsNoEntry a.reads serial at → (b.reads.is_term serial ≡ true) ⊎ IsNoEntry b.reads serial at
  no_entry serial at same (inl h) = inl (same.is_term ∙ h)
  no_entry serial at same (inr h) = inr (λ i below. h i (subst (λ n. i < n) same.functions below))

  readable : (serial at : ℕ) → ShowSame a b serial → IsReadable a serial at → IsReadable b serial at
  readable serial at same h = record { within = subst (λ words. at < length words) (sym same.words) h.within; no_entry = no_entry serial at same h.no_entry }

  literal : (at : LitRef) → ShowSame a b at.area.serial → IsLiteral a at → IsLiteral b at
  literal at same l = record {
    stands = l.stands ∙ sym same.block;
    term = l.term;
    image = subst (λ words. IsImageAt words at.at l.term) (sym same.words) l.image;
    readable = λ i h. readable at.area.serial (at.at + i) same (l.readable i h);
  }

module _ (names : List Mfa) (s : ServerState) (sound : IsSound s) where
  -- a literal by the one is one by the other
  pub literal_of_state : (block : ℕ → ℕ) (at : LitRef) → is_serial_in s.released at.area.serial ≡ false → IsLiteral (shown_in names block (generation_of names s)) at → IsLiteral (shown_at block s) at
  literal_of_state block at kept l =
      let area = area_agrees names s sound at.area.serial kept in
      literal (shown_in names block (generation_of names s)) (shown_at block s) at (record { words = sym area.words; functions = sym area.functions; is_term = sym area.is_term; block = refl }) l

  pub literal_of_generation : (block : ℕ → ℕ) (at : LitRef) → is_serial_in s.released at.area.serial ≡ false → IsLiteral (shown_at block s) at → IsLiteral (shown_in names block (generation_of names s)) at
  literal_of_generation block at kept l =
      let area = area_agrees names s sound at.area.serial kept in
      literal (shown_at block s) (shown_in names block (generation_of names s)) at (record { words = area.words; functions = area.functions; is_term = area.is_term; block = refl }) l
