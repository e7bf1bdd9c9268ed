-- That a generation tells what each key holds, and that a term's area there has its image.
use Rattle.std.proofs.Common.{◌≡◌, ◌∙◌, ◌==◌, ℕ, Bool, true, false, refl, sym, ap, List, [], ◌∷◌, map, Option, Some, None, IfSome, option_and_then, option_map, if◌then◌else◌}
use Rattle.term_core.specs.declared.atom.Mfa.{Mfa}
use Rattle.term_core.specs.declared.generation.Holding.{Holding}
use Rattle.term_core.specs.Image.{image_of, immediate_word, term_at, term_of_word}
use Rattle.term_core.specs.Plain.{term_of}
use Rattle.term_core.specs.PlainTerm.{PlainTerm}
use Rattle.term_core.proofs.ImagePlaces.{first_word-immediate, stands_alone, term_at-is, term_of_word-first_word}
use Rattle.server_core.specs.Generations.{generation_of, holding_of, key_term}
use Rattle.server_core.specs.ServerState.{HasItsArea, IsPersistent, IsShortTerm, IsSound, IsTermArea, Persistent, ServerState, key_area, one_word, persistent_among, persistent_of, term_of_area}
use Rattle.machine_core.specs.GenerationReads.{found_held, held_value, holding_among, is_term_image, reads_in, shown_in, words_in}
use Rattle.machine_core.specs.Process.{literal, owned}
use Rattle.machine_core.specs.Reads.{found_of}
use Rattle.machine_core.specs.ServerReads.{key_value, persistent_value}
use Rattle.machine_core.specs.View.{IsKeyValue}
use Rattle.machine_core.proofs.GenerationAreas.{key_kept, some_of, term_words_in}
use Rattle.machine_core.proofs.ImageKinds.{term_image}

abbrev holding : Persistent → Holding
holding p = holding_of p.term p.area

found_here : (b : Bool) (p : Persistent) (x : Option Holding) (y : Option Persistent) → x ≡ option_map holding y → (if b then Some (holding p) else x) ≡ option_map holding (if b then Some p else y)
found_here true p x y e = refl
found_here false p x y e = e

-- what is kept of a key is what it holds
among_keys : (ps : List Persistent) (key : ℕ) → holding_among (map key_term ps) key ≡ option_map holding (persistent_among ps key)
among_keys [] key = refl
among_keys (p ∷ ps) key = found_here (p.key == key) p (holding_among (map key_term ps) key) (persistent_among ps key) (among_keys ps key)

module _ (names : List Mfa) (s : ServerState) (sound : IsSound s) where
  -- a key with a complex term has its area
  area_of_key : (key serial : ℕ) (o : Option Persistent) (p : Persistent) → persistent_of s key ≡ o → o ≡ Some p → p.area ≡ Some serial → key_area s key ≡ Some serial
  area_of_key key serial o p e f area = ap (option_and_then (λ p. p.area)) (e ∙ f) ∙ area

  -- the term whose image the area has
  term_there : (key serial : ℕ) (t : PlainTerm) → key_area s key ≡ Some serial → term_of_area s serial ≡ Some t → term_at (words_in (generation_of names s) serial) 0 ≡ t
  term_there key serial t held area =
      let is = some_of (IsTermArea s serial) (term_of_area s serial) t (sound.terms serial) area in
      ap (λ words. term_at words 0) (term_words_in names s sound serial t area (key_kept names s sound key serial held))
      ∙ term_at-is (image_of t) 0 t (stands_alone t is.sound.fits is.sound.short)

  value_is : (key : ℕ) (t : PlainTerm) (area : Option ℕ) → IsShortTerm t → HasItsArea s t area → ((serial : ℕ) → area ≡ Some serial → key_area s key ≡ Some serial) →
      held_value (generation_of names s) (holding_of t area) ≡ persistent_value t area
  value_is key t None short has held = ap owned (ap term_of_word (sym (first_word-immediate t has)) ∙ term_of_word-first_word t has short.fits)
  value_is key t (Some serial) short has held = ap (λ u. literal serial (term_of u)) (term_there key serial t (held serial refl) has)

  value_by : (key : ℕ) (o : Option Persistent) → persistent_of s key ≡ o → IfSome o (IsPersistent s) →
      option_map (held_value (generation_of names s)) (option_map holding o) ≡ option_map (λ p. persistent_value p.term p.area) o
  value_by key None e h = refl
  value_by key (Some p) e h = ap Some (value_is key p.term p.area h.sound h.area (λ serial area. area_of_key key serial (Some p) p e refl area))

  -- what a key holds
  pub key_is : (key : ℕ) → (reads_in names (generation_of names s)).key key ≡ key_value s key
  key_is key = ap (option_map (held_value (generation_of names s))) (among_keys s.keys key) ∙ value_by key (persistent_of s key) refl (sound.keys key)

  found_is : (key : ℕ) (t : PlainTerm) (area : Option ℕ) → IsShortTerm t → HasItsArea s t area →
      found_of (Some (held_value (generation_of names s) (holding_of t area))) ≡ found_held (Some (holding_of t area))
  found_is key t None short has =
      let word = ap term_of_word (sym (first_word-immediate t has)) ∙ term_of_word-first_word t has short.fits in
      ap (λ term. one_word (immediate_word term)) word
  found_is key t (Some serial) short has = refl

  found_by : (key : ℕ) (o : Option Persistent) → IfSome o (IsPersistent s) → found_of (option_map (held_value (generation_of names s)) (option_map holding o)) ≡ found_held (option_map holding o)
  found_by key None h = refl
  found_by key (Some p) h = found_is key p.term p.area h.sound h.area

  -- what a reader finds of it
  pub key_found-is : (key : ℕ) → found_of ((reads_in names (generation_of names s)).key key) ≡ found_held (holding_among (generation_of names s).keys key)
  key_found-is key =
      ap (λ o. found_of (option_map (held_value (generation_of names s)) o)) (among_keys s.keys key) ∙ found_by key (persistent_of s key) (sound.keys key)
      ∙ sym (ap found_held (among_keys s.keys key))

  value_holds : (block : ℕ → ℕ) (key : ℕ) (t : PlainTerm) (area : Option ℕ) → IsShortTerm t → HasItsArea s t area → ((serial : ℕ) → area ≡ Some serial → key_area s key ≡ Some serial) →
      IsKeyValue (shown_in names block (generation_of names s)) (Some (persistent_value t area))
  value_holds block key t None short has held = record { plain = t; is = refl; immediate = has; fits = short.fits }
  value_holds block key t (Some serial) short has held =
      let words = term_words_in names s sound serial t has (key_kept names s sound key serial (held serial refl)) in
      record { plain = t; is = refl; sound = short; area = ap is_term_image words ∙ term_image t short; image = words }

  holds_by : (block : ℕ → ℕ) (key : ℕ) (o : Option Persistent) → persistent_of s key ≡ o → IfSome o (IsPersistent s) → IsKeyValue (shown_in names block (generation_of names s)) (option_map (λ p. persistent_value p.term p.area) o)
  holds_by block key None e h = tt
  holds_by block key (Some p) e h = value_holds block key p.term p.area h.sound h.area (λ serial area. area_of_key key serial (Some p) p e refl area)

  -- it is a term of one word, or a term whose image its area has
  pub key_holds : (block : ℕ → ℕ) (key : ℕ) → IsKeyValue (shown_in names block (generation_of names s)) (key_value s key)
  key_holds block key = holds_by block key (persistent_of s key) refl (sound.keys key)
