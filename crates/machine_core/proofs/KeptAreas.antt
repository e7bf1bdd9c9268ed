-- That a generation has the image of each area of its state that is not released, and no other.
use Rattle.std.proofs.Common.{◌≡◌, ◌<◌, ◌≤◌, ◌∙◌, ◌==◌, ℕ, zero, suc, Bool, true, false, refl, sym, ap, arith, List, [], ◌∷◌, ◌++◌, Option, Some, None, IfSome, nat_lt, option_map, unwrap_or, if◌then◌else◌}
use Rattle.std.proofs.lemmas.Bool.Decides.{nat_tests}
use Rattle.std.specs.Option.{option_to_list}
use Rattle.term_core.specs.declared.atom.Mfa.{Mfa}
use Rattle.term_core.specs.declared.generation.AreaWords.{AreaWords}
use Rattle.term_core.specs.Image.{image_of}
use Rattle.term_core.specs.PlainTerm.{PlainTerm}
use Rattle.mod_core.specs.declared.code.Module.{Module}
use Rattle.mod_core.specs.Module.{IsModule}
use Rattle.server_core.specs.Generations.{generation_of, kept_area, kept_areas, kept_words}
use Rattle.server_core.specs.ServerState.{IsSound, IsTermArea, ServerState, code_of, first_words, instance_image, is_serial_in, term_of_area, words_of_area}
use Rattle.machine_core.specs.GenerationReads.{image_among, words_in}
use Rattle.machine_core.specs.View.{server_words}

found_first : (b : Bool) (words : List ℕ) (x y z : Option (List ℕ)) → x ≡ first_words y z → (if b then Some words else x) ≡ first_words (if b then Some words else y) z
found_first true words x y z e = refl
found_first false words x y z e = e

-- among more areas the first ones come first
among_more : (areas more : List AreaWords) (q : ℕ) → image_among (areas ++ more) q ≡ first_words (image_among areas q) (image_among more q)
among_more [] more q = refl
among_more (a ∷ areas) more q = found_first (a.serial == q) a.words (image_among (areas ++ more) q) (image_among areas q) (image_among more q) (among_more areas more q)

nothing_either : (b : Bool) → ◌≡◌ {A = Option (List ℕ)} None (if b then None else None)
nothing_either true = refl
nothing_either false = refl

-- one area, if it is kept
among_one : (n q : ℕ) (o : Option (List ℕ)) → image_among (option_to_list (option_map (λ words. record { serial = n; words = words }) o)) q ≡ (if n == q then o else None)
among_one n q None = nothing_either (n == q)
among_one n q (Some words) = refl

differs : (n q : ℕ) (o : Option (List ℕ)) → (n ≡ q → ⊥) → (if n == q then o else None) ≡ None
differs n q o h = grind (arith, nat_tests)

agrees : (n q : ℕ) (o : Option (List ℕ)) → n ≡ q → (if n == q then o else None) ≡ o
agrees n q o h = grind (arith, nat_tests)

nothing_behind : (o : Option (List ℕ)) → first_words o None ≡ o
nothing_behind None = refl
nothing_behind (Some words) = refl

no_words : (s : ServerState) (q : ℕ) (o : Option Module) (t : Option PlainTerm) → IfSome o (λ m. IsModule m × (q < s.next_serial)) → IfSome t (IsTermArea s q) → s.next_serial ≤ q →
    first_words (option_map (instance_image q) o) (option_map image_of t) ≡ None
no_words s q (Some m) t h k past = absurd (omega (arith, h.1, past))
no_words s q None (Some t) h k past = absurd (omega (arith, k.known, past))
no_words s q None None h k past = refl

module _ (s : ServerState) where
  above : (n q : ℕ) → n ≤ q → image_among (kept_areas s n) q ≡ None
  above zero q h = refl
  above (suc n) q h =
      among_more (kept_areas s n) (option_to_list (kept_area s n)) q
      ∙ ap (λ o. first_words o (image_among (option_to_list (kept_area s n)) q)) (above n q (omega arith))
      ∙ among_one n q (kept_words s n) ∙ differs n q (kept_words s n) (λ e. omega arith)

  one_more : (n q : ℕ) (b : Bool) → nat_lt q n ≡ b → q < suc n → (q < n → image_among (kept_areas s n) q ≡ kept_words s q) → image_among (kept_areas s (suc n)) q ≡ kept_words s q
  one_more n q true e h below =
      let less : q < n = grind (arith, nat_tests) in
      among_more (kept_areas s n) (option_to_list (kept_area s n)) q
      ∙ ap (λ o. first_words o (image_among (option_to_list (kept_area s n)) q)) (below less)
      ∙ ap (first_words (kept_words s q)) (among_one n q (kept_words s n) ∙ differs n q (kept_words s n) (λ e. omega arith))
      ∙ nothing_behind (kept_words s q)
  one_more n q false e h below =
      let past : n ≤ q = grind (arith, nat_tests) in
      let same : n ≡ q = omega arith in
      among_more (kept_areas s n) (option_to_list (kept_area s n)) q
      ∙ ap (λ o. first_words o (image_among (option_to_list (kept_area s n)) q)) (above n q past)
      ∙ among_one n q (kept_words s n) ∙ agrees n q (kept_words s n) same ∙ ap (kept_words s) same

  below : (n q : ℕ) → q < n → image_among (kept_areas s n) q ≡ kept_words s q
  below zero q h = absurd (omega arith)
  below (suc n) q h = one_more n q (nat_lt q n) refl h (below n q)

  released_or : (b : Bool) (o : Option (List ℕ)) → o ≡ None → (if b then None else o) ≡ None
  released_or true o e = refl
  released_or false o e = e

  by_serial : (q : ℕ) (b : Bool) → nat_lt q s.next_serial ≡ b → IsSound s → image_among (kept_areas s s.next_serial) q ≡ kept_words s q
  by_serial q true e sound = below s.next_serial q (grind (arith, nat_tests))
  by_serial q false e sound =
      let past : s.next_serial ≤ q = grind (arith, nat_tests) in
      above s.next_serial q past
      ∙ sym (released_or (is_serial_in s.released q) (words_of_area s q) (no_words s q (code_of s q) (term_of_area s q) (sound.modules q) (sound.terms q) past))

  -- the words that a generation has of an area
  pub words_kept : (names : List Mfa) (q : ℕ) → IsSound s → words_in (generation_of names s) q ≡ unwrap_or (kept_words s q) []
  words_kept names q sound = ap (λ o. unwrap_or o []) (by_serial q (nat_lt q s.next_serial) refl sound)

  -- which are those of the area, unless it is released
  pub words_agree : (names : List Mfa) (q : ℕ) → IsSound s → is_serial_in s.released q ≡ false → words_in (generation_of names s) q ≡ server_words s q
  words_agree names q sound kept = words_kept names q sound ∙ rw kept refl
