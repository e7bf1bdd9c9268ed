-- What the retire and doom words of an area that a slot names tell of it.
use Rattle.std.proofs.Common.{◌≡◌, ℕ, ◌<◌, false, refl, sym, ap, ◌∙◌}
use Rattle.term_core.specs.declared.area.AreaRef.{AreaRef}
use Rattle.area_core.specs.Generations.{is_doomed_area, is_retired_area, tells}
use Rattle.area_core.specs.Map.{doom_place, retire_place}
use Rattle.shared_words.specs.declared.view.MemberView.{MemberView}
use Rattle.shared_words.specs.Processes.{held_by_view}
use Rattle.word_view.specs.Loaded.{IsFound, IsNamedAt}
use Rattle.word_view.proofs.KeptHere.{IsKeptHere, area_there, kept_named}

module _ (m : MemberView) (a : AreaRef) (n : IsNamedAt m a) where
  kept : (word found : ℕ) (f : IsFound m word found) → IsKeptHere f.blocks.kept a n.words
  kept word found f = kept_named (held_by_view m) f.blocks.kept a n.words n.stands.image (f.named m refl a n.named n.stands.listed)

  pub retire_told : (word found g : ℕ) → word ≡ retire_place a.block → g ≡ m.member.generation → IsFound m word found → tells found g ≡ is_retired_area (held_by_view m) a.serial
  retire_told word found g is now f =
      (λ i. tells ((sym f.here ∙ ap f.blocks.word is) i) (now i)) ∙ (area_there m word found f a n.words (kept word found f)).retired

  pub doom_told : (word found g : ℕ) → word ≡ doom_place a.block → g ≡ m.member.generation → IsFound m word found → a.block < 64 → is_retired_area (held_by_view m) a.serial ≡ false → tells found g ≡ is_doomed_area (held_by_view m) a.serial
  doom_told word found g is now f big there =
      (λ i. tells ((sym f.here ∙ ap f.blocks.word is) i) (now i)) ∙ (area_there m word found f a n.words (kept word found f)).doomed big there
