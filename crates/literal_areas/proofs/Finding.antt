-- The area of a serial is looked for block by block.
use Rattle.std.proofs.Common.{◌≡◌, ℕ, ◌<◌, sym, ap, ◌∙◌}
use Rattle.std.specs.Prelude.{Some}
use Rattle.std.specs.Option.{option_and_then}
use Rattle.std.proofs.lemmas.Option.{none-some}
use Rattle.literal_areas.specs.declared.areas.Areas.{Areas}
use Rattle.literal_areas.specs.Blocks.{serial_at, serial_of}
use Rattle.literal_areas.proofs.Uses.{use_none}

-- no block below this one has the area
pub record NoneBelow (s : Areas) (serial block : ℕ) : Type 0 where
  pub none : (b : ℕ) → b < block → serial_at s b ≡ Some serial → ⊥

-- those in front of the areas have none
pub none_first : (s : Areas) (serial : ℕ) → NoneBelow s serial 9
none_first s serial = record { none = λ b few e. none-some serial (sym (ap (option_and_then serial_of) (use_none s b few)) ∙ e) }
