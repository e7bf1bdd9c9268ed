-- What copying the literals of retired areas leaves: frames stand where they stood, and name no retired area for literals.
use Rattle.std.proofs.Common.{◌≡◌, ℕ, refl, Bool, true, false, All, List, [], ◌∷◌, map, if◌then◌else◌}
use Rattle.std.proofs.lemmas.List.Elements.{All-map}
use Rattle.term_core.specs.declared.term.Term.{Term}
use Rattle.machine_core.specs.Process.{PlainFrame, PlainValue, literal, owned}
use Rattle.machine_core.specs.Turn.{ArePlaced, copied, copied_value}
use Rattle.machine_core.proofs.NamedAreas.{AreWithin, HasArea}
use Rattle.machine_core.proofs.Placing.{placed_with}
use Rattle.machine_core.specs.Reads.{Reads}

module _ (s : Reads) where
  -- copied frames stand where the frames stood
  pub copied_placed : (frames : List PlainFrame) → ArePlaced s frames → ArePlaced s (copied s frames)
  copied_placed [] ps = tt
  copied_placed (f ∷ below) ps = (placed_with s f (map (copied_value s) f.registers) ps.0, copied_placed below ps.1)

  -- an area that is not retired
  abbrev pub IsKeptArea : (ℕ → Type 0) → ℕ → Type 0
  IsKeptArea Area serial = Area serial × (s.retired serial ≡ false)

  literal_case : (Area : ℕ → Type 0) (serial : ℕ) (term : Term) (b : Bool) → s.retired serial ≡ b → Area serial → HasArea (IsKeptArea Area) (if b then owned term else literal serial term)
  literal_case Area serial term true e h = tt
  literal_case Area serial term false e h = (h, e)

  value_copied : (Area : ℕ → Type 0) (value : PlainValue) → HasArea Area value → HasArea (IsKeptArea Area) (copied_value s value)
  value_copied Area (owned term) h = tt
  value_copied Area (literal serial term) h = literal_case Area serial term (s.retired serial) refl h

  registers_copied : (Area : ℕ → Type 0) (registers : List PlainValue) → All (HasArea Area) registers → All (HasArea (IsKeptArea Area)) (map (copied_value s) registers)
  registers_copied Area registers h = All-map (HasArea (IsKeptArea Area)) (copied_value s) registers (λ k d l. value_copied Area _ (h k d l))

  -- the areas of their literals are those of the frames' that are not retired
  pub copied_within : (Instance Area : ℕ → Type 0) (frames : List PlainFrame) → AreWithin Instance Area frames → AreWithin Instance (IsKeptArea Area) (copied s frames)
  copied_within Instance Area [] h = tt
  copied_within Instance Area (f ∷ below) h = (h.0, registers_copied Area f.registers h.1, copied_within Instance Area below h.2)
