-- The topmost frame that stands in doomed code, as frames are gone through from the lowest up.
use Rattle.std.proofs.Common.{◌≡◌, ◌<◌, ◌∙◌, ◌==◌, ℕ, zero, suc, ap, arith, true, IsTrue, List, [], ◌∷◌, length, get_or}
use Rattle.std.specs.List.{list_any}
use Rattle.std.proofs.lemmas.Bool.{or_left, or_right}
use Rattle.machine_core.specs.declared.process.Frame.{Frame}
use Rattle.machine_core.specs.Holds.{Holds, is_area_held, is_among}
use Rattle.machine_core.specs.Process.{Words, frames_of}
use Rattle.machine_core.specs.Stand.{AreHeld}
use Rattle.machine_core.proofs.CodeNames.{among-frames}
use Rattle.machine_core.proofs.NamedAreas.{frames_held, instance_serials}
use Rattle.machine_core.proofs.SerialLists.{among-serials_of, same_first}

any_at : (fs : List Frame) (n : ℕ) (d : Frame) → n < length fs → list_any (λ f. f.code.area.serial == (get_or fs n d).code.area.serial) fs ≡ true
any_at [] n d h = absurd (omega arith)
any_at (f ∷ fs) zero d h = same_first f.code.area.serial (list_any (λ g. g.code.area.serial == f.code.area.serial) fs)
any_at (f ∷ fs) (suc n) d h = or_right _ (list_any (λ g. g.code.area.serial == (get_or fs n d).code.area.serial) fs) (any_at fs n d (omega arith))

module _ (words : Words) where
  -- the area of a frame is held
  pub named_frame : (held : Holds) (fs : List Frame) (n : ℕ) (f : Frame) → n < length fs → f ≡ get_or fs n f → AreHeld held (frames_of words fs) → IsTrue (is_area_held held f.code.area.serial)
  named_frame held fs n f below is h =
      let any : list_any (λ g. g.code.area.serial == f.code.area.serial) fs ≡ true = ap (λ (e : Frame). list_any (λ g. g.code.area.serial == e.code.area.serial) fs) is ∙ any_at fs n f below in
      or_left (is_among held.frames f.code.area.serial) (is_among held.literals f.code.area.serial)
      (frames_held held (frames_of words fs) f.code.area.serial h (among-serials_of (instance_serials (frames_of words fs)) f.code.area.serial ∙ among-frames words fs f.code.area.serial ∙ any))
