-- That what the code's frames name is what the frames name that they stand for.
use Rattle.std.proofs.Common.{◌≡◌, ◌∙◌, ℕ, refl, sym, ap, false, ◌||◌, ◌==◌, List, [], ◌∷◌, ◌++◌, map}
use Rattle.std.proofs.lemmas.List.{append-nil, map-append, reverse-append}
use Rattle.std.proofs.lemmas.List.Folds.{list_any-append}
use Rattle.std.proofs.lemmas.Grind.{flat_map-append}
use Rattle.std.specs.List.{flat_map, list_any}
use Rattle.std.proofs.Math.Bool.{or-false}
use Rattle.machine_core.specs.declared.process.Frame.{Frame}
use Rattle.machine_core.specs.declared.areas.HeldAreas.{HeldAreas}
use Rattle.machine_core.specs.declared.process.Process.{Process}
use Rattle.machine_core.specs.declared.process.Value.{Value}
use Rattle.machine_core.specs.declared.process.Value.TheVariants.{Owned, Literal}
use Rattle.machine_core.specs.Holds.{is_among}
use Rattle.machine_core.specs.Process.{Words, area_holds, code_names, frame_names, frame_of, frames_of, literal_serials, names_of, process_of, register_serials, value_areas, values_shown}
use Rattle.machine_core.proofs.AreaLists.{same_holds, swapped}
use Rattle.machine_core.proofs.SerialLists.{serials_of-same}

-- what is among the serials that elements have
pub among-flat_map : {X : Type 0} (g : X → List ℕ) (xs : List X) (q : ℕ) → is_among (flat_map g xs) q ≡ list_any (λ x. is_among (g x) q) xs
among-flat_map g [] q = refl
among-flat_map g (x ∷ xs) q = list_any-append (λ n. n == q) (g x) (flat_map g xs) ∙ ap (λ b. is_among (g x) q || b) (among-flat_map g xs q)

-- the areas of the code's literals are those of the literals that they stand for
pub areas_shown : (words : Words) (values : List Value) → register_serials (values_shown words values) ≡ value_areas values
areas_shown words [] = refl
areas_shown words (Owned term ∷ values) = areas_shown words values
areas_shown words (Literal at ∷ values) = ap (λ ns. at.area.serial ∷ ns) (areas_shown words values)

-- the frame that was put back is the topmost
pub frames_of-push : (words : Words) (frames : List Frame) (top : Frame) → frames_of words (frames ++ top ∷ []) ≡ frame_of words top ∷ frames_of words frames
frames_of-push words frames top = rw (map-append (frame_of words) frames (top ∷ []), reverse-append (map (frame_of words) frames) (frame_of words top ∷ []))

-- and the first is the lowest
pub frames_of-cons : (words : Words) (f : Frame) (fs : List Frame) → frames_of words (f ∷ fs) ≡ frames_of words fs ++ frame_of words f ∷ []
frames_of-cons words f fs = reverse-append (frame_of words f ∷ []) (map (frame_of words) fs)

-- what the code's frames name
pub among-frames : (words : Words) (fs : List Frame) (q : ℕ) → is_among (map (λ f. f.serial) (frames_of words fs)) q ≡ list_any (λ f. f.code.area.serial == q) fs
among-frames words [] q = refl
among-frames words (f ∷ fs) q =
    ap (λ xs. is_among (map (λ f. f.serial) xs) q) (frames_of-cons words f fs)
    ∙ ap (λ ns. is_among ns q) (map-append (λ f. f.serial) (frames_of words fs) (frame_of words f ∷ []))
    ∙ list_any-append (λ n. n == q) (map (λ f. f.serial) (frames_of words fs)) (f.code.area.serial ∷ [])
    ∙ ap (λ b. b || (f.code.area.serial == q || false)) (among-frames words fs q)
    ∙ swapped (list_any (λ f. f.code.area.serial == q) fs) (f.code.area.serial == q)

pub among_serials : (fs : List Frame) (q : ℕ) → is_among (map (λ f. f.code.area.serial) fs) q ≡ list_any (λ f. f.code.area.serial == q) fs
among_serials [] q = refl
among_serials (f ∷ fs) q = ap (λ b. f.code.area.serial == q || b) (among_serials fs q)

-- and the areas of their literals
pub among-literals : (words : Words) (fs : List Frame) (q : ℕ) → is_among (literal_serials (frames_of words fs)) q ≡ list_any (λ f. is_among (value_areas f.registers) q) fs
among-literals words [] q = refl
among-literals words (f ∷ fs) q =
    ap (λ xs. is_among (literal_serials xs) q) (frames_of-cons words f fs)
    ∙ ap (λ ns. is_among ns q) (flat_map-append (λ g. register_serials g.registers) (frames_of words fs) (frame_of words f ∷ []))
    ∙ list_any-append (λ n. n == q) (literal_serials (frames_of words fs)) (register_serials (values_shown words f.registers) ++ [])
    ∙ ap (λ b. b || is_among (register_serials (values_shown words f.registers) ++ []) q) (among-literals words fs q)
    ∙ ap (λ ns. list_any (λ g. is_among (value_areas g.registers) q) fs || is_among ns q) (append-nil (register_serials (values_shown words f.registers)) ∙ areas_shown words f.registers)
    ∙ ap (λ b. list_any (λ g. is_among (value_areas g.registers) q) fs || b) (sym (or-false (is_among (value_areas f.registers) q)))
    ∙ swapped (list_any (λ g. is_among (value_areas g.registers) q) fs) (is_among (value_areas f.registers) q)

-- whatever the words of the areas are
pub code_names-shown : (words : Words) (fs : List Frame) → code_names fs ≡ frame_names (frames_of words fs)
code_names-shown words fs =
    same_holds (code_names fs) (frame_names (frames_of words fs))
    (serials_of-same (map (λ f. f.code.area.serial) fs) (map (λ f. f.serial) (frames_of words fs)) (λ q. among_serials fs q ∙ sym (among-frames words fs q)))
    (serials_of-same (flat_map (λ f. value_areas f.registers) fs) (literal_serials (frames_of words fs)) (λ q. among-flat_map (λ (f : Frame). value_areas f.registers) fs q ∙ sym (among-literals words fs q)))

-- so the areas of a process's frames are what it names
pub process_named : (words : Words) (p : Process) (areas : HeldAreas) (fs : List Frame) → area_holds areas ≡ code_names fs → fs ≡ p.frames → area_holds areas ≡ names_of (process_of words p)
process_named words p areas fs h e = h ∙ ap code_names e ∙ code_names-shown words p.frames
