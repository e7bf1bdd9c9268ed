-- That what is held where a turn pauses is just what its frames name.
use Rattle.std.proofs.Common.{◌≡◌, ◌∙◌, ℕ, sym, ap, IsTrue, List, [], ◌∷◌, ◌++◌}
use Rattle.term_core.specs.declared.hold.Kind.TheVariants.{Frame as for_frames, Literal as for_literals}
use Rattle.machine_core.specs.declared.process.Frame.{Frame}
use Rattle.machine_core.specs.declared.process.Line.{Line}
use Rattle.machine_core.specs.declared.process.TurnEnd.TheVariants.{Again}
use Rattle.machine_core.specs.HoldKinds.{held_for, holding}
use Rattle.machine_core.specs.Holds.{Holds, is_among}
use Rattle.machine_core.specs.Process.{Words, code_names, frame_names, frame_of, frames_of}
use Rattle.machine_core.specs.Stand.{AreHeld}
use Rattle.machine_core.specs.Turn.{paused}
use Rattle.machine_core.proofs.CodeNames.{code_names-shown, frames_of-push}
use Rattle.machine_core.proofs.NamedAreas.{frames_held, literals_held}

module _ (words : Words) (top : Frame) (below frames : List Frame) (pushed : frames ≡ below ++ top ∷ []) where
  -- the frames with the topmost on the others
  shown_frames : frames_of words frames ≡ frame_of words top ∷ frames_of words below
  shown_frames = ap (frames_of words) pushed ∙ frames_of-push words below top

  -- what they name
  shown_names : code_names frames ≡ frame_names (frame_of words top ∷ frames_of words below)
  shown_names = code_names-shown words frames ∙ ap frame_names shown_frames

  -- the instances of the frames are held for them
  pub instances_held : (held : Holds) (serial : ℕ) → AreHeld held (frame_of words top ∷ frames_of words below) → IsTrue (is_among (held_for (code_names frames) for_frames) serial) → IsTrue (is_among (held_for held for_frames) serial)
  instances_held held serial h e =
      frames_held held (frame_of words top ∷ frames_of words below) serial h (sym (ap (λ (x : Holds). is_among x.frames serial) shown_names) ∙ e)

  -- and stay so while areas of literals are dropped
  pub quoted_held : (held now : Holds) (ns : List ℕ) (serial : ℕ) → AreHeld held (frame_of words top ∷ frames_of words below) → now ≡ holding held for_frames ns →
      IsTrue (is_among (held_for (code_names frames) for_literals) serial) → IsTrue (is_among (held_for now for_literals) serial)
  quoted_held held now ns serial h n e =
      ap (λ (x : Holds). is_among x.literals serial) n
      ∙ literals_held held (frame_of words top ∷ frames_of words below) serial h (sym (ap (λ (x : Holds). is_among x.literals serial) shown_names) ∙ e)

  -- so both kinds are held just for what they name
  pub paused_at : (held between now : Holds) (made : List Line) → between ≡ holding held for_frames (held_for (code_names frames) for_frames) → now ≡ holding between for_literals (held_for (code_names frames) for_literals) →
      paused (frame_of words top ∷ frames_of words below) made ≡ record { frames = frames_of words frames; held = now; made = made; end = Again }
  paused_at held between now made b n =
      let named : frame_names (frame_of words top ∷ frames_of words below) ≡ now = sym (n ∙ ap (λ (x : Holds). holding x for_literals (held_for (code_names frames) for_literals)) b ∙ shown_names) in
      ap (λ fs. record { frames = fs; held = frame_names (frame_of words top ∷ frames_of words below); made = made; end = Again }) (sym shown_frames)
      ∙ ap (λ (x : Holds). record { frames = frames_of words frames; held = x; made = made; end = Again }) named
