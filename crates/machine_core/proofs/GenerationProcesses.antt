-- That a process of the code which names no released area is by a generation the process that it is by the state.
use Rattle.std.proofs.Common.{◌≡◌, ◌∙◌, ℕ, false, refl, sym, ap, subst, All, List, [], ◌∷◌, ◌++◌, get_or, map, reverse}
use Rattle.std.proofs.lemmas.List.Elements.{All-head, All-tail}
use Rattle.term_core.specs.declared.area.AreaRef.{AreaRef}
use Rattle.term_core.specs.declared.atom.Mfa.{Mfa}
use Rattle.term_core.specs.Image.{term_at}
use Rattle.term_core.specs.Plain.{term_of}
use Rattle.server_core.specs.Generations.{AreNumbered, generation_of}
use Rattle.server_core.specs.ServerState.{IsSound, ServerState, is_serial_in}
use Rattle.machine_core.specs.declared.process.Frame.{Frame}
use Rattle.machine_core.specs.declared.process.LitRef.{LitRef}
use Rattle.machine_core.specs.declared.process.Process.{Process}
use Rattle.machine_core.specs.declared.process.Value.{Value}
use Rattle.machine_core.specs.declared.process.Value.TheVariants.{Owned, Literal}
use Rattle.machine_core.specs.GenerationLaws.{AreInKept, HasKept, IsKeptValue, IsProcessOfState, NamesKept}
use Rattle.machine_core.specs.GenerationReads.{reads_in, shown_in, words_in}
use Rattle.machine_core.specs.Holds.{Holds}
use Rattle.machine_core.specs.Process.{HasNotEnded, PlainFrame, Words, frame_of, frames_of, literal, names_of, process_of, value_shown, values_shown}
use Rattle.machine_core.specs.ServerReads.{reads_of}
use Rattle.machine_core.specs.Turn.{ArePlaced, MayTurn}
use Rattle.machine_core.specs.View.{AreValues, HasValues, IsInBlock, IsLiteral, IsValue, Shown, server_words, shown_at}
use Rattle.machine_core.proofs.CodeNames.{frames_of-cons}
use Rattle.machine_core.proofs.GenerationLiterals.{area_agrees, literal_of_generation, literal_of_state}
use Rattle.machine_core.proofs.GenerationTurns.{places_agree}

-- ---- the instances of frames

module _ (s : ServerState) where
  kept_more : (frames : List PlainFrame) (f : PlainFrame) → AreInKept s frames → is_serial_in s.released f.serial ≡ false → AreInKept s (frames ++ f ∷ [])
  kept_more [] f h kept = (kept, tt)
  kept_more (g ∷ below) f h kept = (h.0, kept_more below f h.1 kept)

  instances_kept : (words : Words) (fs : List Frame) → All (HasKept s) fs → AreInKept s (frames_of words fs)
  instances_kept words [] h = tt
  instances_kept words (f ∷ fs) h =
      subst (AreInKept s) (sym (frames_of-cons words f fs))
      (kept_more (frames_of words fs) (frame_of words f) (instances_kept words fs (All-tail (HasKept s) f fs h)) (All-head (HasKept s) f fs h).instance)

-- ---- what values stand for

module _ (s : ServerState) (w v : Words) (same : (serial : ℕ) → is_serial_in s.released serial ≡ false → w serial ≡ v serial) where
  value_same : (value : Value) → IsKeptValue s value → value_shown w value ≡ value_shown v value
  value_same (Owned term) h = refl
  value_same (Literal at) h = ap (λ words. literal at.area.serial (term_of (term_at words at.at))) (same at.area.serial h)

  values_same : (values : List Value) → All (IsKeptValue s) values → values_shown w values ≡ values_shown v values
  values_same [] h = refl
  values_same (value ∷ values) h =
      ap (λ x. x ∷ values_shown w values) (value_same value (All-head (IsKeptValue s) value values h))
      ∙ ap (λ xs. value_shown v value ∷ xs) (values_same values (All-tail (IsKeptValue s) value values h))

  frames_same : (fs : List Frame) → All (HasKept s) fs → map (frame_of w) fs ≡ map (frame_of v) fs
  frames_same [] h = refl
  frames_same (f ∷ fs) h =
      ap (λ registers. record { serial = f.code.area.serial; function = f.code.function; place = f.place; back = f.back; registers = registers } ∷ map (frame_of w) fs) (values_same f.registers (All-head (HasKept s) f fs h).values)
      ∙ ap (λ gs. frame_of v f ∷ gs) (frames_same fs (All-tail (HasKept s) f fs h))

-- literals of one view are literals of another
module _ (s : ServerState) (a b : Shown) (stands : (area : AreaRef) → IsInBlock a area → IsInBlock b area) (carries : (at : LitRef) → is_serial_in s.released at.area.serial ≡ false → IsLiteral a at → IsLiteral b at) where
  value_carried : (value : Value) → IsKeptValue s value → IsValue a value → IsValue b value
  value_carried (Owned term) kept h = tt
  value_carried (Literal at) kept h = carries at kept h

  frame_carried : (f : Frame) → HasKept s f → HasValues a f → HasValues b f
  frame_carried f kept h = (stands f.code.area h.0, λ i d l. value_carried (get_or f.registers i d) (kept.values i d l) (h.1 i d l))

  frames_carried : (fs : List Frame) → All (HasKept s) fs → AreValues a fs → AreValues b fs
  frames_carried fs kept h = λ i d l. frame_carried (get_or fs i d) (kept i d l) (h i d l)

-- ---- processes

module _ (names : List Mfa) (s : ServerState) (sound : IsSound s) (numbered : AreNumbered names s) (p : Process) (kept : NamesKept s p) where
  frames_agree : frames_of (words_in (generation_of names s)) p.frames ≡ frames_of (server_words s) p.frames
  frames_agree = ap reverse (frames_same s (words_in (generation_of names s)) (server_words s) (λ serial k. (area_agrees names s sound serial k).words) p.frames kept)

  process_agrees : process_of (words_in (generation_of names s)) p ≡ process_of (server_words s) p
  process_agrees = ap (λ frames. record { number = p.number; target = p.target; args = p.args; turns = p.turns; frames = frames }) frames_agree

  ready_by_state : (block : ℕ → ℕ) (held : Holds) → MayTurn (shown_in names block (generation_of names s)) held p → MayTurn (shown_at block s) held p
  ready_by_state block held r = record {
    going = subst HasNotEnded process_agrees r.going;
    names = r.names ∙ ap names_of process_agrees;
    placed = subst (ArePlaced (reads_of s)) frames_agree ((places_agree names s sound numbered (frames_of (words_in (generation_of names s)) p.frames)).0 r.placed).0;
    values = frames_carried s (shown_in names block (generation_of names s)) (shown_at block s) (λ area h. h) (literal_of_state names s sound block) p.frames kept r.values;
  }

  ready_by_generation : (block : ℕ → ℕ) (held : Holds) → MayTurn (shown_at block s) held p → MayTurn (shown_in names block (generation_of names s)) held p
  ready_by_generation block held r = record {
    going = subst HasNotEnded (sym process_agrees) r.going;
    names = r.names ∙ sym (ap names_of process_agrees);
    placed = subst (ArePlaced (reads_in names (generation_of names s))) (sym frames_agree)
        ((places_agree names s sound numbered (frames_of (server_words s) p.frames)).1 (r.placed, instances_kept s (server_words s) p.frames kept));
    values = frames_carried s (shown_at block s) (shown_in names block (generation_of names s)) (λ area h. h) (literal_of_generation names s sound block) p.frames kept r.values;
  }

  -- it stands for the same, and is ready where it is
  pub process_of_state : IsProcessOfState names s p
  process_of_state = record { process = process_agrees; ready = λ block held. (ready_by_state block held, ready_by_generation block held) }
