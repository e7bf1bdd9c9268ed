-- What the calls on a patch answer.
use Rattle.std.proofs.Common.{◌≡◌, ℕ, ◌≤◌, Bool, true, false, refl, sym, ap, subst, ◌∙◌}
use Rattle.std.specs.Prelude.{Option, Some}
use Rattle.shared_words.specs.declared.view.WriterView.{WriterView}
use Rattle.progress_words.specs.declared.answers.NotYet.{NotYet}
use Rattle.progress_words.specs.Needs.{HasLoadedCounter, IsBelow}
use Rattle.breakpoints.specs.declared.patch.Patch.{Patch}
use Rattle.breakpoints.specs.declared.patch.Phase.{Phase}
use Rattle.breakpoints.specs.declared.patch.Phase.TheVariants.{Begun, Staged, Entered, Published as IsSwitched, Restored, Finished}
use Rattle.breakpoints.specs.Patches.{HasPatched, IsLastPhase, IsPatchOf, MovesTo, PhaseStands, phase_need}
use Rattle.breakpoints.specs.Switched.{NeedIsReached, PatchEnds, PatchMoves, PatchWaits}
use Rattle.breakpoints.proofs.Others.{counted_leaves, counted_loads, counted_patched, phase_still}

-- the patch is at the phase that it was given
pub at_phase : (x : Patch) (w : WriterView) (phase : Phase) → x.phase ≡ phase → IsPatchOf x w → PhaseStands x.at x.on phase w
at_phase x w phase is h = subst (λ (f : Phase). PhaseStands x.at x.on f w) is h

pub still_at_phase : (x : Patch) (old new : WriterView) → HasLoadedCounter old new → IsPatchOf x old → IsPatchOf x new
still_at_phase x old new loaded h = phase_still old new (counted_leaves old new loaded) x.at x.on x.phase h

need_reached : (o : Option ℕ) (need : ℕ) (w : WriterView) → o ≡ Some need → need ≤ w.counter → NeedIsReached o w
need_reached o need w is enough = subst (λ (p : Option ℕ). NeedIsReached p w) (sym is) enough

-- the value is not reached
pub waits_on : (x : Patch) (old new : WriterView) (need : ℕ) (answer : NotYet) → phase_need x.phase ≡ Some need → HasLoadedCounter old new → IsBelow need new answer → PatchWaits x x old new answer
waits_on x old new need answer is loaded below = record {
  same = refl;
  patched = counted_patched x.at old new loaded;
  words = ap (λ (w : WriterView). w.words) loaded.view;
  need = is ∙ ap Some (sym below.asked);
  loads = counted_loads old new loaded;
  loaded = below.loaded;
  below = below.below;
}

stages : (on : Bool) (need : ℕ) → MovesTo on Begun (Staged need)
stages true need = tt
stages false need = tt

pub stage_moves : (x : Patch) (old new : WriterView) (need : ℕ) → x.phase ≡ Begun → HasPatched x.at old new → PatchMoves x (record x { phase = Staged need }) old new
stage_moves x old new need is patched = record {
  reached = subst (λ (f : Phase). NeedIsReached (phase_need f) new) (sym is) tt;
  next = subst (λ (f : Phase). MovesTo x.on f (Staged need)) (sym is) (stages x.on need);
  patched = patched;
}

pub enter_moves : (x : Patch) (old new : WriterView) (need next : ℕ) → x.phase ≡ Staged need → x.on ≡ true → need ≤ new.counter → HasPatched x.at old new → PatchMoves x (record x { phase = Entered next }) old new
enter_moves x old new need next is on enough patched = record {
  reached = need_reached (phase_need x.phase) need new (ap phase_need is) enough;
  next = subst (λ (z : Bool × Phase). MovesTo z.0 z.1 (Entered next)) (λ i. (sym on i, sym is i)) tt;
  patched = patched;
}

pub restore_moves : (x : Patch) (old new : WriterView) (need next : ℕ) → x.phase ≡ IsSwitched need → x.on ≡ false → need ≤ new.counter → HasPatched x.at old new → PatchMoves x (record x { phase = Restored next }) old new
restore_moves x old new need next is on enough patched = record {
  reached = need_reached (phase_need x.phase) need new (ap phase_need is) enough;
  next = subst (λ (z : Bool × Phase). MovesTo z.0 z.1 (Restored next)) (λ i. (sym on i, sym is i)) tt;
  patched = patched;
}

pub finish_ends : (x : Patch) (old new : WriterView) (need : ℕ) → phase_need x.phase ≡ Some need → IsLastPhase x.on x.phase → need ≤ new.counter → HasPatched x.at old new → PatchEnds x (record x { phase = Finished }) old new
finish_ends x old new need is last enough patched = record {
  last = last;
  reached = need_reached (phase_need x.phase) need new is enough;
  phase = refl;
  patched = patched;
}
