-- The value that a patch waits for: over each step it is awaited still, or a counter that was loaded has reached it.
use Rattle.std.proofs.Common.{◌≡◌, ◌⊎◌, inl, inr, ℕ, ◌≤◌, Bool, length, Option, Some, None, sym, ap, subst, ◌∙◌, arith}
use Rattle.std.proofs.lemmas.Option.{none-some, same_Some}
use Rattle.term_core.specs.declared.area.CodeRef.{CodeRef}
use Rattle.shared_words.specs.declared.seats.Writer as writers
use Rattle.shared_words.specs.declared.view.WriterView.{WriterView}
use Rattle.shared_words.specs.Views.{newest_number}
use Rattle.progress_words.specs.declared.answers.NotYet.{NotYet}
use Rattle.progress_words.specs.Needs.{HasTaken}
use Rattle.progress_words.specs.Tokens.{written_by}
use Rattle.breakpoints.specs.declared.patch.Patch.{Patch}
use Rattle.breakpoints.specs.declared.patch.Phase.{Phase}
use Rattle.breakpoints.specs.declared.patch.Phase.TheVariants.{Begun, Staged, Entered, Published, Restored, Finished}
use Rattle.breakpoints.specs.Patches.{HasPatched, IsPatchOf, PhaseStands, phase_need}
use Rattle.breakpoints.specs.Switched.{NeedIsReached, PatchWaits}
use Rattle.staging.specs.declared.tables.Tables.{Tables}
use Rattle.staging.specs.Stages.{IsLate, patch_need}
use Rattle.staging.specs.Traced.{IsPatchLate, KeepsNeed, NeedGoesOn}
use Rattle.staging.proofs.Lateness.{late_since}

-- ---- steps one after another

pub need_same : (t : Tables) → NeedGoesOn t t
need_same t = record { rising = omega (arith); longer = omega (arith); kept = λ need asked. inl asked }

-- where no patch was under way
pub need_none : (old new : Tables) → old.patch ≡ None → new.writer ≡ old.writer → NeedGoesOn old new
need_none old new none writer = record {
  rising = subst (λ (x : writers.Writer). (written_by old.writer).counter ≤ (written_by x).counter) (sym writer) (omega (arith));
  longer = subst (λ (x : writers.Writer). length (written_by old.writer).pairs ≤ length (written_by x).pairs) (sym writer) (omega (arith));
  kept = λ need asked. absurd (none-some need (ap patch_need (sym none) ∙ asked));
}

needs_by : (b c : Tables) (need : ℕ) → NeedGoesOn b c → (patch_need b.patch ≡ Some need) ⊎ (need ≤ (written_by b.writer).counter) → (patch_need c.patch ≡ Some need) ⊎ (need ≤ (written_by c.writer).counter)
needs_by b c need g (inl still) = g.kept need still
needs_by b c need g (inr reached) = inr (let rising = g.rising in omega (arith, reached, rising))

pub need_on : (a b c : Tables) → NeedGoesOn a b → NeedGoesOn b c → NeedGoesOn a c
need_on a b c f g = record {
  rising = (let first = f.rising in let second = g.rising in omega (arith, first, second));
  longer = (let first = f.longer in let second = g.longer in omega (arith, first, second));
  kept = λ need asked. needs_by b c need g (f.kept need asked);
}

-- ---- a step

reached_at : (o : Option ℕ) (w : WriterView) (need : ℕ) → NeedIsReached o w → o ≡ Some need → need ≤ w.counter
reached_at None w need h is = absurd (none-some need is)
reached_at (Some n) w need h is = subst (λ (m : ℕ). m ≤ w.counter) (same_Some n need is) h

-- the value was reached at this view, and the counter did not fall since
pub need_reached : (t new : Tables) (z : Patch) (w : WriterView) → t.patch ≡ Some z → (written_by t.writer).counter ≤ (written_by new.writer).counter → length (written_by t.writer).pairs ≤ length (written_by new.writer).pairs → w.counter ≤ (written_by new.writer).counter → NeedIsReached (phase_need z.phase) w → NeedGoesOn t new
need_reached t new z w is rising longer since reached = record {
  rising = rising;
  longer = longer;
  kept = λ need asked. inr (let at = reached_at (phase_need z.phase) w need reached (ap patch_need (sym is) ∙ asked) in omega (arith, since, at));
}

pub need_passed : (t new : Tables) (z : Patch) → t.patch ≡ Some z → HasPatched z.at (written_by t.writer) (written_by new.writer) → NeedIsReached (phase_need z.phase) (written_by new.writer) → NeedGoesOn t new
need_passed t new z is patched reached = need_reached t new z (written_by new.writer) is patched.rising patched.longer (omega (arith)) reached

-- the patch waits
pub need_kept : (t new : Tables) (y z : Patch) → t.patch ≡ Some z → new.patch ≡ Some y → y ≡ z → (written_by t.writer).counter ≤ (written_by new.writer).counter → length (written_by t.writer).pairs ≤ length (written_by new.writer).pairs → NeedGoesOn t new
need_kept t new y z is patch same rising longer = record {
  rising = rising;
  longer = longer;
  kept = λ need asked. inl (ap patch_need (patch ∙ ap (λ (x : Patch). Some x) same ∙ sym is) ∙ asked);
}

-- ---- what a call says that waits

answer_by : (new : Tables) (answer : NotYet) (need : ℕ) → answer.current ≡ (written_by new.writer).counter → patch_need new.patch ≡ Some answer.need → (patch_need new.patch ≡ Some need) ⊎ (need ≤ (written_by new.writer).counter) → (answer.need ≡ need) ⊎ (need ≤ answer.current)
answer_by new answer need loaded awaited (inl still) = inl (same_Some answer.need need (sym awaited ∙ still))
answer_by new answer need loaded awaited (inr reached) = inr (omega (arith, loaded, reached))

need_answered : (old new : Tables) (answer : NotYet) → NeedGoesOn old new → answer.current ≡ (written_by new.writer).counter → patch_need new.patch ≡ Some answer.need → KeepsNeed old answer
need_answered old new answer goes loaded awaited = λ need asked. answer_by new answer need loaded awaited (goes.kept need asked)

-- so it is of the tables before several steps
pub late_from : (old mid new : Tables) (answer : NotYet) → NeedGoesOn old mid → NeedGoesOn old new → IsPatchLate mid new answer → IsPatchLate old new answer
late_from old mid new answer first goes h = record {
  late = late_since old mid new answer first.longer h.late;
  awaited = h.awaited;
  taken = h.taken;
  kept = need_answered old new answer goes h.late.loaded h.awaited;
}

-- the value of its phase was taken while the newest generation was this one
phase_taken : (at : CodeRef) (on : Bool) (phase : Phase) (w : WriterView) (need : ℕ) → PhaseStands at on phase w → phase_need phase ≡ Some need → HasTaken w (newest_number w.published) need
phase_taken at on Begun w need h is = absurd (none-some need is)
phase_taken at on (Staged n) w need h is = subst (HasTaken w (newest_number w.published)) (same_Some n need is) h.0.taken
phase_taken at on (Entered n) w need h is = subst (HasTaken w (newest_number w.published)) (same_Some n need is) h.0.taken
phase_taken at on (Published n) w need h is = subst (HasTaken w (newest_number w.published)) (same_Some n need is) h.0.taken
phase_taken at on (Restored n) w need h is = subst (HasTaken w (newest_number w.published)) (same_Some n need is) h.0.taken
phase_taken at on Finished w need h is = absurd (none-some need is)

pub patch_late : (t new : Tables) (y z : Patch) (answer : NotYet) → t.patch ≡ Some z → new.patch ≡ Some y → IsPatchOf y (written_by new.writer) → PatchWaits z y (written_by t.writer) (written_by new.writer) answer → IsPatchLate t new answer
patch_late t new y z answer is patch stands waits =
    let need : phase_need y.phase ≡ Some answer.need = ap (λ (x : Patch). phase_need x.phase) waits.same ∙ waits.need in
    let late : IsLate t new answer = record { loads = waits.loads; loaded = waits.loaded; below = waits.below } in
    let awaited : patch_need new.patch ≡ Some answer.need = subst (λ (o : Option Patch). patch_need o ≡ Some answer.need) (sym patch) need in
    record {
      late = late;
      awaited = awaited;
      taken = phase_taken y.at y.on y.phase (written_by new.writer) answer.need stands need;
      kept = need_answered t new answer (need_kept t new y z is patch waits.same waits.patched.rising waits.patched.longer) waits.loaded awaited;
    }
