-- So many steps of the patch of a change of what is traced were made, and nothing is published yet.
use Rattle.std.proofs.Common.{◌≡◌, ℕ, ◌+◌, ◌<◌, ◌≤◌, List, [], ◌∷◌, ◌++◌, length, Option, Some, None, sym, ap, subst, ◌∙◌, arith}
use Rattle.atomic_table.specs.Seated.{TableId}
use Rattle.term_core.specs.declared.atom.Mfa.{Mfa}
use Rattle.area_core.specs.declared.table.Published.{Published}
use Rattle.shared_words.specs.declared.opening.Opening.{Opening}
use Rattle.progress_words.specs.declared.answers.NotYet.{NotYet}
use Rattle.progress_words.specs.Tokens.{written_by}
use Rattle.server_core.specs.declared.change.Change.{Change}
use Rattle.server_core.specs.Decided.{change_made}
use Rattle.server_core.specs.ServerState.{ServerState}
use Rattle.breakpoints.specs.declared.patch.Patch.{Patch}
use Rattle.breakpoints.specs.declared.patch.Phase.{Phase}
use Rattle.breakpoints.specs.declared.patch.Phase.TheVariants.{Begun, Staged, Entered}
use Rattle.breakpoints.specs.Patches.{IsUnpublished}
use Rattle.staging.specs.declared.stage.Stage.{Stage}
use Rattle.staging.specs.declared.stage.Step.{Step}
use Rattle.staging.specs.declared.stage.Step.TheVariants as steps
use Rattle.staging.specs.declared.tables.Tables.{Tables}
use Rattle.staging.specs.Stages.{IsPatched, Waits}
use Rattle.staging.specs.Traced.{HasMoved, HasSwitched, IsPatchLate, NeedGoesOn, TraceAnswers, phases_left, phases_to}
use Rattle.staging.specs.Whose.{AreTablesOf, KeepsKnown}
use Rattle.staging.proofs.Known.{known_on}
use Rattle.staging.proofs.PatchNeeds.{late_from, need_on}

pub record MovesOn (table : TableId) (opening : Opening) (names : List Mfa) (s : ServerState) (change : Change) (round : ℕ) (first now : Tables) : Type 0 where
  pub tables : AreTablesOf table opening now
  pub exports : now.exports ≡ first.exports
  pub patched : IsPatched names s change now
  pub published : (written_by now.writer).published ≡ (written_by first.writer).published
  pub known : KeepsKnown (written_by first.writer) (written_by now.writer)
  pub need : NeedGoesOn first now
  pub left : phases_left now.patch + round ≤ 3

phases_few : (phase : Phase) → phases_to phase ≤ 3
phases_few Begun = omega (arith)
phases_few (Staged need) = omega (arith)
phases_few (Entered need) = omega (arith)
phases_few phase = omega (arith)

pub few_left : (o : Option Patch) → phases_left o ≤ 3
few_left None = omega (arith)
few_left (Some patch) = phases_few patch.phase

-- a patch that has published nothing has a phase left
some_phase : (phase : Phase) → IsUnpublished phase → 0 < phases_to phase
some_phase Begun is = omega (arith)
some_phase (Staged need) is = omega (arith)
some_phase (Entered need) is = omega (arith)
some_phase phase is = absurd is

pub some_left : (names : List Mfa) (s : ServerState) (change : Change) (t : Tables) → IsPatched names s change t → 0 < phases_left t.patch
some_left names s change t had = subst (λ (o : Option Patch). 0 < phases_left o) (sym had.is) (some_phase had.patch.phase had.before)

-- one more
pub moves_more : (table : TableId) (opening : Opening) (names : List Mfa) (s : ServerState) (change : Change) (round : ℕ) (first now new : Tables) → MovesOn table opening names s change round first now → AreTablesOf table opening new → new.exports ≡ now.exports → KeepsKnown (written_by now.writer) (written_by new.writer) → NeedGoesOn now new → HasMoved names s change now new
    → MovesOn table opening names s change (round + 1) first new
moves_more table opening names s change round first now new was tables exports known need moved = record {
  tables = tables;
  exports = exports ∙ was.exports;
  patched = moved.patched;
  published = moved.published ∙ was.published;
  known = known_on (written_by first.writer) (written_by now.writer) (written_by new.writer) was.known known;
  need = need_on first now new was.need need;
  left = (let fewer = moved.fewer in let left = was.left in omega (arith, fewer, left));
}

-- what is published since is published since before the first step
pub switched_from : (names : List Mfa) (s : ServerState) (first now new : Tables) (generation : ℕ) → (written_by now.writer).published ≡ (written_by first.writer).published → HasSwitched names s now new generation → HasSwitched names s first new generation
switched_from names s first now new generation same done = record {
  next = done.next;
  shows = done.shows;
  published = done.published ∙ ap (λ (ps : List Published). ps ++ done.next ∷ []) same;
  number = done.number ∙ ap length same;
  settling = done.settling;
}

pub waits_from : (names : List Mfa) (s : ServerState) (change : Change) (first now new : Tables) (stage : Stage) (answer : NotYet) → (written_by now.writer).published ≡ (written_by first.writer).published → NeedGoesOn first now → NeedGoesOn first new → Waits names s change now new stage (IsPatchLate now new answer) → Waits names s change first new stage (IsPatchLate first new answer)
waits_from names s change first now new stage answer same before need waits = record { published = waits.published ∙ same; stands = waits.stands; why = late_from first now new answer before need waits.why }

-- whatever the answer is
pub traced_from : (names : List Mfa) (s : ServerState) (change : Change) (first now new : Tables) (stage : Stage) (step : Step) → (written_by now.writer).published ≡ (written_by first.writer).published → NeedGoesOn first now → NeedGoesOn first new → TraceAnswers names s change now new stage step → TraceAnswers names s change first new stage step
traced_from names s change first now new stage (steps.Published generation) same before need said = switched_from names (change_made s change).state first now new generation same said
traced_from names s change first now new stage (steps.NotYet answer) same before need said = waits_from names s change first now new stage answer same before need said
traced_from names s change first now new stage steps.AwaitRelease same before need said = said
