-- What a scheduler was answered in a lap.
use Rattle.std.proofs.Common.{◌≡◌, ◌↔◌, ℕ, ◌+◌, ◌<◌, ◌%◌, ◌==◌, ◌&&◌, Bool, true, false, List, get_or, length, Option, None, Some, IsSomeAnd, refl, sym, ap, subst, ◌∙◌, arith}
use mathlib.Core.List.{IsPrefix}
use Rattle.std.proofs.lemmas.Bool.{eqb-true, eqb-false, false≢true}
use Rattle.std.proofs.lemmas.Option.{slice_get-get_or}
use Rattle.inbox.specs.Ends.{Taking}
use Rattle.run_law.specs.Newcomers.{SpawnedProcess}
use Rattle.script_core.specs.declared.script.ScriptCmd.{ScriptCmd}
use Rattle.word_lap.specs.declared.process_run.ProcessRun.{ProcessRun}
use Rattle.word_run.specs.declared.slice_step.SliceStep.{SliceStep}
use Rattle.word_run.specs.declared.slice_step.SliceStep.TheVariants.{Over, AtOnce, Operates}
use Rattle.word_run.specs.declared.scheduler.Scheduler.{Scheduler}
use Rattle.word_run.specs.Loaders.{HasCommands, IsLoaderOf, IsStepFor, TellsOfLoaders}
use Rattle.word_run.specs.Rounds.{HasAnswers, NoneGoOn, RestsAt, StaysAnswered}

-- ---- a loader

some_next : (P : ScriptCmd → Type 0) (next : Option ScriptCmd) → IsSomeAnd next P → (false ≡ true) ↔ (next ≡ None)
some_next P next some = ((λ is. absurd (false≢true is)), (λ none. absurd (subst (λ (o : Option ScriptCmd). IsSomeAnd o P) none some)))

-- whether all its commands are done
abbrev pub is_over : SliceStep → Bool
is_over Over = true
is_over AtOnce = false
is_over Operates = false

-- its step tells it
step_tells : (next : Option ScriptCmd) (step : SliceStep) → IsStepFor next step → (is_over step ≡ true) ↔ (next ≡ None)
step_tells next Over is = ((λ _. is), (λ _. refl))
step_tells next AtOnce is = some_next _ next is
step_tells next Operates is = some_next _ next is

pub step_answers : (next asked : Option ScriptCmd) (step kind : SliceStep) → IsStepFor asked step → asked ≡ next → step ≡ kind → (is_over kind ≡ true) ↔ (next ≡ None)
step_answers next asked step kind is asked_is kind_is =
    subst (λ (k : SliceStep). (is_over k ≡ true) ↔ (next ≡ None)) kind_is (step_tells next step (subst (λ (o : Option ScriptCmd). IsStepFor o step) asked_is is))

-- ---- the loaders of a scheduler

module _ (answered : ℕ → Bool → Type 0) (number count : ℕ) where
  pub none_asked : TellsOfLoaders answered number count 0 true
  none_asked = record { none = λ over who own. absurd (omega (arith, own.below)); some = λ is. absurd (false≢true (sym is)) }

  -- what one more of the script's loaders answered, if it is one of these
  more_none : (loaders who : ℕ) (over : Bool) → (over ≡ true → (w : ℕ) → IsLoaderOf number count loaders w → answered w true) → (loaders % count ≡ number → answered loaders true)
      → over ≡ true → IsLoaderOf number count (loaders + 1) who → (same : Bool) → (who == loaders) ≡ same → answered who true
  more_none loaders who over first last is own true same =
      let here : who ≡ loaders = eqb-true who loaders same in
      subst (λ (w : ℕ). answered w true) (sym here) (last (ap (λ (w : ℕ). w % count) (sym here) ∙ own.own))
  more_none loaders who over first last is own false same = first is who (record { below = omega (arith, own.below, eqb-false who loaders same); own = own.own })

  left_later : (loaders : ℕ) → HasCommands answered number count loaders → HasCommands answered number count (loaders + 1)
  left_later loaders h = record { who = h.who; own = record { below = omega (arith, h.own.below); own = h.own.own }; answers = h.answers }

  left_here : (loaders : ℕ) (own : Bool) → (loaders % count == number) ≡ own → (loaders % count ≡ number → answered loaders false) → ((loaders % count ≡ number → ⊥) → false ≡ true) → HasCommands answered number count (loaders + 1)
  left_here loaders true is own other = record { who = loaders; own = record { below = omega arith; own = eqb-true _ _ is }; answers = own (eqb-true _ _ is) }
  left_here loaders false is own other = absurd (false≢true (other (eqb-false _ _ is)))

  pub one_asked : (loaders : ℕ) (over one : Bool) → TellsOfLoaders answered number count loaders over → (loaders % count ≡ number → answered loaders one) → ((loaders % count ≡ number → ⊥) → one ≡ true)
      → TellsOfLoaders answered number count (loaders + 1) (over && one)
  one_asked loaders true true all own other = record { none = λ is who of. more_none loaders who true all.none own refl of (who == loaders) refl; some = λ is. absurd (false≢true (sym is)) }
  one_asked loaders true false all own other = record { none = λ is. absurd (false≢true is); some = λ is. left_here loaders (loaders % count == number) refl own other }
  one_asked loaders false one all own other = record { none = λ is. absurd (false≢true is); some = λ is. left_later loaders (all.some refl) }

-- ---- a scheduler

-- a process that goes on is one
pub one_goes : (processes : List (Option ProcessRun)) (k : ℕ) (place : Option ProcessRun) → place ≡ get_or processes k place → k < length processes → (RestsAt place → ⊥) → NoneGoOn processes → ⊥
one_goes processes k place is below goes none = goes (none k place (slice_get-get_or processes k place below ∙ ap Some (sym is)))

module _ {T : Type 0} {I : Type 0} (answered : ℕ → Bool → Type 0) (count loaders : ℕ) (s t : Scheduler T I) where
  -- it keeps what it was answered
  pub answers_on : HasAnswers answered count loaders s → StaysAnswered s t → HasAnswers answered count loaders t
  answers_on h on = record {
    over = subst (λ (n : ℕ). TellsOfLoaders answered n count loaders t.over) (sym on.number) (subst (λ (b : Bool). TellsOfLoaders answered s.number count loaders b) (sym on.over) h.over);
    emptied = on.emptied ∙ h.emptied;
    taken = λ emptied. subst (λ (x : Taking SpawnedProcess). IsPrefix x.told x.taken) (sym on.taker) (h.taken (sym on.emptied ∙ emptied));
  }
