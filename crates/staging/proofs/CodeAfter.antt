-- What a load or a delete leaves of the state: instances come in, and nothing is dropped.
use Rattle.std.proofs.Common.{◌≡◌, ℕ, ◌+◌, ◌≤◌, inl, inr, false, List, [], length, Some, refl, sym, ap, subst, ◌∙◌, arith}
use Rattle.std.specs.Prelude.{slice_get}
use Rattle.std.proofs.lemmas.Bool.{false_from_ne_true}
use Rattle.std.proofs.lemmas.List.{length-map}
use Rattle.term_core.specs.declared.atom.Mfa.{Mfa}
use Rattle.term_core.specs.declared.generation.Generation.{Generation}
use Rattle.mod_core.specs.declared.code.Module.{Module}
use Rattle.area_core.specs.declared.table.Published.{Published}
use Rattle.area_core.specs.Generations as generations
use Rattle.area_core.specs.Generations.{functions_in_image, has_serial}
use Rattle.server_core.specs.Generations.{generation_of}
use Rattle.server_core.specs.declared.change.Change.{Change}
use Rattle.server_core.specs.declared.change.Change.TheVariants.{BringIn, MakeOld}
use Rattle.server_core.specs.Decided.{Fits}
use Rattle.server_core.specs.ServerState.{IsSound, ServerState, instance_image, is_doomed, is_retired, live_count}
use Rattle.change_laws.specs.Breakpoints.{KeepsBreakpoints, SetsInCode}
use Rattle.change_laws.specs.Changes.{Incoming, incoming, instance, changed_state}
use Rattle.change_laws.proofs.Counted.{instances_counted}
use Rattle.change_laws.proofs.Dropped.{load_leaves_rest}
use Rattle.staging.specs.Standing.{IsShownBy}
use Rattle.staging.specs.Stages.{IsCodeChange}
use Rattle.staging.proofs.NextReads.{code_known, old_module}
use Rattle.staging.proofs.Sizes.{IsInstance, instance_at}

-- ---- the state

pub record IsCodeAfter (s t : ServerState) : Type 0 where
  pub keys : t.keys ≡ s.keys
  pub retired : t.retired ≡ s.retired
  pub released : t.released ≡ s.released
  pub undoomed : s.doomed ≡ []
  pub doomed : t.doomed ≡ []

pub code_after : (s : ServerState) (change : Change) → Fits s change → IsCodeChange change → IsCodeAfter s (changed_state s change)
code_after s (BringIn generation modules areas versions) fits code =
    let same = load_leaves_rest s modules.items in
    record { keys = same.keys; retired = same.retired; released = same.released; undoomed = fits.1.rest; doomed = same.doomed ∙ fits.1.rest }
code_after s (MakeOld generation name) fits code = record { keys = refl; retired = refl; released = refl; undoomed = fits.1.rest; doomed = fits.1.rest }
code_after s change fits code = absurd code

-- it sets no breakpoint, nor does it clear one
pub code_sets : (s : ServerState) (change : Change) → IsCodeChange change → SetsInCode s change
code_sets s (BringIn generation modules areas versions) code = tt
code_sets s (MakeOld generation name) code = tt
code_sets s change code = absurd code

pub code_keeps : (change : Change) → IsCodeChange change → KeepsBreakpoints change
code_keeps (BringIn generation modules areas versions) code = tt
code_keeps (MakeOld generation name) code = tt
code_keeps change code = absurd code

-- what comes in are instances
pub comes_instance : (s : ServerState) (change : Change) → Fits s change → IsCodeChange change → (place : ℕ) (i : Incoming) → slice_get (incoming change) place ≡ Some i → IsInstance i
comes_instance s (BringIn generation modules areas versions) fits code place i at = instance_at modules.items fits.1.sound place i at
comes_instance s (MakeOld generation name) fits code place i at = absurd (cc)
comes_instance s change fits code place i at = absurd code

-- so many are live
pub code_counted : (s : ServerState) (change : Change) → Fits s change → IsCodeChange change → live_count (changed_state s change).versions ≡ live_count s.versions + length (incoming change)
code_counted s (BringIn generation modules areas versions) fits code =
    let counted = instances_counted s (BringIn generation modules areas versions) fits in let many = length-map modules.items instance in omega (arith, counted, many)
code_counted s (MakeOld generation name) fits code = let counted = instances_counted s (MakeOld generation name) fits in omega (arith, counted)
code_counted s change fits code = absurd code

-- the image of an instance tells how many functions it has
pub image_functions : (serial : ℕ) (m : Module) → functions_in_image (instance_image serial m) ≡ length m.functions
image_functions serial m = refl

-- ---- the newest generation

-- it has neither doomed nor retired what comes in
pub record IsBelow (p : Published) (first : ℕ) : Type 0 where
  pub unheard : (serial : ℕ) → first ≤ serial → generations.is_doomed_area p serial ≡ false
  pub unretired : (serial : ℕ) → first ≤ serial → generations.is_retired_area p serial ≡ false

stood_below : (names : List Mfa) (stood : ServerState) (p : Published) → IsSound stood → p.state ≡ generation_of names stood → IsBelow p stood.next_serial
stood_below names stood p sound shows = record {
  unheard = λ serial past. ap (λ (g : Generation). has_serial g.doomed serial) shows ∙ false_from_ne_true (is_doomed stood serial) (λ e.
      let old = sound.doomed serial e in
      let of = old_module stood sound old.0 serial old.1 in
      let known = (code_known stood sound serial of.0 of.1).1 in
      omega (arith, known, past));
  unretired = λ serial past. ap (λ (g : Generation). has_serial g.retired serial) shows ∙ false_from_ne_true (is_retired stood serial) (λ e. let known = (sound.retired serial e).known in omega (arith, known, past));
}

pub newest_below : (names : List Mfa) (s : ServerState) (p : Published) → IsShownBy names s p → IsBelow p s.next_serial
newest_below names s p shown =
    elim shown.shows as (λ _. IsBelow p s.next_serial) [
      | inl is ↦ subst (IsBelow p) (sym (ap (λ (t : ServerState). t.next_serial) shown.since.same)) (stood_below names shown.stood p shown.sound is)
      | inr first ↦ subst (λ (x : Published). IsBelow x s.next_serial) (sym first.0) (record { unheard = λ serial past. refl; unretired = λ serial past. refl })
    ]
