-- The loaders as the journal has them: where a trace waits, its loader has one entry more there than commands that are done.
use Rattle.std.proofs.Common.{◌≡◌, ℕ, zero, suc, ◌+◌, ◌≤◌, Bool, List, [], ◌∷◌, length, length-set, slice_get, slice_set, Option, Some, None, unwrap_or, option_map, ◌⊎◌, inl, inr, refl, sym, ap, subst, ◌∙◌, arith}
use Rattle.std.proofs.lemmas.Bool.{cases_eq}
use Rattle.std.proofs.lemmas.Option.{none-some}
use Rattle.term_core.specs.declared.atom.Mfa.{Mfa}
use Rattle.script_core.specs.declared.script.ScriptCmd.{ScriptCmd}
use Rattle.script_core.specs.declared.script.ScriptCmd.TheVariants.{Trace}
use Rattle.script_core.specs.Processes.{spawn_number}
use Rattle.script_core.proofs.SpawnLines.{number_next}
use Rattle.run_log.specs.Legal.{commands_of}
use Rattle.run_log.proofs.ListPlaces.{set_here, set_there}
use Rattle.write_permit.specs.declared.holder.Holder.{Holder}
use Rattle.write_permit.specs.declared.holder.Holder.TheVariants.{Free, Held, Purging, Tracing}
use Rattle.write_permit.specs.declared.loader_run.LoaderRun.{LoaderRun}
use Rattle.write_permit.specs.Book.{HoldsJust, IsLog, IsPermit, TraceWaits}
use Rattle.write_permit.specs.Permit.{PermitState, counted_in, done_of, entered_by, holder_of, loader_after, next_of}
use Rattle.write_permit.proofs.Logs.{count_in}

-- ---- a change at one place of a list

module _ {X : Type 0} where
  -- the list with the element at a place changed, if one is there
  abbrev changed_at : (X → X) → List X → ℕ → List X
  changed_at f xs i = unwrap_or (option_map (λ x. slice_set xs i (f x)) (slice_get xs i)) xs

  changed_none : (f : X → X) (xs : List X) (i : ℕ) → slice_get xs i ≡ None → changed_at f xs i ≡ xs
  changed_none f xs i h = ap (λ o. unwrap_or (option_map (λ x. slice_set xs i (f x)) o) xs) h

  changed_some : (f : X → X) (xs : List X) (i : ℕ) (x : X) → slice_get xs i ≡ Some x → changed_at f xs i ≡ slice_set xs i (f x)
  changed_some f xs i x h = ap (λ o. unwrap_or (option_map (λ y. slice_set xs i (f y)) o) xs) h

  changed_many : (f : X → X) (xs : List X) (i : ℕ) → length (changed_at f xs i) ≡ length xs
  changed_many f xs i = by (slice_get xs i)
    where
      by : (o : Option X) → length (unwrap_or (option_map (λ x. slice_set xs i (f x)) o) xs) ≡ length xs
      by None = refl
      by (Some x) = length-set xs i (f x)

  changed_there : (f : X → X) (xs : List X) (i k : ℕ) → (k ≡ i → ⊥) → slice_get (changed_at f xs i) k ≡ slice_get xs k
  changed_there f xs i k other = by (slice_get xs i)
    where
      by : (o : Option X) → slice_get (unwrap_or (option_map (λ x. slice_set xs i (f x)) o) xs) k ≡ slice_get xs k
      by None = refl
      by (Some x) = set_there xs i (f x) k other

  changed_here : (f : X → X) (xs : List X) (i : ℕ) (x : X) → slice_get xs i ≡ Some x → slice_get (changed_at f xs i) i ≡ Some (f x)
  changed_here f xs i x h = ap (λ ys. slice_get ys i) (changed_some f xs i x h) ∙ set_here xs i x (f x) h

  set_apart : (xs : List X) (i k : ℕ) (x y : X) → (k ≡ i → ⊥) → slice_set (slice_set xs i x) k y ≡ slice_set (slice_set xs k y) i x
  set_apart [] i k x y other = refl
  set_apart (z ∷ xs) zero zero x y other = absurd (other refl)
  set_apart (z ∷ xs) zero (suc k) x y other = refl
  set_apart (z ∷ xs) (suc i) zero x y other = refl
  set_apart (z ∷ xs) (suc i) (suc k) x y other = ap (λ t. z ∷ t) (set_apart xs i k x y (λ e. other (ap suc e)))

  -- changes at two places are the same in either order
  changed_apart : (f g : X → X) (xs : List X) (i k : ℕ) → (k ≡ i → ⊥) → changed_at f (changed_at g xs k) i ≡ changed_at g (changed_at f xs i) k
  changed_apart f g xs i k other = by (slice_get xs i) (slice_get xs k) refl refl
    where
      back : i ≡ k → ⊥
      back e = other (sym e)

      by : (o q : Option X) → slice_get xs i ≡ o → slice_get xs k ≡ q → changed_at f (changed_at g xs k) i ≡ changed_at g (changed_at f xs i) k
      by None q e d = changed_none f (changed_at g xs k) i (changed_there g xs k i back ∙ e) ∙ ap (λ ys. changed_at g ys k) (sym (changed_none f xs i e))
      by (Some x) None e d = ap (λ ys. changed_at f ys i) (changed_none g xs k d) ∙ sym (changed_none g (changed_at f xs i) k (changed_there f xs i k other ∙ d))
      by (Some x) (Some y) e d =
          ap (λ ys. changed_at f ys i) (changed_some g xs k y d)
          ∙ changed_some f (slice_set xs k (g y)) i x (set_there xs k (g y) i back ∙ e)
          ∙ set_apart xs k i (g y) (f x) back
          ∙ sym (changed_some g (slice_set xs i (f x)) k y (set_there xs i (f x) k other ∙ d))
          ∙ ap (λ ys. changed_at g ys k) (sym (changed_some f xs i x e))

-- where a loader has one command more that is done, none has fewer
changed_grows : (f : LoaderRun → LoaderRun) → ((l : LoaderRun) → (f l).done ≡ l.done + 1) → (loaders : List LoaderRun) (who loader : ℕ) → done_of loaders loader ≤ done_of (changed_at f loaders who) loader
changed_grows f one loaders who loader = by (slice_get loaders who) refl (cases_eq loader who)
  where
    by : (o : Option LoaderRun) → slice_get loaders who ≡ o → (loader ≡ who) ⊎ (loader ≡ who → ⊥) → done_of loaders loader ≤ done_of (changed_at f loaders who) loader
    by None e either = omega (arith, ap (λ ls. done_of ls loader) (changed_none f loaders who e))
    by (Some l) e (inl same) =
        let before : done_of loaders loader ≡ l.done = ap (done_of loaders) same ∙ ap count_in e in
        let after : done_of (changed_at f loaders who) loader ≡ (f l).done = ap (done_of (changed_at f loaders who)) same ∙ ap count_in (changed_here f loaders who l e) in
        omega (arith, before, after, one l)
    by (Some l) e (inr other) = omega (arith, ap count_in (changed_there f loaders who loader other))

-- a command of one loader is counted
pub counted_grows : (loaders : List LoaderRun) (who : ℕ) (command : ScriptCmd) (loader : ℕ) → done_of loaders loader ≤ done_of (counted_in loaders who command) loader
counted_grows loaders who command loader = changed_grows (loader_after command) (λ l. refl) loaders who loader

-- ---- the loaders with the entry of a trace

-- a loader with one command more that is done
abbrev with_done : LoaderRun → LoaderRun
with_done l = record l { done = l.done + 1 }

-- there are as many
pub entered_many : (h : Holder) (loaders : List LoaderRun) → length (entered_by h loaders) ≡ length loaders
entered_many (Tracing who generation) loaders = changed_many with_done loaders who
entered_many Free loaders = refl
entered_many (Held by) loaders = refl
entered_many (Purging by name) loaders = refl

-- the loader of the trace is as it will be once the trace is counted
pub entered_is : (who generation : ℕ) (target : Mfa) (on : Bool) (loaders : List LoaderRun) → entered_by (Tracing who generation) loaders ≡ counted_in loaders who (Trace target on)
entered_is who generation target on loaders = by (slice_get loaders who)
  where
    by : (o : Option LoaderRun) → unwrap_or (option_map (λ l. slice_set loaders who (with_done l)) o) loaders ≡ unwrap_or (option_map (λ l. slice_set loaders who (loader_after (Trace target on) l)) o) loaders
    by None = refl
    by (Some l) =
        let none : l.next_process ≡ l.next_process + 0 = omega arith in
        ap (λ n. slice_set loaders who (record l { done = l.done + 1; next_process = n })) none

-- each loader but the holder is as it was
pub entered_other : (h : Holder) (loaders : List LoaderRun) (who : ℕ) → ((by : ℕ) → holder_of h ≡ Some by → by ≡ who → ⊥) → slice_get (entered_by h loaders) who ≡ slice_get loaders who
entered_other (Tracing holder generation) loaders who apart = changed_there with_done loaders holder who (λ e. apart holder refl (sym e))
entered_other Free loaders who apart = refl
entered_other (Held by) loaders who apart = refl
entered_other (Purging by name) loaders who apart = refl

pub entered_done : (h : Holder) (loaders : List LoaderRun) (who : ℕ) → ((by : ℕ) → holder_of h ≡ Some by → by ≡ who → ⊥) → done_of (entered_by h loaders) who ≡ done_of loaders who
entered_done h loaders who apart = ap count_in (entered_other h loaders who apart)

-- no loader has fewer entries than commands that are done
pub entered_grows : (h : Holder) (loaders : List LoaderRun) (loader : ℕ) → done_of loaders loader ≤ done_of (entered_by h loaders) loader
entered_grows (Tracing who generation) loaders loader = changed_grows with_done (λ l. refl) loaders who loader
entered_grows Free loaders loader = omega arith
entered_grows (Held by) loaders loader = omega arith
entered_grows (Purging by name) loaders loader = omega arith

-- another loader is counted beside it
pub entered_counted : (h : Holder) (loaders : List LoaderRun) (who : ℕ) (command : ScriptCmd) → ((by : ℕ) → holder_of h ≡ Some by → by ≡ who → ⊥) → entered_by h (counted_in loaders who command) ≡ counted_in (entered_by h loaders) who command
entered_counted (Tracing holder generation) loaders who command apart = changed_apart with_done (loader_after command) loaders holder who (λ e. apart holder refl (sym e))
entered_counted Free loaders who command apart = refl
entered_counted (Held by) loaders who command apart = refl
entered_counted (Purging by name) loaders who command apart = refl

-- ---- what a permit says of its loaders

module _ (p : PermitState) (known : IsPermit p) where
  logged : (h : Holder) → p.holder ≡ h → IsLog p.script p.server p.journal (entered_by h p.loaders)
  logged h is = subst (λ x. IsLog p.script p.server p.journal (entered_by x p.loaders)) is known.log

  waits : (who generation : ℕ) → p.holder ≡ Tracing who generation → TraceWaits p who generation
  waits who generation is = subst (HoldsJust p) is known.holds

  -- there is one for each loader of the script
  pub many_loaders : length p.loaders ≡ length p.script.loaders
  many_loaders = sym (entered_many p.holder p.loaders) ∙ known.log.many

  -- where no loader has a next command, no trace waits
  pub entered_none : ((loader : ℕ) → next_of p loader ≡ None) → entered_by p.holder p.loaders ≡ p.loaders
  entered_none over = by p.holder refl
    where
      by : (h : Holder) → p.holder ≡ h → entered_by h p.loaders ≡ p.loaders
      by (Tracing who generation) is = let k = waits who generation is in absurd (none-some (Trace k.target k.on) (sym (over who) ∙ k.next))
      by Free is = refl
      by (Held who) is = refl
      by (Purging who name) is = refl

  -- and the journal is that of the loaders
  pub log_over : ((loader : ℕ) → next_of p loader ≡ None) → IsLog p.script p.server p.journal p.loaders
  log_over over = subst (IsLog p.script p.server p.journal) (entered_none over) known.log

  -- a trace makes no process
  traced_number : (who generation : ℕ) (l : LoaderRun) → p.holder ≡ Tracing who generation → slice_get p.loaders who ≡ Some l → l.next_process ≡ spawn_number p.script.loaders who l.done
  traced_number who generation l is found =
      let k = waits who generation is in
      let log = logged (Tracing who generation) is in
      let further : l.next_process ≡ spawn_number p.script.loaders who (l.done + 1) = log.numbers who (with_done l) (changed_here with_done p.loaders who l found) in
      let next = subst (λ n. slice_get (commands_of p.script who) n ≡ Some (Trace k.target k.on)) (ap count_in found) k.next in
      omega (arith, further, number_next p.script.loaders who l.done (Trace k.target k.on) next)

  number_traced : (who : ℕ) (l : LoaderRun) (holder generation : ℕ) → p.holder ≡ Tracing holder generation → (who ≡ holder) ⊎ (who ≡ holder → ⊥) → slice_get p.loaders who ≡ Some l → l.next_process ≡ spawn_number p.script.loaders who l.done
  number_traced who l holder generation is (inl same) found =
      traced_number holder generation l is (ap (slice_get p.loaders) (sym same) ∙ found) ∙ ap (λ n. spawn_number p.script.loaders n l.done) (sym same)
  number_traced who l holder generation is (inr other) found =
      let log = logged (Tracing holder generation) is in
      log.numbers who l (changed_there with_done p.loaders holder who other ∙ found)

  -- a loader's next process is that of its next spawn
  number_by : (who : ℕ) (l : LoaderRun) (h : Holder) → p.holder ≡ h → ((holder : ℕ) → (who ≡ holder) ⊎ (who ≡ holder → ⊥)) → slice_get p.loaders who ≡ Some l → l.next_process ≡ spawn_number p.script.loaders who l.done
  number_by who l (Tracing holder generation) is either found = number_traced who l holder generation is (either holder) found
  number_by who l Free is either found = let log = logged Free is in log.numbers who l found
  number_by who l (Held holder) is either found = let log = logged (Held holder) is in log.numbers who l found
  number_by who l (Purging holder name) is either found = let log = logged (Purging holder name) is in log.numbers who l found

  pub next_number : (who : ℕ) (l : LoaderRun) → slice_get p.loaders who ≡ Some l → l.next_process ≡ spawn_number p.script.loaders who l.done
  next_number who l found = number_by who l p.holder refl (cases_eq who) found
