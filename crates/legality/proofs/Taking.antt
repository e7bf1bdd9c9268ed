-- A loop over the processes that takes their spans.
use Rattle.std.proofs.Common.{◌≡◌, ◌⊎◌, inl, inr, ℕ, ◌+◌, ◌<◌, ◌≤◌, List, length, get_or, set, length-set, slice_get, Some, refl, sym, ap, subst, ◌∙◌, arith}
use Rattle.std.proofs.lemmas.Bool.{cases_lt}
use Rattle.std.proofs.lemmas.Option.{same_Some, slice_get_read, slice_get_within}
use Rattle.server_core.specs.ServerState.{ServerState}
use Rattle.run_log.specs.declared.logs.Entry.{Entry}
use Rattle.run_log.specs.declared.logs.ProcessLog.{ProcessLog}
use Rattle.span_check.specs.declared.standing.Standing.{Standing}
use Rattle.span_check.specs.declared.watch.Watch.{Watch}
use Rattle.span_check.specs.Sweeps.{IsRefused, IsTaken}
use Rattle.legality.specs.Sweeps.{AllTaken, AreWatches, IsTakenWith, MayBeTaken, SomeRefused}
use Rattle.legality.proofs.SeeingAll.{set_here, set_there}

-- the spans of the processes before a place were taken, and the others stand as before
pub record HaveTaken (s : ServerState) (ahead : List Entry) (processes : List ProcessLog) (before now : List Standing) (place : ℕ) : Type 0 where
  pub many : length now ≡ length before
  pub each : (number : ℕ) (process : ProcessLog) (b a : Standing) → number < place → slice_get processes number ≡ Some process → slice_get before number ≡ Some b → slice_get now number ≡ Some a → IsTakenWith s ahead number process b a
  pub rest : (number : ℕ) → place ≤ number → slice_get now number ≡ slice_get before number

module _ (s : ServerState) (ahead : List Entry) (processes : List ProcessLog) (before : List Standing) where
  -- none were taken
  pub none_taken : HaveTaken s ahead processes before before 0
  none_taken = record { many = refl; each = λ number process b a low at was is. absurd (omega (arith, low)); rest = λ number low. refl }

  module _ (now : List Standing) (place : ℕ) (so_far : HaveTaken s ahead processes before now place) where
    -- those of one more
    one_taken : (process : ProcessLog) (b a : Standing) → slice_get processes place ≡ Some process → slice_get now place ≡ Some b → IsTakenWith s ahead place process b a → HaveTaken s ahead processes before (set now place a) (place + 1)
    one_taken process b a at was taken = record {
      many = length-set now place a ∙ so_far.many;
      each = λ number p f t low at_p was_f is_t. by number p f t low at_p was_f is_t (cases_lt number place);
      rest = λ number low. set_there now place a number (λ e. omega (arith, e, low)) ∙ so_far.rest number (omega (arith, low));
    }
      where
        by : (number : ℕ) (p : ProcessLog) (f t : Standing) → number < place + 1 → slice_get processes number ≡ Some p → slice_get before number ≡ Some f → slice_get (set now place a) number ≡ Some t → (number < place) ⊎ (place ≤ number)
            → IsTakenWith s ahead number p f t
        by number p f t low at_p was_f is_t (inl less) = so_far.each number p f t less at_p was_f (sym (set_there now place a number (λ e. omega (arith, e, less))) ∙ is_t)
        by number p f t low at_p was_f is_t (inr high) =
            let same : place ≡ number = omega (arith, low, high) in
            let a_is : a ≡ t = set_here now place a t (ap (slice_get (set now place a)) same ∙ is_t) in
            let b_is : b ≡ f = same_Some b f (sym was ∙ so_far.rest place (omega arith) ∙ ap (slice_get before) same ∙ was_f) in
            let p_is : process ≡ p = same_Some process p (sym at ∙ ap (slice_get processes) same ∙ at_p) in
            subst (λ n. IsTakenWith s ahead n p f t) same
            (subst (λ x. IsTakenWith s ahead place x f t) p_is (subst (λ x. IsTakenWith s ahead place process x t) b_is (subst (λ x. IsTakenWith s ahead place process b x) a_is taken)))

    -- those of all
    pub all_taken : length processes ≤ place → AllTaken s ahead processes before now
    all_taken end = record {
      many = so_far.many;
      each = λ number process b a at was is. so_far.each number process b a (let h = slice_get_within processes number process at in omega (arith, h, end)) at was is;
    }

    module _ (process : ProcessLog) (standing : Standing) (within : place < length processes) (as_many : length before ≡ length processes) (is : process ≡ get_or processes place process) (stands : standing ≡ get_or now place standing) where
      process_at : slice_get processes place ≡ Some process
      process_at = slice_get_read processes (length processes) place process refl within is

      now_at : slice_get now place ≡ Some standing
      now_at = slice_get_read now (length now) place standing refl (omega (arith, within, as_many, so_far.many)) stands

      before_at : slice_get before place ≡ Some standing
      before_at = sym (so_far.rest place (omega arith)) ∙ now_at

      -- the next ones may be taken
      pub next_may : ((number : ℕ) (p : ProcessLog) (x : Standing) → slice_get processes number ≡ Some p → slice_get before number ≡ Some x → MayBeTaken s p x) → MayBeTaken s process standing
      next_may h = h place process standing process_at before_at

      -- they were taken
      pub next_taken : (watches : List Watch) (after : Standing) → AreWatches s place ahead watches → IsTaken s process watches standing after → HaveTaken s ahead processes before (set now place after) (place + 1)
      next_taken watches after are taken = one_taken process standing after process_at now_at (record { watches = watches; are = are; taken = taken })

      -- or refused
      pub next_refused : (watches : List Watch) → AreWatches s place ahead watches → IsRefused s process watches standing → SomeRefused s ahead processes before
      next_refused watches are refused = record { number = place; process = process; standing = standing; watches = watches; process_at = process_at; standing_at = before_at; are = are; refused = refused }
