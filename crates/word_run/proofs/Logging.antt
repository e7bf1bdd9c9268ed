-- The logs of processes are taken out one by one, each from the place of its number.
use Rattle.std.proofs.Common.{◌≡◌, ◌⊎◌, inl, inr, ℕ, suc, ◌+◌, ◌≤◌, ◌%◌, List, [], ◌∷◌, ◌++◌, length, length-append, length-set, Option, None, Some, option_and_then, slice_get, slice_set, refl, sym, ap, subst, ◌∙◌, arith}
use mathlib.Core.Logic.{dite}
use native.Mathlib.Decide.{ℕ_discrete}
use Rattle.std.specs.Prelude.{Vec}
use Rattle.std.specs.declared.alloc.Global.{Global}
use Rattle.std.proofs.lemmas.Option.{none-some}
use Rattle.run_log.specs.declared.logs.ProcessLog.{ProcessLog}
use Rattle.run_log.proofs.ListPlaces.{set_here, set_there}
use Rattle.word_lap.specs.declared.process_run.ProcessRun.{ProcessRun}
use Rattle.word_run.specs.Finished.{AreLogged, IsLogOfRun, IsLogged}
use Rattle.word_run.proofs.Joined.{joined_at}

abbrev Home : Type 0
Home = Vec (Option ProcessRun) Global

-- what stands at a place of a home
abbrev pub found_at : List Home → ℕ → ℕ → Option (Option ProcessRun)
found_at places k p = option_and_then (λ (h : Home). slice_get h.items p) (slice_get places k)

-- of the processes of the first numbers the logs were taken; those behind stand where they stood
pub record HaveLogged (places now : List Home) (count : ℕ) (logs : List ProcessLog) : Type 0 where
  pub same : length now ≡ length places
  pub logged : AreLogged places count logs
  pub left : (k p : ℕ) → count ≤ p → found_at now k p ≡ found_at places k p

pub none_logged : (places : List Home) (logs : List ProcessLog) → logs ≡ [] → HaveLogged places places 0 logs
none_logged places logs none = record {
  same = refl;
  logged = record { many = ap length none; each = λ number log at. absurd (none-some log (ap (λ (xs : List ProcessLog). slice_get xs number) (sym none) ∙ at)) };
  left = λ k p low. refl;
}

-- the home in which something was found
home_of : (o : Option Home) (p : ℕ) (place : Option ProcessRun) → option_and_then (λ (h : Home). slice_get h.items p) o ≡ Some place → (home : Home) × ((o ≡ Some home) × (slice_get home.items p ≡ Some place))
home_of None p place h = absurd (none-some place h)
home_of (Some home) p place h = (home, (refl, h))

module _ (places now after : List Home) (number : ℕ) (logs : List ProcessLog) (log : ProcessLog) (home home_after : Home) (h : HaveLogged places now number logs)
    (at : slice_get now (number % length places) ≡ Some home) (is : IsLogOfRun (slice_get home.items number) log) (taken : home_after.items ≡ slice_set home.items number None) (after_is : after ≡ slice_set now (number % length places) home_after) where
  abbrev own : ℕ
  own = number % length places

  log_there : IsLogged places number log
  log_there =
      let was : found_at places own number ≡ Some (Some is.run) = sym (h.left own number (omega arith)) ∙ ap (λ o. option_and_then (λ (x : Home). slice_get x.items number) o) at ∙ is.stands in
      let there = home_of (slice_get places own) number (Some is.run) was in
      record { home = there.0; homed = there.1.0; run = is.run; stands = there.1.1; is = is.is }

  logged_from : (k : ℕ) (x : ProcessLog) → (slice_get logs k ≡ Some x) ⊎ ((k ≡ length logs) × (log ≡ x)) → IsLogged places k x
  logged_from k x (inl was) = h.logged.each k x was
  logged_from k x (inr last) =
      let same : number ≡ k = omega (arith, last.0, h.logged.many) in
      subst (λ (n : ℕ). IsLogged places n x) same (subst (IsLogged places number) last.1 log_there)

  left_at : (k p : ℕ) → suc number ≤ p → found_at after k p ≡ found_at now k p
  left_at k p low =
      ap (λ (xs : List Home). found_at xs k p) after_is
      ∙ dite (ℕ_discrete k own)
      (λ (here : k ≡ own).
      ap (λ o. option_and_then (λ (x : Home). slice_get x.items p) o) (ap (slice_get (slice_set now own home_after)) here ∙ set_here now own home home_after at)
      ∙ ap (λ (xs : List (Option ProcessRun)). slice_get xs p) taken
      ∙ set_there home.items number None p (λ e. absurd (omega (arith, e, low)))
      ∙ sym (ap (λ o. option_and_then (λ (x : Home). slice_get x.items p) o) (ap (slice_get now) here ∙ at)))
      (λ (other : k ≡ own → ⊥). ap (λ o. option_and_then (λ (x : Home). slice_get x.items p) o) (set_there now own home_after k other))

  -- one more
  pub logged_next : HaveLogged places after (number + 1) (logs ++ log ∷ [])
  logged_next = record {
    same = ap length after_is ∙ length-set now own home_after ∙ h.same;
    logged = record {
      many = omega (arith, length-append logs (log ∷ []), h.logged.many);
      each = λ k x x_at. logged_from k x (joined_at logs log x k x_at);
    };
    left = λ k p low. left_at k p (omega (arith, low)) ∙ h.left k p (omega (arith, low));
  }

-- so it is where so many homes there are
pub logged_on : (places now after : List Home) (homes number : ℕ) (logs logs_after : List ProcessLog) (log : ProcessLog) (home home_after : Home) → homes ≡ length places → HaveLogged places now number logs
    → slice_get now (number % homes) ≡ Some home → IsLogOfRun (slice_get home.items number) log → home_after.items ≡ slice_set home.items number None → after ≡ slice_set now (number % homes) home_after → logs_after ≡ logs ++ log ∷ []
    → HaveLogged places after (number + 1) logs_after
logged_on places now after homes number logs logs_after log home home_after many h at is taken after_is logs_are =
    subst (HaveLogged places after (number + 1)) (sym logs_are)
    (logged_next places now after number logs log home home_after h (ap (λ (n : ℕ). slice_get now (number % n)) (sym many) ∙ at) is taken (after_is ∙ ap (λ (n : ℕ). slice_set now (number % n) home_after) many))
