-- Whether the commands of all loaders are done.
use Rattle.std.proofs.Common.{◌≡◌, ℕ, zero, suc, ◌+◌, ◌<◌, ◌≤◌, List, [], ◌∷◌, length, slice_get, Option, Some, None, is_some, false, ◌⊎◌, inl, inr, refl, sym, ap, ◌∙◌, arith}
use Rattle.std.proofs.lemmas.Bool.{cases_lt, false≢true}
use Rattle.script_core.specs.declared.script.ScriptCmd.{ScriptCmd}
use Rattle.script_core.specs.Processes.{commands_at}
use Rattle.write_permit.specs.Permit.{PermitState, done_of, next_of}

done_beyond : (loaders : List (List ScriptCmd)) (k place : ℕ) → length loaders ≤ k → slice_get (commands_at loaders k) place ≡ None
done_beyond [] k place h = refl
done_beyond (commands ∷ loaders) zero place h = absurd (omega (arith, h))
done_beyond (commands ∷ loaders) (suc k) place h = done_beyond loaders k place (omega (arith, h))

-- where each loader was asked, all are done
pub over_by : (p : PermitState) (n : ℕ) → length p.script.loaders ≤ n → ((k : ℕ) → k < n → next_of p k ≡ None) → (loader : ℕ) → next_of p loader ≡ None
over_by p n end below loader = by (cases_lt loader n)
  where
    by : (loader < n) ⊎ (n ≤ loader) → next_of p loader ≡ None
    by (inl early) = below loader early
    by (inr late) = done_beyond p.script.loaders loader (done_of p.loaders loader) (omega (arith, end, late))

-- one more was asked
pub over_more : (p : PermitState) (n : ℕ) → ((k : ℕ) → k < n → next_of p k ≡ None) → next_of p n ≡ None → (k : ℕ) → k < n + 1 → next_of p k ≡ None
over_more p n below here k less = by (cases_lt k n)
  where
    by : (k < n) ⊎ (n ≤ k) → next_of p k ≡ None
    by (inl early) = below k early
    by (inr late) = let same : k ≡ n = omega (arith, less, late) in ap (next_of p) same ∙ here

pub none_is : {X : Type 0} (o : Option X) → is_some o ≡ false → o ≡ None
none_is None h = refl
none_is (Some x) h = absurd (false≢true (sym h))
