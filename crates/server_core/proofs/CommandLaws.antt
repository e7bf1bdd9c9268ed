-- What a put leaves.
use Rattle.std.proofs.Common.{◌≡◌, ℕ, Bool, true, false, if◌then◌else◌}
use Rattle.term_core.specs.Image.{is_immediate}
use Rattle.term_core.specs.PlainTerm.{PlainTerm}
use Rattle.server_core.specs.ServerState.{ServerState}
use Rattle.server_core.specs.CommandTable.{with_complex, with_immediate, with_put}

-- what a put leaves, whether its term is complex or not
pub put_keeps : {A : Type 0} (f : ServerState → A) (s : ServerState) (key : ℕ) (term : PlainTerm) (x : A) → f (with_immediate s key term) ≡ x → f (with_complex s key term) ≡ x → f (with_put s key term) ≡ x
put_keeps f s key term x immediate complex = by (is_immediate term)
  where
    by : (b : Bool) → f (if b then with_immediate s key term else with_complex s key term) ≡ x
    by true = immediate
    by false = complex
