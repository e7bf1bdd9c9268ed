-- How many funs there are of each instance: a finite map from serials to numbers of at least 1.
-- Source: Erlang/OTP erts, erl_fun.c, where the entry of a fun in a module counts the funs that refer to it. Here all funs
-- of one instance have one number, since a purge asks for the instance. The code has an ordered map.
use Rattle.std.specs.Prelude.{◌≡◌, ◌≢◌, ℕ, ◌+◌, ◌≤◌, List, All, unwrap_or}
use Rattle.std.specs.Ordering.{nat_cmp}
use Rattle.std.specs.Map.{lookup, values_of}
use Rattle.std.specs.BTreeMap.{is_at}

-- how many are counted of an instance; none where it has no number
abbrev pub fun_number : List (ℕ × ℕ) → ℕ → ℕ
fun_number counts serial = unwrap_or (lookup (is_at (nat_cmp serial)) counts) 0

-- each number in the map is 1 at least
abbrev pub AreAtLeastOne : List (ℕ × ℕ) → Type 0
AreAtLeastOne counts = All (λ number. 1 ≤ number) (values_of counts)

-- the new map counts one fun more of the instance, and of the others as many as the old one
pub record AddsFun (serial : ℕ) (old new : List (ℕ × ℕ)) : Type 0 where
  pub here : fun_number new serial ≡ fun_number old serial + 1
  pub others : (other : ℕ) → other ≢ serial → fun_number new other ≡ fun_number old other
