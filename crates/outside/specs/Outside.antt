-- The outside of the program: what a source has left to give, what a sink has got, and how often each has failed.
-- What is left and what was got may be untold, as at a terminal or a pipe; then the counts alone say something.
use Rattle.std.specs.Prelude.{ℕ, ◌+◌, ◌-◌, ◌^◌, ◌<◌, ◌≤◌, min, List, length, take, Result, OnErr}
use Rattle.std.specs.declared.option.Option.{Option}
use Rattle.std.specs.Io.KnownBytes.{Appends, Consumes}

-- the next value of a count that stands still at the end of a `u64`
abbrev pub one_more : ℕ → ℕ
one_more count = min (count + 1) (2 ^ 64 - 1)

-- the count rose; one that stands at the end of a `u64` passes as risen
abbrev pub Rose : ℕ → ℕ → Type 0
Rose before now = one_more before ≤ now

-- the count of faults did not fall, and there is an error only where it rose
pub record HasCause {T E : Type 0} (before now : ℕ) (result : Result T E) : Type 0 where
  pub later : before ≤ now
  pub failed : OnErr result (Rose before now)

-- some bytes are gone from the front of what was left, so many at most, and what was told is still told
pub record TakesUpTo (most : ℕ) (old new : Option (List ℕ)) : Type 0 where
  pub bytes : List ℕ
  pub gone : Consumes old new bytes
  pub bound : length bytes ≤ most

-- a prefix of the text was got, and not the whole of it
pub record GetsPrefix (old new : Option (List ℕ)) (text : List ℕ) : Type 0 where
  pub count : ℕ
  pub grown : Appends old new (take count text)
  pub short : count < length text
