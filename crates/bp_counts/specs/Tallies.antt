-- What a seat at the counts has hit, and how often it may still hit. Seats are tokens: the code stores none of this.
-- Source: Erlang/OTP erts, call count trace: erlang:trace_pattern/3 with call_count, by which each call of a function
-- raises a counter by one, in whichever process. That a counter may hit so often and no more is this project's own.
use Rattle.std.specs.Prelude.{ℕ, ◌+◌, ◌-◌, ◌*◌, ◌==◌, List, [], ◌∷◌, ◌++◌, length, count_by}
use Rattle.bp_counts.specs.declared.counter.TheConstants.{MOST_HITS}
use Rattle.bp_counts.specs.declared.tally.Tally.{Tally}

-- how often a name was hit, of these hits
abbrev pub hits_of : ℕ → List ℕ → ℕ
hits_of which hits = count_by (λ hit. hit == which) hits

-- what a seat has hit and may still hit, together
abbrev pub share : Tally → ℕ
share t = length t.hits + t.left

-- a seat that has hit nothing, and may hit so often
abbrev pub unused_tally : ℕ → Tally
unused_tally left = record { hits = []; left = left }

-- the first seat, from which those of so many counters are taken
abbrev pub opening_tally : ℕ → Tally
opening_tally counters = unused_tally (counters * MOST_HITS)

-- it has given the hits of one counter away
abbrev pub tally_left : Tally → Tally
tally_left t = record t { left = t.left - MOST_HITS }

-- which are that counter's
abbrev pub tally_given : Tally → Tally
tally_given t = unused_tally MOST_HITS

-- a name is hit once more
abbrev pub with_hit : ℕ → Tally → Tally
with_hit which t = record { hits = which ∷ t.hits; left = t.left - 1 }

-- one seat that has all that two had
abbrev pub tallies_joined : Tally → Tally → Tally
tallies_joined t other = record { hits = t.hits ++ other.hits; left = t.left + other.left }

-- the other one has nothing any more
abbrev pub tally_spent : Tally
tally_spent = unused_tally 0
