-- What callers see of counts and of their counters.
-- Source: as Tallies. erlang:trace_info/2 tells of one function how often it was called; the numbers here are told of all
-- names together, once nobody counts any more, and while others count one is told at least its own hits.
use Rattle.std.specs.Prelude.{◌≡◌, ℕ, ◌<◌, List, [], length, Some, All, slice_get, refl}
use Rattle.std.specs.Coded.{Coded, code_by, coded×, coded_ℕ, coded_list}
use Rattle.atomic_table.specs.Seated.{TableId, table_id_coded}
use Rattle.bp_counts.specs.Tallies.{hits_of}

-- counts: which table of words they have, how many names, and how many counters
pub record CountTable : Type 0 where
  pub table : TableId
  pub names : ℕ
  pub counters : ℕ

-- a counter: which table its counts have, and the names that it hit, the newest first
pub record CounterHits : Type 0 where
  pub table : TableId
  pub hits : List ℕ

-- what counts show can be coded, as each value of a model must be
abbrev pub count_table_code : Coded CountTable
count_table_code =
    code_by
    (TableId × (ℕ × ℕ))
    (coded× table_id_coded (coded× coded_ℕ coded_ℕ))
    (λ c. (c.table, (c.names, c.counters)))
    (λ p. record { table = p.0; names = p.1.0; counters = p.1.1 })
    (λ _. refl)

-- and so can what a counter shows
abbrev pub counter_hits_code : Coded CounterHits
counter_hits_code = code_by (TableId × List ℕ) (coded× table_id_coded (coded_list coded_ℕ)) (λ c. (c.table, c.hits)) (λ p. record { table = p.0; hits = p.1 }) (λ _. refl)

-- a counter that has hit nothing
abbrev pub unused : TableId → CounterHits
unused table = record { table = table; hits = [] }

-- these have hit nothing
abbrev pub AreUnused : List CounterHits → Type 0
AreUnused counters = All (λ counter. counter.hits ≡ []) counters

-- these are all counters of the counts
pub record AreAllCounters (counts : CountTable) (counters : List CounterHits) : Type 0 where
  pub all : length counters ≡ counts.counters
  pub theirs : All (λ counter. counter.table ≡ counts.table) counters

-- how often a counter hit a name
abbrev pub hits_in : ℕ → CounterHits → ℕ
hits_in which counter = hits_of which counter.hits

-- for each of so many names, how often it stands among these hits
pub record AreTotals (hits : List ℕ) (names : ℕ) (totals : List ℕ) : Type 0 where
  pub long : length totals ≡ names
  pub each : (which : ℕ) → which < names → slice_get totals which ≡ Some (hits_of which hits)
