-- The clauses of a lawful log by their names, and what it is that a log breaks one.
-- Source: this project's profile. What was found of a log that tells of lingering processes is told in two ways: with what it tells of them, and without.
use Rattle.std.specs.Prelude.{◌≡◌, Bool, true, false, Option, Some, None}
use Rattle.server_core.specs.ServerState.{empty_state}
use Rattle.script_core.specs.declared.script.Script.{Script}
use Rattle.run_log.specs.declared.logs.RunLog.{RunLog}
use Rattle.run_log.specs.Legal as legal
use Rattle.legality.specs.declared.breach.Breach.{Breach}
use Rattle.legality.specs.declared.breach.Clause.{Clause}
use Rattle.legality.specs.declared.breach.Clause.TheVariants as clauses

-- what a clause says of a log
abbrev pub ClauseHolds : Clause → Script → RunLog → Type 0
ClauseHolds clauses.Replays s log = legal.Replays s.modules empty_state log.journal
ClauseHolds clauses.LoadersInOrder s log = legal.LoadersInOrder s log.journal
ClauseHolds clauses.SpawnBeforeTurns s log = legal.SpawnBeforeTurns s log
ClauseHolds clauses.TurnsFollow s log = legal.TurnsFollow s log
ClauseHolds clauses.ReleasedUnnamed s log = legal.ReleasedUnnamed s log
ClauseHolds clauses.LingersTold s log = legal.LingersTold s log
ClauseHolds clauses.PurgedUnnamed s log = legal.PurgedUnnamed s log
ClauseHolds clauses.SnapshotsTrue s log = legal.SnapshotsTrue s log
ClauseHolds clauses.NothingRetired s log = legal.NothingRetired s log
ClauseHolds clauses.Complete s log = legal.Complete s log

-- whether a clause is about what soft purges tell of processes that linger
abbrev pub is_of_linger : Clause → Bool
is_of_linger clauses.LingersTold = true
is_of_linger _ = false

-- each clause holds; where it is not watched who lingers, all but that
abbrev pub ClausesHold : Bool → Script → RunLog → Type 0
ClausesHold watched s log = (clause : Clause) → (is_of_linger clause ≡ true → watched ≡ true) → ClauseHolds clause s log

-- a clause does not hold; where it is about lingering processes and these are watched, it does not hold beside the others
abbrev pub IsBroken : Bool → Script → RunLog → Clause → Type 0
IsBroken watched s log clause = (is_of_linger clause ≡ true → watched ≡ true → ClausesHold false s log) → ClauseHolds clause s log → ⊥

-- how a log was judged
abbrev pub IsJudged : Bool → Script → RunLog → Option Breach → Type 0
IsJudged watched s log None = ClausesHold watched s log
IsJudged watched s log (Some breach) = IsBroken watched s log breach.clause
