-- A lawful log is one of which each clause holds.
use Rattle.std.proofs.Common.{◌≡◌, Bool, true, false, refl}
use Rattle.std.proofs.lemmas.Bool.{false≢true}
use Rattle.script_core.specs.declared.script.Script.{Script}
use Rattle.run_log.specs.declared.logs.RunLog.{RunLog}
use Rattle.run_log.specs.Legal.{Legal, LingersTold}
use Rattle.legality.specs.Breaches.{ClauseHolds, ClausesHold, is_of_linger}
use Rattle.legality.specs.declared.breach.Clause.{Clause}
use Rattle.legality.specs.declared.breach.Clause.TheVariants as clauses

-- a log of which each clause holds is lawful
pub legal_by : (s : Script) (log : RunLog) → ((clause : Clause) → ClauseHolds clause s log) → Legal s log
legal_by s log holds = record {
  replays = holds clauses.Replays;
  loaders_in_order = holds clauses.LoadersInOrder;
  spawn_before_turns = holds clauses.SpawnBeforeTurns;
  turns_follow = holds clauses.TurnsFollow;
  released_unnamed = holds clauses.ReleasedUnnamed;
  lingers_told = holds clauses.LingersTold;
  purged_unnamed = holds clauses.PurgedUnnamed;
  snapshots_true = holds clauses.SnapshotsTrue;
  nothing_retired = holds clauses.NothingRetired;
  complete = holds clauses.Complete;
}

-- each clause of a lawful log holds
pub clause_of_legal : (s : Script) (log : RunLog) → Legal s log → (clause : Clause) → ClauseHolds clause s log
clause_of_legal s log legal clauses.Replays = legal.replays
clause_of_legal s log legal clauses.LoadersInOrder = legal.loaders_in_order
clause_of_legal s log legal clauses.SpawnBeforeTurns = legal.spawn_before_turns
clause_of_legal s log legal clauses.TurnsFollow = legal.turns_follow
clause_of_legal s log legal clauses.ReleasedUnnamed = legal.released_unnamed
clause_of_legal s log legal clauses.LingersTold = legal.lingers_told
clause_of_legal s log legal clauses.PurgedUnnamed = legal.purged_unnamed
clause_of_legal s log legal clauses.SnapshotsTrue = legal.snapshots_true
clause_of_legal s log legal clauses.NothingRetired = legal.nothing_retired
clause_of_legal s log legal clauses.Complete = legal.complete

-- where all others hold and what is told of lingering processes is so, the log is lawful
pub legal_with : (s : Script) (log : RunLog) → ClausesHold false s log → LingersTold s log → Legal s log
legal_with s log others told = record {
  replays = others clauses.Replays (λ e. absurd (false≢true e));
  loaders_in_order = others clauses.LoadersInOrder (λ e. absurd (false≢true e));
  spawn_before_turns = others clauses.SpawnBeforeTurns (λ e. absurd (false≢true e));
  turns_follow = others clauses.TurnsFollow (λ e. absurd (false≢true e));
  released_unnamed = others clauses.ReleasedUnnamed (λ e. absurd (false≢true e));
  lingers_told = told;
  purged_unnamed = others clauses.PurgedUnnamed (λ e. absurd (false≢true e));
  snapshots_true = others clauses.SnapshotsTrue (λ e. absurd (false≢true e));
  nothing_retired = others clauses.NothingRetired (λ e. absurd (false≢true e));
  complete = others clauses.Complete (λ e. absurd (false≢true e));
}

-- where all are watched and hold, the log is lawful
pub legal_watched : (s : Script) (log : RunLog) → ClausesHold true s log → Legal s log
legal_watched s log holds = legal_by s log (λ clause. holds clause (λ e. refl))

-- a clause that does not hold beside the others holds in no lawful log
pub not_legal : (s : Script) (log : RunLog) (watched : Bool) (clause : Clause) → ((is_of_linger clause ≡ true → watched ≡ true → ClausesHold false s log) → ClauseHolds clause s log → ⊥) → Legal s log → ⊥
not_legal s log watched clause broken legal = broken (λ e h c f. clause_of_legal s log legal c) (clause_of_legal s log legal clause)
