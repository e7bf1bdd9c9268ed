-- Where a process stands it stands under later states of the server.
use Rattle.server_core.specs.ServerState.{ServerState, empty_state}
use Rattle.machine_core.specs.LaterStates.{HasAreas}
use Rattle.std.proofs.Common.{ℕ, List}
use Rattle.script_core.specs.declared.script.Script.{Script}
use Rattle.run_log.specs.declared.logs.ProcessLog.{ProcessLog}
use Rattle.run_log.specs.declared.logs.RunLog.{RunLog}
use Rattle.run_log.specs.Journal.{state_at}
use Rattle.span_check.specs.declared.standing.Standing.{Standing}
use Rattle.span_check.proofs.StandingLaws.{ready_later, stands_later}
use Rattle.legality.specs.Sweeps.{AreStanding, IsStanding}

module _ (s t : ServerState) (stay : HasAreas s t) (script : Script) (log : RunLog) (generation : ℕ) where
  standing_later : (number : ℕ) (process : ProcessLog) (standing : Standing) → IsStanding script log s generation number process standing → IsStanding script log t generation number process standing
  standing_later number process standing h = record {
    stands = stands_later s t stay (state_at script.modules empty_state log.journal) number process standing h.ready h.stands;
    reached = h.reached;
    ready = ready_later s t standing stay h.ready;
    named = h.named;
  }

  -- so do all
  pub standings_later : (standings : List Standing) → AreStanding script log s generation standings → AreStanding script log t generation standings
  standings_later standings h = record { many = h.many; each = λ number process standing at is. standing_later number process standing (h.each number process standing at is) }
