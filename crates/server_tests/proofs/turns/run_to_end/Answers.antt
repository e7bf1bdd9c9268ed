-- A process that has had no turn may have one.
use Rattle.std.proofs.Common.{◌≡◌, ◌∙◌, [], ap, subst, sym}
use Rattle.machine_core.specs.declared.process.Process.{Process}
use Rattle.machine_core.specs.Holds.{Holds}
use Rattle.machine_core.specs.Process.{Words, names_of, new_process, process_of}
use Rattle.machine_core.specs.Turn.{MayTurn}
use Rattle.machine_core.specs.View.{server_words, shown_of}
use Rattle.machine_core.proofs.TurnLaws.{may_turn_new}
use Rattle.server_tests.proofs.turns.run_to_end.Goals as goal
use Rattle.server_core.specs.ServerState.{ServerState}

-- a process that has had no turn may have one
first_ready : (s seen : ServerState) (held : Holds) (p : Process) → seen ≡ s → held ≡ names_of (process_of (server_words s) p) → ((words : Words) → (process_of words p).frames ≡ []) → ((words : Words) → (process_of words p).turns ≡ 0) →
    MayTurn (shown_of seen) held p
first_ready s seen held p e h none unused =
    let new : process_of (server_words s) p ≡ new_process p.number p.target p.args =
    ap (λ frames. record { number = p.number; target = p.target; args = p.args; turns = p.turns; frames = frames }) (none (server_words s))
    ∙ ap (λ turns. record { number = p.number; target = p.target; args = p.args; turns = turns; frames = [] }) (unused (server_words s)) in
    subst (λ (t : ServerState). MayTurn (shown_of t) held p) (sym e) (subst (λ (k : Holds). MayTurn (shown_of s) k p) (sym h) (may_turn_new (shown_of s) p p.number p.target p.args new))

pub loop-init : goal.loop-init
loop-init c = record {
  lawful = c.in_ok-view.ensures.lawful;
  ready = first_ready c.args.server.now c.in_ok-view.view.state c.in_ok-view.view.held c.args.process c.in_ok-view.ensures.state c.in_ok-view.ensures.held c.requires.frames c.requires.turns;
}
