-- A process that goes on after a turn, or is counted further, may have another turn.
use Rattle.std.proofs.Common.{◌≡◌, ◌≤◌, ◌+◌, ◌<◌, ◌∙◌, ℕ, lit≤, ap, sym, subst, refl, arith, List, Result, Ok, Err, IfOk}
use Rattle.term_core.specs.declared.hold.TheConstants.{MOST_AREAS}
use Rattle.term_core.specs.declared.no_memory.NoMemory.{NoMemory}
use Rattle.term_core.specs.declared.atom.Mfa.{Mfa}
use Rattle.term_core.specs.PlainTerm.{PlainTerm}
use Rattle.server_core.specs.ServerState.{ServerState}
use Rattle.machine_core.specs.declared.process.Line.{Line}
use Rattle.machine_core.specs.declared.process.Process.{Process}
use Rattle.machine_core.specs.declared.process.TurnEnd.{TurnEnd}
use Rattle.machine_core.specs.declared.process.TurnEnd.TheVariants.{Again}
use Rattle.machine_core.specs.Holds.{area_count}
use Rattle.machine_core.specs.Process.{PlainProcess, names_of, new_process, process_of}
use Rattle.machine_core.specs.ServerReads.{reads_of}
use Rattle.machine_core.specs.Turn.{MayTurn, Turn, TurnGives, turn_of}
use Rattle.machine_core.specs.View.{Viewed, server_words, shown_of}
use Rattle.machine_core.proofs.FewAreas.{turn_few}
use Rattle.machine_core.proofs.TurnLaws.{may_turn_new}
use Rattle.run_log.proofs.Marks.{again_counts}
use Rattle.span_check.specs.Standings.{MayGoOn}

may_go_on : (s : ServerState) (before after : Process) (old now : List Line) (held : _) (end : TurnEnd) → MayGoOn s before → TurnGives (reads_of s) (process_of (server_words s) before) (process_of (server_words s) after) old now end → MayTurn (shown_of s) held after → MayGoOn s after
may_go_on s before after old now held end ready gives may = record {
  may_turn = record { going = may.going; names = refl; placed = may.placed; values = may.values };
  few = subst (λ (q : PlainProcess). area_count (names_of q) ≤ MOST_AREAS) gives.process (turn_few s (process_of (server_words s) before) ready.few);
}

ready_at : (r : Result TurnEnd NoMemory) (s : ServerState) (before after : Process) (later : Viewed) (old now : List Line) → MayGoOn s before
    → IfOk r (λ end. TurnGives (reads_of s) (process_of (server_words s) before) (process_of (server_words s) after) old now end) → IfOk r (λ end. end ≡ Again → MayTurn (shown_of s) later.held after) → IfOk r (λ end. end ≡ Again → MayGoOn s after)
ready_at (Ok end) s before after later old now ready gives again = λ e. may_go_on s before after old now later.held end ready gives (again e)
ready_at (Err refused) s before after later old now ready gives again = gives

-- the process that a turn leaves, where it goes on
pub ready_again : (r : Result TurnEnd NoMemory) (s : ServerState) (view : Viewed) (before after : Process) (later : Viewed) (old now : List Line) → MayGoOn s before → view.state ≡ s
    → IfOk r (λ end. TurnGives (reads_of view.state) (process_of (server_words view.state) before) (process_of (server_words view.state) after) old now end) → IfOk r (λ end. end ≡ Again → MayTurn (shown_of view.state) later.held after)
    → IfOk r (λ end. end ≡ Again → MayGoOn s after)
ready_again r s view before after later old now ready same gives again =
    ready_at r s before after later old now ready
    (subst (λ x. IfOk r (λ end. TurnGives (reads_of x) (process_of (server_words x) before) (process_of (server_words x) after) old now end)) same gives)
    (subst (λ x. IfOk r (λ end. end ≡ Again → MayTurn (shown_of x) later.held after)) same again)

-- a process that had a turn may have more of them counted
pub ready_counted : (s : ServerState) (p q : Process) (turns : ℕ) → 0 < p.turns → q ≡ record p { turns = turns } → MayGoOn s p → MayGoOn s q
ready_counted s p q turns some is ready = subst (MayGoOn s) (sym is) (record {
  may_turn = record { going = λ e. absurd (omega (arith, some, ready.may_turn.going e)); names = refl; placed = ready.may_turn.placed; values = ready.may_turn.values };
  few = ready.few;
})

-- so where a turn went on
pub ready_more : (s : ServerState) (before middle now : Process) (made : List Line) (end : TurnEnd) (more : ℕ) → turn_of s (process_of (server_words s) before) ≡ record { process = process_of (server_words s) middle; made = made; end = end }
    → now ≡ record middle { turns = middle.turns + more } → (end ≡ Again → MayGoOn s middle) → end ≡ Again → MayGoOn s now
ready_more s before middle now made end more gives is ready again =
    let count : middle.turns ≡ before.turns + 1 = ap (λ (t : Turn). t.process.turns) (sym gives) ∙ again_counts s (process_of (server_words s) before) (ap (λ (t : Turn). t.end) gives ∙ again) in
    ready_counted s middle now (middle.turns + more) (omega (arith, count)) is (ready again)

-- a process that has had no turn may have one
pub ready_new : (s : ServerState) (p : Process) (number : ℕ) (target : Mfa) (args : List PlainTerm) → process_of (server_words s) p ≡ new_process number target args → MayGoOn s p
ready_new s p number target args e = record {
  may_turn = may_turn_new (shown_of s) p number target args e;
  few = subst (λ (q : PlainProcess). area_count (names_of q) ≤ MOST_AREAS) (sym e) (lit≤ tt);
}
