-- A process may have another turn: before its first one, where one ended, and under a later state of the server.
use Rattle.std.proofs.Common.{◌≡◌, ◌≤◌, ℕ, lit≤, sym, subst, refl, List, Result, Ok, Err}
use Rattle.std.specs.Prelude.{IfOk}
use Rattle.term_core.specs.declared.hold.TheConstants.{MOST_AREAS}
use Rattle.term_core.specs.declared.no_memory.NoMemory.{NoMemory}
use Rattle.term_core.specs.declared.atom.Mfa.{Mfa}
use Rattle.term_core.specs.PlainTerm.{PlainTerm}
use Rattle.server_core.specs.ServerState.{ServerState}
use Rattle.machine_core.specs.declared.process.Line.{Line}
use Rattle.machine_core.specs.declared.process.Process.{Process}
use Rattle.machine_core.specs.declared.process.TurnEnd.{TurnEnd}
use Rattle.machine_core.specs.declared.process.TurnEnd.TheVariants.{Again}
use Rattle.machine_core.specs.Holds.{area_count}
use Rattle.machine_core.specs.Process.{PlainProcess, Words, names_of, new_process, process_of}
use Rattle.machine_core.specs.ServerReads.{reads_of}
use Rattle.machine_core.specs.Turn.{MayTurn, TurnGives}
use Rattle.machine_core.specs.View.{Viewed, server_words, shown_of}
use Rattle.machine_core.proofs.FewAreas.{turn_few}
use Rattle.machine_core.specs.LaterStates.{HasAreas}
use Rattle.machine_core.proofs.LaterWords.{process_later}
use Rattle.machine_core.proofs.TurnLaws.{may_turn_later, may_turn_new}
use Rattle.span_check.specs.Standings.{MayGoOn}

-- a process that has had no turn
pub goes_first : (s : ServerState) (p : Process) (number : ℕ) (target : Mfa) (args : List PlainTerm) → process_of (server_words s) p ≡ new_process number target args → MayGoOn s p
goes_first s p number target args e = record {
  may_turn = may_turn_new (shown_of s) p number target args e;
  few = subst (λ (q : PlainProcess). area_count (names_of q) ≤ MOST_AREAS) (sym e) (lit≤ tt);
}

-- one under a later state, where all areas are there still
pub goes_later : (older newer : ServerState) (p : Process) → HasAreas older newer → MayGoOn older p → MayGoOn newer p
goes_later older newer p has old =
    let same = process_later older newer has.words p old.may_turn.values in
    record {
      may_turn = may_turn_later older newer (names_of (process_of (server_words older) p)) (names_of (process_of (server_words newer) p)) p has refl old.may_turn;
      few = subst (λ (q : PlainProcess). area_count (names_of q) ≤ MOST_AREAS) (sym same) old.few;
    }

goes_after : (s : ServerState) (before after : Process) (old now : List Line) (held : _) (end : TurnEnd) → MayGoOn s before → TurnGives (reads_of s) (process_of (server_words s) before) (process_of (server_words s) after) old now end → MayTurn (shown_of s) held after → MayGoOn s after
goes_after s before after old now held end ready gives may = record {
  may_turn = record { going = may.going; names = refl; placed = may.placed; values = may.values };
  few = subst (λ (q : PlainProcess). area_count (names_of q) ≤ MOST_AREAS) gives.process (turn_few s (process_of (server_words s) before) ready.few);
}

goes_at : (r : Result TurnEnd NoMemory) (s : ServerState) (before after : Process) (later : Viewed) (old now : List Line) → MayGoOn s before
    → IfOk r (λ end. TurnGives (reads_of s) (process_of (server_words s) before) (process_of (server_words s) after) old now end) → IfOk r (λ end. end ≡ Again → MayTurn (shown_of s) later.held after) → IfOk r (λ end. end ≡ Again → MayGoOn s after)
goes_at (Ok end) s before after later old now ready gives again = λ e. goes_after s before after old now later.held end ready gives (again e)
goes_at (Err refused) s before after later old now ready gives again = gives

-- one that a turn leaves, where it goes on
pub goes_again : (r : Result TurnEnd NoMemory) (s : ServerState) (view : Viewed) (before after : Process) (later : Viewed) (old now : List Line) → MayGoOn s before → view.state ≡ s
    → IfOk r (λ end. TurnGives (reads_of view.state) (process_of (server_words view.state) before) (process_of (server_words view.state) after) old now end) → IfOk r (λ end. end ≡ Again → MayTurn (shown_of view.state) later.held after)
    → IfOk r (λ end. end ≡ Again → MayGoOn s after)
goes_again r s view before after later old now ready same gives again =
    goes_at r s before after later old now ready
    (subst (λ x. IfOk r (λ end. TurnGives (reads_of x) (process_of (server_words x) before) (process_of (server_words x) after) old now end)) same gives)
    (subst (λ x. IfOk r (λ end. end ≡ Again → MayTurn (shown_of x) later.held after)) same again)

-- one that was just made, in any state
pub goes_new : (r : Result Process NoMemory) (number : ℕ) (target : Mfa) (args : List PlainTerm) → ((words : Words) → IfOk r (λ p. process_of words p ≡ new_process number target args)) → IfOk r (λ p. (s : ServerState) → MayGoOn s p)
goes_new (Ok p) number target args h = λ s. goes_first s p number target args (h (server_words s))
goes_new (Err refused) number target args h = tt
