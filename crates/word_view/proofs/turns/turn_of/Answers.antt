-- What the view was is known, so the view that was taken apart is that one with the member that came back.
use Rattle.std.proofs.Common.{◌≡◌, sym, ap, subst, ◌∙◌}
use Rattle.std.specs.Prelude.{IfOk, Some, List, Result}
use Rattle.term_core.specs.declared.no_memory.NoMemory.{NoMemory}
use Rattle.shared_words.specs.declared.seats.Member as tokens
use Rattle.machine_core.specs.declared.process.Line.{Line}
use Rattle.machine_core.specs.declared.process.Process.{Process}
use Rattle.machine_core.specs.declared.process.TurnEnd.{TurnEnd}
use Rattle.machine_core.specs.View.{Shown}
use Rattle.word_view.specs.Turned.{HasTurned, IsTurn}
use Rattle.word_view.specs.Views.{HasGoneOn, IsView, Viewed, held_of_view}
use Rattle.word_view.proofs.GoneOn.{gone_none}
use Rattle.word_view.proofs.turns.turn_of.Goals as goal

module _ (v : Viewed) (shown : Shown) (member : tokens.Member) (end : Result TurnEnd NoMemory) (old new : Process) (lines made : List Line) (h : HasTurned (Some v) shown member end old new lines made) where
  after_is : h.after ≡ record v { token = member }
  after_is = h.from.given ∙ ap (λ (t : tokens.Member). record v { token = t }) (sym h.token)

  pub is_turn : IfOk end (IsTurn shown (held_of_view (record v { token = member })) old new lines made)
  is_turn = subst (λ (x : Viewed). IfOk end (IsTurn shown (held_of_view x) old new lines made)) after_is h.turn

  pub is_view : IsView (record v { token = member })
  is_view = subst IsView after_is h.view

  pub has_gone : HasGoneOn v (record v { token = member })
  has_gone = subst (HasGoneOn v) after_is h.from

pub begin_turn-requires-clause-from : goal.begin_turn-requires-clause-from
begin_turn-requires-clause-from g c = gone_none (record { table = c.args.shared.now.table.shared.table_id; opening = c.args.shared.now.table.shared.key; token = c.args.member; names = c.args.exports.now; process = c.args.number })

pub returns-clause-turn : goal.returns-clause-turn
returns-clause-turn g c = is_turn _ _ _ _ _ _ _ _ c.begin_turn.ensures

pub returns-clause-view : goal.returns-clause-view
returns-clause-view g c = is_view _ _ _ _ _ _ _ _ c.begin_turn.ensures

pub returns-clause-gone : goal.returns-clause-gone
returns-clause-gone g c = has_gone _ _ _ _ _ _ _ _ c.begin_turn.ensures
