-- Each copier that is taken out comes in.
use Rattle.std.proofs.Common.{◌≡◌, ◌+◌, List, Some, length, sym, ap, ◌∙◌, arith}
use Rattle.std.proofs.lemmas.List.{length_push}
use Rattle.std.proofs.lemmas.List.Elements.{All-pop}
use Rattle.copy_turns.specs.Copiers.{CopierState, turn_holder}
use Rattle.copy_turns.specs.Holdings.{turn_held_in}
use Rattle.copy_turns.proofs.LastHolders.{holder_last}
use Rattle.copy_turns.proofs.closing.take_in_all.Goals as goal

-- one more
pub copiers-preserved : goal.copiers-preserved
copiers-preserved c =
    let more = c.take_in.ensures.copiers in
    let long : length c.copiers.copiers ≡ length c.pop.new.self + 1 = ap length c.in-Some.ensures ∙ length_push c.pop.new.self c.in-Some.copier in
    let before = c.copiers.invariant.counted in
    record {
      token = record {
        same_table = c.take_in.ensures.token.same_table ∙ c.copiers.invariant.token.same_table;
        same_number = c.take_in.ensures.token.same_number ∙ c.copiers.invariant.token.same_number;
        same_slots = c.take_in.ensures.token.same_slots ∙ c.copiers.invariant.token.same_slots;
      };
      theirs = (All-pop (λ (copier : CopierState). copier.table ≡ c.args.table.now.table_id) c.copiers.copiers c.pop.new.self (Some c.in-Some.copier) c.in-Some.ensures c.copiers.invariant.theirs).0;
      held = λ turn.
          ap (turn_holder turn c.pop.new.self) (c.take_in.ensures.held turn)
          ∙ sym (holder_last turn c.pop.new.self c.in-Some.copier (turn_held_in turn c.copiers.all.me.0))
          ∙ ap (λ (cs : List CopierState). turn_holder turn cs (turn_held_in turn c.copiers.all.me.0)) (sym c.in-Some.ensures)
          ∙ c.copiers.invariant.held turn;
      counted = omega arith;
    }
