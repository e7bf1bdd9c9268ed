-- The member leads, and no process of its has a slot.
use Rattle.std.proofs.Common.{◌≡◌, []}
use Rattle.progress_words.specs.Tokens.{view_of, IsMemberOf}
use Rattle.progress_words.specs.Leads.{IsLeader}
use Rattle.grace_bench.proofs.grace.advance_on.Given as goal

abbrev pub invariant-loop : goal.invariant-loop
invariant-loop g l = record {
  token : IsMemberOf l.fn.shared.table.shared.table_id l.leader;
  leads : IsLeader (view_of l.leader);
  slots : (view_of l.leader).slots ≡ [];
}
