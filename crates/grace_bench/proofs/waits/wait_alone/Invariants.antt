-- Who waits may ask once more, for the value that was taken.
use Rattle.std.proofs.Common.{◌≡◌, []}
use Rattle.shared_words.specs.Views.{newest_number}
use Rattle.progress_words.specs.Tokens.{view_of, written_by, IsMemberOf, IsWriterOf}
use Rattle.progress_words.specs.Leads.{IsLeader}
use Rattle.progress_words.specs.Needs.{HasTaken}
use Rattle.grace_bench.specs.Waiting.{HasAsked}
use Rattle.grace_bench.proofs.waits.wait_alone.Given as goal

abbrev pub invariant-loop : goal.invariant-loop
invariant-loop g l = record {
  writer : IsWriterOf l.fn.shared.table.shared.table_id l.fn.shared.table.shared.key l.writer;
  leader : IsMemberOf l.fn.shared.table.shared.table_id l.leader;
  leads : IsLeader (view_of l.leader);
  slots : (view_of l.leader).slots ≡ [];
  asked : HasAsked (written_by l.fn.writer) (written_by l.writer);
  taken : HasTaken (written_by l.writer) (newest_number (written_by l.fn.writer).published) l.need;
}
