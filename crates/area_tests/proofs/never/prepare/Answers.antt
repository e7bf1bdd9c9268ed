-- The pools are the writer's still, and no note is made before the members begin.
use Rattle.std.proofs.Common.{◌∙◌}
use Rattle.progress_words.specs.Tokens.{written_by}
use Rattle.new_tables.proofs.Blank.{handing_blank}
use Rattle.area_tests.proofs.never.prepare.Goals as goal

pub retire_all-requires-clause-owned : goal.retire_all-requires-clause-owned
retire_all-requires-clause-owned c = c.take_all.ensures.owned (written_by c.args.writer.now) c.requires.owned

pub begin_both-requires-clause-unnoted : goal.begin_both-requires-clause-unnoted
begin_both-requires-clause-unnoted c = c.retire_all.ensures.notes ∙ (handing_blank c.args.shared.now.table.shared.table_id c.args.shared.now.table.shared.key 3 c.args.writer.now c.requires.handing).notes
