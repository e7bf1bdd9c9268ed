-- The empty generation alone is published at first, then that of the instance, of which the note tells.
use Rattle.progress_words.specs.Tokens.{written_by, noted_by}
use Rattle.new_tables.proofs.Emptied.{handing_empty}
use Rattle.grace_bench.proofs.Holding.{only_begun, may_tell, tells_now}
use Rattle.grace_bench.proofs.holds.hold_alone.Goals as goal

pub publish_used-requires-clause-empty : goal.publish_used-requires-clause-empty
publish_used-requires-clause-empty c = let made = c.in_ok-shared in handing_empty made.shared.table.shared.table_id made.shared.table.shared.key _ made.parts.writer made.ensures.writer

pub note-told-requires-clause-may : goal.note-told-requires-clause-may
note-told-requires-clause-may c =
    let made = c.in_ok-shared in
    may_tell made.shared.table.shared.table_id made.shared.table.shared.key _ made.parts.writer (written_by c.publish_used.new.writer) made.ensures.writer c.publish_used.ensures.published

pub hold_after-requires-clause-begun : goal.hold_after-requires-clause-begun
hold_after-requires-clause-begun c = only_begun c.in_ok-shared.shared.table.shared.table_id _ _ c.in-Some.member c.in-Some.ensures.items c.in_ok-shared.ensures.members

pub hold_after-requires-clause-tells : goal.hold_after-requires-clause-tells
hold_after-requires-clause-tells c =
    let made = c.in_ok-shared in
    tells_now made.shared.table.shared.table_id made.shared.table.shared.key _ made.parts.writer (written_by c.publish_used.new.writer) (noted_by c.note-told.result) made.ensures.writer c.publish_used.ensures.published c.note-told.ensures.learnt
