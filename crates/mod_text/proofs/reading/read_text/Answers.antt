-- The ways to end.
use Rattle.mod_text.proofs.Forms.{read}
use Rattle.mod_text.proofs.Endings.{titled, stopped_ends, unsettled_ends}
use Rattle.mod_text.proofs.reading.read_text.Goals as goal

pub finish-requires : goal.finish-requires
finish-requires c = titled c.args.names.now c.args.lines.now c.args.first c.read_lines.new.names c.in-Ok.reader c.in-Ok.ensures.ok

pub returns-in-Err-clause-ends : goal.returns-in-Err-clause-ends
returns-in-Err-clause-ends c = stopped_ends c.args.names.now c.args.lines.now c.args.first c.read_lines.new.names c.in-Err.stop c.stopped.result c.in-Err.ensures.stop c.stopped.ensures

pub returns-in-Ok-finish-clause-ends : goal.returns-in-Ok-finish-clause-ends
returns-in-Ok-finish-clause-ends c = read c.in-Ok.reader c.in-Ok-finish.module c.in-Ok.ensures.ok c.in-Ok-finish.ensures.ok c.in-Ok-finish.ensures.settled

pub returns-in-Err-finish-clause-ends : goal.returns-in-Err-finish-clause-ends
returns-in-Err-finish-clause-ends c = unsettled_ends c.args.names.now c.args.lines.now c.args.first c.read_lines.new.names c.in-Ok.reader c.in-Err-finish.fault c.unsettled.result c.in-Ok.ensures.ok c.in-Err-finish.ensures.missing c.unsettled.ensures
