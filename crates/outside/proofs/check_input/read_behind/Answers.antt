-- What the reading of a report came to, behind the script that was read.
use Rattle.std.proofs.Common.{sym}
use Rattle.outside.proofs.ReadParts.{report_read, report_refused}
use Rattle.outside.proofs.check_input.read_behind.Goals as goal

pub returns-in-Ok : goal.returns-in-Ok
returns-in-Ok c = λ bytes read behind.
    report_read bytes c.args.report.now c.args.script c.in-Ok.log behind read c.requires.sound
    (record { report = record { formed = c.in-Ok.ensures.found.0; text_is = c.in-Ok.ensures.found.1 }; only = λ other is. sym (c.in-Ok.ensures.only other is.formed is.text_is); sane = c.in-Ok.ensures.refused })

pub returns-in-Err-Syntax : goal.returns-in-Err-Syntax
returns-in-Err-Syntax c = λ bytes read behind.
    report_refused bytes c.args.report.now c.args.script c.in-Err-Syntax.field-0 c.in-Err-Syntax.line behind read c.in-Err-Syntax.field-0-is c.in-Err-Syntax.ensures.fault c.in-Err-Syntax.ensures.only
