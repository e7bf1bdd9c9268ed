-- One line is read, or stops the reading.
use Rattle.mod_text.proofs.Common.{◌∙◌, sym}
use Rattle.mod_text.proofs.Stepping.{unended_stops, early_stops, line_leads, line_stops, behind_shorter}
use Rattle.mod_text.proofs.reading.read_one.Goals as goal

pub returns-in-None-clause-stop : goal.returns-in-None-clause-stop
returns-in-None-clause-stop c = unended_stops c.args.names.now c.args.reader.now c.args.bytes.now c.len-number.result c.syntax_at.result c.len-number.ensures c.syntax_at.ensures (sym c.in-None.ensures)

pub returns-then-stops_behind-clause-stop : goal.returns-then-stops_behind-clause-stop
returns-then-stops_behind-clause-stop c =
    early_stops c.args.names.now c.args.reader.now c.args.bytes.now c.in-Some.text.now c.in-Some.behind.now c.len-number.result c.syntax_at-then-stops_behind.result c.len-number.ensures c.syntax_at-then-stops_behind.ensures (sym c.in-Some.ensures) (sym c.stops_behind.ensures ∙ c.if-stops_behind.true)

pub returns-in-Ok-clause-ok : goal.returns-in-Ok-clause-ok
returns-in-Ok-clause-ok c =
    line_leads c.args.names.now c.args.reader.now c.args.bytes.now c.in-Some.text.now c.in-Some.behind.now c.line.new.names c.line.new.self (sym c.in-Some.ensures) (sym c.stops_behind.ensures ∙ c.if-stops_behind.false) c.in-Ok.ensures.read

pub returns-in-Ok-clause-shorter : goal.returns-in-Ok-clause-shorter
returns-in-Ok-clause-shorter c = behind_shorter c.args.bytes.now c.in-Some.text.now c.in-Some.behind.now (sym c.in-Some.ensures)

pub returns-in-Err-clause-stop : goal.returns-in-Err-clause-stop
returns-in-Err-clause-stop c =
    line_stops c.args.names.now c.args.reader.now c.args.bytes.now c.in-Some.text.now c.in-Some.behind.now c.len-number.result c.in-Err.fault (sym c.in-Some.ensures) (sym c.stops_behind.ensures ∙ c.if-stops_behind.false) c.len-number.ensures c.in-Err.ensures.read
