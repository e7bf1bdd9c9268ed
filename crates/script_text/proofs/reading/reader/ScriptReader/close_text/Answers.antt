use Rattle.script_text.proofs.Common.{◌≡◌, ◌<◌, length, Some, sym, ap, ◌∙◌, arith}
use Rattle.script_text.proofs.Modules.{unsettled_line}
use Rattle.script_text.proofs.FormSteps.{unsettled_within}
use Rattle.script_text.proofs.reading.reader.ScriptReader.close_text.Goals as goal

-- the line is one of the text
pub overflow_add-self : goal.overflow_add-self
overflow_add-self c =
    let missing : unsettled_line c.replace-lines.result ≡ Some c.in-Err-Missing.number = rw c.in-Err-Missing.field-0-is at c.in-Err-Missing.ensures.missing in
    let within : c.in-Err-Missing.number < length c.args.self.now.lines = unsettled_within c.args.self.now.lines c.in-Err-Missing.number (ap unsettled_line (sym c.replace-lines.ensures.value) ∙ missing) in
    omega (arith, within, c.requires.counted)
