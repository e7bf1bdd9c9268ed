-- A line is judged in stages: alone, by its names, and by the lines before it.
use Rattle.mod_text.proofs.Common.{err_from_is_err_and}
use Rattle.mod_text.proofs.Forms.{line_form}
use Rattle.mod_text.proofs.Keepings.{said_alone, line_fails_alone, line_fails_named, line_gives}
use Rattle.mod_text.proofs.reader.ModuleReader.line.Goals as goal

pub returns-in_err-line-clause-read : goal.returns-in_err-line-clause-read
returns-in_err-line-clause-read c =
    let p = err_from_is_err_and c.from_residual.result c.from_residual.ensures.1 in
    rw (p.1, p.2) (line_fails_alone c.args.names.now c.args.self.now c.args.text.now _ c.in_err-line.ensures.read)

pub returns-in_err-add_atoms-clause-read : goal.returns-in_err-add_atoms-clause-read
returns-in_err-add_atoms-clause-read c =
    let p = err_from_is_err_and c.from_residual-in_err-add_atoms.result c.from_residual-in_err-add_atoms.ensures.1 in
    rw (p.1, p.2) (line_fails_named c.args.names.now c.args.self.now c.args.text.now (line_form c.in_ok-line.line) _ c.in_ok-line.ensures.read c.in_err-add_atoms.ensures.named)

pub keep-requires-clause-said : goal.keep-requires-clause-said
keep-requires-clause-said c = said_alone c.args.self.now c.args.text.now (line_form c.in_ok-line.line) c.in_ok-line.ensures.read

pub returns-clause-read : goal.returns-clause-read
returns-clause-read c =
    line_gives _ c.args.names.now c.add_atoms.new.names c.args.self.now c.args.text.now (line_form c.in_ok-line.line) c.keep.result c.in_ok-line.ensures.read c.in_ok-add_atoms.ensures.named (c.keep.ensures.kept c.args.names.now)
