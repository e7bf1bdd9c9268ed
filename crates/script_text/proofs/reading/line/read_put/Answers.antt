use Rattle.script_text.proofs.Common.{Result, sym, ap, ◌∙◌, err_from_is_err_and}
use Rattle.std.specs.Prelude.{option_map}
use Rattle.script_text.proofs.Forms.{◌>>=◌}
use Rattle.script_text.proofs.OneLine.{with_key, put_at, put_stops}
use Rattle.script_text.proofs.reading.line.read_put.Goals as goal

-- the term is of no form, or memory is refused
pub returns-in_err-term-clause-read : goal.returns-in_err-term-clause-read
returns-in_err-term-clause-read c =
    let p = err_from_is_err_and c.from_residual-in_err-term.result c.from_residual-in_err-term.ensures.1 in
    rw (p.1, p.2) (put_stops c.args.text.now c.in_ok-key.key.now c.in_ok-key.rest.now c.in_ok-key-2.key.now c.in_err-term.field-0.0
    (sym c.cut_at.ensures ∙ ap (option_map _) c.in_ok-key.ensures.ok_part) (sym c.read_atom.ensures ∙ ap (option_map _) c.in_ok-key-2.ensures.ok_part) c.in_err-term.ensures.read)

-- the put is read
pub returns-clause-read : goal.returns-clause-read
returns-clause-read c =
    put_at c.args.text.now c.in_ok-key.key.now c.in_ok-key.rest.now c.in_ok-key-2.key.now
    (sym c.cut_at.ensures ∙ ap (option_map _) c.in_ok-key.ensures.ok_part) (sym c.read_atom.ensures ∙ ap (option_map _) c.in_ok-key-2.ensures.ok_part)
    ∙ ap (λ (r : Result _ _). r >>= with_key c.in_ok-key-2.key.now) c.in_ok-term.ensures.read
