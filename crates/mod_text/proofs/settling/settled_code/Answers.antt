-- The code of a body, line by line.
use Rattle.mod_text.proofs.Common.{◌∙◌, sym}
use Rattle.mod_text.proofs.Forms.{headers_of, forms_of}
use Rattle.mod_text.proofs.Settles.{kept_at, code_starts, code_more, code_stops, code_is_whole, code_is_settled, on_true}
use Rattle.mod_text.proofs.settling.settled_code.Goals as goal

pub settle_line-requires-clause-kept : goal.settle_line-requires-clause-kept
settle_line-requires-clause-kept c = kept_at c.args.body.now c.loop-number.number _ c.loop-number-test.true c.requires.kept

pub loop-number-init : goal.loop-number-init
loop-number-init c = code_starts c.args.names.now (headers_of c.args.functions.now) c.args.body.now c.new-code.result c.new-code.ensures

pub loop-number-preserved : goal.loop-number-preserved
loop-number-preserved c =
    let body = forms_of c.args.body.now in
    code_more c.args.names.now (headers_of c.args.functions.now) c.args.body.now c.loop-number.number _ c.loop-number.code c.settle_line.new.code c.loop-number-test.true c.loop-number.invariant
    (sym c.if-not-branch.false ∙ c.in_ok-settle_line.ensures.settled body c.in_ok-places.ensures)
    (on_true c.in_ok-settle_line.field-0 _ (c.in_ok-settle_line.ensures.code body c.in_ok-places.ensures) c.if-not-branch.false)

pub returns-then-not-branch-clause-missing : goal.returns-then-not-branch-clause-missing
returns-then-not-branch-clause-missing c =
    code_stops c.args.names.now (headers_of c.args.functions.now) c.args.body.now c.loop-number.number _ c.loop-number.code c.loop-number-test.true c.loop-number.invariant
    (sym c.if-not-branch.true ∙ c.in_ok-settle_line.ensures.settled (forms_of c.args.body.now) c.in_ok-places.ensures)

pub returns-clause-ok : goal.returns-clause-ok
returns-clause-ok c = code_is_whole c.args.names.now (headers_of c.args.functions.now) c.args.body.now c.loop-number.number c.loop-number.code c.loop-number-test.false c.loop-number.invariant

pub returns-clause-settled : goal.returns-clause-settled
returns-clause-settled c = code_is_settled c.args.names.now (headers_of c.args.functions.now) c.args.body.now c.loop-number.number c.loop-number.code c.loop-number-test.false c.loop-number.invariant
