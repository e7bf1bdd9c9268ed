-- The functions of a module, line by line.
use Rattle.mod_text.proofs.Common.{ℕ, ◌+◌, sym, subst, List, arith, All, Bor}
use Rattle.mod_text.proofs.Forms.{headers_of, forms_of, IsKept}
use Rattle.mod_text.proofs.Settles.{kept_at, kept_behind, functions_start, functions_go_on}
use Rattle.mod_text.proofs.Settles.{functions_stop_later, later_fits, functions_are_whole, functions_are_settled}
use Rattle.mod_text.proofs.settling.settled_functions.Goals as goal

pub settle_function-requires-clause-kept : goal.settle_function-requires-clause-kept
settle_function-requires-clause-kept c = kept_at c.args.lines.now c.loop-number.number _ c.loop-number-test.true c.requires.kept

pub settle_function-requires-clause-each : goal.settle_function-requires-clause-each
settle_function-requires-clause-each c = subst (λ (ls : List (Bor (List ℕ))). All IsKept (forms_of ls)) (sym c.lines_behind-behind.ensures) (kept_behind c.args.lines.now (c.loop-number.number + 1) c.requires.kept)

pub loop-number-init : goal.loop-number-init
loop-number-init c = functions_start c.args.names.now (headers_of c.args.functions.now) c.args.lines.now c.new-list.result c.new-list.ensures

pub loop-number-preserved : goal.loop-number-preserved
loop-number-preserved c =
    functions_go_on c.args.names.now (headers_of c.args.functions.now) c.args.lines.now c.loop-number.number _ c.loop-number.list c.settle_function.new.settled c.lines_behind-behind.result.now c.loop-number-test.true c.loop-number.invariant c.lines_behind-behind.ensures c.in-Ok.ensures.settled c.in-Ok.ensures.ok

pub returns-in-Err-clause-missing : goal.returns-in-Err-clause-missing
returns-in-Err-clause-missing c =
    functions_stop_later c.args.names.now (headers_of c.args.functions.now) c.args.lines.now c.loop-number.number _ c.loop-number.list c.in-Err.fault c.later.result c.lines_behind-behind.result.now c.loop-number-test.true c.loop-number.invariant c.lines_behind-behind.ensures c.in-Err.ensures.missing c.later.ensures

pub later-requires : goal.later-requires
later-requires c = later_fits c.args.lines.now c.loop-number.number c.lines_behind-behind.result.now c.in-Err.fault (omega arith) c.loop-number-test.true c.lines_behind-behind.ensures c.in-Err.ensures.within

pub returns-clause-ok : goal.returns-clause-ok
returns-clause-ok c = functions_are_whole c.args.names.now (headers_of c.args.functions.now) c.args.lines.now c.loop-number.number c.loop-number.list c.loop-number-test.false c.loop-number.invariant

pub returns-clause-settled : goal.returns-clause-settled
returns-clause-settled c = functions_are_settled c.args.names.now (headers_of c.args.functions.now) c.args.lines.now c.loop-number.number c.loop-number.list c.loop-number-test.false c.loop-number.invariant
