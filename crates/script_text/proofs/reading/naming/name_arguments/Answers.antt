use Rattle.script_text.proofs.Common.{arith, length-append, err_from_is_err_and}
use Rattle.script_text.proofs.Forms.{kept_argument, argument_named}
use Rattle.script_text.proofs.NamingLoops.{loop_goes_on, loop_stops, loop_ends}
use Rattle.script_text.proofs.reading.naming.name_arguments.Goals as goal

-- an argument is named
pub loop-argument-preserved : goal.loop-argument-preserved
loop-argument-preserved c =
    let l = c.loop-argument in
    rw c.in_ok-push.ensures.ok (record {
      so_far = loop_goes_on kept_argument argument_named l.terms l.names c.name_argument.new.names c.args.args.now l.argument-index _ _ _ c.loop-argument-test.true c.in_ok-name_argument.ensures l.invariant.so_far;
      count = simp length-append (omega (arith, l.invariant.count));
    })

-- an argument gets no number
pub returns-in_err-name_argument-clause-named : goal.returns-in_err-name_argument-clause-named
returns-in_err-name_argument-clause-named c =
    let l = c.loop-argument in
    let p = err_from_is_err_and c.from_residual.result c.from_residual.ensures.1 in
    rw (p.1, p.2) (loop_stops kept_argument argument_named l.terms l.names c.args.args.now l.argument-index _ _ c.in_err-name_argument.field-0.0 c.loop-argument-test.true c.in_err-name_argument.ensures l.invariant.so_far)

-- all are named
pub returns-clause-named : goal.returns-clause-named
returns-clause-named c = loop_ends kept_argument argument_named c.loop-argument.terms c.loop-argument.names c.args.args.now c.loop-argument.argument-index _ c.loop-argument-test.false c.loop-argument.invariant.so_far
