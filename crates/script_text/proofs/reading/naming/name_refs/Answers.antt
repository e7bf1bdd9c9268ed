use Rattle.script_text.proofs.Common.{err_from_is_err_and}
use Rattle.script_text.proofs.Forms.{kept_ref, ref_named}
use Rattle.script_text.proofs.NamingLoops.{loop_goes_on, loop_stops, loop_ends}
use Rattle.script_text.proofs.reading.naming.name_refs.Goals as goal

-- a module is named
pub loop-to-preserved : goal.loop-to-preserved
loop-to-preserved c = rw c.in_ok-push.ensures.ok (loop_goes_on kept_ref ref_named c.loop-to.named c.loop-to.names c.name_ref.new.names c.args.refs.now c.loop-to.to-index _ c.in_ok-name_ref.field-0 _ c.loop-to-test.true c.in_ok-name_ref.ensures c.loop-to.invariant)

-- a module gets no number
pub returns-in_err-name_ref : goal.returns-in_err-name_ref
returns-in_err-name_ref c =
    let p = err_from_is_err_and c.from_residual.result c.from_residual.ensures.1 in
    rw (p.1, p.2) (loop_stops kept_ref ref_named c.loop-to.named c.loop-to.names c.args.refs.now c.loop-to.to-index _ _ c.in_err-name_ref.field-0.0 c.loop-to-test.true c.in_err-name_ref.ensures c.loop-to.invariant)

-- all are named
pub returns : goal.returns
returns c = loop_ends kept_ref ref_named c.loop-to.named c.loop-to.names c.args.refs.now c.loop-to.to-index _ c.loop-to-test.false c.loop-to.invariant
