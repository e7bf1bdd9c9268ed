-- The module of the name is found from the last one on.
use Rattle.std.proofs.Common.{◌∙◌, arith}
use Rattle.staging.proofs.Reached.{found_place, load_comes, load_reaches, none_place}
use Rattle.staging.proofs.exporting.reached_after.Goals as goal

pub returns-then-code-to : goal.returns-then-code-to
returns-then-code-to c =
    found_place c.args.change.now c.args.taken.now c.args.to c.in-BringIn.modules.items c.requires.whole (load_comes _ _ _ _ _ c.in-BringIn.is) c.len.result c.loop-back.back (c.len.ensures ∙ c.in-BringIn.modules.ok.0) (omega arith) c.code-code.result.now c.index.result.now _ c.code-code.ensures c.index.ensures c.loop-back.invariant
    c.if-code-to.true c.export_in.result c.export_in.ensures
    ∙ load_reaches c.args.change.now _ _ _ _ c.in-BringIn.is c.args.taken.now c.args.to

pub loop-back-preserved : goal.loop-back-preserved
loop-back-preserved c =
    none_place c.args.change.now c.args.taken.now c.args.to c.in-BringIn.modules.items c.requires.whole (load_comes _ _ _ _ _ c.in-BringIn.is) c.len.result c.loop-back.back (c.len.ensures ∙ c.in-BringIn.modules.ok.0) (omega arith) c.code-code.result.now c.index.result.now (record { serial = 0; block = 0 }) c.code-code.ensures c.index.ensures c.loop-back.invariant c.if-code-to.false
