-- The next module has no old instance, and the server says which of its instances is current.
use Rattle.std.proofs.Common.{◌∙◌, sym, arith}
use Rattle.write_permit.proofs.Agreement.{promoted_next, promoted_rest, no_serial}
use Rattle.write_permit.proofs.following.promote_all.Goals as goal

pub unreachable-requires : goal.unreachable-requires
unreachable-requires c =
    let next = promoted_next c.loop-to.table.instances c.args.server.now c.args.refs.now c.loop-to.to-index _ c.loop-to-test.true c.loop-to.invariant.can in
    no_serial _ next.current c.in_default.ensures

pub unwrap-requires : goal.unwrap-requires
unwrap-requires c =
    let next = promoted_next c.loop-to.table.instances c.args.server.now c.args.refs.now c.loop-to.to-index _ c.loop-to-test.true c.loop-to.invariant.can in
    c.promote.ensures.succeeds next.old (omega (arith, c.loop-to.invariant.room, c.loop-to-test.true))

pub loop-to-preserved : goal.loop-to-preserved
loop-to-preserved c =
    let next = promoted_next c.loop-to.table.instances c.args.server.now c.args.refs.now c.loop-to.to-index _ c.loop-to-test.true c.loop-to.invariant.can in
    let put = rw c.unwrap.ensures at c.promote.ensures.ok in
    let rest = promoted_rest c.loop-to.table.instances c.promote.new.self.instances c.args.server.now c.args.refs.now c.loop-to.to-index _ c.in-Some.serial next (sym c.current.ensures ∙ c.in-Some.is) put in
    record { can = rest.0; left = rest.1 ∙ c.loop-to.invariant.left; room = omega (arith, c.loop-to.invariant.room, c.promote.ensures.room) }
