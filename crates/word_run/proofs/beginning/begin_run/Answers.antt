use Rattle.std.proofs.Common.{◌<◌, sym, subst, ◌∙◌, arith}
use Rattle.word_run.proofs.Stations.{desk_begun, run_begun}
use Rattle.word_run.proofs.beginning.begin_run.Goals as goal

-- there is an inbox for each member
pub open_seats-requires-clause-members : goal.open_seats-requires-clause-members
open_seats-requires-clause-members g c = c.requires.openings ∙ sym c.requires.members.all

-- there are few members
pub open_seats-requires-clause-few : goal.open_seats-requires-clause-few
open_seats-requires-clause-few g c = omega (arith, c.requires.members.all, c.args.shared.few)

-- nothing was posted yet
pub invariant_of-desk : goal.invariant_of-desk
invariant_of-desk g c = desk_begun c.args.members.items _ _ _ c.in_ok-stations.ensures (subst (λ n. 0 < n) (sym c.requires.members.all) c.requires.some)

pub returns-clause-run : goal.returns-clause-run
returns-clause-run g c =
    run_begun c.args.members.items _ _ _ c.in_ok-stations.ensures (subst (λ n. 0 < n) (sym c.requires.members.all) c.requires.some) g.K.Naming.names c.args.script.now c.args.shared.table.shared.table_id c.args.shared.table.shared.key _ c.schedulers_begin.ensures c.args.shared.few c.requires.members c.requires.exports c.in_ok-permit.ensures.script_is
