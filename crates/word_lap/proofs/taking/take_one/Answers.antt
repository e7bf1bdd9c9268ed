use Rattle.std.proofs.Common.{sym, ap}
use Rattle.run_law.specs.Newcomers.{SpawnedProcess}
use Rattle.word_lap.proofs.Welcomes.{let_go_here}
use Rattle.word_lap.proofs.taking.take_one.Goals as goal

-- what does not belong here is let go
pub returns-else-belongs-clause-kept : goal.returns-else-belongs-clause-kept
returns-else-belongs-clause-kept g c =
    let_go_here g.K.Naming.names c.args.shared.now.table.shared.table_id c.args.shared.now.table.shared.key c.args.member.now c.args.newcomer c.newcomer.inside.number c.args.number c.members.result c.args.processes.now
    (sym (ap (λ (x : SpawnedProcess). x.number) c.newcomer.view_is)) c.requires.own c.members.ensures.members c.requires.token (c.belongs.ensures.no c.if-belongs.false)
