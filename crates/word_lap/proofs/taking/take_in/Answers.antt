use Rattle.std.proofs.Common.{◌∙◌, ap, subst, sym}
use Rattle.anchors.specs.Holds.{view_of}
use Rattle.word_lap.specs.Schedulers.{KeepsProcesses}
use Rattle.word_lap.proofs.Welcomes.{taken_begins, taken_goes_on}
use Rattle.word_lap.proofs.taking.take_in.Goals as goal

-- nothing was taken yet
pub loop-init : goal.loop-init
loop-init g c = taken_begins _ _ _ _ _ _ c.requires.token c.requires.between c.requires.all

-- one more was taken
pub loop-preserved : goal.loop-preserved
loop-preserved g c =
    let came = c.take_one.ensures in
    taken_goes_on _ _ _ _ _ _ _ _ _ _ _ _ _ c.loop.invariant c.in-Some-take.ensures.taken came.token came.number came.between came.all came.kept came.came

-- and nothing more at the end
pub returns-in_default-clause-kept : goal.returns-in_default-clause-kept
returns-in_default-clause-kept g c = λ kept.
    subst (λ t. KeepsProcesses g.K.Naming.names c.args.shared.now.table.shared.key (view_of c.loop.member) t.taken c.loop.processes) (sym c.in_default.ensures.taken) (c.loop.invariant.kept kept)

-- and it was told of nothing meanwhile
pub returns-in_default-clause-told : goal.returns-in_default-clause-told
returns-in_default-clause-told g c = ap (λ t. t.told) c.in_default.ensures.taken ∙ c.loop.invariant.told
