-- The last one may be given back, and those before it stay.
use Rattle.std.proofs.Common.{subst}
use Rattle.staging.specs.Stages.{HavePlaced}
use Rattle.staging.proofs.GivenBack.{gives_more, is_last}
use Rattle.staging.proofs.placing.give_back.Goals as goal

pub give_back-requires : goal.give_back-requires
give_back-requires g c = record {
  last = is_last g.K.Naming.names c.args._server.now c.args._change.now c.loop-back.tables c.pop.new.self.items c.in-Some.area (subst (HavePlaced g.K.Naming.names c.args._server.now c.args._change.now c.loop-back.tables) c.in-Some.ensures.items c.loop-back.invariant.placed);
}

pub loop-back-preserved : goal.loop-back-preserved
loop-back-preserved g c =
    gives_more g.K.Naming.names c.args._server.now c.args._change.now c.loop-back.tables c.pop.new.self.items c.in-Some.area (subst (HavePlaced g.K.Naming.names c.args._server.now c.args._change.now c.loop-back.tables) c.in-Some.ensures.items c.loop-back.invariant.placed)
    _ _ c.loop-back.back c.args.tables.now c.args.taken.items c.loop-back.taken.items c.give_back.new.self c.loop-back.invariant c.in-Some.ensures.items c.give_back.ensures.given c.give_back.ensures.owned
