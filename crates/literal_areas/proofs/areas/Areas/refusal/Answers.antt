-- Where none is free and none is retired, all are live.
use Rattle.literal_areas.proofs.FreeBlocks.{refused_live}
use Rattle.literal_areas.proofs.areas.Areas.refusal.Goals as goal

pub returns-else-has_retired : goal.returns-else-has_retired
returns-else-has_retired c = refused_live c.args.pool c.args.self.now _ _ c.requires.full c.blocks-2.ensures c.has_retired.ensures c.if-has_retired.false
