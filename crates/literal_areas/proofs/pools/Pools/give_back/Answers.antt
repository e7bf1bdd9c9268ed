-- The serials stay in order, and the pools stay those of the writer.
use Rattle.std.proofs.Common.{sym, subst}
use Rattle.literal_areas.specs.declared.areas.Areas.{Areas}
use Rattle.literal_areas.specs.Blocks.{IsLast}
use Rattle.literal_areas.specs.Owned.{AreOf}
use Rattle.literal_areas.proofs.Serials.{sound_back}
use Rattle.literal_areas.proofs.Owners.{owned_back}
use Rattle.literal_areas.proofs.pools.Pools.give_back.Goals as goal

pub invariant_of-self : goal.invariant_of-self
invariant_of-self c = sound_back c.self.inside.areas c.give_back.new.self c.args.area c.give_back.ensures (subst (λ (s : Areas). IsLast s c.args.area) (sym c.self.view_is) c.requires.last) c.self.invariant

pub returns-clause-owned : goal.returns-clause-owned
returns-clause-owned c = λ w own new.
    owned_back c.self.inside.areas c.give_back.new.self c.args.area w c.give_back.ensures (subst (λ (s : Areas). IsLast s c.args.area) (sym c.self.view_is) c.requires.last) (subst (λ (s : Areas). AreOf s w) (sym c.self.view_is) own) new
