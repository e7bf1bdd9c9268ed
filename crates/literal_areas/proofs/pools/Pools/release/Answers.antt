-- The pools stay in order and those of the writer; nobody may read the block, and no slot names the area.
use Rattle.std.proofs.Common.{sym, subst}
use Rattle.progress_words.specs.Tokens.{written_by}
use Rattle.literal_areas.specs.declared.areas.Areas.{Areas}
use Rattle.literal_areas.specs.Owned.{AreOf}
use Rattle.literal_areas.specs.Released.{MayRelease}
use Rattle.literal_areas.proofs.Freed.{sound_last, owned_last, unread_now, unnamed_now}
use Rattle.literal_areas.proofs.pools.Pools.release.Goals as goal

pub invariant_of-self : goal.invariant_of-self
invariant_of-self g c =
    sound_last c.self.inside.areas c.release.new.self (written_by c.args.writer.now) c.args.area c.self.invariant
    (subst (λ (s : Areas). MayRelease s (written_by c.args.writer.now) c.args.area) (sym c.self.view_is) c.requires.may) c.release.ensures

pub returns-clause-unread : goal.returns-clause-unread
returns-clause-unread g c = unread_now g.N.Served.served c.args.shared.now.table.shared.key c.args.self.now (written_by c.args.writer.now) (written_by c.clear_words.new.writer) c.args.area c.requires.owned c.requires.may c.clear_words.ensures.stored

pub returns-clause-unnamed : goal.returns-clause-unnamed
returns-clause-unnamed g c = unnamed_now g.N.Served.served c.args.shared.now.table.shared.key c.args.self.now (written_by c.args.writer.now) (written_by c.clear_words.new.writer) c.args.area c.requires.owned c.requires.may c.clear_words.ensures.stored

pub returns-clause-owned : goal.returns-clause-owned
returns-clause-owned g c =
    owned_last c.self.inside.areas c.release.new.self (written_by c.args.writer.now) (written_by c.clear_words.new.writer) c.args.area
    (subst (λ (s : Areas). AreOf s (written_by c.args.writer.now)) (sym c.self.view_is) c.requires.owned) (subst (λ (s : Areas). MayRelease s (written_by c.args.writer.now) c.args.area) (sym c.self.view_is) c.requires.may)
    c.release.ensures c.clear_words.ensures.stored
