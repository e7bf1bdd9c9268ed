-- The number of the next generation may be stored, and the pools stay those of the writer.
use Rattle.std.proofs.Common.{sym, ap, subst}
use Rattle.shared_words.specs.Seats.{writer_of}
use Rattle.progress_words.specs.Tokens.{written_by}
use Rattle.literal_areas.specs.declared.areas.Areas.{Areas}
use Rattle.literal_areas.specs.Blocks.{IsLive}
use Rattle.literal_areas.specs.Owned.{AreOf}
use Rattle.literal_areas.proofs.Retired.{may_retire_now, sound_now, owned_now}
use Rattle.literal_areas.proofs.pools.Pools.retire.Goals as goal

pub store_word-requires-clause-may : goal.store_word-requires-clause-may
store_word-requires-clause-may g c =
    let next = c.next_generation-since in
    may_retire_now c.args.shared.now.table.shared.table_id c.args.shared.now.table.shared.key c.args.self.now c.args.writer.now next.new.writer c.args.area c.retire_word.result next.result c.requires.token c.requires.owned c.requires.live next.ensures.view c.retire_word.ensures next.ensures.next

pub invariant_of-self : goal.invariant_of-self
invariant_of-self g c = sound_now c.self.inside.areas c.retire.new.self c.args.area c.next_generation-since.result c.retire.ensures (subst (λ (s : Areas). IsLive s c.args.area) (sym c.self.view_is) c.requires.live) c.self.invariant

pub returns-clause-owned : goal.returns-clause-owned
returns-clause-owned g c =
    let next = c.next_generation-since in
    owned_now c.self.inside.areas c.retire.new.self c.args.writer.now next.new.writer c.store_word.new.writer c.args.area c.retire_word.result next.result
    (subst (λ (s : Areas). AreOf s (written_by c.args.writer.now)) (sym c.self.view_is) c.requires.owned) (subst (λ (s : Areas). IsLive s c.args.area) (sym c.self.view_is) c.requires.live)
    next.ensures.view next.ensures.next (ap writer_of c.store_word.ensures.view) c.retire.ensures
