-- The number of the next generation may be stored, and the pools stay those of the writer.
use Rattle.std.proofs.Common.{ap}
use Rattle.shared_words.specs.Seats.{writer_of}
use Rattle.literal_areas.proofs.Doomed.{may_doom_now, owned_now}
use Rattle.literal_areas.proofs.pools.Pools.doom.Goals as goal

pub store_word-requires-clause-may : goal.store_word-requires-clause-may
store_word-requires-clause-may g c =
    let next = c.next_generation-since in
    may_doom_now c.args.self.now c.args.writer.now next.new.writer c.args.area c.doom_word.result next.result c.requires.owned c.requires.live c.requires.undoomed c.requires.instance next.ensures.view c.doom_word.ensures next.ensures.next

pub returns-clause-owned : goal.returns-clause-owned
returns-clause-owned g c =
    let next = c.next_generation-since in
    owned_now c.args.self.now c.args.writer.now next.new.writer c.store_word.new.writer c.doom_word.result next.result c.requires.owned next.ensures.view (ap writer_of c.store_word.ensures.view)
