-- The retire word of the block may be cleared, and then its doom word.
use Rattle.std.proofs.Common.{ap}
use Rattle.shared_words.specs.Seats.{writer_of}
use Rattle.progress_words.specs.Tokens.{written_by}
use Rattle.literal_areas.proofs.Freed.{may_clear, may_clear_next}
use Rattle.literal_areas.proofs.releasing.clear_words.Goals as goal

pub store_release-requires-clause-may : goal.store_release-requires-clause-may
store_release-requires-clause-may g c = may_clear c.args.areas.now (written_by c.args.writer.now) c.requires.owned c.args.area c.requires.may

pub store_word-requires-clause-may : goal.store_word-requires-clause-may
store_word-requires-clause-may g c =
    may_clear_next c.args.areas.now (written_by c.args.writer.now) c.args.area c.requires.owned c.requires.may (written_by c.store_release.new.writer) c.doom_word.result
    (ap writer_of c.store_release.ensures.view) c.doom_word.ensures c.if-area-lt-FIRST_TERM_BLOCK.true
