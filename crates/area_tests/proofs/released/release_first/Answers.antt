-- None is released yet.
use Rattle.progress_words.specs.Tokens.{written_by}
use Rattle.area_tests.proofs.Looked.{none_released}
use Rattle.area_tests.proofs.released.release_first.Goals as goal

pub release_clear-requires-clause-released : goal.release_clear-requires-clause-released
release_clear-requires-clause-released c = none_released 3 c.args.need c.args.pools.now (written_by c.is_over.new.writer) c.is_over.ensures.gone c.is_over.ensures.taken (c.is_over.ensures.enough c.if-is_over.true)
