-- Once an area is released, the looks leave all as it is.
use Rattle.std.proofs.Common.{◌+◌, arith}
use Rattle.progress_words.specs.Tokens.{written_by}
use Rattle.area_tests.proofs.Looked.{released_looked}
use Rattle.area_tests.proofs.writing.release_all.Goals as goal

pub loop-at-preserved : goal.loop-at-preserved
loop-at-preserved c =
    let looked = c.look_again-late in
    let few = looked.ensures.few in
    let late = c.loop-at.invariant.2 in
    (looked.ensures.token, released_looked (c.loop-at.at + 1) 3 c.args.need c.release_soon.new.pools (written_by c.release_soon.new.writer) (written_by looked.new.writer) looked.ensures.more (c.release_soon.ensures.released c.if-not-release_soon.false), omega (arith, few, late))
