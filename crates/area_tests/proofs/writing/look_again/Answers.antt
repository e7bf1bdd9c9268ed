-- One look more adds to what is kept, and at most one to what is found.
use Rattle.std.proofs.Common.{arith}
use Rattle.std.proofs.lemmas.Nat.{mod_below}
use Rattle.progress_words.specs.Tokens.{written_by}
use Rattle.anchors.proofs.Scanning.{more_again}
use Rattle.area_tests.proofs.Silent.{clear_looked}
use Rattle.area_tests.proofs.writing.look_again.Goals as goal

pub look_once-late-requires-clause-few : goal.look_once-late-requires-clause-few
look_once-late-requires-clause-few c = (mod_below c.loop-look.look c.args.count (let some = c.requires.few.0 in omega (arith, some)), c.requires.few.1)

pub loop-look-preserved : goal.loop-look-preserved
loop-look-preserved c =
    let looked = c.look_once-late in
    let before = c.loop-look.invariant in
    let few = looked.ensures.few in
    let late = before.3 in
    (looked.ensures.token, clear_looked c.args.count (written_by c.loop-look.writer) (written_by looked.new.writer) looked.ensures.more before.1, more_again (written_by c.args.writer.now) (written_by c.loop-look.writer) (written_by looked.new.writer) before.2 looked.ensures.more, omega (arith, few, late))
