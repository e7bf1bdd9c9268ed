-- One word more is copied.
use Rattle.std.proofs.Common.{arith}
use Rattle.mod_core.proofs.Marks.{copied_all, copied_more}
use Rattle.mod_core.proofs.decoding.without_marks.Goals as goal

pub loop-at-preserved : goal.loop-at-preserved
loop-at-preserved c =
    let more = copied_more c.word_at-count.result c.args.words.now c.loop-at.copy c.push.new.self c.loop-at.at c.without_mark.result c.loop-at.invariant.long c.loop-at.invariant.each c.without_mark.ensures c.in_ok-push.ensures.ok in
    record { long = more.0; each = more.1 }

pub returns : goal.returns
returns c = copied_all c.word_at-count.result c.args.words.now c.loop-at.copy c.loop-at.at (omega arith) c.loop-at.invariant.long c.loop-at.invariant.each c.word_at-count.ensures
