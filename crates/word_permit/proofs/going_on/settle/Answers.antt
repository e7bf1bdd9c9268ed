-- The entry that joined for the step is taken back.
use Rattle.word_permit.proofs.Settling.{popped, settled_back}
use Rattle.word_permit.proofs.going_on.settle.Goals as goal

pub returns-in-Err : goal.returns-in-Err
returns-in-Err c = settled_back c.args.who c.args.change c.args.stage c.args.after c.args.book.now _ c.args.step _ c.in-Err.is (popped c.args.book.now c.pop.new.self c.pop.result c.requires.joined c.pop.ensures)
