use Rattle.std.proofs.Common.{sym}
use Rattle.legality.proofs.Judged.{judged_both}
use Rattle.legality.proofs.judging.legal.Goals as goal

pub returns : goal.returns
returns c = judged_both c.args.script.now c.args.log.now c.in_ok-breach.breach c.is_none.result (sym c.is_none.ensures) c.in_ok-breach.ensures
