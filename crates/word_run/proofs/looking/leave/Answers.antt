use Rattle.std.proofs.Common.{arith}
use Rattle.word_run.proofs.looking.leave.Goals as goal

-- it took all, and left them
pub returns : goal.returns
returns g c = record {
  token = c.look_on.new.self.watcher;
  shots = c.look_on.new.self.shots;
  left = record {
    token_of = c.in_ok-look_on.ensures.observes.token;
    counted = omega (arith, c.in_ok-look_on.ensures.counted, c.in_ok-look_on.ensures.over);
    saw = c.in_ok-look_on.ensures.observes.saw;
  };
  watcher_joins = c.in_ok-push.ensures.items;
  log_joins = c.in_ok-push-2.ensures.ok;
}
