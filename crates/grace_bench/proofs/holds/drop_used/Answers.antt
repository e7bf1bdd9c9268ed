-- A drop leaves the process as it may name the instance.
use Rattle.progress_words.specs.Tokens.{view_of}
use Rattle.grace_bench.proofs.Holding.{use_dropped}
use Rattle.grace_bench.proofs.holds.drop_used.Goals as goal

pub returns : goal.returns
returns c = record {
  user = record {
    of = c.drop_hold.ensures.token;
    copied = c.drop_hold.ensures.copied;
    may = use_dropped _ (view_of c.args.member.now) (view_of c.drop_hold.new.member) c.requires.user.may c.drop_hold.ensures.dropped;
  };
}
