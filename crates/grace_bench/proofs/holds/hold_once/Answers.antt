-- The instance may be named, since it is current, and is named then.
use Rattle.std.proofs.Common.{inr, refl, sym, subst}
use Rattle.term_core.specs.declared.hold.Kind.TheVariants.{Frame}
use Rattle.shared_words.specs.declared.view.MemberView.{MemberView}
use Rattle.progress_words.specs.Tokens.{view_of}
use Rattle.grace_bench.specs.Holding.{MayUse}
use Rattle.grace_bench.proofs.Holding.{use_held}
use Rattle.grace_bench.proofs.holds.hold_once.Goals as goal

pub hold-requires-clause-may : goal.hold-requires-clause-may
hold-requires-clause-may c = inr c.requires.user.may.current

pub drop_used-requires-clause-user : goal.drop_used-requires-clause-user
drop_used-requires-clause-user c = record {
  of = c.in-Ok.ensures.token;
  copied = c.in-Ok.ensures.copied;
  may = use_held _ (view_of c.args.member.now) (view_of c.hold.new.member) c.requires.user.may c.in-Ok.ensures.held;
}

pub drop_used-requires-clause-held : goal.drop_used-requires-clause-held
drop_used-requires-clause-held c = (c.in-Ok.ensures.held.names Frame 1).1 (inr (refl, refl))

pub returns-in-Err : goal.returns-in-Err
returns-in-Err c = record {
  user = record {
    of = c.in-Err.ensures.token;
    copied = c.in-Err.ensures.copied;
    may = subst (λ (m : MemberView). MayUse c.args.shared.now.table.shared.key m) (sym c.in-Err.ensures.unchanged) c.requires.user.may;
  };
}
