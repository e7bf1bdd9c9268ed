use Rattle.std.proofs.Common.{ap, refl, ◌∙◌}
use Rattle.shared_words.specs.Seats.{member_of}
use Rattle.shared_words.specs.Kinds.{counter_found}
use Rattle.progress_words.specs.Tokens.{view_of}
use Rattle.progress_words.proofs.Confirming.{reported_now}
use Rattle.progress_words.proofs.reports.confirm_newest.Goals as goal

-- the generation of the root that was loaded
pub returns-clause-reported : goal.returns-clause-reported
returns-clause-reported g c =
    let counted = c.load_counter-counter in
    let rooted = c.load_root-root in
    reported_now g.N.Served.served (view_of c.args.member.now) counted.new.pass.seat.me.0 rooted.new.pass.seat.me.0 counted.result rooted.result _ (view_of c.confirm.new.member) counted.ensures.range
    (counted.ensures.view ∙ ap (counter_found counted.result) c.requires.token.view) rooted.ensures.view (ap member_of c.confirm.ensures.view) refl
