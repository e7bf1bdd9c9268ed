use Rattle.progress_words.specs.Tokens.{view_of}
use Rattle.progress_words.proofs.Tokens.{view_is}
use Rattle.progress_words.proofs.Raising.{may_look_at_delay, delay_view}
use Rattle.progress_words.proofs.advances.delays.Goals as goal

-- it is the delay count of the value after the counter
pub load_delay-requires-clause-may : goal.load_delay-requires-clause-may
load_delay-requires-clause-may g c = may_look_at_delay c.args.counter c.count_of.result (view_of c.args.member.now) c.requires.leads c.count_of.ensures

pub returns-clause-view : goal.returns-clause-view
returns-clause-view g c = delay_view c.args.counter c.count_of.result c.load_delay.result (view_of c.args.member.now) _ c.requires.leads c.count_of.ensures (view_is c.load_delay.new.member.seat _ c.load_delay.ensures.view)
