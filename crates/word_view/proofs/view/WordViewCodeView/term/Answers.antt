-- What the look-up finds is what the generation has under the key.
use Rattle.word_view.proofs.GoneOn.{read_kept}
use Rattle.word_view.proofs.ViewCalls.{keys_plain, same_held, same_shown, term_stands, term_value}
use Rattle.word_view.proofs.view.WordViewCodeView.term.Goals as goal

pub held_under-requires-clause-token : goal.held_under-requires-clause-token
held_under-requires-clause-token g c = c.self.invariant.view.token

pub held_under-requires-clause-reading : goal.held_under-requires-clause-reading
held_under-requires-clause-reading g c = c.self.invariant.view.reading

pub held_under-requires-clause-plain : goal.held_under-requires-clause-plain
held_under-requires-clause-plain g c = keys_plain _ c.args.self.now c.self.view_is c.self.invariant.view

pub invariant_of-self : goal.invariant_of-self
invariant_of-self g c = read_kept _ _ c.held_under.new.member c.held_under.ensures.read c.held_under.ensures.token c.self.invariant

pub returns-clause-value : goal.returns-clause-value
returns-clause-value g c = term_value _ c.args.self.now c.self.view_is c.self.invariant.view c.args.key.0 c.held_under.result c.held_under.ensures.value

pub returns-clause-stands : goal.returns-clause-stands
returns-clause-stands g c = term_stands _ c.args.self.now c.self.view_is c.self.invariant.view c.held_under.result c.held_under.ensures.listed

pub returns-clause-same : goal.returns-clause-same
returns-clause-same g c = same_shown _ c.args.self.now c.self.view_is c.self.invariant.view c.held_under.new.member c.held_under.ensures.read

pub returns-clause-holds : goal.returns-clause-holds
returns-clause-holds g c = same_held _ c.args.self.now c.self.view_is c.self.invariant.view c.held_under.new.member c.held_under.ensures.read
