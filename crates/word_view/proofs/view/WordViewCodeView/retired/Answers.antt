-- The retire word tells it of the area that is named.
use Rattle.word_view.proofs.GoneOn.{read_kept}
use Rattle.word_view.proofs.ViewCalls.{retired_value, same_held, same_shown, told_named}
use Rattle.word_view.proofs.view.WordViewCodeView.retired.Goals as goal

pub retired_in-requires-clause-token : goal.retired_in-requires-clause-token
retired_in-requires-clause-token g c = c.self.invariant.view.token

pub retired_in-requires-clause-reading : goal.retired_in-requires-clause-reading
retired_in-requires-clause-reading g c = c.self.invariant.view.reading

pub retired_in-requires-clause-named : goal.retired_in-requires-clause-named
retired_in-requires-clause-named g c = told_named _ c.args.self.now c.self.view_is c.self.invariant.view c.args.area c.requires.stands c.requires.named

pub invariant_of-self : goal.invariant_of-self
invariant_of-self g c = read_kept _ _ c.retired_in.new.member c.retired_in.ensures.read c.retired_in.ensures.token c.self.invariant

pub returns-clause-value : goal.returns-clause-value
returns-clause-value g c = retired_value _ c.args.self.now c.self.view_is c.self.invariant.view c.args.area c.requires.stands c.requires.named c.retired_in.result c.retired_in.ensures.value

pub returns-clause-same : goal.returns-clause-same
returns-clause-same g c = same_shown _ c.args.self.now c.self.view_is c.self.invariant.view c.retired_in.new.member c.retired_in.ensures.read

pub returns-clause-holds : goal.returns-clause-holds
returns-clause-holds g c = same_held _ c.args.self.now c.self.view_is c.self.invariant.view c.retired_in.new.member c.retired_in.ensures.read
