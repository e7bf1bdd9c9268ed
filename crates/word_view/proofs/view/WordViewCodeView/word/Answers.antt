-- A word of an area that may be held stands in the block in which the area stands.
use Rattle.word_view.proofs.GoneOn.{read_kept}
use Rattle.word_view.proofs.ViewCalls.{same_held, same_shown, word_may, word_value}
use Rattle.word_view.proofs.view.WordViewCodeView.word.Goals as goal

pub area_word-requires-clause-token : goal.area_word-requires-clause-token
area_word-requires-clause-token g c = c.self.invariant.view.token

pub area_word-requires-clause-reading : goal.area_word-requires-clause-reading
area_word-requires-clause-reading g c = c.self.invariant.view.reading

pub area_word-requires-clause-may : goal.area_word-requires-clause-may
area_word-requires-clause-may g c = word_may _ c.args.self.now c.self.view_is c.self.invariant.view c.args.area c.args.at c.requires.stands c.requires.readable c.requires.reached

pub invariant_of-self : goal.invariant_of-self
invariant_of-self g c = read_kept _ _ c.area_word.new.member c.area_word.ensures.read c.area_word.ensures.token c.self.invariant

pub returns-clause-value : goal.returns-clause-value
returns-clause-value g c = word_value _ c.args.self.now c.self.view_is c.self.invariant.view c.args.area c.args.at c.requires.stands c.requires.readable c.requires.reached c.area_word.result c.area_word.ensures.word

pub returns-clause-same : goal.returns-clause-same
returns-clause-same g c = same_shown _ c.args.self.now c.self.view_is c.self.invariant.view c.area_word.new.member c.area_word.ensures.read

pub returns-clause-holds : goal.returns-clause-holds
returns-clause-holds g c = same_held _ c.args.self.now c.self.view_is c.self.invariant.view c.area_word.new.member c.area_word.ensures.read
