-- The first place of a function stands in the row of its instance's image.
use Rattle.std.proofs.Common.{arith}
use Rattle.word_view.proofs.GoneOn.{read_kept}
use Rattle.word_view.proofs.ViewCalls.{entry_fits, entry_may, entry_value, same_held, same_shown}
use Rattle.word_view.proofs.view.WordViewCodeView.entry.Goals as goal

pub area_word-requires-clause-token : goal.area_word-requires-clause-token
area_word-requires-clause-token g c = c.self.invariant.view.token

pub area_word-requires-clause-reading : goal.area_word-requires-clause-reading
area_word-requires-clause-reading g c = c.self.invariant.view.reading

pub area_word-requires-clause-may : goal.area_word-requires-clause-may
area_word-requires-clause-may g c = entry_may _ c.args.self.now c.self.view_is c.self.invariant.view c.args.at c.requires.lawful c.requires.stands c.requires.known c.requires.reached

pub overflow_cast-result : goal.overflow_cast-result
overflow_cast-result g c =
    let few = entry_fits _ c.args.self.now c.self.view_is c.self.invariant.view c.args.at c.requires.lawful c.requires.stands c.requires.known c.requires.reached c.area_word.result c.area_word.ensures.word in
    omega (arith, few)

pub invariant_of-self : goal.invariant_of-self
invariant_of-self g c = read_kept _ _ c.area_word.new.member c.area_word.ensures.read c.area_word.ensures.token c.self.invariant

pub returns-clause-value : goal.returns-clause-value
returns-clause-value g c = entry_value _ c.args.self.now c.self.view_is c.self.invariant.view c.args.at c.requires.lawful c.requires.stands c.requires.known c.requires.reached c.area_word.result c.area_word.ensures.word

pub returns-clause-same : goal.returns-clause-same
returns-clause-same g c = same_shown _ c.args.self.now c.self.view_is c.self.invariant.view c.area_word.new.member c.area_word.ensures.read

pub returns-clause-holds : goal.returns-clause-holds
returns-clause-holds g c = same_held _ c.args.self.now c.self.view_is c.self.invariant.view c.area_word.new.member c.area_word.ensures.read
