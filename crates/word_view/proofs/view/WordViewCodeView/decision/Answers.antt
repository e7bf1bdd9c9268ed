-- What has a small block has no breakpoint; of the other functions the words tell.
use Rattle.std.proofs.Common.{arith}
use Rattle.word_view.proofs.Deciding.{looked_read}
use Rattle.word_view.proofs.GoneOn.{read_kept}
use Rattle.word_view.proofs.ViewCalls.{decision_may, decision_value, same_held, same_shown, small_decided}
use Rattle.word_view.proofs.view.WordViewCodeView.decision.Goals as goal

pub returns-then-at-ge-BIG_BLOCKS-clause-value : goal.returns-then-at-ge-BIG_BLOCKS-clause-value
returns-then-at-ge-BIG_BLOCKS-clause-value g c =
    small_decided _ c.args.self.now c.self.view_is c.self.invariant.view c.args.at c.requires.lawful c.requires.stands c.requires.known c.requires.reached (omega (arith, c.if-at-ge-BIG_BLOCKS.true))

pub decision-requires-clause-token : goal.decision-requires-clause-token
decision-requires-clause-token g c = c.self.invariant.view.token

pub decision-requires-clause-may : goal.decision-requires-clause-may
decision-requires-clause-may g c =
    decision_may _ c.args.self.now c.self.view_is c.self.invariant.view c.args.at c.requires.lawful c.requires.stands c.requires.known c.requires.reached (omega (arith, c.if-at-ge-BIG_BLOCKS.false))

pub invariant_of-self : goal.invariant_of-self
invariant_of-self g c = read_kept _ _ c.decision.new.member (looked_read _ _ c.decision.ensures.read) c.decision.ensures.token c.self.invariant

pub returns-clause-value : goal.returns-clause-value
returns-clause-value g c =
    decision_value _ c.args.self.now c.self.view_is c.self.invariant.view c.args.at c.requires.lawful c.requires.stands c.requires.known c.requires.reached c.decision.result c.decision.ensures.value

pub returns-clause-same : goal.returns-clause-same
returns-clause-same g c = same_shown _ c.args.self.now c.self.view_is c.self.invariant.view c.decision.new.member (looked_read _ _ c.decision.ensures.read)

pub returns-clause-holds : goal.returns-clause-holds
returns-clause-holds g c = same_held _ c.args.self.now c.self.view_is c.self.invariant.view c.decision.new.member (looked_read _ _ c.decision.ensures.read)
