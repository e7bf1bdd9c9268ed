-- What has a small block is not doomed; of the other areas that are named the retire and doom words tell.
use Rattle.std.proofs.Common.{arith, sym}
use Rattle.word_view.proofs.GoneOn.{read_kept}
use Rattle.word_view.proofs.ViewCalls.{doomed_value, retired_stays, same_held, same_shown, small_stays, told_named}
use Rattle.word_view.proofs.view.WordViewCodeView.doomed.Goals as goal

pub returns-then-area-ge-BIG_BLOCKS-clause-value : goal.returns-then-area-ge-BIG_BLOCKS-clause-value
returns-then-area-ge-BIG_BLOCKS-clause-value g c =
    doomed_value _ c.args.self.now c.self.view_is c.self.invariant.view c.args.area c.requires.stands c.requires.named _ (small_stays _ c.args.self.now c.self.view_is c.self.invariant.view c.args.area c.requires.stands c.requires.named (omega (arith, c.if-area-ge-BIG_BLOCKS.true)))

pub doomed_in-requires-clause-token : goal.doomed_in-requires-clause-token
doomed_in-requires-clause-token g c = c.self.invariant.view.token

pub doomed_in-requires-clause-reading : goal.doomed_in-requires-clause-reading
doomed_in-requires-clause-reading g c = c.self.invariant.view.reading

pub doomed_in-requires-clause-named : goal.doomed_in-requires-clause-named
doomed_in-requires-clause-named g c = told_named _ c.args.self.now c.self.view_is c.self.invariant.view c.args.area c.requires.stands c.requires.named

pub doomed_in-requires-clause-apart : goal.doomed_in-requires-clause-apart
doomed_in-requires-clause-apart g c = λ retired. sym (retired_stays _ c.args.self.now c.self.view_is c.self.invariant.view c.args.area c.requires.stands c.requires.named retired)

pub invariant_of-self : goal.invariant_of-self
invariant_of-self g c = read_kept _ _ c.doomed_in.new.member c.doomed_in.ensures.read c.doomed_in.ensures.token c.self.invariant

pub returns-clause-value : goal.returns-clause-value
returns-clause-value g c = doomed_value _ c.args.self.now c.self.view_is c.self.invariant.view c.args.area c.requires.stands c.requires.named c.doomed_in.result c.doomed_in.ensures.value

pub returns-clause-same : goal.returns-clause-same
returns-clause-same g c = same_shown _ c.args.self.now c.self.view_is c.self.invariant.view c.doomed_in.new.member c.doomed_in.ensures.read

pub returns-clause-holds : goal.returns-clause-holds
returns-clause-holds g c = same_held _ c.args.self.now c.self.view_is c.self.invariant.view c.doomed_in.new.member c.doomed_in.ensures.read
