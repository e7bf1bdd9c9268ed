-- The slot names the area for this no more.
use Rattle.word_view.proofs.GoneOn.{stored_kept}
use Rattle.word_view.proofs.HoldsKept.{drop_kept}
use Rattle.word_view.proofs.ViewCalls.{dropped_held, drop_may, drop_shown}
use Rattle.word_view.proofs.view.WordViewCodeView.drop_hold.Goals as goal

pub drop_hold-requires-clause-token : goal.drop_hold-requires-clause-token
drop_hold-requires-clause-token g c = c.self.invariant.view.token

pub drop_hold-requires-clause-copied : goal.drop_hold-requires-clause-copied
drop_hold-requires-clause-copied g c = c.self.invariant.view.copied

pub drop_hold-requires-clause-run : goal.drop_hold-requires-clause-run
drop_hold-requires-clause-run g c = c.self.invariant.view.reader.run

pub drop_hold-requires-clause-held : goal.drop_hold-requires-clause-held
drop_hold-requires-clause-held g c = drop_may _ c.args.self.now c.self.view_is c.self.invariant.view c.args.area.serial c.args.kind c.requires.known

pub invariant_of-self : goal.invariant_of-self
invariant_of-self g c =
    stored_kept _ _ c.drop_hold.new.member (drop_kept _ c.drop_hold.new.member c.args.kind c.args.area.serial c.self.invariant.view c.drop_hold.ensures.root c.drop_hold.ensures.token c.drop_hold.ensures.copied c.drop_hold.ensures.dropped)
    c.drop_hold.ensures.same c.drop_hold.ensures.number c.drop_hold.ensures.root c.drop_hold.ensures.dropped.stored c.self.invariant

pub returns-clause-dropped : goal.returns-clause-dropped
returns-clause-dropped g c = dropped_held _ c.args.self.now c.self.view_is c.self.invariant.view c.drop_hold.new.member c.args.area.serial c.args.kind c.drop_hold.ensures.dropped

pub returns-clause-same : goal.returns-clause-same
returns-clause-same g c = drop_shown _ c.args.self.now c.self.view_is c.self.invariant.view c.drop_hold.new.member c.args.area.serial c.args.kind c.drop_hold.ensures.dropped
