-- The slot names the area for this too, or names 16 others.
use Rattle.word_view.proofs.GoneOn.{either_stored, stored_kept}
use Rattle.word_view.proofs.ViewCalls.{full_of, hold_may, hold_room, hold_shown, hold_view, held_then, refused_then}
use Rattle.word_view.proofs.view.WordViewCodeView.hold.Goals as goal

pub hold-requires-clause-token : goal.hold-requires-clause-token
hold-requires-clause-token g c = c.self.invariant.view.token

pub hold-requires-clause-copied : goal.hold-requires-clause-copied
hold-requires-clause-copied g c = c.self.invariant.view.copied

pub hold-requires-clause-run : goal.hold-requires-clause-run
hold-requires-clause-run g c = c.self.invariant.view.reader.run

pub hold-requires-clause-unkilled : goal.hold-requires-clause-unkilled
hold-requires-clause-unkilled g c = c.self.invariant.view.reader.unkilled

pub hold-requires-clause-may : goal.hold-requires-clause-may
hold-requires-clause-may g c = hold_may _ c.args.self.now c.self.view_is c.self.invariant.view c.args.area.serial c.args.kind c.requires.reached

pub hold-requires-clause-room : goal.hold-requires-clause-room
hold-requires-clause-room g c = hold_room _ c.args.self.now c.self.view_is c.self.invariant.view c.args.area.serial c.args.kind c.requires.reached

pub invariant_of-self : goal.invariant_of-self
invariant_of-self g c =
    stored_kept _ _ c.hold.new.member
    (hold_view _ c.args.self.now c.self.view_is c.self.invariant.view c.args.area.serial c.args.kind c.requires.reached c.hold.new.member c.hold.result c.hold.ensures.root c.hold.ensures.token c.hold.ensures.copied c.hold.ensures.held c.hold.ensures.unchanged)
    c.hold.ensures.same c.hold.ensures.number c.hold.ensures.root (either_stored _ c.args.kind c.args.area.serial _ _ c.hold.result c.hold.ensures.held c.hold.ensures.unchanged) c.self.invariant

pub returns-clause-full : goal.returns-clause-full
returns-clause-full g c = full_of _ c.args.self.now c.self.view_is c.self.invariant.view c.args.area.serial c.hold.result c.hold.ensures.room c.hold.ensures.full

pub returns-clause-ok : goal.returns-clause-ok
returns-clause-ok g c = held_then _ c.args.self.now c.self.view_is c.self.invariant.view c.hold.new.member c.args.area.serial c.args.kind c.hold.result c.hold.ensures.held

pub returns-clause-err : goal.returns-clause-err
returns-clause-err g c = refused_then _ c.args.self.now c.self.view_is c.self.invariant.view c.hold.new.member c.hold.result c.hold.ensures.unchanged

pub returns-clause-same : goal.returns-clause-same
returns-clause-same g c = hold_shown _ c.args.self.now c.self.view_is c.self.invariant.view c.hold.new.member c.args.area.serial c.args.kind c.hold.result c.hold.ensures.held c.hold.ensures.unchanged
