use Rattle.std.proofs.Common.{◌+◌, All, refl, subst, sym}
use Rattle.span_check.specs.Standings.{HasItsNames}
use Rattle.legality.specs.declared.sweep.Sweep.{Sweep}
use Rattle.legality.specs.Looks.{IsTold}
use Rattle.legality.specs.Sweeps.{told_by}
use Rattle.legality.proofs.Judged.{broken_by, failed}
use Rattle.legality.proofs.Making.{after_place, all_named, entry_made, entry_read, follows_where, stands_where, told_where}
use Rattle.legality.proofs.Texts.{of_text}
use Rattle.legality.proofs.entries.make_entry.Goals as goal

-- the runtime does not make what it alone may, or another makes it
pub returns-then-not-is_by_whom-clause-off : goal.returns-then-not-is_by_whom-clause-off
returns-then-not-is_by_whom-clause-off c =
    let at = entry_read c.args.log.now.journal c.as_slice.result.now c.args.place c.index-as_slice-place.result c.as_slice.ensures c.requires.there c.index-as_slice-place.is in
    λ others holds. failed c.is_by_whom.result c.if-not-is_by_whom.true c.is_by_whom.ensures (follows_where c.args.script.now c.args.log.now c.args.known.now.watched c.args.place c.args.sweep.now c.requires.swept c.index-as_slice-place.result at holds).by_whom

-- the purges do not stand in their halves
pub returns-then-not-may_stand-clause-off : goal.returns-then-not-may_stand-clause-off
returns-then-not-may_stand-clause-off c =
    let at = entry_read c.args.log.now.journal c.as_slice.result.now c.args.place c.index-as_slice-place.result c.as_slice.ensures c.requires.there c.index-as_slice-place.is in
    λ others holds. failed c.may_stand.result c.if-not-may_stand.true c.may_stand.ensures (stands_where c.args.script.now c.args.log.now c.args.known.now.watched c.args.place c.args.sweep.now c.requires.swept c.index-as_slice-place.result at holds)

pub is_told-requires-clause-named : goal.is_told-requires-clause-named
is_told-requires-clause-named c =
    let sweep = c.args.sweep.now in
    subst (All HasItsNames) (sym c.deref.ensures.value) (all_named c.args.script.now c.args.log.now sweep.server (sweep.server.generation + 1) sweep.standings.items c.requires.swept.standings)

-- what the command tells is not so
pub returns-then-not-is_told-clause-off : goal.returns-then-not-is_told-clause-off
returns-then-not-is_told-clause-off c =
    let at = entry_read c.args.log.now.journal c.as_slice.result.now c.args.place c.index-as_slice-place.result c.as_slice.ensures c.requires.there c.index-as_slice-place.is in
    broken_by c.args.script.now c.args.log.now c.args.known.now.watched c.told_by.result (told_by c.index-as_slice-place.result.cmd) c.told_by.ensures
    (λ holds. failed c.is_told.result c.if-not-is_told.true c.is_told.ensures
    (subst (λ xs. IsTold c.args.sweep.now.server xs c.args.log.now.processes c.index-as_slice-place.result.cmd) (sym c.deref.ensures.value)
    (told_where c.args.script.now c.args.log.now c.args.known.now.watched c.args.place c.args.sweep.now c.requires.swept c.index-as_slice-place.result at holds)))

pub follow-requires-clause-put : goal.follow-requires-clause-put
follow-requires-clause-put c =
    let at = entry_read c.args.log.now.journal c.as_slice.result.now c.args.place c.index-as_slice-place.result c.as_slice.ensures c.requires.there c.index-as_slice-place.is in
    of_text c.args.script.now c.requires.script c.args.log.now.journal c.requires.shaped.commands c.args.place c.index-as_slice-place.result at (c.is_by_whom.ensures.0 c.if-not-is_by_whom.false)

-- the entry does not follow
pub returns-then-not-branch-clause-off : goal.returns-then-not-branch-clause-off
returns-then-not-branch-clause-off c =
    let at = entry_read c.args.log.now.journal c.as_slice.result.now c.args.place c.index-as_slice-place.result c.as_slice.ensures c.requires.there c.index-as_slice-place.is in
    λ others holds. c.in_ok-follow.ensures.off c.if-not-branch.true (follows_where c.args.script.now c.args.log.now c.args.known.now.watched c.args.place c.args.sweep.now c.requires.swept c.index-as_slice-place.result at holds)

-- the entry was made
pub returns-clause-on : goal.returns-clause-on
returns-clause-on c = λ _.
    let at = entry_read c.args.log.now.journal c.as_slice.result.now c.args.place c.index-as_slice-place.result c.as_slice.ensures c.requires.there c.index-as_slice-place.is in
    let before = c.args.sweep.now in
    let after : Sweep = record before { server = c.follow.new.server; half = c.half_after-sweep.result } in
    after_place c.args.script.now c.args.log.now c.args.known.now.watched c.args.place after c.index-as_slice-place.result at
    (entry_made c.args.script.now c.args.log.now c.args.known.now.watched c.args.place before c.requires.swept c.index-as_slice-place.result at after
    (record {
      by_whom = c.is_by_whom.ensures.0 c.if-not-is_by_whom.false;
      stands = c.may_stand.ensures.0 c.if-not-may_stand.false;
      told = subst (λ xs. IsTold before.server xs c.args.log.now.processes c.index-as_slice-place.result.cmd) c.deref.ensures.value (c.is_told.ensures.0 c.if-not-is_told.false);
    }) (c.in_ok-follow.ensures.on c.if-not-branch.false)
    c.half_after-sweep.ensures refl refl)
