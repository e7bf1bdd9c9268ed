use Rattle.std.proofs.Common.{ℕ, ◌+◌, drop, replicate, sym}
use Rattle.std.proofs.lemmas.List.{drop_all}
use Rattle.term_core.proofs.Lefts.{left_from}
use Rattle.term_core.proofs.Lists.{zeros}
use Rattle.legality.specs.Places.{AreLeft}
use Rattle.legality.proofs.Equivalences.{through, of_equal, never, stepped, refused}
use Rattle.legality.proofs.CommandPlaces.{begins_with_all}
use Rattle.legality.proofs.shape.order.has_commands_in_order.Goals as goal

-- at the start all is left
pub loop-entry-init : goal.loop-entry-init
loop-entry-init c =
    let first = replicate {A = ℕ} 8 0 in
    through (begins_with_all c.args.script.now.loaders first c.args.log.now.journal (zeros 8)) (of_equal (AreLeft c.args.script.now.loaders first) _ _ (sym c.as_slice-entry-items.ensures))

-- an entry that does not fit
pub returns-then-not-take_command : goal.returns-then-not-take_command
returns-then-not-take_command c =
    let here = through c.loop-entry.invariant (of_equal (AreLeft c.args.script.now.loaders c.loop-entry.places) _ _ (left_from _ _ _ c.entry-item.is c.loop-entry-test.true)) in
    never (refused _ c.if-not-take_command.true (through here (c.take_command.ensures (drop (c.loop-entry.entry-index + 1) c.as_slice-entry-items.result.now))))

-- an entry that fits
pub loop-entry-preserved : goal.loop-entry-preserved
loop-entry-preserved c =
    let here = through c.loop-entry.invariant (of_equal (AreLeft c.args.script.now.loaders c.loop-entry.places) _ _ (left_from _ _ _ c.entry-item.is c.loop-entry-test.true)) in
    stepped _ c.if-not-take_command.false (through here (c.take_command.ensures (drop (c.loop-entry.entry-index + 1) c.as_slice-entry-items.result.now)))

-- no entry is left
pub returns : goal.returns
returns c =
    let rest = of_equal (AreLeft c.args.script.now.loaders c.loop-entry.places) _ _ (drop_all _ _ c.loop-entry-test.false) in
    let whole = through c.loop-entry.invariant rest in
    (λ h. whole.1 (c.are_all_taken.ensures.0 h), λ h. c.are_all_taken.ensures.1 (whole.0 h))
