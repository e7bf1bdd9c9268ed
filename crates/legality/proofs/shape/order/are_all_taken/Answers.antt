use Rattle.std.proofs.Common.{◌<◌, ◌≤◌, length, ap, ◌∙◌, get_or, arith}
use Rattle.legality.specs.Places.{loader_place}
use Rattle.legality.proofs.Equivalences.{never, always}
use Rattle.legality.proofs.CommandPlaces.{all_taken, some_left, one_taken}
use Rattle.legality.proofs.shape.order.are_all_taken.Goals as goal

-- a loader with a command left
pub returns-then-places-loader : goal.returns-then-places-loader
returns-then-places-loader c =
    let is = c.commands-item.is ∙ ap (λ xs. get_or xs c.loop-loader.loader c.commands-item.result) c.as_slice-commands-items.ensures in
    let short : loader_place c.args.places.now c.loop-loader.loader < length c.commands-item.result = omega arith in
    never (some_left _ _ _ c.commands-item.result is (omega (arith, ap length c.as_slice-commands-items.ensures)) short)

-- a loader with none
pub loop-loader-preserved : goal.loop-loader-preserved
loop-loader-preserved c =
    let is = c.commands-item.is ∙ ap (λ xs. get_or xs c.loop-loader.loader c.commands-item.result) c.as_slice-commands-items.ensures in
    let long : length c.commands-item.result ≤ loader_place c.args.places.now c.loop-loader.loader = omega arith in
    one_taken _ _ _ c.commands-item.result is (omega (arith, ap length c.as_slice-commands-items.ensures)) long c.loop-loader.invariant

-- no loader has one
pub returns : goal.returns
returns c = always (all_taken _ _ (λ k less. c.loop-loader.invariant k (omega (arith, less, ap length c.as_slice-commands-items.ensures))))
