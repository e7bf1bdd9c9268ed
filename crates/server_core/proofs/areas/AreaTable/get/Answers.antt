-- The area with serial n stands at place n - 1, and there is none with serial 0.
use Rattle.std.proofs.Common.{ap, arith}
use Rattle.std.proofs.lemmas.Grind.{common_steps}
use Rattle.std.proofs.lemmas.Option.{gets}
use Rattle.server_core.specs.Areas.{area_at}
use Rattle.server_core.proofs.areas.AreaTable.get.Goals as goal

pub returns : goal.returns
returns c =
    let seen = ap (λ s. area_at s c.args.serial) c.self.view_is in
    grind (arith, common_steps, gets)
