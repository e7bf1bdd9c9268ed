-- The frames below are fewer, and what they name is held.
use Rattle.std.proofs.Common.{[], ◌∷◌, ap, arith, length, length-append, sym, subst}
use Rattle.machine_core.specs.View.{IsLawful}
use Rattle.machine_core.proofs.CopiedValues.{rest_named, rest_values}
use Rattle.machine_core.proofs.copying.+copy_frames.Goals as goal

pub copy_frames-requires : goal.copy_frames-requires
copy_frames-requires g t c κs within =
    let shown = g.V.CodeView.shown c.args.view.now in
    let now = g.V.CodeView.shown c.copied_registers.new.view in (
      omega (arith, c.decreases, ap length c.in-Some.ensures, length-append c.pop.new.self (c.in-Some.frame ∷ [])),
      (
        within,
        (
          subst IsLawful (sym c.in_ok-frame.ensures.same) c.requires.lawful,
          (
            rest_named shown now c.args.frames.now c.pop.new.self c.in-Some.frame c.in_ok-frame.ensures.same c.in-Some.ensures (g.V.CodeView.held c.args.view.now) (g.V.CodeView.held c.copied_registers.new.view) c.in_ok-frame.ensures.holds c.requires.named,
            rest_values shown now c.args.frames.now c.pop.new.self c.in-Some.frame c.in_ok-frame.ensures.same c.in-Some.ensures c.requires.values,
          ),
        ),
      ),
    )
