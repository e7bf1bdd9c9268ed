-- A serial that is none of them leaves them all.
use Rattle.std.proofs.Common.{sym, subst, refl, false, ◌≡◌}
use Rattle.server_core.specs.ServerState.{is_serial_in}
use Rattle.server_core.proofs.Gaps.{without_absent}
use Rattle.server_core.proofs.retired.RetiredAreas.remove.Goals as goal

pub returns-in_default : goal.returns-in_default
returns-in_default c = sym (without_absent c.args.self.now c.args.serial (subst (λ serials. is_serial_in serials c.args.serial ≡ false) c.self.view_is (c.in_default.ensures.none refl)))
