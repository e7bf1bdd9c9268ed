-- The module is that of the area at the serial's place.
use Rattle.std.proofs.Common.{Some, None, ap, sym, ◌∙◌}
use Rattle.std.specs.Option.{option_copied}
use Rattle.server_core.proofs.AreaPlaces.{code_found}
use Rattle.server_core.proofs.areas.AreaTable.code.Goals as goal

pub returns-in_err-instance : goal.returns-in_err-instance
returns-in_err-instance c =
    let found = code_found c.args.self.now c.args.serial None (ap option_copied (sym c.in_err-instance.was) ∙ c.get.ensures) in
    ap option_copied c.from_residual.ensures ∙ found

pub returns-in-Loaded : goal.returns-in-Loaded
returns-in-Loaded c = ap Some c.code.ensures ∙ code_found c.args.self.now c.args.serial _ (ap Some (sym c.in-Loaded.is) ∙ c.in_ok-instance.ensures)

pub returns-in-Stored : goal.returns-in-Stored
returns-in-Stored c = code_found c.args.self.now c.args.serial _ (ap Some (sym c.in-Stored.is) ∙ c.in_ok-instance.ensures)
