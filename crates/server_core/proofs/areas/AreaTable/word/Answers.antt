-- The word is one of the area at the serial's place.
use Rattle.std.proofs.Common.{Some, ap, sym, ◌∙◌}
use Rattle.std.specs.Option.{option_copied}
use Rattle.server_core.proofs.AreaPlaces.{word_found}
use Rattle.server_core.proofs.areas.AreaTable.word.Goals as goal

pub returns-in_err-instance : goal.returns-in_err-instance
returns-in_err-instance c = c.from_residual.ensures ∙ word_found c.args.self.now c.args.serial c.args.at _ (ap option_copied (sym c.in_err-instance.was) ∙ c.get.ensures)

pub returns-in-Loaded : goal.returns-in-Loaded
returns-in-Loaded c = c.word.ensures ∙ word_found c.args.self.now c.args.serial c.args.at _ (ap Some (sym c.in-Loaded.is) ∙ c.in_ok-instance.ensures)

pub returns-in-Stored : goal.returns-in-Stored
returns-in-Stored c = c.word-in-Stored.ensures ∙ word_found c.args.self.now c.args.serial c.args.at _ (ap Some (sym c.in-Stored.is) ∙ c.in_ok-instance.ensures)
