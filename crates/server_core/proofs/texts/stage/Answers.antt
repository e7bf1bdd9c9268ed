-- A text that is found is a module.
use Rattle.std.proofs.Common.{ap, sym, ◌∙◌}
use Rattle.std.specs.Option.{option_copied}
use Rattle.server_core.proofs.GivenTexts.{text_sound}
use Rattle.server_core.proofs.texts.stage.Goals as goal

pub new-requires : goal.new-requires
new-requires c = text_sound c.args.texts.now _ c.unwrap-text.result.now c.requires.sound (sym c.find.ensures ∙ ap option_copied c.unwrap-text.ensures)
