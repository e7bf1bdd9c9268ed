-- What was found stands for what the key holds.
use Rattle.std.proofs.Common.{◌∙◌, Some, ap}
use Rattle.term_core.specs.declared.area.Found.TheVariants.{Area, Word}
use Rattle.machine_core.specs.Process.{owned}
use Rattle.machine_core.proofs.ReadValues.{key_read}
use Rattle.machine_core.proofs.sources.key_value.Goals as goal

pub returns-in-Word-clause-value : goal.returns-in-Word-clause-value
returns-in-Word-clause-value g c =
    ap (λ t. Some (owned t)) c.of_word.ensures
    ∙ (key_read (g.V.CodeView.shown c.args.view.now) (g.V.CodeView.held c.args.view.now) c.args.key.0 (Word c.in-Word.word) c.requires.lawful tt c.in-Word.ensures.value).shows

pub returns-in-Area-clause-value : goal.returns-in-Area-clause-value
returns-in-Area-clause-value g c =
    (key_read (g.V.CodeView.shown c.args.view.now) (g.V.CodeView.held c.args.view.now) c.args.key.0 (Area c.in-Area.area) c.requires.lawful c.in-Area.ensures.stands c.in-Area.ensures.value).shows

pub returns-in-Area-clause-usable : goal.returns-in-Area-clause-usable
returns-in-Area-clause-usable g c =
    (key_read (g.V.CodeView.shown c.args.view.now) (g.V.CodeView.held c.args.view.now) c.args.key.0 (Area c.in-Area.area) c.requires.lawful c.in-Area.ensures.stands c.in-Area.ensures.value).usable
