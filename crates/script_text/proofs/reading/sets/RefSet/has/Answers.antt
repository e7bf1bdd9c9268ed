use Rattle.script_text.proofs.Common.{◌∙◌, ap, List}
use Rattle.script_text.proofs.Types.{ModRef}
use Rattle.script_text.proofs.Forms.{is_among}
use Rattle.script_text.proofs.KeySets.{any-ref_keys}
use Rattle.script_text.proofs.reading.sets.RefSet.has.Goals as goal

-- the key stands for the module
pub returns : goal.returns
returns c =
    c.contains.ensures ∙ any-ref_keys c.ref_key.result c.self.inside.keys.keys
    ∙ ap (is_among _) c.ref_key.ensures
    ∙ ap (λ (refs : List ModRef). is_among refs c.args.to) c.self.view_is
