-- A test of each label is one of its text.
use Rattle.mod_text.proofs.Common.{◌∙◌, sym, bytes_eq}
use Rattle.mod_text.proofs.reader.is_among.Goals as goal
use Rattle.term_core.proofs.Lists.{any_map}

pub returns : goal.returns
returns c = c.contains.ensures ∙ sym (any_map (bytes_eq c.args.name.now) (λ k. k.now) c.args.labels.now.keys)
