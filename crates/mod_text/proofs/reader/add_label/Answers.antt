-- A new label goes last.
use Rattle.mod_text.proofs.Keepings.{added_last}
use Rattle.mod_text.proofs.reader.add_label.Goals as goal

pub returns-clause-ok : goal.returns-clause-ok
returns-clause-ok c = added_last c.args.labels.now.keys c.insert.new.self.keys c.args.name c.in_ok-insert.ensures.keys c.requires
