use Rattle.mod_text.proofs.reader.ModuleReader.keep.Goals as goal

pub returns-in-End-clause-kept : goal.returns-in-End-clause-kept
returns-in-End-clause-kept c names = rw c.in-End.is (c.keep_end.ensures.kept names)
