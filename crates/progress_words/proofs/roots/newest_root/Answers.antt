-- The view is as before, and the word is that of the newest generation.
use Rattle.std.proofs.Common.{ap}
use Rattle.shared_words.specs.Seats.{writer_of}
use Rattle.progress_words.proofs.Rooted.{some_published, view_same, parts_told}
use Rattle.progress_words.proofs.roots.newest_root.Goals as goal

pub returns-clause-view : goal.returns-clause-view
returns-clause-view g c = ap writer_of (view_same g.N.Served.served _ _ _ c.load_root-root.ensures.view c.requires.token.view)

pub returns-clause-root : goal.returns-clause-root
returns-clause-root g c = parts_told g.N.Served.served _ _ c.load_root-root.result c.load_root-root.ensures.view c.requires.token.view (some_published _ _ c.args.writer.now c.requires.token)
