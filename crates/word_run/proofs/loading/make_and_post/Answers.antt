use Rattle.write_permit.specs.Book.{shown}
use Rattle.word_permit.proofs.Runs.{book_of_run}
use Rattle.word_run.proofs.Making.{makes_at_once}
use Rattle.word_run.proofs.loading.make_and_post.Goals as goal

-- it looked for old code
pub returns-clause-made : goal.returns-clause-made
returns-clause-made g c =
    makes_at_once (shown c.args.permit.now.plain) (shown c.at_once.new.self.plain) c.args.who _ c.args.posters.now (book_of_run g.K.Naming.names g.N.RunName.run _ c.journal.ensures.kept).permit c.in_ok-at_once.ensures.ok
