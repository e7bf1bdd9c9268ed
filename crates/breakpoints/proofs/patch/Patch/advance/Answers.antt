-- Where no root is stored, the answer is the same whatever was to be published.
use Rattle.progress_words.specs.Tokens.{written_by}
use Rattle.breakpoints.specs.Switched.{switched_over}
use Rattle.breakpoints.proofs.patch.Patch.advance.Goals as goal

pub returns-in-Begun-clause-answers : goal.returns-in-Begun-clause-answers
returns-in-Begun-clause-answers g c = c.stage.ensures.answers (switched_over (written_by c.args.writer.now) (g.M.Next.next c.args.next.now) (g.M.Next.blocks c.args.next.now))

pub returns-in-Staged-clause-answers : goal.returns-in-Staged-clause-answers
returns-in-Staged-clause-answers g c = c.enter.ensures.answers (switched_over (written_by c.args.writer.now) (g.M.Next.next c.args.next.now) (g.M.Next.blocks c.args.next.now))

pub returns-in-Published-clause-answers : goal.returns-in-Published-clause-answers
returns-in-Published-clause-answers g c = c.finish.ensures.answers (switched_over (written_by c.args.writer.now) (g.M.Next.next c.args.next.now) (g.M.Next.blocks c.args.next.now))

pub returns-in-Published-2-clause-answers : goal.returns-in-Published-2-clause-answers
returns-in-Published-2-clause-answers g c = c.restore.ensures.answers (switched_over (written_by c.args.writer.now) (g.M.Next.next c.args.next.now) (g.M.Next.blocks c.args.next.now))

pub returns-in-Restored-clause-answers : goal.returns-in-Restored-clause-answers
returns-in-Restored-clause-answers g c = c.finish-in-Restored.ensures.answers (switched_over (written_by c.args.writer.now) (g.M.Next.next c.args.next.now) (g.M.Next.blocks c.args.next.now))
