use Rattle.area_core.specs.Step.{to_publish}
use Rattle.term_table.proofs.table.TermTable.publish.Given as goal

-- the generation of the call, over the blocks of the call
abbrev pub ghosts-publish_over : goal.ghosts-publish_over
ghosts-publish_over g a = record { next = to_publish a.code a.bp a.term (g.M.Next.next a._next.now) (g.M.Next.blocks a._next.now) }
