-- What is published: the generation of the call, over the blocks that the root word names.
use Rattle.area_core.specs.Step.{to_publish}
use Rattle.staging.proofs.renewing.publish_again.Given as goal

abbrev pub ghosts-publish_over : goal.ghosts-publish_over
ghosts-publish_over g a = record { next = to_publish a.root.code a.root.bp a.root.term (g.M.Next.next a._next.now) (g.M.Next.blocks a._next.now) }
