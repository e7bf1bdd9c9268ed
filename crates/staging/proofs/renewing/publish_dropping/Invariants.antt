-- What is published: the generation of the call, over the blocks that the root word names.
use Rattle.area_core.specs.Step.{to_publish}
use Rattle.staging.proofs.renewing.publish_dropping.Given as goal

abbrev pub ghosts-publish_over_dropping : goal.ghosts-publish_over_dropping
ghosts-publish_over_dropping g a = record { next = to_publish a.root.code a.root.bp a.root.term (g.M.Next.next a._next.now) (g.M.Next.blocks a._next.now) }
