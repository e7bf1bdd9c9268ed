use Rattle.area_core.specs.Step.{to_publish}
use Rattle.breakpoints.proofs.patch.Patch.switch.Given as goal

-- the generation of the call, over the blocks of the call
abbrev pub ghosts-publish : goal.ghosts-publish
ghosts-publish g a = record { next = to_publish a.code a.bp a.term (g.M.Next.next a._next.now) (g.M.Next.blocks a._next.now) }
