use Rattle.prgr_core.specs.Machine.{machine_of}
use Rattle.prgr_core.proofs.GraceHolds.{grace_holds}
use Rattle.prgr_core.proofs.laws.grace_follows.Goals as goal

-- grace follows from the invariant of a sound state
pub returns : goal.returns
returns c = λ s sound. grace_holds (machine_of s) sound.invariant
