-- Each call has one frame fewer.
use Rattle.std.proofs.Common.{length}
use Rattle.machine_core.proofs.copying.+copy_frames.Given as goal

abbrev pub decreases-copy_frames : goal.decreases-copy_frames
decreases-copy_frames g l = length l.frames.now
