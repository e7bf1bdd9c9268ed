-- What the next frame names is noted with what those before it name.
use Rattle.std.proofs.Common.{◌∙◌, ◌||◌, ap}
use Rattle.machine_core.specs.Holds.{is_among}
use Rattle.machine_core.specs.Process.{value_areas}
use Rattle.span_check.proofs.Names.{names_more}
use Rattle.span_check.proofs.named.names_of.Goals as goal

pub loop-frame-preserved : goal.loop-frame-preserved
loop-frame-preserved c =
    names_more c.args.frames.now c.loop-frame.frame-index c.frame-item.result c.loop-frame.named (record { frames = c.note.new.serials; literals = c.note_literals.new.serials }) c.loop-frame-test.true c.frame-item.is
    c.loop-frame.invariant c.in_ok-note.ensures (λ n. c.in_ok-note_literals.ensures n ∙ ap (λ vs. is_among c.loop-frame.named.literals n || is_among (value_areas vs) n) c.as_slice.ensures)
