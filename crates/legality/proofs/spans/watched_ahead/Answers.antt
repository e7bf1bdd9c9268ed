use Rattle.std.proofs.Common.{ap, refl, sym, ◌∙◌}
use Rattle.legality.specs.Sweeps.{stretch, watched_ahead}
use Rattle.legality.proofs.Generations.{rest_read}
use Rattle.legality.proofs.spans.watched_ahead.Goals as goal

pub returns : goal.returns
returns c = c.stretch.ensures ∙ ap stretch (rest_read c.args.journal.now c.args.journal.now c.args.place refl) ∙ sym (ap (λ w. watched_ahead w c.args.place c.args.journal.now) c.if-not-watched.false)
