-- The value is the source's, and its term is read.
use Rattle.machine_core.proofs.ReadValues.{term_read}
use Rattle.machine_core.proofs.sources.term_in.Goals as goal

pub term_of-requires-clause-usable : goal.term_of-requires-clause-usable
term_of-requires-clause-usable g c =
    (c.in_ok-value.ensures (g.V.CodeView.shown c.args.view.now) (g.V.CodeView.held c.args.view.now) c.requires.ready c.requires.source).usable

pub returns-clause-ok : goal.returns-clause-ok
returns-clause-ok g c =
    let shown = g.V.CodeView.shown c.args.view.now in
    let held = g.V.CodeView.held c.args.view.now in
    term_read c.term_of.result shown held c.args.frame.now c.args.source.now c.in_ok-value.value (c.in_ok-value.ensures shown held c.requires.ready c.requires.source) c.term_of.ensures.ok
