-- Where the key holds nothing, it is the other value.
use Rattle.machine_core.proofs.StoredValues.{key_or}
use Rattle.machine_core.proofs.storing.key_value_or.Goals as goal

pub returns-in-None-clause-value : goal.returns-in-None-clause-value
returns-in-None-clause-value g c =
    key_or c.value_of.result (g.V.CodeView.shown c.args.view.now) (g.V.CodeView.held c.args.view.now) c.args.top.now c.args.other.now c.args.key.0 c.in-None.ensures.value c.requires.ready c.requires.source c.value_of.ensures
