-- The word is the one with the arity.
use Rattle.std.proofs.Common.{◌∙◌, ap, arith, ◌/◌}
use Rattle.server_core.specs.ServerState.{entry_of}
use Rattle.machine_core.proofs.CalledNames.{named_at}
use Rattle.machine_core.proofs.called_name.arity.Goals as goal

pub word-requires-clause-readable : goal.word-requires-clause-readable
word-requires-clause-readable g c = (named_at (g.V.CodeView.shown c.args.view.now) (entry_of c.args.code) c.requires.lawful c.requires.known).arity_readable

pub overflow_cast-result : goal.overflow_cast-result
overflow_cast-result g c =
    let a = named_at (g.V.CodeView.shown c.args.view.now) (entry_of c.args.code) c.requires.lawful c.requires.known in
    let e = ap (λ n. n / 2) c.word.ensures.value ∙ a.arity_value in
    omega (arith, a.arity_few)

pub returns-clause-value : goal.returns-clause-value
returns-clause-value g c = ap (λ n. n / 2) c.word.ensures.value ∙ (named_at (g.V.CodeView.shown c.args.view.now) (entry_of c.args.code) c.requires.lawful c.requires.known).arity_value
