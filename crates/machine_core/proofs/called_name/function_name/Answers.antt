-- The word is the one with the name.
use Rattle.std.proofs.Common.{◌∙◌, ℕ, ap, arith}
use Rattle.term_core.specs.declared.atom.AtomId.{AtomId}
use Rattle.server_core.specs.ServerState.{entry_of}
use Rattle.machine_core.proofs.CalledNames.{named_at}
use Rattle.machine_core.proofs.called_name.function_name.Goals as goal

pub word-requires-clause-readable : goal.word-requires-clause-readable
word-requires-clause-readable g c = (named_at (g.V.CodeView.shown c.args.view.now) (entry_of c.args.code) c.requires.lawful c.requires.known).name_word.readable

pub overflow_cast-result : goal.overflow_cast-result
overflow_cast-result g c =
    let a = named_at (g.V.CodeView.shown c.args.view.now) (entry_of c.args.code) c.requires.lawful c.requires.known in
    let e = c.word.ensures.value ∙ a.name_word.value in
    omega (arith, a.name_few)

pub returns-clause-value : goal.returns-clause-value
returns-clause-value g c =
    let a = named_at (g.V.CodeView.shown c.args.view.now) (entry_of c.args.code) c.requires.lawful c.requires.known in
    let make : ℕ → AtomId = λ n. record { 0 = n } in
    ap make (c.word.ensures.value ∙ a.name_word.value)
