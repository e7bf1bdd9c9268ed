use Rattle.std.proofs.Common.{◌+◌, drop, sym, ap, ◌∙◌, List}
use Rattle.std.proofs.lemmas.List.{at_drop_all, at_drop_more}
use Rattle.term_core.specs.declared.atom.Mfa.{Mfa}
use Rattle.run_log.proofs.StateExports.{no_function}
use Rattle.word_run.specs.Beginning.{exports_after}
use Rattle.word_run.proofs.beginning.numbered.Goals as goal

-- one more name joins
pub loop-function-preserved : goal.loop-function-preserved
loop-function-preserved c =
    ap (λ (names : List Mfa). exports_after names (drop (c.loop-function.function-index + 1) c.args.functions.now)) c.in_ok-add_name.ensures
    ∙ sym (at_drop_more (exports_after c.loop-function.exports) c.args.functions.now c.loop-function.function-index no_function c.loop-function-test.true) ∙ c.loop-function.invariant

-- no name is left
pub returns : goal.returns
returns c = sym (at_drop_all (exports_after c.loop-function.exports) c.args.functions.now c.loop-function.function-index c.loop-function-test.false) ∙ c.loop-function.invariant
