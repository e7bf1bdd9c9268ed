-- All terms have become values.
use Rattle.std.proofs.Common.{◌∙◌, ◌++◌, ap, sym, map}
use Rattle.std.proofs.lemmas.List.{take_all}
use Rattle.machine_core.specs.declared.process.Value.TheVariants.{Owned}
use Rattle.machine_core.proofs.OwnedTerms.{owned_terms-plain}
use Rattle.machine_core.proofs.registers.push_terms.Goals as goal

pub returns : goal.returns
returns c =
    c.loop-term.invariant
    ∙ ap (λ vs. c.args.values.now.items ++ vs) (ap (map Owned) (take_all c.loop-term.term-index c.args.terms.now c.loop-term-test.false)
    ∙ sym (owned_terms-plain c.args.terms.now))
