use Rattle.std.proofs.Common.{◌∙◌, sym, subst}
use Rattle.std.proofs.lemmas.Result.{IfOk-weaker}
use Rattle.word_run.specs.Loaders.{IsUnderLock}
use Rattle.word_run.proofs.loaders.step_loader.Goals as goal

-- on the desk as it lay under this lock
pub returns : goal.returns
returns g c =
    let lies = subst (IsUnderLock g.E.RoundName.began g.E.RoundName.answered) (c.deref.ensures ∙ sym c.deref_mut.ensures.value) c.stands.ensures in
    IfOk-weaker c.step.result _ _ (λ over tells. lies.answers c.deref_mut.result.now c.args.who over lies.since tells) c.step.ensures.over
