use Rattle.std.proofs.Common.{◌≡◌, Option, None, Some, unwrap_or, refl, ap, ◌∙◌}
use Rattle.machine_core.specs.declared.process.End.{End}
use Rattle.machine_core.specs.declared.process.End.TheVariants.{Normal}
use Rattle.run_steps.specs.Stands.{end_of, phase_of}
use Rattle.word_run.proofs.process_logs.log_of.Goals as goal

end_is : (fin : Option End) → unwrap_or fin Normal ≡ end_of (phase_of fin)
end_is None = refl
end_is (Some end) = refl

pub returns : goal.returns
returns c =
    ap (λ (end : End). record { target = c.args.run.process.target; args = c.args.run.process.args; spans = c.args.run.spans; fin = end }) (c.unwrap_or.ensures ∙ end_is c.args.run.fin)
