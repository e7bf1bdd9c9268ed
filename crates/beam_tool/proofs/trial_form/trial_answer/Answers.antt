-- A run of a made script, and its summary.
use Rattle.std.proofs.Common.{ℕ, List, ◌++◌, sym, ◌∙◌, subst, ap}
use Rattle.script_core.specs.declared.script.Script.{Script}
use Rattle.run_log.specs.Legal.{Legal}
use Rattle.run_log.specs.Summary.{summary_of}
use Rattle.script_core.specs.Sound.{IsScript}
use Rattle.beam_tool.proofs.Closings.{made_closing}
use Rattle.beam_tool.proofs.SeededScripts.{seeded_is, seeded_sound, tried_so}
use Rattle.beam_tool.proofs.trial_form.trial_answer.Goals as goal

pub run_script-requires-clause-script : goal.run_script-requires-clause-script
run_script-requires-clause-script g c κs within = subst IsScript (sym (c.in_ok-script.ensures.made ∙ seeded_is c.args.seed c.args.size)) (seeded_sound c.args.seed c.args.size c.requires.most)

pub returns-clause-verdict : goal.returns-clause-verdict
returns-clause-verdict g c =
    let same = c.in_ok-script.ensures.made ∙ seeded_is c.args.seed c.args.size in
    let log = c.in_ok-ran.ran.log in
    let text = c.in_ok-summary.ensures.ok ∙ ap (λ (t : List ℕ). t ++ summary_of c.in_ok-script.script log) c.new-text.ensures ∙ ap (λ (s : Script). summary_of s log) same in
    tried_so c.args.seed c.args.size log _ (subst (λ (s : Script). Legal s log) same c.in_ok-ran.ensures.legal) text

pub returns-clause-closed : goal.returns-clause-closed
returns-clause-closed g c = made_closing c.args.seed c.args.size c.in_ok-script.script c.in_ok-ran.ran.log c.in_ok-ran.ran.closed (c.in_ok-script.ensures.made ∙ seeded_is c.args.seed c.args.size) c.in_ok-ran.ensures.legal c.in_ok-ran.ensures.closes
