-- The verdict of a form is that of its work.
use Rattle.std.proofs.Common.{Some}
use Rattle.beam_tool.specs.TopCall.{Verdict}
use Rattle.beam_tool.proofs.Closings.{closing_by_run, closing_by_trial, closing_of_nothing}
use Rattle.beam_tool.proofs.Verdicts.{by_work, on_ok, unrun_of, run_by, check_by, progress_by, make_by, trial_by}
use Rattle.beam_tool.specs.declared.form.Form.TheVariants as forms
use Rattle.beam_tool.proofs.Stops.{stops_so}
use Rattle.beam_tool.proofs.top.form_answer.Goals as goal

pub returns-in-Run-clause-verdict : goal.returns-in-Run-clause-verdict
returns-in-Run-clause-verdict g c = on_ok _ _ c.run_answer.result (λ w h. run_by _ _ c.args.form c.in-Run.schedulers w.answer.status w.answer.log w.answer.text c.in-Run.is h) c.run_answer.ensures.verdict

pub returns-in-Check-clause-verdict : goal.returns-in-Check-clause-verdict
returns-in-Check-clause-verdict g c = on_ok _ _ c.check_answer.result (λ w h. check_by _ _ c.args.form w.answer.status w.answer.log w.answer.text c.in-Check.is h) c.check_answer.ensures.verdict

pub returns-in-Progress-clause-verdict : goal.returns-in-Progress-clause-verdict
returns-in-Progress-clause-verdict g c = on_ok _ _ c.progress_answer.result (λ w h. progress_by _ _ c.args.form w.answer.status w.answer.log w.answer.text c.in-Progress.is h) c.progress_answer.ensures.verdict

pub returns-in-Run-clause-stops : goal.returns-in-Run-clause-stops
returns-in-Run-clause-stops g c = stops_so c.args.form (forms.Run c.in-Run.schedulers) _ _ c.in-Run.is c.run_answer.ensures.stops

pub returns-in-Check-clause-stops : goal.returns-in-Check-clause-stops
returns-in-Check-clause-stops g c = stops_so c.args.form forms.Check _ _ c.in-Check.is c.check_answer.ensures.stops

pub returns-in-Progress-clause-stops : goal.returns-in-Progress-clause-stops
returns-in-Progress-clause-stops g c = stops_so c.args.form forms.Progress _ _ c.in-Progress.is c.progress_answer.ensures.stops

pub returns-in_ok-make_answer-in-Make-clause-verdict : goal.returns-in_ok-make_answer-in-Make-clause-verdict
returns-in_ok-make_answer-in-Make-clause-verdict g c = by_work (Verdict _ _ (Some c.args.form)) _ _ c.unrun.ensures.answer (make_by _ _ c.args.form c.in-Make.seed c.in-Make.size _ _ _ c.in-Make.is c.in_ok-make_answer-in-Make.ensures)

pub returns-in_ok-trial_answer-in-Trial-clause-verdict : goal.returns-in_ok-trial_answer-in-Trial-clause-verdict
returns-in_ok-trial_answer-in-Trial-clause-verdict g c = trial_by _ _ c.args.form c.in-Trial.seed c.in-Trial.size c.in-Trial.schedulers _ _ _ c.in-Trial.is c.in_ok-trial_answer-in-Trial.ensures.verdict

pub returns-in-Run-clause-closing : goal.returns-in-Run-clause-closing
returns-in-Run-clause-closing g c = on_ok _ _ c.run_answer.result (λ w h. closing_by_run _ _ c.args.form c.in-Run.schedulers w.answer.log w.closed c.in-Run.is h) c.run_answer.ensures.closed

pub returns-in-Check-clause-closing : goal.returns-in-Check-clause-closing
returns-in-Check-clause-closing g c = on_ok _ _ c.check_answer.result (λ w h. closing_of_nothing _ _ _ w.answer.log w.closed h) c.check_answer.ensures.unrun

pub returns-in-Progress-clause-closing : goal.returns-in-Progress-clause-closing
returns-in-Progress-clause-closing g c = on_ok _ _ c.progress_answer.result (λ w h. closing_of_nothing _ _ _ w.answer.log w.closed h) c.progress_answer.ensures.unrun

pub returns-in_ok-make_answer-in-Make-clause-closing : goal.returns-in_ok-make_answer-in-Make-clause-closing
returns-in_ok-make_answer-in-Make-clause-closing g c = closing_of_nothing _ _ _ _ _ (unrun_of _ _ _ c.unrun.ensures.answer c.unrun.ensures.closed c.in_ok-make_answer-in-Make.ensures.log_is)

pub returns-in_ok-trial_answer-in-Trial-clause-closing : goal.returns-in_ok-trial_answer-in-Trial-clause-closing
returns-in_ok-trial_answer-in-Trial-clause-closing g c = closing_by_trial _ _ c.args.form c.in-Trial.seed c.in-Trial.size c.in-Trial.schedulers _ _ c.in-Trial.is c.in_ok-trial_answer-in-Trial.ensures.closed
