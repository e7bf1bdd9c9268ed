-- Each clause of the top call follows from how the call ended.
use Rattle.beam_tool.proofs.TopCalls.{accepted_of, answered_of, checked_of, checked_unlawful_of, headline_of, known_of, made_of, no_log_of, no_log_unrun_of, sink_failed_of, source_failed_of, summarized_of}
use Rattle.beam_tool.proofs.Closings.{closed_of, closed_of_made, closed_of_run}
use Rattle.beam_tool.proofs.Complete.{complete_fault_of, complete_lawful_of, complete_make_of, complete_refusal_of, complete_replay_of, complete_report_fault_of, complete_run_of, complete_script_fault_of, complete_stop_of, complete_trial_of, complete_unlawful_of, complete_words_of, misread_of}
use Rattle.std.specs.Prelude.{map, string_bytes}
use Rattle.beam_tool.specs.declared.form.Form.TheVariants as forms
use Rattle.beam_tool.proofs.Forms.{form_sized}
use Rattle.beam_tool.proofs.top.beam_top.Goals as goal

pub returns-clause-known : goal.returns-clause-known
returns-clause-known g c = known_of c.ended.ensures.ends

pub returns-clause-headline : goal.returns-clause-headline
returns-clause-headline g c n f e = headline_of n c.ended.ensures.ends f e

pub returns-clause-accepted : goal.returns-clause-accepted
returns-clause-accepted g c n f e = accepted_of n c.ended.ensures.ends f e

pub returns-clause-headline_of_made : goal.returns-clause-headline_of_made
returns-clause-headline_of_made g c seed size n f e = summarized_of seed size n c.ended.ensures.ends f e

pub returns-clause-closed : goal.returns-clause-closed
returns-clause-closed g c = closed_of c.ended.ensures.closing

pub returns-clause-closed_of_run : goal.returns-clause-closed_of_run
returns-clause-closed_of_run g c n f logged = closed_of_run n c.ended.ensures.closing f logged

pub returns-clause-closed_of_made : goal.returns-clause-closed_of_made
returns-clause-closed_of_made g c seed size n f logged = closed_of_made seed size n c.ended.ensures.closing f logged

pub returns-clause-made : goal.returns-clause-made
returns-clause-made g c seed size f e = made_of seed size (form_sized (map string_bytes c.args.words.now) (forms.Make seed size) f).1 c.ended.ensures.ends f e

pub returns-clause-complete_make : goal.returns-clause-complete_make
returns-clause-complete_make g c seed size f nk = complete_make_of seed size c.ended.ensures.ends f nk

pub returns-clause-complete_trial : goal.returns-clause-complete_trial
returns-clause-complete_trial g c seed size n f nk = complete_trial_of seed size n c.ended.ensures.ends f nk

pub returns-clause-checked : goal.returns-clause-checked
returns-clause-checked g c f e = checked_of c.ended.ensures.ends f e

pub returns-clause-checked_unlawful : goal.returns-clause-checked_unlawful
returns-clause-checked_unlawful g c f e = checked_unlawful_of c.ended.ensures.ends f e

pub returns-clause-answered : goal.returns-clause-answered
returns-clause-answered g c e = answered_of c.ended.ensures.ends e

pub returns-clause-source_fault : goal.returns-clause-source_fault
returns-clause-source_fault g c e = source_failed_of c.ended.ensures.ends e

pub returns-clause-sink_fault : goal.returns-clause-sink_fault
returns-clause-sink_fault g c e = sink_failed_of c.ended.ensures.ends e

pub returns-clause-no_log : goal.returns-clause-no_log
returns-clause-no_log g c d s = no_log_of c.ended.ensures.ends d s

pub returns-clause-no_log_unrun : goal.returns-clause-no_log_unrun
returns-clause-no_log_unrun g c f = no_log_unrun_of c.ended.ensures.ends f

pub returns-clause-misread : goal.returns-clause-misread
returns-clause-misread g c e = misread_of c.ended.ensures.ends e

pub returns-clause-complete_words : goal.returns-clause-complete_words
returns-clause-complete_words g c e = complete_words_of c.ended.ensures.ends e

pub returns-clause-complete_run : goal.returns-clause-complete_run
returns-clause-complete_run g c n bytes s e l t ns nk = complete_run_of n bytes s c.ended.ensures.ends e l t ns nk

pub returns-clause-complete_refusal : goal.returns-clause-complete_refusal
returns-clause-complete_refusal g c n bytes q e l t ns nk = complete_refusal_of n bytes q c.ended.ensures.ends e l t ns nk

pub returns-clause-complete_lawful : goal.returns-clause-complete_lawful
returns-clause-complete_lawful g c bytes s log f l short h legal ns nk = complete_lawful_of bytes s log c.ended.ensures.ends f l short h legal ns nk

pub returns-clause-complete_unlawful : goal.returns-clause-complete_unlawful
returns-clause-complete_unlawful g c bytes s log f l short h never ns nk = complete_unlawful_of bytes s log c.ended.ensures.ends f l short h never ns nk

pub returns-clause-complete_script_fault : goal.returns-clause-complete_script_fault
returns-clause-complete_script_fault g c bytes q e l f ns nk = complete_script_fault_of bytes q c.ended.ensures.ends e l f ns nk

pub returns-clause-complete_report_fault : goal.returns-clause-complete_report_fault
returns-clause-complete_report_fault g c bytes s q e l h ns nk = complete_report_fault_of bytes s q c.ended.ensures.ends e l h ns nk

pub returns-clause-complete_replay : goal.returns-clause-complete_replay
returns-clause-complete_replay g c bytes events state e l s t m ns nk = complete_replay_of bytes events state c.ended.ensures.ends e l s t m ns nk

pub returns-clause-complete_stop : goal.returns-clause-complete_stop
returns-clause-complete_stop g c bytes events index state e l s t m ns nk = complete_stop_of bytes events index state c.ended.ensures.ends e l s t m ns nk

pub returns-clause-complete_fault : goal.returns-clause-complete_fault
returns-clause-complete_fault g c bytes e l f ns nk = complete_fault_of bytes c.ended.ensures.ends e l f ns nk
