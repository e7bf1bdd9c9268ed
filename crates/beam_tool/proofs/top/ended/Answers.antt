-- How the call ended, from how its text was delivered.
use Rattle.std.proofs.Common.{None, sym, ◌∙◌, refl, ap, Err}
use Rattle.beam_tool.specs.TopCall.{misread}
use Rattle.std.specs.Prelude.{map, string_bytes}
use Rattle.beam_tool.proofs.Forms.{form_sized, reading_words, unread_words}
use Rattle.beam_tool.proofs.TopCalls.{ends_of, not_stopped, is_form, ends_source, ends_memory}
use Rattle.beam_tool.proofs.Closings.{closing_of_nothing, closing_told}
use Rattle.beam_tool.proofs.Stops.{stops_by, stops_unread}
use Rattle.beam_tool.proofs.top.ended.Goals as goal

pub returns-in-None-clause-ends : goal.returns-in-None-clause-ends
returns-in-None-clause-ends g c = ends_of _ _ _ _ _ _ _ _ _ _ _ _ _ _ _ _ (sym c.form_of.ensures ∙ c.in-None.is) refl refl misread c.deliver.ensures

pub returns-in-Ok-clause-ends : goal.returns-in-Ok-clause-ends
returns-in-Ok-clause-ends g c = ends_of _ _ _ _ _ _ _ _ _ _ _ _ _ _ _ _ (sym c.form_of.ensures ∙ c.in-Some.is) c.finished.ensures.log refl c.in-Ok.ensures.verdict c.finished.ensures.delivered

pub returns-in-Ok-clause-unwritten_at_source_fault : goal.returns-in-Ok-clause-unwritten_at_source_fault
returns-in-Ok-clause-unwritten_at_source_fault g c e = absurd ((not_stopped c.in-Ok.ensures.verdict c.finished.ensures.delivered).0 e)

pub returns-in-Ok-clause-unwritten_at_no_memory : goal.returns-in-Ok-clause-unwritten_at_no_memory
returns-in-Ok-clause-unwritten_at_no_memory g c e = absurd ((not_stopped c.in-Ok.ensures.verdict c.finished.ensures.delivered).1 e)

pub returns-in-Err-SourceFault-clause-ends : goal.returns-in-Err-SourceFault-clause-ends
returns-in-Err-SourceFault-clause-ends g c = ends_source _ _ _ _ _ _ _ _ _ _ _ (reading_words _ _ (sym c.form_of.ensures ∙ c.in-Some.is) (c.in-Err-SourceFault.ensures.reading (ap Err c.in-Err-SourceFault.field-0-is))) (c.in-Err-SourceFault.ensures.failed (ap Err c.in-Err-SourceFault.field-0-is)) c.stopped.ensures.end

pub returns-in-Err-NoMemory-clause-ends : goal.returns-in-Err-NoMemory-clause-ends
returns-in-Err-NoMemory-clause-ends g c = ends_memory _ _ _ _ _ _ _ _ _ _ _ (is_form _ _ (sym c.form_of.ensures ∙ c.in-Some.is)) c.stopped-in-Err-NoMemory.ensures.end

pub returns-in-None-clause-stops : goal.returns-in-None-clause-stops
returns-in-None-clause-stops g c = stops_unread _ _ _ (sym c.form_of.ensures ∙ c.in-None.is) refl

pub returns-in-Ok-clause-stops : goal.returns-in-Ok-clause-stops
returns-in-Ok-clause-stops g c = stops_by _ c.in-Some.form _ _ (sym c.form_of.ensures ∙ c.in-Some.is) c.form_answer.ensures.stops

pub returns-in-Err-SourceFault-clause-stops : goal.returns-in-Err-SourceFault-clause-stops
returns-in-Err-SourceFault-clause-stops g c = stops_by _ c.in-Some.form _ _ (sym c.form_of.ensures ∙ c.in-Some.is) c.form_answer.ensures.stops

pub returns-in-Err-NoMemory-clause-stops : goal.returns-in-Err-NoMemory-clause-stops
returns-in-Err-NoMemory-clause-stops g c = stops_by _ c.in-Some.form _ _ (sym c.form_of.ensures ∙ c.in-Some.is) c.form_answer.ensures.stops

pub form_answer-requires-after_bounds : goal.form_answer-requires-after_bounds
form_answer-requires-after_bounds g c κs within = form_sized (map string_bytes c.args.words.now) c.in-Some.form (sym c.form_of.ensures ∙ c.in-Some.is)

pub returns-in-Ok-clause-unread : goal.returns-in-Ok-clause-unread
returns-in-Ok-clause-unread g c none = c.form_answer.ensures.unread (unread_words _ _ (sym c.form_of.ensures ∙ c.in-Some.is) none)

pub returns-in-None-clause-closing : goal.returns-in-None-clause-closing
returns-in-None-clause-closing g c = closing_of_nothing _ _ _ None None (refl, refl)

pub returns-in-Ok-clause-closing : goal.returns-in-Ok-clause-closing
returns-in-Ok-clause-closing g c = closing_told _ _ _ c.in-Some.form _ _ _ _ (sym c.form_of.ensures ∙ c.in-Some.is) c.finished.ensures.log c.finished.ensures.closed c.in-Ok.ensures.closing

pub returns-in-Err-SourceFault-clause-closing : goal.returns-in-Err-SourceFault-clause-closing
returns-in-Err-SourceFault-clause-closing g c = closing_of_nothing _ _ _ _ _ (c.stopped.ensures.end.1, c.stopped.ensures.closed)

pub returns-in-Err-NoMemory-clause-closing : goal.returns-in-Err-NoMemory-clause-closing
returns-in-Err-NoMemory-clause-closing g c = closing_of_nothing _ _ _ _ _ (c.stopped-in-Err-NoMemory.ensures.end.1, c.stopped-in-Err-NoMemory.ensures.closed)
