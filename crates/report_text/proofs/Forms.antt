-- The lines of reports and how they are read, as lemmas name them.
pub use Rattle.report_text.specs.CommandReading.{atom_command, on_atom_reading, worded_command, command_reading, reference_reading}
pub use Rattle.report_text.specs.LineReading.{longer_line, line_reading, worded_end, end_reading}
pub use Rattle.report_text.specs.LineReading.{numbered_line, number_line, plain_line, worded_line}
pub use Rattle.report_text.specs.Reading.{Fails, Gives, line_taken, numbered, text_ended, on_from, lines_on, bytes_on, ended_log, last_number}
pub use Rattle.report_text.specs.ReportLine.{shown_line_text, line_text, IsReportLine, span_lines, process_lines, processes_lines, export_line}
pub use Rattle.report_text.specs.ReportLine.{snapshot_lines, observer_lines, observers_lines, log_lines, lines_text}
pub use Rattle.report_text.specs.ReportText.{AreCounted, GoesOn, first_lines, StopsAt, EndsAt, FaultAt, FaultOf}
pub use Rattle.report_text.specs.Taking.{at, report_opening, taken, all_taken}
pub use Rattle.report_text.specs.TermReading.{sided, ended_reading, paired, behind, plain_reading}
pub use Rattle.report_text.specs.TermReading.{is_short_text, named_term, some_terms, terms_reading}
pub use Rattle.report_text.specs.WordReading.{ReadsWord, atom_reading, cut_last, cut_or, atom_numbered}
pub use Rattle.mod_text.specs.LineReading.{version_reading, arity_reading}
