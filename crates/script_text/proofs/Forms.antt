-- The lines of scripts and what they leave, as lemmas name them.
pub use Rattle.script_text.specs.Adding.{counted_added, passes_counted}
pub use Rattle.script_text.specs.Canonical.{code_form, command_line, block_form, observer_form, IsOfSomeText, canonical, script_line_bytes}
pub use Rattle.script_text.specs.Canonical.{canonical_text, is_long_line, IsTooLongToPrint, ref_form, observer_bytes, block_bytes}
pub use Rattle.script_text.specs.Causes.{◌>>=◌, fault_at, FailsWith, GivesText, Fails}
pub use Rattle.script_text.specs.Counts.{script_line_atoms, counted_names}
pub use Rattle.mod_text.specs.ModuleValue.{earlier as or_else}
pub use Rattle.script_text.specs.Groups.{onto_last}
pub use Rattle.script_text.specs.LineFaults.{is_wide, is_long, is_wide_term, is_long_term}
pub use Rattle.script_text.specs.LineReading.{ref_reading, refs_reading, argument_reading, arguments_reading, CallForm, closed_arguments}
pub use Rattle.script_text.specs.LineReading.{call_reading, titled, title_reading, command_reading, PutForm, put_reading, TraceForm, trace_reading}
pub use Rattle.script_text.specs.LineStep.{Known, opening, step_observer, block_step, end_step, spawned_in, processes_with, loads_given, step_named}
pub use Rattle.script_text.specs.LineStep.{step_command, step_loading, step_at, step, steps, script_of, by_code, step_titled, text_closed}
pub use Rattle.script_text.specs.LineStep.{code_judged, process_added, names_added, is_text_end, closed_by}
pub use Rattle.script_text.specs.Naming.{or_syntax, atom_named, refs_named, put_named, trace_named, call_named, is_wide_word, is_long_word}
pub use Rattle.script_text.specs.Naming.{target_named, argument_named, each_named, ref_named}
pub use Rattle.script_text.specs.Reading.{line_at, at_line, line_judged, script_known, ended_at, go_on}
pub use Rattle.script_text.specs.Reading.{text_on, bytes_on, script_reading, text_ended, with_command}
pub use Rattle.script_text.specs.ScriptLine.{ScriptLine, code, head, observer, loader, load, on_atom, put, trace}
pub use Rattle.mod_text.specs.Canonical.{term_form}
pub use Rattle.mod_text.specs.ModuleLine.{is_term_form, is_row_form}
pub use Rattle.script_text.specs.ScriptLine.{spawn, go, script_line_written, is_script_line, RefForm, ref_written, call_written, is_ref_form, IsLine}
pub use Rattle.script_text.specs.ScriptLine.{AtomCommand, delete, is_snapshots_text, are_some_refs, soft_purge, purge, check_old, erase}
pub use Rattle.script_text.specs.ScriptLine.{command_word, trace_written}
pub use Rattle.script_text.specs.ScriptText.{IsShort, ScriptText, AreAllLines, IsMisplaced, Reaches, FaultyAt, FaultOf, MisplacedAt}
pub use Rattle.script_text.specs.ScriptValue.{commands_on, ref_in, argument_in, command_of}
pub use Rattle.script_text.specs.Sets.{is_same_mod_ref, is_among, ref_added, mfas_with, mfa_of_key, ref_of_key, passes_functions, mfa_added}
pub use Rattle.script_text.specs.WrittenLine.{ref_words, put_words, trace_words, call_words, ArgumentWords, integer, complex, argument_words}
pub use Rattle.script_text.specs.WrittenLine.{PutWords, kept_argument, kept_call, kept_ref, is_sound_word}
