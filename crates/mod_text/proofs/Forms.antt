-- The lines of module texts and what they say, as lemmas name them.
pub use Rattle.mod_text.specs.Canonical.{label_text, written_operand, written_call, written_instr}
pub use Rattle.mod_text.specs.Canonical.{goes_to, labels_at, lines_from, function_lines, canonical}
pub use Rattle.mod_text.specs.Ending.{Ends, read, missing, stopped, no_memory, IsFaultOr, IsLabelFault}
pub use Rattle.mod_text.specs.Keeping.{operand_form_words, IsKept, RowFrom, AreKept, naming, judged_behind}
pub use Rattle.mod_text.specs.Keeping.{judged_alone, keeping_by, keeping, lines_words, instr_form_words}
pub use Rattle.mod_text.specs.Keeping.{line_words, IsKeptInstr}
pub use Rattle.mod_text.specs.LineFaults.{is_high, has_high_operand, is_high_call, has_high_instr, is_wide_operand}
pub use Rattle.mod_text.specs.LineFaults.{has_wide_instr, is_long_operand, has_long_instr, operand_atoms}
pub use Rattle.mod_text.specs.LineFaults.{instr_atoms, is_open, is_in_function, may_follow, last_line}
pub use Rattle.mod_text.specs.LineFaults.{has_high_register, has_wide_integer, has_long_term, names_after}
pub use Rattle.mod_text.specs.LineFaults.{overfills_names, open_labels, is_seventeenth, is_repeated}
pub use Rattle.mod_text.specs.LineFaults.{place_fault, IsNext, ends_too_long, line_atoms, labels_after}
pub use Rattle.mod_text.specs.LineFaults.{fault_of_line, StandsBehind, HasLineFault, of_no_form, over_limit}
pub use Rattle.mod_text.specs.LineReading.{line_split, line_reading, instr_reading, lone_reading}
pub use Rattle.mod_text.specs.LineReading.{instr_line_reading, keyed_reading, parts_reading, is_sound_operand}
pub use Rattle.mod_text.specs.LineReading.{has_sound_operands, has_sound_terms, sound_reading, constant_reading, operand_reading}
pub use Rattle.mod_text.specs.LineViews.{line_form, form_of, forms_of, operand_form, headers_of, instr_form}
pub use Rattle.mod_text.specs.ModuleLine.{OperandForm, InstrForm, LineForm, is_arity_text, is_operand_form}
pub use Rattle.mod_text.specs.ModuleLine.{is_function_form, is_instr_form, title, header, label, instr, end}
pub use Rattle.mod_text.specs.ModuleLine.{is_version_text, is_line_form, line_written, lines_written}
pub use Rattle.mod_text.specs.ModuleLine.{constant, register, is_term_form, parted_by, operand_written}
pub use Rattle.mod_text.specs.ModuleLine.{function_written, move, add, sub, eq, less, call_ext, ret, pget, pget_or, elem}
pub use Rattle.mod_text.specs.ModuleLine.{print, line_bytes, LineText, operands_of, some_operand, each_operand}
pub use Rattle.mod_text.specs.ModuleText.{FollowOn, names_behind, ModuleText, FirstFault, MissingAt, HasModFault}
pub use Rattle.mod_text.specs.ModuleText.{mod_fault, AreModuleLines, FaultAtFront, unended, stops, faulty}
pub use Rattle.mod_text.specs.ModuleValue.{HeaderForm, label_number, function_number, instr_in, is_settled}
pub use Rattle.mod_text.specs.ModuleValue.{headers_in, is_header, function_in, module_of, first_unsettled}
pub use Rattle.mod_text.specs.ModuleValue.{operand_in, atom_in, unsettled_line, IsTitled, IsMissing, FunctionForm}
pub use Rattle.mod_text.specs.ModuleValue.{body_of, functions_in, instrs_in, earlier, is_settled_line}
pub use Rattle.mod_text.specs.ModuleValue.{unsettled_at, unsettled_in, unsettled_below, title_of}
pub use Rattle.mod_text.specs.Reading.{Read, stop_at, bytes_on, UnlessNoMemory, StopsSo, Step, kept, judged}
pub use Rattle.mod_text.specs.Reading.{line_step, Fails, Gives, has_no_line, go_on, text_on, read_behind}
pub use Rattle.mod_text.specs.Settling.{Places, label_place, ArePlaces, HasPlace, label_at, TakesLine, number_after}
pub use Rattle.mod_text.specs.Settling.{settled_instr, later_by, function_at, is_body_line, IsUnsettled}
pub use Rattle.mod_text.specs.Settling.{IsUnsettledBelow, IsLater}
