-- The texts of modules, as lemmas name them.
pub use Rattle.mod_core.specs.HeldNames.{IsModuleHeld}
pub use Rattle.mod_core.specs.Module.{IsModule}
pub use Rattle.mod_text.proofs.Keepings.{last_line-push}
pub use Rattle.mod_text.proofs.LineLaws.{line_lacks, text_again, line_is}
pub use Rattle.mod_text.proofs.LineReaders.{IsApart, space_apart, version_number}
pub use Rattle.mod_text.proofs.LineNames.{names_with_all-append, more_names_all, are_atoms, both_atoms, term_atoms_are, line_atoms_are}
pub use Rattle.mod_text.proofs.ModuleSound.{head_of, module_is_sound}
pub use Rattle.mod_text.proofs.WrittenTerms.{leaf_texts, sound_form, text_of_form, written_is_text, term_lacks}
pub use Rattle.mod_text.specs.Canonical.{written_operand, written_call, written_instr}
pub use Rattle.mod_text.specs.Canonical.{label_text, goes_to, labels_at, lines_from, function_lines, canonical}
pub use Rattle.mod_text.specs.LineFaults.{line_atoms, operand_atoms, instr_atoms, is_wide_operand, has_wide_instr, is_open, may_follow, last_line}
pub use Rattle.mod_text.specs.LineFaults.{has_high_register, has_wide_integer, names_after, fault_of_line, counted_name, counted_by, called_name}
pub use Rattle.mod_text.specs.LineFaults.{overfills_names, has_long_term, is_seventeenth, ends_too_long, is_repeated, IsNext}
pub use Rattle.mod_text.specs.LineReading.{line_reading, parts_reading, line_split, has_sound_terms, sound_reading}
pub use Rattle.mod_text.specs.ModuleLine.{LineForm, label, InstrForm, title, header, instr, end, is_version_text, is_arity_text, is_line_form}
pub use Rattle.mod_text.specs.ModuleLine.{line_bytes, lines_written, is_function_form, move, call_ext, OperandForm, register, constant, add, sub, eq}
pub use Rattle.mod_text.specs.ModuleLine.{less, ret, pget, pget_or, elem, print, parted_by, spaced, function_written, line_written}
pub use Rattle.mod_text.specs.ModuleText.{FollowOn, names_behind}
pub use Rattle.mod_text.specs.ModuleValue.{FunctionForm, HeaderForm, functions_in, headers_in, is_header, function_number, callee_in, operand_in}
pub use Rattle.mod_text.specs.ModuleValue.{instr_in, function_in, is_settled, body_of, instrs_in, module_of, IsTitled, is_settled_line, unsettled_at}
pub use Rattle.mod_text.specs.ModuleValue.{unsettled_below, earlier, first_unsettled, unsettled_line, atom_in, title_of, target_in, mfa_in}
pub use Rattle.mod_text.specs.Reading.{has_no_line, kept, judged, line_step, Step}
pub use Rattle.script_core.specs.Processes.{spawns_in, spawn_count}
pub use Rattle.script_core.specs.Sound.{IsScript, IsTermOf, IsCmdOf}
