-- Names, terms and the parts of texts, as lemmas name them.
pub use Rattle.term_core.proofs.GrownNames.{Extends-refl, Extends-trans, names_with-Extends}
pub use Rattle.term_core.proofs.GrownTerms.{HasNumber}
pub use Rattle.term_core.proofs.Lists.{each_append, nothing}
pub use Rattle.term_core.proofs.NameTables.{slice_get-number_of, names_with-IsNames, given_names-IsNames}
pub use Rattle.term_core.proofs.Places.{position-cons, position-append_found, position-append_one}
pub use Rattle.term_core.proofs.PlainTerms.{plain-term_of, term_of-plain}
pub use Rattle.term_core.proofs.TermBytes.{is_term_byte, term_bytes-written}
pub use Rattle.term_core.proofs.TermForms.{is_term_text-form, nonempty-is_term_text, form_is, tree_is}
pub use Rattle.term_core.proofs.Text.Cuts.{lacks, number_lacks, lacks-append, lacks-cons, cut_here, cut_is, atom_lacks, lines_behind, lines_of_cut}
pub use Rattle.term_core.proofs.Text.Cuts.{lines_of_tail, uncut_is, lacks-all}
pub use Rattle.term_core.proofs.Text.Numbers.{decimal-writes}
pub use Rattle.term_core.proofs.Text.Options.{map_some, some_is, bytes_are, some, bind_some, bind_at, guard_some}
pub use Rattle.term_core.proofs.Text.Options.{passed, failed, tested_is, tested_at, guarded, same_bytes}
pub use Rattle.term_core.proofs.Text.Parts.{LackLineFeed, ended_lack, left_behind, parts_cut, left_of, byte_parts, byte_cut, byte_left, shorter_rest}
pub use Rattle.term_core.proofs.Text.Reads.{with_read, split, reads_on, with_read_none, reads_end, each_seen, less_left}
pub use Rattle.term_core.proofs.Text.Words.{switch_is, switch_again, decimal_again}
pub use Rattle.term_core.proofs.Truths.{test_not_lt, test_le, none_by}
pub use Rattle.term_core.specs.Names.{is_atom_text, Extends, given_names, number_of, names_with, IsNames}
pub use Rattle.term_core.specs.Plain.{plain, term_of}
pub use Rattle.term_core.specs.PlainTerm.{tuple_of, row_of, TermOf, RowOf, integer_leaf, atom_leaf, list_of, no_terms, term_then, EachLeaf}
pub use Rattle.term_core.specs.PlainTerm.{EachInRow, map_row, atoms_of, row_atoms, term_words, PlainTerm}
pub use Rattle.term_core.specs.TermForms.{is_term_text, is_bracketed, term_atoms, term_in, is_complex_text, tree_of, IsFormOf, is_wide_text}
pub use Rattle.term_core.specs.TermParts.{parts_of_terms, joined, parts_of_rest}
pub use Rattle.term_core.specs.TermText.{atom_text, number_in, term_text, names_with_all}
pub use Rattle.term_core.specs.Text.Cuts.{Lines, lines_of_text, cut_at, lines, before_lines}
pub use Rattle.term_core.specs.Text.Numbers.{number_value, is_number_text}
pub use Rattle.term_core.specs.Text.Parts.{each_reading, as_last_line, all_lines, parts_between}
pub use Rattle.term_core.specs.Text.Steps.{◌>>=◌, text_tested, numbered_reading}
pub use Rattle.term_core.specs.Written.{WrittenTerm, written, parted, behind, IsTermInteger, IntegersFit}
pub use Rattle.term_core.specs.Written.{integer_of, is_term_integer, is_integer_text, HasLeafTexts, outside_of}
