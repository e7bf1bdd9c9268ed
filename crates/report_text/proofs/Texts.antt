-- Names, terms and the parts of texts, as lemmas name them.
pub use Rattle.term_core.proofs.Lists.{nothing, each_append, all_front}
pub use Rattle.term_core.proofs.NameTables.{slice_get-number_of, texts_are_atoms}
pub use Rattle.term_core.proofs.PartedTerms.{parts_by_cut, parts_of_parted, joined_parts_of_terms, joined_written}
pub use Rattle.term_core.proofs.PlainTerms.{plain-term_of, term_of-plain}
pub use Rattle.term_core.proofs.TermBytes.{is_term_byte, name_bytes-decimal, term_bytes-term_text}
pub use Rattle.term_core.proofs.Text.Cuts.{lines_of_cut, lines_of_tail, uncut_is, lacks, lacks-append, lacks-cons, lacks-all, cut_here, cut_is}
pub use Rattle.term_core.proofs.Text.Cuts.{lines_behind, atom_lacks, number_lacks}
pub use Rattle.term_core.proofs.Text.Items.{IsItem, join-flat, joined_lacks, joined_again, joined_is, each_count, each_again, each_is}
pub use Rattle.term_core.proofs.Text.Options.{failed, some, bind_some, some_is, bind_at, passed}
pub use Rattle.term_core.proofs.Text.Options.{bytes_are, guarded, guard_some, same_bytes, map_some}
pub use Rattle.term_core.proofs.Text.Parts.{ended_lack, shorter_rest, byte_parts, byte_cut, byte_left, left_of, left_behind, parts_cut}
pub use Rattle.term_core.proofs.Text.Reads.{with_read, split, reads_on, less_left}
pub use Rattle.term_core.proofs.Text.Words.{switch_is, switch_again, decimal_again}
pub use Rattle.term_core.proofs.Truths.{is_some_at, none_by, test_lt, passes_lt}
pub use Rattle.term_core.specs.Names.{IsNames, is_name_byte, is_atom_text, number_of}
pub use Rattle.term_core.specs.Plain.{plain, term_of}
pub use Rattle.term_core.specs.PlainTerm.{PlainTerm, EachLeaf, row_of, term_words, map_leaves, row_count}
pub use Rattle.term_core.specs.TermParts.{parts_of_terms, joined, parts_of_rest}
pub use Rattle.term_core.specs.TermText.{atom_text, IsTerm, term_text, number_in}
pub use Rattle.term_core.specs.Text.Cuts.{cut_at, Lines, lines, before_lines, with_first}
pub use Rattle.term_core.specs.Text.Parts.{parts_between, each_reading, lines_of_text, as_last_line, all_lines, lines_joined}
pub use Rattle.term_core.specs.Text.Steps.{◌>>=◌}
pub use Rattle.term_core.specs.Text.Words.{switch_word, switch_reading, number_reading, narrow_reading}
