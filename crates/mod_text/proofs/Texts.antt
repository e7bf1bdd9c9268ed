-- Names, terms and the parts of texts, as lemmas name them.
pub use Rattle.term_core.proofs.IntegerTexts.{range_pos, range_negsuc, signed_decimal-says}
pub use Rattle.term_core.proofs.IntegerTexts.{shape_of, Zero, Minus, Plain, Positive-from, own}
pub use Rattle.term_core.proofs.NameTables.{texts_are_atoms, slice_get-number_of}
pub use Rattle.term_core.proofs.Places.{slice_get-append, position-cons, position-map, all_at, is_some-position}
pub use Rattle.term_core.proofs.PlainTerms.{plain-term_of, term_of-plain}
pub use Rattle.term_core.proofs.TermBytes.{is_term_byte, name_bytes-decimal}
pub use Rattle.term_core.proofs.Text.Cuts.{cut_is, atom_lacks, number_lacks, lacks, lacks-append, lacks-cons}
pub use Rattle.term_core.proofs.Text.Cuts.{lacks-all, cut_here, uncut_is, lines_of_cut, lines_of_tail}
pub use Rattle.term_core.proofs.Text.Cuts.{lines_behind}
pub use Rattle.term_core.proofs.Text.Items.{IsItem}
pub use Rattle.term_core.proofs.Text.Numbers.{decimal-writes}
pub use Rattle.term_core.proofs.Text.Options.{failed, same_bytes, bytes_are, some, passed, some_is}
pub use Rattle.term_core.proofs.Text.Options.{map_some, tested_is, tested_at, bind_some, bind_at}
pub use Rattle.term_core.specs.Names.{is_atom_text, IsNames, is_name_byte, number_of, names_with, given_names, Extends}
pub use Rattle.term_core.specs.Plain.{plain, term_of}
pub use Rattle.term_core.specs.TermForms.{is_bracketed, is_term_text, is_complex_text}
pub use Rattle.term_core.specs.TermText.{atom_text, names_with_all, number_in, IsTerm, term_text}
pub use Rattle.term_core.specs.Text.Cuts.{cut_at, Lines, lines, before_lines, lines_of_text}
pub use Rattle.term_core.specs.Text.Numbers.{number_value, is_number_text}
pub use Rattle.term_core.specs.Text.Steps.{text_tested, ◌>>=◌}
pub use Rattle.term_core.specs.Written.{IsTermInteger, is_integer_text, is_positive_text, integer_of, is_term_integer}
