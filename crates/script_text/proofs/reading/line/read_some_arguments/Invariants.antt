use Rattle.script_text.proofs.Common.{◌≡◌, map, IsTrue}
use Rattle.std.specs.Prelude.{option_map, All}
use Rattle.script_text.proofs.Texts.{parts_of_terms, parts_of_rest, each_reading, left_of, with_read}
use Rattle.script_text.proofs.Forms.{argument_reading, kept_argument, argument_words, is_sound_word}
use Rattle.script_text.proofs.ReadingLoops.{worded}
use Rattle.script_text.proofs.reading.line.read_some_arguments.Given as goal

-- what was read, in front of what is left, is the whole
abbrev pub invariant-arguments : goal.invariant-arguments
invariant-arguments l = record {
  so_far : with_read (map kept_argument l.args.items) (each_reading (worded argument_words argument_reading) (parts_of_rest (option_map (λ rest. rest.now) l.rest))) ≡ each_reading (worded argument_words argument_reading) (parts_of_terms l.fn.text);
  sound : All (λ argument. IsTrue (is_sound_word (kept_argument argument))) l.args.items;
}

-- the bytes that are left
abbrev pub decreases-arguments : goal.decreases-arguments
decreases-arguments l = left_of (option_map (λ rest. rest.now) l.rest)
