use Rattle.script_text.proofs.Common.{sym, ap, ◌∙◌, map, IsTrue, map-append, All-push, All-nil, err_from_is_err_and}
use Rattle.std.specs.Prelude.{option_map}
use Rattle.script_text.proofs.Texts.{parts_of_terms, parts_of_rest, each_reading, left_behind, parts_cut}
use Rattle.script_text.proofs.Texts.{with_read, with_read_none, reads_end, each_seen, less_left}
use Rattle.script_text.proofs.Forms.{or_syntax, argument_reading, kept_argument, argument_words, is_sound_word}
use Rattle.script_text.proofs.ReadingLoops.{worded, part_goes_on, part_stops}
use Rattle.script_text.proofs.reading.line.read_some_arguments.Goals as goal

-- nothing is read at the start
pub arguments-init : goal.arguments-init
arguments-init c = rw c.new-args.ensures.items (record {
  so_far = with_read_none (each_reading (worded argument_words argument_reading) (parts_of_terms c.args.text.now));
  sound = All-nil (λ argument. IsTrue (is_sound_word (kept_argument argument)));
})

-- an argument is read
pub arguments-preserved : goal.arguments-preserved
arguments-preserved c =
    let l = c.arguments in
    let parts = parts_cut c.in-Some.left.now c.cut_term.result.0.now (option_map (λ rest. rest.now) c.cut_term.result.1) c.cut_term.ensures.front c.cut_term.ensures.rest in
    rw (c.in_ok-push.ensures.items, map-append) (record {
      so_far = part_goes_on parts_of_rest (worded argument_words argument_reading) (map kept_argument l.args.items) _ (option_map (λ rest. rest.now) c.cut_term.result.1) c.in-Some.left.now c.cut_term.result.0.now (kept_argument c.in_ok-read_argument.field-0) _
          (ap (option_map (λ rest. rest.now)) c.in-Some.is) parts c.in_ok-read_argument.ensures.read l.invariant.so_far;
      sound = All-push (λ argument. IsTrue (is_sound_word (kept_argument argument))) l.args.items c.in_ok-read_argument.field-0 l.invariant.sound c.in_ok-read_argument.ensures.sound;
    })

-- what is behind it is shorter
pub arguments-smaller : goal.arguments-smaller
arguments-smaller c = less_left _ _ c.in-Some.left.now (ap (option_map (λ rest. rest.now)) c.in-Some.is) (left_behind c.in-Some.left.now (option_map (λ rest. rest.now) c.cut_term.result.1) c.cut_term.ensures.rest)

-- an argument is of no form, or memory is refused
pub returns-in_err-read_argument-clause-read : goal.returns-in_err-read_argument-clause-read
returns-in_err-read_argument-clause-read c =
    let l = c.arguments in
    let p = err_from_is_err_and c.from_residual.result c.from_residual.ensures.1 in
    let parts = parts_cut c.in-Some.left.now c.cut_term.result.0.now (option_map (λ rest. rest.now) c.cut_term.result.1) c.cut_term.ensures.front c.cut_term.ensures.rest in
    rw (p.1, p.2, each_seen) (part_stops parts_of_rest (worded argument_words argument_reading) (map kept_argument l.args.items) _ (option_map (λ rest. rest.now) c.cut_term.result.1) c.in-Some.left.now c.cut_term.result.0.now _ c.in_err-read_argument.field-0.0
    (ap (option_map (λ rest. rest.now)) c.in-Some.is) parts c.in_err-read_argument.ensures.read l.invariant.so_far)

-- all are read
pub returns-clause-read : goal.returns-clause-read
returns-clause-read c =
    let l = c.arguments in
    ap or_syntax (each_seen argument_words argument_reading (parts_of_terms c.args.text.now) ∙ reads_end (worded argument_words argument_reading) (map kept_argument l.args.items) _
    (ap (λ o. with_read (map kept_argument l.args.items) (each_reading (worded argument_words argument_reading) (parts_of_rest (option_map (λ rest. rest.now) o)))) (sym c.in_default.is) ∙ l.invariant.so_far))
