use Rattle.script_text.proofs.Common.{sym, ap, ◌∙◌, map, map-append, err_from_is_err_and}
use Rattle.std.specs.Prelude.{option_map}
use Rattle.script_text.proofs.Texts.{parts_between, each_reading, byte_parts, byte_cut, byte_left}
use Rattle.script_text.proofs.Texts.{with_read, with_read_none, reads_end, each_seen, less_left}
use Rattle.script_text.proofs.Forms.{or_syntax, ref_reading, kept_ref, ref_words}
use Rattle.script_text.proofs.ReadingLoops.{worded, part_goes_on, part_stops}
use Rattle.script_text.proofs.reading.line.read_refs.Goals as goal

-- nothing is read at the start
pub references-init : goal.references-init
references-init c = rw c.new-refs.ensures.items (with_read_none (each_reading (worded ref_words ref_reading) (parts_between 32 c.args.text.now)))

-- a reference is read
pub references-preserved : goal.references-preserved
references-preserved c =
    let l = c.references in
    let behind = option_map (λ rest. rest.now) c.cut_first.result.1 in
    rw (c.in_ok-push.ensures.items, map-append) (part_goes_on (byte_parts 32) (worded ref_words ref_reading) (map kept_ref l.refs.items) _ behind c.in-Some.left.now c.cut_first.result.0.now (kept_ref c.in_ok-read_reference.field-0) _
    (ap (option_map (λ rest. rest.now)) c.in-Some.is) (byte_cut 32 c.in-Some.left.now c.cut_first.result.0.now behind c.cut_first.ensures.front c.cut_first.ensures.rest) c.in_ok-read_reference.ensures l.invariant)

-- what is behind it is shorter
pub references-smaller : goal.references-smaller
references-smaller c = less_left _ _ c.in-Some.left.now (ap (option_map (λ rest. rest.now)) c.in-Some.is) (byte_left 32 c.in-Some.left.now (option_map (λ rest. rest.now) c.cut_first.result.1) c.cut_first.ensures.rest)

-- a reference is of no form, or memory is refused
pub returns-in_err-read_reference : goal.returns-in_err-read_reference
returns-in_err-read_reference c =
    let l = c.references in
    let p = err_from_is_err_and c.from_residual.result c.from_residual.ensures.1 in
    let behind = option_map (λ rest. rest.now) c.cut_first.result.1 in
    rw (p.1, p.2, each_seen) (part_stops (byte_parts 32) (worded ref_words ref_reading) (map kept_ref l.refs.items) _ behind c.in-Some.left.now c.cut_first.result.0.now _ c.in_err-read_reference.field-0.0
    (ap (option_map (λ rest. rest.now)) c.in-Some.is) (byte_cut 32 c.in-Some.left.now c.cut_first.result.0.now behind c.cut_first.ensures.front c.cut_first.ensures.rest) c.in_err-read_reference.ensures l.invariant)

-- all are read
pub returns : goal.returns
returns c =
    let l = c.references in
    ap or_syntax (each_seen ref_words ref_reading (parts_between 32 c.args.text.now) ∙ reads_end (worded ref_words ref_reading) (map kept_ref l.refs.items) _
    (ap (λ o. with_read (map kept_ref l.refs.items) (each_reading (worded ref_words ref_reading) (byte_parts 32 (option_map (λ rest. rest.now) o)))) (sym c.in_default.is) ∙ l.invariant))
