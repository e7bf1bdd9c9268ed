use Rattle.report_text.proofs.Common.{ap, option_map, err_from_is_err_and}
use Rattle.server_core.specs.declared.command.ModRef.{ModRef}
use Rattle.report_text.proofs.Texts.{byte_parts, byte_cut, byte_left, reads_on, less_left}
use Rattle.report_text.proofs.Forms.{reference_reading}
use Rattle.report_text.proofs.ReadingLoops.{reads_stop}
use Rattle.report_text.proofs.command.read_references.Goals as goal

-- a part is read
pub references-preserved : goal.references-preserved
references-preserved c =
    let l = c.references in
    let behind = option_map (λ rest. rest.now) c.cut_first.result.1 in
    rw (c.in_ok-push.ensures.ok) (reads_on (byte_parts 32) (reference_reading c.args.names.now) l.refs _ behind c.in-Some.left.now c.cut_first.result.0.now c.in_ok-read_reference.field-0 _
    (ap (option_map (λ rest. rest.now)) c.in-Some.is) (byte_cut 32 c.in-Some.left.now c.cut_first.result.0.now behind c.cut_first.ensures.front c.cut_first.ensures.rest) c.in_ok-read_reference.ensures l.invariant)

-- what is behind it is shorter
pub references-smaller : goal.references-smaller
references-smaller c = less_left _ _ c.in-Some.left.now (ap (option_map (λ rest. rest.now)) c.in-Some.is) (byte_left 32 c.in-Some.left.now (option_map (λ rest. rest.now) c.cut_first.result.1) c.cut_first.ensures.rest)

-- a part is of no form, or memory is refused
pub returns-in_err-read_reference : goal.returns-in_err-read_reference
returns-in_err-read_reference c =
    let l = c.references in
    let p = err_from_is_err_and c.from_residual.result c.from_residual.ensures.1 in
    let behind = option_map (λ rest. rest.now) c.cut_first.result.1 in
    rw (p.1, p.2) (reads_stop {T = ModRef} (λ x. x) (byte_parts 32) (reference_reading c.args.names.now) l.refs _ behind c.in-Some.left.now c.cut_first.result.0.now _ c.in_err-read_reference.field-0.0
    (ap (option_map (λ rest. rest.now)) c.in-Some.is) (byte_cut 32 c.in-Some.left.now c.cut_first.result.0.now behind c.cut_first.ensures.front c.cut_first.ensures.rest) c.in_err-read_reference.ensures l.invariant)
