use Rattle.report_text.proofs.Common.{ap, option_map, err_from_is_err_and}
use Rattle.report_text.proofs.Types.{AtomId}
use Rattle.report_text.proofs.Texts.{byte_parts, byte_cut, byte_left, reads_on, less_left}
use Rattle.report_text.proofs.Forms.{atom_reading}
use Rattle.report_text.proofs.ReadingLoops.{reads_stop}
use Rattle.report_text.proofs.reply.read_some_atoms.Goals as goal

-- a part is read
pub atoms-preserved : goal.atoms-preserved
atoms-preserved c =
    let l = c.atoms in
    let behind = option_map (λ rest. rest.now) c.cut_first.result.1 in
    rw (c.in_ok-push.ensures.ok) (reads_on (byte_parts 44) (atom_reading c.args.names.now) l.atoms _ behind c.in-Some.left.now c.cut_first.result.0.now c.in_ok-read_atom.field-0 _
    (ap (option_map (λ rest. rest.now)) c.in-Some.is) (byte_cut 44 c.in-Some.left.now c.cut_first.result.0.now behind c.cut_first.ensures.front c.cut_first.ensures.rest) c.in_ok-read_atom.ensures l.invariant)

-- what is behind it is shorter
pub atoms-smaller : goal.atoms-smaller
atoms-smaller c = less_left _ _ c.in-Some.left.now (ap (option_map (λ rest. rest.now)) c.in-Some.is) (byte_left 44 c.in-Some.left.now (option_map (λ rest. rest.now) c.cut_first.result.1) c.cut_first.ensures.rest)

-- a part is of no form, or memory is refused
pub returns-in_err-read_atom : goal.returns-in_err-read_atom
returns-in_err-read_atom c =
    let l = c.atoms in
    let p = err_from_is_err_and c.from_residual.result c.from_residual.ensures.1 in
    let behind = option_map (λ rest. rest.now) c.cut_first.result.1 in
    rw (p.1, p.2) (reads_stop {T = AtomId} (λ x. x) (byte_parts 44) (atom_reading c.args.names.now) l.atoms _ behind c.in-Some.left.now c.cut_first.result.0.now _ c.in_err-read_atom.field-0.0
    (ap (option_map (λ rest. rest.now)) c.in-Some.is) (byte_cut 44 c.in-Some.left.now c.cut_first.result.0.now behind c.cut_first.ensures.front c.cut_first.ensures.rest) c.in_err-read_atom.ensures l.invariant)
