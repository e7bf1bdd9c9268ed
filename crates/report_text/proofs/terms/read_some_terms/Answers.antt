use Rattle.report_text.proofs.Common.{ap, option_map, err_from_is_err_and}
use Rattle.report_text.proofs.Texts.{plain, parts_of_rest, left_behind, parts_cut, reads_on, less_left}
use Rattle.report_text.proofs.Forms.{plain_reading}
use Rattle.report_text.proofs.ReadingLoops.{reads_stop}
use Rattle.report_text.proofs.terms.read_some_terms.Goals as goal

-- a term is read
pub terms-preserved : goal.terms-preserved
terms-preserved c =
    let l = c.terms in
    let behind = option_map (λ rest. rest.now) c.cut_term.result.1 in
    rw (c.in_ok-push.ensures.ok) (reads_on parts_of_rest (plain_reading c.args.names.now) l.terms _ behind c.in-Some.left.now c.cut_term.result.0.now (plain c.in_ok-read_term.field-0) _
    (ap (option_map (λ rest. rest.now)) c.in-Some.is) (parts_cut c.in-Some.left.now c.cut_term.result.0.now behind c.cut_term.ensures.front c.cut_term.ensures.rest) c.in_ok-read_term.ensures.shown l.invariant)

-- what is behind it is shorter
pub terms-smaller : goal.terms-smaller
terms-smaller c = less_left _ _ c.in-Some.left.now (ap (option_map (λ rest. rest.now)) c.in-Some.is) (left_behind c.in-Some.left.now (option_map (λ rest. rest.now) c.cut_term.result.1) c.cut_term.ensures.rest)

-- a term is of no form, or memory is refused
pub returns-in_err-read_term : goal.returns-in_err-read_term
returns-in_err-read_term c =
    let l = c.terms in
    let p = err_from_is_err_and c.from_residual.result c.from_residual.ensures.1 in
    let behind = option_map (λ rest. rest.now) c.cut_term.result.1 in
    rw (p.1, p.2) (reads_stop plain parts_of_rest (plain_reading c.args.names.now) l.terms _ behind c.in-Some.left.now c.cut_term.result.0.now _ c.in_err-read_term.field-0.0
    (ap (option_map (λ rest. rest.now)) c.in-Some.is) (parts_cut c.in-Some.left.now c.cut_term.result.0.now behind c.cut_term.ensures.front c.cut_term.ensures.rest) c.in_err-read_term.ensures.shown l.invariant)
