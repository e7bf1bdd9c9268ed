use Rattle.report_text.proofs.Common.{ℕ, List, bytes_eq, sym, ap, ◌∙◌}
use Rattle.report_text.proofs.BytesOn.{longer}
use Rattle.report_text.proofs.line.read_line.Goals as goal

-- it is neither the first line nor the last
pub returns-else-eq-2 : goal.returns-else-eq-2
returns-else-eq-2 c =
    let text = c.args.text.now in
    let first = ap (λ (t : List ℕ). bytes_eq text t) (sym c.as_slice.ensures) ∙ sym c.if-eq.ensures in
    let last = ap (λ (t : List ℕ). bytes_eq text t) (sym c.as_slice-else-eq.ensures) ∙ sym c.if-eq-2.ensures in
    longer c.args.names.now text c.longer_line.result first last c.longer_line.ensures
