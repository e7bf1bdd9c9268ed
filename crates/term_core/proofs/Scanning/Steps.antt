-- Lemmas on the scan of a text, as the loop makes it.
use Rattle.std.proofs.Common.{◌≡◌, ℕ, ◌+◌, ◌<◌, List, length, drop, get_or, None, Some, ap, ◌∙◌}
use Rattle.term_core.specs.Scanning.{Scanned, stepped, syntax_fault, place_behind}
use Rattle.term_core.specs.Written.{place_or}
use Rattle.term_core.proofs.Lefts.{left_byte, place_or-twice}

-- where a byte leads on, what is left decides
pub fault_behind : (text : List ℕ) (at c : ℕ) (s t : Scanned) → c ≡ get_or text at 0 → at < length text → stepped s.place s.brackets c ≡ Some t →
    place_or None at (syntax_fault (Some s) (drop at text)) ≡ place_or None (at + 1) (syntax_fault (Some t) (drop (at + 1) text))
fault_behind text at c s t is less step =
    ap (λ rest. place_or None at (syntax_fault (Some s) rest)) (left_byte text at c is less)
    ∙ ap (λ o. place_or None at (place_behind o (syntax_fault o (drop (at + 1) text)))) step
    ∙ place_or-twice at 1 (syntax_fault (Some t) (drop (at + 1) text))
