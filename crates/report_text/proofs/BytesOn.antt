-- The bytes of a text, from a line on: the next line is taken, or no line has ended.
use Rattle.report_text.proofs.Common.{◌≡◌, ℕ, ◌+◌, false, List, Option, Some, None, Result, Ok, bytes_eq, codes, sym, ap, ◌∙◌, subst, Texts}
use Rattle.report_text.proofs.Texts.{cut_at, Lines, lines_of_cut, lines_of_tail, uncut_is, failed}
use Rattle.report_text.proofs.Types.{RunLog, ReportFault, ReportLine, ReportState}
use Rattle.report_text.specs.declared.line_fault.LineFault.{LineFault}
use Rattle.report_text.proofs.Forms.{ReadsWord, longer_line, line_reading, Fails, Gives, line_taken}
use Rattle.report_text.proofs.Forms.{numbered, text_ended, on_from, lines_on, bytes_on}
use Rattle.report_text.specs.declared.fault.ReportFault.TheVariants as faults

on_cut : (names : Texts) (s : ReportState) (number : ℕ) (rest line behind : List ℕ) → cut_at 10 rest ≡ Some (line, behind) → bytes_on names s number rest ≡ on_from number (line_taken names s line) (λ next. bytes_on names next (number + 1) behind)
on_cut names s number rest line behind e = ap (λ (w : Lines). lines_on names s number w.ended w.tail) (lines_of_cut rest _ e)

numbered_ok : (number : ℕ) (o : Option ReportState) (next : ReportState) → numbered number o ≡ Ok next → o ≡ Some next
numbered_ok number None next e = absurd cc
numbered_ok number (Some s) next e = cc

-- a line is taken
pub next_line : (names : Texts) (s next : ReportState) (number : ℕ) (rest line behind : List ℕ) (whole : Result RunLog ReportFault) → cut_at 10 rest ≡ Some (line, behind) → numbered number (line_taken names s line) ≡ Ok next → bytes_on names s number rest ≡ whole → bytes_on names next (number + 1) behind ≡ whole
next_line names s next number rest line behind whole e is so_far =
    ap (λ o. on_from number o (λ t. bytes_on names t (number + 1) behind)) (sym (numbered_ok number (line_taken names s line) next is)) ∙ sym (on_cut names s number rest line behind e) ∙ so_far

fails_on : (number : ℕ) (o : Option ReportState) (more : ReportState → Result RunLog ReportFault) (fault : ReportFault) → Fails (numbered number o) fault → Fails (on_from number o more) fault
fails_on number None more (faults.Syntax line) h = cc
fails_on number None more faults.NoMemory h = tt
fails_on number (Some s) more (faults.Syntax line) h = absurd cc
fails_on number (Some s) more faults.NoMemory h = tt

module _ (names : Texts) (s : ReportState) (number : ℕ) (rest : List ℕ) where
  -- a line is not taken, or memory is refused
  pub line_fails : (line behind : List ℕ) (whole : Result RunLog ReportFault) (fault : ReportFault) → cut_at 10 rest ≡ Some (line, behind) → Fails (numbered number (line_taken names s line)) fault → bytes_on names s number rest ≡ whole → Fails whole fault
  line_fails line behind whole fault e h so_far =
      subst (λ r. Fails r fault) (sym (on_cut names s number rest line behind e) ∙ so_far) (fails_on number (line_taken names s line) (λ next. bytes_on names next (number + 1) behind) fault h)

  -- no line has ended
  pub no_line : (whole : Result RunLog ReportFault) → cut_at 10 rest ≡ None → bytes_on names s number rest ≡ whole → whole ≡ text_ended number s rest
  no_line whole e so_far = sym so_far ∙ ap (λ (w : Lines). lines_on names s number w.ended w.tail) (lines_of_tail rest (uncut_is 10 rest e))

-- a line that is neither the first nor the last of a report
pub longer : (names : Texts) (text : List ℕ) (r : Result ReportLine LineFault) → bytes_eq text (codes "beam report 1") ≡ false → bytes_eq text (codes "end report") ≡ false → ReadsWord (λ line. line) r (longer_line names text) → ReadsWord (λ line. line) r (line_reading names text)
longer names text r h k read = subst (λ o. ReadsWord (λ line. line) r o) (sym (failed _ _ _ h ∙ failed _ _ _ k)) read

-- the same is given
pub given : (r whole end : Result RunLog ReportFault) → whole ≡ end → Gives (λ log. log) r end → Gives (λ log. log) r whole
given r whole end e g = subst (λ x. Gives (λ log. log) r x) (sym e) g
