-- A text read line by line.
use Rattle.mod_text.proofs.Common.{◌≡◌, ℕ, suc, ◌<◌, Bool, true, false, cond, not, ◌&&◌, ◌==◌, List, [], ◌∷◌}
use Rattle.mod_text.proofs.Common.{length, Some, None, Ok, Err, bytes_eq, codes, refl, sym, ap, ◌∙◌, Texts}
use Rattle.mod_text.proofs.Common.{subst, arith, length-append, nat_tests}
use Rattle.mod_text.proofs.Types.{LineFault, LineStop}
use Rattle.mod_text.proofs.Forms.{LineForm, line_step, Fails, Read, stop_at, has_no_line, go_on, text_on, bytes_on, read_behind, StopsSo}
use Rattle.mod_text.proofs.Texts.{cut_at, Lines, lines, before_lines, lines_of_text, passed}
use Rattle.mod_text.proofs.Texts.{failed, cut_is, uncut_is, lines_of_cut, lines_of_tail}
use Rattle.mod_text.specs.declared.fault.LineFault.TheVariants as faults

end_of_before : (b : ℕ) (ended : Texts) (tail : List ℕ) → has_no_line (before_lines b ended tail).ended (before_lines b ended tail).tail ≡ false
end_of_before b [] tail = refl
end_of_before b (line ∷ others) tail = refl

-- a text is at its end where it has no bytes
pub is_end-lines : (text : List ℕ) → has_no_line (lines_of_text text).ended (lines_of_text text).tail ≡ (length text == 0)
is_end-lines [] = refl
is_end-lines (b ∷ bs) =
    let some : (suc (length bs) == 0) ≡ false = grind (arith, nat_tests) in
    elim (b == 10) as (λ (t : Bool). has_no_line (cond t (lines ([] ∷ (lines_of_text bs).ended) (lines_of_text bs).tail) (before_lines b (lines_of_text bs).ended (lines_of_text bs).tail)).ended (cond t (lines ([] ∷ (lines_of_text bs).ended) (lines_of_text bs).tail) (before_lines b (lines_of_text bs).ended (lines_of_text bs).tail)).tail ≡ (suc (length bs) == 0)) [
      | true ↦ sym some
      | false ↦ end_of_before b _ _ ∙ sym some
    ]

-- the reading of a line at the front, and of what is behind it
abbrev pub front_read : Texts → List LineForm → List ℕ → List ℕ → Read
front_read names before text behind =
    cond ((length behind == 0) && not (bytes_eq text (codes "end"))) (stop_at (length before) faults.Syntax)
    (go_on (length before) (line_step names before text) (λ named read. read_behind named read behind))

module _ (names : Texts) (before : List LineForm) (bytes : List ℕ) where
  pub bytes_on-cut : (text behind : List ℕ) → cut_at 10 bytes ≡ Some (text, behind) → bytes_on names before bytes ≡ front_read names before text behind
  bytes_on-cut text behind cut =
      ap (λ (w : Lines). text_on names before w.ended w.tail) (lines_of_cut bytes _ cut)
      ∙ ap (λ (t : Bool). cond (t && not (bytes_eq text (codes "end"))) (stop_at (length before) faults.Syntax) (go_on (length before) (line_step names before text) (λ named read. cond t (Ok (named, read)) (bytes_on named read behind)))) (is_end-lines behind)

  pub bytes_on-uncut : cut_at 10 bytes ≡ None → bytes_on names before bytes ≡ stop_at (length before) faults.Syntax
  bytes_on-uncut cut = ap (λ (w : Lines). text_on names before w.ended w.tail) (lines_of_tail bytes (uncut_is 10 bytes cut))

-- ---- one line

-- what was cut is shorter
pub behind_shorter : (bytes text behind : List ℕ) → cut_at 10 bytes ≡ Some (text, behind) → length behind < length bytes
behind_shorter bytes text behind cut = omega (arith, (ap length (cut_is 10 bytes _ cut).whole ∙ length-append text _))

module _ (names : Texts) (before : List LineForm) (bytes text behind : List ℕ) where
  -- the text goes on behind a line, or the line is `end`
  pub goes_on : cut_at 10 bytes ≡ Some (text, behind) → ((length behind == 0) && not (bytes_eq text (codes "end"))) ≡ false → bytes_on names before bytes ≡ go_on (length before) (line_step names before text) (λ named read. read_behind named read behind)
  goes_on cut further =
      bytes_on-cut names _ bytes text _ cut ∙ failed _ _ (go_on (length before) (line_step names before text) (λ named read. read_behind named read behind)) further

  -- a line that was read leads on
  pub line_leads : (named : Texts) (read : List LineForm) → cut_at 10 bytes ≡ Some (text, behind) → ((length behind == 0) && not (bytes_eq text (codes "end"))) ≡ false → line_step names before text ≡ Ok (named, read) → bytes_on names before bytes ≡ read_behind named read behind
  line_leads named read cut further step =
      goes_on cut further ∙ ap (λ s. go_on (length before) s (λ n r. read_behind n r behind)) step

  stop_by : (fault : LineFault) → cut_at 10 bytes ≡ Some (text, behind) → ((length behind == 0) && not (bytes_eq text (codes "end"))) ≡ false → line_step names before text ≡ Err fault → bytes_on names before bytes ≡ stop_at (length before) fault
  stop_by fault cut further step =
      goes_on cut further ∙ ap (λ s. go_on (length before) s (λ n r. read_behind n r behind)) step

  -- a line that was refused stops the reading
  pub line_stops : (number : ℕ) (fault : LineFault) → cut_at 10 bytes ≡ Some (text, behind) → ((length behind == 0) && not (bytes_eq text (codes "end"))) ≡ false → number ≡ length before → Fails (line_step names before text) fault → StopsSo (bytes_on names before bytes) (record { number = number; fault = fault })
  line_stops number faults.NoMemory cut further counted step = tt
  line_stops number fault cut further counted step = stop_by fault cut further step ∙ ap (λ n. stop_at n fault) (sym counted)

syntax_stops : (read : Read) (number at : ℕ) (stop : LineStop) → number ≡ at → stop ≡ record { number = number; fault = faults.Syntax } → read ≡ stop_at at faults.Syntax → StopsSo read stop
syntax_stops read number at stop counted is stops =
    subst (StopsSo read) (sym is) (stops ∙ ap (λ n. stop_at n faults.Syntax) (sym counted))

-- a line without its line feed
pub unended_stops : (names : Texts) (before : List LineForm) (bytes : List ℕ) (number : ℕ) (stop : LineStop) → number ≡ length before → stop ≡ record { number = number; fault = faults.Syntax } → cut_at 10 bytes ≡ None → StopsSo (bytes_on names before bytes) stop
unended_stops names before bytes number stop counted is cut = syntax_stops _ _ _ stop counted is (bytes_on-uncut names _ bytes cut)

-- a last line that is not `end`
pub early_stops : (names : Texts) (before : List LineForm) (bytes text behind : List ℕ) (number : ℕ) (stop : LineStop) → number ≡ length before → stop ≡ record { number = number; fault = faults.Syntax } → cut_at 10 bytes ≡ Some (text, behind) → ((length behind == 0) && not (bytes_eq text (codes "end"))) ≡ true → StopsSo (bytes_on names before bytes) stop
early_stops names before bytes text behind number stop counted is cut early =
    syntax_stops _ _ _ stop counted is
    (bytes_on-cut names _ bytes text _ cut ∙ passed ((length behind == 0) && not (bytes_eq text (codes "end"))) (stop_at (length before) faults.Syntax) (go_on (length before) (line_step names before text) (λ named read. read_behind named read behind)) early)
