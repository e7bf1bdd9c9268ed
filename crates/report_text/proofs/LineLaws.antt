-- Lines of a report: what is read has this text, what has this text is read, and no line has a line feed.
use Rattle.report_text.proofs.Common.{◌≡◌, ℕ, true, false, ◌==◌, List, [], ◌∷◌, ◌++◌, decimal, Option, Some, None}
use Rattle.report_text.proofs.Common.{IfSome, codes, refl, sym, ap, ◌∙◌, subst, append_assoc, Texts}
use Rattle.report_text.proofs.Types.{Mfa, Line, End, Entry, Call, ReportLine}
use Rattle.report_text.proofs.Texts.{IsNames, plain, term_of, PlainTerm, plain-term_of, term_of-plain, ◌>>=◌, some, bind_some, lacks, lacks-all}
use Rattle.report_text.proofs.Texts.{lacks-append, lacks-cons, IsItem}
use Rattle.report_text.proofs.Logs.{IsTermOf, mfa_text, call_text, who_text, cmd_text, reply_text}
use Rattle.report_text.proofs.Logs.{published_text, end_text, IsWide, IsLineOf, IsEndOf, IsEntryOf}
use Rattle.report_text.proofs.Forms.{line_text, IsReportLine, shown_line_text, worded_end, end_reading}
use Rattle.report_text.proofs.Forms.{numbered_line, number_line, plain_line, worded_line, line_reading}
use Rattle.mod_text.proofs.Readers.{Reader, fitting, pair, made_again, name_is, word_is, longer_is}
use Rattle.report_text.proofs.TermLaws.{number, number_is, decimal_lacks, term, text_of_it, function, function_lacks, call, call_of}
use Rattle.report_text.proofs.EntryLaws.{entry, entry_bytes, IsPlainText, is_command_byte, both, one_more, number_plain}
use Rattle.report_text.proofs.EntryLaws.{function_plain, call_plain, command_plain, reply_plain, who_plain, shown_plain, end_plain}
use Rattle.report_text.specs.declared.line.ReportLine.TheVariants as lines
use Rattle.machine_core.specs.declared.process.End.TheVariants as ends
use Rattle.machine_core.specs.declared.process.Line.TheVariants as shown

-- ---- ends

module _ (names : Texts) (sound : IsNames names) where
  worded_end_is : (word text : List ℕ) (e : End) → worded_end names word text ≡ Some e → IsItem (end_text names) (IsEndOf names) (word ++ 32 ∷ text) e
  worded_end_is word text e h =
      word_is (function names sound) (λ to. ends.Undef to) (end_text names) (IsEndOf names) (codes "undef") (λ to k. refl) (λ to k. k) word text _ e h
      (λ h1. word_is number (λ n. ends.Killed n) (end_text names) (IsEndOf names) (codes "killed") (λ n k. refl) (λ n k. k) word text None e h1 (λ no. absurd cc))

  pub end_is : (text : List ℕ) (e : End) → end_reading names text ≡ Some e → IsItem (end_text names) (IsEndOf names) text e
  end_is text e h =
      name_is (λ w. w) (end_text names) (IsEndOf names) (codes "normal") ends.Normal refl tt text _ e h
      (λ h1. name_is (λ w. w) (end_text names) (IsEndOf names) (codes "badarg") ends.Badarg refl tt text _ e h1
      (λ h2. name_is (λ w. w) (end_text names) (IsEndOf names) (codes "badarith") ends.Badarith refl tt text _ e h2
      (λ h3. name_is (λ w. w) (end_text names) (IsEndOf names) (codes "system_limit") ends.SystemLimit refl tt text _ e h3
      (longer_is (end_text names) (IsEndOf names) (worded_end names) worded_end_is text e))))

  pub end_again : (e : End) → IsEndOf names e → end_reading names (end_text names e) ≡ Some e
  end_again (ends.Undef to) h = made_again (function names sound) (λ f. ends.Undef f) to h
  end_again (ends.Killed serial) h = made_again number (λ n. ends.Killed n) serial h
  end_again e h = refl

  abbrev pub end_reader : Reader End
  end_reader = fitting _ (IsEndOf names) _ end_is end_again

-- ---- lines, grouped as they are cut

grouped : (w c r p : List ℕ) → (((((w ++ codes " ") ++ c) ++ codes " = ") ++ r) ++ codes " ") ++ p ≡ w ++ 32 ∷ ((c ++ 32 ∷ []) ++ 61 ∷ (32 ∷ (r ++ 32 ∷ p)))
grouped w c r p = simp append_assoc

entry_grouped : (names : Texts) (e : Entry) → line_text names (lines.Entry e) ≡ codes "entry " ++ entry_bytes names e
entry_grouped names e = ap (λ (x : List ℕ). codes "entry " ++ x) (grouped (who_text e.who) (cmd_text names e.cmd) (reply_text names e.reply) (published_text e.published))

-- a word, a number, and what stands behind a space
two_grouped : (word number text : List ℕ) → ((word ++ number) ++ 32 ∷ []) ++ text ≡ word ++ (number ++ 32 ∷ text)
two_grouped word number text = append_assoc (word ++ number) (32 ∷ []) text ∙ append_assoc word number (32 ∷ text)

abbrev pub numbers : Reader (ℕ × ℕ)
numbers = pair 32 number number (λ n h. decimal_lacks 32 n refl h)

abbrev pub numbered_call : (names : Texts) → IsNames names → Reader (ℕ × Call)
numbered_call names sound = pair 32 number (call names sound) (λ n h. decimal_lacks 32 n refl h)

abbrev pub numbered_function : (names : Texts) → IsNames names → Reader (Mfa × ℕ)
numbered_function names sound = pair 32 (function names sound) number (λ to h. function_lacks 32 names to sound refl refl refl h)

abbrev made_process : ℕ × Call → ReportLine
made_process p = lines.Process p.0 p.1.target p.1.args

abbrev made_print : PlainTerm → ReportLine
made_print p = lines.Shown (shown.Print (term_of p))

abbrev made_trace : Call → ReportLine
made_trace c = lines.Shown (shown.Trace c.target c.args)

-- ---- what is read has its text

module _ (names : Texts) where
  number_line_is : (word text : List ℕ) (l : ReportLine) → number_line word text ≡ Some l → IsItem (line_text names) (IsReportLine names) (word ++ 32 ∷ text) l
  number_line_is word text l h =
      let m = bind_some _ (numbered_line word) l h in
      let is = number_is text m.0 m.1 in
      let around : List ℕ → List ℕ = λ w. w ++ 32 ∷ text in
      name_is around (line_text names) (IsReportLine names) (codes "generations") (lines.Generations m.0) (ap (λ (t : List ℕ). codes "generations " ++ t) is.text_is) is.fits word _ l m.2
      (λ h1. name_is around (line_text names) (IsReportLine names) (codes "observer") (lines.Observer m.0) (ap (λ (t : List ℕ). codes "observer " ++ t) is.text_is) is.fits word _ l h1
      (λ h2. name_is around (line_text names) (IsReportLine names) (codes "snapshot") (lines.Snapshot m.0) (ap (λ (t : List ℕ). codes "snapshot " ++ t) is.text_is) is.fits word None l h2 (λ no. absurd cc)))

  plain_line_is : IsNames names → (word text : List ℕ) (l : ReportLine) → plain_line names word text ≡ Some l → IsItem (line_text names) (IsReportLine names) (word ++ 32 ∷ text) l
  plain_line_is sound word text l h =
      word_is numbers (λ p. lines.Span p.0 p.1) (line_text names) (IsReportLine names) (codes "span") (λ p k. sym (two_grouped (codes "span ") (decimal p.0) (decimal p.1))) (λ p k. k) word text _ l h
      (λ h1. word_is (end_reader names sound) (λ e. lines.End e) (line_text names) (IsReportLine names) (codes "end") (λ e k. refl) (λ e k. k) word text _ l h1
      (λ h2. word_is (numbered_function names sound) (λ p. lines.Export p.0 p.1) (line_text names) (IsReportLine names) (codes "export") (λ p k. refl) (λ p k. k) word text _ l h2
      (number_line_is word text l)))

  worded_line_is : IsNames names → (word text : List ℕ) (l : ReportLine) → worded_line names word text ≡ Some l → IsItem (line_text names) (IsReportLine names) (word ++ 32 ∷ text) l
  worded_line_is sound word text l h =
      word_is (entry names sound) (λ e. lines.Entry e) (line_text names) (IsReportLine names) (codes "entry") (λ e k. sym (entry_grouped names e)) (λ e k. k) word text _ l h
      (λ h1. word_is (numbered_call names sound) made_process (line_text names) (IsReportLine names) (codes "process") (λ p k. sym (two_grouped (codes "process ") (decimal p.0) (call_text names p.1.target p.1.args))) (λ p k. k) word text _ l h1
      (λ h2. word_is (term names sound) made_print (line_text names) (IsReportLine names) (codes "print") (λ p k. ap (λ (t : List ℕ). codes "print " ++ t) (sym (text_of_it names p))) (λ p k. subst (IsTermOf names) (sym (plain-term_of p)) k) word text _ l h2
      (λ h3. word_is (call names sound) made_trace (line_text names) (IsReportLine names) (codes "trace") (λ c k. refl) (λ c k. k) word text _ l h3
      (plain_line_is sound word text l))))

  -- what is read is a line with this text
  pub line_is : IsNames names → (text : List ℕ) (l : ReportLine) → line_reading names text ≡ Some l → IsItem (line_text names) (IsReportLine names) text l
  line_is sound text l h =
      name_is (λ w. w) (line_text names) (IsReportLine names) (codes "beam report 1") lines.Head refl tt text _ l h
      (λ h1. name_is (λ w. w) (line_text names) (IsReportLine names) (codes "end report") lines.Close refl tt text _ l h1
      (longer_is (line_text names) (IsReportLine names) (worded_line names) (worded_line_is sound) text l))

  -- ---- what has the text is read

  -- an end's line is not the last one
  not_last : (e : End) → line_reading names (codes "end " ++ end_text names e) ≡ (end_reading names (end_text names e) >>= λ fin. Some (lines.End fin))
  not_last ends.Normal = refl
  not_last e = refl

  shown_again : IsNames names → (line : Line) → IsLineOf names line → line_reading names (shown_line_text names line) ≡ Some (lines.Shown line)
  shown_again sound (shown.Print it) h = made_again (term names sound) made_print (plain it) h ∙ ap (λ t. some (lines.Shown (shown.Print t))) (term_of-plain it)
  shown_again sound (shown.Trace to args) h = made_again (call names sound) made_trace (call_of to args) h

  -- the text of a line is read as it
  pub line_again : IsNames names → (l : ReportLine) → IsReportLine names l → line_reading names (line_text names l) ≡ Some l
  line_again sound (lines.Generations n) h = made_again number (λ k. lines.Generations k) n h
  line_again sound (lines.Entry e) h = ap (line_reading names) (entry_grouped names e) ∙ made_again (entry names sound) (λ x. lines.Entry x) e h
  line_again sound (lines.Process n to args) h = ap (line_reading names) (two_grouped (codes "process ") (decimal n) (call_text names to args)) ∙ made_again (numbered_call names sound) made_process (n, call_of to args) h
  line_again sound (lines.Span g k) h = ap (line_reading names) (two_grouped (codes "span ") (decimal g) (decimal k)) ∙ made_again numbers (λ p. lines.Span p.0 p.1) (g, k) h
  line_again sound (lines.Shown line) h = shown_again sound line h
  line_again sound (lines.End e) h = not_last e ∙ made_again (end_reader names sound) (λ x. lines.End x) e h
  line_again sound (lines.Observer n) h = made_again number (λ k. lines.Observer k) n h
  line_again sound (lines.Snapshot n) h = made_again number (λ k. lines.Snapshot k) n h
  line_again sound (lines.Export to serial) h = made_again (numbered_function names sound) (λ p. lines.Export p.0 p.1) (to, serial) h
  line_again sound l h = refl

-- ---- no line has a line feed

no_feed : (text : List ℕ) → IsPlainText text → lacks 10 text ≡ true
no_feed text h = lacks-all is_command_byte 10 text refl h.all

-- a text in one line
record IsOneLine (text : List ℕ) : Type 0 where
  all : lacks 10 text ≡ true

plain_line_of : (text : List ℕ) → IsPlainText text → IsOneLine text
plain_line_of text h = record { all = no_feed text h }

with_more : (a b : List ℕ) → IsOneLine a → IsOneLine b → IsOneLine (a ++ b)
with_more a b h k = record { all = lacks-append 10 a b h.all k.all }

behind_byte : (c : ℕ) (b : List ℕ) → (c == 10) ≡ false → IsOneLine b → IsOneLine (c ∷ b)
behind_byte c b h k = record { all = lacks-cons 10 c b h k.all }

published_line : (p : Option ℕ) → IfSome p IsWide → IsOneLine (published_text p)
published_line None h = record { all = refl }
published_line (Some n) h = behind_byte 64 (decimal n) refl (record { all = decimal_lacks 10 n refl h })

module _ (names : Texts) (sound : IsNames names) where
  entry_line : (e : Entry) → IsEntryOf names e → IsOneLine (codes "entry " ++ entry_bytes names e)
  entry_line e h =
      with_more (codes "entry ") (entry_bytes names e) (record { all = refl })
      (with_more (who_text e.who) _ (plain_line_of (who_text e.who) (who_plain e.who h.who))
      (behind_byte 32 _ refl (with_more (cmd_text names e.cmd ++ 32 ∷ []) _ (with_more (cmd_text names e.cmd) (32 ∷ []) (plain_line_of (cmd_text names e.cmd) (command_plain names sound e.cmd h.command)) (record { all = refl }))
      (behind_byte 61 _ refl (behind_byte 32 _ refl (with_more (reply_text names e.reply) _ (plain_line_of (reply_text names e.reply) (reply_plain names sound e.reply h.reply)) (behind_byte 32 _ refl (published_line e.published h.published))))))))

  pub line_lacks : (l : ReportLine) → IsReportLine names l → lacks 10 (line_text names l) ≡ true
  line_lacks lines.Head h = refl
  line_lacks (lines.Generations n) h = no_feed _ (both (codes "generations ") (decimal n) (record { all = refl }) (number_plain n h))
  line_lacks (lines.Entry e) h = ap (lacks 10) (entry_grouped names e) ∙ (entry_line e h).all
  line_lacks (lines.Process number to args) h =
      ap (lacks 10) (two_grouped (codes "process ") (decimal number) (call_text names to args)) ∙ no_feed _ (both (codes "process ") _ (record { all = refl }) (both (decimal number) _ (number_plain number h.0) (one_more 32 _ refl (call_plain names to args sound h.1))))
  line_lacks (lines.Span g k) h = ap (lacks 10) (two_grouped (codes "span ") (decimal g) (decimal k)) ∙ no_feed _ (both (codes "span ") _ (record { all = refl }) (both (decimal g) _ (number_plain g h.0) (one_more 32 _ refl (number_plain k h.1))))
  line_lacks (lines.Shown line) h = no_feed (shown_line_text names line) (shown_plain names sound line h)
  line_lacks (lines.End e) h = no_feed _ (both (codes "end ") (end_text names e) (record { all = refl }) (end_plain names sound e h))
  line_lacks (lines.Observer n) h = no_feed _ (both (codes "observer ") (decimal n) (record { all = refl }) (number_plain n h))
  line_lacks (lines.Snapshot n) h = no_feed _ (both (codes "snapshot ") (decimal n) (record { all = refl }) (number_plain n h))
  line_lacks (lines.Export to serial) h = no_feed _ (both (codes "export ") (mfa_text names to ++ 32 ∷ decimal serial) (record { all = refl }) (both (mfa_text names to) _ (function_plain names to sound h.0) (one_more 32 _ refl (number_plain serial h.1))))
  line_lacks lines.Close h = refl
