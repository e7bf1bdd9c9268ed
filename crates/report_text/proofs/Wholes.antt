-- Whole texts: what is read is a report's log, a report's log is read, and each other text has its one fault.
use Rattle.std.proofs.Common.{◌≡◌, ℕ, zero, suc, ◌+◌, ◌-◌, ◌^◌, ◌<◌, ◌≤◌, ◌⊎◌, Bool, true, false, cond, ◌==◌, nat_lt, List, []}
use Rattle.std.proofs.Common.{◌∷◌, ◌++◌, length, take, drop, max, Option, Some, None, is_some, Result, Ok, Err, IfOk, IfErr, inl}
use Rattle.std.proofs.Common.{inr, refl, sym, ap, ◌∙◌, subst, arith, append_assoc, append-nil, length-append}
use Rattle.report_text.proofs.Common.{map, AllByRecursion, flat_map, nat_tests, Decides-eqb, take-append-drop, length-map, take_all, Texts}
use Rattle.term_core.specs.Gives.{GivesUnless, RefusesUnless}
use Rattle.report_text.proofs.Texts.{IsNames, ◌>>=◌, Lines, lines, before_lines, lacks, lines_behind, some, some_is, bind_some, bind_at}
use Rattle.report_text.proofs.Texts.{lines_of_text, as_last_line, all_lines, lines_joined, ended_lack, each_append, all_front}
use Rattle.report_text.proofs.Types.{Entry, Span, ProcessLog, Snapshot, RunLog, ReportFault, ReportLine, Stage, Done, ReportState}
use Rattle.report_text.proofs.Logs.{published_count, rendering_of, AreWhole, IsWide, IsEntryOf, IsProcessOf}
use Rattle.report_text.proofs.Logs.{IsSnapshotOf, IsSpanOf, IsLineOf, IsExportOf, IsWellFormed, count-cons}
use Rattle.report_text.proofs.Forms.{line_text, IsReportLine, span_lines, process_lines, processes_lines, export_line, snapshot_lines}
use Rattle.report_text.proofs.Forms.{observer_lines, observers_lines, log_lines, lines_text, AreCounted, GoesOn, first_lines, StopsAt, EndsAt}
use Rattle.report_text.proofs.Forms.{FaultAt, FaultOf, at, report_opening, taken, all_taken, Gives, line_taken, ended_log, last_number, text_ended}
use Rattle.report_text.proofs.Forms.{on_from, lines_on, bytes_on}
use Rattle.report_text.proofs.LineLaws.{line_is, line_again, line_lacks}
use Rattle.report_text.proofs.WholeLogs.{lines_text-append, rendered, log_taken}
use Rattle.report_text.proofs.SoFar.{IsGood, Stands, so_far, line_is as step_is, opening_stands, completed}
use Rattle.report_text.specs.declared.line.ReportLine.TheVariants as rows
use Rattle.report_text.specs.declared.fault.ReportFault.TheVariants as faults

-- ---- each line of a log can be written

-- what is flat, and what is mapped
flat_fits : {X : Type 0} (P : ReportLine → Type 0) (Q : X → Type 0) (f : X → List ReportLine) → ((x : X) → Q x → AllByRecursion P (f x)) → (xs : List X) → AllByRecursion Q xs → AllByRecursion P (flat_map f xs)
flat_fits P Q f one [] h = tt
flat_fits P Q f one (x ∷ xs) h = each_append P (f x) (flat_map f xs) (one x h.0) (flat_fits P Q f one xs h.1)

map_fits : {X : Type 0} (P : ReportLine → Type 0) (Q : X → Type 0) (f : X → ReportLine) → ((x : X) → Q x → P (f x)) → (xs : List X) → AllByRecursion Q xs → AllByRecursion P (map f xs)
map_fits P Q f one [] h = tt
map_fits P Q f one (x ∷ xs) h = (one x h.0, map_fits P Q f one xs h.1)

module _ (names : Texts) where
  span_fits : (span : Span) → IsSpanOf names span → AllByRecursion (IsReportLine names) (span_lines span)
  span_fits span h = ((h.generation, h.turns), map_fits (IsReportLine names) (IsLineOf names) (λ l. rows.Shown l) (λ l k. k) span.lines h.lines_are)

  process_fits : (number : ℕ) (p : ProcessLog) → IsWide number → IsProcessOf names p → AllByRecursion (IsReportLine names) (process_lines number p)
  process_fits number p wide h =
      ((wide, h.call), each_append (IsReportLine names) (flat_map span_lines p.spans) (rows.End p.fin ∷ []) (flat_fits (IsReportLine names) (IsSpanOf names) span_lines span_fits p.spans h.spans) (h.fin, tt))

  processes_fit : (number : ℕ) (ps : List ProcessLog) → number + length ps ≤ 2 ^ 64 → AllByRecursion (IsProcessOf names) ps → AllByRecursion (IsReportLine names) (processes_lines number ps)
  processes_fit number [] room h = tt
  processes_fit number (p ∷ ps) room h =
      each_append (IsReportLine names) (process_lines number p) (processes_lines (number + 1) ps) (process_fits number p (omega arith) h.0) (processes_fit (number + 1) ps (omega arith) h.1)

  shot_fits : (shot : Snapshot) → IsSnapshotOf names shot → AllByRecursion (IsReportLine names) (snapshot_lines shot)
  shot_fits shot h = (h.generation, map_fits (IsReportLine names) (IsExportOf names) export_line (λ x k. (k.function, k.serial)) shot.exports h.exports)

  observers_fit : (number : ℕ) (obs : List (List Snapshot)) → number + length obs ≤ 2 ^ 64 → AllByRecursion (λ shots. AllByRecursion (IsSnapshotOf names) shots) obs → AllByRecursion (IsReportLine names) (observers_lines number obs)
  observers_fit number [] room h = tt
  observers_fit number (shots ∷ obs) room h =
      each_append (IsReportLine names) (observer_lines number shots) (observers_lines (number + 1) obs) (omega arith, flat_fits (IsReportLine names) (IsSnapshotOf names) snapshot_lines shot_fits shots h.0) (observers_fit (number + 1) obs (omega arith) h.1)

  log_fits : (log : RunLog) → IsGood names log → AllByRecursion (IsReportLine names) (log_lines log)
  log_fits log h = (
    tt,
    (
      h.counted.generations,
      each_append (IsReportLine names) (map (λ e. rows.Entry e) log.journal) _ (map_fits (IsReportLine names) (IsEntryOf names) (λ e. rows.Entry e) (λ e k. k) log.journal h.well_formed.journal)
          (each_append (IsReportLine names) (processes_lines 0 log.processes) _ (processes_fit 0 log.processes (omega (arith, h.counted.processes)) h.well_formed.processes)
          (each_append (IsReportLine names) (observers_lines 0 log.observers) (rows.Close ∷ []) (observers_fit 0 log.observers (omega (arith, h.counted.observers)) h.well_formed.observers) (tt, tt))),
    ),
  )

whole_each : (names : Texts) (ps : List ProcessLog) → AllByRecursion (IsProcessOf names) ps → AllByRecursion (λ p. AreWhole p.spans) ps
whole_each names [] h = tt
whole_each names (p ∷ ps) h = (h.0.whole, whole_each names ps h.1)

-- ---- a report's length is at least the number of its lines

long_text : (names : Texts) (ls : List ReportLine) → length ls ≤ length (lines_text names ls)
long_text names [] = omega arith
long_text names (l ∷ ls) = let more = long_text names ls in let all = length-append (line_text names l) (10 ∷ lines_text names ls) in omega arith

counts_few : (es : List Entry) → published_count es ≤ length es
counts_few [] = let none : published_count [] ≡ 0 = refl in omega arith
counts_few (e ∷ es) = let all = count-cons e es in let more = counts_few es in let one = publishes_few (is_some e.published) in omega arith
  where
    publishes_few : (b : Bool) → cond b 1 0 ≤ 1
    publishes_few true = omega arith
    publishes_few false = omega arith

processes_few : (number : ℕ) (ps : List ProcessLog) → length ps ≤ length (processes_lines number ps)
processes_few number [] = omega arith
processes_few number (p ∷ ps) = let more = processes_few (number + 1) ps in let all = length-append (process_lines number p) (processes_lines (number + 1) ps) in omega arith

observers_few : (number : ℕ) (obs : List (List Snapshot)) → length obs ≤ length (observers_lines number obs)
observers_few number [] = omega arith
observers_few number (o ∷ obs) = let more = observers_few (number + 1) obs in let all = length-append (observer_lines number o) (observers_lines (number + 1) obs) in omega arith

counted : (names : Texts) (log : RunLog) (text : List ℕ) → rendering_of names log ≡ text → length text < 2 ^ 32 → AreCounted log
counted names log text e short =
    let es = map (λ e. rows.Entry e) log.journal in
    let ps = processes_lines 0 log.processes in
    let os = observers_lines 0 log.observers in
    let bytes : length (log_lines log) < 2 ^ 32 = omega (arith, long_text names (log_lines log), ap length (sym (rendered names log) ∙ e), short) in
    let c1 = length-append es (ps ++ (os ++ rows.Close ∷ [])) in
    let c2 = length-append ps (os ++ rows.Close ∷ []) in
    let c3 = length-append os (rows.Close ∷ []) in
    let l1 = length-map log.journal (λ e. rows.Entry e) in
    let f1 = counts_few log.journal in
    let f2 = processes_few 0 log.processes in
    let f3 = observers_few 0 log.observers in
    record { generations = omega (arith, bytes, c1, c2, c3, l1, f1); processes = omega (arith, bytes, c1, c2, c3, f2); observers = omega (arith, bytes, c1, c2, c3, f3) }

-- ---- texts, line by line

abbrev texts_taken : Texts → ReportState → Texts → Option ReportState
texts_taken names s [] = Some s
texts_taken names s (text ∷ texts) = line_taken names s text >>= λ next. texts_taken names next texts

-- the texts of lines are taken as the lines
texts_of : (names : Texts) → IsNames names → (s : ReportState) (ls : List ReportLine) → AllByRecursion (IsReportLine names) ls → texts_taken names s (map (line_text names) ls) ≡ all_taken s ls
texts_of names sound s [] h = refl
texts_of names sound s (l ∷ ls) h =
    ap (λ (o : Option ReportLine). (o >>= taken s) >>= λ next. texts_taken names next (map (line_text names) ls)) (line_again names sound l h.0)
    ∙ rest_step names (taken s l) ls (λ next. texts_of names sound next ls h.1)
  where
    rest_step : (names : Texts) (o : Option ReportState) (ls : List ReportLine) → ((next : ReportState) → texts_taken names next (map (line_text names) ls) ≡ all_taken next ls) → (o >>= λ next. texts_taken names next (map (line_text names) ls)) ≡ (o >>= λ next. all_taken next ls)
    rest_step names None ls more = refl
    rest_step names (Some next) ls more = more next

-- texts that are taken are lines
record AreLines (names : Texts) (s : ReportState) (texts : Texts) (next : ReportState) : Type 0 where
  rows_are : List ReportLine
  texts_are : texts ≡ map (line_text names) rows_are
  stands : Stands names next
  so_far_is : so_far next ≡ so_far s ++ rows_are

joined-append : (xs ys : Texts) → lines_joined (xs ++ ys) ≡ lines_joined xs ++ lines_joined ys
joined-append [] ys = refl
joined-append (x ∷ xs) ys = ap (λ (t : List ℕ). x ++ 10 ∷ t) (joined-append xs ys) ∙ sym (append_assoc x (10 ∷ lines_joined xs) (lines_joined ys))

-- lines that lack a line feed are the first lines of their bytes and more
lines_in : (texts : Texts) (rest : List ℕ) → AllByRecursion (λ t. lacks 10 t ≡ true) texts → lines_of_text (lines_joined texts ++ rest) ≡ lines (texts ++ (lines_of_text rest).ended) (lines_of_text rest).tail
lines_in [] rest h = refl
lines_in (t ∷ texts) rest h =
    ap lines_of_text (append_assoc t (10 ∷ lines_joined texts) rest) ∙ lines_behind t _ h.0
    ∙ ap (λ (w : Lines). lines (t ∷ w.ended) w.tail) (lines_in texts rest h.1)

module _ (names : Texts) where
  texts_step : (o : Option ReportState) (xs ys : Texts) → ((next : ReportState) → texts_taken names next (xs ++ ys) ≡ (texts_taken names next xs >>= λ t. texts_taken names t ys)) → (o >>= λ next. texts_taken names next (xs ++ ys)) ≡ ((o >>= λ next. texts_taken names next xs) >>= λ t. texts_taken names t ys)
  texts_step None xs ys more = refl
  texts_step (Some next) xs ys more = more next

  texts_taken-append : (s : ReportState) (xs ys : Texts) → texts_taken names s (xs ++ ys) ≡ (texts_taken names s xs >>= λ t. texts_taken names t ys)
  texts_taken-append s [] ys = refl
  texts_taken-append s (x ∷ xs) ys = texts_step (line_taken names s x) xs ys (λ next. texts_taken-append next xs ys)

  -- a front of lines that are taken is taken
  front_taken : (s next : ReportState) (xs ys : Texts) → texts_taken names s (xs ++ ys) ≡ Some next → (t : ReportState) × (texts_taken names s xs ≡ Some t) × (texts_taken names t ys ≡ Some next)
  front_taken s next xs ys e = bind_some _ (λ t. texts_taken names t ys) next (sym (texts_taken-append s xs ys) ∙ e)

  lines_are : IsNames names → (s : ReportState) (texts : Texts) (next : ReportState) → Stands names s → texts_taken names s texts ≡ Some next → AreLines names s texts next
  lines_are sound s [] next h e = subst (AreLines names s []) (some_is s next e) (record { rows_are = []; texts_are = refl; stands = h; so_far_is = sym (append-nil (so_far s)) })
  lines_are sound s (text ∷ texts) next h e =
      let a = bind_some _ (λ t. texts_taken names t texts) next e in
      let b = bind_some _ (taken s) a.0 a.1 in
      let is = line_is names sound text b.0 b.1 in
      let step = step_is names s b.0 a.0 h is.fits b.2 in
      let more = lines_are sound a.0 texts next step.stands a.2 in
      record {
        rows_are = b.0 ∷ more.rows_are;
        texts_are = ap (λ (t : List ℕ). t ∷ texts) is.text_is ∙ ap (λ ts. line_text names b.0 ∷ ts) more.texts_are;
        stands = more.stands;
        so_far_is = more.so_far_is ∙ ap (λ ls. ls ++ more.rows_are) step.lines_are ∙ append_assoc (so_far s) (b.0 ∷ []) more.rows_are;
      }

  -- the bytes of lines
  joined_rows : (ls : List ReportLine) → lines_joined (map (line_text names) ls) ≡ lines_text names ls
  joined_rows [] = refl
  joined_rows (l ∷ ls) = ap (λ (t : List ℕ). line_text names l ++ 10 ∷ t) (joined_rows ls)

  rows_lack : IsNames names → (ls : List ReportLine) → AllByRecursion (IsReportLine names) ls → AllByRecursion (λ t. lacks 10 t ≡ true) (map (line_text names) ls)
  rows_lack sound [] h = tt
  rows_lack sound (l ∷ ls) h = (line_lacks names sound l h.0, rows_lack sound ls h.1)

  -- the lines of a report
  report_lines : (log : RunLog) → IsNames names → IsGood names log → lines_of_text (rendering_of names log) ≡ lines (map (line_text names) (log_lines log)) []
  report_lines log sound h =
      ap lines_of_text (rendered names log ∙ sym (joined_rows (log_lines log)) ∙ sym (append-nil (lines_joined (map (line_text names) (log_lines log)))))
      ∙ lines_in (map (line_text names) (log_lines log)) [] (rows_lack sound (log_lines log) (log_fits names log h))
      ∙ ap (λ (ts : Texts). lines ts []) (append-nil (map (line_text names) (log_lines log)))

  report_taken : (log : RunLog) → IsNames names → IsGood names log → texts_taken names report_opening (map (line_text names) (log_lines log)) ≡ Some (at log Done)
  report_taken log sound h = texts_of names sound report_opening (log_lines log) (log_fits names log h) ∙ log_taken log (whole_each names log.processes h.well_formed.processes)

  -- ---- the reading, line by line

  lines_on_taken : (s : ReportState) (number : ℕ) (texts : Texts) (tail : List ℕ) (next : ReportState) → texts_taken names s texts ≡ Some next → lines_on names s number texts tail ≡ text_ended (number + length texts) next tail
  lines_on_taken s number [] tail next e = ap (λ t. text_ended number t tail) (some_is s next e) ∙ ap (λ n. text_ended n next tail) (omega arith)
  lines_on_taken s number (text ∷ texts) tail next e =
      let a = bind_some _ (λ t. texts_taken names t texts) next e in
      ap (λ (o : Option ReportState). on_from number o (λ t. lines_on names t (number + 1) texts tail)) a.1
      ∙ lines_on_taken a.0 (number + 1) texts tail next a.2 ∙ ap (λ n. text_ended n next tail) (omega arith)

-- how a reading ends: a line may not stand there, or all lines are taken
record Stopped (names : Texts) (s : ReportState) (number : ℕ) (texts : Texts) (r : Result RunLog ReportFault) : Type 0 where
  before : Texts
  text : List ℕ
  others : Texts
  last : ReportState
  texts_are : texts ≡ before ++ text ∷ others
  before_taken : texts_taken names s before ≡ Some last
  not_taken : line_taken names last text ≡ None
  fault_is : r ≡ Err (faults.Syntax (number + length before))

record Ended (names : Texts) (s : ReportState) (number : ℕ) (texts : Texts) (tail : List ℕ) (r : Result RunLog ReportFault) : Type 0 where
  last : ReportState
  all_are_taken : texts_taken names s texts ≡ Some last
  end_is : r ≡ text_ended (number + length texts) last tail

ended_or_stopped : (names : Texts) (s : ReportState) (number : ℕ) (texts : Texts) (tail : List ℕ) → Stopped names s number texts (lines_on names s number texts tail) ⊎ Ended names s number texts tail (lines_on names s number texts tail)
ended_or_stopped names s number [] tail = inr (record { last = s; all_are_taken = refl; end_is = ap (λ n. text_ended n s tail) (omega arith) })
ended_or_stopped names s number (text ∷ texts) tail = first_line names s number text texts tail (line_taken names s text) refl (λ next. ended_or_stopped names next (number + 1) texts tail)
  where
    later : (names : Texts) (s : ReportState) (number : ℕ) (text : List ℕ) (texts : Texts) (tail : List ℕ) (next : ReportState) → line_taken names s text ≡ Some next → Stopped names next (number + 1) texts (lines_on names next (number + 1) texts tail) ⊎ Ended names next (number + 1) texts tail (lines_on names next (number + 1) texts tail) → Stopped names s number (text ∷ texts) (lines_on names next (number + 1) texts tail) ⊎ Ended names s number (text ∷ texts) tail (lines_on names next (number + 1) texts tail)
    later names s number text texts tail next e (inl h) = inl (record {
      before = text ∷ h.before;
      text = h.text;
      others = h.others;
      last = h.last;
      texts_are = ap (λ ts. text ∷ ts) h.texts_are;
      before_taken = bind_at (line_taken names s text) (λ t. texts_taken names t h.before) next (some h.last) e h.before_taken;
      not_taken = h.not_taken;
      fault_is = h.fault_is ∙ ap (λ n. Err (faults.Syntax n)) (omega arith);
    })
    later names s number text texts tail next e (inr h) = inr (record {
      last = h.last;
      all_are_taken = bind_at (line_taken names s text) (λ t. texts_taken names t texts) next (some h.last) e h.all_are_taken;
      end_is = h.end_is ∙ ap (λ n. text_ended n h.last tail) (omega arith);
    })

    first_line : (names : Texts) (s : ReportState) (number : ℕ) (text : List ℕ) (texts : Texts) (tail : List ℕ) (o : Option ReportState) → line_taken names s text ≡ o → ((next : ReportState) → Stopped names next (number + 1) texts (lines_on names next (number + 1) texts tail) ⊎ Ended names next (number + 1) texts tail (lines_on names next (number + 1) texts tail)) → Stopped names s number (text ∷ texts) (on_from number o (λ next. lines_on names next (number + 1) texts tail)) ⊎ Ended names s number (text ∷ texts) tail (on_from number o (λ next. lines_on names next (number + 1) texts tail))
    first_line names s number text texts tail None e more = inl (record {
      before = [];
      text = text;
      others = texts;
      last = s;
      texts_are = refl;
      before_taken = refl;
      not_taken = e;
      fault_is = ap (λ n. Err (faults.Syntax n)) (omega arith);
    })
    first_line names s number text texts tail (Some next) e more = later names s number text texts tail next e (more next)

-- ---- what is read

-- a text is its lines joined, and its tail
whole_before : (b : ℕ) (ended : Texts) (tail : List ℕ) → lines_joined (before_lines b ended tail).ended ++ (before_lines b ended tail).tail ≡ b ∷ (lines_joined ended ++ tail)
whole_before b [] tail = refl
whole_before b (line ∷ others) tail = refl

whole_by : (b : ℕ) (ended : Texts) (tail : List ℕ) (t : Bool) → (b == 10) ≡ t → (let ls = cond t (lines ([] ∷ ended) tail) (before_lines b ended tail) in lines_joined ls.ended ++ ls.tail ≡ b ∷ (lines_joined ended ++ tail))
whole_by b ended tail true is = ap (λ k. k ∷ (lines_joined ended ++ tail)) (sym ((Decides-eqb b 10).0 is))
whole_by b ended tail false is = whole_before b ended tail

whole_lines : (text : List ℕ) → lines_joined (lines_of_text text).ended ++ (lines_of_text text).tail ≡ text
whole_lines [] = refl
whole_lines (b ∷ bs) = whole_by b (lines_of_text bs).ended (lines_of_text bs).tail (b == 10) refl ∙ ap (λ (t : List ℕ). b ∷ t) (whole_lines bs)

text_whole : (text : List ℕ) → (lines_of_text text).tail ≡ [] → lines_joined (lines_of_text text).ended ≡ text
text_whole text e = sym (append-nil (lines_joined (lines_of_text text).ended)) ∙ ap (λ (t : List ℕ). lines_joined (lines_of_text text).ended ++ t) (sym e) ∙ whole_lines text

-- a log that ended the text
record IsRead (names : Texts) (text : List ℕ) (log : RunLog) : Type 0 where
  good : IsGood names log
  whole : rendering_of names log ≡ text

ended_done : (number : ℕ) (s : RunLog) (stage : Stage) (log : RunLog) → ended_log number s stage ≡ Ok log → (stage ≡ Done) × (s ≡ log)
ended_done number s Done log e = (refl, cc)
ended_done number s stage log e = absurd cc

done_is : (s : ReportState) (log : RunLog) → s.stage ≡ Done → s.log ≡ log → s ≡ at log Done
done_is s log e f = λ i. at (f i) (e i)

text_done : (next : ℕ) (s : ReportState) (tail : List ℕ) (log : RunLog) → text_ended next s tail ≡ Ok log → (tail ≡ []) × (s ≡ at log Done)
text_done next s [] log e = let d = ended_done (last_number next) s.log s.stage log e in (refl, done_is s log d.0 d.1)
text_done next s (c ∷ tail) log e = absurd cc

module _ (names : Texts) (sound : IsNames names) (text : List ℕ) where
  read_by : (log : RunLog) → Stopped names report_opening 1 (lines_of_text text).ended (bytes_on names report_opening 1 text) ⊎ Ended names report_opening 1 (lines_of_text text).ended (lines_of_text text).tail (bytes_on names report_opening 1 text) → bytes_on names report_opening 1 text ≡ Ok log → IsRead names text log
  read_by log (inl h) e = let no = sym h.fault_is ∙ e in absurd cc
  read_by log (inr h) e =
      let d = text_done (1 + length (lines_of_text text).ended) h.last (lines_of_text text).tail log (sym h.end_is ∙ e) in
      let ls = lines_are names sound report_opening (lines_of_text text).ended (at log Done) (opening_stands names) (h.all_are_taken ∙ ap (λ s. some s) d.1) in
      record {
        good = ls.stands;
        whole = rendered names log ∙ ap (lines_text names) ls.so_far_is ∙ sym (joined_rows names ls.rows_are) ∙ ap lines_joined (sym ls.texts_are) ∙ text_whole text d.0;
      }

  is_read : (log : RunLog) → bytes_on names report_opening 1 text ≡ Ok log → IsRead names text log
  is_read log e = read_by log (ended_or_stopped names report_opening 1 (lines_of_text text).ended (lines_of_text text).tail) e

  -- the text of a log is read as it
  read_again : (log : RunLog) → length text < 2 ^ 32 → IsWellFormed names log → rendering_of names log ≡ text → bytes_on names report_opening 1 text ≡ Ok log
  read_again log short wf e =
      let good : IsGood names log = record { well_formed = wf; counted = counted names log text e short } in
      let texts = map (line_text names) (log_lines log) in
      ap (λ (w : Lines). lines_on names report_opening 1 w.ended w.tail) (ap lines_of_text (sym e) ∙ report_lines names log sound good)
      ∙ lines_on_taken names report_opening 1 texts [] (at log Done) (report_taken names log sound good)

  pub found_is : (r : Result RunLog ReportFault) → Gives (λ log. log) r (bytes_on names report_opening 1 text) → IfOk r (λ log. IsWellFormed names log × (rendering_of names log ≡ text))
  found_is (Ok log) g = let is = is_read log g in (is.good.well_formed, is.whole)
  found_is (Err f) g = tt

only_by : (r : Result RunLog ReportFault) (log : RunLog) (read : Result RunLog ReportFault) → Gives (λ log. log) r read → read ≡ Ok log → GivesUnless faults.NoMemory r log
only_by (Ok made) log read g e = ok_is made log (sym g ∙ e)
  where
    ok_is : (a b : RunLog) → ◌≡◌ {A = Result RunLog ReportFault} (Ok a) (Ok b) → a ≡ b
    ok_is a b e = cc
only_by (Err (faults.Syntax n)) log read g e = let no = sym g ∙ e in absurd cc
only_by (Err faults.NoMemory) log read g e = refl

pub only_is : (names : Texts) → IsNames names → (text : List ℕ) (r : Result RunLog ReportFault) → length text < 2 ^ 32 → Gives (λ log. log) r (bytes_on names report_opening 1 text) → (log : RunLog) → IsWellFormed names log → rendering_of names log ≡ text → GivesUnless faults.NoMemory r log
only_is names sound text r short g log wf e = only_by r log (bytes_on names report_opening 1 text) g (read_again names sound text log short wf e)

-- ---- what goes on

-- lines that are taken go on
goes_on : (names : Texts) → IsNames names → (texts : Texts) (last : ReportState) → texts_taken names report_opening texts ≡ Some last → GoesOn names (lines_joined texts)
goes_on names sound texts last e =
    let ls = lines_are names sound report_opening texts last (opening_stands names) e in
    let c = completed names last ls.stands in
    record {
      log = c.log;
      well_formed = c.good.well_formed;
      counted = c.good.counted;
      rest = lines_text names c.rest;
      whole = rendered names c.log ∙ ap (lines_text names) (c.lines_are ∙ ap (λ x. x ++ c.rest) ls.so_far_is) ∙ lines_text-append names ls.rows_are c.rest
          ∙ ap (λ (x : List ℕ). x ++ lines_text names c.rest) (sym (joined_rows names ls.rows_are) ∙ ap lines_joined (sym ls.texts_are));
    }

-- lines that go on are taken
taken_on : (names : Texts) → IsNames names → (texts : Texts) → AllByRecursion (λ t. lacks 10 t ≡ true) texts → GoesOn names (lines_joined texts) → (last : ReportState) × (texts_taken names report_opening texts ≡ Some last)
taken_on names sound texts lack g =
    let good : IsGood names g.log = record { well_formed = g.well_formed; counted = g.counted } in
    let all : map (line_text names) (log_lines g.log) ≡ texts ++ (lines_of_text g.rest).ended = ap (λ (w : Lines). w.ended) (sym (report_lines names g.log sound good) ∙ ap lines_of_text g.whole ∙ lines_in texts g.rest lack) in
    let f = front_taken names report_opening (at g.log Done) texts (lines_of_text g.rest).ended (ap (texts_taken names report_opening) (sym all) ∙ report_taken names g.log sound good) in
    (f.0, f.1)

take_front : {X : Type 0} (xs ys : List X) (n : ℕ) → n ≡ length xs → take n (xs ++ ys) ≡ xs
take_front xs ys n e = ap (λ k. take k (xs ++ ys)) e ∙ take_first xs ys
  where
    take_first : {X : Type 0} (xs ys : List X) → take (length xs) (xs ++ ys) ≡ xs
    take_first [] ys = refl
    take_first (x ∷ xs) ys = ap (λ zs. x ∷ zs) (take_first xs ys)

-- the front of a text that goes on
goes_by : (names : Texts) (a b : List ℕ) → a ≡ b → GoesOn names a → GoesOn names b
goes_by names a b e g = subst (GoesOn names) e g

goes_shorter : (names : Texts) (a b : List ℕ) → GoesOn names (a ++ b) → GoesOn names a
goes_shorter names a b g = record { log = g.log; well_formed = g.well_formed; counted = g.counted; rest = b ++ g.rest; whole = g.whole ∙ append_assoc a b g.rest }

-- ---- faults

-- a line that may not stand there
stopped_fault : (names : Texts) → IsNames names → (text : List ℕ) → Stopped names report_opening 1 (lines_of_text text).ended (bytes_on names report_opening 1 text) → (n : ℕ) → bytes_on names report_opening 1 text ≡ Err (faults.Syntax n) → FaultAt names text n
stopped_fault names sound text h n e =
    let number : 1 + length h.before ≡ n = fault_number (1 + length h.before) n (sym h.fault_is ∙ e) in
    let ended = (lines_of_text text).ended in
    let size = ap length h.texts_are ∙ length-append h.before (h.text ∷ h.others) in
    let front : take (n - 1) ended ≡ h.before = ap (take (n - 1)) h.texts_are ∙ take_front h.before (h.text ∷ h.others) (n - 1) (omega (arith, number)) in
    let longer = length-append h.before (h.text ∷ []) in
    let here : take n ended ≡ h.before ++ h.text ∷ [] = ap (take n) (h.texts_are ∙ sym (append_assoc h.before (h.text ∷ []) h.others)) ∙ take_front (h.before ++ h.text ∷ []) h.others n (omega (arith, number, longer)) in
    let lack = all_front (λ t. lacks 10 t ≡ true) (h.before ++ h.text ∷ []) h.others (subst (AllByRecursion (λ t. lacks 10 t ≡ true)) (h.texts_are ∙ sym (append_assoc h.before (h.text ∷ []) h.others)) (ended_lack text)) in
    record {
      before = goes_by names (lines_joined h.before) (first_lines (n - 1) text) (ap lines_joined (sym front)) (goes_on names sound h.before h.last h.before_taken);
      here = inl (record {
        some = omega (arith, number);
        ended = omega (arith, number, size);
        stops = λ g. no_more names report_opening h.last h.before h.text h.before_taken h.not_taken (taken_on names sound (h.before ++ h.text ∷ []) lack (goes_by names (first_lines n text) (lines_joined (h.before ++ h.text ∷ [])) (ap lines_joined here) g));
      });
    }
  where
    fault_number : (a b : ℕ) → ◌≡◌ {A = Result RunLog ReportFault} (Err (faults.Syntax a)) (Err (faults.Syntax b)) → a ≡ b
    fault_number a b e = cc

    no_more : (names : Texts) (s last : ReportState) (before : Texts) (text : List ℕ) → texts_taken names s before ≡ Some last → line_taken names last text ≡ None → (next : ReportState) × (texts_taken names s (before ++ text ∷ []) ≡ Some next) → ⊥
    no_more names s last before text e none t =
        let f = front_taken names s t.0 before (text ∷ []) t.1 in
        let here = bind_some _ (λ x. texts_taken names x []) t.0 f.2 in
        let no = sym here.1 ∙ ap (λ s. line_taken names s text) (some_is f.0 last (sym f.1 ∙ e)) ∙ none in
        absurd cc

-- all lines were taken, and the text is no report
ended_fault : (names : Texts) → IsNames names → (text : List ℕ) → length text < 2 ^ 32 → Ended names report_opening 1 (lines_of_text text).ended (lines_of_text text).tail (bytes_on names report_opening 1 text) → (n : ℕ) → bytes_on names report_opening 1 text ≡ Err (faults.Syntax n) → n ≡ max 1 (length (all_lines text)) → FaultAt names text n
ended_fault names sound text short h n e last =
    let ended = (lines_of_text text).ended in
    let front = front_taken names report_opening h.last (take (n - 1) ended) (drop (n - 1) ended) (ap (texts_taken names report_opening) (take-append-drop (n - 1) ended) ∙ h.all_are_taken) in
    record {
      before = goes_on names sound (take (n - 1) ended) front.0 front.1;
      here = inr (record { last = last; none = λ log wf is. no_read (sym (read_again names sound text log short wf is) ∙ e) });
    }
  where
    no_read : {log : RunLog} {n : ℕ} → ◌≡◌ {A = Result RunLog ReportFault} (Ok log) (Err (faults.Syntax n)) → ⊥
    no_read e = cc

-- the number of the last line
ended_number : (count n : ℕ) (log : RunLog) (stage : Stage) → ended_log (last_number (1 + count)) log stage ≡ Err (faults.Syntax n) → n ≡ last_number (1 + count)
ended_number count n log Done e = absurd cc
ended_number count n log stage e = cc

last_is : (count : ℕ) → last_number (1 + count) ≡ max 1 (count + 0)
last_is count = last_step count (nat_lt 1 (1 + count)) refl
  where
    last_step : (count : ℕ) (t : Bool) → nat_lt 1 (1 + count) ≡ t → cond t (1 + count - 1) 1 ≡ max 1 (count + 0)
    last_step count true e = let some : 1 < 1 + count = grind (arith, nat_tests) in omega arith
    last_step count false e = let none : 1 + count ≤ 1 = grind (arith, nat_tests) in omega arith

text_number : (texts : Texts) (tail : List ℕ) (n : ℕ) (s : ReportState) → text_ended (1 + length texts) s tail ≡ Err (faults.Syntax n) → n ≡ max 1 (length (texts ++ as_last_line tail))
text_number texts [] n s e = ended_number (length texts) n s.log s.stage e ∙ last_is (length texts) ∙ ap (max 1) (sym (length-append texts []))
text_number texts (c ∷ tail) n s e = omega (arith, length-append texts ((c ∷ tail) ∷ []), syntax_number (1 + length texts) n e)
  where
    syntax_number : (a b : ℕ) → ◌≡◌ {A = Result RunLog ReportFault} (Err (faults.Syntax a)) (Err (faults.Syntax b)) → a ≡ b
    syntax_number a b e = cc

module _ (names : Texts) (sound : IsNames names) (text : List ℕ) where
  fault_by : length text < 2 ^ 32 → Stopped names report_opening 1 (lines_of_text text).ended (bytes_on names report_opening 1 text) ⊎ Ended names report_opening 1 (lines_of_text text).ended (lines_of_text text).tail (bytes_on names report_opening 1 text) → (n : ℕ) → bytes_on names report_opening 1 text ≡ Err (faults.Syntax n) → FaultAt names text n
  fault_by short (inl h) n e = stopped_fault names sound text h n e
  fault_by short (inr h) n e = ended_fault names sound text short h n e (text_number (lines_of_text text).ended (lines_of_text text).tail n h.last (sym h.end_is ∙ e))

  is_fault : length text < 2 ^ 32 → (n : ℕ) → bytes_on names report_opening 1 text ≡ Err (faults.Syntax n) → FaultAt names text n
  is_fault short n e = fault_by short (ended_or_stopped names report_opening 1 (lines_of_text text).ended (lines_of_text text).tail) n e

  pub fault_is : (r : Result RunLog ReportFault) → length text < 2 ^ 32 → Gives (λ log. log) r (bytes_on names report_opening 1 text) → IfErr r (λ f. FaultOf names text f ⊎ (f ≡ faults.NoMemory))
  fault_is (Ok log) short g = tt
  fault_is (Err (faults.Syntax n)) short g = inl (is_fault short n g)
  fault_is (Err faults.NoMemory) short g = inr refl

-- ---- one fault

take_less : {X : Type 0} (n k : ℕ) (xs : List X) → n ≤ k → take n (take k xs) ≡ take n xs
take_less zero k xs h = refl
take_less (suc n) zero xs h = absurd (omega arith)
take_less (suc n) (suc k) [] h = refl
take_less (suc n) (suc k) (x ∷ xs) h = ap (λ zs. x ∷ zs) (take_less n k xs (omega arith))

module _ (names : Texts) (text : List ℕ) where
  -- fewer lines from the front
  fewer_lines : (n k : ℕ) → n ≤ k → GoesOn names (first_lines k text) → GoesOn names (first_lines n text)
  fewer_lines n k h g =
      let ended = (lines_of_text text).ended in
      let parts : first_lines k text ≡ lines_joined (take n (take k ended)) ++ lines_joined (drop n (take k ended)) = ap lines_joined (sym (take-append-drop n (take k ended))) ∙ joined-append (take n (take k ended)) (drop n (take k ended)) in
      let front : lines_joined (take n (take k ended)) ≡ first_lines n text = ap lines_joined (take_less n k ended h) in
      goes_by names (lines_joined (take n (take k ended))) (first_lines n text) front (goes_shorter names (lines_joined (take n (take k ended))) (lines_joined (drop n (take k ended))) (goes_by names (first_lines k text) _ parts g))

  -- all ended lines of a text that goes on
  all_on : GoesOn names text → GoesOn names (first_lines (length (lines_of_text text).ended) text)
  all_on g =
      let ended = (lines_of_text text).ended in
      goes_by names (lines_joined ended) (first_lines (length ended) text) (ap lines_joined (sym (take_all (length ended) ended (omega arith))))
      (goes_shorter names (lines_joined ended) (lines_of_text text).tail (goes_by names text (lines_joined ended ++ (lines_of_text text).tail) (sym (whole_lines text)) g))

  later_none : (n m : ℕ) → FaultAt names text n → FaultAt names text m → n < m → ⊥
  later_none n m f g h = by_here f.here g.here
    where
      shorter : (xs ys : Texts) → length xs ≤ length (xs ++ ys)
      shorter xs ys = let all = length-append xs ys in omega arith

      by_here : StopsAt names text n ⊎ EndsAt names text n → StopsAt names text m ⊎ EndsAt names text m → ⊥
      by_here (inl s) k = s.stops (fewer_lines n (m - 1) (omega (arith, h)) g.before)
      by_here (inr e) (inl s) = let all = shorter (lines_of_text text).ended (as_last_line (lines_of_text text).tail) in omega (arith, e.last, s.ended, all, h)
      by_here (inr e) (inr d) = omega (arith, e.last, d.last, h)

  one_fault : (n m : ℕ) → FaultAt names text n → FaultAt names text m → n ≡ m
  one_fault n m f g = same_by (λ h. later_none n m f g h) (λ h. later_none m n g f h)
    where
      same_by : (n < m → ⊥) → (m < n → ⊥) → n ≡ m
      same_by a b = omega arith

module _ (names : Texts) (sound : IsNames names) (text : List ℕ) where
  -- a report has no fault
  no_fault : (log : RunLog) → length text < 2 ^ 32 → IsRead names text log → (n : ℕ) → FaultAt names text n → ⊥
  no_fault log short h n f = by_here f.here
    where
      whole_on : GoesOn names text
      whole_on = record { log = log; well_formed = h.good.well_formed; counted = h.good.counted; rest = []; whole = h.whole ∙ sym (append-nil text) }

      by_here : StopsAt names text n ⊎ EndsAt names text n → ⊥
      by_here (inl s) = s.stops (fewer_lines names text n (length (lines_of_text text).ended) s.ended (all_on names text whole_on))
      by_here (inr e) = e.none log h.good.well_formed h.whole

  pub refused_is : (r : Result RunLog ReportFault) → length text < 2 ^ 32 → Gives (λ log. log) r (bytes_on names report_opening 1 text) → (f : ReportFault) → FaultOf names text f → RefusesUnless faults.NoMemory r f
  refused_is (Ok log) short g (faults.Syntax n) h = no_fault log short (is_read names sound text log g) n h
  refused_is (Ok log) short g faults.NoMemory h = h
  refused_is (Err (faults.Syntax m)) short g (faults.Syntax n) h = inl (ap (λ k. faults.Syntax k) (one_fault names text m n (is_fault names sound text short m g) h))
  refused_is (Err (faults.Syntax m)) short g faults.NoMemory h = absurd h
  refused_is (Err faults.NoMemory) short g f h = inr refl
