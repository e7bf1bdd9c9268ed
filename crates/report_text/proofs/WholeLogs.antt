-- The lines of a log are taken, one after another, and leave that log; its rendering is their text.
use Rattle.report_text.proofs.Common.{◌≡◌, ℕ, ◌+◌, List, [], ◌∷◌, ◌++◌, refl, sym, ap, ◌∙◌, append_assoc, ◌≢◌, ◌<◌, true, false, cond, ◌==◌}
use Rattle.report_text.proofs.Common.{not, nat_lt, length, Option, Some, Texts, None, is_some, arith, append-nil, length-append, map, flat_map}
use Rattle.report_text.proofs.Common.{AllByRecursion, and_from, nat_tests, Decides-eqb}
use Rattle.report_text.proofs.Types.{Line, Span, ProcessLog, Snapshot, RunLog, ReportLine, Mfa, End, Entry}
use Rattle.report_text.proofs.Types.{Stage, Entries, Processes, Process, Observer, Done, ReportState}
use Rattle.report_text.proofs.Logs.{published_count, publishes, line_of, entry_text, shown_text, span_text, process_text, processes_text}
use Rattle.report_text.proofs.Logs.{export_text, snapshot_text, observer_text, observers_text, rendering_of, AreApart, AreWhole, count-cons}
use Rattle.report_text.proofs.Forms.{line_text, span_lines, process_lines, processes_lines, export_line}
use Rattle.report_text.proofs.Forms.{snapshot_lines, observer_lines, observers_lines, log_lines, lines_text}
use Rattle.report_text.proofs.Texts.{some, bind_at, passed, failed}
use Rattle.report_text.specs.Taking.{at, empty_log, report_opening, count_after, with_entry, may_begin, process_begun, with_going, spans_closed}
use Rattle.report_text.specs.Taking.{span_may_follow, with_line, with_process, with_observer, observers_closed, with_export, taken, all_taken}
use Rattle.report_text.specs.declared.line.ReportLine.TheVariants as lines
use Rattle.machine_core.specs.declared.process.Line.TheVariants as shown

pub lines_text-append : (names : Texts) (xs ys : List ReportLine) → lines_text names (xs ++ ys) ≡ lines_text names xs ++ lines_text names ys
lines_text-append names [] ys = refl
lines_text-append names (x ∷ xs) ys =
    ap (λ (t : List ℕ). line_text names x ++ 10 ∷ t) (lines_text-append names xs ys) ∙ sym (append_assoc (line_text names x) (10 ∷ lines_text names xs) (lines_text names ys))

-- one line, and more
line_first : (text rest : List ℕ) → line_of text ++ rest ≡ text ++ 10 ∷ rest
line_first text rest = append_assoc text (10 ∷ []) rest

-- what is mapped
texts_of : {X : Type 0} (names : Texts) (text : X → List ℕ) (rows : X → List ReportLine) → ((x : X) → text x ≡ lines_text names (rows x)) → (xs : List X) → flat_map text xs ≡ lines_text names (flat_map rows xs)
texts_of names text rows one [] = refl
texts_of names text rows one (x ∷ xs) = ap (λ (t : List ℕ). t ++ flat_map text xs) (one x) ∙ ap (λ (t : List ℕ). lines_text names (rows x) ++ t) (texts_of names text rows one xs) ∙ sym (lines_text-append names (rows x) (flat_map rows xs))

texts_mapped : {X : Type 0} (names : Texts) (text : X → List ℕ) (row : X → ReportLine) → ((x : X) → text x ≡ line_of (line_text names (row x))) → (xs : List X) → flat_map text xs ≡ lines_text names (map row xs)
texts_mapped names text row one [] = refl
texts_mapped names text row one (x ∷ xs) =
    ap (λ (t : List ℕ). t ++ flat_map text xs) (one x) ∙ line_first (line_text names (row x)) (flat_map text xs) ∙ ap (λ (t : List ℕ). line_text names (row x) ++ 10 ∷ t) (texts_mapped names text row one xs)

module _ (names : Texts) where
  shown_is : (line : Line) → shown_text names line ≡ line_of (line_text names (lines.Shown line))
  shown_is (shown.Print term) = refl
  shown_is (shown.Trace to args) = refl

  span_is : (span : Span) → span_text names span ≡ lines_text names (span_lines span)
  span_is span =
      line_first (line_text names (lines.Span span.generation span.turns)) (flat_map (shown_text names) span.lines)
      ∙ ap (λ (t : List ℕ). line_text names (lines.Span span.generation span.turns) ++ 10 ∷ t) (texts_mapped names (shown_text names) (λ line. lines.Shown line) shown_is span.lines)

  process_said : (number : ℕ) (log : ProcessLog) → process_text names number log ≡ lines_text names (process_lines number log)
  process_said number log =
      let first = line_text names (lines.Process number log.target log.args) in
      let last = line_text names (lines.End log.fin) in
      let spans = texts_of names (span_text names) span_lines span_is log.spans in
      append_assoc (line_of first) (flat_map (span_text names) log.spans) (line_of last)
      ∙ line_first first (flat_map (span_text names) log.spans ++ line_of last)
      ∙ ap (λ (t : List ℕ). first ++ 10 ∷ (t ++ line_of last)) spans
      ∙ ap (λ (t : List ℕ). first ++ 10 ∷ t) (sym (lines_text-append names (flat_map span_lines log.spans) (lines.End log.fin ∷ [])))

  processes_said : (number : ℕ) (logs : List ProcessLog) → processes_text names number logs ≡ lines_text names (processes_lines number logs)
  processes_said number [] = refl
  processes_said number (log ∷ logs) =
      ap (λ (t : List ℕ). t ++ processes_text names (number + 1) logs) (process_said number log)
      ∙ ap (λ (t : List ℕ). lines_text names (process_lines number log) ++ t) (processes_said (number + 1) logs)
      ∙ sym (lines_text-append names (process_lines number log) (processes_lines (number + 1) logs))

  snapshot_is : (shot : Snapshot) → snapshot_text names shot ≡ lines_text names (snapshot_lines shot)
  snapshot_is shot =
      line_first (line_text names (lines.Snapshot shot.generation)) (flat_map (export_text names) shot.exports)
      ∙ ap (λ (t : List ℕ). line_text names (lines.Snapshot shot.generation) ++ 10 ∷ t) (texts_mapped names (export_text names) export_line (λ x. refl) shot.exports)

  observer_is : (number : ℕ) (shots : List Snapshot) → observer_text names number shots ≡ lines_text names (observer_lines number shots)
  observer_is number shots =
      line_first (line_text names (lines.Observer number)) (flat_map (snapshot_text names) shots)
      ∙ ap (λ (t : List ℕ). line_text names (lines.Observer number) ++ 10 ∷ t) (texts_of names (snapshot_text names) snapshot_lines snapshot_is shots)

  observers_said : (number : ℕ) (observers : List (List Snapshot)) → observers_text names number observers ≡ lines_text names (observers_lines number observers)
  observers_said number [] = refl
  observers_said number (shots ∷ observers) =
      ap (λ (t : List ℕ). t ++ observers_text names (number + 1) observers) (observer_is number shots)
      ∙ ap (λ (t : List ℕ). lines_text names (observer_lines number shots) ++ t) (observers_said (number + 1) observers)
      ∙ sym (lines_text-append names (observer_lines number shots) (observers_lines (number + 1) observers))

-- parts grouped from the front
six_parts : (a b c d e f : List ℕ) → ((((a ++ b) ++ c) ++ d) ++ e) ++ f ≡ a ++ (b ++ (c ++ (d ++ (e ++ f))))
six_parts a b c d e f = simp append_assoc

-- the rendering of a log is the text of its lines
pub rendered : (names : Texts) (log : RunLog) → rendering_of names log ≡ lines_text names (log_lines log)
rendered names log =
    let first = line_text names lines.Head in
    let count = line_text names (lines.Generations (published_count log.journal)) in
    let es = texts_mapped names (entry_text names) (λ e. lines.Entry e) (λ e. refl) log.journal in
    let ps = processes_said names 0 log.processes in
    let os = observers_said names 0 log.observers in
    let last = line_of (line_text names lines.Close) in
    six_parts (line_of first) (line_of count) (flat_map (entry_text names) log.journal) (processes_text names 0 log.processes) (observers_text names 0 log.observers) last
    ∙ line_first first (line_of count ++ (flat_map (entry_text names) log.journal ++ (processes_text names 0 log.processes ++ (observers_text names 0 log.observers ++ last))))
    ∙ ap (λ (t : List ℕ). first ++ 10 ∷ t) (line_first count (flat_map (entry_text names) log.journal ++ (processes_text names 0 log.processes ++ (observers_text names 0 log.observers ++ last))))
    ∙ ap (λ (t : List ℕ). first ++ 10 ∷ (count ++ 10 ∷ t)) (ap (λ (t : List ℕ). t ++ (processes_text names 0 log.processes ++ (observers_text names 0 log.observers ++ last))) es
    ∙ ap (λ (t : List ℕ). lines_text names (map (λ e. lines.Entry e) log.journal) ++ t) (ap (λ (t : List ℕ). t ++ (observers_text names 0 log.observers ++ last)) ps
    ∙ ap (λ (t : List ℕ). lines_text names (processes_lines 0 log.processes) ++ t) (ap (λ (t : List ℕ). t ++ last) os ∙ sym (lines_text-append names (observers_lines 0 log.observers) (lines.Close ∷ [])))
    ∙ sym (lines_text-append names (processes_lines 0 log.processes) (observers_lines 0 log.observers ++ lines.Close ∷ [])))
    ∙ sym (lines_text-append names (map (λ e. lines.Entry e) log.journal) (processes_lines 0 log.processes ++ (observers_lines 0 log.observers ++ lines.Close ∷ []))))

-- ---- the lines of a log are taken, one after another, and leave that log

-- ---- entries

-- how many generations an entry with this publishes
abbrev if_published : Option ℕ → ℕ
if_published p = cond (is_some p) 1 0

no_zero : (left more : ℕ) → left ≡ 1 + more → (left == 0) ≡ false
no_zero left more e = grind (arith, nat_tests)

count_at : (left : ℕ) (p : Option ℕ) (more : ℕ) → left ≡ if_published p + more → count_after left p ≡ Some more
count_at left None more e = ap (λ n. some n) (omega arith)
count_at left (Some g) more e = failed _ None _ (no_zero left more e) ∙ ap (λ n. some n) (omega arith)

entry_taken_at : (log : RunLog) (left more : ℕ) (e : Entry) → left ≡ publishes e + more → taken (at log (Entries left)) (lines.Entry e) ≡ Some (at (with_entry log e) (Entries more))
entry_taken_at log left more e h = bind_at _ (λ n. Some (at (with_entry log e) (Entries n))) more _ (count_at left e.published more h) refl

-- a log with these entries too
abbrev with_entries : RunLog → List Entry → RunLog
with_entries log es = record log { journal = log.journal ++ es }

entries_are : (log : RunLog) (left more : ℕ) (es : List Entry) (rest : List ReportLine) → left ≡ published_count es + more → all_taken (at log (Entries left)) (map (λ e. lines.Entry e) es ++ rest) ≡ all_taken (at (with_entries log es) (Entries more)) rest
entries_are log left more [] rest h =
    let none : published_count [] ≡ 0 = refl in
    let same : left ≡ more = omega (arith, h, none) in
    ap (λ n. all_taken (at log (Entries n)) rest) same ∙ ap (λ es. all_taken (at (record log { journal = es }) (Entries more)) rest) (sym (append-nil log.journal))
entries_are log left more (e ∷ es) rest h =
    let count = count-cons e es in
    bind_at (taken (at log (Entries left)) (lines.Entry e)) (λ next. all_taken next (map (λ e. lines.Entry e) es ++ rest)) (at (with_entry log e) (Entries (published_count es + more))) (all_taken (at (with_entries log (e ∷ es)) (Entries more)) rest)
    (entry_taken_at log left (published_count es + more) e (omega (arith, h, count)))
    (entries_are (with_entry log e) (published_count es + more) more es rest refl
    ∙ ap (λ js. all_taken (at (record log { journal = js }) (Entries more)) rest) (append_assoc log.journal (e ∷ []) es))

-- ---- processes

lines_are : (log : RunLog) (process : ProcessLog) (span : Span) (made : List Line) (rest : List ReportLine) → all_taken (at log (Process process (Some span))) (map (λ l. lines.Shown l) made ++ rest) ≡ all_taken (at log (Process process (Some (record span { lines = span.lines ++ made })))) rest
lines_are log process span [] rest = ap (λ ls. all_taken (at log (Process process (Some (record span { lines = ls })))) rest) (sym (append-nil span.lines))
lines_are log process span (l ∷ made) rest =
    lines_are log process (with_line span l) made rest ∙ ap (λ ls. all_taken (at log (Process process (Some (record span { lines = ls })))) rest) (append_assoc span.lines (l ∷ []) made)

-- spans behind the one that went on
abbrev AreBehind : Option Span → List Span → Type 0
AreBehind None spans = AreApart spans
AreBehind (Some span) spans = AreApart (span ∷ spans)

positive : (n : ℕ) → 0 < n → nat_lt 0 n ≡ true
positive n h = grind (arith, nat_tests)

differs : (a b : ℕ) → a ≢ b → not (a == b) ≡ true
differs a b h = grind (arith, nat_tests)

follows : (going : Option Span) (span : Span) (spans : List Span) → 0 < span.turns → AreBehind going (span ∷ spans) → span_may_follow going span.generation span.turns ≡ true
follows None span spans h apart = positive span.turns h
follows (Some before) span spans h apart = and_from _ _ (positive span.turns h) (differs _ _ apart.0)

behind_it : (going : Option Span) (span : Span) (spans : List Span) → AreBehind going (span ∷ spans) → AreApart (span ∷ spans)
behind_it None span spans apart = apart
behind_it (Some before) span spans apart = apart.1

span_begins : (log : RunLog) (process : ProcessLog) (going : Option Span) (span : Span) → span_may_follow going span.generation span.turns ≡ true → taken (at log (Process process going)) (lines.Span span.generation span.turns) ≡ Some (at log (Process (spans_closed process going) (Some (record { generation = span.generation; turns = span.turns; lines = [] }))))
span_begins log process going span h = passed (span_may_follow going span.generation span.turns) (some (at log (Process (spans_closed process going) (Some (record { generation = span.generation; turns = span.turns; lines = [] }))))) None h

regroup : {X : Type 0} (a b c : List X) → (a ++ b) ++ c ≡ a ++ (b ++ c)
regroup a b c = append_assoc a b c

-- the process with these spans too, ended so
abbrev all_spans : ProcessLog → Option Span → List Span → End → ProcessLog
all_spans process going spans fin = record process { spans = with_going process.spans going ++ spans; fin = fin }

spans_are : (log : RunLog) (process : ProcessLog) (going : Option Span) (spans : List Span) (fin : End) (rest : List ReportLine) → AllByRecursion (λ span. 0 < span.turns) spans → AreBehind going spans → all_taken (at log (Process process going)) (flat_map span_lines spans ++ lines.End fin ∷ rest) ≡ all_taken (at (with_process log (all_spans process going spans fin)) Processes) rest
spans_are log process going [] fin rest turns apart = ap (λ ss. all_taken (at (with_process log (record process { spans = ss; fin = fin })) Processes) rest) (sym (append-nil (with_going process.spans going)))
spans_are log process going (span ∷ spans) fin rest turns apart =
    let more = flat_map span_lines spans ++ lines.End fin ∷ rest in
    let shown = map (λ l. lines.Shown l) span.lines in
    ap (λ ls. all_taken (at log (Process process going)) (lines.Span span.generation span.turns ∷ ls)) (regroup shown (flat_map span_lines spans) (lines.End fin ∷ rest))
    ∙ bind_at _ (λ next. all_taken next (shown ++ more)) _ _ (span_begins log process going span (follows going span spans turns.0 apart))
    (lines_are log (spans_closed process going) (record { generation = span.generation; turns = span.turns; lines = [] }) span.lines more)
    ∙ spans_are log (spans_closed process going) (Some span) spans fin rest turns.1 (behind_it going span spans apart)
    ∙ ap (λ ss. all_taken (at (with_process log (record process { spans = ss; fin = fin })) Processes) rest) (append_assoc (with_going process.spans going) (span ∷ []) spans)

module _ (log : RunLog) (stage : Stage) (number : ℕ) (process : ProcessLog) where
  begins : may_begin stage ≡ true → number ≡ length log.processes → taken (at log stage) (lines.Process number process.target process.args) ≡ Some (at log (Process (process_begun process.target process.args) None))
  begins h e =
      passed (may_begin stage) _ None h ∙ passed (number == length log.processes) (some (at log (Process (process_begun process.target process.args) None))) None ((Decides-eqb number (length log.processes)).1 e)

  process_is : (rest : List ReportLine) → may_begin stage ≡ true → number ≡ length log.processes → AreWhole process.spans → all_taken (at log stage) (process_lines number process ++ rest) ≡ all_taken (at (with_process log process) Processes) rest
  process_is rest h e whole =
      bind_at _ (λ next. all_taken next ((flat_map span_lines process.spans ++ lines.End process.fin ∷ []) ++ rest)) _ _ (begins h e)
      (ap (all_taken (at log (Process (process_begun process.target process.args) None))) (regroup (flat_map span_lines process.spans) (lines.End process.fin ∷ []) rest)
      ∙ spans_are log (process_begun process.target process.args) None process.spans process.fin rest whole.turns whole.apart)

abbrev with_processes : RunLog → List ProcessLog → RunLog
with_processes log ps = record log { processes = log.processes ++ ps }

processes_are : (log : RunLog) (stage : Stage) (number : ℕ) (ps : List ProcessLog) (rest : List ReportLine) (r : Option ReportState) → may_begin stage ≡ true → number ≡ length log.processes → AllByRecursion (λ p. AreWhole p.spans) ps → ((last : Stage) → may_begin last ≡ true → all_taken (at (with_processes log ps) last) rest ≡ r) → all_taken (at log stage) (processes_lines number ps ++ rest) ≡ r
processes_are log stage number [] rest r h e whole more = ap (λ ps. all_taken (at (record log { processes = ps }) stage) rest) (sym (append-nil log.processes)) ∙ more stage h
processes_are log stage number (p ∷ ps) rest r h e whole more =
    ap (all_taken (at log stage)) (regroup (process_lines number p) (processes_lines (number + 1) ps) rest)
    ∙ process_is log stage number p (processes_lines (number + 1) ps ++ rest) h e whole.0
    ∙ processes_are (with_process log p) Processes (number + 1) ps rest r refl (omega (arith, length-append log.processes (p ∷ []))) whole.1
    (λ last k. ap (λ qs. all_taken (at (record log { processes = qs }) last) rest) (append_assoc log.processes (p ∷ []) ps) ∙ more last k)

-- ---- observers

exports_are : (log : RunLog) (shots : List Snapshot) (shot : Snapshot) (exports : List (Mfa × ℕ)) (rest : List ReportLine) → all_taken (at log (Observer shots (Some shot))) (map export_line exports ++ rest) ≡ all_taken (at log (Observer shots (Some (record shot { exports = shot.exports ++ exports })))) rest
exports_are log shots shot [] rest = ap (λ es. all_taken (at log (Observer shots (Some (record shot { exports = es })))) rest) (sym (append-nil shot.exports))
exports_are log shots shot (x ∷ exports) rest =
    exports_are log shots (with_export shot x.0 x.1) exports rest ∙ ap (λ es. all_taken (at log (Observer shots (Some (record shot { exports = es })))) rest) (append_assoc shot.exports (x ∷ []) exports)

shots_are : (log : RunLog) (shots : List Snapshot) (going : Option Snapshot) (more : List Snapshot) (rest : List ReportLine) (r : Option ReportState) → ((ss : List Snapshot) (g : Option Snapshot) → with_going ss g ≡ with_going shots going ++ more → all_taken (at log (Observer ss g)) rest ≡ r) → all_taken (at log (Observer shots going)) (flat_map snapshot_lines more ++ rest) ≡ r
shots_are log shots going [] rest r k = k shots going (sym (append-nil (with_going shots going)))
shots_are log shots going (shot ∷ more) rest r k =
    ap (λ ls. all_taken (at log (Observer shots going)) (lines.Snapshot shot.generation ∷ ls)) (regroup (map export_line shot.exports) (flat_map snapshot_lines more) rest)
    ∙ exports_are log (with_going shots going) (record { generation = shot.generation; exports = [] }) shot.exports (flat_map snapshot_lines more ++ rest)
    ∙ shots_are log (with_going shots going) (Some shot) more rest r (λ ss g e. k ss g (e ∙ append_assoc (with_going shots going) (shot ∷ []) more))

abbrev with_observers : RunLog → List (List Snapshot) → RunLog
with_observers log obs = record log { observers = log.observers ++ obs }

closes : (log : RunLog) (stage : Stage) (closed : RunLog) → observers_closed log stage ≡ Some closed → all_taken (at log stage) (lines.Close ∷ []) ≡ Some (at closed Done)
closes log stage closed h = bind_at _ (λ next. all_taken next []) _ _ (bind_at _ (λ c. Some (at c Done)) _ _ h refl) refl

observer_begins : (log : RunLog) (stage : Stage) (closed : RunLog) (number : ℕ) → observers_closed log stage ≡ Some closed → number ≡ length closed.observers → taken (at log stage) (lines.Observer number) ≡ Some (at closed (Observer [] None))
observer_begins log stage closed number h e =
    bind_at _ (λ c. cond (number == length c.observers) (Some (at c (Observer [] None))) None) _ _ h
    (passed (number == length closed.observers) (some (at closed (Observer [] None))) None ((Decides-eqb number (length closed.observers)).1 e))

observers_are : (log : RunLog) (stage : Stage) (closed : RunLog) (number : ℕ) (obs : List (List Snapshot)) → observers_closed log stage ≡ Some closed → number ≡ length closed.observers → all_taken (at log stage) (observers_lines number obs ++ lines.Close ∷ []) ≡ Some (at (with_observers closed obs) Done)
observers_are log stage closed number [] h e = closes log stage closed h ∙ ap (λ os. some (at (record closed { observers = os }) Done)) (sym (append-nil closed.observers))
observers_are log stage closed number (shots ∷ obs) h e =
    let later = observers_lines (number + 1) obs ++ lines.Close ∷ [] in
    let longer = length-append closed.observers (shots ∷ []) in
    ap (λ ls. all_taken (at log stage) (lines.Observer number ∷ ls)) (regroup (flat_map snapshot_lines shots) (observers_lines (number + 1) obs) (lines.Close ∷ []))
    ∙ bind_at _ (λ next. all_taken next (flat_map snapshot_lines shots ++ later)) _ _ (observer_begins log stage closed number h e)
    (shots_are closed [] None shots later (some (at (with_observers closed (shots ∷ obs)) Done))
    (λ ss g same. observers_are closed (Observer ss g) (with_observer closed shots) (number + 1) obs (ap (λ x. some (with_observer closed x)) same) (omega arith)
    ∙ ap (λ os. some (at (record closed { observers = os }) Done)) (append_assoc closed.observers (shots ∷ []) obs)))

-- ---- a whole log

begun_closed : (log : RunLog) (stage : Stage) → may_begin stage ≡ true → observers_closed log stage ≡ Some log
begun_closed log (Entries left) h = passed (left == 0) (some log) None h
begun_closed log Processes h = refl
begun_closed log stage h = absurd cc

-- the lines of a log leave it
pub log_taken : (log : RunLog) → AllByRecursion (λ p. AreWhole p.spans) log.processes → all_taken report_opening (log_lines log) ≡ Some (at log Done)
log_taken log whole =
    let rest = observers_lines 0 log.observers ++ lines.Close ∷ [] in
    entries_are empty_log (published_count log.journal) 0 log.journal (processes_lines 0 log.processes ++ rest) (omega arith)
    ∙ processes_are (with_entries empty_log log.journal) (Entries 0) 0 log.processes rest (some (at log Done)) refl refl whole
    (λ last h. observers_are (with_processes (with_entries empty_log log.journal) log.processes) last (with_processes (with_entries empty_log log.journal) log.processes) 0 log.observers (begun_closed (with_processes (with_entries empty_log log.journal) log.processes) last h) refl)
