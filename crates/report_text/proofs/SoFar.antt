-- The lines that a state has taken, and what is known of its log: each line that is taken keeps both, and each state can be completed.
use Rattle.std.proofs.Common.{◌≡◌, ◌≢◌, ℕ, zero, suc, ◌+◌, ◌-◌, ◌^◌, ◌<◌, Bool, true, false, cond, ◌==◌, not, nat_lt, List, [], ◌∷◌, ◌++◌, length}
use Rattle.std.proofs.Common.{Option, Some, None, is_some, IfSome, refl, sym, ap, ◌∙◌, subst, arith, append_assoc, append-nil, length-append}
use Rattle.report_text.proofs.Common.{map, AllByRecursion, flat_map, and_parts, nat_tests, Decides-eqb, flat_map-append, map-append, Texts}
use Rattle.std.proofs.lemmas.List.Sums.{sum-map, sum_by-append, sum_by-cons}
use Rattle.report_text.proofs.Types.{Mfa, Line, End, Runtime, Entry, Span, ProcessLog, Snapshot, RunLog, ReportLine, Stage, Head, Count, Entries}
use Rattle.report_text.proofs.Types.{Processes, Process, Observer, Done, ReportState}
use Rattle.report_text.proofs.Texts.{PlainTerm, ◌>>=◌, some, some_is, bind_some, guarded, guard_some, each_append, all_front}
use Rattle.machine_core.specs.declared.process.End.TheVariants.{Normal}
use Rattle.report_text.proofs.Logs.{publishes, published_count, AreApart, IsWide, IsEntryOf, IsProcessOf, IsSnapshotOf, IsSpanOf, IsLineOf, IsCallOf}
use Rattle.report_text.proofs.Logs.{IsEndOf, IsExportOf, IsFunctionOf, IsWellFormed}
use Rattle.run_log.proofs.ApartSpans.{apart_more, apart_cut, last_is}
use Rattle.report_text.proofs.Forms.{IsReportLine, span_lines, process_lines, processes_lines, export_line}
use Rattle.report_text.proofs.Forms.{snapshot_lines, observer_lines, observers_lines, log_lines, AreCounted}
use Rattle.report_text.specs.Taking.{at, empty_log, report_opening, count_after, with_entry, may_begin, process_begun, process_behind, with_going}
use Rattle.report_text.specs.Taking.{spans_closed, span_may_follow, with_line, shown_in, process_ended, with_process, shots_closed, observers_closed}
use Rattle.report_text.specs.Taking.{observer_behind, with_export, export_in, head_taken, count_taken, entry_taken, process_taken}
use Rattle.report_text.specs.Taking.{span_taken, shown_taken, end_taken, observer_taken, snapshot_taken, export_taken, close_taken, taken}
use Rattle.report_text.specs.declared.line.ReportLine.TheVariants as lines
use Rattle.server_core.specs.declared.command.Cmd.TheVariants as cmds
use Rattle.server_core.specs.declared.command.Reply.TheVariants as replies

-- ---- the lines so far

-- the head, a count, and these lines
abbrev headed : ℕ → List ReportLine → List ReportLine
headed count more = lines.Head ∷ lines.Generations count ∷ more

abbrev entry_lines : List Entry → List ReportLine
entry_lines es = map (λ e. lines.Entry e) es

-- the lines of a log that has no observers, and more
abbrev with_processes : RunLog → List ReportLine → List ReportLine
with_processes log more = headed (published_count log.journal) (entry_lines log.journal ++ (processes_lines 0 log.processes ++ more))

-- the lines of a log, and more
abbrev with_observers : RunLog → List ReportLine → List ReportLine
with_observers log more = with_processes log (observers_lines 0 log.observers ++ more)

-- the lines of a process that has not ended
abbrev begun_lines : ℕ → ProcessLog → Option Span → List ReportLine
begun_lines number process going = lines.Process number process.target process.args ∷ flat_map span_lines (with_going process.spans going)

-- the lines that were taken
abbrev stage_lines : RunLog → Stage → List ReportLine
stage_lines log Head = []
stage_lines log Count = lines.Head ∷ []
stage_lines log (Entries left) = headed (published_count log.journal + left) (entry_lines log.journal)
stage_lines log Processes = with_processes log []
stage_lines log (Process process going) = with_processes log (begun_lines (length log.processes) process going)
stage_lines log (Observer shots going) = with_observers log (observer_lines (length log.observers) (with_going shots going))
stage_lines log Done = log_lines log

abbrev pub so_far : ReportState → List ReportLine
so_far s = stage_lines s.log s.stage

-- ---- what is known of a state

-- a log that can be written, with its counts
pub record IsGood (names : Texts) (log : RunLog) : Type 0 where
  pub well_formed : IsWellFormed names log
  pub counted : AreCounted log

-- among the entries
pub record HasEntries (names : Texts) (log : RunLog) (left : ℕ) : Type 0 where
  well_formed : IsWellFormed names log
  count : published_count log.journal + left < 2 ^ 64
  no_processes : log.processes ≡ []
  no_observers : log.observers ≡ []

-- among the processes
pub record HasProcesses (names : Texts) (log : RunLog) : Type 0 where
  good : IsGood names log
  no_observers : log.observers ≡ []

-- where no span goes on, there was none
abbrev IsFirst : List Span → Option Span → Type 0
IsFirst spans None = spans ≡ []
IsFirst spans (Some span) = Unit {0}

-- in a process
pub record InProcess (names : Texts) (log : RunLog) (process : ProcessLog) (going : Option Span) : Type 0 where
  good : IsGood names log
  no_observers : log.observers ≡ []
  process_is : IsProcessOf names (spans_closed process going)
  room : length log.processes < 2 ^ 64
  first : IsFirst process.spans going

-- in an observer
pub record InObserver (names : Texts) (log : RunLog) (shots : List Snapshot) (going : Option Snapshot) : Type 0 where
  good : IsGood names log
  shots_are : AllByRecursion (IsSnapshotOf names) (with_going shots going)
  room : length log.observers < 2 ^ 64

abbrev StageStands : Texts → RunLog → Stage → Type 0
StageStands names log Head = log ≡ empty_log
StageStands names log Count = log ≡ empty_log
StageStands names log (Entries left) = HasEntries names log left
StageStands names log Processes = HasProcesses names log
StageStands names log (Process process going) = InProcess names log process going
StageStands names log (Observer shots going) = InObserver names log shots going
StageStands names log Done = IsGood names log

abbrev pub Stands : Texts → ReportState → Type 0
Stands names s = StageStands names s.log s.stage

-- a line was taken
pub record IsTaken (names : Texts) (s : ReportState) (l : ReportLine) (next : ReportState) : Type 0 where
  pub stands : Stands names next
  pub lines_are : so_far next ≡ so_far s ++ l ∷ []

-- what no stage takes
no_state : {P : Type 0} (next : ReportState) → ◌≡◌ {A = Option ReportState} None (Some next) → P
no_state next e = absurd cc

-- ---- parts of lists

all_more : {X : Type 0} (P : X → Type 0) (xs : List X) (x : X) → AllByRecursion P xs → P x → AllByRecursion P (xs ++ x ∷ [])
all_more P xs x h k = each_append P xs (x ∷ []) h (k, tt)

all_last : {X : Type 0} (P : X → Type 0) (xs : List X) (x : X) → AllByRecursion P (xs ++ x ∷ []) → P x
all_last P [] x h = h.0
all_last P (y ∷ xs) x h = all_last P xs x h.1

-- three lists in a row, the last of which grows
group_behind : {X : Type 0} (a b : List X) (x : X) → a ++ (b ++ x ∷ []) ≡ (a ++ b) ++ x ∷ []
group_behind a b x = sym (append_assoc a b (x ∷ []))

with_processes_more : (log : RunLog) (more : List ReportLine) (l : ReportLine) → with_processes log (more ++ l ∷ []) ≡ with_processes log more ++ l ∷ []
with_processes_more log more l =
    ap (λ ls. headed (published_count log.journal) (entry_lines log.journal ++ ls)) (group_behind (processes_lines 0 log.processes) more l)
    ∙ ap (λ ls. headed (published_count log.journal) ls) (group_behind (entry_lines log.journal) (processes_lines 0 log.processes ++ more) l)

with_observers_more : (log : RunLog) (more : List ReportLine) (l : ReportLine) → with_observers log (more ++ l ∷ []) ≡ with_observers log more ++ l ∷ []
with_observers_more log more l = ap (with_processes log) (group_behind (observers_lines 0 log.observers) more l) ∙ with_processes_more log (observers_lines 0 log.observers ++ more) l

-- one more process, or observer
processes_lines-more : (number : ℕ) (ps : List ProcessLog) (p : ProcessLog) (more : List ReportLine) (last : ℕ) → last ≡ number + length ps → processes_lines number (ps ++ p ∷ []) ++ more ≡ processes_lines number ps ++ (process_lines last p ++ more)
processes_lines-more number [] p more last e = ap (λ ls. ls ++ more) (append-nil (process_lines number p)) ∙ ap (λ n. process_lines n p ++ more) (omega arith)
processes_lines-more number (q ∷ ps) p more last e =
    append_assoc (process_lines number q) (processes_lines (number + 1) (ps ++ p ∷ [])) more
    ∙ ap (λ ls. process_lines number q ++ ls) (processes_lines-more (number + 1) ps p more last (omega arith))
    ∙ sym (append_assoc (process_lines number q) (processes_lines (number + 1) ps) (process_lines last p ++ more))

observers_lines-more : (number : ℕ) (obs : List (List Snapshot)) (shots : List Snapshot) (more : List ReportLine) (last : ℕ) → last ≡ number + length obs → observers_lines number (obs ++ shots ∷ []) ++ more ≡ observers_lines number obs ++ (observer_lines last shots ++ more)
observers_lines-more number [] shots more last e = ap (λ ls. ls ++ more) (append-nil (observer_lines number shots)) ∙ ap (λ n. observer_lines n shots ++ more) (omega arith)
observers_lines-more number (o ∷ obs) shots more last e =
    append_assoc (observer_lines number o) (observers_lines (number + 1) (obs ++ shots ∷ [])) more
    ∙ ap (λ ls. observer_lines number o ++ ls) (observers_lines-more (number + 1) obs shots more last (omega arith))
    ∙ sym (append_assoc (observer_lines number o) (observers_lines (number + 1) obs) (observer_lines last shots ++ more))

-- the last of what is flat grows
flat_last : {X : Type 0} (f : X → List ReportLine) (xs : List X) (x y : X) (l : ReportLine) → f y ≡ f x ++ l ∷ [] → flat_map f (xs ++ y ∷ []) ≡ flat_map f (xs ++ x ∷ []) ++ l ∷ []
flat_last f xs x y l e =
    flat_map-append f xs (y ∷ []) ∙ ap (λ ls. flat_map f xs ++ ls) (append-nil (f y) ∙ e ∙ ap (λ ls. ls ++ l ∷ []) (sym (append-nil (f x))))
    ∙ group_behind (flat_map f xs) (flat_map f (x ∷ [])) l ∙ ap (λ ls. ls ++ l ∷ []) (sym (flat_map-append f xs (x ∷ [])))

-- one more at the end of what is flat
flat_more : {X : Type 0} (f : X → List ReportLine) (xs : List X) (x : X) (l : ReportLine) → f x ≡ l ∷ [] → flat_map f (xs ++ x ∷ []) ≡ flat_map f xs ++ l ∷ []
flat_more f xs x l e = flat_map-append f xs (x ∷ []) ∙ ap (λ ls. flat_map f xs ++ ls) (append-nil (f x) ∙ e)

-- ---- counts

count_sum : (all front one by_front by_one : ℕ) → all ≡ by_front + by_one → front ≡ by_front → by_one ≡ one + 0 → all ≡ front + one
count_sum all front one by_front by_one e f g = omega arith

less_one : (left more : ℕ) (t : Bool) → (left == 0) ≡ t → cond t None (Some (left - 1)) ≡ Some more → 1 + more ≡ left
less_one left more true e h = absurd cc
less_one left more false e h = let same = some_is (left - 1) more h in grind (arith, nat_tests)

count_more : (es : List Entry) (e : Entry) → published_count (es ++ e ∷ []) ≡ published_count es + publishes e
count_more es e =
    let all = sum-map publishes (es ++ e ∷ []) ∙ sum_by-append publishes es (e ∷ []) in
    count_sum (published_count (es ++ e ∷ [])) (published_count es) (publishes e) _ _ all (sum-map publishes es) (sum_by-cons publishes e [])

-- ---- the first two lines

head_is : (names : Texts) (log : RunLog) (stage : Stage) (next : ReportState) → StageStands names log stage → head_taken log stage ≡ Some next → IsTaken names (at log stage) lines.Head next
head_is names log Head next h e = subst (IsTaken names (at log Head) lines.Head) (some_is (at log Count) next e) (record { stands = h; lines_are = refl })
head_is names log stage next h e = no_state next e

empty_good : (names : Texts) → IsWellFormed names empty_log
empty_good names = record { journal = tt; processes = tt; observers = tt }

no_count : published_count [] ≡ 0
no_count = refl

count_empty : (names : Texts) (count : ℕ) → IsWide count → IsTaken names (at empty_log Count) (lines.Generations count) (at empty_log (Entries count))
count_empty names count wide = record {
  stands = record { well_formed = empty_good names; count = omega (arith, no_count); no_processes = refl; no_observers = refl };
  lines_are = ap (λ n. headed n []) (omega (arith, no_count));
}

-- ---- entries

-- the count behind an entry
after_is : (left : ℕ) (e : Entry) (p : Option ℕ) (more : ℕ) → e.published ≡ p → count_after left p ≡ Some more → publishes e + more ≡ left
after_is left e None more is h =
    let none : publishes e ≡ 0 = ap (λ (o : Option ℕ). cond (is_some o) 1 0) is in
    let same = some_is left more h in
    omega (arith, none, same)
after_is left e (Some g) more is h =
    let one : publishes e ≡ 1 = ap (λ (o : Option ℕ). cond (is_some o) 1 0) is in
    let rest = less_one left more (left == 0) refl h in
    omega (arith, one, rest)

-- ---- processes

-- where a process may begin, the log has no observers, and its lines are those so far
record MayBegin (names : Texts) (log : RunLog) (stage : Stage) : Type 0 where
  stands : HasProcesses names log
  lines_are : stage_lines log stage ≡ with_processes log []

module _ (names : Texts) (log : RunLog) where
  count_is : (stage : Stage) (count : ℕ) (next : ReportState) → StageStands names log stage → IsWide count → count_taken log stage count ≡ Some next → IsTaken names (at log stage) (lines.Generations count) next
  count_is Count count next h wide e =
      subst (IsTaken names (at log Count) (lines.Generations count)) (some_is (at log (Entries count)) next e)
      (subst (λ l. IsTaken names (at l Count) (lines.Generations count) (at l (Entries count))) (sym h) (count_empty names count wide))
  count_is stage count next h wide e = no_state next e

  entry_more : (left more : ℕ) (e : Entry) → HasEntries names log left → IsEntryOf names e → publishes e + more ≡ left → IsTaken names (at log (Entries left)) (lines.Entry e) (at (with_entry log e) (Entries more))
  entry_more left more e h fits count =
      let grown = count_more log.journal e in
      record {
        stands = record {
          well_formed = record { journal = all_more (IsEntryOf names) log.journal e h.well_formed.journal fits; processes = h.well_formed.processes; observers = h.well_formed.observers };
          count = omega (arith, h.count);
          no_processes = h.no_processes;
          no_observers = h.no_observers;
        };
        lines_are = ap (λ n. headed n (entry_lines (log.journal ++ e ∷ []))) (omega arith) ∙ ap (λ ls. headed (published_count log.journal + left) ls) (map-append (λ e. lines.Entry e) log.journal (e ∷ []));
      }

  entry_is : (stage : Stage) (e : Entry) (next : ReportState) → StageStands names log stage → IsEntryOf names e → entry_taken log stage e ≡ Some next → IsTaken names (at log stage) (lines.Entry e) next
  entry_is (Entries left) e next h fits k =
      let m = bind_some _ (λ more. Some (at (with_entry log e) (Entries more))) next k in
      subst (IsTaken names (at log (Entries left)) (lines.Entry e)) (some_is (at (with_entry log e) (Entries m.0)) next m.2) (entry_more left m.0 e h fits (after_is left e e.published m.0 refl m.1))
  entry_is stage e next h fits k = no_state next k

  entries_done : (left : ℕ) → HasEntries names log left → (left == 0) ≡ true → MayBegin names log (Entries left)
  entries_done left h e =
      let none : left ≡ 0 = (Decides-eqb left 0).0 e in
      let no_more = ap length h.no_processes in
      let none_seen = ap length h.no_observers in
      record {
        stands = record {
          good = record { well_formed = h.well_formed; counted = record { generations = omega (arith, h.count); processes = omega arith; observers = omega arith } };
          no_observers = h.no_observers;
        };
        lines_are =
            ap (λ n. headed n (entry_lines log.journal)) (omega arith)
            ∙ ap (λ ls. headed (published_count log.journal) ls) (sym (append-nil (entry_lines log.journal)))
            ∙ ap (λ ps. headed (published_count log.journal) (entry_lines log.journal ++ (processes_lines 0 ps ++ []))) (sym h.no_processes);
      }

  begins_is : (stage : Stage) → StageStands names log stage → may_begin stage ≡ true → MayBegin names log stage
  begins_is (Entries left) h e = entries_done left h e
  begins_is Processes h e = record { stands = h; lines_are = refl }
  begins_is stage h e = absurd cc

  process_begins : (stage : Stage) (number : ℕ) (to : Mfa) (args : List PlainTerm) → MayBegin names log stage → IsWide number → IsCallOf names to args → number ≡ length log.processes → IsTaken names (at log stage) (lines.Process number to args) (at log (Process (process_begun to args) None))
  process_begins stage number to args h wide call e = record {
    stands = record {
      good = h.stands.good;
      no_observers = h.stands.no_observers;
      process_is = record { call = call; whole = record { turns = tt; apart = tt }; spans = tt; fin = tt };
      room = omega arith;
      first = refl;
    };
    lines_are = ap (λ n. with_processes log (lines.Process n to args ∷ [])) (sym e) ∙ with_processes_more log [] (lines.Process number to args) ∙ ap (λ ls. ls ++ lines.Process number to args ∷ []) (sym h.lines_are);
  }

process_is : (names : Texts) (log : RunLog) (stage : Stage) (number : ℕ) (to : Mfa) (args : List PlainTerm) (next : ReportState) → StageStands names log stage → IsWide number → IsCallOf names to args → process_taken log stage number to args ≡ Some next → IsTaken names (at log stage) (lines.Process number to args) next
process_is names log stage number to args next h wide call e =
    let g = guarded (may_begin stage) (process_behind log number to args) next e in
    let n = guard_some (number == length log.processes) (at log (Process (process_begun to args) None)) next g.1 in
    subst (IsTaken names (at log stage) (lines.Process number to args)) n.1 (process_begins names log stage number to args (begins_is names log stage h g.0) wide call ((Decides-eqb number (length log.processes)).0 n.0))

-- ---- spans

positive : (n : ℕ) → nat_lt 0 n ≡ true → 0 < n
positive n h = grind (arith, nat_tests)

not_same : (a b : ℕ) → not (a == b) ≡ true → a ≢ b
not_same a b h = grind (arith, nat_tests)

-- what a test of a span says
record Follows (going : Option Span) (generation turns : ℕ) : Type 0 where
  some : 0 < turns
  apart : IfSome going (λ span. span.generation ≢ generation)

follows_is : (going : Option Span) (generation turns : ℕ) → span_may_follow going generation turns ≡ true → Follows going generation turns
follows_is None generation turns h = record { some = positive turns h; apart = tt }
follows_is (Some span) generation turns h =
    let p = and_parts (nat_lt 0 turns) (not (span.generation == generation)) h in
    record { some = positive turns p.0; apart = not_same span.generation generation p.1 }

-- spans that are apart, with one that follows
spans_apart : (spans : List Span) (going : Option Span) (next : Span) → IsFirst spans going → AreApart (with_going spans going) → IfSome going (λ span. span.generation ≢ next.generation) → AreApart (with_going spans going ++ next ∷ [])
spans_apart spans None next first h k = subst (λ ss. AreApart (ss ++ next ∷ [])) (sym first) (tt, tt)
spans_apart spans (Some span) next first h k = apart_more _ next h (subst (λ o. IfSome o (λ g. g ≢ next.generation)) (sym (last_is spans span)) k)

span_begins : (names : Texts) (log : RunLog) (process : ProcessLog) (going : Option Span) (span : Span) → span.lines ≡ [] → InProcess names log process going → IsWide span.generation → IsWide span.turns → Follows going span.generation span.turns → IsTaken names (at log (Process process going)) (lines.Span span.generation span.turns) (at log (Process (spans_closed process going) (Some span)))
span_begins names log process going span bare h g t f =
    let all = with_going process.spans going in
    record {
      stands = record {
        good = h.good;
        no_observers = h.no_observers;
        process_is = record {
          call = h.process_is.call;
          whole = record { turns = all_more (λ s. 0 < s.turns) all span h.process_is.whole.turns f.some; apart = spans_apart process.spans going span h.first h.process_is.whole.apart f.apart };
          spans = all_more (IsSpanOf names) all span h.process_is.spans (record { generation = g; turns = t; lines_are = subst (AllByRecursion (IsLineOf names)) (sym bare) tt });
          fin = h.process_is.fin;
        };
        room = h.room;
        first = tt;
      };
      lines_are = ap (λ ls. with_processes log (lines.Process (length log.processes) process.target process.args ∷ ls)) (flat_more span_lines all span (lines.Span span.generation span.turns) (ap (λ ls. lines.Span span.generation span.turns ∷ map (λ l. lines.Shown l) ls) bare))
          ∙ with_processes_more log (begun_lines (length log.processes) process going) (lines.Span span.generation span.turns);
    }

span_is : (names : Texts) (log : RunLog) (stage : Stage) (generation turns : ℕ) (next : ReportState) → StageStands names log stage → IsWide generation → IsWide turns → span_taken log stage generation turns ≡ Some next → IsTaken names (at log stage) (lines.Span generation turns) next
span_is names log (Process process going) generation turns next h g t e =
    let span : Span = record { generation = generation; turns = turns; lines = [] } in
    let k = guard_some (span_may_follow going generation turns) (at log (Process (spans_closed process going) (Some span))) next e in
    subst (IsTaken names (at log (Process process going)) (lines.Span generation turns)) k.1 (span_begins names log process going span refl h g t (follows_is going generation turns k.0))
span_is names log stage generation turns next h g t e = no_state next e

-- what a span shows
span_lines-more : (span : Span) (line : Line) → span_lines (with_line span line) ≡ span_lines span ++ lines.Shown line ∷ []
span_lines-more span line = ap (λ ls. lines.Span span.generation span.turns ∷ ls) (map-append (λ l. lines.Shown l) span.lines (line ∷ []))

module _ (names : Texts) (log : RunLog) where
  shown_more : (process : ProcessLog) (span : Span) (line : Line) → InProcess names log process (Some span) → IsLineOf names line → IsTaken names (at log (Process process (Some span))) (lines.Shown line) (at log (Process process (Some (with_line span line))))
  shown_more process span line h fits =
      let cut = apart_cut process.spans span h.process_is.whole.apart in
      let was = all_last (IsSpanOf names) process.spans span h.process_is.spans in
      record {
        stands = record {
          good = h.good;
          no_observers = h.no_observers;
          process_is = record {
            call = h.process_is.call;
            whole = record {
              turns = all_more (λ s. 0 < s.turns) process.spans (with_line span line) (all_front (λ s. 0 < s.turns) process.spans (span ∷ []) h.process_is.whole.turns) (all_last (λ s. 0 < s.turns) process.spans span h.process_is.whole.turns);
              apart = apart_more _ _ cut.others cut.fresh;
            };
            spans = all_more (IsSpanOf names) process.spans (with_line span line) (all_front (IsSpanOf names) process.spans (span ∷ []) h.process_is.spans) (record { generation = was.generation; turns = was.turns; lines_are = all_more (IsLineOf names) span.lines line was.lines_are fits });
            fin = h.process_is.fin;
          };
          room = h.room;
          first = tt;
        };
        lines_are = ap (λ ls. with_processes log (lines.Process (length log.processes) process.target process.args ∷ ls)) (flat_last span_lines process.spans span (with_line span line) (lines.Shown line) (span_lines-more span line))
            ∙ with_processes_more log (begun_lines (length log.processes) process (Some span)) (lines.Shown line);
      }

  shown_in_is : (process : ProcessLog) (going : Option Span) (line : Line) (next : ReportState) → InProcess names log process going → IsLineOf names line → shown_in log process going line ≡ Some next → IsTaken names (at log (Process process going)) (lines.Shown line) next
  shown_in_is process None line next h fits e = no_state next e
  shown_in_is process (Some span) line next h fits e =
      subst (IsTaken names (at log (Process process (Some span))) (lines.Shown line)) (some_is (at log (Process process (Some (with_line span line)))) next e) (shown_more process span line h fits)

  shown_is : (stage : Stage) (line : Line) (next : ReportState) → StageStands names log stage → IsLineOf names line → shown_taken log stage line ≡ Some next → IsTaken names (at log stage) (lines.Shown line) next
  shown_is (Process process going) line next h fits e = shown_in_is process going line next h fits e
  shown_is stage line next h fits e = no_state next e

  -- the end of a process
  process_ends : (process : ProcessLog) (going : Option Span) (fin : End) → InProcess names log process going → IsEndOf names fin → IsTaken names (at log (Process process going)) (lines.End fin) (at (with_process log (process_ended (spans_closed process going) fin)) Processes)
  process_ends process going fin h fits =
      let p = process_ended (spans_closed process going) fin in
      let n = length log.processes in
      let longer = length-append log.processes (p ∷ []) in
      record {
        stands = record {
          good = record {
            well_formed = record {
              journal = h.good.well_formed.journal;
              processes = all_more (IsProcessOf names) log.processes p h.good.well_formed.processes (record { call = h.process_is.call; whole = h.process_is.whole; spans = h.process_is.spans; fin = fits });
              observers = h.good.well_formed.observers;
            };
            counted = record { generations = h.good.counted.generations; processes = omega (arith, h.room); observers = h.good.counted.observers };
          };
          no_observers = h.no_observers;
        };
        lines_are = ap (λ ls. headed (published_count log.journal) (entry_lines log.journal ++ ls)) (processes_lines-more 0 log.processes p [] n (omega arith) ∙ ap (λ ls. processes_lines 0 log.processes ++ ls) (append-nil (process_lines n p)))
            ∙ with_processes_more log (begun_lines n process going) (lines.End fin);
      }

  end_is : (stage : Stage) (fin : End) (next : ReportState) → StageStands names log stage → IsEndOf names fin → end_taken log stage fin ≡ Some next → IsTaken names (at log stage) (lines.End fin) next
  end_is (Process process going) fin next h fits e =
      subst (IsTaken names (at log (Process process going)) (lines.End fin)) (some_is (at (with_process log (process_ended (spans_closed process going) fin)) Processes) next e) (process_ends process going fin h fits)
  end_is stage fin next h fits e = no_state next e

-- ---- observers

-- where an observer may begin, or the report end
record IsClosed (names : Texts) (log : RunLog) (stage : Stage) (closed : RunLog) : Type 0 where
  good : IsGood names closed
  lines_are : stage_lines log stage ≡ with_observers closed []

module _ (names : Texts) (log : RunLog) where
  processes_done : (stage : Stage) → MayBegin names log stage → IsClosed names log stage log
  processes_done stage h = record {
    good = h.stands.good;
    lines_are = h.lines_are ∙ ap (λ obs. with_processes log (observers_lines 0 obs ++ [])) (sym h.stands.no_observers);
  }

  observer_done : (shots : List Snapshot) (going : Option Snapshot) → InObserver names log shots going → IsClosed names log (Observer shots going) (shots_closed log shots going)
  observer_done shots going h =
      let all = with_going shots going in
      let longer = length-append log.observers (all ∷ []) in
      record {
        good = record {
          well_formed = record {
            journal = h.good.well_formed.journal;
            processes = h.good.well_formed.processes;
            observers = all_more (λ ss. AllByRecursion (IsSnapshotOf names) ss) log.observers all h.good.well_formed.observers h.shots_are;
          };
          counted = record { generations = h.good.counted.generations; processes = h.good.counted.processes; observers = omega (arith, h.room) };
        };
        lines_are = ap (λ ls. with_processes log (observers_lines 0 log.observers ++ ls)) (sym (append-nil (observer_lines (length log.observers) all)))
            ∙ ap (with_processes log) (sym (observers_lines-more 0 log.observers all [] (length log.observers) (omega arith)));
      }

  closed_is : (stage : Stage) (closed : RunLog) → StageStands names log stage → observers_closed log stage ≡ Some closed → IsClosed names log stage closed
  closed_is (Entries left) closed h e =
      let g = guard_some (left == 0) log closed e in
      subst (IsClosed names log (Entries left)) g.1 (processes_done (Entries left) (entries_done names log left h g.0))
  closed_is Processes closed h e = subst (IsClosed names log Processes) (some_is log closed e) (processes_done Processes (record { stands = h; lines_are = refl }))
  closed_is (Observer shots going) closed h e = subst (IsClosed names log (Observer shots going)) (some_is (shots_closed log shots going) closed e) (observer_done shots going h)
  closed_is stage closed h e = absurd cc

  observer_begins : (stage : Stage) (closed : RunLog) (number : ℕ) → IsClosed names log stage closed → IsWide number → number ≡ length closed.observers → IsTaken names (at log stage) (lines.Observer number) (at closed (Observer [] None))
  observer_begins stage closed number h wide e = record {
    stands = record { good = h.good; shots_are = tt; room = omega arith };
    lines_are = ap (λ n. with_observers closed (lines.Observer n ∷ [])) (sym e) ∙ with_observers_more closed [] (lines.Observer number) ∙ ap (λ ls. ls ++ lines.Observer number ∷ []) (sym h.lines_are);
  }

  observer_is : (stage : Stage) (number : ℕ) (next : ReportState) → StageStands names log stage → IsWide number → observer_taken log stage number ≡ Some next → IsTaken names (at log stage) (lines.Observer number) next
  observer_is stage number next h wide e =
      let m = bind_some _ (λ closed. observer_behind closed number) next e in
      let g = guard_some (number == length m.0.observers) (at m.0 (Observer [] None)) next m.2 in
      subst (IsTaken names (at log stage) (lines.Observer number)) g.1 (observer_begins stage m.0 number (closed_is stage m.0 h m.1) wide ((Decides-eqb number (length m.0.observers)).0 g.0))

  snapshot_begins : (shots : List Snapshot) (going : Option Snapshot) (shot : Snapshot) → shot.exports ≡ [] → InObserver names log shots going → IsWide shot.generation → IsTaken names (at log (Observer shots going)) (lines.Snapshot shot.generation) (at log (Observer (with_going shots going) (Some shot)))
  snapshot_begins shots going shot bare h g =
      let all = with_going shots going in
      record {
        stands = record { good = h.good; shots_are = all_more (IsSnapshotOf names) all shot h.shots_are (record { generation = g; exports = subst (AllByRecursion (IsExportOf names)) (sym bare) tt }); room = h.room };
        lines_are = ap (λ ls. with_observers log (lines.Observer (length log.observers) ∷ ls)) (flat_more snapshot_lines all shot (lines.Snapshot shot.generation) (ap (λ es. lines.Snapshot shot.generation ∷ map export_line es) bare))
            ∙ with_observers_more log (observer_lines (length log.observers) all) (lines.Snapshot shot.generation);
      }

  snapshot_is : (stage : Stage) (generation : ℕ) (next : ReportState) → StageStands names log stage → IsWide generation → snapshot_taken log stage generation ≡ Some next → IsTaken names (at log stage) (lines.Snapshot generation) next
  snapshot_is (Observer shots going) generation next h g e =
      let shot : Snapshot = record { generation = generation; exports = [] } in
      subst (IsTaken names (at log (Observer shots going)) (lines.Snapshot generation)) (some_is (at log (Observer (with_going shots going) (Some shot))) next e) (snapshot_begins shots going shot refl h g)
  snapshot_is stage generation next h g e = no_state next e

snapshot_lines-more : (shot : Snapshot) (function : Mfa) (serial : ℕ) → snapshot_lines (with_export shot function serial) ≡ snapshot_lines shot ++ lines.Export function serial ∷ []
snapshot_lines-more shot function serial = ap (λ ls. lines.Snapshot shot.generation ∷ ls) (map-append export_line shot.exports ((function, serial) ∷ []))

module _ (names : Texts) where
  export_more : (log : RunLog) (shots : List Snapshot) (shot : Snapshot) (function : Mfa) (serial : ℕ) → InObserver names log shots (Some shot) → IsFunctionOf names function → IsWide serial → IsTaken names (at log (Observer shots (Some shot))) (lines.Export function serial) (at log (Observer shots (Some (with_export shot function serial))))
  export_more log shots shot function serial h f wide =
      let was = all_last (IsSnapshotOf names) shots shot h.shots_are in
      record {
        stands = record {
          good = h.good;
          shots_are = all_more (IsSnapshotOf names) shots (with_export shot function serial) (all_front (IsSnapshotOf names) shots (shot ∷ []) h.shots_are) (record { generation = was.generation; exports = all_more (IsExportOf names) shot.exports (function, serial) was.exports (record { function = f; serial = wide }) });
          room = h.room;
        };
        lines_are = ap (λ ls. with_observers log (lines.Observer (length log.observers) ∷ ls)) (flat_last snapshot_lines shots shot (with_export shot function serial) (lines.Export function serial) (snapshot_lines-more shot function serial))
            ∙ with_observers_more log (observer_lines (length log.observers) (shots ++ shot ∷ [])) (lines.Export function serial);
      }

  export_in_is : (log : RunLog) (shots : List Snapshot) (going : Option Snapshot) (function : Mfa) (serial : ℕ) (next : ReportState) → InObserver names log shots going → IsFunctionOf names function → IsWide serial → export_in log shots going function serial ≡ Some next → IsTaken names (at log (Observer shots going)) (lines.Export function serial) next
  export_in_is log shots None function serial next h f wide e = no_state next e
  export_in_is log shots (Some shot) function serial next h f wide e =
      subst (IsTaken names (at log (Observer shots (Some shot))) (lines.Export function serial)) (some_is (at log (Observer shots (Some (with_export shot function serial)))) next e) (export_more log shots shot function serial h f wide)

  export_is : (log : RunLog) (stage : Stage) (function : Mfa) (serial : ℕ) (next : ReportState) → StageStands names log stage → IsFunctionOf names function → IsWide serial → export_taken log stage function serial ≡ Some next → IsTaken names (at log stage) (lines.Export function serial) next
  export_is log (Observer shots going) function serial next h f wide e = export_in_is log shots going function serial next h f wide e
  export_is log stage function serial next h f wide e = no_state next e

  close_is : (log : RunLog) (stage : Stage) (next : ReportState) → StageStands names log stage → close_taken log stage ≡ Some next → IsTaken names (at log stage) lines.Close next
  close_is log stage next h e =
      let m = bind_some _ (λ closed. Some (at closed Done)) next e in
      let c = closed_is names log stage m.0 h m.1 in
      subst (IsTaken names (at log stage) lines.Close) (some_is (at m.0 Done) next m.2) (record { stands = c.good; lines_are = with_observers_more m.0 [] lines.Close ∙ ap (λ ls. ls ++ lines.Close ∷ []) (sym c.lines_are) })

  -- ---- any line

  pub line_is : (s : ReportState) (l : ReportLine) (next : ReportState) → Stands names s → IsReportLine names l → taken s l ≡ Some next → IsTaken names s l next
  line_is s lines.Head next h fits e = head_is names s.log s.stage next h e
  line_is s (lines.Generations count) next h fits e = count_is names s.log s.stage count next h fits e
  line_is s (lines.Entry entry) next h fits e = entry_is names s.log s.stage entry next h fits e
  line_is s (lines.Process number to args) next h fits e = process_is names s.log s.stage number to args next h fits.0 fits.1 e
  line_is s (lines.Span generation turns) next h fits e = span_is names s.log s.stage generation turns next h fits.0 fits.1 e
  line_is s (lines.Shown line) next h fits e = shown_is names s.log s.stage line next h fits e
  line_is s (lines.End fin) next h fits e = end_is names s.log s.stage fin next h fits e
  line_is s (lines.Observer number) next h fits e = observer_is names s.log s.stage number next h fits e
  line_is s (lines.Snapshot generation) next h fits e = snapshot_is names s.log s.stage generation next h fits e
  line_is s (lines.Export function serial) next h fits e = export_is s.log s.stage function serial next h fits.0 fits.1 e
  line_is s lines.Close next h fits e = close_is s.log s.stage next h e

  pub opening_stands : Stands names report_opening
  opening_stands = refl

-- ---- each state can be completed

pub record IsCompleted (names : Texts) (s : ReportState) : Type 0 where
  pub log : RunLog
  pub good : IsGood names log
  pub rest : List ReportLine
  pub lines_are : log_lines log ≡ so_far s ++ rest

by_step : (names : Texts) (s : ReportState) (l : ReportLine) (next : ReportState) → IsTaken names s l next → IsCompleted names next → IsCompleted names s
by_step names s l next t c = record {
  log = c.log;
  good = c.good;
  rest = l ∷ c.rest;
  lines_are = c.lines_are ∙ ap (λ ls. ls ++ c.rest) t.lines_are ∙ append_assoc (so_far s) (l ∷ []) c.rest;
}

done : (names : Texts) (log : RunLog) → IsGood names log → IsCompleted names (at log Done)
done names log h = record { log = log; good = h; rest = []; lines_are = sym (append-nil (log_lines log)) }

by_close : (names : Texts) (log : RunLog) (stage : Stage) (closed : RunLog) → StageStands names log stage → observers_closed log stage ≡ Some closed → IsCompleted names (at log stage)
by_close names log stage closed h e =
    let t = close_is names log stage (at closed Done) h (ap (λ (o : Option RunLog). o >>= λ c. some (at c Done)) e) in
    by_step names _ _ (at closed Done) t (done names closed t.stands)

filler : Entry
filler = record { who = Runtime; cmd = cmds.Release 0; reply = replies.Ok; published = Some 1 }

filler_fits : (names : Texts) → IsEntryOf names filler
unfolding filler
filler_fits names = record { who = tt; command = omega arith; reply = tt; agrees = tt; published = omega arith }

filler_count : (n : ℕ) → publishes filler + n ≡ suc n
unfolding filler
filler_count n = omega arith

module _ (names : Texts) where
  entries_completed : (log : RunLog) (left : ℕ) → HasEntries names log left → IsCompleted names (at log (Entries left))
  entries_completed log zero h = by_close names log (Entries zero) log h refl
  entries_completed log (suc left) h =
      let t = entry_more names log (suc left) left filler h (filler_fits names) (filler_count left) in
      by_step names _ _ (at (with_entry log filler) (Entries left)) t (entries_completed (with_entry log filler) left t.stands)

  head_completed : IsCompleted names (at empty_log Head)
  head_completed = record { log = empty_log; good = record { well_formed = empty_good names; counted = record { generations = omega (arith, no_count); processes = omega arith; observers = omega arith } }; rest = log_lines empty_log; lines_are = refl }

  count_completed : IsCompleted names (at empty_log Count)
  count_completed = record { log = empty_log; good = record { well_formed = empty_good names; counted = record { generations = omega (arith, no_count); processes = omega arith; observers = omega arith } }; rest = lines.Generations (published_count []) ∷ lines.Close ∷ []; lines_are = refl }

  stage_completed : (log : RunLog) (stage : Stage) → StageStands names log stage → IsCompleted names (at log stage)
  stage_completed log Head h = subst (λ l. IsCompleted names (at l Head)) (sym h) head_completed
  stage_completed log Count h = subst (λ l. IsCompleted names (at l Count)) (sym h) count_completed
  stage_completed log (Entries left) h = entries_completed log left h
  stage_completed log Processes h = by_close names log Processes log h refl
  stage_completed log (Process process going) h =
      let t = process_ends names log process going Normal h tt in
      let next = with_process log (process_ended (spans_closed process going) Normal) in
      by_step names _ _ (at next Processes) t (by_close names next Processes next t.stands refl)
  stage_completed log (Observer shots going) h = by_close names log (Observer shots going) (shots_closed log shots going) h refl
  stage_completed log Done h = done names log h

  pub completed : (s : ReportState) → Stands names s → IsCompleted names s
  completed s h = stage_completed s.log s.stage h
