-- The turns of each process of a log were made under the states of the journal, and its marks in the words tell of them.
use Rattle.std.proofs.Common.{◌≡◌, ℕ, suc, ◌<◌, ◌≤◌, ◌%◌, List, [], ◌∷◌, ◌++◌, length, length-append, slice_get, Option, Some, IfSome, All, refl, sym, ap, subst, ◌∙◌, arith}
use Rattle.std.proofs.lemmas.List.Elements.{All-from_recursion}
use Rattle.std.proofs.lemmas.Nat.{mod_below}
use Rattle.std.proofs.lemmas.Option.{slice_get_within}
use Rattle.std.specs.List.{AllByRecursion}
use Rattle.std.specs.Prelude.{reverse}
use Rattle.term_core.specs.declared.atom.Mfa.{Mfa}
use Rattle.area_core.specs.declared.map.TheConstants.{PROCESSES}
use Rattle.area_core.specs.declared.table.Published.{Published}
use Rattle.marks.specs.Kept.{IsKnown, IsNoted}
use Rattle.marks.specs.Names.{IsAtRest}
use Rattle.shared_words.specs.declared.view.MemberView.{MemberView}
use Rattle.shared_words.specs.declared.view.WriterView.{WriterView}
use Rattle.shared_words.specs.Processes.{process_of, under_of}
use Rattle.server_core.specs.ServerState.{ServerState}
use Rattle.machine_core.specs.Process.{PlainProcess, new_process}
use Rattle.machine_core.specs.ServerReads.{reads_of}
use Rattle.script_core.specs.declared.script.Script.{Script}
use Rattle.script_core.specs.Processes.{SpawnLine, spawns_of}
use Rattle.run_log.specs.declared.logs.Entry.{Entry}
use Rattle.run_log.specs.declared.logs.ProcessLog.{ProcessLog}
use Rattle.run_log.specs.declared.logs.RunLog.{RunLog}
use Rattle.run_log.specs.declared.logs.Span.{Span}
use Rattle.run_log.specs.Journal.{published_before, published_count}
use Rattle.run_log.specs.Legal.{HasTurns, IsLogOf, LogsMatch, SpansFollow, first_generation, marks_of, turns_in_log}
use Rattle.run_log.specs.WholeSpans.{AreWhole}
use Rattle.run_log.proofs.Journals.{before_counted}
use Rattle.run_log.proofs.ListPlaces.{get_within}
use Rattle.run_steps.specs.declared.phase.Phase.{Phase}
use Rattle.run_steps.specs.declared.phase.Phase.TheVariants.{Waiting, Going, Ended}
use Rattle.run_steps.specs.MadeTurns.{AreAlsoMade, AreBetween, MadeAs, marks_made}
use Rattle.run_steps.specs.Stands.{IsEnd, Stand, end_of, going_stand}
use Rattle.run_steps.specs.Standing.{IsSpawned, StandsIn}
use Rattle.run_steps.proofs.Finished.{all_logs, same_start, some_spans}
use Rattle.run_steps.proofs.MadeTurns.{made_follow}
use Rattle.run_law.specs.Ended.{HasRun, IsMemberOf}
use Rattle.run_law.specs.Ends.{IsOver}
use Rattle.run_law.specs.Laws.{AreLearnt}
use Rattle.run_law.specs.Published.{states_of}
use Rattle.run_law.specs.Reading.{MarksTell, reads_under}
use Rattle.run_law.proofs.Marks.{between_within, made_generations, rising}
use Rattle.run_law.proofs.States.{own_generation}
use Rattle.run_law.proofs.Tied.{made_tied}

-- a process whose phase is an end has ended
ended_in : (journal : List Entry) (states : ℕ → ServerState) (top done number : ℕ) (line : SpawnLine) (x : Stand) (phase : Phase) → IsEnd phase
    → StandsIn journal states top done number line x phase
    → IsSpawned journal states top done number line x (Some (end_of phase))
ended_in journal states top done number line x Waiting over h = absurd over
ended_in journal states top done number line x Going over h = absurd over
ended_in journal states top done number line x (Ended fin) over h = h

-- what is known of a process of a log by the states of the journal
pub record IsTold (s : Script) (log : RunLog) (m : MemberView) (number : ℕ) (line : SpawnLine) (process : ProcessLog) : Type 0 where
  pub is_log : IsLogOf line process
  pub started : IfSome (first_generation process.spans) (λ g. published_before line.loader line.place log.journal ≤ g)
  pub follow : SpansFollow (states_of s.modules log.journal) (new_process number process.target process.args) process.spans process.fin
  pub known : AllByRecursion (λ span. span.generation ≤ published_count log.journal) process.spans
  pub whole : AreWhole process.spans
  pub marks : MarksTell (reverse (process_of m number).marks) (turns_in_log s log number process)

module _ (names : List Mfa) (s : Script) (log : RunLog) (w : WriterView) (over : IsOver names s log w) where
  abbrev states : ℕ → ServerState
  states = states_of s.modules log.journal

  abbrev top : ℕ
  top = published_count log.journal

  -- each process has its member
  pub member_of_process : (number : ℕ) → (m : MemberView) × IsMemberOf w number m
  member_of_process number = get_within w.members (number % length w.members) (mod_below number (length w.members) over.come.staffed)

  -- and each process of the log its line and a slot
  pub line_of_process : (number : ℕ) (process : ProcessLog) → slice_get log.processes number ≡ Some process
      → (line : SpawnLine) × (slice_get (spawns_of 0 s.loaders) number ≡ Some line)
  line_of_process number process at = get_within (spawns_of 0 s.loaders) number (omega (arith, slice_get_within log.processes number process at, over.run.many))

  pub has_slot : (number : ℕ) (process : ProcessLog) → slice_get log.processes number ≡ Some process → number < PROCESSES
  has_slot number process at = omega (arith, slice_get_within log.processes number process at, over.run.few)

  -- what its member has learnt of are generations of the journal
  few_learnt : (k : ℕ) (m : MemberView) → slice_get w.members k ≡ Some m → length m.seen ≤ length w.published
  few_learnt k m at =
      let b = over.come.learnt k m at in
      let long : length w.published ≡ length (m.seen ++ b.0) = ap (λ (xs : List Published). length xs) b.1 in
      omega (arith, long, length-append m.seen b.0)

  member_learnt : (k : ℕ) (m : MemberView) → slice_get w.members k ≡ Some m → AreLearnt names s.modules log.journal m.seen
  member_learnt k m at = record {
    replayed = over.journal;
    published = w.published;
    beginning = over.come.learnt k m at;
    are = over.published;
  }

  -- ---- one process of the log
  module _ (number : ℕ) (line : SpawnLine) (process : ProcessLog) (m : MemberView)
      (line_is : slice_get (spawns_of 0 s.loaders) number ≡ Some line) (at : slice_get log.processes number ≡ Some process) (own : IsMemberOf w number m) where
    pub ran : HasRun names log.journal m number line process
    ran = over.run.each number line process m line_is at own

    pub known_in : IsKnown (under_of m) number (process_of m number) w.looks
    known_in = over.come.known number m (has_slot number process at) own

    pub rests_in : IsAtRest (process_of m number)
    rests_in = over.run.rest (number % length w.members) m own number

    abbrev first : Stand
    first = going_stand number line.target line.args

    abbrev from : ℕ
    from = published_before line.loader line.place log.journal

    made : AreAlsoMade (λ g. reads_of (states g)) ran.turned.generations (marks_made (reads_under names m.seen) ran.turned.generations first) first ran.last
    made =
        made_tied names s.modules log.journal m.seen (member_learnt (number % length w.members) m own) ran.turned.generations first ran.last
        ran.turned.learnt ran.turned.placed ran.turned.made

    -- its turns are under no generation before that of its spawn, and under none before that of the turn before
    rises : AreBetween from (under_of m).generation ran.turned.generations
    rises =
        subst (AreBetween from (under_of m).generation)
        (made_generations (reads_under names m.seen) ran.turned.generations first (reverse (process_of m number).marks) ran.turned.marks)
        (rising from (under_of m).generation (process_of m number).marks known_in.falling
        (subst (λ (o : Option ℕ). IsNoted o (under_of m) (process_of m number)) ran.noted known_in.noted).0)

    between : AreBetween from top ran.turned.generations
    between =
        between_within from (under_of m).generation top (length m.seen) ran.turned.generations
        (omega (arith, few_learnt (number % length w.members) m own, over.published.many)) rises ran.turned.learnt

    follows : MadeAs log.journal states top (suc line.place) number line ran.turned.generations ran.last
    follows =
        made_follow log.journal states top (suc line.place) number line (omega arith)
        (λ g low. own_generation s.modules log.journal g over.journal.replays low) ran.turned.generations ran.last
        (before_counted line.loader line.place log.journal) between made.made

    spawned : IsSpawned log.journal states top (suc line.place) number line ran.last (Some (end_of (ran.last).phase))
    spawned = ended_in log.journal states top (suc line.place) number line ran.last (ran.last).phase ran.over follows.stands

    start : new_process number line.target line.args ≡ new_process number (ran.last).process.target (ran.last).process.args
    start = same_start number line (ran.last).process spawned.was.target spawned.was.args

    turns_same : marks_made (reads_under names m.seen) ran.turned.generations first ≡ turns_in_log s log number process
    turns_same =
        made.marks_are
        ∙ sym follows.marks
        ∙ ap (λ (p : PlainProcess). marks_of states p (ran.last).spans) start
        ∙ ap (λ (y : ProcessLog). marks_of states (new_process number y.target y.args) y.spans) ran.log_is

    pub told : IsTold s log m number line process
    told = record {
      is_log = subst (IsLogOf line) ran.log_is (record { target = spawned.was.target; args = spawned.was.args });
      started = subst (λ (y : ProcessLog). IfSome (first_generation y.spans) (λ g. from ≤ g)) ran.log_is spawned.was.started;
      follow = subst (λ (y : ProcessLog). SpansFollow states (new_process number y.target y.args) y.spans y.fin) ran.log_is
          (subst (λ (p : PlainProcess). SpansFollow states p (ran.last).spans (end_of (ran.last).phase)) start spawned.follow);
      known = subst (λ (y : ProcessLog). AllByRecursion (λ (span : Span). span.generation ≤ top) y.spans) ran.log_is spawned.was.known;
      whole = subst (λ (y : ProcessLog). AreWhole y.spans) ran.log_is spawned.was.whole;
      marks = subst (MarksTell (reverse (process_of m number).marks)) turns_same ran.turned.marks;
    }

  -- ---- each process of the log

  -- what is so of each process that is told of is so of each of the log
  pub of_each : (P : ℕ → ProcessLog → Type 0)
      → ((number : ℕ) (m : MemberView) (line : SpawnLine) (process : ProcessLog) → IsTold s log m number line process → P number process) → (number : ℕ) (process : ProcessLog)
      → slice_get log.processes number ≡ Some process → P number process
  of_each P f number process at =
      let m = member_of_process number in
      let line = line_of_process number process at in
      f number m.0 line.0 process (told number line.0 process m.0 line.1 at m.1)

  pub all_match : LogsMatch (spawns_of 0 s.loaders) log.processes
  all_match =
      matched (spawns_of 0 s.loaders) log.processes over.run.many
      (λ n line process line_is at. (told n line process (member_of_process n).0 line_is at (member_of_process n).1).is_log)
    where
      matched : (lines : List SpawnLine) (logs : List ProcessLog) → length logs ≡ length lines
          → ((n : ℕ) (line : SpawnLine) (process : ProcessLog) → slice_get lines n ≡ Some line → slice_get logs n ≡ Some process → IsLogOf line process) → LogsMatch lines logs
      matched [] [] e h = tt
      matched [] (x ∷ xs) e h = absurd (omega (arith, e))
      matched (line ∷ lines) [] e h = absurd (omega (arith, e))
      matched (line ∷ lines) (x ∷ xs) e h = (h 0 line x refl refl, matched lines xs (omega (arith, e)) (λ n y q a b. h (suc n) y q a b))

  pub all_turned : All HasTurns log.processes
  all_turned =
      all_logs HasTurns log.processes
      (of_each (λ number process. HasTurns process)
      (λ number m line process t. (some_spans states (new_process number process.target process.args) process.spans process.fin t.follow, All-from_recursion (λ (span : Span). 0 < span.turns) process.spans (t.whole).turns)))

  pub all_published : All (λ process. All (λ span. span.generation ≤ top) process.spans) log.processes
  all_published =
      all_logs (λ process. All (λ span. span.generation ≤ top) process.spans) log.processes
      (of_each (λ number process. All (λ (span : Span). span.generation ≤ top) process.spans)
      (λ number m line process t. All-from_recursion (λ (span : Span). span.generation ≤ top) process.spans t.known))

  pub all_whole : All (λ process. AreWhole process.spans) log.processes
  all_whole = all_logs (λ process. AreWhole process.spans) log.processes (of_each (λ number process. AreWhole process.spans) (λ number m line process t. t.whole))
