-- A turn of a process that goes on leaves it where its spans say.
use Rattle.std.proofs.Common.{◌≡◌, ◌≢◌, ℕ, ◌+◌, ◌<◌, ◌≤◌, List, [], ◌∷◌, ◌++◌, Some, None, IfSome, IsTrue, refl, sym, ap, subst, ◌∙◌, arith, add-one}
use Rattle.std.specs.List.{AllByRecursion}
use Rattle.server_core.specs.ServerState.{ServerState, is_retired}
use Rattle.machine_core.specs.declared.process.End.{End}
use Rattle.machine_core.specs.declared.process.TurnEnd.{TurnEnd}
use Rattle.machine_core.specs.declared.process.TurnEnd.TheVariants as turns
use Rattle.machine_core.specs.Holds.{is_among}
use Rattle.machine_core.specs.Process.{PlainProcess, names_of, new_process}
use Rattle.machine_core.specs.Turn.{Turn, turn_of}
use Rattle.machine_core.proofs.TurnLaws.{turn_same}
use Rattle.run_log.specs.declared.logs.Entry.{Entry}
use Rattle.run_log.specs.declared.logs.Span.{Span}
use Rattle.run_log.specs.Journal.{published_before}
use Rattle.run_log.specs.Legal.{Mark, SpansFollow, SpansGo, first_generation, marks_of, process_after, turns_of}
use Rattle.script_core.specs.Processes.{SpawnLine}
use Rattle.run_log.specs.WholeSpans.{AreApart, AreWhole, last_generation}
use Rattle.run_log.proofs.ApartSpans.{apart_cut, apart_more}
use Rattle.run_log.proofs.ListPlaces.{all_front, all_push}
use Rattle.run_log.proofs.Marks.{marks_empty, marks_more, process_empty, process_now}
use Rattle.run_log.proofs.StatesForTurns.{for_turns, turn_alike}
use Rattle.run_log.proofs.TurnRuns.{no_turns, some_turn, turns_more}
use Rattle.run_log.proofs.SpanRuns.{first_front, first_more, go_cut, go_more, go_over}
use Rattle.run_steps.specs.Stands.{Stand, phase_after}
use Rattle.run_steps.specs.Standing.{IsSpawned, StandsIn, WasSpawned}
use Rattle.run_steps.specs.Turns.{HadTurn, IsTaken, last_one, new_one}

-- what was taken out: spans that lead to a process, and one under the generation that leads from there on
record IsOpen (states : ℕ → ServerState) (generation : ℕ) (first : PlainProcess) (P : ℕ → Type 0) (others : List Span) (span : Span) (now : PlainProcess) : Type 0 where
  between : PlainProcess
  front : SpansGo states first others between
  turns : turns_of (states generation) span.turns between [] ≡ some_turn now span.lines turns.Again
  known : AllByRecursion (λ s. s.generation ≤ generation) others
  started : IfSome (first_generation others) P
  some : AllByRecursion (λ s. 0 < s.turns) others
  apart : AreApart others
  fresh : IfSome (last_generation others) (λ g. g ≢ generation)

open_last : (states : ℕ → ServerState) (generation : ℕ) (first : PlainProcess) (P : ℕ → Type 0) (others : List Span) (span : Span) (now : PlainProcess)
    → span.generation ≡ generation → SpansGo states first (others ++ span ∷ []) now → AllByRecursion (λ s. s.generation ≤ generation) (others ++ span ∷ [])
    → IfSome (first_generation (others ++ span ∷ [])) P → AreWhole (others ++ span ∷ []) → IsOpen states generation first P others span now
open_last states generation first P others span now same go known started whole =
    let cut = go_cut states first others span now go in
    let apart = apart_cut others span whole.apart in
    record {
      between = cut.between;
      front = cut.front;
      turns = ap (λ g. turns_of (states g) span.turns cut.between []) (sym same) ∙ cut.turns;
      known = all_front (λ s. s.generation ≤ generation) others span known;
      started = first_front P others span started;
      some = all_front (λ s. 0 < s.turns) others span whole.turns;
      apart = apart.others;
      fresh = subst (λ n. IfSome (last_generation others) (λ g. g ≢ n)) same apart.fresh;
    }

open_new : (states : ℕ → ServerState) (generation : ℕ) (first : PlainProcess) (P : ℕ → Type 0) (others : List Span) (span : Span) (now : PlainProcess)
    → span ≡ record { generation = generation; turns = 0; lines = [] } → SpansGo states first others now → AllByRecursion (λ s. s.generation ≤ generation) others
    → IfSome (first_generation others) P → AreWhole others → IfSome (last_generation others) (λ g. g ≢ generation) → IsOpen states generation first P others span now
open_new states generation first P others span now new go known started whole fresh = record {
  between = now;
  front = go;
  turns = subst (λ x. turns_of (states generation) x.turns now [] ≡ some_turn now x.lines turns.Again) (sym new) (no_turns (states generation) now []);
  known = known;
  started = started;
  some = whole.turns;
  apart = whole.apart;
  fresh = fresh;
}

open_taken : (states : ℕ → ServerState) (generation : ℕ) (first : PlainProcess) (P : ℕ → Type 0) (spans others : List Span) (span : Span) (now : PlainProcess)
    → IsTaken generation spans others span → SpansGo states first spans now → AllByRecursion (λ s. s.generation ≤ generation) spans
    → IfSome (first_generation spans) P → AreWhole spans → IsOpen states generation first P others span now
open_taken states generation first P spans others span now (last_one same parts) go known started whole =
    open_last states generation first P others span now same (subst (λ x. SpansGo states first x now) parts go) (subst (AllByRecursion (λ s. s.generation ≤ generation)) parts known)
    (subst (λ x. IfSome (first_generation x) P) parts started) (subst AreWhole parts whole)
open_taken states generation first P spans others span now (new_one new same fresh) go known started whole =
    open_new states generation first P others span now new (subst (λ x. SpansGo states first x now) (sym same) go) (subst (AllByRecursion (λ s. s.generation ≤ generation)) (sym same) known)
    (subst (λ x. IfSome (first_generation x) P) (sym same) started) (subst AreWhole (sym same) whole) (subst (λ x. IfSome (last_generation x) (λ g. g ≢ generation)) (sym same) fresh)

-- the span after the turn
abbrev span_after : ServerState → Span → PlainProcess → Span
span_after s span p = record { generation = s.generation; turns = span.turns + 1; lines = span.lines ++ (turn_of s p).made }

-- where the states agree on what the process names for literals, and its turns so far belong to the journal
module _ (journal : List Entry) (states : ℕ → ServerState) (newest : ServerState) (done number : ℕ) (line : SpawnLine) (before after : Stand) (here : for_turns (states newest.generation) ≡ for_turns newest)
    (agree : (serial : ℕ) → IsTrue (is_among (names_of before.process).literals serial) → is_retired (states newest.generation) serial ≡ is_retired newest serial)
    (goes : IsSpawned journal states newest.generation done number line before None) (had : HadTurn newest before after) where
  abbrev first : PlainProcess
  first = new_process number line.target line.args

  abbrev Started : ℕ → Type 0
  Started g = published_before line.loader line.place journal ≤ g

  opened : IsOpen states newest.generation first Started had.others had.span before.process
  opened = open_taken states newest.generation first Started before.spans had.others had.span before.process had.taken goes.follow goes.was.known goes.was.started goes.was.whole

  -- a turn sees the newest generation's state as the server's: they agree on what its process names for literals
  same_turn : turn_of (states newest.generation) before.process ≡ turn_of newest before.process
  same_turn = turn_alike (states newest.generation) newest before.process here agree

  turns_made : turns_of (states newest.generation) (had.span.turns + 1) opened.between [] ≡ some_turn (turn_of newest before.process).process (had.span.lines ++ (turn_of newest before.process).made) (turn_of newest before.process).end
  turns_made =
      subst (λ (t : Turn). turns_of (states newest.generation) (had.span.turns + 1) opened.between [] ≡ some_turn t.process (had.span.lines ++ t.made) t.end) same_turn
      (rw add-one (turns_more (states newest.generation) had.span.turns opened.between [] before.process had.span.lines opened.turns))

  was : published_before line.loader line.place journal ≤ newest.generation → WasSpawned newest.generation done number journal line after
  was later =
      let call = turn_same newest before.process in
      record {
        spawned = goes.was.spawned;
        numbered = ap (λ x. x.number) (sym had.process) ∙ call.number ∙ goes.was.numbered;
        target = ap (λ x. x.target) (sym had.process) ∙ call.target ∙ goes.was.target;
        args = ap (λ x. x.args) (sym had.process) ∙ call.args ∙ goes.was.args;
        started = subst (λ x. IfSome (first_generation x) Started) (sym had.spans) (first_more Started had.others (span_after newest had.span before.process) opened.started later);
        known = subst (AllByRecursion (λ s. s.generation ≤ newest.generation)) (sym had.spans) (all_push (λ s. s.generation ≤ newest.generation) had.others (span_after newest had.span before.process) opened.known (omega arith));
        whole = subst AreWhole (sym had.spans) (record {
          turns = all_push (λ s. 0 < s.turns) had.others (span_after newest had.span before.process) opened.some (omega arith);
          apart = apart_more had.others (span_after newest had.span before.process) opened.apart opened.fresh;
        });
      }

  again_stands : (turn_of newest before.process).end ≡ turns.Again → published_before line.loader line.place journal ≤ newest.generation → IsSpawned journal states newest.generation done number line after None
  again_stands again later = record {
    was = was later;
    follow = subst (λ x. SpansGo states first x after.process) (sym had.spans)
        (go_more states first had.others (span_after newest had.span before.process) opened.between after.process opened.known opened.front
        (subst (λ e. turns_of (states newest.generation) (had.span.turns + 1) opened.between [] ≡ some_turn after.process (had.span.lines ++ (turn_of newest before.process).made) e) again
        (subst (λ x. turns_of (states newest.generation) (had.span.turns + 1) opened.between [] ≡ some_turn x (had.span.lines ++ (turn_of newest before.process).made) (turn_of newest before.process).end) had.process turns_made)));
  }

  over_stands : (fin : End) → (turn_of newest before.process).end ≡ turns.Ended fin → published_before line.loader line.place journal ≤ newest.generation → IsSpawned journal states newest.generation done number line after (Some fin)
  over_stands fin ended later = record {
    was = was later;
    follow = subst (λ x. SpansFollow states first x fin) (sym had.spans)
        (go_over states first had.others (span_after newest had.span before.process) opened.between after.process fin opened.known opened.front
        (subst (λ e. turns_of (states newest.generation) (had.span.turns + 1) opened.between [] ≡ some_turn after.process (had.span.lines ++ (turn_of newest before.process).made) e) ended
        (subst (λ x. turns_of (states newest.generation) (had.span.turns + 1) opened.between [] ≡ some_turn x (had.span.lines ++ (turn_of newest before.process).made) (turn_of newest before.process).end) had.process turns_made)));
  }

  ended_as : (e : TurnEnd) → (turn_of newest before.process).end ≡ e → published_before line.loader line.place journal ≤ newest.generation → StandsIn journal states newest.generation done number line after (phase_after e)
  ended_as turns.Again h later = again_stands h later
  ended_as (turns.Ended fin) h later = over_stands fin h later

  -- after the turn the process stands in its new phase
  pub turn_stands : published_before line.loader line.place journal ≤ newest.generation → StandsIn journal states newest.generation done number line after after.phase
  turn_stands later = subst (StandsIn journal states newest.generation done number line after) (sym had.phase) (ended_as (turn_of newest before.process).end refl later)

  abbrev the_mark : Mark
  the_mark = record { generation = newest.generation; process = after.process }

  mark_by : (span : Span) → span.generation ≡ newest.generation → before.spans ≡ had.others ++ span ∷ [] → after.spans ≡ had.others ++ record { generation = newest.generation; turns = span.turns + 1; lines = span.lines ++ (turn_of newest before.process).made } ∷ []
      → marks_of states first after.spans ≡ marks_of states first before.spans ++ the_mark ∷ []
  mark_by span same was now =
      let one : Span = record { generation = newest.generation; turns = span.turns; lines = span.lines } in
      let is : span ≡ one = ap (λ g. record { generation = g; turns = span.turns; lines = span.lines }) same in
      let before_is : before.spans ≡ had.others ++ one ∷ [] = was ∙ ap (λ x. had.others ++ x ∷ []) is in
      ap (marks_of states first) now
      ∙ marks_more states first had.others newest.generation span.turns span.lines (span.lines ++ (turn_of newest before.process).made)
      ∙ ap (λ (xs : List Span). marks_of states first xs ++ record { generation = newest.generation; process = (turn_of (states newest.generation) (process_after states first xs)).process } ∷ []) (sym before_is)
      ∙ ap (λ (x : PlainProcess). marks_of states first before.spans ++ record { generation = newest.generation; process = (turn_of (states newest.generation) x).process } ∷ []) (process_now states first before.spans before.process goes.follow)
      ∙ ap (λ (x : PlainProcess). marks_of states first before.spans ++ record { generation = newest.generation; process = x } ∷ []) (ap (λ (t : Turn). t.process) same_turn ∙ had.process)

  mark_new : had.span ≡ record { generation = newest.generation; turns = 0; lines = [] } → had.others ≡ before.spans → marks_of states first after.spans ≡ marks_of states first before.spans ++ the_mark ∷ []
  mark_new new same =
      let none : Span = record { generation = newest.generation; turns = 0; lines = [] } in
      let now : after.spans ≡ had.others ++ record { generation = newest.generation; turns = 0 + 1; lines = [] ++ (turn_of newest before.process).made } ∷ [] =
      had.spans ∙ ap (λ (x : Span). had.others ++ record { generation = newest.generation; turns = x.turns + 1; lines = x.lines ++ (turn_of newest before.process).made } ∷ []) new in
      ap (marks_of states first) now
      ∙ marks_more states first had.others newest.generation 0 [] ([] ++ (turn_of newest before.process).made)
      ∙ ap (λ (ms : List Mark). ms ++ record { generation = newest.generation; process = (turn_of (states newest.generation) (process_after states first (had.others ++ none ∷ []))).process } ∷ []) (marks_empty states first had.others newest.generation [])
      ∙ ap (λ (x : PlainProcess). marks_of states first had.others ++ record { generation = newest.generation; process = (turn_of (states newest.generation) x).process } ∷ []) (process_empty states first had.others newest.generation [])
      ∙ ap (λ (xs : List Span). marks_of states first xs ++ record { generation = newest.generation; process = (turn_of (states newest.generation) (process_after states first xs)).process } ∷ []) same
      ∙ ap (λ (x : PlainProcess). marks_of states first before.spans ++ record { generation = newest.generation; process = (turn_of (states newest.generation) x).process } ∷ []) (process_now states first before.spans before.process goes.follow)
      ∙ ap (λ (x : PlainProcess). marks_of states first before.spans ++ record { generation = newest.generation; process = x } ∷ []) (ap (λ (t : Turn). t.process) same_turn ∙ had.process)

  one_mark : IsTaken newest.generation before.spans had.others had.span → marks_of states first after.spans ≡ marks_of states first before.spans ++ the_mark ∷ []
  one_mark (last_one same parts) = mark_by had.span same parts had.spans
  one_mark (new_one new same fresh) = mark_new new same

  -- it has the turns that it had, and this one
  pub turn_marks : marks_of states first after.spans ≡ marks_of states first before.spans ++ record { generation = newest.generation; process = after.process } ∷ []
  turn_marks = one_mark had.taken
