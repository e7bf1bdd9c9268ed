-- What one who judges a whole log needs of where its processes stand: which processes a clause on all turns looks at, and that they stand there still
-- under a later state.
use Rattle.std.proofs.Common.{◌≡◌, ◌↔◌, ◌≤◌, ◌<◌, ◌+◌, ◌∙◌, ℕ, refl, sym, ap, subst, arith, Bool, true, false, List, [], ◌∷◌, ◌++◌, append_assoc, length, take, drop, Option, Some, None, IfSome}
use Rattle.std.proofs.lemmas.List.{append-nil, take-append-drop, take_all}
use Rattle.std.specs.List.{AllByRecursion}
use Rattle.term_core.specs.declared.hold.TheConstants.{MOST_AREAS}
use Rattle.server_core.specs.ServerState.{ServerState}
use Rattle.machine_core.specs.declared.process.End.{End}
use Rattle.machine_core.specs.declared.process.TurnEnd.TheVariants.{Again, Ended}
use Rattle.machine_core.specs.Holds.{area_count}
use Rattle.machine_core.specs.Process.{PlainProcess, Words, names_of, process_of}
use Rattle.machine_core.specs.View.{server_words}
use Rattle.machine_core.specs.LaterStates.{HasAreas}
use Rattle.machine_core.proofs.LaterWords.{process_later, frameless_same}
use Rattle.machine_core.proofs.TurnLaws.{may_turn_later}
use Rattle.run_log.specs.declared.logs.ProcessLog.{ProcessLog}
use Rattle.run_log.specs.declared.logs.Span.{Span}
use Rattle.run_log.specs.Legal.{Mark, NamesNot, SpansFollow, SpansGo, StandsNotIn, last_up_to, marks_of, process_after, turns_of}
use Rattle.run_log.proofs.Marks.{last_of, last_of_all, last_past, last_process, marks_within, process_now, process_of_last, process_over}
use Rattle.run_log.proofs.SpanRuns.{some_and}
use Rattle.run_log.proofs.TurnRuns.{ended_again, process_in}
use Rattle.span_check.proofs.TurnRows.{end_in}
use Rattle.span_check.specs.declared.standing.Standing.{Standing}
use Rattle.span_check.specs.Standings.{IsReached, IsReady, StandsAt, StandsSo, first_of, marks_in_log}
use Rattle.span_check.proofs.MarkPlaces.{marks_all, marks_join}
use Rattle.run_log.proofs.ListPlaces.{all_weaker}

-- ---- the last turn up to a generation

-- turns under later generations change nothing
last_front : (g : ℕ) (old new : List Mark) → AllByRecursion (λ m. g < m.generation) new → last_up_to g (old ++ new) ≡ last_up_to g old
last_front g old [] high = ap (last_up_to g) (append-nil old)
last_front g old (m ∷ new) high = ap (last_up_to g) (sym (append_assoc old (m ∷ []) new)) ∙ last_front g (old ++ m ∷ []) new high.1 ∙ last_past g old m high.0

module _ (states : ℕ → ServerState) (words : Words) (number : ℕ) (log : ProcessLog) (standing : Standing) (g : ℕ) (reached : IsReached (g + 1) log standing) where
  abbrev first : PlainProcess
  first = first_of number log

  abbrev before : List Span
  before = take standing.gone log.spans

  abbrev now : PlainProcess
  now = process_of words standing.process

  stands_after : (b : Bool) → (b ≡ true → standing.gone ≡ length log.spans) → StandsSo states number log standing.gone now b → process_after states first before ≡ now
  stands_after false all at = process_now states first before now at
  stands_after true all at = ap (process_after states first) (take_all standing.gone log.spans (omega (arith, all refl))) ∙ sym at.process

  -- the process after the spans that are gone is the one that stands
  pub stands_now : StandsAt states words number log standing → process_after states first before ≡ now
  stands_now at = stands_after standing.ended reached.over at

  before_low : AllByRecursion (λ x. x.generation ≤ g) before
  before_low = all_weaker (λ x. x.generation < g + 1) (λ x. x.generation ≤ g) (λ x h. omega (arith, h)) before reached.before

  behind_high : AllByRecursion (λ x. g < x.generation) (drop standing.gone log.spans)
  behind_high = all_weaker (λ x. g + 1 ≤ x.generation) (λ x. g < x.generation) (λ x h. omega (arith, h)) (drop standing.gone log.spans) reached.behind

  last_is : last_up_to g (marks_in_log states number log) ≡ last_of (marks_of states first before)
  last_is =
      let rest = marks_of states (process_after states first before) (drop standing.gone log.spans) in
      ap (λ spans. last_up_to g (marks_of states first spans)) (sym (take-append-drop standing.gone log.spans))
      ∙ ap (last_up_to g) (marks_join states first before (drop standing.gone log.spans))
      ∙ last_front g (marks_of states first before) rest (marks_all (λ n. g < n) states (process_after states first before) (drop standing.gone log.spans) behind_high)
      ∙ last_of_all g (marks_of states first before) (marks_within states g first before before_low)

  -- the last turn up to a generation left the process that stands behind the generation's spans; where there is none, that process has had no turn
  pub last_stands : StandsAt states words number log standing → process_of_last first (last_up_to g (marks_in_log states number log)) ≡ now
  last_stands at = ap (process_of_last first) last_is ∙ last_process states first before ∙ stands_now at

  last_to : (P : PlainProcess → Type 0) (o : Option Mark) → P first → process_of_last first o ≡ now → IfSome o (λ m. P m.process) → P now
  last_to P None bare e h = subst P e bare
  last_to P (Some m) bare e h = subst P e h

  last_from : (P : PlainProcess → Type 0) (o : Option Mark) → process_of_last first o ≡ now → P now → IfSome o (λ m. P m.process)
  last_from P None e h = tt
  last_from P (Some m) e h = subst P (sym e) h

  -- no frame is of the instance after that turn exactly where none is now
  pub stands_not : StandsAt states words number log standing → (serial : ℕ) → IfSome (last_up_to g (marks_in_log states number log)) (λ m. StandsNotIn serial m.process) ↔ StandsNotIn serial now
  stands_not at serial = (
    last_to (StandsNotIn serial) (last_up_to g (marks_in_log states number log)) refl (last_stands at),
    last_from (StandsNotIn serial) (last_up_to g (marks_in_log states number log)) (last_stands at),
  )

  -- the area is named in no way after that turn exactly where it is not now
  pub names_not : StandsAt states words number log standing → (serial : ℕ) → IfSome (last_up_to g (marks_in_log states number log)) (λ m. NamesNot serial m.process) ↔ NamesNot serial now
  names_not at serial = (
    last_to (NamesNot serial) (last_up_to g (marks_in_log states number log)) (record { frames = refl; literals = refl }) (last_stands at),
    last_from (NamesNot serial) (last_up_to g (marks_in_log states number log)) (last_stands at),
  )

-- ---- where all spans are gone

-- a process that goes on after all its spans did not end with them
pub goes_not_over : (states : ℕ → ServerState) (p last : PlainProcess) (spans : List Span) (fin : End) → SpansGo states p spans last → SpansFollow states p spans fin → ⊥
goes_not_over states p last [] fin go follow = follow
goes_not_over states p last (span ∷ []) fin go follow =
    let a = some_and (turns_of (states span.generation) span.turns p []) (λ t. (t.made ≡ span.lines) × (t.end ≡ Again) × SpansGo states t.process [] last) go.1 in
    let b = some_and (turns_of (states span.generation) span.turns p []) (λ t. (t.made ≡ span.lines) × (t.end ≡ Ended fin)) follow in
    ended_again fin (sym b.1.1.1 ∙ ap end_in (sym b.1.0 ∙ a.1.0) ∙ a.1.1.1)
goes_not_over states p last (span ∷ next ∷ spans) fin go follow =
    let a = some_and (turns_of (states span.generation) span.turns p []) (λ t. (t.made ≡ span.lines) × (t.end ≡ Again) × SpansGo states t.process (next ∷ spans) last) go.1 in
    let b = some_and (turns_of (states span.generation) span.turns p []) (λ t. (t.made ≡ span.lines) × (t.end ≡ Again) × SpansFollow states t.process (next ∷ spans) fin) follow.1 in
    let same : a.0.process ≡ b.0.process = ap (process_in p) (sym a.1.0 ∙ b.1.0) in
    goes_not_over states b.0.process last (next ∷ spans) fin (subst (λ q. SpansGo states q (next ∷ spans) last) same a.1.1.2) b.1.1.2

-- ---- a later state of the server

module _ (older newer : ServerState) (has : HasAreas older newer) (states : ℕ → ServerState) (number : ℕ) (log : ProcessLog) (standing : Standing) (ready : IsReady older standing) where
  stands_so_later : (b : Bool) → standing.ended ≡ b → StandsSo states number log standing.gone (process_of (server_words older) standing.process) b → StandsSo states number log standing.gone (process_of (server_words newer) standing.process) b
  stands_so_later false going at =
      subst (SpansGo states (first_of number log) (take standing.gone log.spans)) (sym (process_later older newer has.words standing.process (ready going).may_turn.values)) at
  stands_so_later true ended at =
      let bare = ap (λ (q : PlainProcess). q.frames) at.process ∙ process_over states (first_of number log) log.spans log.fin at.follow in
      record { all_gone = at.all_gone; follow = at.follow; process = frameless_same (server_words older) (server_words newer) standing.process bare ∙ at.process }

  -- it stands where it stood
  pub stands_later : StandsAt states (server_words older) number log standing → StandsAt states (server_words newer) number log standing
  stands_later at = stands_so_later standing.ended refl at

-- and may go on
pub ready_later : (older newer : ServerState) (standing : Standing) → HasAreas older newer → IsReady older standing → IsReady newer standing
ready_later older newer standing has ready going =
    let old = ready going in
    let same = process_later older newer has.words standing.process old.may_turn.values in
    record {
      may_turn = may_turn_later older newer (names_of (process_of (server_words older) standing.process)) (names_of (process_of (server_words newer) standing.process)) standing.process has refl old.may_turn;
      few = subst (λ (q : PlainProcess). area_count (names_of q) ≤ MOST_AREAS) (sym same) old.few;
    }

-- nor does one that goes on where all spans of its log are gone
pub still_goes : (states : ℕ → ServerState) (words : Words) (number : ℕ) (log : ProcessLog) (standing : Standing) → standing.ended ≡ false → standing.gone ≡ length log.spans → StandsAt states words number log standing
    → SpansFollow states (first_of number log) log.spans log.fin → ⊥
still_goes states words number log standing going gone at follow =
    let go = subst (StandsSo states number log standing.gone (process_of words standing.process)) going at in
    goes_not_over states (first_of number log) (process_of words standing.process) log.spans log.fin
    (subst (λ spans. SpansGo states (first_of number log) spans (process_of words standing.process)) (take_all standing.gone log.spans (omega (arith, gone))) go) follow
