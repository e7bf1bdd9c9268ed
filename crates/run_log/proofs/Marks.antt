-- The turns that spans tell, one by one, and the process after them: how they grow by a turn, and what an entry that joins the journal leaves of them.
use Rattle.std.proofs.Common.{◌≡◌, ℕ, zero, suc, ◌+◌, ◌<◌, ◌≤◌, ◌==◌, Bool, true, false, List, [], ◌∷◌, ◌++◌, length, length-append, Option, Some, None, is_some, if◌then◌else◌, refl, sym, ap, subst, ◌∙◌, arith, add-one, append_assoc, nat_le}
use Rattle.std.proofs.lemmas.Bool.{cond-true, cond-false, eqb-true, le-leb, lt-leb}
use Rattle.std.proofs.lemmas.List.{append-nil}
use Rattle.std.specs.List.{AllByRecursion}
use Rattle.server_core.specs.ServerState.{ServerState}
use Rattle.machine_core.specs.declared.process.Line.{Line}
use Rattle.machine_core.specs.declared.process.End.{End}
use Rattle.machine_core.specs.declared.process.End.TheVariants.{SystemLimit}
use Rattle.machine_core.specs.declared.process.TurnEnd.{TurnEnd}
use Rattle.machine_core.specs.declared.process.TurnEnd.TheVariants.{Again, Ended}
use Rattle.machine_core.specs.Process.{PlainProcess}
use Rattle.machine_core.specs.Turn.{Turn, turn_of}
use Rattle.machine_core.proofs.TurnLaws.{limit_ends, turn_counts, turn_ended}
use Rattle.run_log.specs.declared.logs.Span.{Span}
use Rattle.run_log.specs.Legal.{Mark, SpansFollow, SpansGo, after_turn, after_turns, last_up_to, marks_in, marks_of, process_after, turns_of}
use Rattle.run_log.proofs.TurnRuns.{ended_again, some_turn, process_in, end_in, none_some}
use Rattle.run_log.proofs.SpanRuns.{some_and}

module _ (s : ServerState) where
  -- no turn leaves the process as it is
  pub after_none : (p : PlainProcess) → after_turns s 0 p ≡ p
  unfolding after_turns
  after_none p = refl

  -- a run that ended was at its last turn
  after_ended : (last : Bool) (n : ℕ) (q : PlainProcess) (made : List Line) (e : TurnEnd) (t : Turn) → (last ≡ true → n ≡ 0) → (if last then Some (record { process = q; made = made; end = e }) else None) ≡ Some t → after_turns s n q ≡ t.process
  after_ended true n q made e t zero_left h = ap (λ k. after_turns s k q) (zero_left refl) ∙ after_none q ∙ ap (process_in q) h
  after_ended false n q made e t zero_left h = none_some t h

  after_more : (n : ℕ) (made : List Line) (q : PlainProcess) (more : List Line) (e : TurnEnd) (t : Turn) → ((m : List Line) → turns_of s n q m ≡ Some t → after_turns s n q ≡ t.process)
      → after_turn n (turns_of s n) made q more e ≡ Some t → after_turns s n q ≡ t.process
  after_more n made q more Again t next h = next (made ++ more) h
  after_more n made q more (Ended end) t next h = after_ended (n == 0) n q (made ++ more) (Ended end) t (eqb-true n 0) h

  -- the process after a run of turns is the one that the run leaves
  pub after_is : (n : ℕ) (p : PlainProcess) (made : List Line) (t : Turn) → turns_of s n p made ≡ Some t → after_turns s n p ≡ t.process
  unfolding turns_of after_turns
  after_is zero p made t h = ap (process_in p) h
  after_is (suc n) p made t h =
      after_more n made (turn_of s p).process (turn_of s p).made (turn_of s p).end t (λ m k. after_is n (turn_of s p).process m t k) h

  -- no turn has no mark
  pub marks_none : (g : ℕ) (p : PlainProcess) → marks_in s g 0 p ≡ []
  unfolding marks_in
  marks_none g p = refl

  -- one turn more has one mark more
  pub marks_one_more : (g n : ℕ) (p : PlainProcess) → marks_in s g (suc n) p ≡ marks_in s g n p ++ record { generation = g; process = (turn_of s (after_turns s n p)).process } ∷ []
  unfolding marks_in after_turns
  marks_one_more g zero p = refl
  marks_one_more g (suc n) p = ap (λ ms. record { generation = g; process = (turn_of s p).process } ∷ ms) (marks_one_more g n (turn_of s p).process)

module _ (states : ℕ → ServerState) where
  -- the marks of the last span stand behind those of the others
  pub marks_front : (p : PlainProcess) (others : List Span) (span : Span) → marks_of states p (others ++ span ∷ []) ≡ marks_of states p others ++ marks_in (states span.generation) span.generation span.turns (process_after states p others)
  marks_front p [] span = append-nil (marks_in (states span.generation) span.generation span.turns p)
  marks_front p (x ∷ others) span =
      let q = after_turns (states x.generation) x.turns p in
      let here = marks_in (states x.generation) x.generation x.turns p in
      ap (λ ms. here ++ ms) (marks_front q others span)
      ∙ sym (append_assoc here (marks_of states q others) (marks_in (states span.generation) span.generation span.turns (process_after states q others)))

  -- its turns follow those of the others
  pub process_front : (p : PlainProcess) (others : List Span) (span : Span) → process_after states p (others ++ span ∷ []) ≡ after_turns (states span.generation) span.turns (process_after states p others)
  process_front p [] span = refl
  process_front p (x ∷ others) span = process_front (after_turns (states x.generation) x.turns p) others span

  -- one turn more in the last span has one mark more, whatever its lines
  pub marks_more : (p : PlainProcess) (others : List Span) (g n : ℕ) (made now : List Line)
      → marks_of states p (others ++ record { generation = g; turns = n + 1; lines = now } ∷ [])
      ≡ marks_of states p (others ++ record { generation = g; turns = n; lines = made } ∷ [])
      ++ record { generation = g; process = (turn_of (states g) (process_after states p (others ++ record { generation = g; turns = n; lines = made } ∷ []))).process } ∷ []
  marks_more p others g n made now =
      let q = process_after states p others in
      let before : Span = record { generation = g; turns = n; lines = made } in
      let after : Span = record { generation = g; turns = n + 1; lines = now } in
      let one : List Mark = record { generation = g; process = (turn_of (states g) (after_turns (states g) n q)).process } ∷ [] in
      marks_front p others after
      ∙ ap (λ k. marks_of states p others ++ marks_in (states g) g k q) (add-one n)
      ∙ ap (λ ms. marks_of states p others ++ ms) (marks_one_more (states g) g n q)
      ∙ sym (append_assoc (marks_of states p others) (marks_in (states g) g n q) one)
      ∙ ap (λ ms. ms ++ one) (sym (marks_front p others before))
      ∙ ap (λ (x : PlainProcess). marks_of states p (others ++ before ∷ []) ++ record { generation = g; process = (turn_of (states g) x).process } ∷ []) (sym (process_front p others before))

  -- a last span without turns has no marks
  pub marks_empty : (p : PlainProcess) (others : List Span) (g : ℕ) (made : List Line) → marks_of states p (others ++ record { generation = g; turns = 0; lines = made } ∷ []) ≡ marks_of states p others
  marks_empty p others g made =
      marks_front p others (record { generation = g; turns = 0; lines = made })
      ∙ ap (λ ms. marks_of states p others ++ ms) (marks_none (states g) g (process_after states p others))
      ∙ append-nil (marks_of states p others)

  -- and leaves the process as it was
  pub process_empty : (p : PlainProcess) (others : List Span) (g : ℕ) (made : List Line) → process_after states p (others ++ record { generation = g; turns = 0; lines = made } ∷ []) ≡ process_after states p others
  process_empty p others g made = process_front p others (record { generation = g; turns = 0; lines = made }) ∙ after_none (states g) (process_after states p others)

go_on : (states : ℕ → ServerState) (span : Span) (spans : List Span) (p now : PlainProcess) → ((q : PlainProcess) → SpansGo states q spans now → process_after states q spans ≡ now)
    → (t : Turn) × ((turns_of (states span.generation) span.turns p [] ≡ Some t) × ((t.made ≡ span.lines) × (t.end ≡ Again) × SpansGo states t.process spans now)) → process_after states p (span ∷ spans) ≡ now
go_on states span spans p now next h =
    ap (λ q. process_after states q spans) (after_is (states span.generation) span.turns p [] h.0 h.1.0) ∙ next h.0.process h.1.1.2

-- where the turns so far lead to the present process, it is the one after the spans
pub process_now : (states : ℕ → ServerState) (p : PlainProcess) (spans : List Span) (now : PlainProcess) → SpansGo states p spans now → process_after states p spans ≡ now
process_now states p [] now go = go
process_now states p (span ∷ spans) now go =
    go_on states span spans p now (λ q. process_now states q spans now)
    (some_and (turns_of (states span.generation) span.turns p []) (λ t. (t.made ≡ span.lines) × (t.end ≡ Again) × SpansGo states t.process spans now) go.1)

-- the later of two turns that may be there
abbrev pub later_of : Option Mark → Option Mark → Option Mark
later_of m (Some later) = Some later
later_of m None = m

-- a turn where it is under no later generation than this one
abbrev pub if_up_to : ℕ → Mark → Option Mark
if_up_to generation m = if nat_le m.generation generation then Some m else None

either_later : (m later : Option Mark) → (if is_some later then later else m) ≡ later_of m later
either_later m None = refl
either_later m (Some later) = refl

-- the last of turns that begin so
up_to_first : (g : ℕ) (m : Mark) (marks : List Mark) → last_up_to g (m ∷ marks) ≡ later_of (if_up_to g m) (last_up_to g marks)
up_to_first g m marks = either_later (if_up_to g m) (last_up_to g marks)

-- the last of these turns, if there is one
abbrev pub last_of : List Mark → Option Mark
last_of [] = None
last_of (m ∷ marks) = later_of (Some m) (last_of marks)

-- the process after the last of these turns, or the one given where there is none
abbrev pub process_of_last : PlainProcess → Option Mark → PlainProcess
process_of_last p None = p
process_of_last p (Some m) = m.process

none_first : (m : Option Mark) → later_of None m ≡ m
none_first None = refl
none_first (Some m) = refl

later_assoc : (a b c : Option Mark) → later_of (later_of a b) c ≡ later_of a (later_of b c)
later_assoc a b None = refl
later_assoc a b (Some c) = refl

later_process : (p : PlainProcess) (a b : Option Mark) → process_of_last p (later_of a b) ≡ process_of_last (process_of_last p a) b
later_process p a None = refl
later_process p a (Some m) = refl

-- the last of turns in two parts
pub last_behind : (front marks : List Mark) → last_of (front ++ marks) ≡ later_of (last_of front) (last_of marks)
last_behind [] marks = sym (none_first (last_of marks))
last_behind (m ∷ front) marks = ap (later_of (Some m)) (last_behind front marks) ∙ sym (later_assoc (Some m) (last_of front) (last_of marks))

last_in : (s : ServerState) (g n : ℕ) (p : PlainProcess) → process_of_last p (last_of (marks_in s g n p)) ≡ after_turns s n p
unfolding marks_in after_turns
last_in s g zero p = refl
last_in s g (suc n) p = later_process p (Some (record { generation = g; process = (turn_of s p).process })) (last_of (marks_in s g n (turn_of s p).process)) ∙ last_in s g n (turn_of s p).process

-- the process after the spans is the one after the last turn, where there is one
pub last_process : (states : ℕ → ServerState) (p : PlainProcess) (spans : List Span) → process_of_last p (last_of (marks_of states p spans)) ≡ process_after states p spans
last_process states p [] = refl
last_process states p (span ∷ spans) =
    let here = marks_in (states span.generation) span.generation span.turns p in
    let rest = marks_of states (after_turns (states span.generation) span.turns p) spans in
    ap (process_of_last p) (last_behind here rest)
    ∙ later_process p (last_of here) (last_of rest)
    ∙ ap (λ (q : PlainProcess). process_of_last q (last_of rest)) (last_in (states span.generation) span.generation span.turns p)
    ∙ last_process states (after_turns (states span.generation) span.turns p) spans

here_up_to : (g : ℕ) (m : Mark) → m.generation ≤ g → if_up_to g m ≡ Some m
here_up_to g m low = cond-true (nat_le m.generation g) (Some m) None (le-leb m.generation g low)

past_up_to : (g : ℕ) (m : Mark) → g < m.generation → if_up_to g m ≡ None
past_up_to g m high = cond-false (nat_le m.generation g) (Some m) None (lt-leb m.generation g high)

-- the last of turns that are all under no later generation than this one
pub last_of_all : (g : ℕ) (marks : List Mark) → AllByRecursion (λ m. m.generation ≤ g) marks → last_up_to g marks ≡ last_of marks
last_of_all g [] known = refl
last_of_all g (m ∷ marks) known = up_to_first g m marks ∙ ap (λ x. later_of x (last_up_to g marks)) (here_up_to g m known.0) ∙ ap (later_of (Some m)) (last_of_all g marks known.1)

last_up_to_behind : (g : ℕ) (marks : List Mark) (m : Mark) → last_up_to g (marks ++ m ∷ []) ≡ later_of (last_up_to g marks) (if_up_to g m)
last_up_to_behind g [] m = sym (none_first (if_up_to g m))
last_up_to_behind g (x ∷ marks) m =
    up_to_first g x (marks ++ m ∷ [])
    ∙ ap (later_of (if_up_to g x)) (last_up_to_behind g marks m)
    ∙ sym (later_assoc (if_up_to g x) (last_up_to g marks) (if_up_to g m))
    ∙ ap (λ (o : Option Mark). later_of o (if_up_to g m)) (sym (up_to_first g x marks))

-- one that joins under a later generation changes nothing
pub last_past : (g : ℕ) (marks : List Mark) (m : Mark) → g < m.generation → last_up_to g (marks ++ m ∷ []) ≡ last_up_to g marks
last_past g marks m high = last_up_to_behind g marks m ∙ ap (later_of (last_up_to g marks)) (past_up_to g m high)

all_behind : (top : ℕ) (front marks : List Mark) → AllByRecursion (λ m. m.generation ≤ top) front → AllByRecursion (λ m. m.generation ≤ top) marks → AllByRecursion (λ m. m.generation ≤ top) (front ++ marks)
all_behind top [] marks f h = h
all_behind top (m ∷ front) marks f h = (f.0, all_behind top front marks f.1 h)

all_in : (s : ServerState) (top g n : ℕ) (p : PlainProcess) → g ≤ top → AllByRecursion (λ m. m.generation ≤ top) (marks_in s g n p)
unfolding marks_in
all_in s top g zero p low = tt
all_in s top g (suc n) p low = (low, all_in s top g n (turn_of s p).process low)

-- where no span is under a later generation, no turn is
pub marks_within : (states : ℕ → ServerState) (top : ℕ) (p : PlainProcess) (spans : List Span) → AllByRecursion (λ span. span.generation ≤ top) spans → AllByRecursion (λ m. m.generation ≤ top) (marks_of states p spans)
marks_within states top p [] known = tt
marks_within states top p (span ∷ spans) known =
    let q = after_turns (states span.generation) span.turns p in
    all_behind top (marks_in (states span.generation) span.generation span.turns p) (marks_of states q spans) (all_in (states span.generation) top span.generation span.turns p known.0)
    (marks_within states top q spans known.1)

module _ (s : ServerState) where
  counts_after : (n : ℕ) (made : List Line) (q : PlainProcess) (more : List Line) (e : TurnEnd) (t : Turn) → e ≡ Again → after_turn n (turns_of s n) made q more e ≡ Some t → turns_of s n q (made ++ more) ≡ Some t
  counts_after n made q more Again t goes h = h
  counts_after n made q more (Ended end) t goes h = ended_again end goes

  first_goes : (last : Bool) (q : PlainProcess) (made : List Line) (e : End) (t : Turn) → (if last then some_turn q made (Ended e) else None) ≡ Some t → t.end ≡ Again → ⊥
  first_goes true q made e t h again = ended_again e (ap (end_in Again) h ∙ again)
  first_goes false q made e t h again = none_some t h

  -- where a run of turns goes on, its first turn does
  goes_first : (n : ℕ) (made : List Line) (q : PlainProcess) (more : List Line) (e : TurnEnd) (t : Turn) → after_turn n (turns_of s n) made q more e ≡ Some t → t.end ≡ Again → e ≡ Again
  goes_first n made q more Again t h again = refl
  goes_first n made q more (Ended end) t h again = absurd (first_goes (n == 0) q (made ++ more) end t h again)

  -- a turn after which the process goes on counts
  pub again_counts : (p : PlainProcess) → (turn_of s p).end ≡ Again → (turn_of s p).process.turns ≡ p.turns + 1
  again_counts p again = turn_counts s p (λ limit. ended_again SystemLimit (sym (limit_ends s p limit) ∙ again))

  turns_counted : (n : ℕ) (p : PlainProcess) (made : List Line) (t : Turn) → turns_of s n p made ≡ Some t → t.end ≡ Again → t.process.turns ≡ p.turns + n
  unfolding turns_of
  turns_counted zero p made t h again =
      let e : p.turns ≡ t.process.turns = ap (λ (o : Option Turn). (process_in p o).turns) h in
      omega (arith, e)
  turns_counted (suc n) p made t h again =
      let q = (turn_of s p).process in
      let more = (turn_of s p).made in
      let goes = goes_first n made q more (turn_of s p).end t h again in
      let first = again_counts p goes in
      let rest = turns_counted n q (made ++ more) t (counts_after n made q more (turn_of s p).end t goes h) again in
      omega (arith, first, rest)

  marks_length : (g n : ℕ) (p : PlainProcess) → length (marks_in s g n p) ≡ n
  unfolding marks_in
  marks_length g zero p = refl
  marks_length g (suc n) p = ap suc (marks_length g n (turn_of s p).process)

go_counted : (states : ℕ → ServerState) (span : Span) (spans : List Span) (p now : PlainProcess) → ((q : PlainProcess) → SpansGo states q spans now → now.turns ≡ q.turns + length (marks_of states q spans))
    → (t : Turn) × ((turns_of (states span.generation) span.turns p [] ≡ Some t) × ((t.made ≡ span.lines) × (t.end ≡ Again) × SpansGo states t.process spans now)) → now.turns ≡ p.turns + length (marks_of states p (span ∷ spans))
go_counted states span spans p now next h =
    let s = states span.generation in
    let q = after_turns s span.turns p in
    let same = after_is s span.turns p [] h.0 h.1.0 in
    let rest = next q (subst (λ x. SpansGo states x spans now) (sym same) h.1.1.2) in
    let here : q.turns ≡ p.turns + span.turns = ap (λ (x : PlainProcess). x.turns) same ∙ turns_counted s span.turns p [] h.0 h.1.0 h.1.1.1 in
    let many = length-append (marks_in s span.generation span.turns p) (marks_of states q spans) in
    omega (arith, rest, here, many, marks_length s span.generation span.turns p)

-- a process that goes on has counted each of its turns
pub marks_counted : (states : ℕ → ServerState) (p : PlainProcess) (spans : List Span) (now : PlainProcess) → SpansGo states p spans now → now.turns ≡ p.turns + length (marks_of states p spans)
marks_counted states p [] now go = let e : p.turns ≡ now.turns = ap (λ (x : PlainProcess). x.turns) go in omega (arith, e)
marks_counted states p (span ∷ spans) now go =
    go_counted states span spans p now (λ q. marks_counted states q spans now)
    (some_and (turns_of (states span.generation) span.turns p []) (λ t. (t.made ≡ span.lines) × (t.end ≡ Again) × SpansGo states t.process spans now) go.1)

frames_same : (p q : PlainProcess) → p ≡ q → p.frames ≡ [] → q.frames ≡ []
frames_same p q e h = subst (λ (x : PlainProcess). x.frames ≡ []) e h

ended_frames : (last : Bool) (q : PlainProcess) (made : List Line) (end : End) (t : Turn) (fin : End) → (Ended end ≡ Ended fin → q.frames ≡ []) → (if last then some_turn q made (Ended end) else None) ≡ Some t → t.end ≡ Ended fin → t.process.frames ≡ []
ended_frames true q made end t fin here h over = frames_same q t.process (ap (process_in q) h) (here (ap (end_in Again) h ∙ over))
ended_frames false q made end t fin here h over = none_some t h

-- where a run of turns ends, its process has no frame
last_ended : (s : ServerState) (n : ℕ) (q : PlainProcess) (made more : List Line) (e : TurnEnd) (t : Turn) (fin : End) → (e ≡ Ended fin → q.frames ≡ []) → (turns_of s n q (made ++ more) ≡ Some t → t.process.frames ≡ [])
    → after_turn n (turns_of s n) made q more e ≡ Some t → t.end ≡ Ended fin → t.process.frames ≡ []
last_ended s n q made more Again t fin here later h over = later h
last_ended s n q made more (Ended end) t fin here later h over = ended_frames (n == 0) q (made ++ more) end t fin here h over

pub turns_ended : (s : ServerState) (n : ℕ) (p : PlainProcess) (made : List Line) (t : Turn) (fin : End) → turns_of s n p made ≡ Some t → t.end ≡ Ended fin → t.process.frames ≡ []
unfolding turns_of
turns_ended s zero p made t fin h over = ended_again fin (sym (ap (end_in Again) h ∙ over))
turns_ended s (suc n) p made t fin h over =
    last_ended s n (turn_of s p).process made (turn_of s p).made (turn_of s p).end t fin (turn_ended s p fin) (λ k. turns_ended s n (turn_of s p).process (made ++ (turn_of s p).made) t fin k over) h over

last_over : (states : ℕ → ServerState) (span : Span) (p : PlainProcess) (fin : End) → (t : Turn) × ((turns_of (states span.generation) span.turns p [] ≡ Some t) × ((t.made ≡ span.lines) × (t.end ≡ Ended fin))) → (after_turns (states span.generation) span.turns p).frames ≡ []
last_over states span p fin h =
    frames_same h.0.process (after_turns (states span.generation) span.turns p) (sym (after_is (states span.generation) span.turns p [] h.0 h.1.0)) (turns_ended (states span.generation) span.turns p [] h.0 fin h.1.0 h.1.1.1)

go_over_frames : (states : ℕ → ServerState) (span : Span) (spans : List Span) (p : PlainProcess) (fin : End) → ((q : PlainProcess) → SpansFollow states q spans fin → (process_after states q spans).frames ≡ [])
    → (t : Turn) × ((turns_of (states span.generation) span.turns p [] ≡ Some t) × ((t.made ≡ span.lines) × (t.end ≡ Again) × SpansFollow states t.process spans fin)) → (process_after states p (span ∷ spans)).frames ≡ []
go_over_frames states span spans p fin next h =
    frames_same (process_after states h.0.process spans) (process_after states p (span ∷ spans))
    (ap (λ q. process_after states q spans) (sym (after_is (states span.generation) span.turns p [] h.0 h.1.0))) (next h.0.process h.1.1.2)

-- a process that has ended has no frame, and so names nothing
pub process_over : (states : ℕ → ServerState) (p : PlainProcess) (spans : List Span) (fin : End) → SpansFollow states p spans fin → (process_after states p spans).frames ≡ []
process_over states p [] fin follow = absurd follow
process_over states p (span ∷ []) fin follow = last_over states span p fin (some_and (turns_of (states span.generation) span.turns p []) (λ t. (t.made ≡ span.lines) × (t.end ≡ Ended fin)) follow)
process_over states p (span ∷ next ∷ spans) fin follow =
    go_over_frames states span (next ∷ spans) p fin (λ q. process_over states q (next ∷ spans) fin)
    (some_and (turns_of (states span.generation) span.turns p []) (λ t. (t.made ≡ span.lines) × (t.end ≡ Again) × SpansFollow states t.process (next ∷ spans) fin) follow.1)
