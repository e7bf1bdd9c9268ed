-- A process that comes to its place while its member reports and learns its note, and no process has a turn.
use Rattle.std.proofs.Common.{◌≡◌, ◌≢◌, ℕ, ◌<◌, ◌≤◌, ◌%◌, List, [], ◌∷◌, ◌++◌, length, Option, Some, None, refl, sym, ap, subst, ◌∙◌, arith}
use Rattle.std.specs.Prelude.{IsTrue, IsSomeAnd, ◌==◌, not, slice_get, slice_set, unwrap_or}
use Rattle.std.proofs.lemmas.Bool.{and_from, eq-eqb, ne_eqb, not_from_false}
use Rattle.std.proofs.lemmas.List.{append-nil}
use Rattle.std.proofs.lemmas.Option.{none-some}
use mathlib.Core.Logic.{dite}
use native.Mathlib.Decide.{ℕ_discrete}
use Rattle.atomic_table.specs.Seated.{TableId}
use Rattle.term_core.specs.declared.atom.Mfa.{Mfa}
use Rattle.area_core.specs.declared.map.TheConstants.{PROCESSES}
use Rattle.area_core.specs.declared.table.Published.{Published}
use Rattle.shared_words.specs.declared.opening.Opening.{Opening}
use Rattle.shared_words.specs.declared.seats.Member as tokens
use Rattle.shared_words.specs.declared.seats.Note as notes
use Rattle.shared_words.specs.declared.view.MemberView.{MemberView}
use Rattle.shared_words.specs.Notes.{note_joined}
use Rattle.shared_words.specs.Processes.{held_by_view, note_in}
use Rattle.shared_words.specs.Rule.{IsBeginning}
use Rattle.shared_words.specs.Views.{newest_number, published_at}
use Rattle.progress_words.specs.Reports.{HoldsReported}
use Rattle.progress_words.specs.Tokens.{IsMemberOf, IsNoteOf, IsSameMember, noted_by}
use Rattle.anchors.specs.Holds.{view_of}
use Rattle.inbox.specs.Ends.{Taking, took}
use Rattle.area_core.specs.Readers.{is_slot_of}
use Rattle.area_core.specs.declared.readers.Slots.TheVariants.{OfMember}
use Rattle.code_law.specs.Served.{IsServed}
use Rattle.run_log.proofs.ListPlaces.{set_here, set_there}
use Rattle.run_law.specs.Newcomers.{SpawnedProcess}
use Rattle.word_lap.specs.declared.process_run.ProcessRun.{ProcessRun}
use Rattle.word_lap.specs.Newcomers.{IsNoted, IsNotedIn}
use Rattle.word_lap.specs.Schedulers.{IsBetweenTurns, IsToken, KeepsProcesses}
use Rattle.word_lap.specs.Taking.{BelongsNot, CameAt, HaveCome, IsFreeFor, IsNew, OnlyCame, TurnsNone, as_before, came_here}
use Rattle.word_lap.proofs.Arrivals.{comes_here, learnt_already, let_go, newcomer_held, note_stays}
use Rattle.word_lap.proofs.Reports.{begins_through, report_keeps}
use Rattle.word_lap.proofs.Tokens.{token_moved}

-- ---- the note

-- it is of the words that the name stands for
pub noted_in : (named : Option TableId) (table : TableId) (number published : ℕ) (note : notes.Note) → named ≡ Some table → IsNoted named number published note → IsNotedIn table number published note
noted_in named table number published note is h = subst (λ (o : Option TableId). IsSomeAnd o (λ t. IsNotedIn t number published note)) is h

pub note_of : (named : Option TableId) (table : TableId) (number published : ℕ) (note : notes.Note) → named ≡ Some table → IsNoted named number published note → IsNoteOf table note.process note
note_of named table number published note is h = record { process = refl; seat = (noted_in named table number published note is h).of.seat }

own_process : (member count process : ℕ) → 0 < count → process % count ≡ member → IsTrue (is_slot_of (OfMember member count) process)
own_process member count process some own =
    and_from (not (count == 0)) (process % count == member) (not_from_false (count == 0) (ne_eqb count 0 (λ none. absurd (omega (arith, some, none))))) (eq-eqb (process % count) member own)

-- and its process is one of the member's
pub note_own : (named : Option TableId) (table : TableId) (number published member count : ℕ) (note : notes.Note) → named ≡ Some table → IsNoted named number published note → 0 < count → number % count ≡ member
    → IsTrue (is_slot_of (OfMember member count) note.process)
note_own named table number published member count note is h some own =
    subst (λ (p : ℕ). IsTrue (is_slot_of (OfMember member count) p)) (sym (noted_in named table number published note is h).of.process) (own_process member count number some own)

-- ---- the process

-- the process before its first turn
pub record IsFresh (spawn : SpawnedProcess) (run : ProcessRun) : Type 0 where
  pub number : run.process.number ≡ spawn.number
  pub target : run.process.target ≡ spawn.target
  pub args : run.process.args ≡ spawn.args
  pub turns : run.process.turns ≡ 0
  pub frames : run.process.frames ≡ []
  pub spans : run.spans ≡ []
  pub fin : run.fin ≡ None

module _ (functions : List Mfa) (opening : Opening) (table : TableId) (old mid new : tokens.Member) (note : notes.Note) (spawn : SpawnedProcess) (run : ProcessRun) (generation : ℕ) (processes : List (Option ProcessRun)) where
  abbrev m : MemberView
  m = view_of mid

  module _ (token : IsToken table old) (reached : IsToken table mid) (number : mid.number ≡ old.number) (between : IsBetweenTurns m) (r : HoldsReported (IsServed functions) (view_of old) m generation) (caught : spawn.published ≤ generation) (noted : IsNotedIn table spawn.number spawn.published note)
      (joined : view_of new ≡ note_joined (noted_by note) m) (fresh : IsFresh spawn run) (free : IsFreeFor spawn.number old.number opening.members processes) where
    own_newest : m.member.generation ≡ newest_number m.seen
    own_newest = ap (λ (x : MemberView). x.member.generation) r.view

    learnt : spawn.published ≤ m.member.generation
    learnt = (let is = own_newest in let newest_is = r.newest in omega (arith, is, newest_is, caught))

    few : length (noted_by note).seen ≤ length m.seen
    few = (let most = learnt in let room = reached.rooted.learnt in let count = noted.learnt in omega (arith, most, room, count))

    served : IsServed functions (held_by_view m)
    served = subst (λ (n : ℕ). IsServed functions (published_at m.seen n)) (r.newest ∙ sym own_newest) r.served

    own : spawn.number % opening.members ≡ m.member.number
    own = free.own ∙ sym (reached.seat.numbered ∙ number)

    process_is : (noted_by note).note.process ≡ spawn.number
    process_is = noted.of.seat.process_is ∙ noted.of.process

    -- the note has learnt of no more than the member
    view_is : view_of new ≡ record m { notes = m.notes ++ (noted_by note).note ∷ [] }
    view_is = joined ∙ learnt_already (noted_by note) m few

    slots_are : (view_of new).slots ≡ m.slots
    slots_are = ap (λ (x : MemberView). x.slots) view_is

    pub welcome_token : IsMemberOf table new → IsSameMember mid new → new.root ≡ mid.root → IsToken table new
    welcome_token seat same root = token_moved table mid new reached seat same root slots_are (ap (λ (x : MemberView). x.member.generation) view_is) (ap (λ (x : MemberView). x.seen) view_is)

    -- what a scheduler keeps is kept, with one process more
    pub welcome_keeps : (taken : List SpawnedProcess) → KeepsProcesses functions opening (view_of old) taken processes
        → KeepsProcesses functions opening (view_of new) (taken ++ spawn ∷ []) (slice_set processes spawn.number (Some run))
    welcome_keeps taken h =
        let here = report_keeps functions opening (view_of old) m generation token.rooted.learnt between.awake r taken processes h in
        let empty = (here.each spawn.number None free.free).0 in
        let held = newcomer_held functions opening m (noted_by note).note spawn run between served r.areas free.below own learnt process_is noted.told
        fresh.number fresh.target fresh.args fresh.turns fresh.frames fresh.spans fresh.fin empty in
        let all = comes_here functions opening m taken spawn (noted_by note).note run process_is processes held here in
        subst (λ (x : MemberView). KeepsProcesses functions opening x (taken ++ spawn ∷ []) (slice_set processes spawn.number (Some run))) (sym view_is) all

    -- and none had a turn
    none_turned : TurnsNone (view_of old) (view_of new)
    none_turned = record {
      slots = slots_are ∙ ap (λ (x : MemberView). x.slots) r.view;
      learnt = subst (λ (seen : List Published). IsBeginning (view_of old).seen seen) (sym (ap (λ (x : MemberView). x.seen) view_is)) r.learnt;
      notes = λ p published at. ap (λ (x : MemberView). note_in x.notes p) view_is ∙ note_stays m.notes (noted_by note).note p published (ap (λ (x : MemberView). note_in x.notes p) r.view ∙ at);
      number = ap (λ (x : MemberView). x.member.number) view_is ∙ ap (λ (x : MemberView). x.member.number) r.view;
    }

    new_here : IsNew run
    new_here = record { turns = fresh.turns; frames = fresh.frames; spans = fresh.spans; going = fresh.fin }

    abbrev placed : List (Option ProcessRun)
    placed = slice_set processes spawn.number (Some run)

    only_here : OnlyCame processes placed
    only_here p place at = dite (ℕ_discrete p spawn.number)
        (λ (same : p ≡ spawn.number).
        let was : place ≡ None = ap (λ (o : Option (Option ProcessRun)). unwrap_or o None) (sym at ∙ ap (slice_get processes) same ∙ free.free) in
        (Some run, (ap (slice_get placed) same ∙ set_here processes spawn.number None (Some run) free.free, came_here run was refl new_here)))
        (λ (apart : p ≡ spawn.number → ⊥). (place, (set_there processes spawn.number (Some run) p apart ∙ at, as_before refl)))

    pub welcome_comes : HaveCome (view_of old) (view_of new) processes placed
    welcome_comes = record { none = none_turned; places = only_here }

-- ---- one after another

-- nobody came
none_turns : (m : MemberView) → TurnsNone m m
none_turns m = record { slots = refl; learnt = ([], sym (append-nil m.seen)); notes = λ p published at. at; number = refl }

pub none_come : (m : MemberView) (processes : List (Option ProcessRun)) → HaveCome m m processes processes
none_come m processes = record { none = none_turns m; places = λ p place at. (place, (at, as_before refl)) }

pub turns_none_on : (a b c : MemberView) → TurnsNone a b → TurnsNone b c → TurnsNone a c
turns_none_on a b c first second = record {
  slots = second.slots ∙ first.slots;
  learnt = begins_through a.seen b.seen c.seen first.learnt second.learnt;
  notes = λ p published at. second.notes p published (first.notes p published at);
  number = second.number ∙ first.number;
}

came_on : (x y z : Option ProcessRun) → CameAt x y → CameAt y z → CameAt x z
came_on x y z (as_before is) (as_before then) = as_before (then ∙ is)
came_on x y z (as_before is) (came_here run none now new) = came_here run (sym is ∙ none) now new
came_on x y z (came_here run none now new) (as_before then) = came_here run none (then ∙ now) new
came_on x y z (came_here run none now new) (came_here other gone is later) = absurd (none-some run (sym gone ∙ now))

pub have_come_on : (a b c : MemberView) (xs ys zs : List (Option ProcessRun)) → HaveCome a b xs ys → HaveCome b c ys zs → HaveCome a c xs zs
have_come_on a b c xs ys zs first second = record {
  none = turns_none_on a b c first.none second.none;
  places = λ p place at.
      let one = first.places p place at in
      let two = second.places p one.0 one.1.0 in
      (two.0, (two.1.0, came_on place one.0 two.0 one.1.1 two.1.1));
}

-- a report behind them
pub come_reported : (Served : Published → Type 0) (a b c : MemberView) (generation : ℕ) (xs ys : List (Option ProcessRun)) → HaveCome a b xs ys → HoldsReported Served b c generation → HaveCome a c xs ys
come_reported Served a b c generation xs ys h r = record {
  none = turns_none_on a b c h.none (record {
    slots = ap (λ (m : MemberView). m.slots) r.view;
    learnt = r.learnt;
    notes = λ p published at. ap (λ (m : MemberView). note_in m.notes p) r.view ∙ at;
    number = ap (λ (m : MemberView). m.member.number) r.view;
  });
  places = h.places;
}

-- what does not belong here is let go
pub let_go_keeps : (functions : List Mfa) (table : TableId) (opening : Opening) (token : tokens.Member) (spawn : SpawnedProcess) (processes : List (Option ProcessRun)) → IsToken table token → BelongsNot spawn.number token.number opening.members processes
    → (taken : List SpawnedProcess) → KeepsProcesses functions opening (view_of token) taken processes → KeepsProcesses functions opening (view_of token) (taken ++ spawn ∷ []) processes
let_go_keeps functions table opening token spawn processes h apart taken kept =
    let_go functions opening (view_of token) taken spawn processes (λ p at is. subst (λ (n : ℕ). p % opening.members ≢ n) (sym h.seat.numbered) (apart p at is)) kept

-- the same where the code has these numbers otherwise
pub let_go_here : (functions : List Mfa) (table : TableId) (opening : Opening) (token : tokens.Member) (spawn : SpawnedProcess) (number member members : ℕ) (processes : List (Option ProcessRun)) → spawn.number ≡ number → token.number ≡ member → members ≡ opening.members → IsToken table token
    → BelongsNot number member members processes → (taken : List SpawnedProcess) → KeepsProcesses functions opening (view_of token) taken processes → KeepsProcesses functions opening (view_of token) (taken ++ spawn ∷ []) processes
let_go_here functions table opening token spawn number member members processes is own count h apart =
    let_go_keeps functions table opening token spawn processes h (λ p at same mine. apart p at (sym is ∙ same) (ap (λ (n : ℕ). p % n) count ∙ mine ∙ own))

-- what came was taken in
pub record TakenSteps (functions : List Mfa) (table : TableId) (opening : Opening) (old new : tokens.Member) (before after : Taking SpawnedProcess) (was now : List (Option ProcessRun)) : Type 0 where
  pub token : IsToken table new
  pub number : new.number ≡ old.number
  pub between : IsBetweenTurns (view_of new)
  pub all : length now ≡ PROCESSES
  pub inbox : after.number ≡ before.number
  pub told : after.told ≡ before.told
  pub kept : KeepsProcesses functions opening (view_of old) before.taken was → KeepsProcesses functions opening (view_of new) after.taken now
  pub came : HaveCome (view_of old) (view_of new) was now

module _ (functions : List Mfa) (table : TableId) (opening : Opening) (old : tokens.Member) (before : Taking SpawnedProcess) (was : List (Option ProcessRun)) where
  pub taken_begins : IsToken table old → IsBetweenTurns (view_of old) → length was ≡ PROCESSES → TakenSteps functions table opening old old before before was was
  taken_begins token between all = record { token = token; number = refl; between = between; all = all; inbox = refl; told = refl; kept = λ h. h; came = none_come (view_of old) was }

  pub taken_goes_on : (mid new : tokens.Member) (at after : Taking SpawnedProcess) (now later : List (Option ProcessRun)) (spawn : SpawnedProcess) → TakenSteps functions table opening old mid before at was now → after ≡ took at spawn → IsToken table new
      → new.number ≡ mid.number → IsBetweenTurns (view_of new) → length later ≡ PROCESSES
      → ((taken : List SpawnedProcess) → KeepsProcesses functions opening (view_of mid) taken now → KeepsProcesses functions opening (view_of new) (taken ++ spawn ∷ []) later)
      → HaveCome (view_of mid) (view_of new) now later
      → TakenSteps functions table opening old new before after was later
  taken_goes_on mid new at after now later spawn h is token number between all kept came = record {
    token = token;
    number = number ∙ h.number;
    between = between;
    all = all;
    inbox = ap (λ (t : Taking SpawnedProcess). t.number) is ∙ h.inbox;
    told = ap (λ (t : Taking SpawnedProcess). t.told) is ∙ h.told;
    kept = λ first. subst (λ (t : Taking SpawnedProcess). KeepsProcesses functions opening (view_of new) t.taken later) (sym is) (kept at.taken (h.kept first));
    came = have_come_on (view_of old) (view_of mid) (view_of new) was now later h.came came;
  }
