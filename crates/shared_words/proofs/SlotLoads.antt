-- A load of a word of a slot by the writer keeps the rule, in a look or outside every look.
use Rattle.std.proofs.Common.{◌≡◌, ℕ, zero, suc, ◌+◌, ◌^◌, ◌<◌, ◌≤◌, ◌⊎◌, inl, inr, Bool, true, false, cond, List, [], ◌∷◌, refl, sym, ap, subst, ◌∙◌, arith}
use mathlib.Core.Option.{none, some}
use lib.ListN.{get_elem?}
use lib.Seq.{set-get_or}
use Rattle.std.specs.Prelude.{nat_le, Option, Some, None, is_some, unwrap_or, slice_get, slice_index}
use Rattle.std.proofs.lemmas.Bool.{cases_Bool, and_from, and_parts, le-leb, leb-true}
use Rattle.atomic_table.specs.Table.{State, keeps, step, Allows}
use Rattle.prgr_core.specs.declared.member.Retirement.{Retirement}
use Rattle.prgr_core.specs.Members as members
use Rattle.term_core.specs.declared.area.AreaRef.{AreaRef}
use Rattle.term_core.specs.declared.hold.Kind.{Kind}
use Rattle.area_core.specs.declared.map.TheConstants.{PROCESSES, ANCHORS}
use Rattle.area_core.specs.declared.table.Published.{Published}
use Rattle.area_core.specs.Map.{slot_place}
use Rattle.area_core.specs.Blocks.{Among}
use Rattle.marks.specs.declared.kept.LookKind.{LookKind}
use Rattle.marks.specs.declared.kept.LookKind.TheVariants.{Frame, Both}
use Rattle.marks.specs.declared.kept.EndedWait.{EndedWait}
use Rattle.marks.specs.declared.kept.ReadTurn.{ReadTurn}
use Rattle.marks.specs.declared.kept.WriterKept.{WriterKept}
use Rattle.marks.specs.declared.mark.ProcessView.{ProcessView}
use Rattle.marks.specs.Names.{names_in, tells_kill, IsAtRest}
use Rattle.marks.specs.Kept.{Under, comes_to, IsKnown, IsBacked, IsOverFor}
use Rattle.marks.specs.Steps.{with_wait, with_looked, with_read}
use Rattle.marks.proofs.Anchors.{among_cons}
use Rattle.marks.proofs.MemberSteps.{known_at_rest}
use Rattle.marks.proofs.WriterSteps.{wait_kept, look_kept, read_kept, wait_backed, look_backed, read_backed}
use Rattle.shared_words.specs.declared.opening.Opening.{Opening}
use Rattle.shared_words.specs.declared.view.MemberView.{MemberView}
use Rattle.shared_words.specs.declared.view.WriterView.{WriterView}
use Rattle.shared_words.specs.declared.view.View.{View}
use Rattle.shared_words.specs.declared.view.View.TheVariants.{Writer}
use Rattle.shared_words.specs.Shown.{views_shown}
use Rattle.shared_words.specs.Seats.{writer_of}
use Rattle.shared_words.specs.Processes.{process_of, under_of}
use Rattle.shared_words.specs.Kinds.{Sat}
use Rattle.shared_words.specs.Rule.{HasEnded, SlotKnown, RunningRule}
use Rattle.shared_words.specs.Slots.{process_at, place_at, is_gone_in, has_ended, last_ended, wait_for, look_kind, LookMayBegin, MayLook, word_looked, wait_looked, slot_looked, slot_loaded}
use Rattle.shared_words.proofs.KeptWords.{kept_as}
use Rattle.shared_words.proofs.SlotFrames.{rests, ended_as}
use Rattle.shared_words.proofs.Frames.{after_step}
use Rattle.shared_words.proofs.CounterLoads.{same_step}
use Rattle.shared_words.proofs.WriterFrames.{writer_changes, writer_at}
use Rattle.shared_words.proofs.ClearLooks.{some_member, over_for}

-- ---- the wait of a look

-- the last that passes is one of them, and passes
last_passes : (test : Retirement → Bool) (pairs : List Retirement) (n : ℕ) → last_ended test pairs ≡ Some n → (pair : Retirement) × Among pairs pair × (test pair ≡ true) × (pair.generation ≡ n)
last_passes test [] n is = absurd (cc)
last_passes test (first ∷ pairs) n is = by_rest (λ more. last_passes test pairs n more) (last_ended test pairs) refl is
  where
    here : (b : Bool) → test first ≡ b → cond b (Some first.generation) None ≡ Some n → (pair : Retirement) × Among (first ∷ pairs) pair × (test pair ≡ true) × (pair.generation ≡ n)
    here true passes found = (first, (0, refl), passes, cc)
    here false fails found = absurd (cc)

    by_rest : (last_ended test pairs ≡ Some n → (pair : Retirement) × Among pairs pair × (test pair ≡ true) × (pair.generation ≡ n)) → (o : Option ℕ) → last_ended test pairs ≡ o → cond (is_some o) o (cond (test first) (Some first.generation) None) ≡ Some n → (pair : Retirement) × Among (first ∷ pairs) pair × (test pair ≡ true) × (pair.generation ≡ n)
    by_rest later None empty found = here (test first) refl found
    by_rest later (Some m) more found = let rest = later (more ∙ found) in (rest.0, (suc rest.1.0, rest.1.1), rest.2, rest.3)

-- where one passes, there is a last
last_is : (test : Retirement → Bool) (pairs : List Retirement) (pair : Retirement) → Among pairs pair → test pair ≡ true → (n : ℕ) × (last_ended test pairs ≡ Some n)
last_is test [] pair (i, at) passes = absurd (cc)
last_is test (first ∷ pairs) pair (zero, at) passes = by_rest (last_ended test pairs)
  where
    same : test first ≡ true
    same = let is : first ≡ pair = cc in ap test is ∙ passes

    by_rest : (o : Option ℕ) → (n : ℕ) × (cond (is_some o) o (cond (test first) (Some first.generation) None) ≡ Some n)
    by_rest None = (first.generation, ap (λ (b : Bool). cond b (Some first.generation) None) same)
    by_rest (Some m) = (m, refl)
last_is test (first ∷ pairs) pair (suc i, at) passes =
    let rest = last_is test pairs pair (i, at) passes in
    (rest.0, ap (λ (o : Option ℕ). cond (is_some o) o (cond (test first) (Some first.generation) None)) rest.1)

-- a wait that passes the test is over
passes_over : (w : WriterView) (kind : LookKind) (serial : ℕ) (pair : Retirement) → Among w.pairs pair → has_ended w kind serial pair ≡ true → HasEnded w (record { generation = pair.generation; serial = serial; kind = kind })
passes_over w kind serial pair among passes =
    let both = and_parts (nat_le pair.need w.counter) (is_gone_in (slice_get w.published pair.generation) kind serial) passes in
    by_published (slice_get w.published pair.generation) refl (leb-true pair.need w.counter both.0) both.1
  where
    by_published : (o : Option Published) → slice_get w.published pair.generation ≡ o → pair.need ≤ w.counter → is_gone_in o kind serial ≡ true → HasEnded w (record { generation = pair.generation; serial = serial; kind = kind })
    by_published None at reached gone = absurd (cc)
    by_published (Some p) at reached gone = record { need = pair.need; kept = among; reached = reached; published = p; at = at; gone = gone }

-- and one that is over passes it
over_passes : (w : WriterView) (kind : LookKind) (serial n : ℕ) (h : HasEnded w (record { generation = n; serial = serial; kind = kind })) → has_ended w kind serial (record { generation = n; need = h.need }) ≡ true
over_passes w kind serial n h =
    and_from (nat_le h.need w.counter) (is_gone_in (slice_get w.published n) kind serial) (le-leb h.need w.counter h.reached) (ap (λ (o : Option Published). is_gone_in o kind serial) h.at ∙ h.gone)

-- the wait of a look that may begin is over
pub wait_over : (w : WriterView) (kind : LookKind) (serial : ℕ) → LookMayBegin w kind serial → HasEnded w (wait_for w kind serial)
wait_over w kind serial may =
    let found = last_is (has_ended w kind serial) w.pairs _ may.ended.kept (over_passes w kind serial may.generation may.ended) in
    let pair = last_passes (has_ended w kind serial) w.pairs found.0 found.1 in
    subst (λ (n : ℕ). HasEnded w (record { generation = n; serial = serial; kind = kind })) (pair.3 ∙ ap (λ (o : Option ℕ). unwrap_or o 0) (sym found.1)) (passes_over w kind serial pair.0 pair.1 pair.2)

-- ---- what is known of a process

none_comes : (awake : Bool) (g : ℕ) (kind : LookKind) (serial : ℕ) → comes_to (record { awake = awake; generation = g; frames = λ x. false; literals = λ x. false }) kind serial ≡ false
none_comes awake g Frame serial = refl
none_comes awake g Both serial = refl

-- a turn word that was loaded is kept of a process at rest, or where the wait is over for its member
read_known : (u : Under) (process : ℕ) (p : ProcessView) (k : WriterKept) (t : ReadTurn) → IsKnown u process p k → IsAtRest p ⊎ IsOverFor u t.wait → (t.process ≡ process → t.turns ≡ p.slot.turns) → IsKnown u process p (with_read k t)
read_known u process p k t h over found =
    elim over as (λ _. IsKnown u process p (with_read k t)) [
      | inr now ↦ read_kept u process p k t h now found
      | inl rest ↦
          let later : Under = record { awake = u.awake; generation = u.generation + t.wait.generation; frames = λ serial. false; literals = λ serial. false } in
          let still = read_kept later process p k t (known_at_rest u later process p k h rest (omega arith)) (record { reached = omega arith; gone = none_comes u.awake (u.generation + t.wait.generation) t.wait.kind t.wait.serial }) found in
          record {
            wide = h.wide;
            rest = h.rest;
            current = h.current;
            falling = h.falling;
            counted = h.counted;
            looked = h.looked;
            read = still.read;
            dropped = h.dropped;
            lingering = h.lingering;
            noted = h.noted;
          }
    ]

-- an anchor that was loaded in a look, with its wait
anchor_looked : (u : Under) (process : ℕ) (p : ProcessView) (k : WriterKept) (wait : EndedWait) (other place found : ℕ) → IsKnown u process p k → (other ≡ process → (word : ℕ) → slice_get p.slot.anchors place ≡ Some word → word ≡ found)
    → IsKnown u process p (word_looked wait other (suc place) found k)
anchor_looked u process p k wait other place found h same = by_test (names_in wait.kind found wait.serial) refl
  where
    by_test : (b : Bool) → names_in wait.kind found wait.serial ≡ b → IsKnown u process p (cond b k (with_looked k (record { wait = wait; process = other; place = place; told = tells_kill found wait.serial })))
    by_test true named = h
    by_test false clear = look_kept u process p k _ h (λ own word at. let is = same own word at in (ap (λ (x : ℕ). names_in wait.kind x wait.serial) is ∙ clear, ap (λ (x : ℕ). tells_kill x wait.serial) is))

-- what is kept stands on its wait
looked_backed : (wait : EndedWait) (process place found : ℕ) (k : WriterKept) → IsBacked k → IsBacked (word_looked wait process place found (with_wait k wait))
looked_backed wait process zero found k backed = read_backed (with_wait k wait) (wait_backed k backed wait) _ (0, refl)
looked_backed wait process (suc place) found k backed = by_test (names_in wait.kind found wait.serial)
  where
    by_test : (b : Bool) → IsBacked (cond b (with_wait k wait) (with_looked (with_wait k wait) (record { wait = wait; process = process; place = place; told = tells_kill found wait.serial })))
    by_test true = wait_backed k backed wait
    by_test false = look_backed (with_wait k wait) (wait_backed k backed wait) _ (0, refl)

-- no other wait is kept
looked_waits : (wait : EndedWait) (process place found : ℕ) (k : WriterKept) → (word_looked wait process place found k).waits ≡ k.waits
looked_waits wait process zero found k = refl
looked_waits wait process (suc place) found k = by_test (names_in wait.kind found wait.serial)
  where
    by_test : (b : Bool) → (cond b k (with_looked k (record { wait = wait; process = process; place = place; told = tells_kill found wait.serial }))).waits ≡ k.waits
    by_test true = refl
    by_test false = refl

-- ---- the rule

module _ {Served : Published → Type 0} {opening : Opening} (s : State (Unit {0}) View) (r : RunningRule Served opening s) (wait : EndedWait) (over : HasEnded r.writer wait) where
  -- between its turns, or the wait is over for its member
  rests_or_over : (process k : ℕ) (m : MemberView) → slice_get (views_shown r.writer.members r.seats) k ≡ Some m → SlotKnown s.words r.writer m process → IsAtRest (process_of m process) ⊎ IsOverFor (under_of m) wait
  rests_or_over process k m at h =
      elim (cases_Bool (members.is_value m.member.word)) as (λ _. IsAtRest (process_of m process) ⊎ IsOverFor (under_of m) wait) [
        | inl awake ↦ inr (over_for s r k m at awake wait over)
        | inr asleep ↦ inl (rests (under_of m) process (process_of m process) r.writer.looks asleep h.known)
      ]

  module _ (other place : ℕ) where
    -- what is known of a process stays known
    looked_known : (n : ℕ) → n ≡ place → (process k : ℕ) (m : MemberView) → slice_get (views_shown r.writer.members r.seats) k ≡ Some m → SlotKnown s.words r.writer m process
        → IsKnown (under_of m) process (process_of m process) (word_looked wait other n (slice_index s.words (slot_place other place)) (with_wait r.writer.looks wait))
    looked_known zero is process k m at h =
        read_known (under_of m) process (process_of m process) (with_wait r.writer.looks wait) _ (wait_kept (under_of m) process (process_of m process) r.writer.looks wait h.known) (rests_or_over process k m at h)
        (λ own. ap (λ (z : ℕ × ℕ). slice_index s.words (slot_place z.0 z.1)) (λ i. (own i, sym is i)) ∙ h.turns)
    looked_known (suc n) is process k m at h =
        anchor_looked (under_of m) process (process_of m process) (with_wait r.writer.looks wait) wait other n (slice_index s.words (slot_place other place)) (wait_kept (under_of m) process (process_of m process) r.writer.looks wait h.known)
        (λ own word here. sym (h.anchors n word here) ∙ (let next : n + 1 ≡ place = omega (arith, is) in ap (λ (z : ℕ × ℕ). slice_index s.words (slot_place z.0 z.1)) (λ i. (sym own i, next i))))

    abbrev w' : WriterView
    w' = wait_looked wait other place (slice_index s.words (slot_place other place)) r.writer

    -- waits that are kept are over
    all_ended : (x : EndedWait) → Among w'.looks.waits x → HasEnded w' x
    all_ended x among =
        let still = ended_as r.writer w' refl refl (omega arith) in
        elim (among_cons r.writer.looks.waits wait x (subst (λ (xs : List EndedWait). Among xs x) (looked_waits wait other place (slice_index s.words (slot_place other place)) (with_wait r.writer.looks wait)) among)) as (λ _. HasEnded w' x) [
          | inl this ↦ subst (HasEnded w') (sym this) (still wait over)
          | inr before ↦ still x (r.looks.over x before)
        ]

    pub looks_at : RunningRule Served opening (after_step s s.words 0 (Writer w'))
    looks_at =
        writer_changes s r s.words w' (record { members = refl; watchers = refl; learnt = λ xs is. is; noted = λ note is. is; words = kept_as r.writer w' refl refl refl (λ g may. may) }) refl refl refl refl
        (record { made = r.published.made; staffed = r.published.staffed; watched = r.published.watched; some = r.published.some; served = r.published.served; old_stays = r.published.old_stays; retired_stays = r.published.retired_stays; areas_stay = r.published.areas_stay; notes_fit = r.published.notes_fit })
        (record { all = r.words.all; root = r.words.root; mirror = r.words.mirror; mirrored = r.words.mirrored; reached = r.words.reached; blocks = r.words.blocks })
        (record { progress = r.machine.progress; own_words = r.machine.own_words; others_wait = r.machine.others_wait; leader_made = r.machine.leader_made })
        (record { backed = looked_backed wait other place (slice_index s.words (slot_place other place)) r.writer.looks r.looks.backed; over = all_ended })
        (λ process k m below own at.
        let h = r.marks process k m below own at in
        record { turns = h.turns; anchors = h.anchors; narrow = h.narrow; known = looked_known place refl process k m at h })

-- in a look, or in none
module _ {Served : Published → Type 0} {opening : Opening} (s : State (Unit {0}) View) (r : RunningRule Served opening s) where
  loads_slot : (look : Option (AreaRef × Option Kind)) (process place : ℕ) → MayLook r.writer look → RunningRule Served opening (after_step s s.words 0 (Writer (slot_looked process place look (slice_index s.words (slot_place process place)) r.writer)))
  loads_slot None process place may = same_step s r 0 (Writer r.writer) (ap (λ (vs : List View). get_elem? vs 0) r.views)
  loads_slot (Some look) process place may =
      looks_at s r (wait_for r.writer (look_kind look.1) look.0.serial) (wait_over r.writer (look_kind look.1) look.0.serial may.1) process place

  -- a turn word ends at the end of a u32
  narrow_turns : (process : ℕ) → process < PROCESSES → slice_index s.words (slot_place process 0) < 2 ^ 32
  narrow_turns process below = (let known = (some_member s r process below).1 in let narrow = known.narrow in omega (arith, known.turns, narrow))

-- the writer may load a word of a slot, where the look that it stands in may begin
pub load_slot_is_allowed : (Served : Published → Type 0) (opening : Opening) (slots id process place : ℕ) (look : Option (AreaRef × Option Kind)) (me : Sat) → me.0 ≡ Writer (writer_of me.0) → process < PROCESSES → place ≤ ANCHORS → MayLook (writer_of me.0) look
    → Allows (RunningRule Served opening) slots id me (slot_place process place) (λ n. n) (slot_loaded look (step slots (slot_place process place) 0 0 none) me)
load_slot_is_allowed Served opening slots id process place look me is below last may s r wide at fits =
    let w = writer_of me.0 in
    let seat = writer_at s r id w (at ∙ ap some is) in
    let found = slice_index s.words (slot_place process place) in
    let process_is : process_at (slot_place process place) ≡ process = omega (arith, last) in
    let place_is : place_at (slot_place process place) ≡ place = omega (arith, last) in
    let done = loads_slot s r look process place (subst (λ (x : WriterView). MayLook x look) (sym seat.1) may) in (
      Writer (slot_looked process place look found w),
      keeps,
      tt,
      subst (λ (z : List ℕ × (ℕ × WriterView)). RunningRule Served opening (after_step s z.0 z.1.0 (Writer (slot_looked process place look found z.1.1)))) (λ i. (sym (set-get_or s.words (slot_place process place) 0) i, (sym seat.0 i, seat.1 i))) done,
      record {
        narrow = λ none_done. (let first : place ≡ 0 = omega (arith, place_is, none_done) in subst (λ (n : ℕ). slice_index s.words (slot_place process n) < 2 ^ 32) (sym first) (narrow_turns s r process below));
        view = λ i. (Writer (slot_looked (sym process_is i) (sym place_is i) look found w), me.1);
      },
    )

-- the same of a word that is known to be this one
pub load_slot_may : (Served : Published → Type 0) (opening : Opening) (slots id process place word : ℕ) (look : Option (AreaRef × Option Kind)) (me : Sat) → word ≡ slot_place process place → me.0 ≡ Writer (writer_of me.0) → process < PROCESSES → place ≤ ANCHORS → MayLook (writer_of me.0) look
    → Allows (RunningRule Served opening) slots id me word (λ n. n) (slot_loaded look (step slots word 0 0 none) me)
load_slot_may Served opening slots id process place word look me same is below last may =
    subst (λ (n : ℕ). Allows (RunningRule Served opening) slots id me n (λ x. x) (slot_loaded look (step slots n 0 0 none) me)) (sym same) (load_slot_is_allowed Served opening slots id process place look me is below last may)
