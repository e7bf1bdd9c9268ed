-- A load of the root keeps the rule, whatever seat loads it, and tells of the generations so far.
use Rattle.std.proofs.Common.{◌≡◌, ℕ, zero, suc, ◌+◌, ◌<◌, ◌≤◌, inl, inr, Bool, true, false, cond, List, [], ◌∷◌, length, length-append, append-nil, refl, sym, ap, subst, ◌∙◌, arith}
use mathlib.Core.Option.{none, some, some-injective}
use lib.ListN.{get_elem?}
use lib.Seq.{set-get_or}
use Rattle.std.specs.Prelude.{◌==◌, ◌&&◌, Some, None, slice_get, slice_index}
use Rattle.std.specs.Option.{option_and_then}
use Rattle.std.proofs.lemmas.Bool.{cases_Bool, and_parts, eqb-true}
use Rattle.atomic_table.specs.Table.{State, keeps, step, Allows}
use Rattle.prgr_core.specs.declared.member.Member as machines
use Rattle.prgr_core.specs.declared.watcher.Watcher as watching
use Rattle.prgr_core.specs.declared.progress.Progress.{Progress}
use Rattle.prgr_core.specs.declared.event.PrgrEvent.TheVariants as prgr
use Rattle.prgr_core.specs.Members as members
use Rattle.prgr_core.specs.Watchers as watchers
use Rattle.prgr_core.specs.Step.{with_member, with_watcher, has_loaded}
use Rattle.term_core.specs.declared.area.AreaRef.{AreaRef}
use Rattle.area_core.specs.Step.{opening_published}
use Rattle.area_core.specs.declared.table.Published.{Published}
use Rattle.area_core.specs.Blocks.{RootFits, Among}
use Rattle.area_core.specs.Generations.{has_area, has_image, is_kept_as}
use Rattle.area_core.proofs.Tests.{passed_by}
use Rattle.shared_words.specs.declared.table.TheConstants.{ROOT}
use Rattle.shared_words.specs.declared.opening.Opening.{Opening}
use Rattle.shared_words.specs.declared.view.NoteNumber.{NoteNumber}
use Rattle.shared_words.specs.declared.view.MemberView.{MemberView}
use Rattle.shared_words.specs.declared.view.NoteView.{NoteView}
use Rattle.shared_words.specs.declared.view.WatcherView.{WatcherView}
use Rattle.shared_words.specs.declared.view.View.{View}
use Rattle.shared_words.specs.declared.view.View.TheVariants.{Writer, Member, Watcher, Note, Spent}
use Rattle.shared_words.specs.Views.{newest_number, newest_root, published_at, seen_generations, notes_of}
use Rattle.shared_words.specs.Shown.{progress_of}
use Rattle.shared_words.specs.Seats.{member_of}
use Rattle.shared_words.specs.Kinds.{Sat, IsSameIn, NamedStay, MayLoadRoot, member_with_root, watcher_with_root, root_found, RootLoaded, root_loaded}
use Rattle.shared_words.specs.Rule.{IsBeginning, HasItsAreas, MayBeRead, RunningRule}
use Rattle.shared_words.proofs.ShownMembers.{shown_at, there, there_is, set_same}
use Rattle.marks.specs.declared.kept.WriterKept.{WriterKept}
use Rattle.marks.specs.Names.{IsAtRest}
use Rattle.marks.specs.Kept.{IsKnown}
use Rattle.marks.specs.Steps.{holding}
use Rattle.marks.proofs.MemberSteps.{known_at_rest}
use Rattle.shared_words.specs.Processes.{process_of, under_of, held_by_view, NamesArea, AreAtRest}
use Rattle.shared_words.proofs.NamedAreas.{same_later}
use Rattle.shared_words.proofs.SlotFrames.{published_begins, rests}
use Rattle.shared_words.proofs.Frames.{after_step, same_rest, progress_set, Moves, member_step, behind_step}
use Rattle.shared_words.proofs.WatcherFrames.{progress_watched, watcher_here, watcher_step}
use Rattle.shared_words.proofs.CounterLoads.{same_step}

-- ---- the record of a member, by whether it has loaded the counter

number_kept : (b : Bool) (g : ℕ) (a : machines.Member) → (cond b (members.root_loaded g a) a).number ≡ a.number
number_kept true g a = refl
number_kept false g a = refl

word_kept : (b : Bool) (g : ℕ) (a : machines.Member) → (cond b (members.root_loaded g a) a).word ≡ a.word
word_kept true g a = refl
word_kept false g a = refl

within : (b : Bool) (g n : ℕ) (a : machines.Member) → g < n → a.generation < n → (cond b (members.root_loaded g a) a).generation < n
within true g n a newest_number old = newest_number
within false g n a newest_number old = old

-- what is known of a process, once its member has learnt of all generations
root_known : (b : Bool) (all : List Published) (m : MemberView) (process : ℕ) (k : WriterKept) → (b ≡ true → IsAtRest (process_of m process)) → m.member.generation ≤ newest_number all → IsBeginning m.seen all → m.member.generation < length m.seen
    → IsKnown (under_of m) process (process_of m process) k → IsKnown (under_of (record m { member = cond b (members.root_loaded (newest_number all) m.member) m.member; seen = all })) process (process_of m process) k
root_known true all m process k rest later begins learnt h = known_at_rest (under_of m) (under_of (record m { member = members.root_loaded (newest_number all) m.member; seen = all })) process (process_of m process) k h (rest refl) later
root_known false all m process k rest later begins learnt h =
    subst (λ (p : Published). IsKnown (holding (members.is_value m.member.word) m.member.generation p) process (process_of m process) k) (sym (published_begins m.seen all m.member.generation begins learnt)) h

-- a process whose member is not awake, or asks for it, is at rest
rests_then : (m : MemberView) (process : ℕ) (k : WriterKept) → (members.is_value m.member.word ≡ true → AreAtRest m) → IsKnown (under_of m) process (process_of m process) k → IsAtRest (process_of m process)
rests_then m process k asked h =
    elim (cases_Bool (members.is_value m.member.word)) as (λ _. IsAtRest (process_of m process)) [
      | inl awake ↦ asked awake process
      | inr asleep ↦ rests (under_of m) process (process_of m process) k asleep h
    ]

root_moves : (p : Progress) (k : ℕ) (a : machines.Member) → slice_get p.members k ≡ Some a → (b : Bool) → has_loaded a.loaded ≡ b → Moves p (with_member p k (cond b (members.root_loaded p.generation a) a))
root_moves p k a at true is = inl (
  prgr.LoadRoot k,
  ap (option_and_then (λ (member : machines.Member). cond (has_loaded member.loaded) (Some (with_member p k (members.root_loaded p.generation member))) None)) at
      ∙ ap (λ (t : Bool). cond t (Some (with_member p k (members.root_loaded p.generation a))) None) is,
)
root_moves p k a at false is = inr (λ i. record p { members = set_same p.members k a at i })

-- ---- the record of a watcher, by whether it has a claim

watched_number : (b : Bool) (g : ℕ) (a : watching.Watcher) → (cond b (watchers.root_watched g a) a).number ≡ a.number
watched_number true g a = refl
watched_number false g a = refl

watched_moves : (p : Progress) (k : ℕ) (a : watching.Watcher) → slice_get p.watchers k ≡ Some a → (b : Bool) → watchers.is_claimed a.phase ≡ b → Moves p (with_watcher p k (cond b (watchers.root_watched p.generation a) a))
watched_moves p k a at true is = inl (
  prgr.WatchRoot k,
  ap (option_and_then (λ (watcher : watching.Watcher). cond (watchers.is_claimed watcher.phase) (Some (with_watcher p k (watchers.root_watched p.generation watcher))) None)) at
      ∙ ap (λ (t : Bool). cond t (Some (with_watcher p k (watchers.root_watched p.generation a))) None) is,
)
watched_moves p k a at false is = inr (λ i. record p { watchers = set_same p.watchers k a at i })

-- ---- the generations

-- a list is the beginning of itself
pub whole : (published : List Published) → IsBeginning published published
whole published = ([], sym (append-nil published))

-- the one note of a note
only_note : (mine note : NoteNumber) (i : ℕ) → slice_get (mine ∷ []) i ≡ Some note → mine ≡ note
only_note mine note zero at = cc
only_note mine note (suc i) at = absurd (cc)

-- an area that is found is one of them
has_listed : (areas : List AreaRef) (serial block : ℕ) → has_area areas serial block ≡ true → (a : AreaRef) × Among areas a × (a.serial ≡ serial)
has_listed areas serial block has =
    let found = passed_by (λ (a : AreaRef). (a.serial == serial) && (a.block == block)) areas has in
    (found.0, (found.1, found.2), eqb-true found.0.serial serial (and_parts (found.0.serial == serial) (found.0.block == block) found.3).0)

-- a beginning is no longer
pub shorter : (few all : List Published) → IsBeginning few all → (n : ℕ) → n < length few → n < length all
shorter few all is n below = omega (arith, ap length is.1, length-append few is.0)

module _ {Served : Published → Type 0} {opening : Opening} (s : State (Unit {0}) View) (r : RunningRule Served opening s) where
  -- the generations so far
  abbrev all : List Published
  all = r.writer.published

  -- the newest is among them
  last : newest_number all < length all
  last = (let first = r.published.some in omega arith)

  -- the newest may be read, whatever was retired
  may_be_read : MayBeRead r.writer (newest_number all)
  may_be_read pair among need = (r.machine.progress.invariant.needs_near pair.generation pair.need among).0

  -- its root names blocks that there are
  newest_fits : RootFits (published_at all (newest_number all)).root
  newest_fits = r.words.blocks.roots_fit (newest_number all) (published_at all (newest_number all)) may_be_read (there_is all (newest_number all) opening_published last)

  -- it has the areas that it uses
  newest_has : HasItsAreas (published_at all (newest_number all))
  newest_has =
      let p = published_at all (newest_number all) in
      let at = there_is all (newest_number all) opening_published last in record {
        apart = r.published.areas_stay.apart p (newest_number all, at);
        listed = λ serial uses.
            let kept = passed_by (is_kept_as p serial) r.writer.kept (r.words.blocks.used_kept (newest_number all) p may_be_read at serial uses) in
            let placed = (and_parts ((kept.0.area.serial == serial) && has_area p.areas serial kept.0.area.block) (has_image p.state.areas serial kept.0.words) kept.3).0 in
            has_listed p.areas serial kept.0.area.block (and_parts (kept.0.area.serial == serial) (has_area p.areas serial kept.0.area.block) placed).1;
      }

  -- what is told of them
  told : (v w : View) → seen_generations w ≡ all → NamedStay v w → IsBeginning (seen_generations v) all → ((note : NoteNumber) → Among (notes_of v) note → Among r.writer.notes note) → w ≡ root_found all v → RootLoaded Served v w (slice_index s.words ROOT)
  told v w is named learnt noted same = record {
    learnt = subst (λ (xs : List Published). IsBeginning (seen_generations v) xs) (sym is) learnt;
    some = subst (λ (xs : List Published). 0 < length xs) (sym is) r.published.some;
    root = r.words.root ∙ ap newest_root (sym is);
    fits = subst (λ (xs : List Published). RootFits (published_at xs (newest_number xs)).root) (sym is) newest_fits;
    served = subst (λ (xs : List Published). Served (published_at xs (newest_number xs))) (sym is) (r.published.served (published_at all (newest_number all)) (newest_number all, there_is all (newest_number all) opening_published last));
    promised = λ note among. subst (λ (xs : List Published). note.published < length xs) (sym is) (r.published.notes_fit note (noted note among)).counted;
    areas = subst (λ (xs : List Published). HasItsAreas (published_at xs (newest_number xs))) (sym is) newest_has;
    named = named;
    view = same ∙ ap (λ (xs : List Published). root_found xs v) (sym is);
  }

  -- a member
  member_loads : (k : ℕ) (m : MemberView) → get_elem? r.seats k ≡ some (Member m) → MayLoadRoot (Member m) → RunningRule Served opening (after_step s s.words (suc k) (root_found all (Member m)))
  member_loads k m at may =
      let knows = r.each_seat k (Member m) at in
      let p = progress_of s.words r.writer r.seats in
      let b = has_loaded m.member.loaded in
      let g = newest_number all in
      let m' : MemberView = record m { member = member_with_root g m.member; seen = all } in
      let shown = shown_at r.writer.members r.seats k m knows.made at in
      member_step s r s.words k m m' at (record {
        rest = same_rest s.words;
        knows = record {
          numbered = number_kept b g m.member ∙ knows.numbered;
          made = knows.made;
          seen = whole all;
          holds = within b g (length all) m.member last (shorter m.seen all knows.seen m.member.generation knows.holds);
          noted = knows.noted;
          own_slots = knows.own_slots;
          words = knows.words;
        };
        moves = subst (Moves p) (sym (progress_set s.words r.writer r.seats k m' knows.made (there r.seats k (Member m) at))) (root_moves p k m.member shown b refl);
        own = r.machine.own_words k m.member shown ∙ sym (word_kept b g m.member);
        others = λ j other. refl;
        leader = r.machine.leader_made;
        slots = record {
          slots = refl;
          known = λ process h. root_known b all m process r.writer.looks (λ loaded. rests_then m process r.writer.looks (may loaded) h) (let learnt = shorter m.seen all knows.seen m.member.generation knows.holds in omega (arith, learnt)) knows.seen knows.holds h;
        };
      })

  -- what a slot of its names stays
  member_named : (k : ℕ) (m : MemberView) → get_elem? r.seats k ≡ some (Member m) → NamedStay (Member m) (root_found all (Member m))
  member_named k m at x y first second a named listed =
      let is : m ≡ x = ap member_of first in
      let then : record m { member = member_with_root (newest_number all) m.member; seen = all } ≡ y = ap member_of second in
      subst (λ (n : MemberView). IsSameIn (held_by_view x) (held_by_view n) a) then
      (subst (λ (n : MemberView). IsSameIn (held_by_view n) (held_by_view (record m { member = member_with_root (newest_number all) m.member; seen = all })) a) is
      (by_loaded (has_loaded m.member.loaded) (subst (λ (n : MemberView). NamesArea n a.serial) (sym is) named) (subst (λ (n : MemberView). Among (held_by_view n).areas a) (sym is) listed)))
    where
      by_loaded : (b : Bool) → NamesArea m a.serial → Among (held_by_view m).areas a → IsSameIn (held_by_view m) (published_at all (cond b (members.root_loaded (newest_number all) m.member) m.member).generation) a
      by_loaded true names here =
          let knows = r.each_seat k (Member m) at in
          let learnt = shorter m.seen all knows.seen m.member.generation knows.holds in
          same_later s r k m at (newest_number all) (published_at all (newest_number all)) a (omega (arith, learnt)) (there_is all (newest_number all) opening_published last) names here
      by_loaded false names here =
          let knows = r.each_seat k (Member m) at in
          subst (λ (q : Published). IsSameIn (held_by_view m) q a) (sym (published_begins m.seen all m.member.generation knows.seen knows.holds)) (record { listed = here; image = refl })

  -- a watcher
  watcher_loads : (k : ℕ) (v : WatcherView) → get_elem? r.seats k ≡ some (Watcher v) → RunningRule Served opening (after_step s s.words (suc k) (root_found all (Watcher v)))
  watcher_loads k v at =
      let knows = r.each_seat k (Watcher v) at in
      let p = progress_of s.words r.writer r.seats in
      let b = watchers.is_claimed v.watcher.phase in
      let g = newest_number all in
      let v' : WatcherView = record v { watcher = watcher_with_root g v.watcher; seen = all } in
      let number : v'.watcher.number ≡ v.watcher.number = watched_number b g v.watcher in
      let same = progress_watched s.words r.writer r.seats k v.watcher.number v' knows.numbered knows.made (there r.seats k (Watcher v) at) in
      watcher_step s r s.words k v' (record {
        rest = same_rest s.words;
        knows = record {
          numbered = subst (λ (n : ℕ). length r.writer.members + n ≡ k) (sym number) knows.numbered;
          made = subst (λ (n : ℕ). n < length r.writer.watchers) (sym number) knows.made;
          seen = whole all;
          words = knows.words;
        };
        moves = subst (Moves p) (sym same) (watched_moves p v.watcher.number v.watcher (watcher_here s r k v at) b refl);
        members = λ j. refl;
        leader = refl;
      })

  -- a note
  note_loads : (k : ℕ) (n : NoteView) → get_elem? r.seats k ≡ some (Note n) → RunningRule Served opening (after_step s s.words (suc k) (root_found all (Note n)))
  note_loads k n at =
      let knows = r.each_seat k (Note n) at in
      behind_step s r k (Note (record n { seen = all })) knows.behind (record { behind = knows.behind; seen = whole all; noted = knows.noted; learnt = shorter n.seen all knows.seen n.note.published knows.learnt })

  -- what a load by any seat keeps and tells
  abbrev Goes : ℕ → View → Type 0
  Goes id v = RunningRule Served opening (after_step s s.words id (root_found all v)) × RootLoaded Served v (root_found all v) (slice_index s.words ROOT)

  behind_loads : (k : ℕ) (v : View) → get_elem? r.seats k ≡ some v → MayLoadRoot v → Goes (suc k) v
  behind_loads k (Writer w) here may = absurd (r.each_seat k (Writer w) here)
  behind_loads k (Member m) here may = (member_loads k m here may, told (Member m) (root_found all (Member m)) refl (member_named k m here) (r.each_seat k (Member m) here).seen (r.each_seat k (Member m) here).noted refl)
  behind_loads k (Watcher w) here may = (watcher_loads k w here, told (Watcher w) (root_found all (Watcher w)) refl (λ m x is. absurd (cc)) (r.each_seat k (Watcher w) here).seen (λ note among. absurd (cc)) refl)
  behind_loads k (Note n) here may = (note_loads k n here, told (Note n) (root_found all (Note n)) refl (λ m x is. absurd (cc)) (r.each_seat k (Note n) here).seen (λ note among. subst (Among r.writer.notes) (only_note n.note note among.0 among.1) (r.each_seat k (Note n) here).noted) refl)
  behind_loads k Spent here may = absurd may

  pub root_loads : (id : ℕ) (v : View) → get_elem? s.views id ≡ some v → MayLoadRoot v → Goes id v
  root_loads zero v at may =
      let is : Writer r.writer ≡ v = some-injective (Writer r.writer) v (ap (λ (vs : List View). get_elem? vs 0) (sym r.views) ∙ at) in
      subst (Goes 0) is (
        same_step s r 0 (Writer r.writer) (ap (λ (vs : List View). get_elem? vs 0) r.views),
        told (Writer r.writer) (Writer r.writer) refl (λ m x is. absurd (cc)) (whole all) (λ note among. among) refl,
      )
  root_loads (suc k) v at may = behind_loads k v (ap (λ (vs : List View). get_elem? vs (suc k)) (sym r.views) ∙ at) may

-- the load of the root may be made by each seat that may make it
pub load_root_is_allowed : (Served : Published → Type 0) (opening : Opening) (slots id : ℕ) (me : Sat) → MayLoadRoot me.0 → Allows (RunningRule Served opening) slots id me ROOT (λ n. n) (root_loaded Served (step slots ROOT 0 0 none) me)
load_root_is_allowed Served opening slots id me may s r wide at fits =
    let goes = root_loads s r id me.0 at may in (
      root_found r.writer.published me.0,
      keeps,
      tt,
      subst (λ (ws : List ℕ). RunningRule Served opening (after_step s ws id (root_found r.writer.published me.0))) (sym (set-get_or s.words ROOT 0)) goes.0,
      record { told = goes.1; slots = refl },
    )
