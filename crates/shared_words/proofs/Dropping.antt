-- A drop that is kept of an area of which a look was clear, and the stores by which areas are dropped.
use Rattle.std.proofs.Common.{◌≡◌, ℕ, zero, suc, ◌+◌, ◌*◌, ◌<◌, ◌≤◌, inl, inr, Bool, true, false, cond, ◌&&◌, List, [], ◌∷◌, length, length-append, set, refl, sym, ap, subst, ◌∙◌, arith}
use mathlib.Core.Option.{none, some}
use lib.ListN.{get_elem?}
use Rattle.std.specs.Prelude.{◌==◌, nat_le, nat_lt, Some, slice_get, ◌↔◌}
use Rattle.std.specs.List.{list_any}
use Rattle.std.proofs.lemmas.Bool.{cases_Bool, and_from, and_parts, eqb-true, eq-eqb, lt-ltb, ltb-true, leb-true, leb-false}
use Rattle.atomic_table.specs.Table.{State, keeps, step, Allows}
use Rattle.area_core.specs.declared.map.TheConstants.{PROCESSES, ANCHORS}
use Rattle.area_core.specs.declared.map.WordKind.{WordKind}
use Rattle.area_core.specs.declared.map.WordKind.TheVariants.{Retire, InBlock}
use Rattle.area_core.specs.declared.table.Published.{Published}
use Rattle.area_core.specs.Map.{kind_at}
use Rattle.area_core.specs.Blocks.{Among}
use Rattle.area_core.proofs.Tests.{some_passes, passed_by}
use Rattle.marks.specs.declared.kept.LookKind.{LookKind}
use Rattle.marks.specs.declared.kept.LookKind.TheVariants.{Frame, Both}
use Rattle.marks.specs.declared.kept.EndedWait.{EndedWait}
use Rattle.marks.specs.declared.kept.LookedAnchor.{LookedAnchor}
use Rattle.marks.specs.declared.kept.DroppedArea.{DroppedArea}
use Rattle.marks.specs.declared.kept.WriterKept.{WriterKept}
use Rattle.marks.specs.Names.{tells_kill}
use Rattle.marks.specs.Kept.{IsKnown, IsBacked}
use Rattle.marks.specs.Steps.{with_drop_kept, IsLookedThrough, ToldOfKill}
use Rattle.marks.proofs.Anchors.{among_cons, has_element}
use Rattle.marks.proofs.WriterSteps.{drop_kept, drop_backed}
use Rattle.shared_words.specs.declared.table.TheConstants.{ROOT}
use Rattle.shared_words.specs.declared.opening.Opening.{Opening}
use Rattle.shared_words.specs.declared.view.MemberView.{MemberView}
use Rattle.shared_words.specs.declared.view.WriterView.{WriterView}
use Rattle.shared_words.specs.declared.view.View.{View}
use Rattle.shared_words.specs.declared.view.View.TheVariants.{Writer}
use Rattle.shared_words.specs.Views.{newest_number}
use Rattle.shared_words.specs.Shown.{views_shown}
use Rattle.shared_words.specs.Seats.{writer_of}
use Rattle.shared_words.specs.Processes.{process_of, under_of}
use Rattle.shared_words.specs.Kinds.{Sat}
use Rattle.shared_words.specs.Rule.{SlotKnown, RunningRule}
use Rattle.shared_words.specs.Slots.{IsClear}
use Rattle.shared_words.specs.Publishing.{FitsWord, MayStoreWord, MayPublish, IsRootOf, with_word, with_next}
use Rattle.shared_words.specs.Drops.{each_below, those_below, is_same_kind, is_same_wait, is_look_at, is_kill_of, is_looked_through, looked_since, clear_wait, killed_in, AgreesWithLooks, drop_of, with_drop, release_stored, root_dropped}
use Rattle.shared_words.proofs.KeptWords.{kept_as}
use Rattle.shared_words.proofs.SlotFrames.{ended_as}
use Rattle.shared_words.proofs.Frames.{after_step}
use Rattle.shared_words.proofs.ClearLooks.{some_member, knows_shown}
use Rattle.shared_words.proofs.WriterFrames.{writer_changes, writer_at}
use Rattle.shared_words.proofs.WordStores.{word_stores}
use Rattle.shared_words.proofs.RootStores.{root_stores}

-- ---- tests of numbers

-- what is below one more is below, or the last
last_or_below : (n i : ℕ) (P : Type 0) → i < suc n → (i ≡ n → P) → (i < n → P) → P
last_or_below n i P less last below =
    elim (cases_Bool (nat_le n i)) as (λ _. P) [
      | inl above ↦ last (let le = leb-true n i above in omega (arith, le, less))
      | inr under ↦ below (leb-false n i under)
    ]

below_passes : (test : ℕ → Bool) (n : ℕ) → each_below test n ≡ true → (i : ℕ) → i < n → test i ≡ true
below_passes test zero all i less = absurd (omega (arith, less))
below_passes test (suc n) all i less =
    let both = and_parts (test n) (each_below test n) all in
    last_or_below n i (test i ≡ true) less (λ last. ap test last ∙ both.0) (λ below. below_passes test n both.1 i below)

all_below : (test : ℕ → Bool) (n : ℕ) → ((i : ℕ) → i < n → test i ≡ true) → each_below test n ≡ true
all_below test zero each = refl
all_below test (suc n) each = and_from (test n) (each_below test n) (each n (omega arith)) (all_below test n (λ i less. each i (omega (arith, less))))

those_pass : (test : ℕ → Bool) (n x : ℕ) → Among (those_below test n) x → (x < n) × (test x ≡ true)
those_pass test zero x (i, at) = absurd (cc)
those_pass test (suc n) x among = by_test (λ rest. those_pass test n x rest) (test n) refl among
  where
    by_test : (Among (those_below test n) x → (x < n) × (test x ≡ true)) → (b : Bool) → test n ≡ b → Among (cond b (n ∷ those_below test n) (those_below test n)) x → (x < suc n) × (test x ≡ true)
    by_test later true passes among =
        elim (among_cons (those_below test n) n x among) as (λ _. (x < suc n) × (test x ≡ true)) [
          | inl last ↦ (omega (arith, last), ap test last ∙ passes)
          | inr below ↦ let rest = later below in (omega (arith, rest.0), rest.1)
        ]
    by_test later false fails among = (let rest = later among in (omega (arith, rest.0), rest.1))

passes_those : (test : ℕ → Bool) (n x : ℕ) → x < n → test x ≡ true → Among (those_below test n) x
passes_those test zero x less passes = absurd (omega (arith, less))
passes_those test (suc n) x less passes = by_test (λ below. passes_those test n x below passes) (test n) refl
  where
    by_test : (x < n → Among (those_below test n) x) → (b : Bool) → test n ≡ b → Among (cond b (n ∷ those_below test n) (those_below test n)) x
    by_test later true here =
        last_or_below n x (Among (n ∷ those_below test n) x) less (λ last. (0, ap Some (sym last))) (λ below. let rest = later below in (suc rest.0, rest.1))
    by_test later false fails =
        last_or_below n x (Among (those_below test n) x) less (λ last. absurd (let same : test x ≡ false = ap test last ∙ fails in cc)) later

-- ---- looks that are kept

kind_is : (a b : LookKind) → is_same_kind a b ≡ true → a ≡ b
kind_is Frame Frame same = refl
kind_is Frame Both same = absurd (cc)
kind_is Both Frame same = absurd (cc)
kind_is Both Both same = refl

kind_same : (a : LookKind) → is_same_kind a a ≡ true
kind_same Frame = refl
kind_same Both = refl

wait_is : (a b : EndedWait) → is_same_wait a b ≡ true → a ≡ b
wait_is a b same =
    let first = and_parts (a.generation == b.generation) ((a.serial == b.serial) && is_same_kind a.kind b.kind) same in
    let rest = and_parts (a.serial == b.serial) (is_same_kind a.kind b.kind) first.1 in
    let generation = eqb-true a.generation b.generation first.0 in
    let serial = eqb-true a.serial b.serial rest.0 in
    let kind = kind_is a.kind b.kind rest.1 in
    λ i. record { generation = generation i; serial = serial i; kind = kind i }

wait_same : (a : EndedWait) → is_same_wait a a ≡ true
wait_same a =
    and_from (a.generation == a.generation) ((a.serial == a.serial) && is_same_kind a.kind a.kind) (eq-eqb a.generation a.generation refl)
    (and_from (a.serial == a.serial) (is_same_kind a.kind a.kind) (eq-eqb a.serial a.serial refl) (kind_same a.kind))

module _ (wait : EndedWait) (process : ℕ) where
  look_is : (place : ℕ) (l : LookedAnchor) → is_look_at wait process place l ≡ true → l ≡ record { wait = wait; process = process; place = place; told = l.told }
  look_is place l is =
      let first = and_parts (is_same_wait l.wait wait) ((l.process == process) && (l.place == place)) is in
      let rest = and_parts (l.process == process) (l.place == place) first.1 in
      let its_wait = wait_is l.wait wait first.0 in
      let its_process = eqb-true l.process process rest.0 in
      let its_place = eqb-true l.place place rest.1 in
      λ i. record { wait = its_wait i; process = its_process i; place = its_place i; told = l.told }

  look_same : (place : ℕ) (told : Bool) → is_look_at wait process place (record { wait = wait; process = process; place = place; told = told }) ≡ true
  look_same place told =
      and_from (is_same_wait wait wait) ((process == process) && (place == place)) (wait_same wait)
      (and_from (process == process) (place == place) (eq-eqb process process refl) (eq-eqb place place refl))

  kill_is : (l : LookedAnchor) → is_kill_of wait process l ≡ true → (l.place < ANCHORS) × (l ≡ record { wait = wait; process = process; place = l.place; told = true })
  kill_is l is =
      let first = and_parts (is_same_wait l.wait wait) ((l.process == process) && (nat_lt l.place ANCHORS && l.told)) is in
      let rest = and_parts (l.process == process) (nat_lt l.place ANCHORS && l.told) first.1 in
      let last = and_parts (nat_lt l.place ANCHORS) l.told rest.1 in
      let its_wait = wait_is l.wait wait first.0 in
      let its_process = eqb-true l.process process rest.0 in
      let told = last.1 in
      (ltb-true l.place ANCHORS last.0, λ i. record { wait = its_wait i; process = its_process i; place = l.place; told = told i })

  kill_same : (place : ℕ) → place < ANCHORS → is_kill_of wait process (record { wait = wait; process = process; place = place; told = true }) ≡ true
  kill_same place within =
      and_from (is_same_wait wait wait) ((process == process) && (nat_lt place ANCHORS && true)) (wait_same wait)
      (and_from (process == process) (nat_lt place ANCHORS && true) (eq-eqb process process refl) (and_from (nat_lt place ANCHORS) true (lt-ltb place ANCHORS within) refl))

module _ (k : WriterKept) (wait : EndedWait) where
  -- the test is of what it says
  through_is : is_looked_through k wait ≡ true → (process : ℕ) → process < PROCESSES → IsLookedThrough k wait process
  through_is all process below place within =
      let row = below_passes (λ process. each_below (λ place. list_any (is_look_at wait process place) k.anchors) ANCHORS) PROCESSES all process below in
      let found = passed_by (is_look_at wait process place) k.anchors (below_passes (λ place. list_any (is_look_at wait process place) k.anchors) ANCHORS row place within) in
      (found.0.told, (found.1, found.2 ∙ ap Some (look_is wait process place found.0 found.3)))

  through_passes : ((process : ℕ) → process < PROCESSES → IsLookedThrough k wait process) → is_looked_through k wait ≡ true
  through_passes through =
      all_below (λ process. each_below (λ place. list_any (is_look_at wait process place) k.anchors) ANCHORS) PROCESSES
      (λ process below. all_below (λ place. list_any (is_look_at wait process place) k.anchors) ANCHORS
      (λ place within. (let looked = through process below place within in some_passes (is_look_at wait process place) k.anchors looked.1.0 _ looked.1.1 (look_same wait process place looked.0))))

  -- whom the instance killed
  killed_is : (process : ℕ) → process < PROCESSES → ToldOfKill k wait process ↔ Among (killed_in k wait) process
  killed_is process below = (
    λ told. passes_those (λ process. list_any (is_kill_of wait process) k.anchors) PROCESSES process below (some_passes (is_kill_of wait process) k.anchors told.2.0 _ told.2.1 (kill_same wait process told.0 told.1)),
    λ among. (let found = passed_by (is_kill_of wait process) k.anchors (those_pass (λ process. list_any (is_kill_of wait process) k.anchors) PROCESSES process among).1 in
        let kill = kill_is wait process found.0 found.3 in
        (found.0.place, kill.0, (found.1, found.2 ∙ ap Some kill.1))),
  )

-- the newest wait that passes passes, where one does
since_passes : (test : ℕ → Bool) (waits : List EndedWait) (wait : EndedWait) → Among waits wait → test wait.generation ≡ true → test (looked_since test waits) ≡ true
since_passes test [] wait (i, at) passes = absurd (cc)
since_passes test (first ∷ waits) wait among passes = by_test (λ rest. since_passes test waits wait rest passes) (test first.generation) refl
  where
    by_test : (Among waits wait → test (looked_since test waits) ≡ true) → (b : Bool) → test first.generation ≡ b → test (cond b first.generation (looked_since test waits)) ≡ true
    by_test later true here = here
    by_test later false fails =
        elim (among_cons waits first wait among) as (λ _. test (looked_since test waits) ≡ true) [
          | inl this ↦ absurd (let same : test wait.generation ≡ false = ap (λ (x : EndedWait). test x.generation) this ∙ fails in cc)
          | inr rest ↦ later rest
        ]

-- a look that was clear stands on that wait
clear_through : (k : WriterKept) (kind : LookKind) (serial generation : ℕ) → IsBacked k → ((process : ℕ) → process < PROCESSES → IsLookedThrough k (record { generation = generation; serial = serial; kind = kind }) process)
    → (process : ℕ) → process < PROCESSES → IsLookedThrough k (clear_wait k kind serial) process
clear_through k kind serial generation backed through =
    let looked = through 0 (omega arith) 0 (omega arith) in
    through_is k (clear_wait k kind serial)
    (since_passes (λ g. is_looked_through k (record { generation = g; serial = serial; kind = kind })) k.waits _ (backed.anchors _ looked.1) (through_passes k (record { generation = generation; serial = serial; kind = kind }) through))

-- ---- what the writer may do stays so

pub clear_still : (w : WriterView) (d : DroppedArea) (kind : LookKind) (serial : ℕ) → IsClear w kind serial → IsClear (with_drop d w) kind serial
clear_still w d kind serial clear = record {
  generation = clear.generation;
  over = record { need = clear.over.need; kept = clear.over.kept; reached = clear.over.reached; published = clear.over.published; at = clear.over.at; gone = clear.over.gone };
  looked = clear.looked;
}

pub fits_still : (w : WriterView) (d : DroppedArea) (value : ℕ) (kind : WordKind) → FitsWord w value kind → FitsWord (with_drop d w) value kind
fits_still w d value (InBlock block at) fits = record { unread = fits.unread; unkept = fits.unkept; entries = fits.entries }
fits_still w d value (Retire block) fits = record {
  tells_of = fits.tells_of;
  unused = fits.unused;
  cleared = λ k among same released. clear_still w d Both k.area.serial (fits.cleared k among same released);
}
fits_still w d value kind fits = fits

publish_still : (Served : Published → Type 0) (w : WriterView) (d : DroppedArea) (p : Published) → MayPublish Served w p → MayPublish Served (with_drop d w) p
publish_still Served w d p may = record {
  served = may.served;
  old_stays = may.old_stays;
  retired_stays = may.retired_stays;
  areas_go_on = record { apart = may.areas_go_on.apart; kept = may.areas_go_on.kept; new = may.areas_go_on.new };
  stands = record {
    root = may.stands.root;
    placed = may.stands.placed;
    code = may.stands.code;
    breakpoints = may.stands.breakpoints;
    terms = may.stands.terms;
    used = may.stands.used;
    areas = may.stands.areas;
  };
  fresh = record { fit = may.fresh.fit; images = may.fresh.images; areas = may.fresh.areas; apart = may.fresh.apart };
}

-- ---- the rule

module _ {Served : Published → Type 0} {opening : Opening} (s : State (Unit {0}) View) (r : RunningRule Served opening s) where
  -- looks at one anchor tell the same, since it tells it still
  looks_agree : (a b : LookedAnchor) → Among r.writer.looks.anchors a → Among r.writer.looks.anchors b → a.process < PROCESSES → a.place < ANCHORS → b.process ≡ a.process → b.place ≡ a.place → b.wait.serial ≡ a.wait.serial → b.told ≡ a.told
  looks_agree a b first second below within process place serial =
      let known = (some_member s r a.process below).1.known in
      let there = has_element (process_of (some_member s r a.process below).0 a.process).slot.anchors a.place (let wide = known.wide in omega (arith, within, wide)) in
      let one = (known.looked a first refl).told there.0 there.1 in
      let other = (known.looked b second process).told there.0 (ap (λ (i : ℕ). slice_get (process_of (some_member s r a.process below).0 a.process).slot.anchors i) place ∙ there.1) in
      sym other ∙ ap (λ (n : ℕ). tells_kill there.0 n) serial ∙ one

  module _ (kind : LookKind) (serial : ℕ) (clear : IsClear r.writer kind serial) where
    abbrev d : DroppedArea
    d = drop_of r.writer kind serial

    through : (process : ℕ) → process < PROCESSES → IsLookedThrough r.writer.looks d.wait process
    through = clear_through r.writer.looks kind serial clear.generation r.looks.backed clear.looked

    -- whom the drop has as killed is what each look told
    pub agrees : AgreesWithLooks r.writer.looks d
    agrees = record {
      told = λ l among same below within told.
          let looked = through l.process below l.place within in
          let also = looks_agree l (record { wait = d.wait; process = l.process; place = l.place; told = looked.0 }) among looked.1 below within refl refl (sym same) ∙ told in
          (killed_is r.writer.looks d.wait l.process below).0 (l.place, within, subst (λ (b : Bool). Among r.writer.looks.anchors (record { wait = d.wait; process = l.process; place = l.place; told = b })) also looked.1);
      killed = λ process among.
          let below = (those_pass (λ process. list_any (is_kill_of d.wait process) r.writer.looks.anchors) PROCESSES process among).0 in
          let told = (killed_is r.writer.looks d.wait process below).1 among in
          (told.0, told.1, λ l other same own here. looks_agree (record { wait = d.wait; process = process; place = told.0; told = true }) l told.2 other below told.1 own here same);
    }

    -- no member is under a later generation than the newest
    none_later : (k : ℕ) (m : MemberView) → slice_get (views_shown r.writer.members r.seats) k ≡ Some m → m.member.generation ≤ newest_number r.writer.published
    none_later k m at =
        let knows = knows_shown s r k m at in
        let holds = knows.holds in
        let long = ap (λ (ps : List Published). length ps) knows.seen.1 ∙ length-append m.seen knows.seen.0 in
        omega (arith, holds, long)

    known_dropped : (process k : ℕ) (m : MemberView) → process < PROCESSES → slice_get (views_shown r.writer.members r.seats) k ≡ Some m → SlotKnown s.words r.writer m process
        → IsKnown (under_of m) process (process_of m process) (with_drop_kept r.writer.looks d)
    known_dropped process k m below at h =
        drop_kept (under_of m) process (process_of m process) r.writer.looks d h.known (through process below) (none_later k m at) (killed_is r.writer.looks d.wait process below)

    drops : RunningRule Served opening (after_step s s.words 0 (Writer (with_drop d r.writer)))
    drops =
        let w' : WriterView = with_drop d r.writer in
        writer_changes s r s.words w' (record { members = refl; watchers = refl; learnt = λ xs is. is; noted = λ note is. is; words = kept_as r.writer w' refl refl refl (λ g may. may) }) refl refl refl refl
        (record { made = r.published.made; staffed = r.published.staffed; watched = r.published.watched; some = r.published.some; served = r.published.served; old_stays = r.published.old_stays; retired_stays = r.published.retired_stays; areas_stay = r.published.areas_stay; notes_fit = r.published.notes_fit })
        (record { all = r.words.all; root = r.words.root; mirror = r.words.mirror; mirrored = r.words.mirrored; reached = r.words.reached; blocks = r.words.blocks })
        (record { progress = r.machine.progress; own_words = r.machine.own_words; others_wait = r.machine.others_wait; leader_made = r.machine.leader_made })
        (record {
          backed = drop_backed r.writer.looks r.looks.backed d (r.looks.backed.anchors _ (through 0 (omega arith) 0 (omega arith)).1);
          over = λ wait among. ended_as r.writer w' refl refl (omega arith) wait (r.looks.over wait among);
        })
        (λ process k m below own at.
        let h = r.marks process k m below own at in
        record { turns = h.turns; anchors = h.anchors; narrow = h.narrow; known = known_dropped process k m below at h })

    -- the writer's view behind it
    dropped_view : (drops).writer ≡ with_drop d r.writer
    dropped_view =
        (writer_at (after_step s s.words 0 (Writer (with_drop d r.writer))) drops 0 (with_drop d r.writer) (ap (λ (vs : List View). get_elem? (set vs 0 (Writer (with_drop d r.writer))) 0) r.views)).1

    -- a step behind it is one step
    one_step : (words : List ℕ) (v : View) → RunningRule Served opening (after_step (after_step s s.words 0 (Writer (with_drop d r.writer))) words 0 v) → RunningRule Served opening (after_step s words 0 v)
    one_step words v rule =
        subst (λ (vs : List View). RunningRule Served opening (record { words = words; homes = s.homes; views = vs }))
        (ap (λ (vs : List View). set (set vs 0 (Writer (with_drop d r.writer))) 0 v) r.views ∙ sym (ap (λ (vs : List View). set vs 0 v) r.views)) rule

    pub releases : (word value : ℕ) → MayStoreWord r.writer word value → RunningRule Served opening (after_step s (set s.words word value) 0 (Writer (with_drop d (with_word word value r.writer))))
    releases word value may =
        let s' : State (Unit {0}) View = after_step s s.words 0 (Writer (with_drop d r.writer)) in
        let done = word_stores s' drops word value (subst (λ (x : WriterView). MayStoreWord x word value) (sym dropped_view) (fits_still r.writer d value (kind_at word) may)) in
        one_step (set s.words word value) (Writer (with_drop d (with_word word value r.writer)))
        (subst (λ (x : WriterView). RunningRule Served opening (after_step s' (set s.words word value) 0 (Writer (with_word word value x)))) dropped_view done)

    pub publishes : (p : Published) (code bp term n : ℕ) → IsRootOf p.root code bp term → length r.writer.published ≡ n + 1 → MayPublish Served r.writer p
        → RunningRule Served opening (after_step s (set s.words ROOT (code + 4 * bp + 8 * term + 32 * (n + 1))) 0 (Writer (with_drop d (with_next p r.writer))))
    publishes p code bp term n root number may =
        let s' : State (Unit {0}) View = after_step s s.words 0 (Writer (with_drop d r.writer)) in
        let words' : List ℕ = set s.words ROOT (code + 4 * bp + 8 * term + 32 * (n + 1)) in
        let done = root_stores s' drops p code bp term n root (ap (λ (x : WriterView). length x.published) dropped_view ∙ number) (subst (λ (x : WriterView). MayPublish Served x p) (sym dropped_view) (publish_still Served r.writer d p may)) in
        one_step words' (Writer (with_drop d (with_next p r.writer)))
        (subst (λ (x : WriterView). RunningRule Served opening (after_step s' words' 0 (Writer (with_next p x)))) dropped_view done)

-- ---- the stores

-- the writer may release an area of which a look in both kinds was clear
pub store_release_is_allowed : (Served : Published → Type 0) (opening : Opening) (slots id word value serial : ℕ) (me : Sat) → me.0 ≡ Writer (writer_of me.0) → MayStoreWord (writer_of me.0) word value → IsClear (writer_of me.0) Both serial
    → Allows (RunningRule Served opening) slots id me word (λ _. value) (λ _. release_stored serial (step slots word value 0 none) me value)
store_release_is_allowed Served opening slots id word value serial me is may clear s r wide at fits =
    let w = writer_of me.0 in
    let seat = writer_at s r id w (at ∙ ap some is) in
    let done = releases s r Both serial (subst (λ (x : WriterView). IsClear x Both serial) (sym seat.1) clear) word value (subst (λ (x : WriterView). MayStoreWord x word value) (sym seat.1) may) in (
      Writer (with_drop (drop_of w Both serial) (with_word word value w)),
      keeps,
      tt,
      subst (λ (z : ℕ × WriterView). RunningRule Served opening (after_step s (set s.words word value) z.0 (Writer (with_drop (drop_of z.1 Both serial) (with_word word value z.1))))) (λ i. (sym seat.0 i, seat.1 i)) done,
      refl,
    )

-- the writer may publish a generation by which an instance is dropped, of which a look for frames was clear
pub store_root_dropping_is_allowed : (Served : Published → Type 0) (opening : Opening) (slots id code bp term n x serial : ℕ) (p : Published) (me : Sat) → x ≡ code + 4 * bp + 8 * term + 32 * (n + 1) → me.0 ≡ Writer (writer_of me.0) → IsRootOf p.root code bp term → length (writer_of me.0).published ≡ n + 1 → MayPublish Served (writer_of me.0) p → IsClear (writer_of me.0) Frame serial
    → Allows (RunningRule Served opening) slots id me ROOT (λ _. x) (λ _. root_dropped p serial (step slots ROOT x 0 none) me x)
store_root_dropping_is_allowed Served opening slots id code bp term n x serial p me word is root number may clear s r wide at fits =
    let w = writer_of me.0 in
    let seat = writer_at s r id w (at ∙ ap some is) in
    let done = publishes s r Frame serial (subst (λ (v : WriterView). IsClear v Frame serial) (sym seat.1) clear) p code bp term n root (ap (λ (v : WriterView). length v.published) seat.1 ∙ number) (subst (λ (v : WriterView). MayPublish Served v p) (sym seat.1) may) in (
      Writer (with_drop (drop_of w Frame serial) (with_next p w)),
      keeps,
      tt,
      subst (λ (z : ℕ × (ℕ × WriterView)). RunningRule Served opening (after_step s (set s.words ROOT z.0) z.1.0 (Writer (with_drop (drop_of z.1.1 Frame serial) (with_next p z.1.1))))) (λ i. (sym word i, (sym seat.0 i, seat.1 i))) done,
      record { view = refl; agree = subst (λ (v : WriterView). AgreesWithLooks v.looks (drop_of v Frame serial)) seat.1 (agrees s r Frame serial (subst (λ (v : WriterView). IsClear v Frame serial) (sym seat.1) clear)) },
    )
