-- A load of the counter keeps the rule, whatever seat loads it.
use Rattle.std.proofs.Common.{◌≡◌, ℕ, zero, suc, ◌≤◌, inl, inr, ne_eqb, Bool, true, false, cond, List, [], append-nil, set, refl, sym, ap, subst, ◌∙◌, arith}
use mathlib.Core.Option.{none, some, some-injective}
use lib.ListN.{get_elem?}
use lib.Seq.{set-get_or}
use Rattle.std.specs.Prelude.{Some, None, slice_get, slice_index}
use Rattle.std.specs.Option.{option_and_then}
use Rattle.atomic_table.specs.Table.{State, keeps, step, Allows}
use Rattle.atomic_table.proofs.Lists.{set_again}
use Rattle.prgr_core.specs.declared.member.Member as machines
use Rattle.prgr_core.specs.declared.watcher.Watcher as watching
use Rattle.prgr_core.specs.declared.progress.Progress.{Progress}
use Rattle.prgr_core.specs.declared.event.PrgrEvent.TheVariants as prgr
use Rattle.prgr_core.specs.Members as members
use Rattle.prgr_core.specs.Watchers as watchers
use Rattle.prgr_core.specs.Step.{after, with_member, with_watcher}
use Rattle.prgr_core.proofs.Sound.{pair_sound}
use Rattle.prgr_core.proofs.SoundParts.{is_member}
use Rattle.prgr_core.specs.declared.member.TheConstants.{WAITING}
use Rattle.area_core.specs.declared.table.Published.{Published}
use Rattle.area_core.proofs.Fewer.{fewer_count}
use Rattle.shared_words.specs.declared.table.TheConstants.{COUNTER}
use Rattle.shared_words.specs.declared.opening.Opening.{Opening}
use Rattle.shared_words.specs.declared.view.MemberView.{MemberView}
use Rattle.shared_words.specs.declared.view.WatcherView.{WatcherView}
use Rattle.shared_words.specs.declared.view.WriterView.{WriterView}
use Rattle.shared_words.specs.declared.view.View.{View}
use Rattle.shared_words.specs.declared.view.View.TheVariants.{Writer, Member, Watcher, Note, Spent}
use Rattle.shared_words.specs.Shown.{progress_of}
use Rattle.shared_words.specs.Kinds.{Sat, MayLoadCounter, IsRising, counter_kept, counter_found, counter_loaded}
use Rattle.shared_words.specs.Rule.{MayBeRead, blocks_shown, Knows, RunningRule}
use Rattle.shared_words.proofs.ShownMembers.{shown_at, there, still_at}
use Rattle.shared_words.proofs.KeptWords.{kept_as}
use Rattle.shared_words.proofs.SlotFrames.{goes_on, LooksStay, looks_same, looks_stay, marks_stay, ended_still}
use Rattle.shared_words.proofs.Frames.{after_step, same_rest, progress_set, member_step}
use Rattle.shared_words.proofs.WatcherFrames.{progress_watched, watcher_here, watcher_step}
use Rattle.shared_words.proofs.WriterFrames.{writer_at}

-- ---- by a member

-- the record of a member that has loaded the counter
abbrev with_counter : ℕ → MemberView → MemberView
with_counter c m = record m { member = members.counter_loaded c m.member }

-- the event that a member's load is
loaded_event : (p : Progress) (k : ℕ) (a : machines.Member) → slice_get p.members k ≡ Some a → members.is_waiting a.word ≡ false → after p (prgr.LoadCounter k) ≡ Some (with_member p k (members.counter_loaded p.counter a))
loaded_event p k a at awake =
    ap (option_and_then (λ (member : machines.Member). cond (members.is_waiting member.word) None (Some (with_member p k (members.counter_loaded p.counter member))))) at
    ∙ ap (λ (t : Bool). cond t None (Some (with_member p k (members.counter_loaded p.counter a)))) awake

-- the record of a watcher that has loaded the counter
abbrev watcher_with_counter : ℕ → WatcherView → WatcherView
watcher_with_counter c v = record v { watcher = watchers.counter_watched c v.watcher }

-- the event that a watcher's load is
watched_event : (p : Progress) (k : ℕ) (a : watching.Watcher) → slice_get p.watchers k ≡ Some a → watchers.may_look a.phase ≡ true → after p (prgr.WatchLoad k) ≡ Some (with_watcher p k (watchers.counter_watched p.counter a))
watched_event p k a at may =
    ap (option_and_then (λ (watcher : watching.Watcher). cond (watchers.may_look watcher.phase) (Some (with_watcher p k (watchers.counter_watched p.counter watcher))) None)) at
    ∙ ap (λ (t : Bool). cond t (Some (with_watcher p k (watchers.counter_watched p.counter a))) None) may

module _ {Served : Published → Type 0} {opening : Opening} (s : State (Unit {0}) View) (r : RunningRule Served opening s) where
  member_loads : (k : ℕ) (m : MemberView) → get_elem? r.seats k ≡ some (Member m) → members.is_waiting m.member.word ≡ false → RunningRule Served opening (after_step s s.words (suc k) (Member (with_counter (slice_index s.words COUNTER) m)))
  member_loads k m at awake =
      let knows = r.each_seat k (Member m) at in
      let c : ℕ = slice_index s.words COUNTER in
      let shown = shown_at r.writer.members r.seats k m knows.made at in
      let within = there r.seats k (Member m) at in
      member_step s r s.words k m (with_counter c m) at (record {
        rest = same_rest s.words;
        knows = record { numbered = knows.numbered; made = knows.made; seen = knows.seen; holds = knows.holds; noted = knows.noted; own_slots = knows.own_slots; words = knows.words };
        moves = inl (prgr.LoadCounter k, loaded_event (progress_of s.words r.writer r.seats) k m.member shown awake ∙ ap (λ (p : Progress). Some p) (sym (progress_set s.words r.writer r.seats k (with_counter c m) knows.made within)));
        own = r.machine.own_words k m.member shown;
        others = λ j other. refl;
        leader = r.machine.leader_made;
        slots = goes_on r.writer m (members.counter_loaded c m.member) m.found refl refl;
      })

  -- a member that leads does not wait
  may_load : (k : ℕ) (m : MemberView) → get_elem? r.seats k ≡ some (Member m) → MayLoadCounter (Member m) → members.is_waiting m.member.word ≡ false
  may_load k m at may =
      elim may as (λ _. members.is_waiting m.member.word ≡ false) [
        | inl awake ↦ awake
        | inr leads ↦
            let among = is_member (progress_of s.words r.writer r.seats) r.machine.progress k m.member (shown_at r.writer.members r.seats k m (r.each_seat k (Member m) at).made at) in
            let value = r.machine.progress.invariant.leader_awake m.member among leads in
            ne_eqb m.member.word WAITING (λ e. absurd (omega arith))
      ]

  -- ---- by a watcher

  watcher_loads : (k : ℕ) (v : WatcherView) → get_elem? r.seats k ≡ some (Watcher v) → watchers.may_look v.watcher.phase ≡ true → RunningRule Served opening (after_step s s.words (suc k) (Watcher (watcher_with_counter (slice_index s.words COUNTER) v)))
  watcher_loads k v at may =
      let knows = r.each_seat k (Watcher v) at in
      let c : ℕ = slice_index s.words COUNTER in
      let v' = watcher_with_counter c v in
      let p = progress_of s.words r.writer r.seats in
      watcher_step s r s.words k v' (record {
        rest = same_rest s.words;
        knows = record { numbered = knows.numbered; made = knows.made; seen = knows.seen; words = knows.words };
        moves = inl (prgr.WatchLoad v.watcher.number, watched_event p v.watcher.number v.watcher (watcher_here s r k v at) may ∙ ap (λ (q : Progress). Some q) (sym (progress_watched s.words r.writer r.seats k v.watcher.number v' knows.numbered knows.made (there r.seats k (Watcher v) at))));
        members = λ j. refl;
        leader = refl;
      })

  -- ---- by the writer

  -- one more pair leaves fewer generations that may be read
  fewer : (c : ℕ) → r.writer.counter ≤ c → (g : ℕ) → MayBeRead (counter_kept c r.writer) g → MayBeRead r.writer g
  fewer c later g may pair among need =
      may pair (among.0, still_at r.writer.pairs _ among.0 pair among.1) (let n : pair.need ≤ r.writer.counter = need in omega arith)

  -- what each seat knows stays with fewer generations that may be read
  same_knows : (c : ℕ) → r.writer.counter ≤ c → (place : ℕ) (v : View) → Knows r.writer place v → Knows (counter_kept c r.writer) place v
  same_knows c later place (Writer w) h = h
  same_knows c later place (Member m) h = record { numbered = h.numbered; made = h.made; seen = h.seen; holds = h.holds; noted = h.noted; own_slots = h.own_slots; words = λ f among. kept_as r.writer (counter_kept c r.writer) refl refl refl (fewer c later) f (h.words f among) }
  same_knows c later place (Watcher w) h = record { numbered = h.numbered; made = h.made; seen = h.seen; words = λ f among. kept_as r.writer (counter_kept c r.writer) refl refl refl (fewer c later) f (h.words f among) }
  same_knows c later place (Note n) h = record { behind = h.behind; seen = h.seen; noted = h.noted; learnt = h.learnt }
  same_knows c later place Spent h = h

  writer_loads : RunningRule Served opening (after_step s s.words 0 (Writer (counter_kept (slice_index s.words COUNTER) r.writer)))
  writer_loads =
      let c : ℕ = slice_index s.words COUNTER in
      let w' = counter_kept c r.writer in
      let stay : LooksStay s.words s.words r.writer w' = looks_same s.words r.writer w' refl (ended_still r.writer w' _ [] refl (sym (append-nil r.writer.published)) r.words.reached) in record {
        writer = counter_kept c r.writer;
        seats = r.seats;
        views = ap (λ (vs : List View). set vs 0 (Writer (counter_kept c r.writer))) r.views;
        published = record { made = r.published.made; staffed = r.published.staffed; watched = r.published.watched; some = r.published.some; served = r.published.served; old_stays = r.published.old_stays; retired_stays = r.published.retired_stays; areas_stay = r.published.areas_stay; notes_fit = r.published.notes_fit };
        words = record {
          all = r.words.all;
          root = r.words.root;
          mirror = r.words.mirror;
          mirrored = r.words.mirrored;
          reached = omega arith;
          blocks = fewer_count (blocks_shown s.words r.writer) (MayBeRead r.writer) (MayBeRead (counter_kept c r.writer)) r.words.blocks (fewer c r.words.reached);
        };
        each_seat = λ place v at. same_knows c r.words.reached place v (r.each_seat place v at);
        machine = record {
          progress = pair_sound (progress_of s.words r.writer r.seats) r.machine.progress;
          own_words = r.machine.own_words;
          others_wait = r.machine.others_wait;
          leader_made = r.machine.leader_made;
        };
        handed = r.handed;
        out = r.out;
        at_home = λ k m at. same_knows c r.words.reached k (Member m) (r.at_home k m at);
        watchers_home = r.watchers_home;
        looks = looks_stay s.words s.words r.writer w' stay r.looks;
        marks = marks_stay s.words s.words r.writer w' r.seats r.seats stay refl refl r.marks;
        come = λ number among. record { made = (r.come number among).made; spent = (r.come number among).spent };
      }

  -- ---- by any seat

  pub same_step : (id : ℕ) (v : View) → get_elem? s.views id ≡ some v → RunningRule Served opening (after_step s s.words id v)
  same_step id v at = subst (λ (vs : List View). RunningRule Served opening (record { words = s.words; homes = s.homes; views = vs })) (sym (set_again s.views id v at)) r

  behind_loads : (k : ℕ) (v : View) → get_elem? s.views (suc k) ≡ some v → get_elem? r.seats k ≡ some v → MayLoadCounter v → RunningRule Served opening (after_step s s.words (suc k) (counter_found (slice_index s.words COUNTER) v))
  behind_loads k (Writer w) at here may = absurd (r.each_seat k (Writer w) here)
  behind_loads k (Member m) at here may = member_loads k m here (may_load k m here may)
  behind_loads k (Watcher w) at here may = watcher_loads k w here may
  behind_loads k (Note n) at here may = same_step (suc k) (Note n) at
  behind_loads k Spent at here may = absurd may

  pub counter_loads : (id : ℕ) (v : View) → get_elem? s.views id ≡ some v → MayLoadCounter v → RunningRule Served opening (after_step s s.words id (counter_found (slice_index s.words COUNTER) v))
  counter_loads zero v at may =
      let is : Writer r.writer ≡ v = some-injective (Writer r.writer) v (ap (λ (vs : List View). get_elem? vs 0) (sym r.views) ∙ at) in
      subst (λ (x : View). RunningRule Served opening (after_step s s.words 0 (counter_found (slice_index s.words COUNTER) x))) is writer_loads
  counter_loads (suc k) v at may = behind_loads k v at (ap (λ (vs : List View). get_elem? vs (suc k)) (sym r.views) ∙ at) may

  -- it has reached what the writer loaded before
  pub rises : (id : ℕ) (v : View) → get_elem? s.views id ≡ some v → IsRising v (slice_index s.words COUNTER)
  rises id v at w is = subst (λ (x : WriterView). x.counter ≤ slice_index s.words COUNTER) (writer_at s r id w (at ∙ ap some is)).1 r.words.reached

-- the load of the counter may be made by each seat that may make it
pub load_counter_is_allowed : (Served : Published → Type 0) (opening : Opening) (slots id : ℕ) (me : Sat) → MayLoadCounter me.0 → Allows (RunningRule Served opening) slots id me COUNTER (λ n. n) (counter_loaded (step slots COUNTER 0 0 none) me)
load_counter_is_allowed Served opening slots id me may s r wide at fits = (
  counter_found (slice_index s.words COUNTER) me.0,
  keeps,
  tt,
  subst (λ (ws : List ℕ). RunningRule Served opening (after_step s ws id (counter_found (slice_index s.words COUNTER) me.0))) (sym (set-get_or s.words COUNTER 0)) (counter_loads s r id me.0 at may),
  record { range = r.machine.progress.invariant.counter_in_range; rising = rises s r id me.0 at; view = refl },
)
