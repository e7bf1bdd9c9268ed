-- What a step leaves of the rule: one lemma for the steps of a member, and one for loads by the writer.
use Rattle.std.proofs.Common.{◌≡◌, ℕ, suc, ◌+◌, ◌%◌, ◌<◌, ◌≤◌, ◌⊎◌, inl, inr, List, ◌++◌, length, drop, set, get_or-set_other, get_or-set_same, length-set, refl, sym, ap, subst, ◌∙◌, arith, ⊎_elim}
use mathlib.Core.Option.{some, some-injective}
use mathlib.Core.Logic.{dite}
use native.Mathlib.Decide.{ℕ_discrete}
use lib.ListN.{get_elem?}
use Rattle.std.specs.Prelude.{Some, slice_get, slice_set, slice_index}
use Rattle.atomic_table.specs.Table.{State}
use Rattle.atomic_table.proofs.Lists.{at_set, set_else}
use Rattle.prgr_core.specs.declared.member.TheConstants.{MOST_MEMBERS}
use Rattle.prgr_core.specs.declared.member.Member as machines
use Rattle.prgr_core.specs.declared.event.PrgrEvent.{PrgrEvent}
use Rattle.prgr_core.specs.declared.progress.Progress.{Progress}
use Rattle.prgr_core.specs.Step.{after, with_member, IsSound}
use Rattle.prgr_core.proofs.Parts.{slice_get-slice_set}
use Rattle.prgr_core.proofs.Sound.{keeps_sound}
use Rattle.area_core.specs.declared.table.Published.{Published}
use Rattle.area_core.specs.declared.map.TheConstants.{SLOTS_START, PROCESSES, ANCHORS}
use Rattle.area_core.specs.Map.{word_at, opening_words, slot_place}
use Rattle.area_core.specs.Blocks.{Among, BlockInvariant}
use Rattle.shared_words.specs.declared.table.TheConstants.{ROOT, COUNTER, LEAD, DELAYS, CONFIRMED}
use Rattle.shared_words.specs.declared.opening.Opening.{Opening}
use Rattle.shared_words.specs.declared.view.MemberView.{MemberView}
use Rattle.shared_words.specs.declared.view.WriterView.{WriterView}
use Rattle.shared_words.specs.declared.view.View.{View}
use Rattle.shared_words.specs.declared.view.View.TheVariants.{Member, Spent}
use Rattle.shared_words.specs.Shown.{members_shown, views_shown, watchers_shown, leader_in, progress_of}
use Rattle.shared_words.specs.Rule.{MayBeRead, WordsAgree, SlotKnown, MarksKept, HasCome, MemberKnows, Knows, RunningRule}
use Rattle.shared_words.proofs.ShownMembers.{shown_set, shown_behind, shown_length, watchers_behind, drop_set, there, within_get}
use Rattle.shared_words.proofs.ShownViews.{views_at, views_set, views_behind}
use Rattle.shared_words.proofs.SlotFrames.{same_behind, same_slot, slot_still, SlotsGoOn, slot_goes_on}

-- the state of a table after a step that moves no slot
abbrev pub after_step : State (Unit {0}) View → List ℕ → ℕ → View → State (Unit {0}) View
after_step s words id v = record { words = words; homes = s.homes; views = set s.views id v }

-- the words of slots and blocks and the root are as before, and the counter is not lower
pub record KeepsRest (words words' : List ℕ) : Type 0 where
  pub all : length words' ≡ length words
  pub root : slice_index words' ROOT ≡ slice_index words ROOT
  pub counter : slice_index words COUNTER ≤ slice_index words' COUNTER
  pub behind : drop SLOTS_START words' ≡ drop SLOTS_START words

pub same_rest : (words : List ℕ) → KeepsRest words words
same_rest words = record { all = refl; root = refl; counter = omega arith; behind = refl }

-- a store of a word in front of the slots, not the root, leaves the rest, where it is no lower counter
pub stored_front : (words : List ℕ) (i x : ℕ) → 0 < i → i < SLOTS_START → i < length words → (i ≡ COUNTER → slice_index words COUNTER ≤ x) → KeepsRest words (set words i x)
stored_front words i x first front within later = record {
  all = length-set words i x;
  root = get_or-set_other words i ROOT x 0 (λ e. absurd (omega arith));
  counter = dite (ℕ_discrete i COUNTER)
      (λ here. subst (λ (n : ℕ). slice_index words COUNTER ≤ n) (sym (ap (λ (j : ℕ). slice_index (set words i x) j) (sym here) ∙ get_or-set_same words i x 0 within)) (later here))
      (λ other. subst (λ (n : ℕ). slice_index words COUNTER ≤ n) (sym (get_or-set_other words i COUNTER x 0 (λ e. other (sym e)))) (omega arith));
  behind = drop_set SLOTS_START i words x front;
}

-- then the words agree with what the writer knows as before
pub words_kept : (words words' : List ℕ) (w : WriterView) → KeepsRest words words' → WordsAgree words w → WordsAgree words' w
words_kept words words' w rest h = record {
  all = rest.all ∙ h.all;
  root = rest.root ∙ h.root;
  mirror = h.mirror;
  mirrored = λ place late. same_behind words words' rest.behind place (omega arith) ∙ h.mirrored place late;
  reached = (let before = h.reached in let later = rest.counter in omega arith);
  blocks = subst (λ (ws : List ℕ). BlockInvariant (record { word = word_at (opening_words SLOTS_START ++ ws); published = w.published; kept = w.kept }) (MayBeRead w)) (sym rest.behind) h.blocks;
}

-- each other seat knows what it knew
pub seats_kept : (w : WriterView) (seats : List View) (k : ℕ) (v : View) → ((place : ℕ) (x : View) → get_elem? seats place ≡ some x → Knows w place x) → Knows w k v
    → (place : ℕ) (x : View) → get_elem? (set seats k v) place ≡ some x → Knows w place x
seats_kept w seats k v before mine place x at =
    ⊎_elim (λ (t : (place ≡ k) × (v ≡ x)). subst (λ (z : ℕ × View). Knows w z.0 z.1) (λ i. (sym t.0 i, t.1 i)) mine) (λ t. before place x t.1) (at_set seats k place v x at)

-- the state of the machine with another member at this place
pub progress_set : (words : List ℕ) (w : WriterView) (seats : List View) (k : ℕ) (m : MemberView) → k < length w.members → k < length seats → progress_of words w (set seats k (Member m)) ≡ with_member (progress_of words w seats) k m.member
progress_set words w seats k m few within = λ i. record (progress_of words w seats) {
  members = shown_set w.members seats k m few within i;
  watchers = watchers_shown w.watchers (drop_set (length w.members) k seats (Member m) few i);
}

-- the state of the machine with other words
pub progress_words : (words words' : List ℕ) (w : WriterView) (seats : List View) (c l : ℕ) → slice_index words' COUNTER ≡ c → slice_index words' LEAD ≡ l → slice_index words' DELAYS ≡ slice_index words DELAYS → slice_index words' (DELAYS + 1) ≡ slice_index words (DELAYS + 1)
    → progress_of words' w seats ≡ record (progress_of words w seats) { counter = c; leader = leader_in l }
progress_words words words' w seats c l counter lead even odd = λ i. record (progress_of words w seats) { counter = counter i; leader = leader_in (lead i); delay_even = even i; delay_odd = odd i }

-- the machine makes an event, or nothing
abbrev pub Moves : Progress → Progress → Type 0
Moves p q = ((event : PrgrEvent) × (after p event ≡ Some q)) ⊎ (q ≡ p)

pub moves_sound : (p q : Progress) → IsSound p → Moves p q → IsSound q
moves_sound p q sound moves = ⊎_elim (λ (made : (event : PrgrEvent) × (after p event ≡ Some q)). keeps_sound p made.0 q sound made.1) (λ (same : q ≡ p). subst IsSound (sym same) sound) moves

-- what a step of a member, with a new view and new words, owes: its event, and what its words and views are
pub record MemberChange (words words' : List ℕ) (w : WriterView) (seats : List View) (k : ℕ) (old m : MemberView) : Type 0 where
  pub agree : WordsAgree words' w
  pub knows : MemberKnows w k m
  pub moves : Moves (progress_of words w seats) (progress_of words' w (set seats k (Member m)))
  pub own : slice_index words' (CONFIRMED + k) ≡ m.member.word
  pub others : (j : ℕ) → (j ≡ k → ⊥) → j < length w.members ⊎ (j < MOST_MEMBERS) → slice_index words' (CONFIRMED + j) ≡ slice_index words (CONFIRMED + j)
  pub leader : slice_index words' LEAD ≤ length w.members
  pub mine : (process : ℕ) → process < PROCESSES → process % length w.members ≡ k → SlotKnown words w old process → SlotKnown words' w m process
  pub elsewhere : (process place : ℕ) → process < PROCESSES → (process % length w.members ≡ k → ⊥) → place ≤ ANCHORS → slice_index words' (slot_place process place) ≡ slice_index words (slot_place process place)

-- the same of a step that stores no word of a slot or block
pub record MemberStep (words words' : List ℕ) (w : WriterView) (seats : List View) (k : ℕ) (old m : MemberView) : Type 0 where
  pub rest : KeepsRest words words'
  pub knows : MemberKnows w k m
  pub moves : Moves (progress_of words w seats) (progress_of words' w (set seats k (Member m)))
  pub own : slice_index words' (CONFIRMED + k) ≡ m.member.word
  pub others : (j : ℕ) → (j ≡ k → ⊥) → slice_index words' (CONFIRMED + j) ≡ slice_index words (CONFIRMED + j)
  pub leader : slice_index words' LEAD ≤ length w.members
  pub slots : SlotsGoOn w old m

module _ {Served : Published → Type 0} {opening : Opening} (s : State (Unit {0}) View) (r : RunningRule Served opening s) where
  -- the words of all members, after one has another
  own_words : (words' : List ℕ) (k : ℕ) (old m : MemberView) → k < length r.seats → MemberChange s.words words' r.writer r.seats k old m
      → (j : ℕ) (a : machines.Member) → slice_get (members_shown r.writer.members (set r.seats k (Member m))) j ≡ Some a → slice_index words' (CONFIRMED + j) ≡ a.word
  own_words words' k old m within step j a at =
      let now : slice_get (slice_set (members_shown r.writer.members r.seats) k m.member) j ≡ Some a = ap (λ (xs : List machines.Member). slice_get xs j) (sym (shown_set r.writer.members r.seats k m step.knows.made within)) ∙ at in
      ⊎_elim (λ (t : (j ≡ k) × (a ≡ m.member)). ap (λ (i : ℕ). slice_index words' (CONFIRMED + i)) t.0 ∙ step.own ∙ ap (λ (x : machines.Member). x.word) (sym t.1))
      (λ (t : (j ≡ k → ⊥) × (slice_get (members_shown r.writer.members r.seats) j ≡ Some a)). step.others j t.0 (inl (subst (λ (n : ℕ). j < n) (shown_length r.writer.members r.seats) (within_get (members_shown r.writer.members r.seats) j a t.1))) ∙ r.machine.own_words j a t.1)
      (slice_get-slice_set (members_shown r.writer.members r.seats) k m.member j a now)

  -- what is known of all processes, after a step of one member
  marks_after : (words' : List ℕ) (k : ℕ) (old m : MemberView) → get_elem? r.seats k ≡ some (Member old) → MemberChange s.words words' r.writer r.seats k old m → MarksKept words' r.writer (set r.seats k (Member m))
  marks_after words' k old m at step process j n below own here =
      let now : slice_get (slice_set (views_shown r.writer.members r.seats) k m) j ≡ Some n = ap (λ (xs : List MemberView). slice_get xs j) (sym (views_set r.writer.members r.seats k m step.knows.made (there r.seats k (Member old) at))) ∙ here in
      ⊎_elim (λ (t : (j ≡ k) × (n ≡ m)). subst (λ (x : MemberView). SlotKnown words' r.writer x process) (sym t.1)
      (step.mine process below (own ∙ t.0) (r.marks process k old below (own ∙ t.0) (views_at r.writer.members r.seats k old step.knows.made at))))
      (λ (t : (j ≡ k → ⊥) × (slice_get (views_shown r.writer.members r.seats) j ≡ Some n)). slot_still s.words words' r.writer r.writer n process refl (λ place within. step.elsewhere process place below (λ e. t.0 (sym own ∙ e)) within) (r.marks process j n below own t.1))
      (slice_get-slice_set (views_shown r.writer.members r.seats) k m j n now)

  -- who came in did not make the step
  come_after : (k : ℕ) (old : MemberView) (v : View) → get_elem? r.seats k ≡ some (Member old) → (number : ℕ) → Among r.writer.taken number → HasCome r.writer (set r.seats k v) number
  come_after k old v at number among =
      let come = r.come number among in
      record {
        made = come.made;
        spent = set_else r.seats k number v (λ same. other (sym at ∙ ap (get_elem? r.seats) (sym same) ∙ come.spent)) ∙ come.spent;
      }
    where
      other : some (Member old) ≡ some Spent → ⊥
      other e = (let is : Member old ≡ Spent = some-injective (Member old) Spent e in absurd (cc))

  -- the rule after a step of a member
  pub member_changes : (words' : List ℕ) (k : ℕ) (old m : MemberView) → get_elem? r.seats k ≡ some (Member old) → MemberChange s.words words' r.writer r.seats k old m → RunningRule Served opening (after_step s words' (suc k) (Member m))
  member_changes words' k old m at step = record {
    writer = r.writer;
    seats = set r.seats k (Member m);
    views = ap (λ (vs : List View). set vs (suc k) (Member m)) r.views;
    published = r.published;
    words = step.agree;
    each_seat = seats_kept r.writer r.seats k (Member m) r.each_seat step.knows;
    machine = record {
      progress = moves_sound (progress_of s.words r.writer r.seats) (progress_of words' r.writer (set r.seats k (Member m))) r.machine.progress step.moves;
      own_words = own_words words' k old m (there r.seats k (Member old) at) step;
      others_wait = λ j late few. step.others j (λ same. (let made = step.knows.made in absurd (omega arith))) (inr few) ∙ r.machine.others_wait j late few;
      leader_made = step.leader;
    };
    handed = λ more. length-set r.seats k (Member m) ∙ r.handed more;
    out = omega (arith, r.out, length-set r.seats k (Member m));
    at_home = r.at_home;
    watchers_home = r.watchers_home;
    looks = r.looks;
    marks = marks_after words' k old m at step;
    come = come_after k old (Member m) at;
  }

  pub member_step : (words' : List ℕ) (k : ℕ) (old m : MemberView) → get_elem? r.seats k ≡ some (Member old) → MemberStep s.words words' r.writer r.seats k old m → RunningRule Served opening (after_step s words' (suc k) (Member m))
  member_step words' k old m at step = member_changes words' k old m at (record {
    agree = words_kept s.words words' r.writer step.rest r.words;
    knows = step.knows;
    moves = step.moves;
    own = step.own;
    others = λ j other few. step.others j other;
    leader = step.leader;
    mine = λ process below own h. slot_goes_on s.words words' r.writer old m process step.slots step.rest.behind h;
    elsewhere = λ process place below other within. same_slot s.words words' step.rest.behind process place;
  })

  -- the rule after a step by a seat behind those of members and watchers, which leaves the words
  pub behind_step : (k : ℕ) (v : View) → length r.writer.members + length r.writer.watchers ≤ k → Knows r.writer k v → RunningRule Served opening (after_step s s.words (suc k) v)
  behind_step k v behind knows =
      let same = shown_behind r.writer.members r.seats k v (omega (arith, behind)) in record {
        writer = r.writer;
        seats = set r.seats k v;
        views = ap (λ (vs : List View). set vs (suc k) v) r.views;
        published = r.published;
        words = r.words;
        each_seat = seats_kept r.writer r.seats k v r.each_seat knows;
        machine = record {
          progress = subst IsSound (λ i. record (progress_of s.words r.writer r.seats) { members = sym same i; watchers = sym (watchers_behind (length r.writer.members) r.writer.watchers r.seats k v behind) i }) r.machine.progress;
          own_words = λ j a here. r.machine.own_words j a (ap (λ (xs : List machines.Member). slice_get xs j) (sym same) ∙ here);
          others_wait = r.machine.others_wait;
          leader_made = r.machine.leader_made;
        };
        handed = λ more. length-set r.seats k v ∙ r.handed more;
        out = omega (arith, r.out, length-set r.seats k v);
        at_home = r.at_home;
        watchers_home = r.watchers_home;
        looks = r.looks;
        marks = λ process j m below own at. r.marks process j m below own (ap (λ (xs : List MemberView). slice_get xs j) (sym (views_behind r.writer.members r.seats k v (omega (arith, behind)))) ∙ at);
        come = λ number among.
            let come = r.come number among in
            let made = come.made in
            record { made = come.made; spent = set_else r.seats k number v (λ e. absurd (omega (arith, behind))) ∙ come.spent };
      }
