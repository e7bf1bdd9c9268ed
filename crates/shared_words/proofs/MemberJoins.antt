-- The join of a member's seat to the writer's keeps the rule: the writer keeps what the member knew, and its seat is spent.
use Rattle.std.proofs.Common.{◌≡◌, ℕ, zero, suc, ◌%◌, ◌<◌, ◌≤◌, ⊎_elim, List, [], ◌∷◌, length, length-set, drop, set, refl, sym, ap, subst, ◌∙◌, arith}
use mathlib.Core.Option.{none, some, some-injective, some-ne-none}
use lib.ListN.{get_elem?}
use lib.Seq.{set-get_or}
use Rattle.std.specs.Prelude.{slice_get, slice_set, slice_index}
use Rattle.atomic_table.specs.Table.{State, Joins, keeps, step, Allows}
use Rattle.atomic_table.proofs.Lists.{at_set, set_here, set_else}
use Rattle.prgr_core.specs.declared.member.Member as machines
use Rattle.prgr_core.specs.Step.{IsSound}
use Rattle.prgr_core.proofs.Parts.{slice_get-slice_set}
use Rattle.area_core.specs.declared.table.Published.{Published}
use Rattle.area_core.specs.Blocks.{Among}
use Rattle.marks.proofs.Anchors.{among_cons}
use Rattle.shared_words.specs.declared.table.TheConstants.{ROOT}
use Rattle.shared_words.specs.declared.opening.Opening.{Opening}
use Rattle.shared_words.specs.declared.view.MemberView.{MemberView}
use Rattle.shared_words.specs.declared.view.WriterView.{WriterView}
use Rattle.shared_words.specs.declared.view.View.{View}
use Rattle.shared_words.specs.declared.view.View.TheVariants.{Writer, Member, Spent}
use Rattle.shared_words.specs.Shown.{member_shown, members_shown, watchers_shown, progress_of}
use Rattle.shared_words.specs.Seats.{member_of, writer_of}
use Rattle.shared_words.specs.Kinds.{Sat}
use Rattle.shared_words.specs.Rule.{Knows, MemberKnows, SlotKnown, HasCome, RunningRule}
use Rattle.shared_words.specs.Closing.{with_member, member_taken, HasBrought, AreKnown, AreMarked, members_seen}
use Rattle.shared_words.proofs.KeptWords.{kept_as}
use Rattle.shared_words.proofs.ShownMembers.{drop_set, there}
use Rattle.shared_words.proofs.ShownViews.{views_come, views_taken}
use Rattle.shared_words.proofs.SlotFrames.{LooksStay, looks_same, looks_stay, marks_stay, ended_as}
use Rattle.shared_words.proofs.Frames.{after_step}
use Rattle.shared_words.proofs.CounterLoads.{same_step}
use Rattle.shared_words.proofs.MemberStores.{seat_of}
use Rattle.shared_words.proofs.WriterFrames.{WriterGrows, knows_more, writer_at}

-- the members are shown as before
shown_taken : (members : List MemberView) (seats : List View) (k : ℕ) (m : MemberView) → k < length members → get_elem? seats k ≡ some (Member m) → members_shown (slice_set members k m) (set seats k Spent) ≡ members_shown members seats
shown_taken [] seats k m few at = absurd (omega arith)
shown_taken (kept ∷ members) [] k m few at = absurd (some-ne-none (Member m) (sym at))
shown_taken (kept ∷ members) (seat ∷ seats) zero m few at = ap (λ (v : View). member_shown kept v ∷ members_shown members seats) (sym (some-injective seat (Member m) at))
shown_taken (kept ∷ members) (seat ∷ seats) (suc k) m few at = ap (λ (xs : List machines.Member). member_shown kept seat ∷ xs) (shown_taken members seats k m (omega arith) at)

module _ {Served : Published → Type 0} {about : Opening} (s : State (Unit {0}) View) (r : RunningRule Served about s) (k : ℕ) (m : MemberView) (at : get_elem? r.seats k ≡ some (Member m)) where
  abbrev taken : ℕ → WriterView
  taken i = record r.writer { members = slice_set r.writer.members i m; taken = i ∷ r.writer.taken }

  knows : MemberKnows r.writer k m
  knows = r.each_seat k (Member m) at

  long : length (slice_set r.writer.members k m) ≡ length r.writer.members
  long = length-set r.writer.members k m

  more : WriterGrows r.writer (taken k)
  more = record { members = long; watchers = refl; learnt = λ xs is. is; noted = λ note is. is; words = kept_as r.writer (taken k) refl refl refl (λ g may. may) }

  same : members_shown (slice_set r.writer.members k m) (set r.seats k Spent) ≡ members_shown r.writer.members r.seats
  same = shown_taken r.writer.members r.seats k m knows.made at

  -- behind the members' seats nothing changes
  behind : drop (length (slice_set r.writer.members k m)) (set r.seats k Spent) ≡ drop (length r.writer.members) r.seats
  behind = ap (λ (n : ℕ). drop n (set r.seats k Spent)) long ∙ drop_set (length r.writer.members) k r.seats Spent knows.made

  stay : LooksStay s.words s.words r.writer (taken k)
  stay = looks_same s.words r.writer (taken k) refl (ended_as r.writer (taken k) refl refl (omega arith))

  -- it came in, as others did before it
  have_come : (number : ℕ) → Among (k ∷ r.writer.taken) number → HasCome (taken k) (set r.seats k Spent) number
  have_come number among =
      ⊎_elim (λ (this : number ≡ k). subst (HasCome (taken k) (set r.seats k Spent)) (sym this) (record { made = subst (λ (n : ℕ). k < n) (sym long) knows.made; spent = set_here r.seats k Spent (there r.seats k (Member m) at) }))
      (λ (before : Among r.writer.taken number).
      let come = r.come number before in
      record {
        made = subst (λ (n : ℕ). number < n) (sym long) come.made;
        spent = set_else r.seats k number Spent (λ this. other (sym at ∙ ap (get_elem? r.seats) (sym this) ∙ come.spent)) ∙ come.spent;
      })
      (among_cons r.writer.taken k number among)
    where
      other : some (Member m) ≡ some Spent → ⊥
      other e = (let is : Member m ≡ Spent = some-injective (Member m) Spent e in absurd (cc))

  takes : RunningRule Served about record { words = s.words; homes = s.homes; views = set (set s.views 0 (Writer (taken k))) (suc k) Spent }
  takes = record {
    writer = taken k;
    seats = set r.seats k Spent;
    views = ap (λ (vs : List View). set (set vs 0 (Writer (taken k))) (suc k) Spent) r.views;
    published = record { made = long ∙ r.published.made; staffed = subst (λ (n : ℕ). 0 < n) (sym long) r.published.staffed; watched = r.published.watched; some = r.published.some; served = r.published.served; old_stays = r.published.old_stays; retired_stays = r.published.retired_stays; areas_stay = r.published.areas_stay; notes_fit = r.published.notes_fit };
    words = record { all = r.words.all; root = r.words.root; mirror = r.words.mirror; mirrored = r.words.mirrored; reached = r.words.reached; blocks = r.words.blocks };
    each_seat = λ place v here. ⊎_elim (λ (t : (place ≡ k) × (Spent ≡ v)). subst (λ (x : View). Knows (taken k) place x) t.1 tt)
        (λ t. knows_more r.writer (taken k) more place v (r.each_seat place v t.1))
        (at_set r.seats k place Spent v here);
    machine = record {
      progress = subst IsSound (λ i. record (progress_of s.words r.writer r.seats) { members = sym same i; watchers = watchers_shown r.writer.watchers (sym behind i) }) r.machine.progress;
      own_words = λ j a here. r.machine.own_words j a (ap (λ (xs : List machines.Member). slice_get xs j) (sym same) ∙ here);
      others_wait = λ j late few. r.machine.others_wait j (subst (λ (n : ℕ). n ≤ j) long late) few;
      leader_made = subst (λ (n : ℕ). slice_index s.words 2 ≤ n) (sym long) r.machine.leader_made;
    };
    handed = λ few. length-set r.seats k Spent ∙ r.handed (omega (arith, few, long));
    out = omega (arith, r.out, length-set r.seats k Spent);
    at_home = λ j x here. ⊎_elim (λ (t : (j ≡ k) × (x ≡ m)). subst (λ (z : ℕ × MemberView). MemberKnows (taken k) z.0 z.1) (λ i. (sym t.0 i, sym t.1 i)) (knows_more r.writer (taken k) more k (Member m) knows))
        (λ t. knows_more r.writer (taken k) more j (Member x) (r.at_home j x t.1))
        (slice_get-slice_set r.writer.members k m j x here);
    watchers_home = r.watchers_home;
    looks = looks_stay s.words s.words r.writer (taken k) stay r.looks;
    marks = marks_stay s.words s.words r.writer (taken k) r.seats (set r.seats k Spent) stay long (views_taken r.writer.members r.seats k m knows.made at) r.marks;
    come = have_come;
  }

  pub takes_in : RunningRule Served about record { words = s.words; homes = s.homes; views = set (set s.views 0 (Writer (with_member m r.writer))) (suc k) Spent }
  takes_in = subst (λ (i : ℕ). RunningRule Served about record { words = s.words; homes = s.homes; views = set (set s.views 0 (Writer (taken i))) (suc k) Spent }) (sym knows.numbered) takes

joins : (Served : Published → Type 0) (about : Opening) (id other : ℕ) (w : WriterView) (m : MemberView) → Joins (RunningRule Served about) id (Writer w) other (Member m) (Writer (with_member m w)) Spent
joins Served about id other w m s r at apart there =
    let seat = writer_at s r id w at in
    let here : get_elem? s.views other ≡ some (Member m) = sym (set_else s.views id other (Writer (with_member m w)) apart) ∙ there in
    let place = seat_of s r other m here in
    subst (λ (z : ℕ × (ℕ × WriterView)). RunningRule Served about record { words = s.words; homes = s.homes; views = set (set s.views z.0 (Writer (with_member m z.1.1))) z.1.0 Spent }) (λ i. (sym seat.0 i, (sym place.1 i, seat.1 i))) (takes_in s r place.0 m place.2)

-- a member's seat may be joined to the writer's
pub take_in_is_allowed : (Served : Published → Type 0) (about : Opening) (id other : ℕ) (v u : View) → v ≡ Writer (writer_of v) → u ≡ Member (member_of u) → Joins (RunningRule Served about) id v other u (member_taken v u) Spent
take_in_is_allowed Served about id other v u is member =
    subst (λ (z : View × View). Joins (RunningRule Served about) id z.0 other z.1 (member_taken z.0 z.1) Spent) (λ i. (sym is i, sym member i)) (joins Served about id other (writer_of v) (member_of u))

-- what is known of a process whose member came in
pub slot_brought : {Served : Published → Type 0} {about : Opening} (s : State (Unit {0}) View) (r : RunningRule Served about s) (process : ℕ) (m : MemberView) → HasBrought r.writer process m → SlotKnown s.words r.writer m process
slot_brought s r process m brought =
    r.marks process (process % length r.writer.members) m brought.below refl (views_come r.writer.members r.seats (process % length r.writer.members) m brought.knew (r.come (process % length r.writer.members) brought.come).spent)

-- the last load tells what the writer knows of the members that came in
pub see_members_is_allowed : (Served : Published → Type 0) (about : Opening) (slots id : ℕ) (me : Sat) → me.0 ≡ Writer (writer_of me.0) → Allows (RunningRule Served about) slots id me ROOT (λ n. n) (members_seen (step slots ROOT 0 0 none) me)
see_members_is_allowed Served about slots id me is s r wide at fits = (
  me.0,
  keeps,
  tt,
  subst (λ (ws : List ℕ). RunningRule Served about (after_step s ws id me.0)) (sym (set-get_or s.words ROOT 0)) (same_step s r id me.0 at),
  record {
    same = refl;
    known = λ w view. (let seat = writer_at s r id w (at ∙ ap some view) in subst AreKnown seat.1 r.at_home);
    marked = λ w view. (let seat = writer_at s r id w (at ∙ ap some view) in subst AreMarked seat.1 (λ process m brought. (slot_brought s r process m brought).known));
  },
)
