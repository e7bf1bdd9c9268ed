-- The rule holds of a table as it begins, and when a member's seat is handed out.
use Rattle.std.proofs.Common.{◌≡◌, ℕ, zero, suc, ◌+◌, ◌<◌, ◌≤◌, ◌⊎◌, inl, inr, ⊎_elim, true, false, List, [], ◌∷◌, ◌++◌, length, length-append, replicate, drop, set, refl, sym, ap, subst, ◌∙◌, arith}
use mathlib.Core.Option.{some, some-injective, some-ne-none}
use mathlib.Core.Logic.{dite}
use native.Mathlib.Decide.{ℕ_discrete}
use lib.ListN.{get_elem?}
use Rattle.std.specs.Prelude.{Some, Option, slice_get, slice_index, unwrap_or}
use Rattle.atomic_table.specs.Table.{State, opening, Splits}
use Rattle.atomic_table.proofs.Lists.{at_longer}
use Rattle.std.proofs.lemmas.List.{length-replicate}
use Rattle.prgr_core.specs.declared.member.TheConstants.{MOST_MEMBERS}
use Rattle.prgr_core.specs.declared.member.Member as machines
use Rattle.prgr_core.specs.declared.watcher.TheConstants.{MOST_WATCHERS}
use Rattle.prgr_core.specs.Step as starting
use Rattle.prgr_core.proofs.Parts.{slice_get-push_at}
use Rattle.prgr_core.proofs.Opening.{opening_sound}
use Rattle.area_core.specs.declared.map.TheConstants.{TABLE_WORDS, SLOTS_START, ANCHORS}
use Rattle.area_core.specs.declared.table.Published.{Published}
use Rattle.area_core.specs.Generations.{has_serial}
use Rattle.area_core.specs.Map.{word_at, opening_words, slot_place}
use Rattle.area_core.specs.Step.{opening_published}
use Rattle.area_core.proofs.Counted.{opened}
use Rattle.area_core.proofs.Opened.{blocks_opened}
use Rattle.marks.specs.Kept.{IsBacked}
use Rattle.marks.specs.Steps.{nothing_kept}
use Rattle.marks.proofs.Opening.{opens}
use Rattle.shared_words.specs.declared.opening.Opening.{Opening}
use Rattle.shared_words.specs.declared.view.MemberView.{MemberView}
use Rattle.shared_words.specs.declared.view.WriterView.{WriterView}
use Rattle.shared_words.specs.declared.view.View.{View}
use Rattle.shared_words.specs.declared.view.View.TheVariants.{Writer, Member, Watcher, Note, Spent}
use Rattle.shared_words.specs.Shown.{member_shown, members_shown, watchers_shown, leader_in, progress_of, block_words}
use Rattle.shared_words.specs.Opening.{member_begun, members_begun, watchers_begun, writer_begun, opening_view}
use Rattle.shared_words.specs.Making.{AreBegun, HasSeatsAtHome, handed_on, handed_out}
use Rattle.shared_words.specs.Processes.{under_of}
use Rattle.shared_words.specs.Rule.{AreasStay, Knows, MemberKnows, MayBeRead, SlotKnown, RunningRule}
use Rattle.shared_words.proofs.KeptWords.{kept_as}
use Rattle.shared_words.proofs.ShownMembers.{there_is, still_at, drop_none}
use Rattle.shared_words.proofs.ShownViews.{views_none, views_push}
use Rattle.shared_words.proofs.SlotFrames.{LooksStay, looks_same, looks_stay, marks_stay, ended_as}
use Rattle.shared_words.proofs.WatchersBegun.{watchers_opened, watched_length, watchers_begin}

-- ---- lists

-- words that are all 0
abbrev pub AreEmpty : List ℕ → Type 0
AreEmpty words = (place : ℕ) → word_at words place ≡ 0

pub empty_replicate : (n : ℕ) → AreEmpty (replicate n 0)
empty_replicate zero place = refl
empty_replicate (suc n) zero = refl
empty_replicate (suc n) (suc place) = empty_replicate n place

empty_both : (xs ys : List ℕ) → AreEmpty xs → AreEmpty ys → AreEmpty (xs ++ ys)
empty_both [] ys first second place = second place
empty_both (x ∷ xs) ys first second zero = first 0
empty_both (x ∷ xs) ys first second (suc place) = empty_both xs ys (λ k. first (suc k)) second place

empty_behind : (n : ℕ) (words : List ℕ) → ((place : ℕ) → n ≤ place → slice_index words place ≡ 0) → AreEmpty (drop n words)
empty_behind zero [] behind place = refl
empty_behind zero (x ∷ xs) behind zero = behind 0 (omega arith)
empty_behind zero (x ∷ xs) behind (suc place) = empty_behind zero xs (λ k late. behind (suc k) (omega arith)) place
empty_behind (suc n) [] behind place = refl
empty_behind (suc n) (x ∷ xs) behind place = empty_behind n xs (λ k late. behind (suc k) (omega arith)) place

-- slots and blocks are empty at first
blocks_empty : (members : ℕ) (words : List ℕ) → AreBegun members words → AreEmpty (block_words words)
blocks_empty members words begun = empty_both (opening_words SLOTS_START) (drop SLOTS_START words) (subst AreEmpty (opened SLOTS_START) (empty_replicate SLOTS_START)) (empty_behind SLOTS_START words begun.behind)

-- ---- the members and watchers

shown_snoc : (members : List MemberView) (m : MemberView) → members_shown (members ++ m ∷ []) [] ≡ members_shown members [] ++ m.member ∷ []
shown_snoc [] m = refl
shown_snoc (kept ∷ members) m = ap (λ (xs : List machines.Member). kept.member ∷ xs) (shown_snoc members m)

members_opened : (n : ℕ) → members_shown (members_begun n) [] ≡ starting.opening_members n
unfolding members_begun
members_opened zero = refl
members_opened (suc n) = shown_snoc (members_begun n) (member_begun n) ∙ ap (λ (xs : List machines.Member). xs ++ starting.opening_member n ∷ []) (members_opened n)

pub begun_length : (n : ℕ) → length (members_begun n) ≡ n
unfolding members_begun
begun_length zero = refl
begun_length (suc n) = let before = begun_length n in omega (arith, length-append (members_begun n) (member_begun n ∷ []))

pub last_get : {A : Type 0} (xs : List A) (x : A) → slice_get (xs ++ x ∷ []) (length xs) ≡ Some x
last_get [] x = refl
last_get (y ∷ ys) x = last_get ys x

begun_at : (n k : ℕ) (m : MemberView) → slice_get (members_begun n) k ≡ Some m → (m ≡ member_begun k) × (k < n)
unfolding members_begun
begun_at zero k m at = absurd (cc)
begun_at (suc n) k m at =
    ⊎_elim (λ (t : slice_get (members_begun n) k ≡ Some m). let before = begun_at n k m t in let few = before.1 in (before.0, omega arith))
    (λ (t : (k ≡ length (members_begun n)) × (m ≡ member_begun n)). let here : k ≡ n = t.0 ∙ begun_length n in (t.1 ∙ ap member_begun (sym here), omega arith))
    (slice_get-push_at (members_begun n) (member_begun n) k m at)

-- the member at a place as it begins
pub begun_get : (n k : ℕ) → k < n → slice_get (members_begun n) k ≡ Some (member_begun k)
unfolding members_begun
begun_get zero k few = absurd (omega arith)
begun_get (suc n) k few =
    dite (ℕ_discrete k n)
    (λ here. ap (slice_get (members_begun n ++ member_begun n ∷ [])) (here ∙ sym (begun_length n)) ∙ last_get (members_begun n) (member_begun n) ∙ ap (λ (j : ℕ). Some (member_begun j)) (sym here))
    (λ other. still_at (members_begun n) (member_begun n ∷ []) k (member_begun k) (begun_get n k (omega arith)))

length-opening : (n : ℕ) → length (starting.opening_members n) ≡ n
length-opening zero = refl
length-opening (suc n) = let before = length-opening n in omega (arith, length-append (starting.opening_members n) (starting.opening_member n ∷ []))

opened_at : (n k : ℕ) (a : machines.Member) → slice_get (starting.opening_members n) k ≡ Some a → (a ≡ starting.opening_member k) × (k < n)
opened_at zero k a at = absurd (cc)
opened_at (suc n) k a at =
    ⊎_elim (λ (t : slice_get (starting.opening_members n) k ≡ Some a). let before = opened_at n k a t in let few = before.1 in (before.0, omega arith))
    (λ (t : (k ≡ length (starting.opening_members n)) × (a ≡ starting.opening_member n)). let here : k ≡ n = t.0 ∙ length-opening n in (t.1 ∙ ap starting.opening_member (sym here), omega arith))
    (slice_get-push_at (starting.opening_members n) (starting.opening_member n) k a at)

-- what each member knows at first
member_knows : (members watchers k : ℕ) (m : MemberView) → slice_get (members_begun members) k ≡ Some m → MemberKnows (writer_begun members watchers) k m
member_knows members watchers k m at =
    let is = begun_at members k m at in
    let n = begun_length members in
    let few = is.1 in
    subst (MemberKnows (writer_begun members watchers) k) (sym is.0) (record {
      numbered = refl;
      made = omega arith;
      seen = ([], refl);
      holds = omega arith;
      noted = λ note among. absurd (cc);
      own_slots = λ process other. refl;
      words = λ f among. absurd (cc);
    })

-- ---- the slots at first

pub opening_empty : (n : ℕ) → AreEmpty (opening_words n)
opening_empty n = subst AreEmpty (opened n) (empty_replicate n)

none_at : {X : Type 0} (i : ℕ) (x : X) → slice_get {X = X} [] i ≡ Some x → ⊥
none_at i x at = absurd (cc)

none_backed : IsBacked nothing_kept
none_backed = record {
  anchors = λ l among. absurd (none_at among.0 l among.1);
  turns = λ t among. absurd (none_at among.0 t among.1);
  dropped = λ d among. absurd (none_at among.0 d among.1);
  lingering = λ l among. absurd (none_at among.0 l among.1);
}

-- what is known of a process at first
slot_begins : (words : List ℕ) (members watchers k process : ℕ) → ((place : ℕ) → SLOTS_START ≤ place → slice_index words place ≡ 0) → SlotKnown words (writer_begun members watchers) (member_begun k) process
slot_begins words members watchers k process empty = record {
  turns = empty (slot_place process 0) (omega arith);
  anchors = λ place word at. empty (slot_place process (place + 1)) (omega arith) ∙ sym (opening_empty ANCHORS place) ∙ ap (λ (o : Option ℕ). unwrap_or o 0) at;
  narrow = omega arith;
  known = opens (under_of (member_begun k)) process;
}

never : false ≡ true → ⊥
never e = (cc)

only : (x p : Published) (g : ℕ) → slice_get (x ∷ []) g ≡ Some p → x ≡ p
only x p zero at = cc
only x p (suc g) at = absurd (cc)

-- nothing is kept, and generation 0 has no area
opening_stays : AreasStay (opening_published ∷ []) []
opening_stays = record {
  apart = λ p among a b at_a at_b serial. absurd (none_at at_a.0 a (ap (λ (x : Published). slice_get x.areas at_a.0) (only opening_published p among.0 among.1) ∙ at_a.1));
  same = λ p k a at among listed serial. absurd (none_at among.0 k among.1);
  stay = λ g later p q k le at_p at_q among has. absurd (none_at among.0 k among.1);
}

-- the rule holds of a table as it begins
pub rule_begins : (Served : Published → Type 0) (about : Opening) (words : List ℕ) → 1 ≤ about.members → about.members ≤ MOST_MEMBERS → about.watchers ≤ MOST_WATCHERS → Served opening_published → AreBegun about.members words → RunningRule Served about (opening words [] (opening_view about.members about.watchers))
rule_begins Served about words first few few_watchers served begun =
    let w : WriterView = writer_begun about.members about.watchers in
    let watched = ap (watchers_shown (watchers_begun about.watchers)) (drop_none (length (members_begun about.members))) ∙ watchers_opened about.watchers in
    record {
      writer = w;
      seats = [];
      views = refl;
      published = record {
        made = begun_length about.members;
        staffed = (let n = begun_length about.members in omega arith);
        watched = watched_length about.watchers;
        some = omega arith;
        served = λ p among. subst (λ (q : Published). Served q) (only opening_published p among.0 among.1) served;
        old_stays = λ g later p q serial le at_p at_q old. absurd (never (subst (λ (x : Published). has_serial x.state.old serial ≡ true) (sym (only opening_published p g at_p)) old));
        retired_stays = λ g later p q serial le at_p at_q old. absurd (never (subst (λ (x : Published). has_serial x.state.retired serial ≡ true) (sym (only opening_published p g at_p)) old));
        areas_stay = opening_stays;
        notes_fit = λ note among. absurd (let at = among.1 in cc);
      };
      words = record { all = begun.all; root = begun.root; mirror = ap (λ (ws : List ℕ). length ws) (sym (opened TABLE_WORDS)) ∙ length-replicate {A = ℕ} TABLE_WORDS 0; mirrored = λ place late. begun.behind place (omega arith) ∙ sym (opening_empty TABLE_WORDS place); reached = omega arith; blocks = blocks_opened (word_at (block_words words)) (blocks_empty about.members words begun) (MayBeRead w) };
      each_seat = λ place v at. absurd (some-ne-none v (sym at));
      machine = record {
        progress = subst starting.IsSound
            (λ i. record { counter = sym begun.counter i; generation = 0; leader = leader_in (sym begun.lead i); members = sym (members_opened about.members) i; delay_even = sym begun.even i; delay_odd = sym begun.odd i; watchers = sym watched i; needs = []; retired = [] })
            (opening_sound about.members about.watchers few few_watchers);
        own_words = λ k a at.
            let is = opened_at about.members k a (ap (λ (xs : List machines.Member). slice_get xs k) (sym (members_opened about.members)) ∙ at) in
            begun.awake k is.1 ∙ ap (λ (x : machines.Member). x.word) (sym is.0);
        others_wait = λ k late below. begun.waiting k (let n = begun_length about.members in omega arith) below;
        leader_made = (let nobody = begun.lead in omega arith);
      };
      handed = λ more. refl;
      out = omega arith;
      at_home = member_knows about.members about.watchers;
      watchers_home = watchers_begin about.watchers;
      looks = record { backed = none_backed; over = λ wait among. absurd (none_at among.0 wait among.1) };
      marks = λ process k m below own at.
          let here = ap (λ (xs : List MemberView). slice_get xs k) (sym (views_none (members_begun about.members))) ∙ at in
          subst (λ (x : MemberView). SlotKnown words w x process) (sym (begun_at about.members k m here).0) (slot_begins words about.members about.watchers k process begun.behind);
      come = λ number among. absurd (none_at among.0 number among.1);
    }

-- ---- a seat is handed out

shown_push : (members : List MemberView) (seats : List View) (m : MemberView) → slice_get members (length seats) ≡ Some m → members_shown members (seats ++ Member m ∷ []) ≡ members_shown members seats
shown_push [] seats m at = absurd (cc)
shown_push (kept ∷ members) [] m at = (let is : kept ≡ m = cc in ap (λ (x : MemberView). x.member ∷ members_shown members []) (sym is))
shown_push (kept ∷ members) (seat ∷ seats) m at = ap (λ (xs : List machines.Member). member_shown kept seat ∷ xs) (shown_push members seats m at)

drop_short : {A : Type 0} (n : ℕ) (xs : List A) → length xs ≤ n → drop n xs ≡ []
drop_short zero [] few = refl
drop_short zero (x ∷ xs) few = absurd (omega arith)
drop_short (suc n) [] few = refl
drop_short (suc n) (x ∷ xs) few = drop_short n xs (omega arith)

pub at_push : {A : Type 0} (xs : List A) (y : A) (k : ℕ) (x : A) → get_elem? (xs ++ y ∷ []) k ≡ some x → (get_elem? xs k ≡ some x) ⊎ ((k ≡ length xs) × (y ≡ x))
at_push [] y zero x at = inr (refl, some-injective y x at)
at_push [] y (suc k) x at = absurd (some-ne-none x (sym at))
at_push (z ∷ zs) y zero x at = inl at
at_push (z ∷ zs) y (suc k) x at = ⊎_elim (λ t. inl t) (λ (t : (k ≡ length zs) × (y ≡ x)). inr (ap suc t.0, t.1)) (at_push zs y k x at)

-- what a seat knows says nothing of how many were handed out
pub same_handed : (w : WriterView) (n place : ℕ) (v : View) → Knows w place v → Knows (record w { handed = n }) place v
same_handed w n place (Writer other) h = h
same_handed w n place (Member m) h = record { numbered = h.numbered; made = h.made; seen = h.seen; holds = h.holds; noted = h.noted; own_slots = h.own_slots; words = λ f among. kept_as w (record w { handed = n }) refl refl refl (λ g may. may) f (h.words f among) }
same_handed w n place (Watcher v) h = record { numbered = h.numbered; made = h.made; seen = h.seen; words = λ f among. kept_as w (record w { handed = n }) refl refl refl (λ g may. may) f (h.words f among) }
same_handed w n place (Note v) h = record { behind = h.behind; seen = h.seen; noted = h.noted; learnt = h.learnt }
same_handed w n place Spent h = h

hands_out : {Served : Published → Type 0} {about : Opening} (s : State (Unit {0}) View) (r : RunningRule Served about s) → r.writer.handed < length r.writer.members
    → RunningRule Served about record { words = s.words; homes = s.homes; views = set s.views 0 (handed_on (Writer r.writer)) ++ handed_out (Writer r.writer) ∷ [] }
hands_out s r more =
    let w = r.writer in
    let m = unwrap_or (slice_get w.members w.handed) (member_begun 0) in
    let w' : WriterView = record w { handed = w.handed + 1 } in
    let there : slice_get w.members w.handed ≡ Some m = there_is w.members w.handed (member_begun 0) more in
    let long = r.handed (omega (arith, more)) in
    let same = shown_push w.members r.seats m (ap (slice_get w.members) long ∙ there) in
    let behind = drop_short (length w.members) r.seats (omega arith) in
    let behind' = drop_short (length w.members) (r.seats ++ Member m ∷ []) (omega (arith, length-append r.seats (Member m ∷ []))) in
    let stay : LooksStay s.words s.words w w' = looks_same s.words w w' refl (ended_as w w' refl refl (omega arith)) in
    record {
      writer = w';
      seats = r.seats ++ Member m ∷ [];
      views = ap (λ (vs : List View). set vs 0 (Writer w') ++ Member m ∷ []) r.views;
      published = record { made = r.published.made; staffed = r.published.staffed; watched = r.published.watched; some = r.published.some; served = r.published.served; old_stays = r.published.old_stays; retired_stays = r.published.retired_stays; areas_stay = r.published.areas_stay; notes_fit = r.published.notes_fit };
      words = record { all = r.words.all; root = r.words.root; mirror = r.words.mirror; mirrored = r.words.mirrored; reached = r.words.reached; blocks = r.words.blocks };
      each_seat = λ place v at. ⊎_elim (λ (t : get_elem? r.seats place ≡ some v). same_handed w (w.handed + 1) place v (r.each_seat place v t))
          (λ (t : (place ≡ length r.seats) × (Member m ≡ v)). subst (λ (z : ℕ × View). Knows w' z.0 z.1) (λ i. (sym (t.0 ∙ long) i, t.1 i)) (same_handed w (w.handed + 1) w.handed (Member m) (r.at_home w.handed m there)))
          (at_push r.seats (Member m) place v at);
      machine = record {
        progress = subst starting.IsSound (λ i. record (progress_of s.words w r.seats) { members = sym same i; watchers = watchers_shown w.watchers ((behind ∙ sym behind') i) }) r.machine.progress;
        own_words = λ k a at. r.machine.own_words k a (ap (λ (xs : List machines.Member). slice_get xs k) (sym same) ∙ at);
        others_wait = r.machine.others_wait;
        leader_made = r.machine.leader_made;
      };
      handed = λ still. length-append r.seats (Member m ∷ []) ∙ ap (λ (n : ℕ). n + 1) long;
      out = omega (arith, r.out, length-append r.seats (Member m ∷ []));
      at_home = λ k x at. same_handed w (w.handed + 1) k (Member x) (r.at_home k x at);
      watchers_home = r.watchers_home;
      looks = looks_stay s.words s.words w w' stay r.looks;
      marks = marks_stay s.words s.words w w' r.seats (r.seats ++ Member m ∷ []) stay refl (views_push w.members r.seats m (ap (slice_get w.members) long ∙ there)) r.marks;
      come = λ number among. record { made = (r.come number among).made; spent = at_longer r.seats (Member m ∷ []) number Spent (r.come number among).spent };
    }

-- the writer may hand out a member's seat while one is at home
pub hand_out_is_allowed : (Served : Published → Type 0) (about : Opening) (id : ℕ) (v : View) → HasSeatsAtHome about v → Splits (RunningRule Served about) id v (handed_on v) (handed_out v)
hand_out_is_allowed Served about zero v home s r at =
    let is : Writer r.writer ≡ v = some-injective (Writer r.writer) v (ap (λ (vs : List View). get_elem? vs 0) (sym r.views) ∙ at) in
    subst (λ (x : View). HasSeatsAtHome about x → RunningRule Served about record { words = s.words; homes = s.homes; views = set s.views 0 (handed_on x) ++ handed_out x ∷ [] }) is
    (λ more. hands_out s r (let made = r.published.made in omega arith)) home
hand_out_is_allowed Served about (suc k) (Writer w) home s r at = absurd (r.each_seat k (Writer w) (ap (λ (vs : List View). get_elem? vs (suc k)) (sym r.views) ∙ at))
hand_out_is_allowed Served about (suc k) v home s r at = absurd home
