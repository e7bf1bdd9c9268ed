-- What it means for a slot that one kind of an area is named in it no more.
use Rattle.std.proofs.Common.{◌≡◌, ℕ, ◌+◌, ◌-◌, ◌<◌, ◌≤◌, ◌↔◌, inl, inr, true, false, List, length, length-set, Option, Some, refl, sym, ap, subst, ◌∙◌, arith}
use mathlib.Core.Logic.{dite}
use native.Mathlib.Decide.{ℕ_discrete}
use Rattle.std.specs.Prelude.{slice_get, slice_set, unwrap_or}
use Rattle.std.proofs.lemmas.Bool.{cases_Bool}
use Rattle.std.proofs.lemmas.Bool.Decides.{nat_tests}
use Rattle.atomic_table.specs.Seated.{TableId}
use Rattle.term_core.specs.declared.hold.Kind.{Kind}
use Rattle.term_core.specs.declared.hold.Kind.TheVariants.{Frame, Literal}
use Rattle.area_core.specs.Map.{word_at}
use Rattle.area_core.specs.declared.table.Published.{Published}
use Rattle.marks.specs.Names.{HasAnchor, tells_kill}
use Rattle.marks.proofs.Anchors.{has_element, stays_elsewhere}
use Rattle.shared_words.specs.declared.opening.Opening.{Opening}
use Rattle.shared_words.specs.declared.seats.Member as tokens
use Rattle.shared_words.specs.declared.view.MemberView.{MemberView}
use Rattle.shared_words.specs.declared.view.View.{View}
use Rattle.shared_words.specs.declared.view.View.TheVariants.{Member}
use Rattle.shared_words.specs.Views.{published_at}
use Rattle.shared_words.specs.Seats.{IsMemberSeat, IsSameSeat, member_of}
use Rattle.shared_words.specs.Processes.{AreCopied}
use Rattle.shared_words.specs.Slots.{FitsAnchor, MayStoreSlot, with_slot}
use Rattle.shared_words.proofs.ShownMembers.{there_is, within_get}
use Rattle.anchors.specs.Holds.{view_of, anchors_of, names_for, HoldsAnchors, MayRun, AnchorsApart}
use Rattle.anchors.specs.Drops.{AnchorsStored, IsWordWithout, HasDroppedAt, HasDropped}
use Rattle.anchors.proofs.Holding.{may_store, anchors_stored}
use Rattle.anchors.proofs.Stored.{set_again, set_here, none_stored, one_stored, more_stored, run_still}
use Rattle.anchors.proofs.SlotWalks.{same_again}

-- ---- one anchor

-- what names an area tells of no kill
names_unkilled : (k : Kind) (word serial : ℕ) → names_for k word serial ≡ true → (s : ℕ) → tells_kill word s ≡ false
names_unkilled Frame word serial names s = grind (arith, nat_tests)
names_unkilled Literal word serial names s = grind (arith, nat_tests)

-- the word may be stored where it is another one
module _ (p : Published) (anchors : List ℕ) (place serial rest : ℕ) (kind : Kind) (within : place < length anchors) (h : IsWordWithout (word_at anchors place) serial kind rest) where
  here : slice_get anchors place ≡ Some (word_at anchors place)
  here = there_is anchors place 0 within

  before : (k : Kind) (s : ℕ) → names_for k rest s ≡ true → HoldsAnchors k anchors s
  before k s named = record { place = place; word = word_at anchors place; at = here; passes = ((h.names k s).0 named).0 }

  pub drop_fits : ((s : ℕ) → tells_kill (word_at anchors place) s ≡ false) → FitsAnchor p anchors place rest
  drop_fits unkilled = record {
    frame = λ s named. inl (before Frame s named);
    literal = λ s named. inl (before Literal s named);
    apart = λ other word at differ some_rest some_word same. record { some = (h.of some_rest).0; of = sym (h.of some_rest).1 };
    stays = unkilled;
    kills = λ s told. absurd (no_kill s (sym (h.kills s ∙ unkilled s) ∙ told));
  }
    where
      no_kill : (s : ℕ) → false ≡ true → ⊥
      no_kill s e = absurd (cc)

-- the word changes only where it names the area for this
renamed : (word serial : ℕ) (kind : Kind) (rest : ℕ) → IsWordWithout word serial kind rest → (rest ≡ word → ⊥) → (s : ℕ) → tells_kill word s ≡ false
renamed word serial kind rest h differs s =
    elim (cases_Bool (names_for kind word serial)) as (λ _. tells_kill word s ≡ false) [
      | inl names ↦ names_unkilled kind word serial names s
      | inr not_so ↦ absurd (differs (h.same not_so))
    ]

module _ (old : MemberView) (process serial place word rest : ℕ) (kind : Kind) (first : 1 ≤ place) (last : place ≤ 16) (is : word ≡ word_at (anchors_of old process) (place - 1)) (h : IsWordWithout word serial kind rest) where
  this : IsWordWithout (word_at (anchors_of old process) (place - 1)) serial kind rest
  this = subst (λ (w : ℕ). IsWordWithout w serial kind rest) is h

  pub drop_may : (opening : Opening) → MayRun opening process old → length (anchors_of old process) ≡ 16 → (rest ≡ word → ⊥) → MayStoreSlot opening process place rest old
  drop_may opening run wide differs =
      may_store opening old process place rest run first last
      (drop_fits (published_at old.seen old.member.generation) (anchors_of old process) (place - 1) serial rest kind (omega (arith, first, last, wide)) this
      (λ s. ap (λ (w : ℕ). tells_kill w s) (sym is) ∙ renamed word serial kind rest h differs s))

  -- where it is stored
  pub dropped_now : (v : View) → v ≡ Member (with_slot process place rest old) → HasDroppedAt process kind serial place old (member_of v)
  dropped_now v view = subst (λ (x : View). HasDroppedAt process kind serial place old (member_of x)) (sym view) (record {
    stored = one_stored process place rest old first;
    rest = rest;
    without = this;
    anchors = anchors_stored old process place rest first;
  })

  -- where it is not named
  pub dropped_none : rest ≡ word → HasDroppedAt process kind serial place old old
  dropped_none same = record {
    stored = none_stored process old;
    rest = rest;
    without = this;
    anchors = sym (ap (λ (x : ℕ). slice_set (anchors_of old process) (place - 1) x) (same ∙ is) ∙ set_again (anchors_of old process) (place - 1));
  }

-- ---- the anchors so far

-- the anchors before this place, counted from 1, name the area for this no more; the others stand as before
pub record DroppedBefore (kind : Kind) (serial n : ℕ) (old new : List ℕ) : Type 0 where
  pub wide : length new ≡ length old
  pub before : (place word : ℕ) → slice_get old place ≡ Some word → place + 1 < n → (rest : ℕ) × (slice_get new place ≡ Some rest) × IsWordWithout word serial kind rest
  pub after : (place word : ℕ) → slice_get old place ≡ Some word → n ≤ place + 1 → slice_get new place ≡ Some word

-- none at first
pub dropped_first : (kind : Kind) (serial : ℕ) (anchors : List ℕ) → DroppedBefore kind serial 1 anchors anchors
dropped_first kind serial anchors = record { wide = refl; before = λ place word at few. absurd (omega arith); after = λ place word at late. at }

-- one more
pub dropped_next : (kind : Kind) (serial n rest : ℕ) (old mid : List ℕ) → 1 ≤ n → DroppedBefore kind serial n old mid → IsWordWithout (word_at mid (n - 1)) serial kind rest → DroppedBefore kind serial (n + 1) old (slice_set mid (n - 1) rest)
dropped_next kind serial n rest old mid first h without = record {
  wide = length-set mid (n - 1) rest ∙ h.wide;
  before = λ place word at few. dite (ℕ_discrete place (n - 1))
      (λ (this : place ≡ n - 1).
      let stood = h.after place word at (omega (arith, this, first)) in
      let here : slice_get mid (n - 1) ≡ Some word = ap (λ (i : ℕ). slice_get mid i) (sym this) ∙ stood in (
        rest,
        ap (λ (i : ℕ). slice_get (slice_set mid (n - 1) rest) i) this ∙ set_here mid (n - 1) rest word here,
        subst (λ (w : ℕ). IsWordWithout w serial kind rest) (ap (λ (o : Option ℕ). unwrap_or o 0) here) without,
      ))
      (λ (apart : place ≡ n - 1 → ⊥).
      let was = h.before place word at (omega (arith, few, apart, first)) in
      (was.0, stays_elsewhere mid (n - 1) rest place was.0 apart was.1, was.2));
  after = λ place word at late. stays_elsewhere mid (n - 1) rest place word (λ same. absurd (omega (arith, late, same, first))) (h.after place word at (omega (arith, late)));
}

-- what the words passed before and after
module _ (kind : Kind) (serial n : ℕ) (old new : List ℕ) (h : DroppedBefore kind serial n old new) (late : length old + 1 ≤ n) where
  -- each word after comes of one before
  came_of : (place rest : ℕ) → slice_get new place ≡ Some rest → (word : ℕ) × (slice_get old place ≡ Some word) × IsWordWithout word serial kind rest
  came_of place rest at =
      let wide = h.wide in
      let within = within_get new place rest at in
      let found = has_element old place (omega (arith, within, wide)) in
      let now = h.before place found.0 found.1 (omega (arith, within, wide, late)) in
      (found.0, found.1, subst (λ (w : ℕ). IsWordWithout found.0 serial kind w) (ap (λ (o : Option ℕ). unwrap_or o 0) (sym now.1 ∙ at)) now.2)

  became : (place word : ℕ) → slice_get old place ≡ Some word → (rest : ℕ) × (slice_get new place ≡ Some rest) × IsWordWithout word serial kind rest
  became place word at = h.before place word at (let within = within_get old place word at in omega (arith, within, late))

  pub dropped_names : (k : Kind) (s : ℕ) → HoldsAnchors k new s ↔ (HoldsAnchors k old s × ((k ≡ kind) × (s ≡ serial) → ⊥))
  dropped_names k s = (
    λ held.
        let was = came_of held.place held.word held.at in
        let named = (was.2.names k s).0 held.passes in
        (record { place = held.place; word = was.0; at = was.1; passes = named.0 }, named.1),
    λ both.
        let now = became both.0.place both.0.word both.0.at in
        record { place = both.0.place; word = now.0; at = now.1; passes = (now.2.names k s).1 (both.0.passes, both.1) },
  )

  pub dropped_kills : (s : ℕ) → HasAnchor tells_kill new s ↔ HasAnchor tells_kill old s
  dropped_kills s = (
    λ told. let was = came_of told.place told.word told.at in record { place = told.place; word = was.0; at = was.1; passes = sym (was.2.kills s) ∙ told.passes },
    λ told. let now = became told.place told.word told.at in record { place = told.place; word = now.0; at = now.1; passes = now.2.kills s ∙ told.passes },
  )

  pub dropped_apart : AnchorsApart old → AnchorsApart new
  dropped_apart apart a b v w at there some_v some_w same =
      let first = came_of a v at in
      let second = came_of b w there in
      let of_first = first.2.of some_v in
      let of_second = second.2.of some_w in
      apart a b first.0 second.0 first.1 second.1 of_first.0 of_second.0 (sym of_first.1 ∙ same ∙ of_second.1)

-- ---- the call

-- what the member's token has gone through
pub record DropSteps (table : TableId) (opening : Opening) (process : ℕ) (kind : Kind) (serial : ℕ) (old : tokens.Member) (n : ℕ) (new : tokens.Member) : Type 0 where
  pub token : IsMemberSeat table new.number new.seat
  pub same : IsSameSeat old.seat new.seat
  pub number : new.number ≡ old.number
  pub root : new.root ≡ old.root
  pub copied : AreCopied new.anchors.items (view_of new)
  pub run : MayRun opening process (view_of new)
  pub stored : AnchorsStored process (view_of old) (view_of new)
  pub dropped : DroppedBefore kind serial n (anchors_of (view_of old) process) (anchors_of (view_of new) process)

pub drop_begins : (table : TableId) (opening : Opening) (process : ℕ) (kind : Kind) (serial : ℕ) (old : tokens.Member) → IsMemberSeat table old.number old.seat → AreCopied old.anchors.items (view_of old) → MayRun opening process (view_of old) → DropSteps table opening process kind serial old 1 old
drop_begins table opening process kind serial old token copied run = record {
  token = token;
  same = record { same_table = refl; same_number = refl; same_slots = refl };
  number = refl;
  root = refl;
  copied = copied;
  run = run;
  stored = none_stored process (view_of old);
  dropped = dropped_first kind serial (anchors_of (view_of old) process);
}

pub drop_goes_on : (table : TableId) (opening : Opening) (process : ℕ) (kind : Kind) (serial : ℕ) (old : tokens.Member) (n : ℕ) (mid new : tokens.Member) → 1 ≤ n → DropSteps table opening process kind serial old n mid → IsMemberSeat table new.number new.seat → IsSameSeat mid.seat new.seat → new.number ≡ mid.number → new.root ≡ mid.root
    → AreCopied new.anchors.items (view_of new) → HasDroppedAt process kind serial n (view_of mid) (view_of new) → DropSteps table opening process kind serial old (n + 1) new
drop_goes_on table opening process kind serial old n mid new first h token same number root copied at = record {
  token = token;
  same = same_again old.seat mid.seat new.seat h.same same;
  number = number ∙ h.number;
  root = root ∙ h.root;
  copied = copied;
  run = run_still opening process process (view_of mid) (view_of new) at.stored h.run;
  stored = more_stored process (view_of old) (view_of mid) (view_of new) h.stored at.stored;
  dropped = subst (DroppedBefore kind serial (n + 1) (anchors_of (view_of old) process)) (sym at.anchors)
      (dropped_next kind serial n at.rest (anchors_of (view_of old) process) (anchors_of (view_of mid) process) first h.dropped at.without);
}

pub drop_ends : (table : TableId) (opening : Opening) (process : ℕ) (kind : Kind) (serial : ℕ) (old new : tokens.Member) (n : ℕ) → DropSteps table opening process kind serial old n new → length (anchors_of (view_of old) process) ≡ 16 → 17 ≤ n → HasDropped process kind serial (view_of old) (view_of new)
drop_ends table opening process kind serial old new n h wide late = record {
  stored = h.stored;
  names = dropped_names kind serial n (anchors_of (view_of old) process) (anchors_of (view_of new) process) h.dropped (omega (arith, wide, late));
  kills = dropped_kills kind serial n (anchors_of (view_of old) process) (anchors_of (view_of new) process) h.dropped (omega (arith, wide, late));
  apart = dropped_apart kind serial n (anchors_of (view_of old) process) (anchors_of (view_of new) process) h.dropped (omega (arith, wide, late));
}
