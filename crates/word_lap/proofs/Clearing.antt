-- What it means for a slot that its anchors name nothing any more.
use Rattle.std.proofs.Common.{◌≡◌, ℕ, ◌+◌, ◌-◌, ◌*◌, ◌%◌, ◌<◌, ◌≤◌, ◌↔◌, inl, inr, Bool, true, not, List, length, length-set, Option, Some, refl, sym, ap, subst, ◌∙◌, arith}
use mathlib.Core.Logic.{dite}
use native.Mathlib.Decide.{ℕ_discrete}
use Rattle.std.specs.Prelude.{◌==◌, nat_le, slice_get, slice_set, unwrap_or, if◌then◌else◌}
use Rattle.std.proofs.lemmas.Bool.{and_parts, cases_eq, eq-eqb, eqb-true, false_from_ne_true, leb-true, ne_eqb}
use Rattle.atomic_table.specs.Seated.{TableId}
use Rattle.term_core.specs.declared.hold.Kind.{Kind}
use Rattle.term_core.specs.declared.hold.Kind.TheVariants.{Frame, Literal}
use Rattle.area_core.specs.Generations.{serial_in}
use Rattle.area_core.specs.Map.{word_at}
use Rattle.marks.specs.Names.{HasAnchor, tells_kill}
use Rattle.marks.proofs.Anchors.{has_element, stays_elsewhere}
use Rattle.shared_words.specs.declared.opening.Opening.{Opening}
use Rattle.shared_words.specs.declared.seats.Member as tokens
use Rattle.shared_words.specs.declared.view.MemberView.{MemberView}
use Rattle.shared_words.specs.declared.view.View.{View}
use Rattle.shared_words.specs.declared.view.View.TheVariants.{Member}
use Rattle.shared_words.specs.Seats.{member_of}
use Rattle.shared_words.specs.Slots.{FitsAnchor, MayStoreSlot, with_slot}
use Rattle.shared_words.specs.Views.{published_at}
use Rattle.shared_words.proofs.ShownMembers.{within_get}
use Rattle.anchors.specs.Drops.{AnchorsStored}
use Rattle.anchors.specs.Holds.{HoldsAnchors, MayRun, anchors_of, names_for, view_of}
use Rattle.anchors.proofs.Holding.{anchors_stored, may_store}
use Rattle.anchors.proofs.Stored.{more_stored, none_stored, one_stored, run_still, set_again, set_here}
use Rattle.word_lap.specs.Laps.{HasClearedAt, HasDroppedAll, cleared}
use Rattle.word_lap.specs.Schedulers.{IsToken}

-- ---- one word

-- a word that names an area has a remainder
no_names : (kind : Kind) (word serial : ℕ) → word % 4 ≡ 0 → names_for kind word serial ≡ true → ⊥
no_names Frame word serial none named = let odd = eqb-true (word % 2) 1 (and_parts (word % 2 == 1) (serial_in word == serial) named).0 in absurd (omega (arith, odd, none))
no_names Literal word serial none named = let high = leb-true 2 (word % 4) (and_parts (nat_le 2 (word % 4)) (serial_in word == serial) named).0 in absurd (omega (arith, high, none))

-- one that tells of a kill has none, and is not 0
kill_is : (word serial : ℕ) → tells_kill word serial ≡ true → word ≡ serial * 4
kill_is word serial told = eqb-true word (serial * 4) (and_parts (word == serial * 4) (not (serial == 0)) told).0

pub zero_tells : (serial : ℕ) → tells_kill 0 serial ≡ true → ⊥
zero_tells serial told =
    let is = kill_is 0 serial told in
    let none : serial ≡ 0 = omega (arith, is) in
    no_truth (ap not (sym (eq-eqb serial 0 none)) ∙ (and_parts (0 == serial * 4) (not (serial == 0)) told).1)
  where
    no_truth : not true ≡ true → ⊥
    no_truth e = absurd (cc)

word_tells : (word serial : ℕ) → (word % 4 ≡ 0 → ⊥) → tells_kill word serial ≡ true → ⊥
word_tells word serial some told = let is = kill_is word serial told in some (omega (arith, is))

cleared_some : (word : ℕ) → (word % 4 ≡ 0 → ⊥) → cleared word ≡ 0
cleared_some word some = ap (λ (b : Bool). if b then word else 0) (ne_eqb (word % 4) 0 some)

cleared_same : (word : ℕ) → word % 4 ≡ 0 → cleared word ≡ word
cleared_same word none = ap (λ (b : Bool). if b then word else 0) (eq-eqb (word % 4) 0 none)

-- what is cleared names nothing, and tells of kills as before
names_nothing : (kind : Kind) (word serial : ℕ) → names_for kind (cleared word) serial ≡ true → ⊥
names_nothing kind word serial named =
    elim (cases_eq (word % 4) 0) as (λ _. ⊥) [
      | inl none ↦ no_names kind word serial none (subst (λ (w : ℕ). names_for kind w serial ≡ true) (cleared_same word none) named)
      | inr some ↦ no_names kind 0 serial (omega arith) (subst (λ (w : ℕ). names_for kind w serial ≡ true) (cleared_some word some) named)
    ]

kills_same : (word serial : ℕ) → tells_kill (cleared word) serial ≡ tells_kill word serial
kills_same word serial =
    elim (cases_eq (word % 4) 0) as (λ _. tells_kill (cleared word) serial ≡ tells_kill word serial) [
      | inl none ↦ ap (λ (w : ℕ). tells_kill w serial) (cleared_same word none)
      | inr some ↦ ap (λ (w : ℕ). tells_kill w serial) (cleared_some word some) ∙ false_from_ne_true (tells_kill 0 serial) (zero_tells serial) ∙ sym (false_from_ne_true (tells_kill word serial) (word_tells word serial some))
    ]

-- ---- one anchor

module _ (old : MemberView) (process place word : ℕ) (first : 1 ≤ place) (last : place ≤ 16) (is : word ≡ word_at (anchors_of old process) (place - 1)) where
  some_at : (word % 4 ≡ 0 → ⊥) → word_at (anchors_of old process) (place - 1) % 4 ≡ 0 → ⊥
  some_at some none = some (ap (λ (w : ℕ). w % 4) is ∙ none)

  clear_fits : (word % 4 ≡ 0 → ⊥) → FitsAnchor (published_at old.seen old.member.generation) (anchors_of old process) (place - 1) 0
  clear_fits some = record {
    frame = λ s named. absurd (no_names Frame 0 s (omega arith) named);
    literal = λ s named. absurd (no_names Literal 0 s (omega arith) named);
    apart = λ other w at differ some_value some_word same. absurd (some_value refl);
    stays = λ s. false_from_ne_true (tells_kill (word_at (anchors_of old process) (place - 1)) s) (word_tells (word_at (anchors_of old process) (place - 1)) s (some_at some));
    kills = λ s told. absurd (zero_tells s told);
  }

  pub clear_may : (opening : Opening) → MayRun opening process old → (word % 4 ≡ 0 → ⊥) → MayStoreSlot opening process place 0 old
  clear_may opening run some = may_store opening old process place 0 run first last (clear_fits some)

  -- where it is stored
  pub cleared_now : (v : View) → v ≡ Member (with_slot process place 0 old) → (word % 4 ≡ 0 → ⊥) → HasClearedAt process place old (member_of v)
  cleared_now v view some = subst (λ (x : View). HasClearedAt process place old (member_of x)) (sym view) (record {
    stored = one_stored process place 0 old first;
    anchors = anchors_stored old process place 0 first ∙ ap (λ (x : ℕ). slice_set (anchors_of old process) (place - 1) x) (sym (cleared_some (word_at (anchors_of old process) (place - 1)) (some_at some)));
  })

  -- where it names nothing
  pub cleared_none : word % 4 ≡ 0 → HasClearedAt process place old old
  cleared_none none = record {
    stored = none_stored process old;
    anchors = sym (ap (λ (x : ℕ). slice_set (anchors_of old process) (place - 1) x) (cleared_same (word_at (anchors_of old process) (place - 1)) (ap (λ (w : ℕ). w % 4) (sym is) ∙ none)) ∙ set_again (anchors_of old process) (place - 1));
  }

-- ---- the anchors so far

-- the anchors before this place, counted from 1, are cleared; the others stand as before
pub record ClearedBefore (n : ℕ) (old new : List ℕ) : Type 0 where
  pub wide : length new ≡ length old
  pub before : (place word : ℕ) → slice_get old place ≡ Some word → place + 1 < n → slice_get new place ≡ Some (cleared word)
  pub after : (place word : ℕ) → slice_get old place ≡ Some word → n ≤ place + 1 → slice_get new place ≡ Some word

cleared_first : (anchors : List ℕ) → ClearedBefore 1 anchors anchors
cleared_first anchors = record { wide = refl; before = λ place word at few. absurd (omega (arith, few)); after = λ place word at late. at }

-- one more
cleared_next : (n : ℕ) (old mid : List ℕ) → 1 ≤ n → ClearedBefore n old mid → ClearedBefore (n + 1) old (slice_set mid (n - 1) (cleared (word_at mid (n - 1))))
cleared_next n old mid first h = record {
  wide = length-set mid (n - 1) (cleared (word_at mid (n - 1))) ∙ h.wide;
  before = λ place word at few. dite (ℕ_discrete place (n - 1))
      (λ (this : place ≡ n - 1).
      let stood = h.after place word at (omega (arith, this, first)) in
      let here : slice_get mid (n - 1) ≡ Some word = ap (λ (i : ℕ). slice_get mid i) (sym this) ∙ stood in
      ap (λ (i : ℕ). slice_get (slice_set mid (n - 1) (cleared (word_at mid (n - 1)))) i) this ∙ set_here mid (n - 1) (cleared (word_at mid (n - 1))) word here ∙ ap (λ (o : Option ℕ). Some (cleared (unwrap_or o 0))) here)
      (λ (apart : place ≡ n - 1 → ⊥). stays_elsewhere mid (n - 1) (cleared (word_at mid (n - 1))) place (cleared word) apart (h.before place word at (omega (arith, few, apart, first))));
  after = λ place word at late. stays_elsewhere mid (n - 1) (cleared (word_at mid (n - 1))) place word (λ same. absurd (omega (arith, late, same, first))) (h.after place word at (omega (arith, late)));
}

-- what the words passed before and after
module _ (n : ℕ) (old new : List ℕ) (h : ClearedBefore n old new) (late : length old + 1 ≤ n) where
  -- each word after comes of one before
  came_of : (place rest : ℕ) → slice_get new place ≡ Some rest → (word : ℕ) × (slice_get old place ≡ Some word) × (rest ≡ cleared word)
  came_of place rest at =
      let wide = h.wide in
      let within = within_get new place rest at in
      let found = has_element old place (omega (arith, within, wide)) in
      (found.0, found.1, ap (λ (o : Option ℕ). unwrap_or o 0) (sym at ∙ h.before place found.0 found.1 (omega (arith, within, wide, late))))

  none_named : (kind : Kind) (serial : ℕ) → HoldsAnchors kind new serial → ⊥
  none_named kind serial held =
      let was = came_of held.place held.word held.at in
      names_nothing kind was.0 serial (subst (λ (w : ℕ). names_for kind w serial ≡ true) was.2 held.passes)

  same_kills : (serial : ℕ) → HasAnchor tells_kill new serial ↔ HasAnchor tells_kill old serial
  same_kills serial = (
    λ told.
        let was = came_of told.place told.word told.at in
        record { place = told.place; word = was.0; at = was.1; passes = sym (kills_same was.0 serial) ∙ ap (λ (w : ℕ). tells_kill w serial) (sym was.2) ∙ told.passes },
    λ told.
        let within = within_get old told.place told.word told.at in
        record { place = told.place; word = cleared told.word; at = h.before told.place told.word told.at (omega (arith, within, late)); passes = kills_same told.word serial ∙ told.passes },
  )

-- ---- the call

pub record ClearSteps (table : TableId) (opening : Opening) (process : ℕ) (old : tokens.Member) (n : ℕ) (new : tokens.Member) : Type 0 where
  pub token : IsToken table new
  pub number : new.number ≡ old.number
  pub run : MayRun opening process (view_of new)
  pub stored : AnchorsStored process (view_of old) (view_of new)
  pub cleared : ClearedBefore n (anchors_of (view_of old) process) (anchors_of (view_of new) process)

pub clear_begins : (table : TableId) (opening : Opening) (process : ℕ) (old : tokens.Member) → IsToken table old → MayRun opening process (view_of old) → ClearSteps table opening process old 1 old
clear_begins table opening process old token run = record { token = token; number = refl; run = run; stored = none_stored process (view_of old); cleared = cleared_first (anchors_of (view_of old) process) }

pub clear_goes_on : (table : TableId) (opening : Opening) (process : ℕ) (old : tokens.Member) (n : ℕ) (mid new : tokens.Member) → 1 ≤ n → ClearSteps table opening process old n mid → IsToken table new → new.number ≡ mid.number
    → HasClearedAt process n (view_of mid) (view_of new) → ClearSteps table opening process old (n + 1) new
clear_goes_on table opening process old n mid new first h token number at = record {
  token = token;
  number = number ∙ h.number;
  run = run_still opening process process (view_of mid) (view_of new) at.stored h.run;
  stored = more_stored process (view_of old) (view_of mid) (view_of new) h.stored at.stored;
  cleared = subst (ClearedBefore (n + 1) (anchors_of (view_of old) process)) (sym at.anchors) (cleared_next n (anchors_of (view_of old) process) (anchors_of (view_of mid) process) first h.cleared);
}

pub clear_ends : (table : TableId) (opening : Opening) (process : ℕ) (old new : tokens.Member) (n : ℕ) → ClearSteps table opening process old n new → length (anchors_of (view_of old) process) ≡ 16 → 17 ≤ n → HasDroppedAll process (view_of old) (view_of new)
clear_ends table opening process old new n h wide late = record {
  stored = h.stored;
  empty = none_named n (anchors_of (view_of old) process) (anchors_of (view_of new) process) h.cleared (omega (arith, wide, late));
  kills = same_kills n (anchors_of (view_of old) process) (anchors_of (view_of new) process) h.cleared (omega (arith, wide, late));
}
