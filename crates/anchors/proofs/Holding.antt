-- What it means for a slot that one more kind of an area is named in it.
use Rattle.std.proofs.Common.{◌≡◌, ◌≢◌, ℕ, zero, suc, ◌+◌, ◌-◌, ◌*◌, ◌/◌, ◌%◌, ◌≤◌, ◌⊎◌, ◌↔◌, inl, inr, true, false, not, List, [], ◌∷◌, Option, Some, refl, sym, ap, subst, ◌∙◌, arith}
use mathlib.Core.Logic.{dite}
use native.Mathlib.Decide.{ℕ_discrete}
use Rattle.std.specs.Prelude.{◌==◌, slice_get, slice_set, unwrap_or}
use Rattle.std.proofs.lemmas.Bool.{cases_Bool, and_from, eq-eqb, ne_eqb, not_from_false}
use Rattle.prgr_core.proofs.Parts.{slice_get-slice_set}
use Rattle.term_core.specs.declared.hold.Kind.{Kind}
use Rattle.term_core.specs.declared.hold.Kind.TheVariants.{Frame, Literal}
use Rattle.area_core.specs.Map.{word_at}
use Rattle.area_core.specs.declared.table.Published.{Published}
use Rattle.area_core.specs.Generations.{is_current, is_key_area, serial_in, is_naming, names_frame, names_literal}
use Rattle.marks.specs.Names.{HasAnchor, tells_kill}
use Rattle.marks.proofs.Anchors.{stays_elsewhere}
use Rattle.shared_words.specs.declared.opening.Opening.{Opening}
use Rattle.shared_words.specs.declared.view.MemberView.{MemberView}
use Rattle.shared_words.specs.declared.view.View.{View}
use Rattle.shared_words.specs.declared.view.View.TheVariants.{Member}
use Rattle.shared_words.specs.Views.{published_at}
use Rattle.shared_words.specs.Seats.{member_of}
use Rattle.shared_words.specs.Slots.{IsOfArea, FitsAnchor, FitsSlot, MayStoreSlot, with_slot}
use Rattle.shared_words.proofs.AnchorStores.{process_here}
use Rattle.anchors.specs.Holds.{anchors_of, IsPlaceFor, HasNoPlace, names_for, HoldsAnchors, MayRun, IsUnkilled, MayReach, MayHold, AreOthers, AnchorsApart, HasHeld, IsNamedWord}
use Rattle.anchors.proofs.Apart.{stored_apart}

-- ---- the word

module _ (anchors : List ℕ) (serial place word : ℕ) (h : IsPlaceFor anchors serial place) (is : word ≡ word_at anchors (place - 1)) where
  -- the word that is read is that of the place
  pub same_word : h.word ≡ word
  same_word = ap (λ (o : Option ℕ). unwrap_or o 0) (sym h.at) ∙ sym is

  pub here : slice_get anchors (place - 1) ≡ Some word
  here = h.at ∙ ap (λ (x : ℕ). Some x) same_word

  -- it is 0, or of the area
  pub empty_or_of : (word ≡ 0) ⊎ (serial_in word ≡ serial)
  empty_or_of = elim h.fits as (λ _. (word ≡ 0) ⊎ (serial_in word ≡ serial)) [ inl free ↦ inl (sym same_word ∙ free.0) | inr of ↦ inr (ap serial_in (sym same_word) ∙ of.of) ]

-- ---- the store

module _ (p : Published) (anchors : List ℕ) (serial place word named : ℕ) (kind : Kind) (h : IsPlaceFor anchors serial place) (is : word ≡ word_at anchors (place - 1)) (unkilled : IsUnkilled anchors) (may : HoldsAnchors kind anchors serial ⊎ MayReach kind p anchors serial) (becomes : IsNamedWord word serial kind named) where
  -- what it named it names
  old_name : (k : Kind) (s : ℕ) → names_for k word s ≡ true → HoldsAnchors k anchors s
  old_name k s passes = record { place = place - 1; word = word; at = here anchors serial place word h is; passes = passes }

  frame_named : (k : Kind) (s : ℕ) → k ≡ Frame → HoldsAnchors k anchors s ⊎ MayReach k p anchors s → HasAnchor names_frame anchors s ⊎ (is_current p s ≡ true)
  frame_named Frame s same reach = reach
  frame_named Literal s same reach = absurd (cc)

  literal_named : (k : Kind) (s : ℕ) → k ≡ Literal → HoldsAnchors k anchors s ⊎ MayReach k p anchors s → HasAnchor names_literal anchors s ⊎ ((is_key_area p s ≡ true) ⊎ HasAnchor names_frame anchors s)
  literal_named Literal s same reach = reach
  literal_named Frame s same reach = absurd (cc)

  pub hold_fits : FitsAnchor p anchors (place - 1) named
  hold_fits = record {
    frame = λ s passes.
        elim ((becomes.names (empty_or_of anchors serial place word h is) Frame s).0 passes) as (λ _. HasAnchor names_frame anchors s ⊎ (is_current p s ≡ true)) [
          | inl before ↦ inl (old_name Frame s before)
          | inr new ↦ subst (λ (x : ℕ). HasAnchor names_frame anchors x ⊎ (is_current p x ≡ true)) (sym new.1) (frame_named kind serial (sym new.0) may)
        ];
    literal = λ s passes.
        elim ((becomes.names (empty_or_of anchors serial place word h is) Literal s).0 passes) as (λ _. HasAnchor names_literal anchors s ⊎ ((is_key_area p s ≡ true) ⊎ HasAnchor names_frame anchors s)) [
          | inl before ↦ inl (old_name Literal s before)
          | inr new ↦ subst (λ (x : ℕ). HasAnchor names_literal anchors x ⊎ ((is_key_area p x ≡ true) ⊎ HasAnchor names_frame anchors x)) (sym new.1) (literal_named kind serial (sym new.0) may)
        ];
    apart = λ other w at differ some_value some_word same.
        elim h.fits as (λ _. IsOfArea (word_at anchors (place - 1)) (serial_in named)) [
          | inl free ↦ absurd (free.1 other w at (record { some = some_word; of = same ∙ becomes.of }))
          | inr of ↦ subst (λ (z : ℕ × ℕ). IsOfArea z.0 z.1) (λ i. ((same_word anchors serial place word h is ∙ is) i, sym becomes.of i)) of
        ];
    stays = λ s. elim (cases_Bool (tells_kill (word_at anchors (place - 1)) s)) as (λ _. tells_kill (word_at anchors (place - 1)) s ≡ false) [
      | inl told ↦ absurd (unkilled (place - 1) (word_at anchors (place - 1)) s (here anchors serial place word h is ∙ ap (λ (x : ℕ). Some x) is) told)
      | inr not_so ↦ not_so
    ];
    kills = λ s told. absurd (becomes.kills s told);
  }

  -- what the slot names after it
  pub stored_names : (k : Kind) (s : ℕ) → HoldsAnchors k (slice_set anchors (place - 1) named) s ↔ (HoldsAnchors k anchors s ⊎ ((k ≡ kind) × (s ≡ serial)))
  stored_names k s = (before, after)
    where
      names : (names_for k named s ≡ true) ↔ ((names_for k word s ≡ true) ⊎ ((k ≡ kind) × (s ≡ serial)))
      names = becomes.names (empty_or_of anchors serial place word h is) k s

      there : slice_get (slice_set anchors (place - 1) named) (place - 1) ≡ Some named
      there = set_here anchors (place - 1) named word (here anchors serial place word h is)
        where
          set_here : (xs : List ℕ) (i x y : ℕ) → slice_get xs i ≡ Some y → slice_get (slice_set xs i x) i ≡ Some x
          set_here [] i x y at = absurd (cc)
          set_here (z ∷ zs) zero x y at = refl
          set_here (z ∷ zs) (suc i) x y at = set_here zs i x y at

      before : HoldsAnchors k (slice_set anchors (place - 1) named) s → HoldsAnchors k anchors s ⊎ ((k ≡ kind) × (s ≡ serial))
      before held =
          elim (slice_get-slice_set anchors (place - 1) named held.place held.word held.at) as (λ _. HoldsAnchors k anchors s ⊎ ((k ≡ kind) × (s ≡ serial))) [
            | inl this ↦
                elim (names.0 (ap (λ (x : ℕ). names_for k x s) (sym this.1) ∙ held.passes)) as (λ _. HoldsAnchors k anchors s ⊎ ((k ≡ kind) × (s ≡ serial))) [
                  | inl old ↦ inl (old_name k s old)
                  | inr new ↦ inr new
                ]
            | inr other ↦ inl (record { place = held.place; word = held.word; at = other.1; passes = held.passes })
          ]

      named_now : (names_for k word s ≡ true) ⊎ ((k ≡ kind) × (s ≡ serial)) → HoldsAnchors k (slice_set anchors (place - 1) named) s
      named_now was = record { place = place - 1; word = named; at = there; passes = names.1 was }

      after : HoldsAnchors k anchors s ⊎ ((k ≡ kind) × (s ≡ serial)) → HoldsAnchors k (slice_set anchors (place - 1) named) s
      after was =
          elim was as (λ _. HoldsAnchors k (slice_set anchors (place - 1) named) s) [
            | inl held ↦
                dite (ℕ_discrete held.place (place - 1))
                (λ (this : held.place ≡ place - 1). named_now (inl (ap (λ (x : ℕ). names_for k x s) (same_place held this) ∙ held.passes)))
                (λ (other : held.place ≡ place - 1 → ⊥). record { place = held.place; word = held.word; at = stays_elsewhere anchors (place - 1) named held.place held.word other held.at; passes = held.passes })
            | inr pair ↦ named_now (inr pair)
          ]
        where
          same_place : (held : HoldsAnchors k anchors s) → held.place ≡ place - 1 → word ≡ held.word
          same_place held this = is ∙ ap (λ (i : ℕ). word_at anchors i) (sym this) ∙ ap (λ (o : Option ℕ). unwrap_or o 0) held.at

  -- it tells of no kill after it
  pub stored_unkilled : IsUnkilled (slice_set anchors (place - 1) named)
  stored_unkilled other w s at told =
      elim (slice_get-slice_set anchors (place - 1) named other w at) as (λ _. ⊥) [
        | inl this ↦ becomes.kills s (ap (λ (x : ℕ). tells_kill x s) (sym this.1) ∙ told)
        | inr there ↦ unkilled other w s there.1 told
      ]

-- ---- the call

-- the fit of an anchor, as the store of a word of a slot asks for it
pub fits_slot : (m : MemberView) (process place value : ℕ) → 1 ≤ place → FitsAnchor (published_at m.seen m.member.generation) (anchors_of m process) (place - 1) value → FitsSlot m process place value
fits_slot m process zero value first fits = absurd (omega arith)
fits_slot m process (suc n) value first fits =
    let back : suc n - 1 ≡ n = omega arith in
    subst (λ (i : ℕ). FitsAnchor (published_at m.seen m.member.generation) (anchors_of m process) i value) back fits

-- a turn that may be made may store it
pub may_store : (opening : Opening) (m : MemberView) (process place value : ℕ) → MayRun opening process m → 1 ≤ place → place ≤ 16 → FitsAnchor (published_at m.seen m.member.generation) (anchors_of m process) (place - 1) value → MayStoreSlot opening process place value m
may_store opening m process place value run first last fits = record {
  awake = run.awake;
  below = run.below;
  own = run.own;
  last = last;
  noted = run.noted;
  fits = fits_slot m process place value first fits;
}

-- the anchors after the store
pub anchors_stored : (m : MemberView) (process place value : ℕ) → 1 ≤ place → anchors_of (with_slot process place value m) process ≡ slice_set (anchors_of m process) (place - 1) value
anchors_stored m process zero value first = absurd (omega arith)
anchors_stored m process (suc n) value first =
    let back : suc n - 1 ≡ n = omega arith in
    ap (λ p. p.slot.anchors) (process_here process (suc n) value m) ∙ ap (λ (i : ℕ). slice_set (anchors_of m process) i value) (sym back)

pub hold_may : (opening : Opening) (m : MemberView) (process serial place word named : ℕ) (kind : Kind) → MayRun opening process m → IsUnkilled (anchors_of m process) → MayHold process kind serial m → IsPlaceFor (anchors_of m process) serial place → word ≡ word_at (anchors_of m process) (place - 1) → IsNamedWord word serial kind named
    → MayStoreSlot opening process place named m
hold_may opening m process serial place word named kind run unkilled may h is becomes =
    may_store opening m process place named run h.first h.last (hold_fits (published_at m.seen m.member.generation) (anchors_of m process) serial place word named kind h is unkilled may becomes)

-- where it is stored
pub held_now : (old : MemberView) (v : View) (process serial place word named : ℕ) (kind : Kind) → IsUnkilled (anchors_of old process) → MayHold process kind serial old → IsPlaceFor (anchors_of old process) serial place → word ≡ word_at (anchors_of old process) (place - 1) → IsNamedWord word serial kind named
    → v ≡ Member (with_slot process place named old) → HasHeld process kind serial old (member_of v)
held_now old v process serial place word named kind unkilled may h is becomes view =
    let first = h.first in
    let next : place ≡ place - 1 + 1 = omega (arith, first) in
    let p = published_at old.seen old.member.generation in
    let names = stored_names p (anchors_of old process) serial place word named kind h is unkilled may becomes in
    let after : anchors_of (member_of v) process ≡ slice_set (anchors_of old process) (place - 1) named = ap (λ (x : View). anchors_of (member_of x) process) view ∙ anchors_stored old process place named first in
    record {
      stored = inr (record { place = place - 1; word = named; view = ap member_of view ∙ ap (λ (i : ℕ). with_slot process i named old) next });
      names = λ k s. subst (λ (xs : List ℕ). HoldsAnchors k xs s ↔ (HoldsAnchors k (anchors_of old process) s ⊎ ((k ≡ kind) × (s ≡ serial)))) (sym after) (names k s);
      unkilled = subst IsUnkilled (sym after) (stored_unkilled p (anchors_of old process) serial place word named kind h is unkilled may becomes);
      apart = λ apart. subst AnchorsApart (sym after) (stored_apart p (anchors_of old process) (place - 1) named word (here (anchors_of old process) serial place word h is) (hold_fits p (anchors_of old process) serial place word named kind h is unkilled may becomes) apart);
    }

-- where it is named already
pub held_before : (old : MemberView) (process serial place word named : ℕ) (kind : Kind) → IsUnkilled (anchors_of old process) → IsPlaceFor (anchors_of old process) serial place → word ≡ word_at (anchors_of old process) (place - 1) → IsNamedWord word serial kind named → named ≡ word → HasHeld process kind serial old old
held_before old process serial place word named kind unkilled h is becomes same = record {
  stored = inl refl;
  names = λ k s. (
    λ held. inl held,
    λ was. elim was as (λ _. HoldsAnchors k (anchors_of old process) s) [
      | inl held ↦ held
      | inr pair ↦ record {
        place = place - 1;
        word = word;
        at = here (anchors_of old process) serial place word h is;
        passes = ap (λ (x : ℕ). names_for k x s) (sym same) ∙ (becomes.names (empty_or_of (anchors_of old process) serial place word h is) k s).1 (inr pair);
      }
    ],
  );
  unkilled = unkilled;
  apart = λ apart. apart;
}

-- ---- room

-- a word that is not 0 and tells of no kill names an area
names_one : (word : ℕ) → word ≢ 0 → ((serial : ℕ) → tells_kill word serial ≡ true → ⊥) → is_naming word ≡ true
names_one word some_word unkilled =
    not_from_false (word % 4 == 0) (ne_eqb (word % 4) 0 (λ none_named. unkilled (word / 4) (and_from (word == word / 4 * 4) (not (word / 4 == 0)) (eq-eqb word (word / 4 * 4) (omega (arith, none_named)))
    (not_from_false (word / 4 == 0) (ne_eqb (word / 4) 0 (λ empty. some_word (omega (arith, none_named, empty))))))))

-- where there is no place for the area, each anchor names another
pub all_others : (anchors : List ℕ) (serial : ℕ) → IsUnkilled anchors → HasNoPlace anchors serial → AreOthers anchors serial
all_others anchors serial unkilled h place word at =
    let some_word = h.taken place word at in
    (names_one word some_word (λ s told. unkilled place word s at told), λ same. h.nowhere place word at (record { some = some_word; of = same }))

-- where there is one, not
pub not_others : (anchors : List ℕ) (serial place : ℕ) → IsPlaceFor anchors serial place → AreOthers anchors serial → ⊥
not_others anchors serial place h others =
    let here = others (place - 1) h.word h.at in
    elim h.fits as (λ _. ⊥) [
      | inl free ↦ no_name (ap is_naming (sym free.0) ∙ here.0)
      | inr of ↦ here.1 of.of
    ]
  where
    no_name : is_naming 0 ≡ true → ⊥
    no_name e = absurd (cc)
