-- What the anchors of a slot name is what is held by them, as sets of serials.
use Rattle.std.proofs.Common.{◌≡◌, ℕ, zero, suc, ◌%◌, ◌<◌, ◌⊎◌, inl, inr, Bool, true, false, not, List, [], ◌∷◌, Some, refl, sym, ap, ◌∙◌, arith}
use Rattle.std.specs.Prelude.{◌==◌, ◌&&◌, ◌||◌, nat_le, slice_get, if◌then◌else◌, IsTrue}
use Rattle.std.proofs.lemmas.Bool.{and_from, and_parts, cases_Bool, eq-eqb, eqb-true, false_from_ne_true, ne_eqb, not_from_false, or_cases, or_left, or_right, true≢false}
use Rattle.std.proofs.lemmas.Bool.Decides.{nat_tests}
use Rattle.term_core.specs.declared.hold.Kind.{Kind}
use Rattle.term_core.specs.declared.hold.Kind.TheVariants.{Frame, Literal}
use Rattle.area_core.specs.Generations as tests
use Rattle.area_core.specs.Generations.{is_naming, names_frame, names_literal, serial_in}
use Rattle.marks.specs.Names.{HasAnchor}
use Rattle.shared_words.specs.declared.view.MemberView.{MemberView}
use Rattle.anchors.specs.Drops.{HasDropped}
use Rattle.anchors.specs.Holds as slots
use Rattle.anchors.specs.Holds.{HasHeld, IsUnkilled, anchors_of, names_for}
use Rattle.machine_core.specs.Holds.{is_among, is_held, serials_of, with_hold, with_serial, without_hold, without_serial}
use Rattle.machine_core.proofs.AreaLists.{same_holds}
use Rattle.machine_core.proofs.SerialLists.{among-serials_of, among-with, among-without, increasing-serials_of, increasing-with, increasing-without, same_serials}
use Rattle.word_view.specs.Anchored.{holds_by, named_for}

-- ---- one word

-- what a word names, it names by the serial in it
own_serial : (kind : Kind) (word serial : ℕ) → names_for kind word serial ≡ true → serial_in word ≡ serial
own_serial Frame word serial e = eqb-true (serial_in word) serial (and_parts (word % 2 == 1) (serial_in word == serial) e).1
own_serial Literal word serial e = eqb-true (serial_in word) serial (and_parts (nat_le 2 (word % 4)) (serial_in word == serial) e).1

frame_kind : (word : ℕ) → word % 2 ≡ 1 → not (word % 4 == 0) ≡ true
frame_kind word odd = not_from_false (word % 4 == 0) (ne_eqb (word % 4) 0 (λ none. absurd (omega (arith, odd, none))))

literal_kind : (rest : ℕ) → nat_le 2 rest ≡ true → not (rest == 0) ≡ true
literal_kind rest high = grind (arith, nat_tests)

frame_no_literal : ◌≡◌ {A = Kind} Frame Literal → ⊥
frame_no_literal e = absurd (cc)

literal_no_frame : ◌≡◌ {A = Kind} Literal Frame → ⊥
literal_no_frame e = absurd (cc)

-- for whatever it names an area, it names it
names_any : (kind : Kind) (word serial : ℕ) → names_for kind word serial ≡ true → tests.anchor_names_area word serial ≡ true
names_any Frame word serial e =
    let parts = and_parts (word % 2 == 1) (serial_in word == serial) e in
    let odd = eqb-true (word % 2) 1 parts.0 in
    and_from (not (word % 4 == 0)) (serial_in word == serial) (frame_kind word odd) parts.1
names_any Literal word serial e =
    let parts = and_parts (nat_le 2 (word % 4)) (serial_in word == serial) e in
    and_from (not (word % 4 == 0)) (serial_in word == serial) (literal_kind (word % 4) parts.0) parts.1

pub named_any : (kind : Kind) (anchors : List ℕ) (serial : ℕ) → slots.HoldsAnchors kind anchors serial → HasAnchor tests.anchor_names_area anchors serial
named_any kind anchors serial h = record { place = h.place; word = h.word; at = h.at; passes = names_any kind h.word serial h.passes }

-- and the other way, it names it for one of both
pub names_either : (word serial : ℕ) → tests.anchor_names_area word serial ≡ true → (names_frame word serial ≡ true) ⊎ (names_literal word serial ≡ true)
names_either word serial e =
    let parts = and_parts (is_naming word) (serial_in word == serial) e in
    elim (cases_Bool (word % 2 == 1)) as (λ _. (names_frame word serial ≡ true) ⊎ (names_literal word serial ≡ true)) [
      | inl odd ↦ inl (and_from (word % 2 == 1) (serial_in word == serial) odd parts.1)
      | inr even ↦ inr (and_from (nat_le 2 (word % 4)) (serial_in word == serial) (high word parts.0 even) parts.1)
    ]
  where
    by_rest : (rest two : ℕ) → rest < 4 → two ≡ rest % 2 → not (rest == 0) ≡ true → (two == 1) ≡ false → nat_le 2 rest ≡ true
    by_rest rest two few is some_kind even = grind (arith, nat_tests)

    high : (word : ℕ) → is_naming word ≡ true → (word % 2 == 1) ≡ false → nat_le 2 (word % 4) ≡ true
    high word some_kind even = by_rest (word % 4) (word % 2) (omega (arith)) (omega (arith)) some_kind even

-- ---- the serials

module _ (kind : Kind) (serial : ℕ) where
  -- a serial that an anchor names is among those that anchors name
  pub named_among : (anchors : List ℕ) (place word : ℕ) → slice_get anchors place ≡ Some word → names_for kind word serial ≡ true → is_among (named_for kind anchors) serial ≡ true
  named_among [] place word at passes = absurd (cc)
  named_among (x ∷ xs) zero word at passes =
      let same : x ≡ word = cc in
      let here : names_for kind x serial ≡ true = ap (λ (w : ℕ). names_for kind w serial) same ∙ passes in
      let own = own_serial kind x serial here in
      ap (λ (b : Bool). is_among (if b then serial_in x ∷ named_for kind xs else named_for kind xs) serial) (ap (names_for kind x) own ∙ here)
      ∙ or_left (serial_in x == serial) (is_among (named_for kind xs) serial) (eq-eqb (serial_in x) serial own)
  named_among (x ∷ xs) (suc place) word at passes = behind (names_for kind x (serial_in x)) (named_among xs place word at passes)
    where
      behind : (b : Bool) → is_among (named_for kind xs) serial ≡ true → is_among (if b then serial_in x ∷ named_for kind xs else named_for kind xs) serial ≡ true
      behind true e = or_right (serial_in x == serial) (is_among (named_for kind xs) serial) e
      behind false e = e

  -- and the other way
  pub among_named : (anchors : List ℕ) → is_among (named_for kind anchors) serial ≡ true → slots.HoldsAnchors kind anchors serial
  among_named [] e = absurd (cc)
  among_named (x ∷ xs) e = choose (names_for kind x (serial_in x)) refl e (among_named xs)
    where
      later : slots.HoldsAnchors kind xs serial → slots.HoldsAnchors kind (x ∷ xs) serial
      later h = record { place = suc h.place; word = h.word; at = h.at; passes = h.passes }

      choose : (b : Bool) → names_for kind x (serial_in x) ≡ b → is_among (if b then serial_in x ∷ named_for kind xs else named_for kind xs) serial ≡ true → (is_among (named_for kind xs) serial ≡ true → slots.HoldsAnchors kind xs serial) → slots.HoldsAnchors kind (x ∷ xs) serial
      choose true is e rest =
          elim (or_cases (serial_in x == serial) (is_among (named_for kind xs) serial) e) as (λ _. slots.HoldsAnchors kind (x ∷ xs) serial) [
            | inl here ↦ record { place = 0; word = x; at = refl; passes = sym (ap (names_for kind x) (eqb-true (serial_in x) serial here)) ∙ is }
            | inr behind ↦ later (rest behind)
          ]
      choose false is e rest = later (rest e)

-- ---- what is held

held_is : (kind : Kind) (anchors : List ℕ) (serial : ℕ) → is_held (holds_by anchors) serial kind ≡ is_among (named_for kind anchors) serial
held_is Frame anchors serial = among-serials_of (named_for Frame anchors) serial
held_is Literal anchors serial = among-serials_of (named_for Literal anchors) serial

-- what is held an anchor names
pub held_names : (kind : Kind) (anchors : List ℕ) (serial : ℕ) → IsTrue (is_held (holds_by anchors) serial kind) → slots.HoldsAnchors kind anchors serial
held_names kind anchors serial held = among_named kind serial anchors (sym (held_is kind anchors serial) ∙ held)

-- two tests that say the same
pub agree : (a b : Bool) → (a ≡ true → b ≡ true) → (b ≡ true → a ≡ true) → a ≡ b
agree true true there back = refl
agree true false there back = absurd (true≢false (sym (there refl)))
agree false true there back = absurd (true≢false (sym (back refl)))
agree false false there back = refl

-- ---- a hold

module _ (old new : MemberView) (process : ℕ) (kind : Kind) (serial : ℕ) (h : HasHeld process kind serial old new) where
  abbrev before : List ℕ
  before = anchors_of old process

  abbrev after : List ℕ
  after = anchors_of new process

  -- in its kind there is one more
  one_more : (k : Kind) → k ≡ kind → serials_of (named_for k after) ≡ with_serial (serials_of (named_for k before)) serial
  one_more k is =
      same_serials (serials_of (named_for k after)) (with_serial (serials_of (named_for k before)) serial) (increasing-serials_of (named_for k after)) (increasing-with (serials_of (named_for k before)) serial (increasing-serials_of (named_for k before))) (λ q.
      among-serials_of (named_for k after) q ∙ agree (is_among (named_for k after) q) (serial == q || is_among (named_for k before) q) (there q) (back q)
      ∙ sym (among-with (serials_of (named_for k before)) serial q ∙ ap (λ (b : Bool). serial == q || b) (among-serials_of (named_for k before) q)))
    where
      there : (q : ℕ) → is_among (named_for k after) q ≡ true → (serial == q || is_among (named_for k before) q) ≡ true
      there q e =
          elim ((h.names k q).0 (among_named k q after e)) as (λ _. (serial == q || is_among (named_for k before) q) ≡ true) [
            | inl was ↦ or_right (serial == q) (is_among (named_for k before) q) (named_among k q before was.place was.word was.at was.passes)
            | inr new ↦ or_left (serial == q) (is_among (named_for k before) q) (eq-eqb serial q (sym new.1))
          ]

      back : (q : ℕ) → (serial == q || is_among (named_for k before) q) ≡ true → is_among (named_for k after) q ≡ true
      back q e =
          elim (or_cases (serial == q) (is_among (named_for k before) q) e) as (λ _. is_among (named_for k after) q ≡ true) [
            | inl own ↦ now q ((h.names k q).1 (inr (is, sym (eqb-true serial q own))))
            | inr was ↦ now q ((h.names k q).1 (inl (among_named k q before was)))
          ]
        where
          now : (q : ℕ) → slots.HoldsAnchors k after q → is_among (named_for k after) q ≡ true
          now q n = named_among k q after n.place n.word n.at n.passes

  -- in the other kind all is as before
  none_more : (k : Kind) → (k ≡ kind → ⊥) → serials_of (named_for k after) ≡ serials_of (named_for k before)
  none_more k differ =
      same_serials (serials_of (named_for k after)) (serials_of (named_for k before)) (increasing-serials_of (named_for k after)) (increasing-serials_of (named_for k before)) (λ q.
      among-serials_of (named_for k after) q ∙ agree (is_among (named_for k after) q) (is_among (named_for k before) q) (there q) (back q) ∙ sym (among-serials_of (named_for k before) q))
    where
      there : (q : ℕ) → is_among (named_for k after) q ≡ true → is_among (named_for k before) q ≡ true
      there q e =
          elim ((h.names k q).0 (among_named k q after e)) as (λ _. is_among (named_for k before) q ≡ true) [
            | inl was ↦ named_among k q before was.place was.word was.at was.passes
            | inr new ↦ absurd (differ new.0)
          ]

      back : (q : ℕ) → is_among (named_for k before) q ≡ true → is_among (named_for k after) q ≡ true
      back q e = let n = (h.names k q).1 (inl (among_named k q before e)) in named_among k q after n.place n.word n.at n.passes

  by_kind : (k : Kind) → k ≡ kind → holds_by after ≡ with_hold (holds_by before) serial k
  by_kind Frame is = same_holds (holds_by after) (with_hold (holds_by before) serial Frame) (one_more Frame is) (none_more Literal (λ other. frame_no_literal (is ∙ sym other)))
  by_kind Literal is = same_holds (holds_by after) (with_hold (holds_by before) serial Literal) (none_more Frame (λ other. literal_no_frame (is ∙ sym other))) (one_more Literal is)

  pub held_more : holds_by after ≡ with_hold (holds_by before) serial kind
  held_more = by_kind kind refl

-- ---- a drop

module _ (old new : MemberView) (process : ℕ) (kind : Kind) (serial : ℕ) (h : HasDropped process kind serial old new) where
  abbrev had : List ℕ
  had = anchors_of old process

  abbrev left : List ℕ
  left = anchors_of new process

  -- in its kind there is none of the area
  one_less : (k : Kind) → k ≡ kind → serials_of (named_for k left) ≡ without_serial (serials_of (named_for k had)) serial
  one_less k is =
      same_serials (serials_of (named_for k left)) (without_serial (serials_of (named_for k had)) serial) (increasing-serials_of (named_for k left)) (increasing-without (serials_of (named_for k had)) serial (increasing-serials_of (named_for k had))) (λ q.
      among-serials_of (named_for k left) q ∙ agree (is_among (named_for k left) q) (not (q == serial) && is_among (named_for k had) q) (there q) (back q)
      ∙ sym (among-without (serials_of (named_for k had)) serial q ∙ ap (λ (b : Bool). not (q == serial) && b) (among-serials_of (named_for k had) q)))
    where
      not_same : (q : ℕ) → (q ≡ serial → ⊥) → not (q == serial) ≡ true
      not_same q differ = ap not (false_from_ne_true (q == serial) (λ e. differ (eqb-true q serial e)))

      there : (q : ℕ) → is_among (named_for k left) q ≡ true → (not (q == serial) && is_among (named_for k had) q) ≡ true
      there q e =
          let was = (h.names k q).0 (among_named k q left e) in
          and_from (not (q == serial)) (is_among (named_for k had) q) (not_same q (λ same. was.1 (is, same))) (named_among k q had was.0.place was.0.word was.0.at was.0.passes)

      back : (q : ℕ) → (not (q == serial) && is_among (named_for k had) q) ≡ true → is_among (named_for k left) q ≡ true
      back q e =
          let parts = and_parts (not (q == serial)) (is_among (named_for k had) q) e in
          let n = (h.names k q).1 (among_named k q had parts.1, λ own. true≢false (sym parts.0 ∙ ap not (eq-eqb q serial own.1))) in
          named_among k q left n.place n.word n.at n.passes

  -- in the other kind all is as before
  none_less : (k : Kind) → (k ≡ kind → ⊥) → serials_of (named_for k left) ≡ serials_of (named_for k had)
  none_less k differ =
      same_serials (serials_of (named_for k left)) (serials_of (named_for k had)) (increasing-serials_of (named_for k left)) (increasing-serials_of (named_for k had)) (λ q.
      among-serials_of (named_for k left) q ∙ agree (is_among (named_for k left) q) (is_among (named_for k had) q) (there q) (back q) ∙ sym (among-serials_of (named_for k had) q))
    where
      there : (q : ℕ) → is_among (named_for k left) q ≡ true → is_among (named_for k had) q ≡ true
      there q e = let was = ((h.names k q).0 (among_named k q left e)).0 in named_among k q had was.place was.word was.at was.passes

      back : (q : ℕ) → is_among (named_for k had) q ≡ true → is_among (named_for k left) q ≡ true
      back q e = let n = (h.names k q).1 (among_named k q had e, λ own. differ own.0) in named_among k q left n.place n.word n.at n.passes

  dropped_by_kind : (k : Kind) → k ≡ kind → holds_by left ≡ without_hold (holds_by had) serial k
  dropped_by_kind Frame is = same_holds (holds_by left) (without_hold (holds_by had) serial Frame) (one_less Frame is) (none_less Literal (λ other. frame_no_literal (is ∙ sym other)))
  dropped_by_kind Literal is = same_holds (holds_by left) (without_hold (holds_by had) serial Literal) (none_less Frame (λ other. literal_no_frame (is ∙ sym other))) (one_less Literal is)

  pub held_less : holds_by left ≡ without_hold (holds_by had) serial kind
  held_less = dropped_by_kind kind refl

  -- it is told to be killed by nothing new
  pub unkilled_still : IsUnkilled had → IsUnkilled left
  unkilled_still none place word s at told =
      let was = (h.kills s).0 (record { place = place; word = word; at = at; passes = told }) in
      none was.place was.word s was.at was.passes
