-- What anchors name before and after a store.
use Rattle.std.proofs.Common.{◌≡◌, ℕ, zero, suc, ◌<◌, true, false, ◌||◌, List, [], ◌∷◌, Some, length, ◌⊎◌, inl, inr, refl, sym, ap, subst, arith}
use Rattle.std.specs.Prelude.{slice_get, slice_set}
use Rattle.std.proofs.lemmas.Bool.{both_ways, or_cases, or_left, or_right}
use Rattle.prgr_core.proofs.Parts.{slice_get-slice_set}
use Rattle.area_core.specs.Generations.{names_frame, names_literal}
use Rattle.area_core.specs.Blocks.{Among}
use Rattle.marks.specs.declared.kept.LookKind.{LookKind}
use Rattle.marks.specs.declared.kept.LookKind.TheVariants.{Frame, Both}
use Rattle.marks.specs.declared.mark.ProcessView.{ProcessView}
use Rattle.marks.specs.Names.{names_in, HasAnchor, MarkNames, last_names, IsAtRest}
use Rattle.marks.specs.Kept.{Under, comes_to}
use Rattle.marks.specs.Steps.{MayBecome}

-- ---- kinds

-- what names an area for a frame names it in either kind
pub frame_in : (kind : LookKind) (word serial : ℕ) → names_frame word serial ≡ true → names_in kind word serial ≡ true
frame_in Frame word serial e = e
frame_in Both word serial e = or_left (names_frame word serial) (names_literal word serial) e

pub frames_in : (kind : LookKind) (anchors : List ℕ) (serial : ℕ) → HasAnchor names_frame anchors serial → MarkNames kind anchors serial
frames_in kind anchors serial n = record { place = n.place; word = n.word; at = n.at; passes = frame_in kind n.word serial n.passes }

pub literals_in : (anchors : List ℕ) (serial : ℕ) → HasAnchor names_literal anchors serial → MarkNames Both anchors serial
literals_in anchors serial n = record { place = n.place; word = n.word; at = n.at; passes = or_right (names_frame n.word serial) (names_literal n.word serial) n.passes }

-- where frames and literals are named in one slot as in another, so is either kind
named_as : (one other : List ℕ) (serial : ℕ) → (HasAnchor names_frame one serial → HasAnchor names_frame other serial) → (HasAnchor names_literal one serial → HasAnchor names_literal other serial) → (kind : LookKind) → MarkNames kind one serial → MarkNames kind other serial
named_as one other serial frames literals Frame n = frames n
named_as one other serial frames literals Both n =
    elim (or_cases (names_frame n.word serial) (names_literal n.word serial) n.passes) as (λ _. MarkNames Both other serial) [
      | inl frame ↦ frames_in Both other serial (frames (record { place = n.place; word = n.word; at = n.at; passes = frame }))
      | inr literal ↦ literals_in other serial (literals (record { place = n.place; word = n.word; at = n.at; passes = literal }))
    ]

-- and what the last mark names the slot names
pub last_rest : (p : ProcessView) → IsAtRest p → (kind : LookKind) (serial : ℕ) → MarkNames kind (last_names p.marks) serial → MarkNames kind p.slot.anchors serial
last_rest p rest kind serial = named_as (last_names p.marks) p.slot.anchors serial (rest.frames serial).1 (rest.literals serial).1 kind

-- what no turn comes to in either kind is no current instance
pub no_frame : (u : Under) (kind : LookKind) (serial : ℕ) → comes_to u kind serial ≡ false → u.frames serial ≡ true → ⊥
no_frame u Frame serial gone comes = both_ways (u.frames serial) gone comes
no_frame u Both serial gone comes = both_ways (u.frames serial || u.literals serial) gone (or_left (u.frames serial) (u.literals serial) comes)

-- ---- lists

-- an element of a list with a new first is that or one of the list
pub among_cons : {X : Type 0} (xs : List X) (x y : X) → Among (x ∷ xs) y → (y ≡ x) ⊎ Among xs y
among_cons xs x y (zero, at) = inl (cc)
among_cons xs x y (suc i, at) = inr (i, at)

-- so what holds of the new one and of the others holds of all
pub each_cons : {X : Type 0} (P : X → Type 0) (xs : List X) (x : X) → P x → ((y : X) → Among xs y → P y) → (y : X) → Among (x ∷ xs) y → P y
each_cons P xs x first others y among = elim (among_cons xs x y among) as (λ _. P y) [ inl same ↦ subst P (sym same) first | inr there ↦ others y there ]

-- a place within a list has an element
pub has_element : {X : Type 0} (xs : List X) (i : ℕ) → i < length xs → (x : X) × (slice_get xs i ≡ Some x)
has_element [] i within = absurd (omega (arith))
has_element (x ∷ xs) zero within = (x, refl)
has_element (x ∷ xs) (suc i) within = has_element xs i (omega (arith))

-- a write elsewhere leaves an element
pub stays_elsewhere : {X : Type 0} (xs : List X) (k : ℕ) (y : X) (j : ℕ) (x : X) → (j ≡ k → ⊥) → slice_get xs j ≡ Some x → slice_get (slice_set xs k y) j ≡ Some x
stays_elsewhere [] k y j x differs at = absurd (cc)
stays_elsewhere (z ∷ zs) zero y zero x differs at = absurd (differs refl)
stays_elsewhere (z ∷ zs) zero y (suc j) x differs at = at
stays_elsewhere (z ∷ zs) (suc k) y zero x differs at = at
stays_elsewhere (z ∷ zs) (suc k) y (suc j) x differs at = stays_elsewhere zs k y j x (λ e. differs (ap suc e)) at

-- ---- a store of an anchor

module _ (u : Under) (anchors : List ℕ) (place old new : ℕ) (at : slice_get anchors place ≡ Some old) (may : MayBecome u old new) where
  -- what is named after it was named before, or a turn comes to it
  pub named_before : (kind : LookKind) (serial : ℕ) → MarkNames kind (slice_set anchors place new) serial → MarkNames kind anchors serial ⊎ (comes_to u kind serial ≡ true)
  named_before kind serial n =
      elim (slice_get-slice_set anchors place new n.place n.word n.at) as (λ _. MarkNames kind anchors serial ⊎ (comes_to u kind serial ≡ true)) [
        | inl here ↦
            elim (may.newly kind serial (subst (λ (w : ℕ). names_in kind w serial ≡ true) here.1 n.passes)) as (λ _. MarkNames kind anchors serial ⊎ (comes_to u kind serial ≡ true)) [
              | inl named ↦ inl (record { place = place; word = old; at = at; passes = named })
              | inr comes ↦ inr comes
            ]
        | inr other ↦ inl (record { place = n.place; word = n.word; at = other.1; passes = n.passes })
      ]

  -- what no turn comes to is named after it only where it was before
  pub named_still : (kind : LookKind) (serial : ℕ) → comes_to u kind serial ≡ false → MarkNames kind (slice_set anchors place new) serial → MarkNames kind anchors serial
  named_still kind serial gone n =
      elim (named_before kind serial n) as (λ _. MarkNames kind anchors serial) [ inl before ↦ before | inr comes ↦ absurd (both_ways (comes_to u kind serial) gone comes) ]
