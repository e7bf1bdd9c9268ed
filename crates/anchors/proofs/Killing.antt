-- What it means for a slot that an anchor that named an instance tells of a kill.
use Rattle.std.proofs.Common.{◌≡◌, ◌≢◌, ℕ, ◌+◌, ◌-◌, ◌*◌, ◌%◌, ◌<◌, true, false, not, List, Option, Some, refl, sym, ap, subst, ◌∙◌, arith}
use Rattle.std.specs.Prelude.{◌==◌, slice_get, slice_set, unwrap_or}
use Rattle.std.proofs.lemmas.Bool.{and_parts, and_from, eqb-true, eq-eqb, ne_eqb}
use Rattle.std.proofs.lemmas.Bool.Decides.{nat_tests}
use Rattle.area_core.specs.Map.{word_at}
use Rattle.area_core.specs.declared.table.Published.{Published}
use Rattle.area_core.specs.Generations.{serial_in, names_frame, names_literal}
use Rattle.marks.specs.Names.{HasAnchor, tells_kill}
use Rattle.shared_words.specs.declared.opening.Opening.{Opening}
use Rattle.shared_words.specs.declared.view.MemberView.{MemberView}
use Rattle.shared_words.specs.declared.view.View.{View}
use Rattle.shared_words.specs.declared.view.View.TheVariants.{Member}
use Rattle.shared_words.specs.Views.{published_at}
use Rattle.shared_words.specs.Seats.{member_of}
use Rattle.shared_words.specs.Slots.{FitsAnchor, MayStoreSlot, with_slot}
use Rattle.anchors.specs.Holds.{anchors_of, MayRun}
use Rattle.anchors.specs.Drops.{IsFrameAt, HasKilled}
use Rattle.anchors.proofs.Holding.{may_store, anchors_stored}
use Rattle.anchors.proofs.Stored.{set_here}

-- ---- the word

kill_word : (word serial : ℕ) → names_frame word serial ≡ true → word - word % 4 ≡ serial * 4
kill_word word serial named = let of = eqb-true (serial_in word) serial (and_parts (word % 2 == 1) (serial_in word == serial) named).1 in omega (arith, of)

no_frame : (serial s : ℕ) → names_frame (serial * 4) s ≡ true → ⊥
no_frame serial s named = let odd = eqb-true (serial * 4 % 2) 1 (and_parts (serial * 4 % 2 == 1) (serial_in (serial * 4) == s) named).0 in absurd (omega (arith, odd))

no_literal : (serial s : ℕ) → names_literal (serial * 4) s ≡ true → ⊥
no_literal serial s named = grind (arith, nat_tests)

frame_unkilled : (word serial s : ℕ) → names_frame word serial ≡ true → tells_kill word s ≡ false
frame_unkilled word serial s named = grind (arith, nat_tests)

only_this : (serial s : ℕ) → tells_kill (serial * 4) s ≡ true → s ≡ serial
only_this serial s told = let same = eqb-true (serial * 4) (s * 4) (and_parts (serial * 4 == s * 4) (not (s == 0)) told).0 in omega (arith, same)

-- ---- the store

module _ (p : Published) (anchors : List ℕ) (serial place word : ℕ) (h : IsFrameAt anchors serial place) (is : word ≡ word_at anchors (place - 1)) where
  -- the word that is read is that of the place
  same_word : h.word ≡ word
  same_word = ap (λ (o : Option ℕ). unwrap_or o 0) (sym h.at) ∙ sym is

  named : names_frame word serial ≡ true
  named = ap (λ (w : ℕ). names_frame w serial) (sym same_word) ∙ h.named

  named_at : names_frame (word_at anchors (place - 1)) serial ≡ true
  named_at = ap (λ (w : ℕ). names_frame w serial) (sym is) ∙ named

  some_at : word_at anchors (place - 1) ≢ 0
  some_at none = no_name (ap (λ (w : ℕ). names_frame w serial) (sym none) ∙ named_at)
    where
      no_name : names_frame 0 serial ≡ true → ⊥
      no_name e = absurd (cc)

  kill_fits : FitsAnchor p anchors (place - 1) (serial * 4)
  kill_fits = record {
    frame = λ s told. absurd (no_frame serial s told);
    literal = λ s told. absurd (no_literal serial s told);
    apart = λ other w at differ some_value some_word same.
        let of = eqb-true (serial_in (word_at anchors (place - 1))) serial (and_parts (word_at anchors (place - 1) % 2 == 1) (serial_in (word_at anchors (place - 1)) == serial) named_at).1 in
        record { some = some_at; of = of ∙ omega (arith) };
    stays = λ s. frame_unkilled (word_at anchors (place - 1)) serial s named_at;
    kills = λ s told. ap (λ (n : ℕ). names_frame (word_at anchors (place - 1)) n) (only_this serial s told) ∙ named_at;
  }

-- ---- the call

module _ (old : MemberView) (process serial place word : ℕ) (h : IsFrameAt (anchors_of old process) serial place) (is : word ≡ word_at (anchors_of old process) (place - 1)) where
  becomes : word - word % 4 ≡ serial * 4
  becomes = kill_word word serial (named (published_at old.seen old.member.generation) (anchors_of old process) serial place word h is)

  pub kill_may : (opening : Opening) → MayRun opening process old → MayStoreSlot opening process place (word - word % 4) old
  kill_may opening run =
      subst (λ (w : ℕ). MayStoreSlot opening process place w old) (sym becomes)
      (may_store opening old process place (serial * 4) run h.first h.last (kill_fits (published_at old.seen old.member.generation) (anchors_of old process) serial place word h is))

  pub killed_now : (v : View) → v ≡ Member (with_slot process place (word - word % 4) old) → HasKilled process serial old (member_of v)
  killed_now v view =
      let first = h.first in
      let next : place ≡ place - 1 + 1 = omega (arith, first) in
      record {
        place = place - 1;
        word = h.word;
        at = h.at;
        named = h.named;
        view = ap member_of view ∙ (λ i. with_slot process (next i) (becomes i) old);
      }

-- it then tells of the kill
pub kill_told : (process serial : ℕ) (old new : MemberView) → HasKilled process serial old new → 0 < serial → HasAnchor tells_kill (anchors_of new process) serial
kill_told process serial old new h some_serial = record {
  place = h.place;
  word = serial * 4;
  at = ap (λ (m : MemberView). slice_get (anchors_of m process) h.place) h.view ∙ ap (λ (xs : List ℕ). slice_get xs h.place) (anchors_stored old process (h.place + 1) (serial * 4) (omega arith)) ∙ there;
  passes = and_from (serial * 4 == serial * 4) (not (serial == 0)) (eq-eqb (serial * 4) (serial * 4) refl) (ap not (ne_eqb serial 0 (λ none. absurd (omega (arith, none, some_serial)))));
}
  where
    there : slice_get (slice_set (anchors_of old process) (h.place + 1 - 1) (serial * 4)) h.place ≡ Some (serial * 4)
    there =
        let back : h.place + 1 - 1 ≡ h.place = omega arith in
        ap (λ (i : ℕ). slice_get (slice_set (anchors_of old process) i (serial * 4)) h.place) back ∙ set_here (anchors_of old process) h.place (serial * 4) h.word h.at
