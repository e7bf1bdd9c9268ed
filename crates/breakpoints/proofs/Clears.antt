-- The decisions on the functions of a block that nobody calls are cleared, one after another.
use Rattle.std.proofs.Common.{◌≡◌, ℕ, ◌+◌, ◌-◌, ◌*◌, ◌/◌, ◌<◌, ◌≤◌, inl, inr, Bool, true, false, List, length, refl, sym, ap, subst, ◌∙◌, arith}
use Rattle.std.specs.Prelude.{◌==◌, ◌&&◌, slice_set}
use Rattle.std.proofs.lemmas.Bool.{and_parts, cases_eq, eqb-true, le-ltb, lt-ltb, true≢false}
use Rattle.atomic_table.specs.Seated.{TableId}
use Rattle.term_core.specs.declared.area.AreaRef.{AreaRef}
use Rattle.area_core.specs.declared.table.Published.{Published}
use Rattle.area_core.specs.Map.{breakpoint_at, breakpoint_place, word_at}
use Rattle.area_core.specs.Blocks.{Among, IsForInstances}
use Rattle.area_core.specs.Generations.{is_instance}
use Rattle.area_core.specs.Readers.{has_instance_in, reads_in_block}
use Rattle.area_core.proofs.FromFacts.{never}
use Rattle.area_core.proofs.Tests.{passed_by}
use Rattle.shared_words.specs.declared.opening.Opening.{Opening}
use Rattle.shared_words.specs.declared.seats.Writer as writers
use Rattle.shared_words.specs.declared.view.WriterView.{WriterView}
use Rattle.shared_words.specs.Publishing.{FitsInBlock, FitsWord, MayStoreWord, with_word}
use Rattle.progress_words.specs.Tokens.{IsSameWriter, IsWriterOf, written_by}
use Rattle.breakpoints.specs.Laws.{AreasAreBehind, HasCleared, HasClearedFirst, HasNoDecisions, IsCalledByNone}
use Rattle.breakpoints.proofs.Spots.{decision_kind, decision_within, decisions_apart}
use Rattle.breakpoints.proofs.Standing.{IsSetAt, set_at, stored_view}

-- ---- who reads

no_instance : (p : Published) (block : ℕ) → ((a : AreaRef) → Among p.areas a → a.block ≡ block → is_instance p a.serial ≡ false) → has_instance_in p block ≡ false
no_instance p block none = never (has_instance_in p block) refuted
  where
    refuted : has_instance_in p block ≡ true → ⊥
    refuted some =
        let found = passed_by (λ (a : AreaRef). (a.block == block) && is_instance p a.serial) p.areas some in
        let both = and_parts (found.0.block == block) (is_instance p found.0.serial) found.3 in
        true≢false (sym both.1 ∙ none found.0 (found.1, found.2) (eqb-true found.0.block block both.0))

both_off : (a b : Bool) → b ≡ false → (a && b) ≡ false
both_off true b off = off
both_off false b off = refl

reads_uncalled : (p : Published) (block at : ℕ) → 3 ≤ block → block < 5 → has_instance_in p (9 + at / 16) ≡ false → reads_in_block p block at ≡ false
reads_uncalled p block at high low none = rw (le-ltb block 3 high, lt-ltb block 5 low) (both_off (block == 3 + p.root.bp) (has_instance_in p (9 + at / 16)) none)

home_is : (block function : ℕ) → 9 ≤ block → function < 16 → 9 + ((block - 9) * 16 + function) / 16 ≡ block
home_is block function low few = omega (arith, low, few)

-- the decision may be cleared
pub may_clear : (w : WriterView) (bp block function : ℕ) → bp < 2 → IsForInstances block → function < 16 → AreasAreBehind w → IsCalledByNone w block → MayStoreWord w (breakpoint_place bp block function) 0
may_clear w bp block function low placed few areas called = subst (FitsWord w 0) (sym (decision_kind bp block function low placed few)) fits
  where
    fits : FitsInBlock w (3 + bp) (breakpoint_at block function) 0
    fits = record {
      unread = λ g p may there.
          reads_uncalled p (3 + bp) (breakpoint_at block function) (omega (arith)) (omega (arith, low))
          (ap (has_instance_in p) (home_is block function placed.first few) ∙ no_instance p block (called g p may there));
      unkept = λ k among same. absurd (let high = areas k among in omega (arith, high, same, low));
      entries = λ k function among same has here none. absurd (let high = areas k among in omega (arith, high, same, low));
    }

-- ---- one decision more

module _ (bp block count : ℕ) (old now : WriterView) (h : HasClearedFirst bp block count old now) (low : bp < 2) (placed : IsForInstances block) (few : count < 16) (fewer : count ≤ 16) (after : List ℕ) (set : IsSetAt (breakpoint_place bp block count) 0 now.words after) where
  cleared_here : (function : ℕ) → function < count + 1 → word_at after (breakpoint_place bp block function) ≡ 0
  cleared_here function less =
      elim (cases_eq function count) as (λ _. word_at after (breakpoint_place bp block function) ≡ 0) [
        | inl same ↦ ap (λ (n : ℕ). word_at after (breakpoint_place bp block n)) same ∙ set.here
        | inr differ ↦ (
            let within : function < count = omega (arith, less, differ) in
            set.there (breakpoint_place bp block function) (λ same. differ (decisions_apart bp block function bp block count low placed (omega (arith, within, few)) low placed few same).2) ∙ h.cleared function within)
      ]

  one_here : HasClearedFirst bp block (count + 1) old (record now { words = after })
  one_here = record {
    view = ap (λ (v : WriterView). record v { words = after }) h.view;
    long = set.long ∙ h.long;
    cleared = cleared_here;
    others = λ place off. set.there place (off count (omega (arith))) ∙ h.others place (λ function less. off function (omega (arith, less)));
  }

-- what the writer is once so many are cleared
pub record ClearsOn (table : TableId) (opening : Opening) (bp block count : ℕ) (old now : writers.Writer) : Type 0 where
  pub token : IsWriterOf table opening now
  pub same : IsSameWriter old now
  pub cleared : HasClearedFirst bp block count (written_by old) (written_by now)
  pub all : length (written_by now).words ≡ 83413
  pub areas : AreasAreBehind (written_by now)
  pub called : IsCalledByNone (written_by now) block

pub clears_more : (table : TableId) (opening : Opening) (bp block count : ℕ) (old now next : writers.Writer) → ClearsOn table opening bp block count old now → bp < 2 → IsForInstances block → count < 16 → IsWriterOf table opening next → IsSameWriter now next → written_by next ≡ with_word (breakpoint_place bp block count) 0 (written_by now) → ClearsOn table opening bp block (count + 1) old next
clears_more table opening bp block count old now next h low placed few token same stored = record {
  token = token;
  same = record {
    seat = record {
      same_table = same.seat.same_table ∙ h.same.seat.same_table;
      same_number = same.seat.same_number ∙ h.same.seat.same_number;
      same_slots = same.seat.same_slots ∙ h.same.seat.same_slots;
    };
    generation = same.generation ∙ h.same.generation;
  };
  cleared = subst (HasClearedFirst bp block (count + 1) (written_by old)) (sym view) (one_here bp block count (written_by old) (written_by now) h.cleared low placed few (omega (arith, few)) after set);
  all = ap (λ (v : WriterView). length v.words) view ∙ set.long ∙ h.all;
  areas = subst AreasAreBehind (sym view) h.areas;
  called = subst (λ (v : WriterView). IsCalledByNone v block) (sym view) h.called;
}
  where
    after : List ℕ
    after = slice_set (written_by now).words (breakpoint_place bp block count) 0

    set : IsSetAt (breakpoint_place bp block count) 0 (written_by now).words after
    set = set_at (written_by now).words (breakpoint_place bp block count) 0 h.all (decision_within bp block count low placed few)

    view : written_by next ≡ record (written_by now) { words = after }
    view = stored ∙ stored_view (written_by now) (breakpoint_place bp block count) 0 (3 + bp) (breakpoint_at block count) (decision_kind bp block count low placed few)

-- ---- both indices

pub areas_still : (bp block count : ℕ) (old new : WriterView) → HasClearedFirst bp block count old new → AreasAreBehind old → AreasAreBehind new
areas_still bp block count old new h areas = subst AreasAreBehind (sym h.view) areas

pub called_still : (bp block count : ℕ) (old new : WriterView) → HasClearedFirst bp block count old new → IsCalledByNone old block → IsCalledByNone new block
called_still bp block count old new h called = subst (λ (v : WriterView). IsCalledByNone v block) (sym h.view) called

module _ (block : ℕ) (old mid new : WriterView) (placed : IsForInstances block) (first : HasClearedFirst 0 block 16 old mid) (second : HasClearedFirst 1 block 16 mid new) where
  no_decisions : HasNoDecisions new block
  no_decisions bp function low few =
      elim (cases_eq bp 1) as (λ _. word_at new.words (breakpoint_place bp block function) ≡ 0) [
        | inl last ↦ ap (λ (n : ℕ). word_at new.words (breakpoint_place n block function)) last ∙ second.cleared function few
        | inr other ↦ (
            let zeroth : bp ≡ 0 = omega (arith, low, other) in
            second.others (breakpoint_place bp block function) (λ also less same. other (decisions_apart bp block function 1 block also low placed few (omega (arith)) placed less same).0)
            ∙ ap (λ (n : ℕ). word_at mid.words (breakpoint_place n block function)) zeroth ∙ first.cleared function few)
      ]

  pub both_cleared : HasCleared block old new
  both_cleared = record {
    view = second.view ∙ ap (λ (v : WriterView). record v { words = new.words }) first.view;
    long = second.long ∙ first.long;
    cleared = no_decisions;
    others = λ place off. second.others place (λ function less. off 1 function (omega (arith)) less) ∙ first.others place (λ function less. off 0 function (omega (arith)) less);
  }
