-- The empty generation may be published again where nothing else was: each word of a block is 0, and no area is kept.
use Rattle.std.proofs.Common.{◌≡◌, ℕ, zero, suc, ◌+◌, ⊎_elim, true, false, List, [], ◌∷◌, ◌++◌, length, replicate, refl, sym, ap, subst, ◌∙◌, arith}
use Rattle.std.specs.Prelude.{Some, slice_get}
use Rattle.prgr_core.proofs.Parts.{slice_get-push_at}
use Rattle.atomic_table.specs.Seated.{TableId}
use Rattle.area_core.specs.declared.map.TheConstants.{TABLE_WORDS}
use Rattle.area_core.specs.declared.table.Published.{Published}
use Rattle.area_core.specs.declared.table.KeptArea.{KeptArea}
use Rattle.area_core.specs.Generations.{has_serial}
use Rattle.area_core.specs.Map.{word_at, opening_words}
use Rattle.area_core.specs.Blocks.{Among, UsedAreKept}
use Rattle.area_core.specs.Roots.{fresh_areas}
use Rattle.area_core.specs.Step.{opening_published}
use Rattle.area_core.proofs.Counted.{opened}
use Rattle.area_core.proofs.Opened.{blocks_opened}
use Rattle.shared_words.specs.declared.opening.Opening.{Opening}
use Rattle.shared_words.specs.declared.seats.Writer as writers
use Rattle.shared_words.specs.declared.view.WriterView.{WriterView}
use Rattle.shared_words.specs.declared.view.View.TheVariants.{Writer}
use Rattle.shared_words.specs.Seats.{SeatPlace, writer_of}
use Rattle.shared_words.specs.Making.{IsHanding, writer_handing}
use Rattle.shared_words.specs.Publishing.{MayPublish, IsRootOf, kept_next, with_next}
use Rattle.progress_words.specs.Tokens.{written_by, IsWriterOf}
use Rattle.new_tables.specs.Running.{IsEmpty}

pub never : false ≡ true → ⊥
never e = (cc)

pub no_element : {X : Type 0} (k : ℕ) {x : X} → slice_get {X = X} [] k ≡ Some x → ⊥
no_element k e = (cc)

none_among : {X : Type 0} (x : X) → Among {X = X} [] x → ⊥
none_among x is = no_element is.0 is.1

-- ---- as the table begins

zero_at : (count place : ℕ) → word_at (replicate count 0) place ≡ 0
zero_at zero place = refl
zero_at (suc n) zero = refl
zero_at (suc n) (suc place) = zero_at n place

pub empty_words : (count place : ℕ) → word_at (opening_words count) place ≡ 0
empty_words count place = ap (λ (words : List ℕ). word_at words place) (sym (opened count)) ∙ zero_at count place

only : (x p : Published) (g : ℕ) → slice_get (x ∷ []) g ≡ Some p → p ≡ x
only x p zero at = cc
only x p (suc g) at = absurd (no_element g at)

begun_empty : (opening : Opening) (handed : ℕ) → IsEmpty (writer_handing opening handed)
begun_empty opening handed = record { published = λ p among. only opening_published p among.0 among.1; words = empty_words TABLE_WORDS; kept = refl }

-- what a writer whose seat is as it was made has published
pub handing_empty : (table : TableId) (opening : Opening) (handed : ℕ) (writer : writers.Writer) → IsHanding table opening handed writer.seat → IsEmpty (written_by writer)
handing_empty table opening handed writer is = subst IsEmpty (sym (ap writer_of is.view)) (begun_empty opening handed)

-- its newest generation is 0
pub handing_first : (table : TableId) (opening : Opening) (handed : ℕ) (writer : writers.Writer) → IsHanding table opening handed writer.seat → IsWriterOf table opening writer → writer.generation ≡ 0
handing_first table opening handed writer is token =
    let one : length (written_by writer).published ≡ 1 = ap (λ (w : WriterView). length w.published) (ap writer_of is.view) in
    let counted : length (written_by writer).published ≡ writer.generation + 1 = token.published in
    omega (arith, one, counted)

-- ---- once more

-- each that was published is the empty generation, and so is the next
each_empty : (w : WriterView) → IsEmpty w → (g : ℕ) (p : Published) → slice_get (w.published ++ opening_published ∷ []) g ≡ Some p → p ≡ opening_published
each_empty w h g p at =
    ⊎_elim (λ (t : slice_get w.published g ≡ Some p). h.published p (g, t))
    (λ (t : (g ≡ length w.published) × (p ≡ opening_published)). t.1)
    (slice_get-push_at w.published opening_published g p at)

none_kept : (w : WriterView) → IsEmpty w → kept_next w opening_published ≡ []
none_kept w h = ap (λ (xs : List KeptArea). xs ++ fresh_areas xs opening_published) h.kept

pub opening_root : IsRootOf opening_published.root 0 0 0
opening_root = record { code_is = refl; bp_is = refl; term_is = refl }

pub may_publish_empty : (Served : Published → Type 0) (w : WriterView) → Served opening_published → IsEmpty w → MayPublish Served w opening_published
may_publish_empty Served w served h =
    let b = blocks_opened (word_at w.words) h.words (λ g. Unit {0}) in
    let kept : kept_next w opening_published ≡ [] = none_kept w h in record {
      served = served;
      old_stays = λ g later p q serial le at_p at_q old. absurd (never (subst (λ (x : Published). has_serial x.state.old serial ≡ true) (each_empty w h g p at_p) old));
      retired_stays = λ g later p q serial le at_p at_q old. absurd (never (subst (λ (x : Published). has_serial x.state.retired serial ≡ true) (each_empty w h g p at_p) old));
      areas_go_on = record {
        apart = λ a c at_a at_c serial. absurd (no_element at_a.0 at_a.1);
        kept = λ k among. absurd (none_among k (subst (λ (xs : List KeptArea). Among xs k) kept among));
        new = λ k q a among before listed serial. absurd (none_among k among);
      };
      stands = record {
        root = b.roots_fit 0 opening_published tt refl;
        placed = b.instances_placed 0 opening_published tt refl;
        code = b.code_stands 0 opening_published tt refl;
        breakpoints = b.breakpoints_stand 0 opening_published tt refl;
        terms = b.terms_stand 0 opening_published tt refl;
        used = subst (λ (xs : List KeptArea). UsedAreKept xs opening_published) (sym kept) (b.used_kept 0 opening_published tt refl);
        areas = λ k among. absurd (none_among k (subst (λ (xs : List KeptArea). Among xs k) kept among));
      };
      fresh = record {
        fit = λ k among. absurd (none_among k among);
        images = λ k among. absurd (none_among k among);
        areas = λ g q counts at k among. absurd (none_among k among);
        apart = λ i j a b apart at_i at_j. absurd (no_element i (subst (λ (xs : List KeptArea). slice_get xs i ≡ Some a) kept at_i));
      };
    }

-- what the writer has published then
pub written_next : (seat : SeatPlace) (w : WriterView) → seat.me.0 ≡ Writer w → writer_of seat.me.0 ≡ w
written_next seat w is = ap writer_of is

next_empty : (w : WriterView) → IsEmpty w → IsEmpty (with_next opening_published w)
next_empty w h = record { published = λ p among. each_empty w h among.0 p among.1; words = h.words; kept = none_kept w h }

pub still_empty : (old new : WriterView) → IsEmpty old → new ≡ with_next opening_published old → IsEmpty new
still_empty old new h is = subst IsEmpty (sym is) (next_empty old h)
