-- What a writer's indices are once it has published a generation.
use Rattle.std.proofs.Common.{◌≡◌, ℕ, ◌+◌, ◌%◌, ◌<◌, ◌≤◌, inl, inr, ⊎_elim, List, [], ◌∷◌, ◌++◌, length, sym, ap, subst, ◌∙◌, arith}
use Rattle.std.specs.Prelude.{Option, Some, slice_get}
use Rattle.prgr_core.proofs.Parts.{slice_get-push_at, some_same}
use Rattle.term_core.specs.declared.area.CodeRef.{CodeRef}
use Rattle.area_core.specs.declared.table.KeptArea.{KeptArea}
use Rattle.area_core.specs.declared.table.Published.{Published}
use Rattle.area_core.specs.Map.{breakpoint_place, word_at}
use Rattle.area_core.specs.Blocks.{Among, BreakpointsStand, EntriesStand, FitsBlock, InstancesPlaced, IsForInstances, KeptApart}
use Rattle.area_core.specs.Roots.{fresh_areas}
use Rattle.area_core.specs.Step.{opening_published}
use Rattle.area_core.proofs.EntryStores.{same_area}
use Rattle.area_core.proofs.RootTests.{in_either}
use Rattle.shared_words.specs.declared.view.WriterView.{WriterView}
use Rattle.shared_words.specs.Views.{newest_number, published_at}
use Rattle.shared_words.specs.Rule.{MayBeRead}
use Rattle.shared_words.specs.Publishing.{kept_next, with_next}
use Rattle.shared_words.proofs.ShownMembers.{still_at, there_is}
use Rattle.shared_words.proofs.RootStores.{at_next, newest_next}
use Rattle.progress_words.specs.Needs.{HasTaken}
use Rattle.progress_words.specs.Roots.{newest_of}
use Rattle.std.proofs.lemmas.Option.{slice_get_within}
use Rattle.breakpoints.specs.Indices.{AreIndices, HaveBlocks, IsStagingUnread, IsUnkept}
use Rattle.breakpoints.proofs.Others.{Agree}
use Rattle.breakpoints.proofs.Spots.{behind_differs}

-- ---- which generations may be read

-- the newest generation stands at its number
pub newest_there : (w : WriterView) → 0 < length w.published → slice_get w.published (newest_number w.published) ≡ Some (newest_of w)
newest_there w some = there_is w.published (newest_number w.published) opening_published (omega (arith, some))

-- once a value is reached that was taken at the newest generation, only that one may be read
pub newest_alone : (w : WriterView) (need : ℕ) → 0 < length w.published → HasTaken w (newest_number w.published) need → need ≤ w.counter → (g : ℕ) (q : Published) → MayBeRead w g → slice_get w.published g ≡ Some q → q ≡ newest_of w
newest_alone w need some taken enough g q reads at =
    let last = reads (record { generation = newest_number w.published; need = need }) taken enough in
    let within = slice_get_within w.published g q at in
    let number : g ≡ newest_number w.published = omega (arith, last, within) in
    some_same q (newest_of w) (sym at ∙ ap (slice_get w.published) number ∙ newest_there w some)

-- so no thread reads the staging index
pub unread_behind : (w : WriterView) (need : ℕ) → 0 < length w.published → HasTaken w (newest_number w.published) need → need ≤ w.counter → IsStagingUnread w
unread_behind w need some taken enough g q reads at same =
    behind_differs (newest_of w).root.bp (ap (λ (p : Published). p.root.bp) (sym (newest_alone w need some taken enough g q reads at)) ∙ same)

-- ---- one generation more

-- something holds of each generation, and of the next one
pub each_of : (published : List Published) (p : Published) (Holds : ℕ → Published → Type 0) → Holds (length published) p → ((g : ℕ) (q : Published) → slice_get published g ≡ Some q → Holds g q) → (g : ℕ) (q : Published) → slice_get (published ++ p ∷ []) g ≡ Some q → Holds g q
each_of published p Holds new old g q at =
    ⊎_elim (λ (before : slice_get published g ≡ Some q). old g q before)
    (λ (last : (g ≡ length published) × (q ≡ p)). subst (λ (z : ℕ × Published). Holds z.0 z.1) (λ i. (sym last.0 i, sym last.1 i)) new)
    (slice_get-push_at published p g q at)

pub newest_is : (w : WriterView) (p : Published) → newest_of (with_next p w) ≡ p
newest_is w p = ap (published_at (w.published ++ p ∷ [])) (newest_next w.published p) ∙ at_next w.published p

pub kept_fit : (w : WriterView) (p : Published) → ((k : KeptArea) → Among w.kept k → FitsBlock k) → ((k : KeptArea) → Among (fresh_areas w.kept p) k → FitsBlock k) → (k : KeptArea) → Among (kept_next w p) k → FitsBlock k
kept_fit w p old new k among =
    elim (in_either w.kept (fresh_areas w.kept p) among.0 k among.1) as (λ _. FitsBlock k) [
      | inl was ↦ old k (among.0, was)
      | inr fresh ↦ new k (fresh.0, fresh.2)
    ]

-- an area that was kept is kept still
pub kept_before : (w : WriterView) (p : Published) (k : KeptArea) → Among w.kept k → Among (kept_next w p) k
kept_before w p k among = (among.0, still_at w.kept (fresh_areas w.kept p) among.0 k among.1)

pub have_blocks : (kept : List KeptArea) → KeptApart kept → HaveBlocks kept
have_blocks kept apart a b is_a is_b same = same_area kept apart a b is_a is_b same

-- what the words say of the next generation, and so the indices of the writer who has published it
pub record NextStands (patched : Option CodeRef) (w : WriterView) (p : Published) : Type 0 where
  pub all : length w.words ≡ 83413
  pub areas : (k : KeptArea) → Among (kept_next w p) k → FitsBlock k
  pub apart : KeptApart (kept_next w p)
  pub placed : InstancesPlaced p
  pub fits : p.root.bp < 2
  pub stands : BreakpointsStand (word_at w.words) p
  pub entries : (k : KeptArea) → Among (kept_next w p) k → EntriesStand (word_at w.words) k p
  pub agree : Agree patched w.words p.root.bp
  pub clear : (bp block function : ℕ) → bp < 2 → IsForInstances block → function < 16 → IsUnkept w block → word_at w.words (breakpoint_place bp block function) ≡ 0

pub next_indices : (patched : Option CodeRef) (w : WriterView) (p : Published) → NextStands patched w p → AreIndices patched (with_next p w)
next_indices patched w p h = record {
  all = h.all;
  areas = h.areas;
  alone = have_blocks (kept_next w p) h.apart;
  placed = subst InstancesPlaced (sym is) h.placed;
  fits = subst (λ (q : Published). q.root.bp < 2) (sym is) h.fits;
  stands = subst (BreakpointsStand (word_at w.words)) (sym is) h.stands;
  entries = subst (λ (q : Published). (k : KeptArea) → Among (kept_next w p) k → EntriesStand (word_at w.words) k q) (sym is) h.entries;
  agree = subst (λ (q : Published). Agree patched w.words q.root.bp) (sym is) h.agree;
  clear = λ bp block function fits for few none. h.clear bp block function fits for few (λ k among. none k (kept_before w p k among));
}
  where
    is : newest_of (with_next p w) ≡ p
    is = newest_is w p

-- no thread reads the index behind that of the next generation, where none reads it now
pub next_unread : (w : WriterView) (p : Published) → ((g : ℕ) (q : Published) → MayBeRead w g → slice_get w.published g ≡ Some q → q.root.bp ≡ (p.root.bp + 1) % 2 → ⊥) → IsStagingUnread (with_next p w)
next_unread w p free g q may at same =
    each_of w.published p (λ g q. MayBeRead w g → q.root.bp ≡ (p.root.bp + 1) % 2 → ⊥) (λ may same. behind_differs p.root.bp same) (λ g q at may. free g q may at) g q at may
    (same ∙ ap (λ (q : Published). (q.root.bp + 1) % 2) (newest_is w p))
