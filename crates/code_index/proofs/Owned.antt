-- The code indices stay those of their writer: over stores of words, stores of the root, loads of the counter and notes.
use Rattle.std.proofs.Common.{◌≡◌, ℕ, ◌+◌, ◌%◌, ◌<◌, ◌≤◌, inl, inr, ⊎_elim, List, [], ◌∷◌, ◌++◌, length, length-set, refl, sym, ap, subst, ◌∙◌, arith}
use Rattle.std.specs.Prelude.{Some, slice_get, slice_set}
use Rattle.prgr_core.proofs.Parts.{slice_get-push_at}
use Rattle.area_core.specs.declared.table.Published.{Published}
use Rattle.area_core.specs.declared.table.KeptArea.{KeptArea}
use Rattle.area_core.specs.Map.{kind_at, block_place, word_at}
use Rattle.area_core.specs.Blocks.{Among}
use Rattle.area_core.specs.Roots.{fresh_areas}
use Rattle.area_core.proofs.Places.{word_there}
use Rattle.area_core.proofs.RootTests.{in_either}
use Rattle.shared_words.specs.declared.view.WriterView.{WriterView}
use Rattle.shared_words.specs.Views.{newest_number, published_at}
use Rattle.shared_words.specs.Kinds.{counter_kept}
use Rattle.shared_words.specs.Notes.{with_note}
use Rattle.shared_words.specs.Rule.{MayBeRead}
use Rattle.shared_words.specs.Publishing.{kept_next, with_next, with_word}
use Rattle.shared_words.proofs.ShownMembers.{still_at}
use Rattle.shared_words.proofs.RootStores.{newest_next, at_next}
use Rattle.shared_words.proofs.WordStores.{kept_was}
use Rattle.progress_words.specs.Needs.{HasLoadedCounter}
use Rattle.progress_words.specs.Roots.{newest_of}
use Rattle.code_index.specs.declared.index.Staging.{Staging}
use Rattle.code_index.specs.declared.index.Staging.TheVariants.{Nothing, Staged, Committing}
use Rattle.code_index.specs.Exports.{LeadTo}
use Rattle.code_index.specs.Staging.{active_index, staging_index, block_of, GoesWith, IsIndexOf}
use Rattle.code_index.specs.Laws.{HasStoredElsewhere, IsElsewhere, KeepsIndex}
use Rattle.code_index.proofs.Indices.{behind_fits, behind_differs}
use Rattle.code_index.proofs.Words.{leads_kept, stages_kept}

-- ---- a store of a word

goes_stored : (x : Staging) (w : WriterView) (word value : ℕ) → GoesWith x w → GoesWith x (with_word word value w)
goes_stored Nothing w word value goes = goes
goes_stored (Staged block) w word value goes = goes
goes_stored (Committing block need) w word value goes = goes

-- a store that is none of the active index
pub owned_stored : (x : Staging) (w : WriterView) (word value : ℕ) → ((entry : ℕ) → entry < 1024 → block_place (active_index w) entry ≡ word → ⊥) → IsIndexOf x w → IsIndexOf x (with_word word value w)
owned_stored x w word value off own = record {
  all = length-set w.words word value ∙ own.all;
  areas = λ k among. own.areas k (kept_was w value (kind_at word) k among);
  fits = own.fits;
  active = leads_kept w.words (slice_set w.words word value) (active_index w) (newest_of w) (λ entry few. word_there w.words word value (block_place (active_index w) entry) (off entry few)) own.active;
  free = own.free;
  staged = goes_stored x w word value own.staged;
}

pub goes_fits : (x : Staging) (w : WriterView) → GoesWith x w → block_of x < 3
goes_fits Nothing w goes = omega (arith)
goes_fits (Staged block) w goes = let fits = behind_fits (active_index w) in let is : block ≡ staging_index w = goes in omega (arith, fits, is)
goes_fits (Committing block need) w goes = let fits = behind_fits (active_index w) in let is : block ≡ staging_index w = goes.0 in omega (arith, fits, is)

-- a store elsewhere
pub stored_elsewhere : (x : Staging) (w : WriterView) (word value : ℕ) → IsElsewhere word → IsIndexOf x w → KeepsIndex x w (with_word word value w)
stored_elsewhere x w word value off own = record {
  owned = λ own. owned_stored x w word value (λ entry few same. off (active_index w) entry own.fits few (sym same)) own;
  staged = λ p staged. stages_kept x w (with_word word value w) p
      (λ entry few. word_there w.words word value (block_place (block_of x) entry) (λ same. off (block_of x) entry (goes_fits x w own.staged) few (sym same))) staged;
}

-- ---- stores of many words

module _ (v : WriterView) (words : List ℕ) (long : length words ≡ length v.words) (others : (block entry : ℕ) → block < 3 → entry < 1024 → word_at words (block_place block entry) ≡ word_at v.words (block_place block entry)) where
  abbrev written : WriterView
  written = record v { words = words }

  goes_written : (x : Staging) → GoesWith x v → GoesWith x written
  goes_written Nothing goes = goes
  goes_written (Staged block) goes = goes
  goes_written (Committing block need) goes = goes

  owned_written : (x : Staging) → IsIndexOf x v → IsIndexOf x written
  owned_written x own = record {
    all = long ∙ own.all;
    areas = own.areas;
    fits = own.fits;
    active = leads_kept v.words words (active_index v) (newest_of v) (λ entry few. others (active_index v) entry own.fits few) own.active;
    free = own.free;
    staged = goes_written x own.staged;
  }

  keeps_written : (x : Staging) → IsIndexOf x v → KeepsIndex x v written
  keeps_written x own = record {
    owned = owned_written x;
    staged = λ p staged. stages_kept x v written p (λ entry few. others (block_of x) entry (goes_fits x v own.staged) few) staged;
  }

-- stores elsewhere
pub written_elsewhere : (x : Staging) (old new : WriterView) → HasStoredElsewhere old new → IsIndexOf x old → KeepsIndex x old new
written_elsewhere x old new stored own = subst (KeepsIndex x old) (sym stored.same) (keeps_written old new.words stored.long stored.others x own)

-- ---- a store of the root

-- something holds of each generation, and of the next one
each_of : (published : List Published) (p : Published) (Holds : ℕ → Published → Type 0) → Holds (length published) p → ((g : ℕ) (q : Published) → slice_get published g ≡ Some q → Holds g q) → (g : ℕ) (q : Published) → slice_get (published ++ p ∷ []) g ≡ Some q → Holds g q
each_of published p Holds new old g q at =
    ⊎_elim (λ (before : slice_get published g ≡ Some q). old g q before)
    (λ (last : (g ≡ length published) × (q ≡ p)). subst (λ (z : ℕ × Published). Holds z.0 z.1) (λ i. (sym last.0 i, sym last.1 i)) new)
    (slice_get-push_at published p g q at)

pub newest_is : (published : List Published) (p : Published) → published_at (published ++ p ∷ []) (newest_number (published ++ p ∷ [])) ≡ p
newest_is published p = ap (published_at (published ++ p ∷ [])) (newest_next published p) ∙ at_next published p

pub kept_high : (w : WriterView) (p : Published) → ((k : KeptArea) → Among w.kept k → 9 ≤ k.area.block) → ((k : KeptArea) → Among (fresh_areas w.kept p) k → 9 ≤ k.area.block) → (k : KeptArea) → Among (kept_next w p) k → 9 ≤ k.area.block
kept_high w p old new k among =
    elim (in_either w.kept (fresh_areas w.kept p) among.0 k among.1) as (λ _. 9 ≤ k.area.block) [
      | inl was ↦ old k (among.0, was)
      | inr fresh ↦ new k (fresh.0, fresh.2)
    ]

-- what a writer publishes is called by an index that leads each name to what it exports, and none that may be read by the
-- index behind that one
pub owned_next : (w : WriterView) (p : Published) → length w.words ≡ 83413 → p.root.code < 3 → LeadTo w.words p.root.code p → ((k : KeptArea) → Among (kept_next w p) k → 9 ≤ k.area.block) → ((g : ℕ) (q : Published) → MayBeRead w g → slice_get w.published g ≡ Some q → q.root.code ≡ (p.root.code + 1) % 3 → ⊥) → IsIndexOf Nothing (with_next p w)
owned_next w p all fits leads areas free = record {
  all = all;
  areas = areas;
  fits = subst (λ (q : Published). q.root.code < 3) (sym is) fits;
  active = subst (λ (q : Published). LeadTo w.words q.root.code q) (sym is) leads;
  free = λ g q may at same. each_of w.published p (λ g q. MayBeRead w g → q.root.code ≡ (p.root.code + 1) % 3 → ⊥) (λ may same. behind_differs p.root.code (sym same)) (λ g q at may. free g q may at) g q at may
      (same ∙ ap (λ (q : Published). (q.root.code + 1) % 3) is);
  staged = tt;
}
  where
    is : newest_of (with_next p w) ≡ p
    is = newest_is w.published p

pub owned_same : (w : WriterView) (p : Published) → p.root.code ≡ active_index w → LeadTo w.words p.root.code p → ((k : KeptArea) → Among (fresh_areas w.kept p) k → 9 ≤ k.area.block) → IsIndexOf Nothing w → IsIndexOf Nothing (with_next p w)
owned_same w p same leads high own =
    owned_next w p own.all (let fits = own.fits in omega (arith, fits, same)) leads (kept_high w p own.areas high)
    (λ g q may at is. own.free g q may at (is ∙ ap (λ (n : ℕ). (n + 1) % 3) same))

-- ---- a load of the counter, and a note

fewer_read : (w : WriterView) (counter : ℕ) → w.counter ≤ counter → (g : ℕ) → MayBeRead (counter_kept counter w) g → MayBeRead w g
fewer_read w counter rises g may pair among need =
    may pair (among.0, still_at w.pairs _ among.0 pair among.1) (omega (arith, rises, need))

goes_counted : (x : Staging) (w : WriterView) (counter : ℕ) → GoesWith x w → GoesWith x (counter_kept counter w)
goes_counted Nothing w counter goes = goes
goes_counted (Staged block) w counter goes = goes
goes_counted (Committing block need) w counter goes = (goes.0, (goes.1.0, still_at w.pairs _ goes.1.0 _ goes.1.1))

kept_counted : (x : Staging) (w : WriterView) (counter : ℕ) → w.counter ≤ counter → KeepsIndex x w (counter_kept counter w)
kept_counted x w counter rises = record {
  owned = λ own. record {
    all = own.all;
    areas = own.areas;
    fits = own.fits;
    active = own.active;
    free = λ g p may at. own.free g p (fewer_read w counter rises g may) at;
    staged = goes_counted x w counter own.staged;
  };
  staged = λ p staged. stages_kept x w (counter_kept counter w) p (λ entry few. refl) staged;
}

pub counted : (x : Staging) (old new : WriterView) → HasLoadedCounter old new → KeepsIndex x old new
counted x old new loaded = subst (KeepsIndex x old) (sym loaded.view) (kept_counted x old loaded.counter loaded.rising)

goes_noted : (x : Staging) (w : WriterView) (process : ℕ) → GoesWith x w → GoesWith x (with_note process w)
goes_noted Nothing w process goes = goes
goes_noted (Staged block) w process goes = goes
goes_noted (Committing block need) w process goes = goes

pub noted : (x : Staging) (w : WriterView) (process : ℕ) → KeepsIndex x w (with_note process w)
noted x w process = record {
  owned = λ own. record {
    all = own.all;
    areas = own.areas;
    fits = own.fits;
    active = own.active;
    free = own.free;
    staged = goes_noted x w process own.staged;
  };
  staged = λ p staged. stages_kept x w (with_note process w) p (λ entry few. refl) staged;
}
