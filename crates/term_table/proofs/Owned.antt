-- What is staged may be published, and the tables stay those of the writer.
use Rattle.std.proofs.Common.{◌≡◌, ℕ, zero, suc, ◌+◌, ◌%◌, ◌<◌, ◌≤◌, inl, inr, ⊎_elim, List, [], ◌∷◌, ◌++◌, length, length-set, refl, sym, ap, subst, ◌∙◌, arith}
use Rattle.std.specs.Prelude.{◌≢◌, Option, Some, None, slice_get, slice_set, slice_index}
use Rattle.std.proofs.lemmas.Bool.{cases_eq}
use Rattle.std.proofs.lemmas.Option.{slice_get_within}
use Rattle.prgr_core.specs.declared.member.Retirement.{Retirement}
use Rattle.prgr_core.proofs.Parts.{slice_get-push_at}
use Rattle.term_core.specs.declared.area.AreaRef.{AreaRef}
use Rattle.term_core.specs.declared.generation.Generation.{Generation}
use Rattle.area_core.specs.declared.table.Published.{Published}
use Rattle.area_core.specs.declared.table.KeptArea.{KeptArea}
use Rattle.area_core.specs.Blocks.{Among, RootFits}
use Rattle.area_core.specs.Roots.{fresh_areas}
use Rattle.area_core.specs.Step.{to_publish}
use Rattle.area_core.specs.Terms.{TermsStand}
use Rattle.area_core.proofs.RootTests.{in_either}
use Rattle.shared_words.specs.declared.view.WriterView.{WriterView}
use Rattle.shared_words.specs.Views.{newest_number, published_at}
use Rattle.shared_words.specs.Kinds.{counter_kept}
use Rattle.shared_words.specs.Publishing.{MayPublish, kept_next, with_next}
use Rattle.shared_words.proofs.ShownMembers.{still_at}
use Rattle.shared_words.proofs.OpeningRule.{last_get}
use Rattle.shared_words.proofs.RootStores.{newest_next, at_next}
use Rattle.area_core.specs.declared.map.TheConstants.{BUCKETS}
use Rattle.term_table.specs.Built.{IsTable, held_in}
use Rattle.term_table.specs.Tables.{Terms, active_table, staging_table, words_in, StagedFor, GoesWith, IsPast, IsTableOf}
use Rattle.progress_words.specs.declared.roots.RootParts.{RootParts}
use Rattle.progress_words.specs.Needs.{HasLoadedCounter}
use Rattle.progress_words.specs.Roots.{newest_of, IsNewestRoot}
use Rattle.term_table.specs.Published.{HasPublished, MayPublishTerms, restaged}
use Rattle.term_table.proofs.TablePlaces.{behind_fits, behind_differs}

staged_stand : (o : Option ℕ) (w : WriterView) (p : Published) → GoesWith o w → StagedFor o p w → TermsStand (words_in w.words (staging_table w)) p
staged_stand None w p goes staged = absurd staged
staged_stand (Some table) w p goes staged = subst (λ (n : ℕ). TermsStand (words_in w.words n) p) goes.0 staged

staged_table : (o : Option ℕ) (w : WriterView) (p : Published) → GoesWith o w → StagedFor o p w → IsTable (words_in w.words (staging_table w))
staged_table None w p goes staged = absurd staged
staged_table (Some table) w p goes staged = subst (λ (n : ℕ). IsTable (words_in w.words n)) goes.0 goes.1

set_here : (xs : List ℕ) (k x : ℕ) → k < length xs → slice_index (slice_set xs k x) k ≡ x
set_here [] k x few = absurd (omega (arith, few))
set_here (z ∷ zs) zero x few = refl
set_here (z ∷ zs) (suc k) x few = set_here zs k x (omega (arith, few))

set_other : (xs : List ℕ) (k j x : ℕ) → (j ≡ k → ⊥) → slice_index (slice_set xs k x) j ≡ slice_index xs j
set_other [] k j x differ = refl
set_other (z ∷ zs) zero zero x differ = absurd (differ refl)
set_other (z ∷ zs) zero (suc j) x differ = refl
set_other (z ∷ zs) (suc k) zero x differ = refl
set_other (z ∷ zs) (suc k) (suc j) x differ = set_other zs k j x (λ same. differ (ap suc same))

module _ (Served : Published → Type 0) (t : Terms) (w : WriterView) (state : Generation) (areas : List AreaRef) (may : MayPublishTerms Served t w (restaged w state areas)) (own : IsTableOf t w) (fits : RootFits (newest_of w).root) where
  abbrev p : Published
  p = restaged w state areas

  -- what is staged may be published
  pub may_publish : MayPublish Served w p
  may_publish = record {
    served = may.served;
    old_stays = may.old_stays;
    retired_stays = may.retired_stays;
    areas_go_on = may.areas_go_on;
    stands = record {
      root = record { code = fits.code; bp = fits.bp; term = behind_fits (active_table w) };
      placed = may.placed;
      code = may.code;
      breakpoints = may.breakpoints;
      terms = staged_stand t.staged w p own.staged may.terms;
      used = may.used;
      areas = may.areas;
    };
    fresh = may.fresh;
  }

  module _ (counter : ℕ) where
    abbrev after : WriterView
    after = counter_kept counter (with_next p w)

    newest_is : newest_of after ≡ p
    newest_is = ap (published_at (w.published ++ p ∷ [])) (newest_next w.published p) ∙ at_next w.published p

    high : (k : KeptArea) → Among (kept_next w p) k → 9 ≤ k.area.block
    high k among =
        elim (in_either w.kept (fresh_areas w.kept p) among.0 k among.1) as (λ _. 9 ≤ k.area.block) [
          | inl was ↦ own.areas k (among.0, was)
          | inr fresh ↦ (may.fresh.fit k (fresh.0, fresh.2)).first
        ]

    abbrev last : Retirement
    last = record { generation = newest_number (w.published ++ p ∷ []); need = counter + 2 }

    -- the table that was active is free once the value is reached
    active_past : (table : ℕ) → table ≡ active_table w → IsPast after table (counter + 2)
    active_past table is = record {
      generation = newest_number (w.published ++ p ∷ []);
      taken = (length w.pairs, last_get w.pairs last);
      before = λ g q at has. ⊎_elim
          (λ (old : slice_get w.published g ≡ Some q). let within = slice_get_within w.published g q old in let next = newest_next w.published p in omega (arith, within, next))
          (λ (new : (g ≡ length w.published) × (q ≡ p)). absurd (behind_differs (active_table w) own.fits (ap (λ (r : Published). r.root.term) (sym new.1) ∙ has ∙ is)))
          (slice_get-push_at w.published p g q at);
    }

    -- so is each other one as before
    other_past : (table g need : ℕ) (q : Published) → table ≢ staging_table w → IsPast w table need → IsPast after table need
    other_past table g need q differ is = record {
      generation = is.generation;
      taken = (is.taken.0, still_at w.pairs _ is.taken.0 _ is.taken.1);
      before = λ h r at has. ⊎_elim
          (λ (old : slice_get w.published h ≡ Some r). is.before h r old has)
          (λ (new : (h ≡ length w.published) × (r ≡ p)). absurd (differ (sym has ∙ ap (λ (x : Published). x.root.term) new.1)))
          (slice_get-push_at w.published p h r at);
    }

    abbrev needs : List ℕ
    needs = slice_set t.needs (active_table w) (counter + 2)

    past : (table g : ℕ) (q : Published) → table < 4 → table ≢ staging_table w → slice_get (w.published ++ p ∷ []) g ≡ Some q → q.root.term ≡ table → IsPast after table (slice_index needs table)
    past table g q few differ at has =
        elim (cases_eq table (active_table w)) as (λ _. IsPast after table (slice_index needs table)) [
          | inl same ↦ (
              let long = own.long in
              let inside = own.fits in
              subst (IsPast after table) (sym (ap (slice_index needs) same ∙ set_here t.needs (active_table w) (counter + 2) (omega (arith, long, inside)))) (active_past table same))
          | inr other ↦
              ⊎_elim (λ (old : slice_get w.published g ≡ Some q). subst (IsPast after table) (sym (set_other t.needs (active_table w) table (counter + 2) other))
              (other_past table g (slice_index t.needs table) q differ (own.past table g q few other old has)))
              (λ (new : (g ≡ length w.published) × (q ≡ p)). absurd (differ (sym has ∙ ap (λ (x : Published). x.root.term) new.1)))
              (slice_get-push_at w.published p g q at)
        ]

    -- the tables stay those of the writer
    pub owned_next : IsTableOf (record { staged = None; needs = needs }) after
    owned_next = record {
      all = own.all;
      long = length-set t.needs (active_table w) (counter + 2) ∙ own.long;
      areas = high;
      fits = subst (λ (q : Published). q.root.term < 4) (sym newest_is) (behind_fits (active_table w));
      table = subst (λ (q : Published). IsTable (words_in w.words q.root.term)) (sym newest_is) (staged_table t.staged w p own.staged may.terms);
      active = subst (λ (q : Published). TermsStand (words_in w.words q.root.term) q) (sym newest_is) (staged_stand t.staged w p own.staged may.terms);
      counted = subst (λ (q : Published). held_in (words_in w.words q.root.term) BUCKETS ≡ length q.state.keys) (sym newest_is) may.counted;
      past = λ table g q few differ at has. past table g q few (λ same. differ (same ∙ ap (λ (r : Published). r.root.term) (sym newest_is))) at has;
      staged = tt;
    }

-- ---- the call

module _ (Served : Published → Type 0) (t : Terms) (w : WriterView) (state : Generation) (areas : List AreaRef) (may : MayPublishTerms Served t w (restaged w state areas)) (own : IsTableOf t w) (now : WriterView) (same : now ≡ w) (parts : RootParts) (root : IsNewestRoot w parts) where
  next_is : to_publish parts.code parts.bp ((parts.term + 1) % 4) state areas ≡ restaged w state areas
  next_is i = to_publish (root.code i) (root.bp i) ((root.term i + 1) % 4) state areas

  pub may_publish_now : MayPublish Served now (to_publish parts.code parts.bp ((parts.term + 1) % 4) state areas)
  may_publish_now = subst (λ (z : WriterView × Published). MayPublish Served z.0 z.1) (λ i. (sym same i, sym next_is i)) (may_publish Served t w state areas may own root.fits)

  pub owned_now : (needs : List ℕ) (value counter : ℕ) (first last : WriterView) → needs ≡ t.needs → first ≡ with_next (to_publish parts.code parts.bp ((parts.term + 1) % 4) state areas) now → last ≡ counter_kept counter first → value ≡ last.counter + 2 → IsTableOf (record { staged = None; needs = slice_set needs parts.term value }) last
  owned_now needs value counter first last kept published loaded ahead =
      let value_is : value ≡ counter + 2 = ahead ∙ ap (λ (v : WriterView). v.counter + 2) loaded in
      let last_is : last ≡ counter_kept counter (with_next (restaged w state areas) w) = loaded ∙ ap (counter_kept counter) (published ∙ (λ i. with_next (next_is i) (same i))) in
      subst (λ (z : List ℕ × WriterView). IsTableOf (record { staged = None; needs = z.0 }) z.1) (λ i. (sym (needs_is value_is) i, sym last_is i)) (owned_next Served t w state areas may own root.fits counter)
    where
      needs_is : value ≡ counter + 2 → slice_set needs parts.term value ≡ slice_set t.needs (active_table w) (counter + 2)
      needs_is is i = slice_set (kept i) (root.term i) (is i)

  -- and what is published is told
  pub published_now : (needs : List ℕ) (value : ℕ) (first last : WriterView) → needs ≡ t.needs → first ≡ with_next (to_publish parts.code parts.bp ((parts.term + 1) % 4) state areas) now → HasLoadedCounter first last → value ≡ last.counter + 2
      → HasPublished t (record { staged = None; needs = slice_set needs parts.term value }) (restaged w state areas) w last (parts.generation + 1)
  published_now needs value first last kept published loaded ahead = record {
    counter = loaded.counter;
    range = loaded.range;
    rising = (let from = ap (λ (v : WriterView). v.counter) (published ∙ (λ i. with_next (next_is i) (same i))) in let rises = loaded.rising in omega (arith, from, rises));
    view = loaded.view ∙ ap (counter_kept loaded.counter) (published ∙ (λ i. with_next (next_is i) (same i)));
    tables = λ i. record { staged = None; needs = slice_set (kept i) (root.term i) (value_is i) };
    number = sym root.number;
  }
    where
      value_is : value ≡ loaded.counter + 2
      value_is = ahead ∙ ap (λ (v : WriterView). v.counter + 2) loaded.view
