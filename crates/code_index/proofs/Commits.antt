-- A commit: what its wait leaves, that what is staged may then be published, and that the indices stay those of their writer.
use Rattle.std.proofs.Common.{◌≡◌, ℕ, ◌+◌, ◌<◌, ◌≤◌, List, [], ◌∷◌, ◌++◌, length, refl, sym, ap, subst, ◌∙◌, arith}
use Rattle.std.specs.Prelude.{Some, slice_get}
use Rattle.std.proofs.lemmas.Option.{slice_get_within}
use Rattle.prgr_core.specs.declared.member.Retirement.{Retirement}
use Rattle.prgr_core.proofs.Parts.{some_same}
use Rattle.term_core.specs.declared.area.AreaRef.{AreaRef}
use Rattle.term_core.specs.declared.generation.Generation.{Generation}
use Rattle.area_core.specs.declared.table.Published.{Published}
use Rattle.area_core.specs.Map.{word_at}
use Rattle.area_core.specs.Blocks.{Among, RootFits, AreaStands}
use Rattle.area_core.specs.Step.{to_publish}
use Rattle.shared_words.specs.declared.view.WriterView.{WriterView}
use Rattle.shared_words.specs.Views.{newest_number}
use Rattle.shared_words.specs.Kinds.{counter_kept}
use Rattle.shared_words.specs.Rule.{MayBeRead}
use Rattle.shared_words.specs.Publishing.{MayPublish, with_next}
use Rattle.shared_words.proofs.ShownMembers.{still_at}
use Rattle.shared_words.proofs.OpeningRule.{last_get}
use Rattle.progress_words.specs.Needs.{HasTaken, HasLoadedCounter}
use Rattle.progress_words.specs.Roots.{newest_of, IsNewestRoot}
use Rattle.code_index.specs.declared.index.Staging.{Staging}
use Rattle.code_index.specs.declared.index.Staging.TheVariants.{Nothing, Staged, Committing}
use Rattle.progress_words.specs.declared.roots.RootParts.{RootParts}
use Rattle.code_index.specs.Exports.{LeadTo}
use Rattle.code_index.specs.Staging.{active_index, staging_index, block_of, GoesWith, Stages, IsIndexOf}
use Rattle.code_index.specs.Committed.{MayCommit, TakesNeed, HasBegun, HasAsked, committed}
use Rattle.code_index.proofs.Indices.{behind_fits, third_differs}
use Rattle.code_index.proofs.Owned.{owned_next, kept_high}
use Rattle.code_index.proofs.Copying.{newest_there}

-- ---- the wait

-- only the counter was loaded, which did not fall, and the value that is waited for was taken while the newest generation was that
pub record LoadsOn (old new : WriterView) (need : ℕ) : Type 0 where
  pub view : new ≡ record old { pairs = new.pairs; counter = new.counter }
  pub more : (pair : Retirement) → Among old.pairs pair → Among new.pairs pair
  pub rising : old.counter ≤ new.counter
  pub taken : HasTaken new (newest_number old.published) need

begun_on : (x : Staging) (old begun : WriterView) (need : ℕ) → TakesNeed x old begun need → GoesWith x old → LoadsOn old begun need
begun_on Nothing old begun need taken goes = absurd taken
begun_on (Staged block) old begun need taken goes =
    let last : Retirement = record { generation = newest_number old.published; need = taken.counter + 2 } in
    let here : LoadsOn old (counter_kept taken.counter old) (taken.counter + 2) = record {
      view = refl;
      more = λ pair among. (among.0, still_at old.pairs _ among.0 pair among.1);
      rising = taken.rising;
      taken = (length old.pairs, last_get old.pairs last);
    } in
    subst (λ (z : WriterView × ℕ). LoadsOn old z.0 z.1) (λ i. (sym taken.view i, sym taken.ahead i)) here
begun_on (Committing block kept) old begun need taken goes =
    let here : LoadsOn old old kept = record { view = refl; more = λ pair among. among; rising = omega (arith); taken = goes.1 } in
    subst (λ (z : WriterView × ℕ). LoadsOn old z.0 z.1) (λ i. (sym taken.0 i, sym taken.1 i)) here

loaded_on : (old begun new : WriterView) (need : ℕ) → LoadsOn old begun need → HasLoadedCounter begun new → LoadsOn old new need
loaded_on old begun new need h loaded =
    let counter = loaded.counter in
    let pairs = begun.pairs ++ (record { generation = newest_number begun.published; need = counter + 2 }) ∷ [] in
    let here : LoadsOn old (counter_kept counter begun) need = record {
      view = ap (λ (v : WriterView). record v { pairs = pairs; counter = counter }) h.view;
      more = λ pair among. let found = h.more pair among in (found.0, still_at begun.pairs _ found.0 pair found.1);
      rising = (let first = h.rising in let second = loaded.rising in omega (arith, first, second));
      taken = (h.taken.0, still_at begun.pairs _ h.taken.0 _ h.taken.1);
    } in
    subst (λ (v : WriterView). LoadsOn old v need) (sym loaded.view) here

-- what a commit that has asked leaves
pub asked_on : (x y : Staging) (old new : WriterView) (need : ℕ) → HasAsked x y old new need → GoesWith x old → LoadsOn old new need
asked_on x y old new need h goes = loaded_on old h.begun new need (begun_on x old h.begun need h.waits.taken goes) h.loaded

goes_block : (x : Staging) (old begun : WriterView) (need : ℕ) → TakesNeed x old begun need → GoesWith x old → block_of x ≡ staging_index old
goes_block Nothing old begun need taken goes = absurd taken
goes_block (Staged block) old begun need taken goes = goes
goes_block (Committing block kept) old begun need taken goes = goes.0

-- the block that is staged is that of the staging index
pub asked_block : (x y : Staging) (old new : WriterView) (need : ℕ) → HasAsked x y old new need → GoesWith x old → block_of x ≡ staging_index old
asked_block x y old new need h goes = goes_block x old h.begun need h.waits.taken goes

-- while the value is not reached, the indices stay those of the writer
pub owned_yet : (x y : Staging) (old new : WriterView) (need : ℕ) → HasAsked x y old new need → IsIndexOf x old → IsIndexOf y new
owned_yet x y old new need h own =
    let on = asked_on x y old new need h own.staged in
    let rises = on.rising in
    let here : IsIndexOf (Committing (block_of x) need) (record old { pairs = new.pairs; counter = new.counter }) = record {
      all = own.all;
      areas = own.areas;
      fits = own.fits;
      active = own.active;
      free = λ g p may at. own.free g p (λ pair among enough. may pair (on.more pair among) (omega (arith, enough, rises))) at;
      staged = (asked_block x y old new need h own.staged, on.taken);
    } in
    subst (λ (z : Staging × WriterView). IsIndexOf z.0 z.1) (λ i. (sym h.waits.index i, sym on.view i)) here

-- ---- what is published

stages_lead : (x : Staging) (p : Published) (w : WriterView) → Stages x p w → GoesWith x w → LeadTo w.words (staging_index w) p
stages_lead Nothing p w staged goes = absurd staged
stages_lead (Staged block) p w staged goes = subst (λ (b : ℕ). LeadTo w.words b p) goes staged
stages_lead (Committing block need) p w staged goes = subst (λ (b : ℕ). LeadTo w.words b p) goes.0 staged

module _ (Served : Published → Type 0) (x : Staging) (old : WriterView) (state : Generation) (areas : List AreaRef) (may : MayCommit Served x old (committed old state areas)) (own : IsIndexOf x old) (some : 0 < length old.published) (fits : RootFits (newest_of old).root) (new : WriterView) (need : ℕ) (on : LoadsOn old new need) (enough : need ≤ new.counter) where
  abbrev p : Published
  p = committed old state areas

  abbrev v : WriterView
  v = record old { pairs = new.pairs; counter = new.counter }

  -- behind the wait only the newest generation may be read
  number_is : (g : ℕ) (q : Published) → MayBeRead v g → slice_get old.published g ≡ Some q → g ≡ newest_number old.published
  number_is g q reads at =
      let last = reads (record { generation = newest_number old.published; need = need }) on.taken enough in
      let within = slice_get_within old.published g q at in
      omega (arith, last, within)

  newest_alone : (g : ℕ) (q : Published) → MayBeRead v g → slice_get old.published g ≡ Some q → q ≡ newest_of old
  newest_alone g q reads at = some_same q (newest_of old) (sym at ∙ ap (slice_get old.published) (number_is g q reads at) ∙ newest_there old some)

  may_publish_here : MayPublish Served v p
  may_publish_here = record {
    served = may.served;
    old_stays = may.old_stays;
    retired_stays = may.retired_stays;
    areas_go_on = record { apart = may.areas_go_on.apart; kept = may.areas_go_on.kept; new = may.areas_go_on.new };
    stands = record {
      root = record { code = behind_fits (active_index old); bp = fits.bp; term = fits.term };
      placed = may.placed;
      code = stages_lead x p old may.exports own.staged;
      breakpoints = may.breakpoints;
      terms = may.terms;
      used = may.used;
      areas = may.areas;
    };
    fresh = record {
      fit = may.fit;
      images = may.images;
      areas = λ g q reads at k among. subst (λ (z : ℕ × Published). AreaStands (word_at old.words) k z.0 z.1) (λ i. (sym (number_is g q reads at) i, sym (newest_alone g q reads at) i)) (may.fresh k among);
      apart = may.apart;
    };
  }

  -- the next generation may be published
  pub may_publish : MayPublish Served new p
  may_publish = subst (λ (w : WriterView). MayPublish Served w p) (sym on.view) may_publish_here

  owned_here : IsIndexOf Nothing (with_next p v)
  owned_here = owned_next v p own.all (behind_fits (active_index old)) (stages_lead x p old may.exports own.staged) (kept_high v p own.areas (λ k among. (may.fit k among).first))
      (λ g q reads at same. third_differs (active_index old) own.fits (ap (λ (r : Published). r.root.code) (sym (newest_alone g q reads at)) ∙ same))

  -- and then the indices are those of the writer, with nothing staged
  pub owned_committed : IsIndexOf Nothing (with_next p new)
  owned_committed = subst (λ (w : WriterView). IsIndexOf Nothing (with_next p w)) (sym on.view) owned_here

-- ---- the call

module _ (Served : Published → Type 0) (x y : Staging) (old : WriterView) (state : Generation) (areas : List AreaRef) (may : MayCommit Served x old (committed old state areas)) (own : IsIndexOf x old) (some : 0 < length old.published) (waited : WriterView) (need : ℕ) (asked : HasAsked x y old waited need) (enough : need ≤ waited.counter) (now : WriterView) (same : now ≡ waited) (parts : RootParts) (root : IsNewestRoot waited parts) (block : ℕ) (block_is : block ≡ block_of y) where
  on : LoadsOn old waited need
  on = asked_on x y old waited need asked own.staged

  newest_same : newest_of waited ≡ newest_of old
  newest_same = ap newest_of on.view

  fits : RootFits (newest_of old).root
  fits = subst (λ (q : Published). RootFits q.root) newest_same root.fits

  block_same : block ≡ staging_index old
  block_same = block_is ∙ ap block_of asked.waits.index ∙ asked_block x y old waited need asked own.staged

  bp_same : parts.bp ≡ (newest_of old).root.bp
  bp_same = root.bp ∙ ap (λ (q : Published). q.root.bp) newest_same

  term_same : parts.term ≡ (newest_of old).root.term
  term_same = root.term ∙ ap (λ (q : Published). q.root.term) newest_same

  next_is : to_publish block parts.bp parts.term state areas ≡ committed old state areas
  next_is i = to_publish (block_same i) (bp_same i) (term_same i) state areas

  pub may_publish_now : MayPublish Served now (to_publish block parts.bp parts.term state areas)
  may_publish_now = subst (λ (z : WriterView × Published). MayPublish Served z.0 z.1) (λ i. (sym same i, sym next_is i)) (may_publish Served x old state areas may own some fits waited need on enough)

  pub owned_now : (last : WriterView) → last ≡ with_next (to_publish block parts.bp parts.term state areas) now → IsIndexOf Nothing last
  owned_now last is = subst (IsIndexOf Nothing) (sym (is ∙ (λ i. with_next (next_is i) (same i)))) (owned_committed Served x old state areas may own some fits waited need on enough)

-- a commit that has begun and then loaded the counter has asked
pub asked_by : (z x y : Staging) (old begun new : WriterView) (need : ℕ) → z ≡ x → HasBegun z y old begun need → HasLoadedCounter begun new → HasAsked x y old new need
asked_by z x y old begun new need is waits loaded = record { begun = begun; waits = subst (λ (s : Staging). HasBegun s y old begun need) is waits; loaded = loaded }
