-- The former area is retired after the key is staged, and what is staged stays.
use Rattle.std.proofs.Common.{◌≡◌, inr, ℕ, ◌<◌, ◌≤◌, List, Option, Some, None, refl, sym, ap, subst, ◌∙◌, arith}
use Rattle.term_core.specs.declared.area.AreaRef.{AreaRef}
use Rattle.term_core.specs.declared.atom.Mfa.{Mfa}
use Rattle.area_core.specs.declared.table.Published.{Published}
use Rattle.area_core.specs.Map.{term_place}
use Rattle.area_core.specs.Terms.{TermsStand}
use Rattle.atomic_table.specs.Seated.{TableId}
use Rattle.shared_words.specs.declared.opening.Opening.{Opening}
use Rattle.shared_words.specs.declared.view.WriterView.{WriterView}
use Rattle.progress_words.specs.Tokens.{written_by}
use Rattle.progress_words.proofs.Rooted.{some_published}
use Rattle.server_core.specs.declared.change.Change.{Change}
use Rattle.server_core.specs.ServerState.{IsSound, ServerState, key_area}
use Rattle.literal_areas.specs.declared.areas.Areas.{Areas}
use Rattle.literal_areas.specs.declared.blocks.BlockUse.TheVariants.{Live}
use Rattle.literal_areas.specs.Blocks.{use_of}
use Rattle.literal_areas.proofs.Serials.{serial_here}
use Rattle.term_table.specs.Built.{held_in}
use Rattle.term_table.specs.Tables.{GoesWith, StagedFor, Stages, Terms, staging_table, words_in}
use Rattle.staging.specs.declared.tables.Tables.{Tables}
use Rattle.staging.specs.Replaced.{FormerRetired, HaveKeyed, HaveReplaced, IsLiveThere, former_of}
use Rattle.staging.specs.Stages.{IsKeyChange}
use Rattle.staging.specs.Upcoming.{areas_in}
use Rattle.staging.specs.Whose.{AreTablesOf}
use Rattle.staging.proofs.KeyPublished.{former_high}
use Rattle.staging.proofs.KeyWords.{RetiresWords, former_listed, retires_words}
use Rattle.staging.proofs.SetNames.{table_place}
use Rattle.staging.proofs.Taken.{live_stays}

-- ---- the words of a table

table_words : (old new : Areas) (before after : WriterView) (table : ℕ) → table < 4 → RetiresWords old new before after → words_in after.words table ≡ words_in before.words table
table_words old new before after table fits words = λ i. λ at. same at i
  where
    same : (at : ℕ) → words_in after.words table at ≡ words_in before.words table at
    same at = words.others (term_place table at) (λ block few is. let there = table_place table at fits in omega (arith, few, is, there))

staged_alike : (o : Option ℕ) (p : Published) (before after : WriterView) → ((table : ℕ) → o ≡ Some table → words_in after.words table ≡ words_in before.words table) → StagedFor o p before → StagedFor o p after
staged_alike None p before after same staged = staged
staged_alike (Some table) p before after same staged = subst (λ (block : ℕ → ℕ). TermsStand block p) (sym (same table refl)) staged

goes_low : (o : Option ℕ) (w : WriterView) (table : ℕ) → GoesWith o w → o ≡ Some table → table < 4
goes_low None w table goes is = absurd (cc)
goes_low (Some n) w table goes is = let here : n ≡ table = cc in let staging = goes.0 in omega (arith, here, staging)

module _ (table : TableId) (opening : Opening) (names : List Mfa) (s : ServerState) (change : Change) (old : Tables) (taken : List AreaRef) (sound : IsSound s) (key : IsKeyChange change) (own : AreTablesOf table opening old) (had : HaveKeyed names s change old taken) where
  abbrev before : WriterView
  before = written_by old.writer

  -- what the key holds is live in a block, and was published
  pub former_lives : (n : ℕ) → former_of s change ≡ key_area s n → (serial : ℕ) → key_area s n ≡ Some serial → IsLiveThere serial old.pools before
  former_lives n same serial is =
      let found = had.stands.blocks.used serial (inr (inr (n, is))) in
      let area : AreaRef = record { serial = serial; block = found.0 } in
      let kept = had.stands.images.areas area (serial_here had.rest found.0 (Live serial) found.1) in
      record {
        area = area;
        serial_is = refl;
        live = ap (λ (x : Areas). use_of x found.0) had.placed.pools_are ∙ live_stays taken had.rest found.0 serial had.placed.taken_are found.1;
        published = (record { area = area; words = kept.0 }, kept.1, refl);
      }

  module _ (new : Tables) (terms : new.terms ≡ old.terms) (patch : new.patch ≡ old.patch) (former : FormerRetired (former_of s change) old.pools before new.pools (written_by new.writer)) where
    high : (block serial : ℕ) → former_of s change ≡ Some serial → use_of old.pools block ≡ Some (Live serial) → 64 ≤ block
    high = former_high names s change had.rest old.pools before taken sound key had.stands had.placed own.pools.sound

    words : RetiresWords old.pools new.pools before (written_by new.writer)
    words = retires_words (former_of s change) old.pools new.pools before (written_by new.writer) own.pools.sound.sizes own.pools.all (some_published table opening old.writer own.token) former

    areas_same : areas_in new.pools ≡ areas_in old.pools
    areas_same = former_listed (former_of s change) old.pools new.pools before (written_by new.writer) high former

    staging_same : staging_table (written_by new.writer) ≡ staging_table before
    staging_same = ap staging_table words.same

    staged_still : (p : Published) → Stages old.terms p before → Stages new.terms p (written_by new.writer)
    staged_still p staged =
        subst (λ (t : Terms). Stages t p (written_by new.writer)) (sym terms)
        (staged_alike old.terms.staged p before (written_by new.writer) (λ n is. table_words old.pools new.pools before (written_by new.writer) n (goes_low old.terms.staged before n own.terms.staged is) words) staged)

    pub have_replaced : HaveReplaced names s change new taken
    have_replaced = record {
      rest = had.rest;
      pools = old.pools;
      view = before;
      stands = had.stands;
      placed = had.placed;
      owned = own.pools;
      whole = had.whole;
      former = former;
      keyed = λ p state areas. staged_still p (had.keyed p state (areas ∙ areas_same));
      counted = ap (λ (n : ℕ). held_in (words_in (written_by new.writer).words n) 512) staging_same ∙ ap (λ (block : ℕ → ℕ). held_in block 512) (table_words old.pools new.pools before (written_by new.writer) (staging_table before) (omega arith) words) ∙ had.counted;
      patch = patch ∙ had.patch;
    }
