-- The exports of a load or a delete are committed: the store of the root is allowed, and what it and the wait leave.
use Rattle.std.proofs.Common.{◌≡◌, ℕ, ◌≤◌, List, [], ◌∷◌, ◌++◌, length, None, refl, sym, ap, subst, ◌∙◌, arith}
use Rattle.atomic_table.specs.Seated.{TableId}
use Rattle.term_core.specs.declared.area.AreaRef.{AreaRef}
use Rattle.term_core.specs.declared.atom.Mfa.{Mfa}
use Rattle.area_core.specs.declared.table.Published.{Published}
use Rattle.area_core.specs.Blocks.{Among}
use Rattle.area_core.specs.Terms.{TermsStand}
use Rattle.shared_words.specs.declared.opening.Opening.{Opening}
use Rattle.shared_words.specs.declared.view.WriterView.{WriterView}
use Rattle.shared_words.specs.Kinds.{counter_kept}
use Rattle.progress_words.specs.declared.answers.NotYet.{NotYet}
use Rattle.progress_words.specs.Needs.{HasLoadedCounter}
use Rattle.progress_words.specs.Roots.{newest_of}
use Rattle.progress_words.specs.Tokens.{written_by}
use Rattle.server_core.specs.declared.change.Change.{Change}
use Rattle.server_core.specs.Decided.{Fits}
use Rattle.server_core.specs.Generations.{AreNumbered, generation_of}
use Rattle.server_core.specs.ServerState.{IsSound, ServerState}
use Rattle.breakpoints.specs.Indices.{BreakpointsRest}
use Rattle.breakpoints.specs.Laws.{TracesStand}
use Rattle.code_law.specs.Served.{IsServed}
use Rattle.change_laws.specs.Changes.{incoming, changed_state}
use Rattle.change_laws.specs.Uses.{IsUsed}
use Rattle.code_index.specs.declared.index.Staging.{Staging}
use Rattle.code_index.specs.declared.index.Staging.TheVariants as indices
use Rattle.code_index.specs.Committed.{HasCommitted, IsWaiting, MayCommit, TakesNeed, committed}
use Rattle.code_index.specs.Exports.{LeadTo}
use Rattle.code_index.specs.Staging as staged
use Rattle.code_index.specs.Staging.{block_of}
use Rattle.literal_areas.specs.declared.areas.Areas.{Areas}
use Rattle.literal_areas.specs.Owned.{AreOf}
use Rattle.literal_areas.proofs.Listed.{kept_counted, owned_next}
use Rattle.term_table.specs.Laws.{KeepsKeys, KeptByRoots}
use Rattle.term_table.specs.Tables.{IsTableOf, Terms, words_in}
use Rattle.staging.specs.declared.tables.Tables.{Tables}
use Rattle.staging.specs.Placed.{ArePlaced}
use Rattle.staging.specs.Standing.{StandFor}
use Rattle.staging.specs.Stages.{HasPublished, HaveExported, IsCodeChange, IsLateFor}
use Rattle.staging.specs.Upcoming.{IsUpcoming, areas_in}
use Rattle.staging.specs.Whose.{AreTablesOf}
use Rattle.staging.proofs.CodeAfter.{code_after}
use Rattle.staging.proofs.CodeBlocks.{IsPlacedWhole, still_stands}
use Rattle.staging.proofs.CodeComes.{code_alike, code_comes_next}
use Rattle.staging.proofs.Coming.{ComesNext, TracesAlike}
use Rattle.staging.proofs.Counted.{comes_counted, placed_counted, stands_counted, tables_counted}
use Rattle.staging.proofs.Lateness.{late_code}
use Rattle.staging.proofs.NextAreas.{apart_next, go_on, next_listed, used_kept}
use Rattle.staging.proofs.NextStands.{is_listed, stands_next}
use Rattle.staging.proofs.NextStays.{old_stays_next, retired_stays_next, served_next}
use Rattle.staging.proofs.NextTraces.{traces_next}
use Rattle.staging.proofs.NextWords.{areas_next, fresh_fits, fresh_images, fresh_told, instances_next}
use Rattle.staging.proofs.Patched.{rest_counted, rest_of}
use Rattle.staging.proofs.SameKeys.{keys_stay, terms_stay}

-- ---- the wait

-- what loads of the counter keep is kept by the wait
pub by_waits : (P : WriterView → Type 0) → ((v : WriterView) (counter : ℕ) → v.counter ≤ counter → P v → P (counter_kept counter v)) → (x : Staging) (old begun waited : WriterView) (need : ℕ) → TakesNeed x old begun need → HasLoadedCounter begun waited → P old → P waited
by_waits P step x old begun waited need took loaded was =
    subst P (sym loaded.view) (step begun loaded.counter loaded.rising (begins x took))
  where
    begins : (x : Staging) → TakesNeed x old begun need → P begun
    begins indices.Nothing took = absurd took
    begins (indices.Staged block) took = subst P (sym took.view) (step old took.counter took.rising was)
    begins (indices.Committing block kept) took = subst P (sym took.0) was

-- ---- what holds before the store of the root

-- the state may be published over these tables, by this generation
pub record IsNextOver (names : List Mfa) (after : ServerState) (pools : Areas) (terms : Terms) (p : Published) (first : List Published) (v : WriterView) : Type 0 where
  pub comes : ComesNext names after pools v
  pub alike : TracesAlike after v
  pub rest : BreakpointsRest v
  pub tables : IsTableOf terms v
  pub unstaged : terms.staged ≡ None
  pub bp : p.root.bp ≡ (newest_of v).root.bp
  pub keys : KeepsKeys v p
  pub published : v.published ≡ first

pub over_counted : (names : List Mfa) (after : ServerState) (pools : Areas) (terms : Terms) (p : Published) (first : List Published) (v : WriterView) (counter : ℕ) → v.counter ≤ counter → IsNextOver names after pools terms p first v → IsNextOver names after pools terms p first (counter_kept counter v)
over_counted names after pools terms p first v counter rises was = record {
  comes = comes_counted _ counter v names after pools (kept_counted pools v counter rises was.comes.owned) was.comes;
  alike = record { fewer = was.alike.fewer; same = was.alike.same };
  rest = rest_counted v counter rises was.rest;
  tables = tables_counted terms v counter was.unstaged was.tables;
  unstaged = was.unstaged;
  bp = was.bp;
  keys = record { table = was.keys.table; stands = was.keys.stands; counted = was.keys.counted };
  published = was.published;
}

module _ (names : List Mfa) (s : ServerState) (change : Change) (table : TableId) (opening : Opening) (t : Tables) (taken : List AreaRef) (own : AreTablesOf table opening t) (sound : IsSound s) (fits : Fits s change) (had : HaveExported names s change t taken) (numbered : AreNumbered names (changed_state s change)) where
  code : IsCodeChange change
  code = had.code

  abbrev w : WriterView
  w = written_by t.writer

  abbrev after : ServerState
  after = changed_state s change

  abbrev p : Published
  p = committed w (generation_of names after) (areas_in t.pools)

  up : IsUpcoming names after t.pools p
  up = record { state = refl; areas = refl }

  whole : IsPlacedWhole names s change w had.placed.rest t.pools taken
  whole = record {
    sound = sound;
    fits = fits;
    code = code;
    stands = had.placed.stands;
    placed = had.placed.placed;
    whole = had.whole;
    owned = own.pools;
    numbered = numbered;
  }

  next : ComesNext names after t.pools w
  next = code_comes_next names s change w had.placed.rest t.pools taken whole

  -- ---- the keys stay

  listed : (a : AreaRef) → Among (newest_of w).areas a → IsUsed s a.serial → Among p.areas a
  listed a among used = next_listed names after t.pools w p next up a (still_stands names s change w had.placed.rest t.pools taken whole a (had.placed.stands.listed a among used))

  keys_same : p.state.keys ≡ (newest_of w).state.keys
  keys_same = keys_stay names s after w p had.placed.stands.newest_is had.placed.stands.keys_once refl (code_after s change fits code).keys listed

  terms_next : TermsStand (words_in w.words p.root.term) p
  terms_next = terms_stay names s after w p had.placed.stands.newest_is had.placed.stands.keys_once refl (code_after s change fits code).keys listed (words_in w.words p.root.term) own.terms.active

  alike : TracesAlike after w
  alike = code_alike names s change w had.placed.rest t.pools taken whole

  rest : BreakpointsRest w
  rest = rest_of t.patch w had.placed.patch own.patch

  traces : TracesStand w p
  traces = traces_next names after t.pools w p next up alike rest refl

  over : IsNextOver names after t.pools t.terms p w.published w
  over = record {
    comes = next;
    alike = alike;
    rest = rest;
    tables = own.terms;
    unstaged = had.placed.terms;
    bp = refl;
    keys = record { table = refl; stands = terms_next; counted = own.terms.counted ∙ ap length (sym keys_same) };
    published = refl;
  }

  may : MayCommit (IsServed names) t.index w p
  may = record {
    exports = had.exported p up;
    served = served_next names after t.pools w p next up;
    old_stays = old_stays_next names after t.pools w p next up;
    retired_stays = retired_stays_next names after t.pools w p next up;
    areas_go_on = go_on names after t.pools w p next up;
    placed = instances_next names after t.pools w p next up;
    breakpoints = traces.stands;
    terms = terms_next;
    used = used_kept names after t.pools w p next up;
    areas = areas_next names after t.pools w p next up traces.entries;
    fit = fresh_fits names after t.pools w p next up;
    images = fresh_images names after t.pools w p next up;
    fresh = fresh_told names after t.pools w p next up;
    apart = apart_next names after t.pools w p next up;
  }

  -- the store of the root is allowed
  pub may_commit : (exports : List Mfa) → exports ≡ names → MayCommit (IsServed names) t.index w (committed w (generation_of exports after) (areas_in t.pools))
  may_commit exports same = subst (λ (ns : List Mfa). MayCommit (IsServed names) t.index w (committed w (generation_of ns after) (areas_in t.pools))) (sym same) may

  -- ---- it is stored

  over_waited : (x : Staging) (begun waited : WriterView) (need : ℕ) → TakesNeed x w begun need → HasLoadedCounter begun waited → IsNextOver names after t.pools t.terms p w.published waited
  over_waited x begun waited need took loaded = by_waits (IsNextOver names after t.pools t.terms p w.published) (λ v counter rises was. over_counted names after t.pools t.terms p w.published v counter rises was) x w begun waited need took loaded over

  -- the tables are the writer's still, and the words stand for the new state
  pub record AreCommitted (new : Tables) (generation : ℕ) : Type 0 where
    pub terms : IsTableOf t.terms (written_by new.writer)
    pub pools : AreOf t.pools (written_by new.writer)
    pub patch : BreakpointsRest (written_by new.writer)
    pub published : HasPublished names after t new generation

  pub are_committed : (new : Tables) (generation : ℕ) → KeptByRoots → new.terms ≡ t.terms → new.pools ≡ t.pools → new.patch ≡ t.patch → HasCommitted t.index new.index p w (written_by new.writer) generation → AreCommitted new generation
  are_committed new generation by_roots terms pools patch done =
      let over = over_waited t.index done.asked.begun done.waited done.need done.asked.waits.taken done.asked.loaded in
      let comes = over.comes in
      record {
        terms = subst (IsTableOf t.terms) (sym done.view) ((by_roots t.terms done.waited p over.keys (λ k at. (fresh_fits names after t.pools done.waited p comes up k at).first)).owned over.tables);
        pools = subst (AreOf t.pools) (sym done.view) (owned_next t.pools done.waited comes.owned p (is_listed names after t.pools done.waited p comes up));
        patch = subst BreakpointsRest (sym done.view) (traces_next names after t.pools done.waited p comes up over.alike over.rest over.bp).settled;
        published = record {
          next = p;
          shows = refl;
          published = ap (λ (v : WriterView). v.published) done.view ∙ ap (λ (ps : List Published). ps ++ p ∷ []) over.published;
          number = done.number;
          rest = record {
            stands = subst (λ (s : Areas). StandFor names after s (written_by new.writer)) (sym pools) (subst (StandFor names after t.pools) (sym done.view) (stands_next names after t.pools done.waited p comes up (let low = comes.bp in let same = over.bp in omega (arith, low, same))));
            staged = record { index = done.index; terms = ap (λ (x : Terms). x.staged) terms ∙ had.placed.terms; patch = patch ∙ had.placed.patch };
          };
        };
      }

  -- ---- it waits

  -- what the wait leaves as it was
  pub record IsHeld (v : WriterView) : Type 0 where
    pub stands : StandFor names s had.placed.rest v
    pub placed : ArePlaced (incoming change) had.placed.rest t.pools v taken
    pub tables : IsTableOf t.terms v
    pub pools : AreOf t.pools v
    pub rest : BreakpointsRest v
    pub words : v.words ≡ w.words
    pub published : v.published ≡ w.published

  held_counted : (v : WriterView) (counter : ℕ) → v.counter ≤ counter → IsHeld v → IsHeld (counter_kept counter v)
  held_counted v counter rises was = record {
    stands = stands_counted _ counter v names s had.placed.rest was.stands;
    placed = placed_counted _ counter v (incoming change) had.placed.rest t.pools taken was.placed;
    tables = tables_counted t.terms v counter had.placed.terms was.tables;
    pools = kept_counted t.pools v counter rises was.pools;
    rest = rest_counted v counter rises was.rest;
    words = was.words;
    published = was.published;
  }

  pub held_waiting : (x : Staging) (begun waited : WriterView) (need : ℕ) → TakesNeed x w begun need → HasLoadedCounter begun waited → IsHeld waited
  held_waiting x begun waited need took loaded =
      by_waits IsHeld held_counted x w begun waited need took loaded (record { stands = had.placed.stands; placed = had.placed.placed; tables = own.terms; pools = own.pools; rest = rest; words = refl; published = refl })

  -- what was staged is staged while the commit waits
  staged_still : (x y : Staging) (q : Published) (v : WriterView) (need : ℕ) → y ≡ indices.Committing (block_of x) need → v.words ≡ w.words → staged.Stages x q w → staged.Stages y q v
  staged_still x y q v need is words stages = subst (λ (z : Staging). staged.Stages z q v) (sym is) (by x stages)
    where
      by : (x : Staging) → staged.Stages x q w → staged.Stages (indices.Committing (block_of x) need) q v
      by indices.Nothing stages = absurd stages
      by (indices.Staged block) stages = subst (λ (words : List ℕ). LeadTo words block q) (sym words) stages
      by (indices.Committing block kept) stages = subst (λ (words : List ℕ). LeadTo words block q) (sym words) stages

  pub record AreWaiting (new : Tables) (answer : NotYet) : Type 0 where
    pub terms : IsTableOf t.terms (written_by new.writer)
    pub pools : AreOf t.pools (written_by new.writer)
    pub patch : BreakpointsRest (written_by new.writer)
    pub published : (written_by new.writer).published ≡ w.published
    pub stands : HaveExported names s change new taken
    pub why : IsLateFor change t new answer

  pub are_waiting : (new : Tables) (answer : NotYet) → new.terms ≡ t.terms → new.pools ≡ t.pools → new.patch ≡ t.patch → IsWaiting t.index new.index w (written_by new.writer) answer → staged.GoesWith new.index (written_by new.writer) → AreWaiting new answer
  are_waiting new answer terms pools patch waiting goes =
      let held = held_waiting t.index waiting.asked.begun (written_by new.writer) answer.need waiting.asked.waits.taken waiting.asked.loaded in
      record {
        terms = held.tables;
        pools = held.pools;
        patch = held.rest;
        published = held.published;
        stands = record {
          placed = record {
            rest = had.placed.rest;
            stands = held.stands;
            placed = subst (λ (s : Areas). ArePlaced (incoming change) had.placed.rest s (written_by new.writer) taken) (sym pools) held.placed;
            terms = ap (λ (x : Terms). x.staged) terms ∙ had.placed.terms;
            patch = patch ∙ had.placed.patch;
          };
          whole = had.whole;
          code = code;
          exported = λ q is. staged_still t.index new.index q (written_by new.writer) answer.need waiting.asked.waits.index held.words (had.exported q (record { state = is.state; areas = is.areas ∙ ap areas_in pools }));
        };
        why = late_code change t new answer code waiting goes;
      }
