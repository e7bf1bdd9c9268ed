-- What an answer of a commit leaves, whichever it is.
use Rattle.std.proofs.Common.{◌≡◌, ℕ, List, Result, Ok, Err, IfOk, IfErr, refl, sym, subst, ◌∙◌}
use Rattle.atomic_table.specs.Seated.{TableId}
use Rattle.term_core.specs.declared.area.AreaRef.{AreaRef}
use Rattle.term_core.specs.declared.atom.Mfa.{Mfa}
use Rattle.shared_words.specs.declared.opening.Opening.{Opening}
use Rattle.shared_words.specs.declared.view.WriterView.{WriterView}
use Rattle.shared_words.specs.Kinds.{counter_kept}
use Rattle.shared_words.specs.Publishing.{with_next}
use Rattle.progress_words.specs.declared.answers.NotYet.{NotYet}
use Rattle.progress_words.specs.Needs.{HasLoadedCounter}
use Rattle.progress_words.specs.Tokens.{IsWriterOf, written_by}
use Rattle.server_core.specs.declared.change.Change.{Change}
use Rattle.server_core.specs.Decided.{Fits}
use Rattle.server_core.specs.Generations.{AreNumbered, generation_of}
use Rattle.server_core.specs.ServerState.{IsSound, ServerState}
use Rattle.change_laws.specs.Changes.{changed_state}
use Rattle.code_index.specs.Committed.{HasCommitted, IsWaiting, TakesNeed, committed}
use Rattle.code_index.specs.declared.index.Staging.{Staging}
use Rattle.code_index.specs.Staging.{IsIndexOf}
use Rattle.literal_areas.specs.Owned.{AreOf}
use Rattle.term_table.specs.Laws.{KeptByRoots}
use Rattle.term_table.specs.Tables.{IsTableOf}
use Rattle.staging.specs.declared.tables.Tables.{Tables}
use Rattle.staging.specs.Stages.{HasPublished, HaveExported}
use Rattle.staging.specs.Upcoming.{areas_in}
use Rattle.staging.specs.Whose.{AreTablesOf, KeepsKnown}
use Rattle.staging.proofs.Patched.{rests}
use Rattle.staging.proofs.Known.{known_counted, known_next, known_on, known_same}
use Rattle.staging.proofs.Committed.{AreCommitted, AreWaiting, are_committed, are_waiting, by_waits}

pub if_err : {A E : Type 0} (P Q : E → Type 0) (r : Result A E) → ((e : E) → P e → Q e) → IfErr r P → IfErr r Q
if_err P Q (Ok x) f h = h
if_err P Q (Err e) f h = f e h

module _ (names : List Mfa) (s : ServerState) (change : Change) (table : TableId) (opening : Opening) (t : Tables) (taken : List AreaRef) (own : AreTablesOf table opening t) (sound : IsSound s) (fits : Fits s change) (had : HaveExported names s change t taken) (numbered : AreNumbered names (changed_state s change)) where
  -- what the call says of an answer
  pub record Answers (exports : List Mfa) (new : Tables) (r : Result ℕ NotYet) : Type 0 where
    pub named : exports ≡ names
    pub by_roots : KeptByRoots
    pub terms : new.terms ≡ t.terms
    pub pools : new.pools ≡ t.pools
    pub patch : new.patch ≡ t.patch
    pub owned : IsIndexOf new.index (written_by new.writer)
    pub committed : IfOk r (λ generation. HasCommitted t.index new.index (committed (written_by t.writer) (generation_of exports (changed_state s change)) (areas_in t.pools)) (written_by t.writer) (written_by new.writer) generation)
    pub waits : IfErr r (λ answer. IsWaiting t.index new.index (written_by t.writer) (written_by new.writer) answer)

  by_commit : (exports : List Mfa) (new : Tables) (generation : ℕ) → Answers exports new (Ok generation) → AreCommitted names s change table opening t taken own sound fits had numbered new generation
  by_commit exports new generation said =
      are_committed names s change table opening t taken own sound fits had numbered new generation said.by_roots said.terms said.pools said.patch
      (subst (λ (ns : List Mfa). HasCommitted t.index new.index (committed (written_by t.writer) (generation_of ns (changed_state s change)) (areas_in t.pools)) (written_by t.writer) (written_by new.writer) generation) said.named said.committed)

  by_wait : (exports : List Mfa) (new : Tables) (answer : NotYet) → Answers exports new (Err answer) → AreWaiting names s change table opening t taken own sound fits had numbered new answer
  by_wait exports new answer said = are_waiting names s change table opening t taken own sound fits had numbered new answer said.terms said.pools said.patch said.waits said.owned.staged

  pub published_after : (exports : List Mfa) (new : Tables) (r : Result ℕ NotYet) → Answers exports new r → IfOk r (λ generation. HasPublished names (changed_state s change) t new generation)
  published_after exports new (Ok generation) said = (by_commit exports new generation said).published
  published_after exports new (Err answer) said = said.committed

  pub waits_after : (exports : List Mfa) (new : Tables) (r : Result ℕ NotYet) → Answers exports new r → IfErr r (λ answer. AreWaiting names s change table opening t taken own sound fits had numbered new answer)
  waits_after exports new (Ok generation) said = said.waits
  waits_after exports new (Err answer) said = by_wait exports new answer said

  -- the writer keeps what it knew, whatever it answers
  known_waited : (x : Staging) (begun waited : WriterView) (need : ℕ) → TakesNeed x (written_by t.writer) begun need → HasLoadedCounter begun waited → KeepsKnown (written_by t.writer) waited
  known_waited x begun waited need took loaded =
      by_waits (KeepsKnown (written_by t.writer)) (λ v counter rises was. known_on (written_by t.writer) v (counter_kept counter v) was (known_counted v counter)) x (written_by t.writer) begun waited need took loaded
      (known_same (written_by t.writer) (written_by t.writer) refl)

  pub known_after : (exports : List Mfa) (new : Tables) (r : Result ℕ NotYet) → Answers exports new r → KeepsKnown (written_by t.writer) (written_by new.writer)
  known_after exports new (Ok generation) said =
      let done = said.committed in
      subst (KeepsKnown (written_by t.writer)) (sym done.view)
      (known_on (written_by t.writer) done.waited (with_next (committed (written_by t.writer) (generation_of exports (changed_state s change)) (areas_in t.pools)) done.waited)
      (known_waited t.index done.asked.begun done.waited done.need done.asked.waits.taken done.asked.loaded) (known_next done.waited _))
  known_after exports new (Err answer) said =
      let waiting = said.waits in
      known_waited t.index waiting.asked.begun (written_by new.writer) answer.need waiting.asked.waits.taken waiting.asked.loaded

  pub tables_after : (exports : List Mfa) (new : Tables) (r : Result ℕ NotYet) → Answers exports new r → IsWriterOf table opening new.writer → IsIndexOf new.index (written_by new.writer) → AreTablesOf table opening new
  tables_after exports new (Ok generation) said token index =
      let after = by_commit exports new generation said in
      record {
        token = token;
        index = index;
        terms = subst (λ t. IsTableOf t (written_by new.writer)) (sym said.terms) after.terms;
        pools = subst (λ s. AreOf s (written_by new.writer)) (sym said.pools) after.pools;
        patch = rests new.patch (written_by new.writer) (said.patch ∙ had.placed.patch) after.patch;
      }
  tables_after exports new (Err answer) said token index =
      let after = by_wait exports new answer said in
      record {
        token = token;
        index = index;
        terms = subst (λ t. IsTableOf t (written_by new.writer)) (sym said.terms) after.terms;
        pools = subst (λ s. AreOf s (written_by new.writer)) (sym said.pools) after.pools;
        patch = rests new.patch (written_by new.writer) (said.patch ∙ had.placed.patch) after.patch;
      }
