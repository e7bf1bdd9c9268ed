-- What the observers of a run saw is true of the journal's states.
use Rattle.std.proofs.Common.{◌≡◌, ℕ, suc, ◌+◌, ◌<◌, ◌≤◌, ◌==◌, List, [], ◌∷◌, ◌++◌, length, length-append, slice_get, option_map, Option, Some, refl, sym, ap, subst, ◌∙◌, arith}
use Rattle.std.proofs.lemmas.Bool.{cond_both}
use Rattle.std.proofs.lemmas.Option.{slice_get_within}
use Rattle.std.specs.List.{AllByRecursion, cons_option}
use Rattle.term_core.specs.declared.atom.Mfa.{Mfa}
use Rattle.mod_core.specs.declared.code.Module.{Module}
use Rattle.area_core.specs.declared.table.Published.{Published}
use Rattle.shared_words.specs.declared.view.WriterView.{WriterView}
use Rattle.shared_words.specs.Rule.{IsBeginning}
use Rattle.server_core.specs.Generations.{generation_of}
use Rattle.server_core.specs.ServerState.{Entry as Found, ServerState, dispatch_of, empty_state}
use Rattle.machine_core.specs.GenerationReads.{reads_in}
use Rattle.machine_core.specs.Reads.{Reads, dispatched}
use Rattle.machine_core.proofs.GenerationExports.{dispatched_is}
use Rattle.script_core.specs.declared.script.Script.{Script}
use Rattle.run_log.specs.declared.logs.Entry.{Entry}
use Rattle.run_log.specs.declared.logs.RunLog.{RunLog}
use Rattle.run_log.specs.declared.logs.Snapshot.{Snapshot}
use Rattle.run_log.specs.ExportedFunctions.{AreExportedFunctions}
use Rattle.run_log.specs.InstanceTexts.{AreOfTexts}
use Rattle.run_log.specs.Journal.{next_state, published_count, state_at}
use Rattle.run_log.specs.Legal.{AreRising, SnapshotsTrue}
use Rattle.run_log.specs.SeenExports.{exports_among}
use Rattle.run_log.specs.Snapshots.{AreExports}
use Rattle.run_log.proofs.KeptTexts.{empty_of_texts, next_of_texts}
use Rattle.run_log.proofs.ListPlaces.{all_weaker, get_within}
use Rattle.run_log.proofs.StateExports.{are_exports}
use Rattle.run_law.specs.Ends.{HasItsSnapshots, IsOver}
use Rattle.run_law.specs.Laws.{AreLearnt}
use Rattle.run_law.specs.Observing.{HasWatched, HaveWatched, IsSeenOf, exports_read}
use Rattle.run_law.specs.Published.{states_of}
use Rattle.run_law.specs.Reading.{reads_under}
use Rattle.run_law.proofs.States.{journal_good}
use Rattle.run_law.proofs.Tied.{reads_tied}

-- where calls reach the same, the same is exported
same_exports : (r : Reads) (s : ServerState) → ((to : Mfa) → dispatched r to ≡ dispatch_of s to) → (functions : List Mfa)
    → exports_read r functions ≡ exports_among s functions
same_exports r s same [] = refl
same_exports r s same (to ∷ functions) =
    ap (λ (o : Option Found). cons_option {X = Mfa × ℕ} (option_map (λ e. (to, e.serial)) o) (exports_read r functions)) (same to)
    ∙ ap (λ (xs : List (Mfa × ℕ)). cons_option (option_map (λ e. (to, e.serial)) (dispatch_of s to)) xs) (same_exports r s same functions)

-- the instances of each state of a journal are of the texts that it loads from
of_texts : (texts : List Module) (s : ServerState) (journal : List Entry) (k : ℕ) → AreOfTexts texts s → AreOfTexts texts (state_at texts s journal k)
of_texts texts s [] k known = known
of_texts texts s (e ∷ journal) k known =
    cond_both (s.generation == k) s (state_at texts (next_state texts s e.cmd) journal k) (λ (t : ServerState). AreOfTexts texts t) (λ here. known)
    (λ later. of_texts texts (next_state texts s e.cmd) journal k (next_of_texts texts s e.cmd known))

-- what holds of each element holds of all
all_places : {X : Type 0} (P : X → Type 0) (xs : List X) → ((k : ℕ) (x : X) → slice_get xs k ≡ Some x → P x) → AllByRecursion P xs
all_places P [] h = tt
all_places P (x ∷ xs) h = (h 0 x refl, all_places P xs (λ k y at. h (suc k) y at))

module _ (names : List Mfa) (s : Script) (log : RunLog) (w : WriterView) (over : IsOver names s log w) where
  abbrev states : ℕ → ServerState
  states = states_of s.modules log.journal

  abbrev top : ℕ
  top = published_count log.journal

  -- ---- one observer

  module _ (seen : List Published) (functions : List Mfa) (home : IsBeginning seen w.published) (all : AreExportedFunctions s.names s.modules functions) where
    learnt : AreLearnt names s.modules log.journal seen
    learnt = record {
      replayed = over.journal;
      published = w.published;
      beginning = home;
      are = over.published;
    }

    -- what was learnt of is published
    few_seen : length seen ≤ top + 1
    few_seen =
        let long : length w.published ≡ length (seen ++ home.0) = ap (λ (xs : List Published). length xs) home.1 in
        omega (arith, long, length-append seen home.0, over.published.many)

    -- what is read of a generation is what its state exports
    exports_of_state : (g : ℕ) → g < length seen → exports_read (reads_under names seen g) functions ≡ exports_among (states g) functions
    exports_of_state g below =
        let good = journal_good names s.modules log.journal g over.journal in
        ap (λ (r : Reads). exports_read r functions) (reads_tied names s.modules log.journal seen learnt g below)
        ∙ same_exports (reads_in names (generation_of names (states g))) (states g) (dispatched_is names (states g) good.sound good.numbered) functions

    shot_true : (shot : Snapshot) → IsSeenOf names functions seen shot → AreExports s.names (states shot.generation) shot.exports
    shot_true shot is =
        let good = journal_good names s.modules log.journal shot.generation over.journal in
        let known = of_texts s.modules empty_state log.journal shot.generation (empty_of_texts s.modules) in
        subst (AreExports s.names (states shot.generation)) (sym (is.exports ∙ exports_of_state shot.generation is.learnt))
        (are_exports s.names s.modules (states shot.generation) functions good.sound all known)

    shot_published : (shot : Snapshot) → IsSeenOf names functions seen shot → shot.generation ≤ top
    shot_published shot is = omega (arith, few_seen, is.learnt)

  -- ---- all observers

  module _ (watched : HaveWatched names s log w.published) where
    -- each observer of the log is one of the script
    watched_at : (k : ℕ) (shots : List Snapshot) → slice_get log.observers k ≡ Some shots → (count : ℕ) × HasWatched names s w.published count shots
    watched_at k shots at =
        let count = get_within s.observers k (omega (arith, slice_get_within log.observers k shots at, watched.many)) in
        (count.0, watched.each k count.0 shots count.1 at)

    -- what holds of each snapshot that was seen holds of all
    all_seen : (P : Snapshot → Type 0)
        → ((seen : List Published) (functions : List Mfa) → IsBeginning seen w.published → AreExportedFunctions s.names s.modules functions
        → (shot : Snapshot) → IsSeenOf names functions seen shot → P shot)
        → AllByRecursion (λ shots. AllByRecursion P shots) log.observers
    all_seen P f =
        all_places (λ shots. AllByRecursion P shots) log.observers
        (λ k shots at.
        let h = (watched_at k shots at).1 in
        all_weaker (IsSeenOf names h.functions h.seen) P (f h.seen h.functions h.home h.of_script) shots h.saw.each)

    all_true : SnapshotsTrue s log
    all_true = record {
      counts = λ number count shots count_is at. (watched.each number count shots count_is at).counted;
      exports = all_seen (λ shot. AreExports s.names (states shot.generation) shot.exports) shot_true;
      rising = all_places AreRising log.observers (λ k shots at. (watched_at k shots at).1.saw.rising);
    }

    pub has_snapshots : HasItsSnapshots s log
    has_snapshots = record {
      snapshots_true = all_true;
      observers = watched.many;
      snapshots = all_seen (λ shot. shot.generation ≤ top) shot_published;
    }
