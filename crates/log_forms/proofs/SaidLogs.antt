-- A lawful log of a script is well formed: a report can show it.
use Rattle.std.proofs.Common.{◌≡◌, ℕ, zero, suc, ◌<◌, ◌≤◌, ◌^◌, ◌==◌, ◌&&◌, ◌||◌, min, Bool, true, false, List, [], ◌∷◌, length, take, slice_get, unwrap_or, Option, Some, None, is_some, IfSome, IsSomeAnd, All, Contains, option_and_then, option_map, if◌then◌else◌, refl, sym, ap, subst, ◌∙◌, arith}
use Rattle.std.specs.List.{AllByRecursion, list_any}
use Rattle.std.proofs.lemmas.Bool.{eqb-true}
use Rattle.std.proofs.lemmas.List.{length-take}
use Rattle.std.proofs.lemmas.List.Elements.{All-contains, All-from_recursion, recursion_from_All}
use Rattle.std.proofs.lemmas.Option.{none-some, same_Some}
use Rattle.term_core.specs.declared.atom.AtomId.{AtomId}
use Rattle.term_core.specs.declared.atom.Mfa.{Mfa}
use Rattle.term_core.specs.PlainTerm.{PlainTerm}
use Rattle.term_core.proofs.Places.{is_some-position}
use Rattle.mod_core.specs.declared.code.Module.{Module}
use Rattle.mod_core.specs.HeldNames.{IsModuleHeld}
use Rattle.mod_core.specs.Module.{IsModule}
use Rattle.server_core.specs.declared.command.Cmd.{Cmd}
use Rattle.server_core.specs.declared.command.Cmd.TheVariants as cmds
use Rattle.server_core.specs.declared.command.Linger.{Linger}
use Rattle.server_core.specs.ServerState.{Entry as Place, ServerState, code_of, current_of, empty_state, export_of, is_export, old_of}
use Rattle.server_core.specs.CommandTable.{Outcome, apply_of, soft_purge_of}
use Rattle.server_core.proofs.Changes.{at_rest, came}
use Rattle.machine_core.specs.Process.{new_process}
use Rattle.machine_core.specs.ServerReads.{reads_of}
use Rattle.script_core.specs.declared.script.Script.{Script}
use Rattle.script_core.specs.declared.script.ScriptCmd.{ScriptCmd}
use Rattle.script_core.specs.declared.script.ScriptCmd.TheVariants as script
use Rattle.script_core.specs.Processes.{SpawnLine, line_of, spawns_from, spawns_of}
use Rattle.script_core.specs.Sound.{IsCmdOf, IsScript}
use Rattle.script_core.proofs.SpawnLines.{all_counted}
use Rattle.run_log.specs.declared.logs.Who.{Who}
use Rattle.run_log.specs.declared.logs.Who.TheVariants.{Loader, Runtime}
use Rattle.run_log.specs.declared.logs.Entry.{Entry}
use Rattle.run_log.specs.declared.logs.ProcessLog.{ProcessLog}
use Rattle.run_log.specs.declared.logs.Snapshot.{Snapshot}
use Rattle.run_log.specs.declared.logs.RunLog.{RunLog}
use Rattle.run_log.specs.InstanceTexts.{AreOfTexts}
use Rattle.run_log.specs.Journal.{newest_state, next_state, published_count, state_at}
use Rattle.run_log.specs.Legal.{EntryFollows, IsLogOf, Legal, Lingers, LogsMatch, Replays, is_release, is_runtime, published_to, state_before, turns_in_log}
use Rattle.run_log.specs.Snapshots.{AreExports, IsExport}
use Rattle.run_log.specs.WellFormed.{IsCallOf, IsExportOf, IsLingerOf, IsNamed, IsProcessOf, IsSnapshotOf, IsSpanOf, IsWellFormed}
use Rattle.run_log.specs.WholeSpans.{AreWhole}
use Rattle.run_log.proofs.EntryCommands.{HoldsOf, of_entries}
use Rattle.run_log.proofs.Journals.{counted}
use Rattle.run_log.proofs.KeptTexts.{empty_of_texts, next_of_texts}
use Rattle.run_log.proofs.SpanRuns.{some_and}
use Rattle.log_forms.specs.Numbers.{FitsWords}
use Rattle.log_forms.proofs.SaidCode.{IsKnownFunction, IsKnownModule, both_give, functions_known, said_code}
use Rattle.log_forms.proofs.SaidJournal.{IsDone, journal_said, serials_grow}
use Rattle.log_forms.proofs.SaidReplies.{IsSaidLinger, texts_named}
use Rattle.log_forms.proofs.SaidSpans.{AreSaidSpans, IsSaidSpan, spans_said, standing_turn}
use Rattle.log_forms.proofs.SaidSteps.{IsSaidCode}
use Rattle.log_forms.proofs.SaidStates.{IsSaidPut, IsSaidState, came_said, empty_said, said_current, weaker}
use Rattle.log_forms.proofs.SaidValues.{said_join}

-- ---- elements by their places

all_places : {X : Type 0} (P : X → Type 0) (xs : List X) → ((k : ℕ) (x : X) → slice_get xs k ≡ Some x → P x) → AllByRecursion P xs
all_places P [] h = tt
all_places P (x ∷ xs) h = (h 0 x refl, all_places P xs (λ k y e. h (suc k) y e))

at_place : {X : Type 0} (P : X → Type 0) (xs : List X) (k : ℕ) (x : X) → AllByRecursion P xs → slice_get xs k ≡ Some x → P x
at_place P [] k x h e = absurd (none-some x e)
at_place P (y ∷ xs) zero x h e = subst P (same_Some y x e) h.0
at_place P (y ∷ xs) (suc k) x h e = at_place P xs k x h.1 e

place_within : {X : Type 0} (xs : List X) (k : ℕ) (x : X) → slice_get xs k ≡ Some x → k < length xs
place_within [] k x e = absurd (none-some x e)
place_within (y ∷ xs) zero x e = omega arith
place_within (y ∷ xs) (suc k) x e = let rest = place_within xs k x e in omega (arith, rest)

-- an element that passes a test, of which something holds
passing : {X C : Type 0} (P : X → Type 0) (test : X → Bool) (xs : List X) → list_any test xs ≡ true → AllByRecursion P xs → ((x : X) → P x → test x ≡ true → C) → C
passing P test [] e h f = absurd cc
passing {C = C} P test (x ∷ xs) e h f = by (test x) refl e (λ k. passing P test xs k h.1 f)
  where
    by : (b : Bool) → test x ≡ b → (b || list_any test xs) ≡ true → (list_any test xs ≡ true → C) → C
    by true passes k later = f x h.0 passes
    by false passes k later = later k

both_true : (a b : Bool) → (a && b) ≡ true → (a ≡ true) × (b ≡ true)
both_true true true h = (refl, refl)
both_true true false h = absurd cc
both_true false b h = absurd cc

-- ---- what the script gives

module _ (s : Script) (is_script : IsScript s) where
  modules_known : AllByRecursion (IsKnownModule s.names) s.modules
  modules_known =
      let texts = is_script.texts in
      both_give IsModule (IsModuleHeld s.names) (IsKnownModule s.names) (λ m p q. record { sound = p; held = q }) s.modules (recursion_from_All IsModule s.modules texts.sound) (recursion_from_All (IsModuleHeld s.names) s.modules is_script.held)

  names_given : 2 < length s.names
  names_given =
      let held = is_script.names in
      let three : min 3 (length s.names) ≡ 3 = sym (length-take 3 s.names) ∙ ap length held.given in
      omega (arith, three)

-- ---- exports

module _ (names : List (List ℕ)) where
  function_named : (m : Module) (to : Mfa) (o : Option ℕ) → export_of m to ≡ o → is_some o ≡ true → IsKnownModule names m → IsNamed names to.name × (to.arity ≤ 15)
  function_named m to o e some known =
      let any : list_any (is_export to) m.functions ≡ true = sym (is_some-position (is_export to) m.functions) ∙ ap is_some e ∙ some in
      passing (IsKnownFunction names m) (is_export to) m.functions any (functions_known names m known) (λ f k passes.
      let parts = both_true f.exported (f.name.0 == to.name.0 && f.arity == to.arity) passes in
      let same = both_true (f.name.0 == to.name.0) (f.arity == to.arity) parts.1 in
      let sound = k.sound in
      let held = k.held in
      let low = held.name in
      let few = sound.arity in
      (omega (arith, low, eqb-true f.name.0 to.name.0 same.0), omega (arith, few, eqb-true f.arity to.arity same.1)))

  pub export_by : (next serial : ℕ) (to : Mfa) (c : Option ℕ) (code : ℕ → Option Module) → ((n : ℕ) → IfSome (code n) (IsKnownModule names)) → IfSome c (λ n. (n < next) × (to.«module».0 < length names)) → next ≤ 2 ^ 64
      → IsSomeAnd (option_and_then (λ n. option_and_then (λ m. option_map (λ (i : ℕ). let e : Place = record { serial = n; function = i } in e) (export_of m to)) (code n)) c) (λ e. e.serial ≡ serial) → IsExportOf names (to, serial)
  export_by next serial to None code known low few h = absurd h
  export_by next serial to (Some n) code known low few h = of_code (code n) (known n) h
    where
      of_export : (m : Module) (o : Option ℕ) → export_of m to ≡ o → IsKnownModule names m → IsSomeAnd (option_map (λ (i : ℕ). let e : Place = record { serial = n; function = i } in e) o) (λ e. e.serial ≡ serial) → IsExportOf names (to, serial)
      of_export m None e k h = absurd h
      of_export m (Some i) e k h =
          let named = function_named m to (Some i) e refl k in
          record { function = record { module_named = low.1; name_named = named.0; few = named.1 }; serial = omega (arith, low.0, few, h) }

      of_code : (o : Option Module) → IfSome o (IsKnownModule names) → IsSomeAnd (option_and_then (λ m. option_map (λ (i : ℕ). let e : Place = record { serial = n; function = i } in e) (export_of m to)) o) (λ e. e.serial ≡ serial) → IsExportOf names (to, serial)
      of_code None k h = absurd h
      of_code (Some m) k h = of_export m (export_of m to) refl k h

-- ---- the calls of processes

module _ (names : List (List ℕ)) (texts : List Module) where
  abbrev IsCalled : SpawnLine → Type 0
  IsCalled line = IsCallOf names line.target line.args

  line_called : (loader place : ℕ) (cmd : ScriptCmd) → IsCmdOf names texts cmd → AllByRecursion IsCalled (line_of loader place cmd)
  line_called loader place (script.Spawn target args) h = (record { function = record { module_named = h.module_named; name_named = h.name_named; few = h.few }; arity_is = sym h.arity_is; each = h.each }, tt)
  line_called loader place cmd h = tt

  lines_called : (loader place : ℕ) (commands : List ScriptCmd) → AllByRecursion (IsCmdOf names texts) commands → AllByRecursion IsCalled (spawns_from loader place commands)
  lines_called loader place [] h = tt
  lines_called loader place (cmd ∷ commands) h = said_join IsCalled (line_of loader place cmd) (spawns_from loader (suc place) commands) (line_called loader place cmd h.0) (lines_called loader (suc place) commands h.1)

  all_called : (loader : ℕ) (loaders : List (List ScriptCmd)) → AllByRecursion (λ commands. AllByRecursion (IsCmdOf names texts) commands) loaders → AllByRecursion IsCalled (spawns_of loader loaders)
  all_called loader [] h = tt
  all_called loader (commands ∷ loaders) h = said_join IsCalled (spawns_from loader 0 commands) (spawns_of (suc loader) loaders) (lines_called loader 0 commands h.0) (all_called (suc loader) loaders h.1)

  abbrev IsCalledLog : ProcessLog → Type 0
  IsCalledLog process = IsCallOf names process.target process.args

  log_called : (line : SpawnLine) (process : ProcessLog) → IsLogOf line process → IsCalled line → IsCalledLog process
  log_called line process is h = subst (λ (to : Mfa). IsCallOf names to process.args) (sym is.target) (subst (λ (args : List PlainTerm). IsCallOf names line.target args) (sym is.args) h)

  logs_called : (lines : List SpawnLine) (processes : List ProcessLog) → LogsMatch lines processes → AllByRecursion IsCalled lines → AllByRecursion IsCalledLog processes
  logs_called [] [] m h = tt
  logs_called [] (process ∷ processes) m h = absurd m
  logs_called (line ∷ lines) [] m h = absurd m
  logs_called (line ∷ lines) (process ∷ processes) m h = (log_called line process m.0 h.0, logs_called lines processes m.1 h.1)

  logs_count : (lines : List SpawnLine) (processes : List ProcessLog) → LogsMatch lines processes → length processes ≡ length lines
  logs_count [] [] m = refl
  logs_count [] (process ∷ processes) m = absurd m
  logs_count (line ∷ lines) [] m = absurd m
  logs_count (line ∷ lines) (process ∷ processes) m = ap suc (logs_count lines processes m.1)

-- ---- entries by their places

replays_at : (texts : List Module) (st : ServerState) (journal : List Entry) (place : ℕ) (e : Entry) → Replays texts st journal → slice_get journal place ≡ Some e → EntryFollows texts (newest_state texts st (take place journal)) e
replays_at texts st [] place e r h = absurd (none-some e h)
replays_at texts st (x ∷ journal) zero e r h = subst (EntryFollows texts st) (same_Some x e h) r.0
replays_at texts st (x ∷ journal) (suc place) e r h = replays_at texts (next_state texts st x.cmd) journal place e r.1 h

-- ---- a lawful log

module _ (s : Script) (is_script : IsScript s) (log : RunLog) (legal : Legal s log) (fits : FitsWords s log) where
  abbrev names : List (List ℕ)
  names = s.names

  abbrev Done : ℕ → ScriptCmd → Type 0
  Done = IsDone s.names s.modules (length s.loaders)

  few_loaders : length s.loaders ≤ 2 ^ 32
  few_loaders = let few = is_script.few_loaders in omega (arith, few)

  done_by : (loader : ℕ) (o : Option (List ScriptCmd)) → slice_get s.loaders loader ≡ o → AllByRecursion (Done loader) (unwrap_or o [])
  done_by loader None e = tt
  done_by loader (Some commands) e =
      let low = place_within s.loaders loader commands e in
      weaker (IsCmdOf s.names s.modules) (Done loader) (λ cmd h. (h, low)) commands (at_place (λ commands. AllByRecursion (IsCmdOf s.names s.modules) commands) s.loaders loader commands is_script.commands e)

  entries_done : AllByRecursion (λ e. HoldsOf Done e.who e.cmd) log.journal
  entries_done =
      let in_order = legal.loaders_in_order in
      of_entries Done log.journal (λ loader. subst (AllByRecursion (Done loader)) (sym (in_order.commands loader)) (done_by loader (slice_get s.loaders loader) refl))

  put_done : (who : Who) (cmd : Cmd) → is_runtime who ≡ is_release cmd → HoldsOf Done who cmd → IsSaidPut s.names cmd
  put_done (Loader loader) (cmds.Put key term) r h = let put = h.0.0 in put.is_term
  put_done Runtime (cmds.Put key term) r h = absurd cc
  put_done who cmd r h = tt

  -- a state that the journal makes
  record IsKnownState (st : ServerState) : Type 0 where
    said : IsSaidState s.names st
    of_texts : AreOfTexts s.modules st
    few : st.next_serial ≤ 2 ^ 64

  states_known : (st : ServerState) (journal : List Entry) → IsSaidState s.names st → AreOfTexts s.modules st → Replays s.modules st journal → AllByRecursion (λ e. HoldsOf Done e.who e.cmd) journal → (newest_state s.modules st journal).next_serial ≤ 2 ^ 64
      → (k : ℕ) → IsKnownState (state_at s.modules st journal k)
  states_known st [] said of_texts r h n k = record { said = said; of_texts = of_texts; few = n }
  states_known st (e ∷ journal) said of_texts r h n k =
      let follows = r.0 in
      let t = next_state s.modules st e.cmd in
      let o : Outcome = record { state = t; answer = record { reply = e.reply; published = e.published } } in
      let bound = serials_grow s.names s.modules (length s.loaders) few_loaders st (e ∷ journal) in
      let next = came_said s.names s.modules st e.cmd o (λ refs ms given. texts_named s.names s.modules refs ms (modules_known s is_script) given) (put_done e.who e.cmd follows.by_whom h.0) (came s.modules st e.cmd o follows.applied) said in
      by (st.generation == k) (record { said = said; of_texts = of_texts; few = omega (arith, bound, n) }) (states_known t journal next (next_of_texts s.modules st e.cmd of_texts) r.1 h.1 n k)
    where
      by : (b : Bool) → IsKnownState st → IsKnownState (state_at s.modules (next_state s.modules st e.cmd) journal k) → IsKnownState (if b then st else state_at s.modules (next_state s.modules st e.cmd) journal k)
      by true here later = here
      by false here later = later

  abbrev states : ℕ → ServerState
  states = state_at s.modules empty_state log.journal

  known_at : (k : ℕ) → IsKnownState (states k)
  known_at k = states_known empty_state log.journal (empty_said s.names) (empty_of_texts s.modules) legal.replays entries_done fits.serials k

  code_at : (k : ℕ) → IsSaidCode s.names (reads_of (states k))
  code_at k = let known = known_at k in said_code s.names (names_given s is_script) s.modules (states k) (modules_known s is_script) known.of_texts known.said known.few

  -- ---- processes

  complete_logs : LogsMatch (spawns_of 0 s.loaders) log.processes
  complete_logs = let complete = legal.complete in complete.processes

  calls_said : AllByRecursion (IsCalledLog s.names s.modules) log.processes
  calls_said = logs_called s.names s.modules (spawns_of 0 s.loaders) log.processes complete_logs (all_called s.names s.modules 0 s.loaders is_script.commands)

  few_logs : length log.processes ≤ 64
  few_logs =
      let few = is_script.few_processes in
      omega (arith, few, logs_count s.names s.modules (spawns_of 0 s.loaders) log.processes complete_logs, all_counted 0 s.loaders)

  process_said : (number : ℕ) (process : ProcessLog) → slice_get log.processes number ≡ Some process → AreSaidSpans s.names states (new_process number process.target process.args) process.spans process.fin
  process_said number process at =
      spans_said s.names states code_at (new_process number process.target process.args) process.spans process.fin
      (record { call = at_place (IsCalledLog s.names s.modules) log.processes number process calls_said at; frames = tt }) (omega arith) (legal.turns_follow number process at)

  whole_process : AllByRecursion (λ process. AreWhole process.spans) log.processes → (number : ℕ) (process : ProcessLog) → slice_get log.processes number ≡ Some process → IsProcessOf s.names process
  whole_process whole number process at =
      let said = process_said number process at in
      let complete = legal.complete in
      let count = published_count log.journal in
      let low = recursion_from_All (λ span. span.generation ≤ count) process.spans
      (at_place (λ p. All (λ span. span.generation ≤ count) p.spans) log.processes number process (recursion_from_All (λ p. All (λ span. span.generation ≤ count) p.spans) log.processes complete.generations) at) in
      record {
        call = at_place (IsCalledLog s.names s.modules) log.processes number process calls_said at;
        whole = at_place (λ process. AreWhole process.spans) log.processes number process whole at;
        spans = both_give (IsSaidSpan s.names) (λ span. span.generation ≤ count) (IsSpanOf s.names) (λ span p q. let few = p.few in let wide = fits.generations in record { generation = omega (arith, q, wide); turns = omega (arith, few); lines_are = p.lines_are }) process.spans said.each low;
        fin = said.ends;
      }

  -- ---- what soft purges tell

  linger_at : (place serial : ℕ) (e : Entry) (name : AtomId) (linger : Linger) → slice_get log.journal place ≡ Some e → e.cmd ≡ cmds.SoftPurge name (Some linger) → old_of (state_before s.modules place log.journal) name.0 ≡ Some serial → IsLingerOf linger
  linger_at place serial e name linger at is old =
      let found = some_and (slice_get log.processes linger.process) (λ process. Lingers serial (published_to place log.journal) linger.turn (turns_in_log s log linger.process process)) (legal.lingers_told place serial e name linger at is old) in
      let process = found.0 in
      let lingers = found.1.1 in
      let said = process_said linger.process process found.1.0 in
      let within = place_within log.processes linger.process process found.1.0 in
      let turn = standing_turn states (new_process linger.process process.target process.args) process.spans process.fin lingers.place serial lingers.mark (legal.turns_follow linger.process process found.1.0) said.few lingers.had lingers.stands in
      let counted = lingers.counted in
      record { process = omega (arith, within, few_logs); turn = omega (arith, counted, turn) }

  soft_purge_old : (place : ℕ) (e : Entry) (name : AtomId) (linger : Linger) (o : Outcome) (old : Option ℕ) → old_of (state_before s.modules place log.journal) name.0 ≡ old → soft_purge_of (state_before s.modules place log.journal) name.0 (Some linger) old ≡ Some o
      → slice_get log.journal place ≡ Some e → e.cmd ≡ cmds.SoftPurge name (Some linger) → IsLingerOf linger
  soft_purge_old place e name linger o None same h at is = absurd (none-some o h)
  soft_purge_old place e name linger o (Some serial) same h at is = linger_at place serial e name linger at is same

  linger_by : (place : ℕ) (e : Entry) (cmd : Cmd) (o : Outcome) → slice_get log.journal place ≡ Some e → e.cmd ≡ cmd → apply_of s.modules (state_before s.modules place log.journal) cmd ≡ Some o → IsSaidLinger s.names cmd
  linger_by place e (cmds.SoftPurge name None) o at is h = tt
  linger_by place e (cmds.SoftPurge name (Some linger)) o at is h =
      let st = state_before s.modules place log.journal in
      soft_purge_old place e name linger o (old_of st name.0) refl (at_rest st _ o h).1 at is
  linger_by place e cmd o at is h = tt

  lingers_said : AllByRecursion (λ e. IsSaidLinger s.names e.cmd) log.journal
  lingers_said = all_places (λ e. IsSaidLinger s.names e.cmd) log.journal (λ place e at.
      let follows = replays_at s.modules empty_state log.journal place e legal.replays at in
      linger_by place e e.cmd _ at refl follows.applied)

  -- ---- observers

  snapshot_said : (shot : Snapshot) → AreExports s.names (states shot.generation) shot.exports → shot.generation ≤ published_count log.journal → IsSnapshotOf s.names shot
  snapshot_said shot exports low =
      let st = states shot.generation in
      let known = known_at shot.generation in
      let wide = fits.generations in
      record {
        generation = omega (arith, low, wide);
        exports = weaker (IsExport st) (IsExportOf s.names) (λ export h. export_by s.names st.next_serial export.1 export.0 (current_of st export.0.«module».0) (code_of st) (λ n. code_known (code_of st n) (known.of_texts n)) (said_current s.names st known.said export.0.«module».0) known.few h) shot.exports exports.exported;
      }
    where
      code_known : (o : Option Module) → IfSome o (Contains s.modules) → IfSome o (IsKnownModule s.names)
      code_known None h = tt
      code_known (Some m) h = All-contains (IsKnownModule s.names) s.modules m (All-from_recursion (IsKnownModule s.names) s.modules (modules_known s is_script)) h

  observers_said : AllByRecursion (λ shots. AllByRecursion (IsSnapshotOf s.names) shots) log.observers
  observers_said =
      let true_shots = legal.snapshots_true in
      let complete = legal.complete in
      both_give (λ shots. AllByRecursion (λ shot. AreExports s.names (states shot.generation) shot.exports) shots) (λ shots. AllByRecursion (λ shot. shot.generation ≤ published_count log.journal) shots) (λ shots. AllByRecursion (IsSnapshotOf s.names) shots)
      (λ shots p q. both_give (λ shot. AreExports s.names (states shot.generation) shot.exports) (λ shot. shot.generation ≤ published_count log.journal) (IsSnapshotOf s.names) snapshot_said shots p q) log.observers true_shots.exports complete.snapshots

  -- a report can show it
  pub well_formed : All (λ process. AreWhole process.spans) log.processes → IsWellFormed s.names log
  well_formed whole =
      let in_order = legal.loaders_in_order in
      let count = counted s.modules empty_state log.journal legal.replays in
      let wide = fits.generations in
      record {
        journal = journal_said s.names s.modules (length s.loaders) few_loaders (modules_known s is_script) empty_state None log.journal (empty_said s.names) legal.replays in_order.purges entries_done lingers_said (omega (arith, count, wide)) fits.serials;
        processes = all_places (IsProcessOf s.names) log.processes (whole_process (recursion_from_All (λ process. AreWhole process.spans) log.processes whole));
        observers = observers_said;
      }
