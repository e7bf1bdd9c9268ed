-- What a permit keeps goes on to hold with each entry that joins the journal.
use Rattle.std.proofs.Common.{◌≡◌, ℕ, ◌+◌, ◌≤◌, true, false, Bool, List, [], ◌∷◌, ◌++◌, length, length-set, take, slice_get, slice_set, Option, Some, None, unwrap_or, option_map, ◌⊎◌, inl, inr, refl, sym, ap, subst, ◌∙◌, arith}
use Rattle.std.proofs.lemmas.Bool.{cases_eq, eq-eqb, ne_eqb}
use Rattle.std.proofs.lemmas.List.{append-nil}
use Rattle.std.proofs.lemmas.Option.{slice_get_within}
use Rattle.server_core.specs.declared.command.Cmd.{Cmd}
use Rattle.server_core.specs.ServerState.{ServerState, empty_state}
use Rattle.server_core.specs.CommandTable.{Outcome, apply_of}
use Rattle.script_core.specs.declared.script.Script.{Script}
use Rattle.script_core.specs.declared.script.ScriptCmd.{ScriptCmd}
use Rattle.script_core.specs.Processes.{spawn_number, spawns_in}
use Rattle.script_core.proofs.JoinedPlaces.{take_next}
use Rattle.script_core.proofs.SpawnLines.{number_next}
use Rattle.run_log.specs.declared.logs.Entry.{Entry}
use Rattle.run_log.specs.declared.logs.Who.{Who}
use Rattle.run_log.specs.declared.logs.Who.TheVariants.{Loader}
use Rattle.run_log.specs.declared.underway.HalfPurge.{HalfPurge}
use Rattle.run_log.specs.Journal.{is_of, newest_state, state_after}
use Rattle.run_log.specs.Legal.{MayStand, PurgesGo, Replays, commands_in, commands_of, ended_by, half_after, is_release, is_runtime}
use Rattle.run_log.proofs.Journals.{commands_other, commands_own, entry_follows, newest_more, purges_more, replays_more}
use Rattle.run_log.proofs.ListPlaces.{SetAt, here, set_at, set_here, set_there, there}
use Rattle.write_permit.specs.declared.loader_run.LoaderRun.{LoaderRun}
use Rattle.write_permit.specs.Book.{IsLog}
use Rattle.write_permit.specs.Permit.{counted_in, done_of, loader_after}

-- the entry of a command with what the server answered
abbrev pub entry_of : Who → Cmd → Outcome → Entry
entry_of who cmd o = record { who = who; cmd = cmd; reply = o.answer.reply; published = o.answer.published }

-- how many commands of a loader are done, as it is found
abbrev pub count_in : Option LoaderRun → ℕ
count_in o = unwrap_or (option_map (λ l. l.done) o) 0

module _ (s : Script) (server : ServerState) (journal : List Entry) (loaders : List LoaderRun) (log : IsLog s server journal loaders) (who : Who) (cmd : Cmd) (o : Outcome) (applied : apply_of s.modules server cmd ≡ Some o) where
  abbrev longer : List Entry
  longer = journal ++ entry_of who cmd o ∷ []

  applied_newest : apply_of s.modules (newest_state s.modules empty_state journal) cmd ≡ Some o
  applied_newest = subst (λ x. apply_of s.modules x cmd ≡ Some o) log.server_is applied

  pub server_joined : o.state ≡ newest_state s.modules empty_state longer
  server_joined = sym (newest_more s.modules empty_state journal (entry_of who cmd o) ∙ ap (state_after (newest_state s.modules empty_state journal)) applied_newest)

  pub replays_joined : is_runtime who ≡ is_release cmd → Replays s.modules empty_state longer
  replays_joined by = replays_more s.modules empty_state journal (entry_of who cmd o) log.replays (entry_follows s.modules (newest_state s.modules empty_state journal) (entry_of who cmd o) o.state by applied_newest)

  -- purges go on by an entry that may stand
  pub purges_joined : (half : Option HalfPurge) → PurgesGo s.modules empty_state None journal half → MayStand server half (entry_of who cmd o) → PurgesGo s.modules empty_state None longer (half_after half who cmd)
  purges_joined half go may = purges_more s.modules empty_state None half journal (entry_of who cmd o) go (subst (λ x. MayStand x half (entry_of who cmd o)) log.server_is may)

  ends_none : (loader : ℕ) (b : Bool) → is_of loader who ≡ b → ended_by cmd ≡ [] → commands_in loader longer ≡ commands_in loader journal
  ends_none loader true own none = commands_own loader journal (entry_of who cmd o) own ∙ ap (λ xs. commands_in loader journal ++ xs) none ∙ append-nil (commands_in loader journal)
  ends_none loader false own none = commands_other loader journal (entry_of who cmd o) own

  -- an entry that ends no command of a loader
  pub log_joined : is_runtime who ≡ is_release cmd → ended_by cmd ≡ [] → IsLog s o.state longer loaders
  log_joined by none = record {
    replays = replays_joined by;
    server_is = server_joined;
    many = log.many;
    within = log.within;
    in_order = λ loader. ends_none loader (is_of loader who) refl none ∙ log.in_order loader;
    numbers = log.numbers;
  }

-- a command of a loader is counted
module _ (loaders : List LoaderRun) (loader : ℕ) (command : ScriptCmd) (l : LoaderRun) (found : slice_get loaders loader ≡ Some l) where
  abbrev counted : List LoaderRun
  counted = slice_set loaders loader (loader_after command l)

  place_is : done_of loaders loader ≡ l.done
  place_is = ap count_in found

  pub done_own : done_of counted loader ≡ done_of loaders loader + 1
  done_own = ap count_in (set_here loaders loader l (loader_after command l) found) ∙ ap (λ n. n + 1) (sym place_is)

  pub done_other : (other : ℕ) → (other ≡ loader → ⊥) → done_of counted other ≡ done_of loaders other
  done_other other n = ap count_in (set_there loaders loader (loader_after command l) other n)

  pub counted_is : counted_in loaders loader command ≡ counted
  counted_is = ap (λ o. unwrap_or (option_map (λ x. slice_set loaders loader (loader_after command x)) o) loaders) found

-- an entry that ends the next command of a loader
module _ (s : Script) (server : ServerState) (journal : List Entry) (loaders : List LoaderRun) (log : IsLog s server journal loaders) (loader : ℕ) (command : ScriptCmd) (next : slice_get (commands_of s loader) (done_of loaders loader) ≡ Some command)
    (l : LoaderRun) (found : slice_get loaders loader ≡ Some l) where
  abbrev place : ℕ
  place = done_of loaders loader

  abbrev after : List LoaderRun
  after = counted loaders loader command l found

  within_at : (other : ℕ) → (other ≡ loader) ⊎ (other ≡ loader → ⊥) → done_of after other ≤ length (commands_of s other)
  within_at other (inl e) = rw e (rw (done_own loaders loader command l found) (omega (arith, slice_get_within (commands_of s loader) place command next)))
  within_at other (inr n) = rw (done_other loaders loader command l found other n) (log.within other)

  number_at : (other : ℕ) (m : LoaderRun) → SetAt loaders loader (loader_after command l) other m → m.next_process ≡ spawn_number s.loaders other m.done
  number_at other m (here e h) =
      let before : l.next_process ≡ spawn_number s.loaders loader l.done = log.numbers loader l found in
      let more = number_next s.loaders loader l.done command (subst (λ n. slice_get (commands_of s loader) n ≡ Some command) (place_is loaders loader command l found) next) in
      subst (λ x. x.next_process ≡ spawn_number s.loaders other x.done) h (rw e (ap (λ n. n + spawns_in command) before ∙ sym more))
  number_at other m (there n h) = log.numbers other m h

  module _ (cmd : Cmd) (o : Outcome) (applied : apply_of s.modules server cmd ≡ Some o) (ended : ended_by cmd ≡ command ∷ []) (loads : is_release cmd ≡ false) where
    abbrev more : List Entry
    more = journal ++ entry_of (Loader loader) cmd o ∷ []

    in_order_at : (other : ℕ) → (other ≡ loader) ⊎ (other ≡ loader → ⊥) → commands_in other more ≡ take (done_of after other) (commands_of s other)
    in_order_at other (inl e) =
        rw e
        (commands_own loader journal (entry_of (Loader loader) cmd o) (eq-eqb loader loader refl)
        ∙ ap (λ xs. commands_in loader journal ++ xs) ended
        ∙ ap (λ xs. xs ++ command ∷ []) (log.in_order loader)
        ∙ sym (take_next (commands_of s loader) place command next)
        ∙ ap (λ n. take n (commands_of s loader)) (sym (done_own loaders loader command l found)))
    in_order_at other (inr n) =
        commands_other other journal (entry_of (Loader loader) cmd o) (ne_eqb loader other (λ x. n (sym x)))
        ∙ log.in_order other
        ∙ ap (λ m. take m (commands_of s other)) (sym (done_other loaders loader command l found other n))

    pub log_counted : IsLog s o.state more after
    log_counted = record {
      replays = replays_joined s server journal loaders log (Loader loader) cmd o applied (sym loads);
      server_is = server_joined s server journal loaders log (Loader loader) cmd o applied;
      many = length-set loaders loader (loader_after command l) ∙ log.many;
      within = λ other. within_at other (cases_eq other loader);
      in_order = λ other. in_order_at other (cases_eq other loader);
      numbers = λ other m h. number_at other m (set_at loaders loader (loader_after command l) other m h);
    }
