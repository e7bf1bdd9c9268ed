-- What holds of each command that the entries of the loaders end holds of each entry.
use Rattle.std.proofs.Common.{◌≡◌, ℕ, Bool, true, false, cond, List, [], ◌∷◌, ◌++◌, flat_map, refl, ap, ◌∙◌}
use Rattle.std.proofs.lemmas.Bool.{eq-eqb}
use Rattle.std.specs.List.{AllByRecursion}
use Rattle.server_core.specs.declared.command.Cmd.{Cmd}
use Rattle.script_core.specs.declared.script.ScriptCmd.{ScriptCmd}
use Rattle.run_log.specs.declared.logs.Who.{Who}
use Rattle.run_log.specs.declared.logs.Who.TheVariants.{Loader, Runtime}
use Rattle.run_log.specs.declared.logs.Entry.{Entry}
use Rattle.run_log.specs.Journal.{entries_of, is_of}
use Rattle.run_log.specs.Legal.{commands_in, ended_by}

module _ (P : ℕ → ScriptCmd → Type 0) where
  -- of the commands that the entries of each loader end this holds
  abbrev pub HoldsOfEach : List Entry → Type 0
  HoldsOfEach journal = (loader : ℕ) → AllByRecursion (P loader) (commands_in loader journal)

  -- of the command that an entry of a loader ends
  abbrev pub HoldsOf : Who → Cmd → Type 0
  HoldsOf (Loader loader) cmd = AllByRecursion (P loader) (ended_by cmd)
  HoldsOf Runtime cmd = Unit {0}

  front : (Q : ScriptCmd → Type 0) (xs ys : List ScriptCmd) → AllByRecursion Q (xs ++ ys) → AllByRecursion Q xs × AllByRecursion Q ys
  front Q [] ys h = (tt, h)
  front Q (x ∷ xs) ys h = let rest = front Q xs ys h.1 in ((h.0, rest.0), rest.1)

  parts_of : (loader : ℕ) (e : Entry) (journal : List Entry) (b : Bool) → AllByRecursion (P loader) (flat_map (λ (x : Entry). ended_by x.cmd) (cond b (e ∷ entries_of loader journal) (entries_of loader journal)))
      → AllByRecursion (P loader) (commands_in loader journal) × (b ≡ true → AllByRecursion (P loader) (ended_by e.cmd))
  parts_of loader e journal true h = let parts = front (P loader) (ended_by e.cmd) (commands_in loader journal) h in (parts.1, λ own. parts.0)
  parts_of loader e journal false h = (h, λ own. absurd cc)

  by_who : (e : Entry) (journal : List Entry) (who : Who) → e.who ≡ who → HoldsOfEach (e ∷ journal) → HoldsOf who e.cmd
  by_who e journal (Loader loader) is h = (parts_of loader e journal (is_of loader e.who) (h loader)).1 (ap (is_of loader) is ∙ eq-eqb loader loader refl)
  by_who e journal Runtime is h = tt

  -- each entry
  pub of_entries : (journal : List Entry) → HoldsOfEach journal → AllByRecursion (λ e. HoldsOf e.who e.cmd) journal
  of_entries [] h = tt
  of_entries (e ∷ journal) h = (by_who e journal e.who refl h, of_entries journal (λ loader. (parts_of loader e journal (is_of loader e.who) (h loader)).0))
