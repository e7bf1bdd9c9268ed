-- The journal in which the entries of each loader end its commands, of a script that a text says, is said too.
use Rattle.std.proofs.Common.{◌≡◌, ℕ, zero, suc, ◌≤◌, List, [], ◌∷◌, length, All, sym, subst}
use Rattle.std.proofs.lemmas.List.Elements.{All-from_recursion}
use Rattle.std.specs.List.{AllByRecursion}
use Rattle.term_core.specs.declared.atom.Mfa.{Mfa}
use Rattle.term_core.specs.declared.names.TheConstants.{MOST_NAMES}
use Rattle.term_core.specs.Plain.{plain}
use Rattle.mod_core.specs.declared.code.Module.{Module}
use Rattle.server_core.specs.declared.command.Cmd.{Cmd}
use Rattle.server_core.specs.declared.command.Cmd.TheVariants as cmds
use Rattle.server_core.specs.CommandTable.{IsOfText}
use Rattle.server_core.specs.ServerState.{ServerState, empty_state}
use Rattle.change_laws.specs.Names.{IsNumbered}
use Rattle.script_core.specs.declared.script.Script.{Script}
use Rattle.script_core.specs.declared.script.ScriptCmd.{ScriptCmd}
use Rattle.script_core.specs.Processes.{commands_at}
use Rattle.script_core.specs.Sound.{IsCmdOf, IsScript}
use Rattle.script_core.proofs.ShortTerms.{short_term}
use Rattle.run_log.specs.declared.logs.Who.{Who}
use Rattle.run_log.specs.declared.logs.Who.TheVariants.{Loader, Runtime}
use Rattle.run_log.specs.declared.logs.Entry.{Entry}
use Rattle.run_log.specs.Journal.{next_state}
use Rattle.run_log.specs.Legal.{Replays, commands_in, commands_of, is_release, is_runtime}
use Rattle.run_log.proofs.EntryCommands.{HoldsOf, of_entries}
use Rattle.run_law.specs.Published.{IsJournal}

-- what is known of the commands of each loader
commands_fit : (P : ScriptCmd → Type 0) (loaders : List (List ScriptCmd)) (k : ℕ) → AllByRecursion (λ commands. AllByRecursion P commands) loaders
    → AllByRecursion P (commands_at loaders k)
commands_fit P [] k h = tt
commands_fit P (commands ∷ loaders) zero h = h.0
commands_fit P (commands ∷ loaders) (suc k) h = commands_fit P loaders k h.1

module _ (names : List (List ℕ)) (texts : List Module) (room : length names ≤ MOST_NAMES) where
  -- a command of an entry, of a loader or of the runtime
  command_said : (who : Who) (cmd : Cmd) → is_runtime who ≡ is_release cmd → HoldsOf (λ loader command. IsCmdOf names texts command) who cmd → IsOfText cmd
  command_said (Loader loader) (cmds.Put key term) by h = short_term names (plain term) room h.0.is_term
  command_said Runtime (cmds.Put key term) by h = absurd (cc)
  command_said who cmd by h = tt

  entries_said : (s : ServerState) (journal : List Entry) → Replays texts s journal
      → AllByRecursion (λ e. HoldsOf (λ loader command. IsCmdOf names texts command) e.who e.cmd) journal → AllByRecursion (λ e. IsOfText e.cmd) journal
  entries_said s [] replays h = tt
  entries_said s (e ∷ journal) replays h = (command_said e.who e.cmd replays.0.by_whom h.0, entries_said (next_state texts s e.cmd) journal replays.1 h.1)

pub journal_said : (names : List Mfa) (s : Script) (journal : List Entry) → IsScript s → All (IsNumbered names) s.modules → Replays s.modules empty_state journal
    → ((loader : ℕ) → commands_in loader journal ≡ commands_of s loader) → IsJournal names s.modules journal
journal_said names s journal script numbered replays in_order = record {
  texts_sound = script.texts.sound;
  numbered = numbered;
  said =
      All-from_recursion (λ (e : Entry). IsOfText e.cmd) journal
      (entries_said s.names s.modules script.names.room empty_state journal replays
      (of_entries (λ loader command. IsCmdOf s.names s.modules command) journal
      (λ loader. subst (AllByRecursion (IsCmdOf s.names s.modules)) (sym (in_order loader)) (commands_fit (IsCmdOf s.names s.modules) s.loaders loader script.commands))));
  replays = replays;
}
