-- The commands of a log that a report shows have terms that a text can say.
use Rattle.std.proofs.Common.{◌≡◌, ℕ, ◌≤◌, List, [], ◌∷◌, length, slice_get, Some, All}
use Rattle.std.proofs.lemmas.List.Elements.{All-from_recursion}
use Rattle.std.specs.List.{AllByRecursion}
use Rattle.term_core.specs.declared.names.TheConstants.{MOST_NAMES}
use Rattle.term_core.specs.Plain.{plain}
use Rattle.term_core.proofs.Places.{all_at}
use Rattle.server_core.specs.declared.command.Cmd.{Cmd}
use Rattle.server_core.specs.declared.command.Cmd.TheVariants as cmds
use Rattle.server_core.specs.CommandTable.{IsOfText}
use Rattle.script_core.proofs.ShortTerms.{short_term}
use Rattle.run_log.specs.declared.logs.Entry.{Entry}
use Rattle.run_log.specs.WellFormed.{IsCommandOf, IsEntryOf}

command_of_text : (names : List (List ℕ)) → length names ≤ MOST_NAMES → (cmd : Cmd) → IsCommandOf names cmd → IsOfText cmd
command_of_text names room (cmds.Put key term) h = short_term names (plain term) room h.is_term
command_of_text names room cmd h = tt

each_of_text : (names : List (List ℕ)) → length names ≤ MOST_NAMES → (journal : List Entry) → AllByRecursion (IsEntryOf names) journal → AllByRecursion (λ (e : Entry). IsOfText e.cmd) journal
each_of_text names room [] h = tt
each_of_text names room (e ∷ journal) h = (command_of_text names room e.cmd h.0.command, each_of_text names room journal h.1)

-- each entry of a report puts a term that a text can say
pub journal_of_text : (names : List (List ℕ)) → length names ≤ MOST_NAMES → (journal : List Entry) → AllByRecursion (IsEntryOf names) journal → All (λ (e : Entry). IsOfText e.cmd) journal
journal_of_text names room journal h = All-from_recursion (λ (e : Entry). IsOfText e.cmd) journal (each_of_text names room journal h)

-- also the one at a place
pub command_at : (journal : List Entry) (place : ℕ) (e : Entry) → All (λ (x : Entry). IsOfText x.cmd) journal → slice_get journal place ≡ Some e → IsOfText e.cmd
command_at journal place e h at = all_at (λ (x : Entry). IsOfText x.cmd) journal place e h at
