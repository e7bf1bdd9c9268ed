-- What a script says of the commands of a journal that are its loaders', and of the processes of a complete log.
use Rattle.std.proofs.Common.{◌≡◌, ℕ, zero, suc, ◌^◌, ◌<◌, Bool, true, false, cond, List, [], ◌∷◌, length, filter, slice_get, Some, unwrap_or, All, refl, sym, ap, subst, ◌∙◌, arith}
use Rattle.std.proofs.lemmas.Bool.{eq-eqb, false≢true}
use Rattle.std.proofs.lemmas.Option.{none-some, same_Some}
use Rattle.std.proofs.lemmas.List.Elements.{All-from_recursion}
use Rattle.std.specs.List.{AllByRecursion, flat_map}
use Rattle.term_core.specs.Plain.{plain}
use Rattle.term_core.proofs.Lists.{all_front, all_behind, each_append}
use Rattle.server_core.specs.declared.command.Cmd.{Cmd}
use Rattle.server_core.specs.declared.command.Cmd.TheVariants as cmds
use Rattle.server_core.specs.CommandTable.{IsOfText}
use Rattle.mod_core.specs.declared.code.Module.{Module}
use Rattle.script_core.specs.declared.script.Script.{Script}
use Rattle.script_core.specs.declared.script.ScriptCmd.{ScriptCmd}
use Rattle.script_core.specs.declared.script.ScriptCmd.TheVariants as script
use Rattle.script_core.specs.Sound.{IsCmdOf, IsScript}
use Rattle.script_core.specs.Processes.{SpawnLine, spawns_from, spawns_of}
use Rattle.script_core.proofs.SpawnLines.{all_counted}
use Rattle.script_core.proofs.ShortTerms.{short_term}
use Rattle.run_log.specs.declared.logs.Who.{Who}
use Rattle.run_log.specs.declared.logs.Who.TheVariants.{Loader, Runtime}
use Rattle.run_log.specs.declared.logs.Entry.{Entry}
use Rattle.run_log.specs.declared.logs.ProcessLog.{ProcessLog}
use Rattle.run_log.specs.Journal.{is_of}
use Rattle.run_log.specs.Legal.{LogsMatch, commands_in, commands_of, ended_by, is_release, is_runtime}

-- ---- the terms of puts

own_first : (P : ScriptCmd → Type 0) (own : Bool) (x : Entry) (xs : List Entry) → own ≡ true → AllByRecursion P (flat_map (λ (e : Entry). ended_by e.cmd) (cond own (x ∷ xs) xs)) → AllByRecursion P (ended_by x.cmd)
own_first P true x xs is h = all_front P (ended_by x.cmd) (flat_map (λ (e : Entry). ended_by e.cmd) xs) h
own_first P false x xs is h = absurd (false≢true is)

own_rest : (P : ScriptCmd → Type 0) (own : Bool) (x : Entry) (xs : List Entry) → AllByRecursion P (flat_map (λ (e : Entry). ended_by e.cmd) (cond own (x ∷ xs) xs)) → AllByRecursion P (flat_map (λ (e : Entry). ended_by e.cmd) xs)
own_rest P true x xs h = all_behind P (ended_by x.cmd) (flat_map (λ (e : Entry). ended_by e.cmd) xs) h
own_rest P false x xs h = h

-- what holds of each command that a loader's entries end holds of what one of them ends
ended_at : (P : ScriptCmd → Type 0) (loader : ℕ) (journal : List Entry) (place : ℕ) (e : Entry) → AllByRecursion P (commands_in loader journal) → slice_get journal place ≡ Some e → is_of loader e.who ≡ true → AllByRecursion P (ended_by e.cmd)
ended_at P loader [] place e h at own = absurd (none-some e at)
ended_at P loader (x ∷ journal) zero e h at own =
    let same = same_Some x e at in
    subst (λ (y : Entry). AllByRecursion P (ended_by y.cmd)) same
    (own_first P (is_of loader x.who) x (filter (λ (y : Entry). is_of loader y.who) journal) (ap (λ (y : Entry). is_of loader y.who) same ∙ own) h)
ended_at P loader (x ∷ journal) (suc place) e h at own = ended_at P loader journal place e (own_rest P (is_of loader x.who) x (filter (λ (y : Entry). is_of loader y.who) journal) h) at own

-- each command of a loader is one that can be made
commands_fit : (P : ScriptCmd → Type 0) (loaders : List (List ScriptCmd)) (loader : ℕ) → AllByRecursion (λ commands. AllByRecursion P commands) loaders → AllByRecursion P (unwrap_or (slice_get loaders loader) [])
commands_fit P [] loader h = tt
commands_fit P (commands ∷ loaders) zero h = h.0
commands_fit P (commands ∷ loaders) (suc loader) h = commands_fit P loaders loader h.1

-- a release has no term
release_of_text : (cmd : Cmd) → true ≡ is_release cmd → IsOfText cmd
release_of_text (cmds.Put key term) h = absurd (false≢true (sym h))
release_of_text cmd h = tt

module _ (s : Script) (sound : IsScript s) where
  -- what ends a command of the script has a term that a text can say
  ended_of_text : (cmd : Cmd) → AllByRecursion (IsCmdOf s.names s.modules) (ended_by cmd) → IsOfText cmd
  ended_of_text (cmds.Put key term) h = short_term s.names (plain term) sound.names.room h.0.is_term
  ended_of_text cmd h = tt

  module _ (journal : List Entry) (commands : (loader : ℕ) → commands_in loader journal ≡ commands_of s loader) (place : ℕ) (e : Entry) (at : slice_get journal place ≡ Some e) where
    loader_of_text : (number : ℕ) → e.who ≡ Loader number → IsOfText e.cmd
    loader_of_text number is =
        ended_of_text e.cmd
        (ended_at (IsCmdOf s.names s.modules) number journal place e
        (subst (AllByRecursion (IsCmdOf s.names s.modules)) (sym (commands number)) (commands_fit (IsCmdOf s.names s.modules) s.loaders number sound.commands)) at
        (ap (is_of number) is ∙ eq-eqb number number refl))

    by_who : (who : Who) → e.who ≡ who → is_runtime e.who ≡ is_release e.cmd → IsOfText e.cmd
    by_who (Loader number) is by = loader_of_text number is
    by_who Runtime is by = release_of_text e.cmd (sym (ap is_runtime is) ∙ by)

    -- an entry that is made by whom it may be puts a term that a text can say
    pub of_text : is_runtime e.who ≡ is_release e.cmd → IsOfText e.cmd
    of_text by = by_who e.who refl by

-- ---- the processes

abbrev HasArity : SpawnLine → Type 0
HasArity line = length line.args ≡ line.target.arity

arities_from : (names : List (List ℕ)) (texts : List Module) (loader place : ℕ) (commands : List ScriptCmd) → AllByRecursion (IsCmdOf names texts) commands → AllByRecursion HasArity (spawns_from loader place commands)
arities_from names texts loader place [] h = tt
arities_from names texts loader place (script.Spawn target args ∷ commands) h = (sym h.0.arity_is, arities_from names texts loader (suc place) commands h.1)
arities_from names texts loader place (cmd ∷ commands) h = arities_from names texts loader (suc place) commands h.1

arities_of : (names : List (List ℕ)) (texts : List Module) (loader : ℕ) (loaders : List (List ScriptCmd)) → AllByRecursion (λ commands. AllByRecursion (IsCmdOf names texts) commands) loaders → AllByRecursion HasArity (spawns_of loader loaders)
arities_of names texts loader [] h = tt
arities_of names texts loader (commands ∷ loaders) h =
    each_append HasArity (spawns_from loader 0 commands) (spawns_of (suc loader) loaders) (arities_from names texts loader 0 commands h.0) (arities_of names texts (suc loader) loaders h.1)

arities_matched : (lines : List SpawnLine) (processes : List ProcessLog) → AllByRecursion HasArity lines → LogsMatch lines processes → AllByRecursion (λ process. length process.args ≡ process.target.arity) processes
arities_matched [] [] h match = tt
arities_matched [] (process ∷ processes) h match = absurd match
arities_matched (line ∷ lines) [] h match = tt
arities_matched (line ∷ lines) (process ∷ processes) h match = (
  ap length match.0.args ∙ h.0 ∙ ap (λ t. t.arity) (sym match.0.target),
  arities_matched lines processes h.1 match.1,
)

match_counted : (lines : List SpawnLine) (processes : List ProcessLog) → LogsMatch lines processes → length processes ≡ length lines
match_counted [] [] match = refl
match_counted [] (process ∷ processes) match = absurd match
match_counted (line ∷ lines) [] match = absurd match
match_counted (line ∷ lines) (process ∷ processes) match = let rest = match_counted lines processes match.1 in omega (arith, rest)

module _ (s : Script) (sound : IsScript s) (processes : List ProcessLog) (match : LogsMatch (spawns_of 0 s.loaders) processes) where
  -- each process of a log that matches the script has as many arguments as its target takes
  pub arities : All (λ process. length process.args ≡ process.target.arity) processes
  arities =
      All-from_recursion (λ process. length process.args ≡ process.target.arity) processes
      (arities_matched (spawns_of 0 s.loaders) processes (arities_of s.names s.modules 0 s.loaders sound.commands) match)

  -- and there are few
  pub few : length processes < 2 ^ 32
  few = let many = match_counted (spawns_of 0 s.loaders) processes match in let count = all_counted 0 s.loaders in omega (arith, many, count, sound.few_processes)
