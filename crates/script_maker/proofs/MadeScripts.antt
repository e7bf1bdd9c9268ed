-- A made script is one that some text can say.
use Rattle.std.proofs.Common.{ℕ, ◌+◌, ◌/◌, ◌≤◌, [], ◌∷◌, ◌++◌, codes, refl, arith, lit≤}
use Rattle.std.proofs.lemmas.List.Sums.{sum_by-cons}
use Rattle.term_core.specs.Names.{IsNames, given_names}
use Rattle.term_core.proofs.NameTables.{given_names-IsNames, names_with-IsNames}
use Rattle.script_core.specs.Processes.{processes_of, spawn_count}
use Rattle.script_core.specs.Sound.{IsScript}
use Rattle.script_maker.specs.MadeScript.{made_commands, made_names, made_script, made_versions, subject_of}
use Rattle.script_maker.proofs.MadeCommands.{all_made, at_most_32}
use Rattle.script_maker.proofs.MadeModules.{first_given, first_subject, second_given, second_subject, texts_are, texts_held}

-- the names are a table
names_are : IsNames made_names
names_are =
    let m0 = names_with-IsNames given_names (codes "m0") given_names-IsNames refl (lit≤ tt) in
    let main = names_with-IsNames _ (codes "main") m0 refl (lit≤ tt) in
    let ver = names_with-IsNames _ (codes "ver") main refl (lit≤ tt) in
    let k0 = names_with-IsNames _ (codes "k0") ver refl (lit≤ tt) in
    let m1 = names_with-IsNames _ (codes "m1") k0 refl (lit≤ tt) in
    names_with-IsNames _ (codes "k1") m1 refl (lit≤ tt)

-- both loaders spawn at most 64 processes
few_processes : (seed size : ℕ) → processes_of (made_script seed size) ≤ 64
few_processes seed size =
    let first = made_commands seed 0 ((size + 1) / 2) in
    let second = made_commands seed 1 (size / 2) in
    let all = sum_by-cons spawn_count first (second ∷ []) in
    let rest = sum_by-cons spawn_count second [] in
    omega (arith, all, rest, at_most_32 seed 0 ((size + 1) / 2), at_most_32 seed 1 (size / 2))

-- a made script is a script
pub made_script-IsScript : (seed size : ℕ) → size ≤ 4000 → IsScript (made_script seed size)
made_script-IsScript seed size fits =
    let texts = made_versions (subject_of 0) ++ made_versions (subject_of 1) in
    record {
      names = names_are;
      texts = texts_are;
      held = texts_held;
      commands = (all_made texts seed 0 ((size + 1) / 2) first_subject first_given (omega (arith, fits)), (all_made texts seed 1 (size / 2) second_subject second_given (omega (arith, fits)), tt));
      few_loaders = lit≤ tt;
      few_processes = few_processes seed size;
      few_observers = lit≤ tt;
      snapshots = tt;
    }
