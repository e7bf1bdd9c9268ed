-- Each command of a made script can be made, and of each loader's at most 32 spawn a process.
use Rattle.std.proofs.Common.{◌≡◌, ℕ, zero, suc, ◌+◌, ◌*◌, ◌%◌, ◌<◌, ◌≤◌, Bool, true, false, cond, ◌==◌, nat_lt, List, map, IsTrue, is_some, refl, subst, arith, lit<, lit≤, add-one}
use Rattle.std.proofs.lemmas.Bool.{and_parts, ltb-true}
use Rattle.std.proofs.lemmas.List.FromFn.{sum_by-map-range_with_len_more}
use Rattle.std.specs.List.{AllByRecursion, range_with_len}
use Rattle.script_core.specs.declared.script.ScriptCmd.{ScriptCmd}
use Rattle.script_core.specs.Processes.{spawn_count, spawns_in}
use Rattle.script_core.specs.Sound.{IsCmdOf}
use Rattle.mod_core.specs.declared.code.Module.{Module}
use Rattle.server_core.specs.CommandTable.{text_of}
use Rattle.script_maker.specs.declared.subject.Subject.{Subject}
use Rattle.script_maker.specs.Generator.{number_after, picked}
use Rattle.script_maker.specs.MadeScript.{command_at, made_command, command_of_kind, made_commands, made_names, spawns_at, subject_of, version_at}
use Rattle.script_maker.proofs.MadeModules.{IsSubject, is_integer}

-- what holds of both holds of the one that is chosen
pub either : (P : ScriptCmd → Type 0) (b : Bool) (x y : ScriptCmd) → P x → P y → P (cond b x y)
either P true x y here there = here
either P false x y here there = there

-- where the test tells more
either_told : (P : ScriptCmd → Type 0) (b : Bool) (x y : ScriptCmd) → (b ≡ true → P x) → P y → P (cond b x y)
either_told P true x y here there = here refl
either_told P false x y here there = there

-- what the texts must give
abbrev pub AreGiven : List Module → Subject → Type 0
AreGiven texts about = (v : ℕ) → v < 8 → IsTrue (is_some (text_of texts (record { name = about.«module»; version = 1 + v })))

-- each command of a kind can be made
kind_made : (texts : List Module) (about : Subject) (place kind : ℕ) → IsSubject about → AreGiven texts about → place < 4000 → IsCmdOf made_names texts (command_of_kind about place kind)
kind_made texts about place kind is given below =
    let P = IsCmdOf made_names texts in
    let turn : place % 8 < 8 = omega arith in
    either P (kind == 0) _ _ (record { some = lit< tt; given = (given (place % 8) turn, tt) })
    (either P (kind == 1) _ _ is.module_named
    (either P (kind == 2) _ _ is.module_named
    (either P (kind == 3) _ _ (record { key_named = is.key_named; is_term = record { leaves = (is_integer place (omega (arith, below)), (is_integer (version_at place) (omega (arith, turn)), tt)); short = lit≤ tt } })
    (either P (kind == 4) _ _ is.key_named
    (either P (kind == 5) _ _ (record { module_named = is.module_named; name_named = lit< tt; few = lit≤ tt })
    (record { module_named = is.module_named; name_named = lit< tt; few = lit≤ tt }))))))

-- each command can be made
command_made : (texts : List Module) (about : Subject) (place number : ℕ) → IsSubject about → AreGiven texts about → place < 4000 → IsCmdOf made_names texts (made_command about place number)
command_made texts about place number is given below =
    let P = IsCmdOf made_names texts in
    either P (place == 0) _ _ (record { some = lit< tt; given = (given 0 (lit< tt), tt) })
    (either P (spawns_at place) _ _ (record { module_named = is.module_named; name_named = lit< tt; arity_is = refl; few = lit≤ tt; each = tt })
    (kind_made texts about place (picked number) is given below))

-- all commands of a loader from a place on can be made
made_from : (texts : List Module) (seed loader a n : ℕ) → IsSubject (subject_of loader) → AreGiven texts (subject_of loader) → a + n ≤ 4000 → AllByRecursion (IsCmdOf made_names texts) (map (command_at seed loader) (range_with_len a n))
made_from texts seed loader a zero is given fits = tt
made_from texts seed loader a (suc n) is given fits =
    (command_made texts (subject_of loader) a (number_after seed loader (a + 1)) is given (omega (arith, fits)), made_from texts seed loader (a + 1) n is given (omega (arith, fits)))

-- all commands of a loader can be made
pub all_made : (texts : List Module) (seed loader count : ℕ) → IsSubject (subject_of loader) → AreGiven texts (subject_of loader) → count ≤ 4000 → AllByRecursion (IsCmdOf made_names texts) (made_commands seed loader count)
all_made texts seed loader count is given fits = made_from texts seed loader 0 count is given (omega (arith, fits))

-- ---- processes

-- a command that makes a process stands at a place for it
data Makes (place : ℕ) (cmd : ScriptCmd) : Type 0 where
  makes_none : spawns_in cmd ≡ 0 → Makes place cmd
  makes_one : place < 256 → place % 8 ≡ 7 → spawns_in cmd ≡ 1 → Makes place cmd

kind_makes : (about : Subject) (place kind : ℕ) → Makes place (command_of_kind about place kind)
kind_makes about place kind =
    let P = Makes place in
    either P (kind == 0) _ _ (makes_none refl)
    (either P (kind == 1) _ _ (makes_none refl)
    (either P (kind == 2) _ _ (makes_none refl)
    (either P (kind == 3) _ _ (makes_none refl)
    (either P (kind == 4) _ _ (makes_none refl)
    (either P (kind == 5) _ _ (makes_none refl)
    (makes_none refl))))))

spawn_stands : (place : ℕ) → spawns_at place ≡ true → (place < 256) × (place % 8 ≡ 7)
spawn_stands place told = let parts = and_parts (nat_lt place 256) (place % 8 == 7) told in (ltb-true place 256 parts.0, grind (arith, parts.1))

command_makes : (about : Subject) (place number : ℕ) → Makes place (made_command about place number)
command_makes about place number =
    let P = Makes place in
    either P (place == 0) _ _ (makes_none refl)
    (either_told P (spawns_at place) _ _ (λ told. let at = spawn_stands place told in makes_one at.0 at.1 refl) (kind_makes about place (picked number)))

-- so many commands make at most every eighth one a process, and 32 in all
record AreFew (count spawns : ℕ) : Type 0 where
  every_eighth : 8 * spawns ≤ count
  at_most : spawns ≤ 32

few_more : (place spawns more : ℕ) (cmd : ScriptCmd) → AreFew place spawns → more ≡ spawns + spawns_in cmd → Makes place cmd → AreFew (place + 1) more
few_more place spawns more cmd few is (makes_none none) = record { every_eighth = omega (arith, few.every_eighth, is, none); at_most = omega (arith, few.at_most, is, none) }
few_more place spawns more cmd few is (makes_one below seventh one) = record { every_eighth = omega (arith, few.every_eighth, is, seventh, one); at_most = omega (arith, few.every_eighth, below, is, seventh, one) }

few_spawns : (seed loader count : ℕ) → AreFew count (spawn_count (made_commands seed loader count))
few_spawns seed loader zero = record { every_eighth = lit≤ tt; at_most = lit≤ tt }
few_spawns seed loader (suc count) =
    let more = sum_by-map-range_with_len_more spawns_in (command_at seed loader) 0 count count (omega arith) in
    subst (λ n. AreFew n (spawn_count (made_commands seed loader n))) (add-one count)
    (few_more count (spawn_count (made_commands seed loader count)) _ (command_at seed loader count) (few_spawns seed loader count) more (command_makes (subject_of loader) count (number_after seed loader (count + 1))))

-- a loader spawns at most 32 processes
pub at_most_32 : (seed loader count : ℕ) → spawn_count (made_commands seed loader count) ≤ 32
at_most_32 seed loader count = (few_spawns seed loader count).at_most
