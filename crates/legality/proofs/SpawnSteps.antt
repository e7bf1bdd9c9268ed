-- What an entry leaves to be asked of the processes whose spawns are still to come.
use Rattle.std.proofs.Common.{◌≡◌, ◌↔◌, ◌⊎◌, ℕ, zero, suc, ◌+◌, ◌<◌, ◌≤◌, ◌&&◌, Bool, true, false, List, [], ◌∷◌, ◌++◌, length, take, slice_get, slice_index, Option, None, Some, IsTrue, IfSome, if◌then◌else◌, refl, sym, ap, subst, ◌∙◌, inl, inr, arith, get_or-set_same, get_or-set_other}
use Rattle.std.proofs.lemmas.Bool.{cases_eq, cases_lt}
use Rattle.std.proofs.lemmas.List.{length-set}
use Rattle.std.proofs.lemmas.List.Sums.{sum_by-cons}
use Rattle.std.proofs.lemmas.Option.{none-some, same_Some}
use Rattle.term_core.specs.declared.atom.Mfa.{Mfa}
use Rattle.term_core.specs.PlainTerm.{PlainTerm}
use Rattle.term_core.proofs.Truths.{not_both}
use Rattle.server_core.specs.declared.command.Cmd.{Cmd}
use Rattle.server_core.specs.declared.command.Cmd.TheVariants as cmds
use Rattle.script_core.specs.declared.script.Script.{Script}
use Rattle.script_core.specs.declared.script.ScriptCmd.{ScriptCmd}
use Rattle.script_core.specs.declared.script.ScriptCmd.TheVariants.{Spawn}
use Rattle.script_core.specs.Processes.{spawns_in, commands_at, spawn_count, first_number, spawn_number}
use Rattle.run_log.specs.declared.logs.Entry.{Entry}
use Rattle.run_log.specs.declared.logs.ProcessLog.{ProcessLog}
use Rattle.run_log.specs.declared.logs.RunLog.{RunLog}
use Rattle.run_log.specs.declared.logs.Who.{Who}
use Rattle.run_log.specs.declared.logs.Who.TheVariants.{Loader, Runtime}
use Rattle.run_log.specs.Journal.{is_of, ends_one, ends_command, publishes, published_before}
use Rattle.run_log.specs.Legal.{SpawnBeforeTurns, commands_in, commands_of, ended_by}
use Rattle.legality.specs.SpawnNumbers.{is_spawn, spawned_by, spawning_loader, BeginsFrom, HasMovedOn, moved_on, stays_behind, CommandsFit, LaterSpawnsFit}
use Rattle.legality.proofs.Equivalences.{through, of_equal}
use Rattle.legality.proofs.ListPlaces.{within}
use Rattle.legality.proofs.CommandPlaces.{commands_of_own, commands_of_other, ends_none, ends_some, is_own, is_other, leaves_all, none_beyond}
use Rattle.script_core.proofs.SpawnLines.{LineAt, line_at, spawn_at}

-- so many were published before a later command of the loader
before_on : (loader : ℕ) (e : Entry) (journal : List Entry) → ends_command loader e ≡ false → (place : ℕ) → published_before loader place (e ∷ journal) ≡ publishes e + published_before loader place journal
before_on loader e journal h zero = ap (λ b. if b then 0 else publishes e + published_before loader zero journal) h
before_on loader e journal h (suc place) = ap (λ b. publishes e + published_before loader (if b then place else suc place) journal) h

-- before the first command, nothing was
before_first : (loader : ℕ) (e : Entry) (journal : List Entry) → ends_command loader e ≡ true → published_before loader 0 (e ∷ journal) ≡ 0
before_first loader e journal h = ap (λ b. if b then 0 else publishes e + published_before loader zero journal) h

-- and before the one behind it, what the entry published
before_next : (loader : ℕ) (e : Entry) (journal : List Entry) → ends_command loader e ≡ true → (place : ℕ) → published_before loader (suc place) (e ∷ journal) ≡ publishes e + published_before loader place journal
before_next loader e journal h place = ap (λ b. publishes e + published_before loader (if b then place else suc place) journal) h

-- an entry that ends no command of the loader
skips : (processes : List ProcessLog) (loader published next : ℕ) (commands : List ScriptCmd) (e : Entry) (journal : List Entry) → ends_command loader e ≡ false
    → CommandsFit processes loader published next commands (e ∷ journal) ↔ CommandsFit processes loader (published + publishes e) next commands journal
skips processes loader published next commands e journal h =
    (λ fit. λ place target args process a b. subst (λ n. BeginsFrom n process) (counts place) (fit place target args process a b), λ fit. λ place target args process a b. subst (λ n. BeginsFrom n process) (sym (counts place)) (fit place target args process a b))
  where
    counts : (place : ℕ) → published + published_before loader place (e ∷ journal) ≡ published + publishes e + published_before loader place journal
    counts place = let b = before_on loader e journal h place in omega (arith, b)

-- the first turn of the process that a command spawns, if it spawns one
abbrev pub FirstBegins : List ProcessLog → ℕ → ℕ → ScriptCmd → Type 0
FirstBegins processes published next c = (target : Mfa) (args : List PlainTerm) (process : ProcessLog) → c ≡ Spawn target args → slice_get processes next ≡ Some process → BeginsFrom published process

-- an entry that ends a command of the loader
takes : (processes : List ProcessLog) (loader published next : ℕ) (c : ScriptCmd) (commands : List ScriptCmd) (e : Entry) (journal : List Entry) → ends_command loader e ≡ true
    → CommandsFit processes loader published next (c ∷ commands) (e ∷ journal) ↔ (FirstBegins processes published next c × CommandsFit processes loader (published + publishes e) (next + spawns_in c) commands journal)
takes processes loader published next c commands e journal h = (λ fit. (first fit, later fit), λ both. back both)
  where
    counts_first : published + published_before loader 0 (e ∷ journal) ≡ published
    counts_first = let b = before_first loader e journal h in omega (arith, b)

    counts : (place : ℕ) → published + published_before loader (suc place) (e ∷ journal) ≡ published + publishes e + published_before loader place journal
    counts place = let b = before_next loader e journal h place in omega (arith, b)

    at_first : slice_get processes (next + spawn_count (take 0 (c ∷ commands))) ≡ slice_get processes next
    at_first = let n : next + 0 ≡ next = omega arith in ap (slice_get processes) n

    at_place : (place : ℕ) → slice_get processes (next + spawn_count (take (suc place) (c ∷ commands))) ≡ slice_get processes (next + spawns_in c + spawn_count (take place commands))
    at_place place = ap (slice_get processes) (omega (arith, sum_by-cons spawns_in c (take place commands)))

    first : CommandsFit processes loader published next (c ∷ commands) (e ∷ journal) → FirstBegins processes published next c
    first fit target args process is at = subst (λ n. BeginsFrom n process) counts_first (fit 0 target args process (ap Some is) (at_first ∙ at))

    later : CommandsFit processes loader published next (c ∷ commands) (e ∷ journal) → CommandsFit processes loader (published + publishes e) (next + spawns_in c) commands journal
    later fit place target args process a b = subst (λ n. BeginsFrom n process) (counts place) (fit (suc place) target args process a (at_place place ∙ b))

    back : FirstBegins processes published next c × CommandsFit processes loader (published + publishes e) (next + spawns_in c) commands journal → CommandsFit processes loader published next (c ∷ commands) (e ∷ journal)
    back both zero target args process a b = subst (λ n. BeginsFrom n process) (sym counts_first) (both.0 target args process (same_Some _ _ a) (sym at_first ∙ b))
    back both (suc place) target args process a b = subst (λ n. BeginsFrom n process) (sym (counts place)) (both.1 place target args process a (sym (at_place place) ∙ b))

-- where no process has the number, nothing is asked
past_all : (processes : List ProcessLog) (loader published next : ℕ) (commands : List ScriptCmd) (journal : List Entry) → length processes ≤ next → CommandsFit processes loader published next commands journal
past_all processes loader published next commands journal more place target args process a b =
    let l = within processes (next + spawn_count (take place commands)) process b in
    absurd (omega (arith, l, more))

-- the entries of others
others_skip : (processes : List ProcessLog) (loader published next : ℕ) (e : Entry) (journal : List Entry) → is_of loader e.who ≡ false
    → CommandsFit processes loader published next (commands_in loader (e ∷ journal)) (e ∷ journal) ↔ CommandsFit processes loader (published + publishes e) next (commands_in loader journal) journal
others_skip processes loader published next e journal h =
    through (of_equal (λ cs. CommandsFit processes loader published next cs (e ∷ journal)) _ _ (commands_of_other loader e journal h))
    (skips processes loader published next (commands_in loader journal) e journal (ap (λ b. b && ends_one e.cmd) h))

-- a command that is no spawn
same_head : {X : Type 0} (x y : X) → x ∷ [] ≡ y ∷ [] → x ≡ y
same_head x y h = cc

-- the command of a script that it ends is none either
ends_no_spawn : (cmd : Cmd) → is_spawn cmd ≡ false → (c : ScriptCmd) → ended_by cmd ≡ c ∷ [] → (spawns_in c ≡ 0) × ((target : Mfa) (args : List PlainTerm) → c ≡ Spawn target args → ⊥)
ends_no_spawn (cmds.Doom name) n c h = absurd (cc)
ends_no_spawn (cmds.Release serial) n c h = absurd (cc)
ends_no_spawn (cmds.Spawn target args) n c h = absurd (cc)
ends_no_spawn cmd n c h = let q = same_head _ _ h in (ap spawns_in (sym q), λ target args r. cc (q, r))

-- an entry of the loader that spawns no process
own_plain : (processes : List ProcessLog) (loader published next : ℕ) (e : Entry) (journal : List Entry) → is_of loader e.who ≡ true → is_spawn e.cmd ≡ false → (b : Bool) → ends_one e.cmd ≡ b
    → CommandsFit processes loader published next (commands_in loader (e ∷ journal)) (e ∷ journal) ↔ CommandsFit processes loader (published + publishes e) next (commands_in loader journal) journal
own_plain processes loader published next e journal own plain false ends =
    through (of_equal (λ cs. CommandsFit processes loader published next cs (e ∷ journal)) _ _ (leaves_all loader e journal (ends_none e.cmd ends)))
    (skips processes loader published next (commands_in loader journal) e journal (ap (λ b. b && ends_one e.cmd) own ∙ ends))
own_plain processes loader published next e journal own plain true ends =
    let one = ends_some e.cmd ends in
    let none = ends_no_spawn e.cmd plain one.0 one.1 in
    let is = commands_of_own loader e journal own ∙ ap (λ xs. xs ++ commands_in loader journal) one.1 in
    let step = takes processes loader published next one.0 (commands_in loader journal) e journal (ap (λ b. b && ends_one e.cmd) own ∙ ends) in
    let same : next + spawns_in one.0 ≡ next = omega (arith, none.0) in
    through (of_equal (λ cs. CommandsFit processes loader published next cs (e ∷ journal)) _ _ is)
    (through step (
      λ both. subst (λ n. CommandsFit processes loader (published + publishes e) n (commands_in loader journal) journal) same both.1,
      λ fit. (λ target args process r at. absurd (none.1 target args r), subst (λ n. CommandsFit processes loader (published + publishes e) n (commands_in loader journal) journal) (sym same) fit),
    ))

-- an entry that spawns no process, of the loader or not
plain_each : (processes : List ProcessLog) (loader published next : ℕ) (e : Entry) (journal : List Entry) → (is_of loader e.who ≡ true → is_spawn e.cmd ≡ false) → (b : Bool) → is_of loader e.who ≡ b
    → CommandsFit processes loader published next (commands_in loader (e ∷ journal)) (e ∷ journal) ↔ CommandsFit processes loader (published + publishes e) next (commands_in loader journal) journal
plain_each processes loader published next e journal plain true own = own_plain processes loader published next e journal own (plain own) (ends_one e.cmd) refl
plain_each processes loader published next e journal plain false other = others_skip processes loader published next e journal other

-- an entry that spawns no process of these loaders
pub no_spawn_step : (processes : List ProcessLog) (published : ℕ) (numbers : List ℕ) (e : Entry) → ((loader : ℕ) → loader < length numbers → is_of loader e.who ≡ true → is_spawn e.cmd ≡ false)
    → (journal : List Entry) → LaterSpawnsFit processes published numbers (e ∷ journal) ↔ (IsTrue true × LaterSpawnsFit processes (published + publishes e) numbers journal)
no_spawn_step processes published numbers e plain journal =
    (λ fit. (refl, λ k less. (each k less).0 (fit k less)), λ fit. λ k less. (each k less).1 (fit.1 k less))
  where
    each : (k : ℕ) → k < length numbers → CommandsFit processes k published (slice_index numbers k) (commands_in k (e ∷ journal)) (e ∷ journal) ↔ CommandsFit processes k (published + publishes e) (slice_index numbers k) (commands_in k journal) journal
    each k less = plain_each processes k published (slice_index numbers k) e journal (plain k less) (is_of k e.who) refl

-- what a choice that is there says
some_of : (b : Bool) (number loader : ℕ) → (if b then Some number else None) ≡ Some loader → (b ≡ true) × (number ≡ loader)
some_of true number loader h = (refl, same_Some _ _ h)
some_of false number loader h = absurd (none-some loader h)

-- and one that is not
none_of : (b : Bool) (number : ℕ) → (if b then Some number else None) ≡ None → b ≡ false
none_of true number h = absurd (none-some number (sym h))
none_of false number h = refl

-- what is known of a spawn's entry
spawn_by : (who : Who) (b : Bool) (loader : ℕ) → spawned_by who b ≡ Some loader → (who ≡ Loader loader) × (b ≡ true)
spawn_by Runtime b loader h = absurd (none-some loader h)
spawn_by (Loader number) b loader h = let s = some_of b number loader h in (ap Loader s.1, s.0)

-- and of another
no_spawn_by : (who : Who) (b : Bool) (loader : ℕ) → spawned_by who b ≡ None → is_of loader who ≡ true → b ≡ false
no_spawn_by Runtime b loader h own = absurd (cc)
no_spawn_by (Loader number) b loader h own = none_of b number h

-- an entry that is no spawn of a loader
pub no_spawn : (processes : List ProcessLog) (published : ℕ) (numbers : List ℕ) (e : Entry) → spawning_loader e ≡ None
    → (journal : List Entry) → LaterSpawnsFit processes published numbers (e ∷ journal) ↔ (IsTrue true × LaterSpawnsFit processes (published + publishes e) numbers journal)
no_spawn processes published numbers e h = no_spawn_step processes published numbers e (λ loader less own. no_spawn_by e.who (is_spawn e.cmd) loader h own)

-- a spawn of a loader that has no number
pub spawn_beyond : (processes : List ProcessLog) (published : ℕ) (numbers : List ℕ) (e : Entry) (loader : ℕ) → spawning_loader e ≡ Some loader → length numbers ≤ loader
    → (journal : List Entry) → LaterSpawnsFit processes published numbers (e ∷ journal) ↔ (IsTrue true × LaterSpawnsFit processes (published + publishes e) numbers journal)
spawn_beyond processes published numbers e loader h more =
    let by = spawn_by e.who (is_spawn e.cmd) loader h in
    no_spawn_step processes published numbers e (λ k less own. absurd (not_both (is_of k e.who) own (is_other k loader e.who by.0 (λ q. omega (arith, q, less, more)))))

-- the call of a spawn
spawn_is : (cmd : Cmd) → is_spawn cmd ≡ true → (target : Mfa) × ((args : List PlainTerm) × (cmd ≡ cmds.Spawn target args))
spawn_is (cmds.Spawn target args) h = (target, (args, refl))
spawn_is cmd h = absurd (cc)

-- what is asked of the first process is asked of it alone
first_asked : (published : ℕ) (to : Mfa) (given : List PlainTerm) (o : Option ProcessLog)
    → ((target : Mfa) (args : List PlainTerm) (process : ProcessLog) → Spawn to given ≡ Spawn target args → o ≡ Some process → BeginsFrom published process) ↔ IfSome o (BeginsFrom published)
first_asked published to given None = (λ h. tt, λ h. λ target args process is at. absurd (none-some process at))
first_asked published to given (Some x) = (λ h. h to given x refl refl, λ h. λ target args process is at. subst (BeginsFrom published) (same_Some _ _ at) h)

-- the entry of a spawn, for its own loader
own_spawn : (processes : List ProcessLog) (loader published next : ℕ) (e : Entry) (journal : List Entry) → e.who ≡ Loader loader → is_spawn e.cmd ≡ true
    → CommandsFit processes loader published next (commands_in loader (e ∷ journal)) (e ∷ journal) ↔ (IfSome (slice_get processes next) (BeginsFrom published) × CommandsFit processes loader (published + publishes e) (next + 1) (commands_in loader journal) journal)
own_spawn processes loader published next e journal by spawns =
    let s = spawn_is e.cmd spawns in
    let own = is_own loader e.who by in
    let is = commands_of_own loader e journal own ∙ ap (λ cmd. ended_by cmd ++ commands_in loader journal) s.1.1 in
    let step = takes processes loader published next (Spawn s.0 s.1.0) (commands_in loader journal) e journal (ap (λ b. b && ends_one e.cmd) own ∙ ap ends_one s.1.1) in
    let first = first_asked published s.0 s.1.0 (slice_get processes next) in
    through (of_equal (λ cs. CommandsFit processes loader published next cs (e ∷ journal)) _ _ is) (through step (λ both. (first.0 both.0, both.1), λ both. (first.1 both.0, both.1)))

-- and for its own and all others
spawn_each : (processes : List ProcessLog) (published : ℕ) (old new : List ℕ) (e : Entry) (loader : ℕ) (answer : Bool) (journal : List Entry) → e.who ≡ Loader loader → is_spawn e.cmd ≡ true → loader < length old → length new ≡ length old
    → (IsTrue answer ↔ IfSome (slice_get processes (slice_index old loader)) (BeginsFrom published))
    → (CommandsFit processes loader (published + publishes e) (slice_index old loader + 1) (commands_in loader journal) journal ↔ CommandsFit processes loader (published + publishes e) (slice_index new loader) (commands_in loader journal) journal)
    → ((k : ℕ) → (k ≡ loader → ⊥) → slice_index new k ≡ slice_index old k)
    → LaterSpawnsFit processes published old (e ∷ journal) ↔ (IsTrue answer × LaterSpawnsFit processes (published + publishes e) new journal)
spawn_each processes published old new e loader answer journal by spawns less long asked own_next others = (λ fit. (asked.1 (own.0 (fit loader less)).0, λ k l. forth fit k l (cases_eq k loader)), λ fit. λ k l. back fit k l (cases_eq k loader))
  where
    own : CommandsFit processes loader published (slice_index old loader) (commands_in loader (e ∷ journal)) (e ∷ journal) ↔ (IfSome (slice_get processes (slice_index old loader)) (BeginsFrom published) × CommandsFit processes loader (published + publishes e) (slice_index old loader + 1) (commands_in loader journal) journal)
    own = own_spawn processes loader published (slice_index old loader) e journal by spawns

    other : (k : ℕ) → (k ≡ loader → ⊥) → CommandsFit processes k published (slice_index old k) (commands_in k (e ∷ journal)) (e ∷ journal) ↔ CommandsFit processes k (published + publishes e) (slice_index new k) (commands_in k journal) journal
    other k n = through (others_skip processes k published (slice_index old k) e journal (is_other k loader e.who by n)) (of_equal (λ m. CommandsFit processes k (published + publishes e) m (commands_in k journal) journal) _ _ (sym (others k n)))

    forth : LaterSpawnsFit processes published old (e ∷ journal) → (k : ℕ) → k < length new → (k ≡ loader) ⊎ (k ≡ loader → ⊥) → CommandsFit processes k (published + publishes e) (slice_index new k) (commands_in k journal) journal
    forth fit k l (inl q) = let P : ℕ → Type 0 = λ m. CommandsFit processes m (published + publishes e) (slice_index new m) (commands_in m journal) journal in subst P (sym q) (own_next.0 (own.0 (fit loader less)).1)
    forth fit k l (inr n) = (other k n).0 (fit k (omega (arith, l, long)))

    back : IsTrue answer × LaterSpawnsFit processes (published + publishes e) new journal → (k : ℕ) → k < length old → (k ≡ loader) ⊎ (k ≡ loader → ⊥) → CommandsFit processes k published (slice_index old k) (commands_in k (e ∷ journal)) (e ∷ journal)
    back fit k l (inl q) =
        let P : ℕ → Type 0 = λ m. CommandsFit processes m published (slice_index old m) (commands_in m (e ∷ journal)) (e ∷ journal) in
        subst P (sym q) (own.1 (asked.0 fit.0, own_next.1 (fit.1 loader (omega (arith, less, long)))))
    back fit k l (inr n) = (other k n).1 (fit.1 k (omega (arith, l, long)))

-- the entry of a spawn of a loader that has a number
pub spawn_step : (processes : List ProcessLog) (published : ℕ) (old new : List ℕ) (e : Entry) (loader : ℕ) (answer : Bool) → spawning_loader e ≡ Some loader → loader < length old
    → (IsTrue answer ↔ IfSome (slice_get processes (slice_index old loader)) (BeginsFrom published)) → HasMovedOn (length processes) loader old new
    → (journal : List Entry) → LaterSpawnsFit processes published old (e ∷ journal) ↔ (IsTrue answer × LaterSpawnsFit processes (published + publishes e) new journal)
spawn_step processes published old new e loader answer h less asked (moved_on is) journal =
    let by = spawn_by e.who (is_spawn e.cmd) loader h in
    spawn_each processes published old new e loader answer journal by.0 by.1 less (ap length is ∙ length-set old loader (slice_index old loader + 1)) asked
    (of_equal (λ m. CommandsFit processes loader (published + publishes e) m (commands_in loader journal) journal) _ _ (sym (ap (λ xs. slice_index xs loader) is ∙ get_or-set_same old loader (slice_index old loader + 1) 0 less)))
    (λ k n. ap (λ xs. slice_index xs k) is ∙ get_or-set_other old loader k (slice_index old loader + 1) 0 n)
spawn_step processes published old new e loader answer h less asked (stays_behind more is) journal =
    let by = spawn_by e.who (is_spawn e.cmd) loader h in
    let same : slice_index new loader ≡ slice_index old loader = ap (λ xs. slice_index xs loader) is in
    spawn_each processes published old new e loader answer journal by.0 by.1 less (ap length is) asked (
      λ fit. past_all processes loader (published + publishes e) (slice_index new loader) (commands_in loader journal) journal (omega (arith, same, more)),
      λ fit. past_all processes loader (published + publishes e) (slice_index old loader + 1) (commands_in loader journal) journal (omega (arith, more)),
    )
    (λ k n. ap (λ xs. slice_index xs k) is)

-- nothing stands in an empty list
nowhere : {X : Type 0} (xs : List X) (place : ℕ) (x : X) → xs ≡ [] → slice_get xs place ≡ Some x → ⊥
nowhere xs place x e h = none-some x (ap (λ ys. slice_get ys place) (sym e) ∙ h)

-- at the start all spawns are still to come
pub all_to_come : (s : Script) (log : RunLog) (processes : List ProcessLog) (numbers : List ℕ) (journal : List Entry) → ((loader : ℕ) → commands_in loader log.journal ≡ commands_of s loader)
    → ((k : ℕ) → k < length s.loaders → slice_index numbers k ≡ first_number s.loaders k) → length s.loaders ≤ length numbers → processes ≡ log.processes → journal ≡ log.journal
    → SpawnBeforeTurns s log ↔ LaterSpawnsFit processes 0 numbers journal
all_to_come s log processes numbers journal in_order first long same_processes same_journal = through (forth, back) (through (of_equal (λ ps. LaterSpawnsFit ps 0 numbers log.journal) _ _ (sym same_processes)) (of_equal (LaterSpawnsFit processes 0 numbers) _ _ (sym same_journal)))
  where
    number_is : (k place : ℕ) → k < length s.loaders → slice_index numbers k + spawn_count (take place (commands_in k log.journal)) ≡ spawn_number s.loaders k place
    number_is k place less = ap (λ cs. slice_index numbers k + spawn_count (take place cs)) (in_order k) ∙ ap (λ n. n + spawn_count (take place (commands_of s k))) (first k less)

    within_script : SpawnBeforeTurns s log → (k : ℕ) → k < length s.loaders → CommandsFit log.processes k 0 (slice_index numbers k) (commands_in k log.journal) log.journal
    within_script right k less place target args process a b =
        let line = spawn_at 0 s.loaders k place target args (ap (λ cs. slice_get cs place) (sym (in_order k)) ∙ a) in
        let begins = right (spawn_number s.loaders k place) (record { loader = 0 + k; place = place; target = target; args = args }) process line (ap (slice_get log.processes) (sym (number_is k place less)) ∙ b) in
        let zero_more : 0 + k ≡ k = omega arith in
        let more_zero : published_before k place log.journal ≡ 0 + published_before k place log.journal = omega arith in
        let same : published_before (0 + k) place log.journal ≡ 0 + published_before k place log.journal = ap (λ n. published_before n place log.journal) zero_more ∙ more_zero in
        subst (λ n. BeginsFrom n process) same begins

    forth : SpawnBeforeTurns s log → LaterSpawnsFit log.processes 0 numbers log.journal
    forth right k less = by_loader (cases_lt k (length s.loaders))
      where
        by_loader : (k < length s.loaders) ⊎ (length s.loaders ≤ k) → CommandsFit log.processes k 0 (slice_index numbers k) (commands_in k log.journal) log.journal
        by_loader (inl within_loaders) = within_script right k within_loaders
        by_loader (inr more) = λ place target args process a b. absurd (nowhere (commands_in k log.journal) place (Spawn target args) (in_order k ∙ none_beyond s.loaders k more) a)

    back : LaterSpawnsFit log.processes 0 numbers log.journal → SpawnBeforeTurns s log
    back fit number line process a b = by_loader (line_at 0 s.loaders number line a)
      where
        in_script : (l : LineAt 0 s.loaders number line) → (l.at < length s.loaders) ⊎ (length s.loaders ≤ l.at) → BeginsFrom (published_before line.loader line.place log.journal) process
        in_script l (inl less) =
            let here = fit l.at (omega (arith, less, long)) line.place line.target line.args process (ap (λ cs. slice_get cs line.place) (in_order l.at) ∙ l.command) (ap (slice_get log.processes) (number_is l.at line.place less ∙ sym l.number_is) ∙ b) in
            let more_zero : 0 + published_before l.at line.place log.journal ≡ published_before l.at line.place log.journal = omega arith in
            let loader_is : l.at ≡ line.loader = omega (arith, l.loader_is) in
            subst (λ n. BeginsFrom n process) (more_zero ∙ ap (λ n. published_before n line.place log.journal) loader_is) here
        in_script l (inr more) = absurd (nowhere (commands_at s.loaders l.at) line.place (Spawn line.target line.args) (none_beyond s.loaders l.at more) l.command)

        by_loader : LineAt 0 s.loaders number line → BeginsFrom (published_before line.loader line.place log.journal) process
        by_loader l = in_script l (cases_lt l.at (length s.loaders))
