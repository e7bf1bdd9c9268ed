-- What each step of a permit leaves of its book.
use Rattle.std.proofs.Common.{◌≡◌, ℕ, zero, suc, length, get_or, slice_set, take, sum_by, slice_get, unwrap_or, Bool, false, if◌then◌else◌, ◌+◌, ◌<◌, ◌≤◌, IsSome, Option, Some, None, List, [], ◌∷◌, option_map, option_and_then, refl, sym, ap, subst, ◌∙◌, arith}
use Rattle.std.proofs.lemmas.List.Sums.{sum_by-cons}
use Rattle.std.proofs.lemmas.Option.{none-some, same_Some, slice_get_read, slice_get_within}
use Rattle.server_core.specs.declared.command.Applied.{Applied}
use Rattle.server_core.specs.declared.command.Cmd.{Cmd}
use Rattle.server_core.specs.declared.command.Cmd.TheVariants as cmds
use Rattle.mod_core.specs.declared.code.Module.{Module}
use Rattle.server_core.specs.ServerState.{IsSound, ServerState}
use Rattle.server_core.specs.CommandTable.{IsOfText, Outcome, apply_of}
use Rattle.script_core.specs.declared.script.ScriptCmd.{ScriptCmd}
use Rattle.script_core.specs.declared.script.ScriptCmd.TheVariants.{CheckOld, Load, Spawn}
use Rattle.script_core.specs.Processes.{spawn_count, spawn_number, spawns_in}
use Rattle.script_core.proofs.SpawnLines.{number_further}
use Rattle.run_log.specs.declared.logs.Who.{Who}
use Rattle.run_log.specs.declared.logs.Who.TheVariants.{Loader, Runtime}
use Rattle.write_permit.specs.declared.book.Book.{Book}
use Rattle.write_permit.specs.declared.loader_run.LoaderRun.{LoaderRun}
use Rattle.write_permit.specs.Agreement.{AgreesWithServer}
use Rattle.write_permit.specs.Book.{IsBook, IsPermit, shown}
use Rattle.write_permit.specs.Permit.{PermitState, PermitStep, at_once_of, counted_in, done_by, done_of, is_spawn, joined, made_of, needs_permission, next_of, loader_after, command_opening, spawned_by}
use Rattle.write_permit.proofs.Entered.{next_number}
use Rattle.write_permit.proofs.Kept.{at_once_keeps, release_keeps, there}

-- the outcome of a command that was made
pub record WasMade (p : PermitState) (who : Who) (cmd : Cmd) (q : PermitState) (answer : Applied) : Type 0 where
  pub outcome : Outcome
  pub applied : apply_of p.script.modules p.server cmd ≡ Some outcome
  pub state : q ≡ joined p who cmd outcome
  pub answer_is : outcome.answer ≡ answer

pub was_made : (p : PermitState) (who : Who) (cmd : Cmd) (q : PermitState) (answer : Applied) → made_of p who cmd ≡ Some (record { state = q; answer = answer }) → WasMade p who cmd q answer
was_made p who cmd q answer h = by (apply_of p.script.modules p.server cmd) refl h
  where
    by : (o : Option Outcome) → apply_of p.script.modules p.server cmd ≡ o → option_map {U = PermitStep} (λ x. record { state = joined p who cmd x; answer = x.answer }) o ≡ Some (record { state = q; answer = answer }) → WasMade p who cmd q answer
    by None e g = absurd (none-some _ g)
    by (Some x) e g =
        let s : record { state = joined p who cmd x; answer = x.answer } ≡ record { state = q; answer = answer } = same_Some _ _ g in
        record { outcome = x; applied = e; state = sym (ap (λ (t : PermitStep). t.state) s); answer_is = ap (λ (t : PermitStep). t.answer) s }

-- a book after a step that is known of what it shows
pub book_by : (b : Book) (p : PermitState) → shown b ≡ p → IsPermit p → AgreesWithServer b.modules.instances b.server → IsBook b
book_by b p same permit agrees = record { permit = subst IsPermit (sym same) permit; agrees = agrees }

-- a release keeps a book
pub book_released : (b c : Book) (serial : ℕ) (answer : Applied) → IsBook b → made_of (shown b) Runtime (cmds.Release serial) ≡ Some (record { state = shown c; answer = answer }) → IsSound c.server → AgreesWithServer c.modules.instances c.server → IsBook c
book_released b c serial answer known made sound agrees =
    let w = was_made (shown b) Runtime (cmds.Release serial) (shown c) answer made in
    book_by c (joined (shown b) Runtime (cmds.Release serial) w.outcome) w.state
    (release_keeps (shown b) serial w.outcome known.permit w.applied (subst IsSound (ap (λ (x : PermitState). x.server) w.state) sound)) agrees

-- ---- a command that is made at once

-- a text can say it
pub at_once_text : (s : ServerState) (command : ScriptCmd) → needs_permission command ≡ false → IsOfText (command_opening s [] command)
at_once_text s (CheckOld name) free = tt
at_once_text s (Spawn target args) free = tt
at_once_text s command free = absurd (cc)

-- and the command table has a case for it
pub at_once_enabled : (texts : List Module) (s : ServerState) (command : ScriptCmd) → needs_permission command ≡ false → IsSome (apply_of texts s (command_opening s [] command))
at_once_enabled texts s (CheckOld name) free = refl
at_once_enabled texts s (Spawn target args) free = refl
at_once_enabled texts s command free = absurd (cc)

-- the book has the loader still
pub loader_stays : (b m : Book) (who : ℕ) (command : ScriptCmd) (cmd : Cmd) (answer : Applied) → IsBook b → next_of (shown b) who ≡ Some command → made_of (shown b) (Loader who) cmd ≡ Some (record { state = shown m; answer = answer }) → who < length m.loaders.items
loader_stays b m who command cmd answer known next made =
    let w = was_made (shown b) (Loader who) cmd (shown m) answer made in
    let same : length m.loaders.items ≡ length b.loaders.items = ap (λ (x : PermitState). length x.loaders) w.state in
    let its = there (shown b) known.permit who command next in
    omega (arith, same, slice_get_within b.loaders.items who its.0 its.1)

pub count_same : (command : ScriptCmd) → (if is_spawn command then 1 else 0) ≡ spawns_in command
count_same (Load refs) = refl
count_same command = refl

-- what was counted and made is what the call tells
pub at_once_is : (p m q : PermitState) (who : ℕ) (command : ScriptCmd) (answer : Applied) → next_of p who ≡ Some command → made_of p (Loader who) (command_opening p.server [] command) ≡ Some (record { state = m; answer = answer })
    → q ≡ record m { loaders = counted_in p.loaders who command } → at_once_of p who ≡ Some (record { state = q; answer = answer })
at_once_is p m q who command answer next made counted =
    ap (option_and_then (λ x. done_by p who x (command_opening p.server [] x))) next
    ∙ ap (option_map {U = PermitStep} (λ s. record { state = record (s.state) { loaders = counted_in p.loaders who command }; answer = s.answer })) made
    ∙ ap (λ x. Some (record { state = x; answer = answer })) (sym counted)

-- and keeps the book
pub book_at_once : (b c : Book) (m : PermitState) (who : ℕ) (command : ScriptCmd) (answer : Applied) → IsBook b → next_of (shown b) who ≡ Some command → needs_permission command ≡ false
    → made_of (shown b) (Loader who) (command_opening (shown b).server [] command) ≡ Some (record { state = m; answer = answer }) → shown c ≡ record m { loaders = counted_in (shown b).loaders who command } → IsSound c.server → AgreesWithServer c.modules.instances c.server → IsBook c
book_at_once b c m who command answer known next free made counted sound agrees =
    let cmd = command_opening (shown b).server [] command in
    let w = was_made (shown b) (Loader who) cmd m answer made in
    let same : shown c ≡ record (joined (shown b) (Loader who) cmd w.outcome) { loaders = counted_in (shown b).loaders who command } = counted ∙ ap (λ (x : PermitState). record x { loaders = counted_in (shown b).loaders who command }) w.state in
    book_by c (record (joined (shown b) (Loader who) cmd w.outcome) { loaders = counted_in (shown b).loaders who command }) same
    (at_once_keeps (shown b) known.permit who command next w.outcome free w.applied (subst IsSound (ap (λ (x : PermitState). x.server) same) sound)) agrees

-- ---- the number of the process of a spawn

taken_fewer : (place : ℕ) (commands : List ScriptCmd) → spawn_count (take place commands) ≤ spawn_count commands
taken_fewer zero commands = omega arith
taken_fewer (suc place) [] = omega arith
taken_fewer (suc place) (c ∷ commands) = omega (arith, taken_fewer place commands, sum_by-cons spawns_in c (take place commands), sum_by-cons spawns_in c commands)

pub number_bounded : (loaders : List (List ScriptCmd)) (k place : ℕ) → spawn_number loaders k place ≤ sum_by spawn_count loaders
number_bounded [] zero zero = omega arith
number_bounded [] zero (suc place) = omega arith
number_bounded [] (suc k) zero = omega arith
number_bounded [] (suc k) (suc place) = omega arith
number_bounded (commands ∷ loaders) zero place =
    let first : spawn_number (commands ∷ loaders) zero place ≡ spawn_count (take place commands) = omega arith in
    omega (arith, first, taken_fewer place commands, sum_by-cons spawn_count commands loaders)
number_bounded (commands ∷ loaders) (suc k) place = omega (arith, number_further commands loaders k place, number_bounded loaders k place, sum_by-cons spawn_count commands loaders)

-- what a loader's next process is, and that its number is small
pub record NextProcess (p : PermitState) (who : ℕ) (l : LoaderRun) : Type 0 where
  pub number : l.next_process ≡ spawn_number p.script.loaders who (done_of p.loaders who)
  pub few : l.next_process ≤ 64
  pub done : l.done ≡ done_of p.loaders who

pub next_process : (p : PermitState) (who : ℕ) (l : LoaderRun) → IsPermit p → slice_get p.loaders who ≡ Some l → NextProcess p who l
next_process p who l known found =
    let done : done_of p.loaders who ≡ l.done = ap (λ o. unwrap_or (option_map (λ (x : LoaderRun). x.done) o) 0) found in
    let number : l.next_process ≡ spawn_number p.script.loaders who (done_of p.loaders who) = next_number p known who l found ∙ ap (spawn_number p.script.loaders who) (sym done) in
    record { number = number; few = omega (arith, number, number_bounded p.script.loaders who (done_of p.loaders who), known.script.few_processes); done = sym done }

-- the process that is told
pub spawned_is : (p : PermitState) (who : ℕ) (command : ScriptCmd) (spawns : Bool) (n : ℕ) → next_of p who ≡ Some command → n ≡ spawn_number p.script.loaders who (done_of p.loaders who) → spawns ≡ is_spawn command
    → (if spawns then Some n else None) ≡ spawned_by p who (next_of p who)
spawned_is p who command spawns n next is told = ap (λ b. chosen b) told ∙ by command ∙ ap (spawned_by p who) (sym next)
  where
    chosen : Bool → Option ℕ
    chosen b = if b then Some n else None

    by : (command : ScriptCmd) → chosen (is_spawn command) ≡ spawned_by p who (Some command)
    by (Spawn target args) = ap Some is
    by command = refl

-- ---- the loader that is counted

-- the loader that the code finds in a book to which an entry joined
pub loader_found : (b m : Book) (who : ℕ) (command : ScriptCmd) (cmd : Cmd) (answer : Applied) (l : LoaderRun) → IsBook b → next_of (shown b) who ≡ Some command → made_of (shown b) (Loader who) cmd ≡ Some (record { state = shown m; answer = answer })
    → l ≡ get_or m.loaders.items who l → slice_get b.loaders.items who ≡ Some l
loader_found b m who command cmd answer l known next made is =
    let w = was_made (shown b) (Loader who) cmd (shown m) answer made in
    let same : m.loaders.items ≡ b.loaders.items = ap (λ (x : PermitState). x.loaders) w.state in
    let t = there (shown b) known.permit who command next in
    slice_get_read b.loaders.items (length b.loaders.items) who l refl (slice_get_within b.loaders.items who t.0 t.1) (is ∙ ap (λ ls. get_or ls who l) same)

-- what the loaders are once it was counted
pub counted_by : (b m : Book) (who : ℕ) (command : ScriptCmd) (cmd : Cmd) (answer : Applied) (l after : LoaderRun) (spawns : Bool) → made_of (shown b) (Loader who) cmd ≡ Some (record { state = shown m; answer = answer }) → slice_get b.loaders.items who ≡ Some l
    → after ≡ record { done = l.done + 1; next_process = l.next_process + (if spawns then 1 else 0) } → spawns ≡ is_spawn command → slice_set m.loaders.items who after ≡ counted_in b.loaders.items who command
counted_by b m who command cmd answer l after spawns made found is told =
    let w = was_made (shown b) (Loader who) cmd (shown m) answer made in
    let same : m.loaders.items ≡ b.loaders.items = ap (λ (x : PermitState). x.loaders) w.state in
    let new : after ≡ loader_after command l = is ∙ ap (λ n. record { done = l.done + 1; next_process = l.next_process + n }) (ap (λ s. if s then 1 else 0) told ∙ count_same command) in
    (λ i. slice_set (same i) who (new i)) ∙ sym (ap (λ o. unwrap_or (option_map (λ x. slice_set b.loaders.items who (loader_after command x)) o) b.loaders.items) found)
