-- A journal in memory is so short that its generations, and the serials that it gives, are numbers of 64 bits.
use Rattle.std.proofs.Common.{◌≡◌, ℕ, suc, ◌+◌, ◌*◌, ◌≤◌, Bool, true, false, List, [], ◌∷◌, length, Option, Some, None, is_some, option_and_then, option_map, if◌then◌else◌, refl, ap, subst, arith}
use Rattle.std.proofs.lemmas.Option.{none-some, same_Some}
use Rattle.std.proofs.lemmas.Bool.Decides.{nat_tests}
use Rattle.term_core.specs.Image.{is_immediate}
use Rattle.term_core.specs.Plain.{plain}
use Rattle.term_core.specs.PlainTerm.{PlainTerm}
use Rattle.mod_core.specs.declared.code.Module.{Module}
use Rattle.server_core.specs.declared.command.TheConstants.{MOST_INSTANCES}
use Rattle.server_core.specs.declared.command.Cmd.{Cmd}
use Rattle.server_core.specs.declared.command.ModRef.{ModRef}
use Rattle.server_core.specs.ServerState.{ServerState, empty_state, live_count}
use Rattle.server_core.specs.CommandTable.{Outcome, apply_of, text_of, texts_of, with_all, with_complex, with_immediate, with_loaded}
use Rattle.server_core.proofs.Changes.{Came, came, as_before, came_in, was_deleted, was_soft_purged, was_doomed, was_purged, was_put, was_erased, was_traced, was_released}
use Rattle.script_core.specs.declared.script.Script.{Script}
use Rattle.run_log.specs.declared.logs.Entry.{Entry}
use Rattle.run_log.specs.declared.logs.RunLog.{RunLog}
use Rattle.run_log.specs.Journal.{newest_state, next_state, publishes, published_count, state_after}
use Rattle.run_log.proofs.Journals.{count-cons}
use Rattle.log_forms.specs.Numbers.{FitsWords, IsShortJournal}

-- ---- generations

one_at_most : (e : Entry) → publishes e ≤ 1
one_at_most e = by (is_some e.published)
  where
    by : (b : Bool) → (if b then 1 else 0) ≤ 1
    by true = omega arith
    by false = omega arith

published_few : (journal : List Entry) → published_count journal ≤ length journal
published_few [] = omega arith
published_few (e ∷ journal) = omega (arith, count-cons e journal, one_at_most e, published_few journal)

-- ---- serials

all_serials : (s : ServerState) (ms : List Module) → (with_all s ms).next_serial ≡ s.next_serial + length ms
all_serials s [] = omega arith
all_serials s (m ∷ ms) = let rest = all_serials (with_loaded s m) ms in omega (arith, rest)

count_given : (o : Option Module) (rest : Option (List Module)) (n : ℕ) (modules : List Module) → option_and_then (λ m. option_map (λ ms. m ∷ ms) rest) o ≡ Some modules → ((ms : List Module) → rest ≡ Some ms → length ms ≡ n) → length modules ≡ suc n
count_given None rest n modules h later = absurd (none-some modules h)
count_given (Some m) None n modules h later = absurd (none-some modules h)
count_given (Some m) (Some ms) n modules h later = subst (λ (x : List Module). length x ≡ suc n) (same_Some (m ∷ ms) modules h) (ap suc (later ms refl))

-- as many texts as a load names
texts_count : (texts : List Module) (refs : List ModRef) (modules : List Module) → texts_of texts refs ≡ Some modules → length modules ≡ length refs
texts_count texts [] modules h = subst (λ (x : List Module). length x ≡ 0) (same_Some [] modules h) refl
texts_count texts (r ∷ refs) modules h = count_given (text_of texts r) (texts_of texts refs) (length refs) modules h (λ ms e. texts_count texts refs ms e)

put_serials : (s : ServerState) (key : ℕ) (term : PlainTerm) (b : Bool) → (if b then with_immediate s key term else with_complex s key term).next_serial ≤ s.next_serial + 55
put_serials s key term true = omega arith
put_serials s key term false = omega arith

state_serial : (o p : Outcome) → o ≡ p → o.state.next_serial ≡ p.state.next_serial
state_serial o p e = ap (λ (x : Outcome). x.state.next_serial) e

-- a command gives at most 55 serials
came_few : (texts : List Module) (s : ServerState) (cmd : Cmd) (o : Outcome) → Came texts s cmd o → o.state.next_serial ≤ s.next_serial + 55
came_few texts s cmd o (as_before reply e) = let same = state_serial o _ e in omega (arith, same)
came_few texts s cmd o (came_in refs ms is rest comes e) =
    let same = state_serial o _ e in
    let room = comes.room in
    let few : live_count s.versions + length refs ≤ MOST_INSTANCES = grind (arith, nat_tests, room) in
    omega (arith, same, all_serials s ms, texts_count texts refs ms comes.given, few)
came_few texts s cmd o (was_deleted name is rest old current e) = let same = state_serial o _ e in omega (arith, same)
came_few texts s cmd o (was_soft_purged name serial is rest old e) = let same = state_serial o _ e in omega (arith, same)
came_few texts s cmd o (was_doomed name serial is rest old e) = let same = state_serial o _ e in omega (arith, same)
came_few texts s cmd o (was_purged name killed serial is doomed old e) = let same = state_serial o _ e in omega (arith, same)
came_few texts s cmd o (was_put key term is rest into e) = let same = state_serial o _ e in let few = put_serials s key.0 (plain term) (is_immediate (plain term)) in omega (arith, same, few)
came_few texts s cmd o (was_erased key p is rest held e) = let same = state_serial o _ e in omega (arith, same)
came_few texts s cmd o (was_traced target on f is rest at same e) = let equal = state_serial o _ e in omega (arith, equal)
came_few texts s cmd o (was_released serial is retired e) = let same = state_serial o _ e in omega (arith, same)

next_few : (texts : List Module) (s : ServerState) (cmd : Cmd) → (next_state texts s cmd).next_serial ≤ s.next_serial + 55
next_few texts s cmd = by (apply_of texts s cmd) refl
  where
    by : (o : Option Outcome) → apply_of texts s cmd ≡ o → (state_after s o).next_serial ≤ s.next_serial + 55
    by None e = omega arith
    by (Some o) e = came_few texts s cmd o (came texts s cmd o e)

serials_few : (texts : List Module) (s : ServerState) (journal : List Entry) → (newest_state texts s journal).next_serial ≤ s.next_serial + length journal * 55
serials_few texts s [] = omega arith
serials_few texts s (e ∷ journal) = let rest = serials_few texts (next_state texts s e.cmd) journal in omega (arith, next_few texts s e.cmd, rest)

-- so its numbers fit
pub fits_of : (s : Script) (log : RunLog) → IsShortJournal log.journal → FitsWords s log
fits_of s log short = let serials = serials_few s.modules empty_state log.journal in record { generations = omega (arith, short, published_few log.journal); serials = omega (arith, short, serials) }
