-- A state and an outcome once an area was released: what else was retired and released stays.
use Rattle.std.proofs.Common.{◌≡◌, ℕ, ◌+◌, Bool, true, false, List, [], ◌∷◌, ◌++◌, length, drop, if◌then◌else◌, refl, sym, ap, ◌∙◌, append-nil}
use Rattle.std.specs.Option.{option_to_list}
use Rattle.term_core.specs.Image.{is_immediate}
use Rattle.term_core.specs.Plain.{plain}
use Rattle.term_core.specs.PlainTerm.{PlainTerm}
use Rattle.mod_core.specs.declared.code.Module.{Module}
use Rattle.server_core.specs.declared.change.Change.{Change}
use Rattle.server_core.specs.declared.change.Change.TheVariants.{Nothing, BringIn, MakeOld, DropOld, Condemn, HoldWord, HoldArea, Forget, SetTrace, ClearTrace, GiveBack}
use Rattle.server_core.specs.declared.command.Reply.{Reply}
use Rattle.server_core.specs.declared.command.Reply.TheVariants as replies
use Rattle.server_core.specs.Areas.{numbered}
use Rattle.server_core.specs.CommandTable.{Outcome, answered, published, unchanged, with_all, with_complex, with_deleted, with_dropped, with_erased, with_immediate, with_purged, with_put, with_released, with_trace, without_number}
use Rattle.server_core.specs.Decided.{IsNoRelease, change_made, with_doomed}
use Rattle.server_core.specs.Rooms.{with_currents}
use Rattle.server_core.specs.ServerState.{Entry, ServerState, entry_of, key_area}
use Rattle.server_core.proofs.CurrentCode.{names_of_modules}
use Rattle.server_core.proofs.Loads.{with_all_parts}

-- the state that was made of s, as it is where the area was released before: what was retired since stands behind what is left
abbrev pub later_state : ServerState → ℕ → ServerState → ServerState
later_state s n t = record t { retired = without_number n s.retired ++ drop (length s.retired) t.retired; released = s.released ++ n ∷ [] }

-- and the outcome
abbrev pub later : ServerState → ℕ → Outcome → Outcome
later s n o = record { state = later_state s n o.state; answer = o.answer }

-- ---- what is retired

none_behind : (xs : List ℕ) → drop (length xs) xs ≡ []
none_behind [] = refl
none_behind (x ∷ xs) = none_behind xs

those_behind : (xs ys : List ℕ) → drop (length xs) (xs ++ ys) ≡ ys
those_behind [] ys = refl
those_behind (x ∷ xs) ys = those_behind xs ys

-- where nothing was retired since
same_list : (s : ServerState) (n : ℕ) → without_number n s.retired ≡ without_number n s.retired ++ drop (length s.retired) s.retired
same_list s n = sym (append-nil (without_number n s.retired)) ∙ ap (λ rest. without_number n s.retired ++ rest) (sym (none_behind s.retired))

-- where these were
more_list : (s : ServerState) (n : ℕ) (more : List ℕ) → without_number n s.retired ++ more ≡ without_number n s.retired ++ drop (length s.retired) (s.retired ++ more)
more_list s n more = ap (λ rest. without_number n s.retired ++ rest) (sym (those_behind s.retired more))

-- a state that has retired just what s has
same_retired : (s : ServerState) (n : ℕ) (t : ServerState) → record t { retired = without_number n s.retired; released = s.released ++ n ∷ [] } ≡ later_state s n (record t { retired = s.retired })
same_retired s n t = ap (λ (xs : List ℕ). let u : ServerState = record t { retired = xs; released = s.released ++ n ∷ [] } in u) (same_list s n)

-- and one that has retired these besides
more_retired : (s : ServerState) (n : ℕ) (more : List ℕ) (t : ServerState)
    → record t { retired = without_number n s.retired ++ more; released = s.released ++ n ∷ [] } ≡ later_state s n (record t { retired = s.retired ++ more })
more_retired s n more t = ap (λ (xs : List ℕ). let u : ServerState = record t { retired = xs; released = s.released ++ n ∷ [] } in u) (more_list s n more)

-- ---- what each command leaves

pub later_same : (s : ServerState) (n : ℕ) → with_released s n ≡ later_state s n s
later_same s n = same_retired s n s

pub later_all : (s : ServerState) (n : ℕ) (ms : List Module) → with_all (with_released s n) ms ≡ later_state s n (with_all s ms)
later_all s n ms =
    with_all_parts (with_released s n) ms
    ∙ same_retired s n (record s { next_serial = s.next_serial + length ms; instances = s.instances ++ numbered s.next_serial ms; versions = with_currents s.versions s.next_serial (names_of_modules ms) })
    ∙ ap (later_state s n) (sym (with_all_parts s ms))

pub later_deleted : (s : ServerState) (n name : ℕ) → with_deleted (with_released s n) name ≡ later_state s n (with_deleted s name)
later_deleted s n name = same_retired s n (with_deleted s name)

pub later_doomed : (s : ServerState) (n serial : ℕ) → with_doomed (with_released s n) serial ≡ later_state s n (with_doomed s serial)
later_doomed s n serial = same_retired s n (with_doomed s serial)

pub later_traced : (s : ServerState) (n : ℕ) (e : Entry) (on : Bool) → with_trace (with_released s n) e on ≡ later_state s n (with_trace s e on)
later_traced s n e on = same_retired s n (with_trace s e on)

pub later_dropped : (s : ServerState) (n name serial : ℕ) → with_dropped (with_released s n) name serial ≡ later_state s n (with_dropped s name serial)
later_dropped s n name serial = more_retired s n (serial ∷ []) (with_dropped s name serial)

pub later_purged : (s : ServerState) (n name serial : ℕ) → with_purged (with_released s n) name serial ≡ later_state s n (with_purged s name serial)
later_purged s n name serial = more_retired s n (serial ∷ []) (with_purged s name serial)

pub later_immediate : (s : ServerState) (n key : ℕ) (term : PlainTerm) → with_immediate (with_released s n) key term ≡ later_state s n (with_immediate s key term)
later_immediate s n key term = more_retired s n (option_to_list (key_area s key)) (with_immediate s key term)

pub later_complex : (s : ServerState) (n key : ℕ) (term : PlainTerm) → with_complex (with_released s n) key term ≡ later_state s n (with_complex s key term)
later_complex s n key term = more_retired s n (option_to_list (key_area s key)) (with_complex s key term)

pub later_erased : (s : ServerState) (n key : ℕ) → with_erased (with_released s n) key ≡ later_state s n (with_erased s key)
later_erased s n key = more_retired s n (option_to_list (key_area s key)) (with_erased s key)

pub later_put : (s : ServerState) (n key : ℕ) (term : PlainTerm) → with_put (with_released s n) key term ≡ later_state s n (with_put s key term)
later_put s n key term = by (is_immediate term)
  where
    by : (b : Bool) → (if b then with_immediate (with_released s n) key term else with_complex (with_released s n) key term) ≡ later_state s n (if b then with_immediate s key term else with_complex s key term)
    by true = later_immediate s n key term
    by false = later_complex s n key term

-- ---- outcomes

pub later_unchanged : (s : ServerState) (n : ℕ) (reply : Reply) → unchanged (with_released s n) reply ≡ later s n (unchanged s reply)
later_unchanged s n reply = ap (λ t. unchanged t reply) (later_same s n)

-- what is published of a state that was made
pub later_published : (s : ServerState) (n : ℕ) (t u : ServerState) (reply : Reply) → u ≡ later_state s n t → published u reply ≡ later s n (published t reply)
later_published s n t u reply is = ap (λ v. published v reply) is

-- what each change but a release makes
pub later_made : (s : ServerState) (n : ℕ) (change : Change) → IsNoRelease change → change_made (with_released s n) change ≡ later s n (change_made s change)
later_made s n (Nothing reply) other = later_unchanged s n reply
later_made s n (BringIn generation modules areas versions) other = later_published s n (with_all s modules.items) (with_all (with_released s n) modules.items) replies.Ok (later_all s n modules.items)
later_made s n (MakeOld generation name) other = later_published s n (with_deleted s name.0) (with_deleted (with_released s n) name.0) replies.True (later_deleted s n name.0)
later_made s n (DropOld generation name serial says retired) other = later_published s n (with_purged s name.0 serial) (with_purged (with_released s n) name.0 serial) (answered says) (later_purged s n name.0 serial)
later_made s n (Condemn generation serial) other = later_published s n (with_doomed s serial) (with_doomed (with_released s n) serial) replies.Ok (later_doomed s n serial)
later_made s n (HoldWord generation key term keys retired) other = later_published s n (with_immediate s key.0 (plain term)) (with_immediate (with_released s n) key.0 (plain term)) replies.Ok (later_immediate s n key.0 (plain term))
later_made s n (HoldArea generation key term stored areas keys retired) other = later_published s n (with_complex s key.0 (plain term)) (with_complex (with_released s n) key.0 (plain term)) replies.Ok (later_complex s n key.0 (plain term))
later_made s n (Forget generation key retired) other = later_published s n (with_erased s key.0) (with_erased (with_released s n) key.0) replies.True (later_erased s n key.0)
later_made s n (SetTrace generation at traced) other = later_published s n (with_trace s (entry_of at) true) (with_trace (with_released s n) (entry_of at) true) replies.True (later_traced s n (entry_of at) true)
later_made s n (ClearTrace generation at) other = later_published s n (with_trace s (entry_of at) false) (with_trace (with_released s n) (entry_of at) false) replies.True (later_traced s n (entry_of at) false)
later_made s n (GiveBack serial released) other = absurd other
