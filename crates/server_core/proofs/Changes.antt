-- What a command came to: nothing changed, or one change of the command table, with what held for it.
use Rattle.std.proofs.Common.{◌≡◌, ℕ, ◌+◌, Bool, true, false, not, ◌&&◌, nat_le, nat_lt, IsTrue, List, [], ◌∷◌, ◌++◌, length, Option, Some, None, is_some, is_none, option_map, if◌then◌else◌, refl, sym, ap, ◌∙◌, arith}
use Rattle.std.proofs.lemmas.Bool.{lt-ltb}
use Rattle.std.specs.Bool.{beq}
use Rattle.term_core.specs.declared.atom.AtomId.{AtomId}
use Rattle.term_core.specs.declared.atom.Mfa.{Mfa}
use Rattle.term_core.specs.declared.term.Term.{Term}
use Rattle.term_core.specs.Image.{is_immediate}
use Rattle.term_core.specs.Plain.{plain}
use Rattle.term_core.specs.PlainTerm.{PlainTerm}
use Rattle.mod_core.specs.declared.code.Module.{Module}
use Rattle.server_core.specs.declared.command.TheConstants.{MOST_INSTANCES, MOST_KEYS, MOST_TERMS}
use Rattle.server_core.specs.declared.command.ModRef.{ModRef}
use Rattle.server_core.specs.declared.command.Cmd.{Cmd}
use Rattle.server_core.specs.declared.command.Cmd.TheVariants.{Load, Delete, SoftPurge, Doom, Purge, CheckOld, Put, Erase, Trace, Spawn, Release}
use Rattle.server_core.specs.declared.command.Linger.{Linger}
use Rattle.server_core.specs.declared.command.Limit.TheVariants.{Areas, Instances, Keys}
use Rattle.server_core.specs.declared.command.Reply.{Reply}
use Rattle.server_core.specs.declared.command.Reply.TheVariants as replies
use Rattle.server_core.specs.Rooms.{HasPlace}
use Rattle.server_core.specs.ServerState.{Persistent, ServerState, Entry, current_of, is_doomed, is_retired, is_traced, live_areas, live_count, old_of, persistent_of, traceable_of}
use Rattle.server_core.specs.CommandTable.{Outcome, answered, apply_of, delete_of, doom_of, erase_of, holds_equal, loaded, names_of, not_purged, published, purge_of, put_of, repeated_after, soft_purge_of, texts_of, trace_of, unchanged, while_none_doomed, with_all, with_deleted, with_dropped, with_erased, with_purged, with_put, with_released, with_trace}

-- what a load asks of a state to come in
pub record ComesIn (texts : List Module) (s : ServerState) (refs : List ModRef) (modules : List Module) : Type 0 where
  pub given : texts_of texts refs ≡ Some modules
  pub once : repeated_after [] (names_of refs) ≡ None
  pub purged : nat_lt 0 (length (not_purged s refs)) ≡ false
  pub room : nat_lt MOST_INSTANCES (live_count s.versions + length refs) ≡ false

-- what a put asks of a state to come in
pub record IsPutIn (s : ServerState) (key : ℕ) (term : PlainTerm) : Type 0 where
  pub other : holds_equal (persistent_of s key) term ≡ false
  pub place : HasPlace s.keys key term

-- what a command came to
pub data Came (texts : List Module) (s : ServerState) (cmd : Cmd) (o : Outcome) : Type 0 where
  as_before : (reply : Reply) → o ≡ unchanged s reply → Came texts s cmd o
  came_in : (refs : List ModRef) (modules : List Module) → cmd ≡ Load refs → s.doomed ≡ [] → ComesIn texts s refs modules → o ≡ published (with_all s modules) replies.Ok → Came texts s cmd o
  was_deleted : (name : AtomId) → cmd ≡ Delete name → s.doomed ≡ [] → is_some (old_of s name.0) ≡ false → is_none (current_of s name.0) ≡ false → o ≡ published (with_deleted s name.0) replies.True → Came texts s cmd o
  was_soft_purged : (name : AtomId) (serial : ℕ) → cmd ≡ SoftPurge name None → s.doomed ≡ [] → old_of s name.0 ≡ Some serial → o ≡ published (with_dropped s name.0 serial) replies.True → Came texts s cmd o
  was_doomed : (name : AtomId) (serial : ℕ) → cmd ≡ Doom name → s.doomed ≡ [] → old_of s name.0 ≡ Some serial → o ≡ published (record s { doomed = s.doomed ++ serial ∷ [] }) replies.Ok → Came texts s cmd o
  was_purged : (name : AtomId) (killed : Bool) (serial : ℕ) → cmd ≡ Purge name killed → IsTrue (is_doomed s serial) → old_of s name.0 ≡ Some serial → o ≡ published (with_purged s name.0 serial) (answered killed) → Came texts s cmd o
  was_put : (key : AtomId) (term : Term) → cmd ≡ Put key term → s.doomed ≡ [] → IsPutIn s key.0 (plain term) → o ≡ published (with_put s key.0 (plain term)) replies.Ok → Came texts s cmd o
  was_erased : (key : AtomId) (p : Persistent) → cmd ≡ Erase key → s.doomed ≡ [] → persistent_of s key.0 ≡ Some p → o ≡ published (with_erased s key.0) replies.True → Came texts s cmd o
  was_traced : (target : Mfa) (on : Bool) (e : Entry) → cmd ≡ Trace target on → s.doomed ≡ [] → traceable_of s target ≡ Some e → beq (is_traced s e) on ≡ false → o ≡ published (with_trace s e on) replies.True → Came texts s cmd o
  was_released : (serial : ℕ) → cmd ≡ Release serial → IsTrue (is_retired s serial) → o ≡ unchanged (with_released s serial) replies.Ok → Came texts s cmd o

-- the outcome of a case, where it is the only one
pub some_outcome : (a b : Outcome) → Some a ≡ Some b → b ≡ a
some_outcome a b e = cc

pub no_outcome : {A : Type 0} (o : Outcome) → None ≡ Some o → A
no_outcome o e = absurd (cc)

-- a case that asks for nothing doomed
pub at_rest : (s : ServerState) (outcome : Option Outcome) (o : Outcome) → while_none_doomed s outcome ≡ Some o → (s.doomed ≡ []) × (outcome ≡ Some o)
at_rest s outcome o h = by s.doomed h
  where
    by : (doomed : List ℕ) → (if nat_lt 0 (length doomed) then None else outcome) ≡ Some o → (doomed ≡ []) × (outcome ≡ Some o)
    by [] h = (refl, h)
    by (d ∷ ds) h = let busy : nat_lt 0 (length (d ∷ ds)) ≡ true = lt-ltb 0 (length (d ∷ ds)) (omega arith) in no_outcome o (sym (ap (λ b. if b then None else outcome) busy) ∙ h)

load_came : (texts : List Module) (s : ServerState) (refs : List ModRef) (o : Outcome) → s.doomed ≡ [] → (found : Option (List Module)) → texts_of texts refs ≡ found → option_map (λ modules. loaded s refs modules (repeated_after [] (names_of refs))) found ≡ Some o
    → Came texts s (Load refs) o
load_came texts s refs o rest None given h = no_outcome o h
load_came texts s refs o rest (Some modules) given h = by_name (repeated_after [] (names_of refs)) refl (some_outcome _ o h)
  where
    by_tests : (b c : Bool) → repeated_after [] (names_of refs) ≡ None → nat_lt 0 (length (not_purged s refs)) ≡ b → nat_lt MOST_INSTANCES (live_count s.versions + length refs) ≡ c
        → o ≡ (if b then unchanged s (replies.NotPurged (not_purged s refs)) else if c then unchanged s (replies.SystemLimit Instances) else published (with_all s modules) replies.Ok) → Came texts s (Load refs) o
    by_tests true c once purged room e = as_before (replies.NotPurged (not_purged s refs)) e
    by_tests false true once purged room e = as_before (replies.SystemLimit Instances) e
    by_tests false false once purged room e = came_in refs modules refl rest (record { given = given; once = once; purged = purged; room = room }) e

    by_name : (name : Option AtomId) → repeated_after [] (names_of refs) ≡ name → o ≡ loaded s refs modules name → Came texts s (Load refs) o
    by_name (Some name) once e = as_before (replies.Duplicated name) e
    by_name None once e = by_tests (nat_lt 0 (length (not_purged s refs))) (nat_lt MOST_INSTANCES (live_count s.versions + length refs)) once refl refl e

delete_came : (texts : List Module) (s : ServerState) (name : AtomId) (o : Outcome) → s.doomed ≡ [] → o ≡ delete_of s name.0 → Came texts s (Delete name) o
delete_came texts s name o rest e = by (is_some (old_of s name.0)) refl (is_none (current_of s name.0)) refl e
  where
    by : (b : Bool) → is_some (old_of s name.0) ≡ b → (c : Bool) → is_none (current_of s name.0) ≡ c → o ≡ (if b then unchanged s replies.False else if c then unchanged s replies.False else published (with_deleted s name.0) replies.True) → Came texts s (Delete name) o
    by true old c current e = as_before replies.False e
    by false old true current e = as_before replies.False e
    by false old false current e = was_deleted name refl rest old current e

soft_purge_came : (texts : List Module) (s : ServerState) (name : AtomId) (lingers : Option Linger) (o : Outcome) → s.doomed ≡ [] → (old : Option ℕ) → old_of s name.0 ≡ old → soft_purge_of s name.0 lingers old ≡ Some o → Came texts s (SoftPurge name lingers) o
soft_purge_came texts s name None o rest None old h = as_before replies.True (some_outcome _ o h)
soft_purge_came texts s name None o rest (Some serial) old h = was_soft_purged name serial refl rest old (some_outcome _ o h)
soft_purge_came texts s name (Some linger) o rest None old h = no_outcome o h
soft_purge_came texts s name (Some linger) o rest (Some serial) old h = as_before (replies.FalseBy linger) (some_outcome _ o h)

doom_came : (texts : List Module) (s : ServerState) (name : AtomId) (o : Outcome) → s.doomed ≡ [] → (old : Option ℕ) → old_of s name.0 ≡ old → doom_of s old ≡ Some o → Came texts s (Doom name) o
doom_came texts s name o rest None old h = no_outcome o h
doom_came texts s name o rest (Some serial) old h = was_doomed name serial refl rest old (some_outcome _ o h)

purge_came : (texts : List Module) (s : ServerState) (name : AtomId) (killed : Bool) (o : Outcome) → (old : Option ℕ) → old_of s name.0 ≡ old → purge_of s name.0 killed old ≡ Some o → Came texts s (Purge name killed) o
purge_came texts s name true o None old h = no_outcome o h
purge_came texts s name false o None old h = as_before replies.False (some_outcome _ o (at_rest s _ o h).1)
purge_came texts s name killed o (Some serial) old h = by (is_doomed s serial) refl h
  where
    by : (b : Bool) → is_doomed s serial ≡ b → (if b then Some (published (with_purged s name.0 serial) (answered killed)) else None) ≡ Some o → Came texts s (Purge name killed) o
    by true doomed h = was_purged name killed serial refl doomed old (some_outcome _ o h)
    by false doomed h = no_outcome o h

put_came : (texts : List Module) (s : ServerState) (key : AtomId) (term : Term) (o : Outcome) → s.doomed ≡ [] → o ≡ put_of s key.0 (plain term) → Came texts s (Put key term) o
put_came texts s key term o rest e =
    by (holds_equal (persistent_of s key.0) (plain term)) refl (is_none (persistent_of s key.0) && nat_le MOST_KEYS (length s.keys)) refl (not (is_immediate (plain term)) && nat_le MOST_TERMS (live_areas s.keys)) refl e
  where
    by : (b : Bool) → holds_equal (persistent_of s key.0) (plain term) ≡ b → (c : Bool) → (is_none (persistent_of s key.0) && nat_le MOST_KEYS (length s.keys)) ≡ c → (d : Bool) → (not (is_immediate (plain term)) && nat_le MOST_TERMS (live_areas s.keys)) ≡ d
        → o ≡ (if b then unchanged s replies.Ok else if c then unchanged s (replies.SystemLimit Keys) else if d then unchanged s (replies.SystemLimit Areas) else published (with_put s key.0 (plain term)) replies.Ok) → Came texts s (Put key term) o
    by true same c full d many e = as_before replies.Ok e
    by false same true full d many e = as_before (replies.SystemLimit Keys) e
    by false same false full true many e = as_before (replies.SystemLimit Areas) e
    by false same false full false many e = was_put key term refl rest (record { other = same; place = record { for_key = full; for_area = many } }) e

erase_came : (texts : List Module) (s : ServerState) (key : AtomId) (o : Outcome) → s.doomed ≡ [] → (held : Option Persistent) → persistent_of s key.0 ≡ held → o ≡ erase_of s key.0 held → Came texts s (Erase key) o
erase_came texts s key o rest None held e = as_before replies.False e
erase_came texts s key o rest (Some p) held e = was_erased key p refl rest held e

trace_came : (texts : List Module) (s : ServerState) (target : Mfa) (on : Bool) (o : Outcome) → s.doomed ≡ [] → (at : Option Entry) → traceable_of s target ≡ at → o ≡ trace_of s on at → Came texts s (Trace target on) o
trace_came texts s target on o rest None at e = as_before replies.False e
trace_came texts s target on o rest (Some f) at e = by (beq (is_traced s f) on) refl e
  where
    by : (b : Bool) → beq (is_traced s f) on ≡ b → o ≡ (if b then unchanged s replies.True else published (with_trace s f on) replies.True) → Came texts s (Trace target on) o
    by true same e = as_before replies.True e
    by false same e = was_traced target on f refl rest at same e

release_came : (texts : List Module) (s : ServerState) (serial : ℕ) (o : Outcome) → (b : Bool) → is_retired s serial ≡ b → (if b then Some (unchanged (with_released s serial) replies.Ok) else None) ≡ Some o → Came texts s (Release serial) o
release_came texts s serial o true retired h = was_released serial refl retired (some_outcome _ o h)
release_came texts s serial o false retired h = no_outcome o h

-- what each command that has a case came to
pub came : (texts : List Module) (s : ServerState) (cmd : Cmd) (o : Outcome) → apply_of texts s cmd ≡ Some o → Came texts s cmd o
came texts s (Load refs) o h = let r = at_rest s _ o h in load_came texts s refs o r.0 (texts_of texts refs) refl r.1
came texts s (Delete name) o h = let r = at_rest s _ o h in delete_came texts s name o r.0 (some_outcome _ o r.1)
came texts s (SoftPurge name lingers) o h = let r = at_rest s _ o h in soft_purge_came texts s name lingers o r.0 (old_of s name.0) refl r.1
came texts s (Doom name) o h = let r = at_rest s _ o h in doom_came texts s name o r.0 (old_of s name.0) refl r.1
came texts s (Purge name killed) o h = purge_came texts s name killed o (old_of s name.0) refl h
came texts s (CheckOld name) o h = as_before (answered (is_some (old_of s name.0))) (some_outcome _ o h)
came texts s (Put key term) o h = let r = at_rest s _ o h in put_came texts s key term o r.0 (some_outcome _ o r.1)
came texts s (Erase key) o h = let r = at_rest s _ o h in erase_came texts s key o r.0 (persistent_of s key.0) refl (some_outcome _ o r.1)
came texts s (Trace target on) o h = let r = at_rest s _ o h in trace_came texts s target on o r.0 (traceable_of s target) refl (some_outcome _ o r.1)
came texts s (Spawn target args) o h = as_before replies.Ok (some_outcome _ o h)
came texts s (Release serial) o h = release_came texts s serial o (is_retired s serial) refl h
