-- A command keeps its case of the command table once an area was released.
use Rattle.std.proofs.Common.{◌≡◌, ℕ, ◌+◌, Bool, true, false, not, ◌&&◌, nat_le, nat_lt, List, [], ◌∷◌, length, Option, Some, None, is_none, is_some, option_map, if◌then◌else◌, refl, sym, ap, ◌∙◌, length-append, arith}
use Rattle.std.specs.Bool.{beq}
use Rattle.term_core.specs.declared.atom.AtomId.{AtomId}
use Rattle.term_core.specs.Image.{is_immediate}
use Rattle.term_core.specs.Plain.{plain}
use Rattle.term_core.specs.PlainTerm.{PlainTerm}
use Rattle.mod_core.specs.declared.code.Module.{Module}
use Rattle.server_core.specs.declared.change.Change.{Change}
use Rattle.server_core.specs.declared.change.Change.TheVariants.{Nothing, GiveBack}
use Rattle.server_core.specs.declared.command.TheConstants.{MOST_INSTANCES, MOST_KEYS, MOST_TERMS}
use Rattle.server_core.specs.declared.command.Cmd.{Cmd}
use Rattle.server_core.specs.declared.command.Cmd.TheVariants.{Load, Delete, SoftPurge, Doom, Purge, CheckOld, Put, Erase, Trace, Spawn, Release}
use Rattle.server_core.specs.declared.command.Limit.TheVariants.{Areas, Instances, Keys}
use Rattle.server_core.specs.declared.command.Linger.{Linger}
use Rattle.server_core.specs.declared.command.ModRef.{ModRef}
use Rattle.server_core.specs.declared.command.Reply.{Reply}
use Rattle.server_core.specs.declared.command.Reply.TheVariants as replies
use Rattle.server_core.specs.CommandTable.{Outcome, admitted, answered, apply_of, delete_of, doom_of, erase_of, holds_equal, load_of, loaded, names_of, not_purged, published, purge_of, put_of, repeated_after, soft_purge_of, texts_of, trace_of, unchanged, while_none_doomed, with_all, with_deleted, with_dropped, with_erased, with_purged, with_put, with_released, with_trace}
use Rattle.server_core.specs.Decided.{IsNoRelease, change_made, with_doomed}
use Rattle.server_core.specs.ServerState.{Entry, Persistent, ServerState, current_of, is_doomed, is_retired, is_traced, live_areas, live_count, old_of, persistent_of, traceable_of}
use Rattle.server_core.proofs.Changes.{no_outcome, some_outcome}
use Rattle.change_laws.proofs.AfterRelease.{later, later_all, later_deleted, later_doomed, later_dropped, later_erased, later_made, later_published, later_purged, later_put, later_traced, later_unchanged}

-- ---- choices

-- one of two outcomes, each of which is the later one
chosen : (s : ServerState) (n : ℕ) (b : Bool) (x y u v : Outcome) → u ≡ later s n x → v ≡ later s n y → (if b then u else v) ≡ later s n (if b then x else y)
chosen s n true x y u v first second = first
chosen s n false x y u v first second = second

-- an outcome while none is doomed
at_rest : (s : ServerState) (n : ℕ) (x u : Option Outcome) → u ≡ option_map (later s n) x → while_none_doomed (with_released s n) u ≡ option_map (later s n) (while_none_doomed s x)
at_rest s n x u is = by (nat_lt 0 (length s.doomed))
  where
    by : (b : Bool) → (if b then None else u) ≡ option_map (later s n) (if b then None else x)
    by true = refl
    by false = is

-- ---- commands

load_admitted : (s : ServerState) (n : ℕ) (refs : List ModRef) (ms : List Module) → admitted (with_released s n) refs ms ≡ later s n (admitted s refs ms)
load_admitted s n refs ms =
    chosen s n (nat_lt 0 (length (not_purged s refs))) (unchanged s (replies.NotPurged (not_purged s refs))) _ _ _ (later_unchanged s n (replies.NotPurged (not_purged s refs)))
    (chosen s n (nat_lt MOST_INSTANCES (live_count s.versions + length refs)) (unchanged s (replies.SystemLimit Instances)) (published (with_all s ms) replies.Ok) _ _ (later_unchanged s n (replies.SystemLimit Instances))
    (later_published s n (with_all s ms) (with_all (with_released s n) ms) replies.Ok (later_all s n ms)))

load_loaded : (s : ServerState) (n : ℕ) (refs : List ModRef) (ms : List Module) (name : Option AtomId) → loaded (with_released s n) refs ms name ≡ later s n (loaded s refs ms name)
load_loaded s n refs ms None = load_admitted s n refs ms
load_loaded s n refs ms (Some name) = later_unchanged s n (replies.Duplicated name)

load_later : (texts : List Module) (s : ServerState) (n : ℕ) (refs : List ModRef) → load_of texts (with_released s n) refs ≡ option_map (later s n) (load_of texts s refs)
load_later texts s n refs = by (texts_of texts refs)
  where
    by : (found : Option (List Module)) → option_map (λ ms. loaded (with_released s n) refs ms (repeated_after [] (names_of refs))) found ≡ option_map (later s n) (option_map (λ ms. loaded s refs ms (repeated_after [] (names_of refs))) found)
    by None = refl
    by (Some ms) = ap Some (load_loaded s n refs ms (repeated_after [] (names_of refs)))

delete_later : (s : ServerState) (n name : ℕ) → delete_of (with_released s n) name ≡ later s n (delete_of s name)
delete_later s n name =
    let no = later_unchanged s n replies.False in
    chosen s n (is_some (old_of s name)) (unchanged s replies.False) _ _ _ no
    (chosen s n (is_none (current_of s name)) (unchanged s replies.False) (published (with_deleted s name) replies.True) _ _ no
    (later_published s n (with_deleted s name) (with_deleted (with_released s n) name) replies.True (later_deleted s n name)))

soft_purge_later : (s : ServerState) (n name : ℕ) (lingers : Option Linger) (old : Option ℕ) → soft_purge_of (with_released s n) name lingers old ≡ option_map (later s n) (soft_purge_of s name lingers old)
soft_purge_later s n name None None = ap Some (later_unchanged s n replies.True)
soft_purge_later s n name None (Some serial) = ap Some (later_published s n (with_dropped s name serial) (with_dropped (with_released s n) name serial) replies.True (later_dropped s n name serial))
soft_purge_later s n name (Some linger) None = refl
soft_purge_later s n name (Some linger) (Some serial) = ap Some (later_unchanged s n (replies.FalseBy linger))

doom_later : (s : ServerState) (n : ℕ) (old : Option ℕ) → doom_of (with_released s n) old ≡ option_map (later s n) (doom_of s old)
doom_later s n None = refl
doom_later s n (Some serial) = ap Some (later_published s n (with_doomed s serial) (with_doomed (with_released s n) serial) replies.Ok (later_doomed s n serial))

purge_later : (s : ServerState) (n name : ℕ) (killed : Bool) (old : Option ℕ) → purge_of (with_released s n) name killed old ≡ option_map (later s n) (purge_of s name killed old)
purge_later s n name true None = refl
purge_later s n name false None = at_rest s n (Some (unchanged s replies.False)) (Some (unchanged (with_released s n) replies.False)) (ap Some (later_unchanged s n replies.False))
purge_later s n name killed (Some serial) = by (is_doomed s serial)
  where
    by : (b : Bool) → (if b then Some (published (with_purged (with_released s n) name serial) (answered killed)) else None) ≡ option_map (later s n) (if b then Some (published (with_purged s name serial) (answered killed)) else None)
    by true = ap Some (later_published s n (with_purged s name serial) (with_purged (with_released s n) name serial) (answered killed) (later_purged s n name serial))
    by false = refl

put_later : (s : ServerState) (n key : ℕ) (term : PlainTerm) → put_of (with_released s n) key term ≡ later s n (put_of s key term)
put_later s n key term =
    chosen s n (holds_equal (persistent_of s key) term) (unchanged s replies.Ok) _ _ _ (later_unchanged s n replies.Ok)
    (chosen s n (is_none (persistent_of s key) && nat_le MOST_KEYS (length s.keys)) (unchanged s (replies.SystemLimit Keys)) _ _ _ (later_unchanged s n (replies.SystemLimit Keys))
    (chosen s n (not (is_immediate term) && nat_le MOST_TERMS (live_areas s.keys)) (unchanged s (replies.SystemLimit Areas)) (published (with_put s key term) replies.Ok) _ _ (later_unchanged s n (replies.SystemLimit Areas))
    (later_published s n (with_put s key term) (with_put (with_released s n) key term) replies.Ok (later_put s n key term))))

erase_later : (s : ServerState) (n key : ℕ) (held : Option Persistent) → erase_of (with_released s n) key held ≡ later s n (erase_of s key held)
erase_later s n key None = later_unchanged s n replies.False
erase_later s n key (Some p) = later_published s n (with_erased s key) (with_erased (with_released s n) key) replies.True (later_erased s n key)

trace_later : (s : ServerState) (n : ℕ) (on : Bool) (at : Option Entry) → trace_of (with_released s n) on at ≡ later s n (trace_of s on at)
trace_later s n on None = later_unchanged s n replies.False
trace_later s n on (Some e) =
    chosen s n (beq (is_traced s e) on) (unchanged s replies.True) (published (with_trace s e on) replies.True) _ _ (later_unchanged s n replies.True)
    (later_published s n (with_trace s e on) (with_trace (with_released s n) e on) replies.True (later_traced s n e on))

-- ---- all of them

-- a command that releases no area
abbrev pub IsNoReleaseCommand : Cmd → Type 0
IsNoReleaseCommand (Release serial) = ⊥
IsNoReleaseCommand cmd = Unit {0}

-- has the later outcome
pub case_later : (texts : List Module) (s : ServerState) (n : ℕ) (cmd : Cmd) → IsNoReleaseCommand cmd → apply_of texts (with_released s n) cmd ≡ option_map (later s n) (apply_of texts s cmd)
case_later texts s n (Load refs) other = at_rest s n (load_of texts s refs) (load_of texts (with_released s n) refs) (load_later texts s n refs)
case_later texts s n (Delete name) other = at_rest s n (Some (delete_of s name.0)) (Some (delete_of (with_released s n) name.0)) (ap Some (delete_later s n name.0))
case_later texts s n (SoftPurge name lingers) other = at_rest s n (soft_purge_of s name.0 lingers (old_of s name.0)) (soft_purge_of (with_released s n) name.0 lingers (old_of s name.0)) (soft_purge_later s n name.0 lingers (old_of s name.0))
case_later texts s n (Doom name) other = at_rest s n (doom_of s (old_of s name.0)) (doom_of (with_released s n) (old_of s name.0)) (doom_later s n (old_of s name.0))
case_later texts s n (Purge name killed) other = purge_later s n name.0 killed (old_of s name.0)
case_later texts s n (CheckOld name) other = ap Some (later_unchanged s n (answered (is_some (old_of s name.0))))
case_later texts s n (Put key term) other = at_rest s n (Some (put_of s key.0 (plain term))) (Some (put_of (with_released s n) key.0 (plain term))) (ap Some (put_later s n key.0 (plain term)))
case_later texts s n (Erase key) other = at_rest s n (Some (erase_of s key.0 (persistent_of s key.0))) (Some (erase_of (with_released s n) key.0 (persistent_of s key.0))) (ap Some (erase_later s n key.0 (persistent_of s key.0)))
case_later texts s n (Trace target on) other = at_rest s n (Some (trace_of s on (traceable_of s target))) (Some (trace_of (with_released s n) on (traceable_of s target))) (ap Some (trace_later s n on (traceable_of s target)))
case_later texts s n (Spawn target args) other = ap Some (later_unchanged s n replies.Ok)
case_later texts s n (Release serial) other = absurd other

-- ---- releases

-- what a release leaves, no other change makes
longer : {A : Type 0} (s : ServerState) (serial : ℕ) (reply : Reply) → unchanged s reply ≡ unchanged (with_released s serial) replies.Ok → A
longer s serial reply e =
    let same = ap (λ (o : Outcome). length o.state.released) e in
    absurd (omega (arith, same, length-append s.released (serial ∷ [])))

silent : {A : Type 0} (t u : ServerState) (reply other : Reply) → published t reply ≡ unchanged u other → A
silent t u reply other e = let none = ap (λ (o : Outcome). o.answer.published) e in absurd (cc)

no_release_made : {A : Type 0} (s : ServerState) (serial : ℕ) (change : Change) → IsNoRelease change → change_made s change ≡ unchanged (with_released s serial) replies.Ok → A
no_release_made s serial (Nothing reply) other e = longer s serial reply e
no_release_made s serial (GiveBack old released) other e = absurd other
no_release_made s serial change other e = silent _ _ _ _ e

released_made : {A : Type 0} (s : ServerState) (serial : ℕ) (change : Change) → IsNoRelease change → (b : Bool) → (if b then Some (unchanged (with_released s serial) replies.Ok) else None) ≡ Some (change_made s change) → A
released_made s serial change other true e = no_release_made s serial change other (some_outcome (unchanged (with_released s serial) replies.Ok) (change_made s change) e)
released_made s serial change other false e = no_outcome (change_made s change) e

-- ---- decided commands

kept : (texts : List Module) (s : ServerState) (n : ℕ) (cmd : Cmd) (change : Change) → IsNoReleaseCommand cmd → IsNoRelease change → apply_of texts s cmd ≡ Some (change_made s change) → apply_of texts (with_released s n) cmd ≡ Some (change_made (with_released s n) change)
kept texts s n cmd change command other e = case_later texts s n cmd command ∙ ap (option_map (later s n)) e ∙ ap Some (sym (later_made s n change other))

pub decided_stays : (texts : List Module) (s : ServerState) (n : ℕ) (cmd : Cmd) (change : Change) → IsNoRelease change → apply_of texts s cmd ≡ Some (change_made s change) → apply_of texts (with_released s n) cmd ≡ Some (change_made (with_released s n) change)
decided_stays texts s n (Release serial) change other e = released_made s serial change other (is_retired s serial) e
decided_stays texts s n (Load refs) change other e = kept texts s n (Load refs) change tt other e
decided_stays texts s n (Delete name) change other e = kept texts s n (Delete name) change tt other e
decided_stays texts s n (SoftPurge name lingers) change other e = kept texts s n (SoftPurge name lingers) change tt other e
decided_stays texts s n (Doom name) change other e = kept texts s n (Doom name) change tt other e
decided_stays texts s n (Purge name killed) change other e = kept texts s n (Purge name killed) change tt other e
decided_stays texts s n (CheckOld name) change other e = kept texts s n (CheckOld name) change tt other e
decided_stays texts s n (Put key term) change other e = kept texts s n (Put key term) change tt other e
decided_stays texts s n (Erase key) change other e = kept texts s n (Erase key) change tt other e
decided_stays texts s n (Trace target on) change other e = kept texts s n (Trace target on) change tt other e
decided_stays texts s n (Spawn target args) change other e = kept texts s n (Spawn target args) change tt other e
