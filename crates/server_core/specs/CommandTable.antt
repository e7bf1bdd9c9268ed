-- The command table: for each command the first case that holds decides the reply, the new state and whether it is published.
-- Source: the manual pages `code`, `erlang` and `persistent_term`; the order of the cases and the limits are this project's own.
use Rattle.std.specs.Prelude.{◌≡◌, ℕ, ◌+◌, ◌<◌, ◌&&◌, ◌==◌, nat_lt, nat_le, Bool, false, not, List, [], ◌∷◌, ◌++◌, length, map, filter, find, Option, Some, None, is_some, is_none, option_and_then, option_map, slice_get, All, if◌then◌else◌}
use Rattle.std.specs.Bool.{beq}
use Rattle.std.specs.List.{list_any}
use Rattle.std.specs.Option.{option_to_list}
use Rattle.term_core.specs.declared.atom.AtomId.{AtomId}
use Rattle.term_core.specs.Image.{is_immediate}
use Rattle.term_core.specs.Plain.{plain}
use Rattle.term_core.specs.PlainTerm.{PlainTerm}
use Rattle.term_core.specs.Same.{is_same}
use Rattle.mod_core.specs.declared.code.Module.{Module}
use Rattle.mod_core.specs.Module.{IsModule}
use Rattle.server_core.specs.declared.command.TheConstants.{MOST_INSTANCES, MOST_KEYS, MOST_TERMS}
use Rattle.server_core.specs.declared.command.ModRef.{ModRef}
use Rattle.server_core.specs.declared.command.Cmd.{Cmd}
use Rattle.server_core.specs.declared.command.Cmd.TheVariants.{Load, Delete, SoftPurge, Doom, Purge, CheckOld, Put, Erase, Trace, Spawn, Release}
use Rattle.server_core.specs.declared.command.Linger.{Linger}
use Rattle.server_core.specs.declared.command.Limit.TheVariants.{Instances, Keys, Areas}
use Rattle.server_core.specs.declared.command.Reply.{Reply}
use Rattle.server_core.specs.declared.command.Reply.TheVariants as replies
use Rattle.server_core.specs.declared.command.Applied.{Applied}
use Rattle.server_core.specs.ServerState.{ServerState, Entry, Versions, Persistent, IsShortTerm, key_area, live_areas, persistent_of, current_of, old_of, live_count, is_traced, is_doomed, is_retired, is_same_entry, traceable_of}

-- the modules that can be loaded: each is one, and no two agree in name and version
pub record AreTexts (texts : List Module) : Type 0 where
  pub sound : All IsModule texts
  pub apart : (i j : ℕ) (m n : Module) → i < j → slice_get texts i ≡ Some m → slice_get texts j ≡ Some n → m.name ≡ n.name → m.version ≡ n.version → ⊥

-- the state that a command leaves, and what it answers
pub record Outcome : Type 0 where
  pub state : ServerState
  pub answer : Applied

-- an answer that changes nothing
abbrev pub unchanged : ServerState → Reply → Outcome
unchanged s reply = record { state = s; answer = record { reply = reply; published = None } }

-- an answer whose state is the next generation
abbrev pub published : ServerState → Reply → Outcome
published s reply =
    record {
      state = record s { generation = s.generation + 1 };
      answer = record { reply = reply; published = Some (s.generation + 1) };
    }

-- the text with this name and version
abbrev pub text_of : List Module → ModRef → Option Module
text_of texts to = find (λ m. m.name.0 == to.name.0 && m.version == to.version) texts

-- the texts of a list, or none where one is not given
abbrev pub texts_of : List Module → List ModRef → Option (List Module)
texts_of texts [] = Some []
texts_of texts (to ∷ refs) = option_and_then (λ m. option_map (λ ms. m ∷ ms) (texts_of texts refs)) (text_of texts to)

-- the first name that repeats one that stands before it
abbrev pub repeated_after : List ℕ → List AtomId → Option AtomId
repeated_after before [] = None
repeated_after before (name ∷ names) = if list_any (λ n. name.0 == n) before then Some name else repeated_after (before ++ name.0 ∷ []) names

-- the modules of a list, in order
abbrev pub names_of : List ModRef → List AtomId
names_of refs = map (λ r. r.name) refs

-- the modules of a list that have old code, in order
abbrev pub not_purged : ServerState → List ModRef → List AtomId
not_purged s refs = filter (λ name. is_some (old_of s name.0)) (names_of refs)

-- a module's versions take the place of those that it had
abbrev pub with_versions : List Versions → Versions → List Versions
with_versions [] new = new ∷ []
with_versions (v ∷ vs) new = if new.name == v.name then new ∷ vs else v ∷ with_versions vs new

-- a module becomes the current code of its name, and what was current becomes old
abbrev pub with_loaded : ServerState → Module → ServerState
with_loaded s m =
    record s {
      next_serial = s.next_serial + 1;
      instances = s.instances ++ (record { serial = s.next_serial; code = m }) ∷ [];
      versions = with_versions s.versions (record { name = m.name.0; current = Some s.next_serial; old = current_of s m.name.0 });
    }

-- the modules come in one after another, within one generation
abbrev pub with_all : ServerState → List Module → ServerState
with_all s [] = s
with_all s (m ∷ ms) = with_all (with_loaded s m) ms

-- a load that has old code to keep, or too many instances, or else comes in
abbrev pub admitted : ServerState → List ModRef → List Module → Outcome
admitted s refs modules =
    if nat_lt 0 (length (not_purged s refs)) then unchanged s (replies.NotPurged (not_purged s refs))
    else if nat_lt MOST_INSTANCES (live_count s.versions + length refs) then unchanged s (replies.SystemLimit Instances)
    else published (with_all s modules) replies.Ok

-- the cases of a load whose texts are given
abbrev pub loaded : ServerState → List ModRef → List Module → Option AtomId → Outcome
loaded s refs modules None = admitted s refs modules
loaded s refs modules (Some name) = unchanged s (replies.Duplicated name)

-- what a load gives; none where a text is not given
abbrev pub load_of : List Module → ServerState → List ModRef → Option Outcome
load_of texts s refs = option_map (λ modules. loaded s refs modules (repeated_after [] (names_of refs))) (texts_of texts refs)

-- a reply of yes or no
abbrev pub answered : Bool → Reply
answered says = if says then replies.True else replies.False

-- what is current becomes old, and there is no current code
abbrev pub with_deleted : ServerState → ℕ → ServerState
with_deleted s name = record s { versions = with_versions s.versions (record { name = name; current = None; old = current_of s name }) }

-- a delete: nothing changes where there is old code, or no current
abbrev pub delete_of : ServerState → ℕ → Outcome
delete_of s name = if is_some (old_of s name) then unchanged s replies.False else if is_none (current_of s name) then unchanged s replies.False else published (with_deleted s name) replies.True

-- serials without this one
abbrev pub without_number : ℕ → List ℕ → List ℕ
without_number serial serials = filter (λ n. not (n == serial)) serials

-- a module's old code is dropped: its area is retired, and its breakpoints go with it
abbrev pub with_dropped : ServerState → ℕ → ℕ → ServerState
with_dropped s name serial =
    record s {
      versions = with_versions s.versions (record { name = name; current = current_of s name; old = None });
      traced = filter (λ e. not (e.serial == serial)) s.traced;
      retired = s.retired ++ serial ∷ [];
    }

-- the same, at the end of a purge: it is doomed no more
abbrev pub with_purged : ServerState → ℕ → ℕ → ServerState
with_purged s name serial = record (with_dropped s name serial) { doomed = without_number serial s.doomed }

-- a soft purge, by the old code of its module: what a process does that lingers in it enters as an argument
abbrev pub soft_purge_of : ServerState → ℕ → Option Linger → Option ℕ → Option Outcome
soft_purge_of s name None None = Some (unchanged s replies.True)
soft_purge_of s name None (Some serial) = Some (published (with_dropped s name serial) replies.True)
soft_purge_of s name (Some linger) None = None
soft_purge_of s name (Some linger) (Some serial) = Some (unchanged s (replies.FalseBy linger))

-- the old code of a module is doomed: from now on a process that stands in it ends
abbrev pub doom_of : ServerState → Option ℕ → Option Outcome
doom_of s None = None
doom_of s (Some serial) = Some (published (record s { doomed = s.doomed ++ serial ∷ [] }) replies.Ok)

-- nothing but the purge of what is doomed, spawns, looks for old code and releases have a case while an instance is doomed
abbrev pub while_none_doomed : {A : Type 0} → ServerState → Option A → Option A
while_none_doomed s outcome = if nat_lt 0 (length s.doomed) then None else outcome

-- a purge, by the old code of its module: where there is none, nobody was killed; else the code is doomed and goes
abbrev pub purge_of : ServerState → ℕ → Bool → Option ℕ → Option Outcome
purge_of s name killed None = if killed then None else while_none_doomed s (Some (unchanged s replies.False))
purge_of s name killed (Some serial) = if is_doomed s serial then Some (published (with_purged s name serial) (answered killed)) else None

-- a breakpoint is set, or taken away
abbrev pub with_trace : ServerState → Entry → Bool → ServerState
with_trace s e on = record s { traced = if on then s.traced ++ e ∷ [] else filter (λ other. not (is_same_entry e other)) s.traced }

-- a trace, by the function that it names: nothing changes where it is already as asked
abbrev pub trace_of : ServerState → Bool → Option Entry → Outcome
trace_of s on None = unchanged s replies.False
trace_of s on (Some e) = if beq (is_traced s e) on then unchanged s replies.True else published (with_trace s e on) replies.True

-- whether a key holds an equal term
abbrev pub holds_equal : Option Persistent → PlainTerm → Bool
holds_equal None term = false
holds_equal (Some p) term = is_same p.term term

-- what a key comes to hold stands in the place of what it held, or behind the others
abbrev pub with_key : List Persistent → Persistent → List Persistent
with_key [] new = new ∷ []
with_key (p ∷ ps) new = if p.key == new.key then new ∷ ps else p ∷ with_key ps new

-- the persistent terms of the other keys
abbrev pub without_key : ℕ → List Persistent → List Persistent
without_key key persistents = filter (λ p. not (p.key == key)) persistents

-- a key holds an integer or an atom; the area of what it held is retired
abbrev pub with_immediate : ServerState → ℕ → PlainTerm → ServerState
with_immediate s key term =
    record s {
      keys = with_key s.keys (record { key = key; term = term; area = None });
      retired = s.retired ++ option_to_list (key_area s key);
    }

-- a key holds a complex term, which gets an area of its own; the area of what it held is retired
abbrev pub with_complex : ServerState → ℕ → PlainTerm → ServerState
with_complex s key term =
    record s {
      next_serial = s.next_serial + 1;
      terms = s.terms ++ (record { serial = s.next_serial; term = term }) ∷ [];
      keys = with_key s.keys (record { key = key; term = term; area = Some s.next_serial });
      retired = s.retired ++ option_to_list (key_area s key);
    }

-- a key holds a term
abbrev pub with_put : ServerState → ℕ → PlainTerm → ServerState
with_put s key term = if is_immediate term then with_immediate s key term else with_complex s key term

-- a put: nothing changes where the key holds an equal term, or where there are as many keys or areas as can be
abbrev pub put_of : ServerState → ℕ → PlainTerm → Outcome
put_of s key term =
    if holds_equal (persistent_of s key) term then unchanged s replies.Ok
    else if is_none (persistent_of s key) && nat_le MOST_KEYS (length s.keys) then unchanged s (replies.SystemLimit Keys)
    else if not (is_immediate term) && nat_le MOST_TERMS (live_areas s.keys) then unchanged s (replies.SystemLimit Areas)
    else published (with_put s key term) replies.Ok

-- a key holds nothing; the area of what it held is retired
abbrev pub with_erased : ServerState → ℕ → ServerState
with_erased s key = record s { keys = without_key key s.keys; retired = s.retired ++ option_to_list (key_area s key) }

-- an erase, by what the key holds
abbrev pub erase_of : ServerState → ℕ → Option Persistent → Outcome
erase_of s key None = unchanged s replies.False
erase_of s key (Some p) = published (with_erased s key) replies.True

-- the term of a put is one that a text can say
abbrev pub IsOfText : Cmd → Type 0
IsOfText (Put key term) = IsShortTerm (plain term)
IsOfText cmd = Unit {0}

-- an area that no process names is retired no more
abbrev pub with_released : ServerState → ℕ → ServerState
with_released s serial = record s { retired = without_number serial s.retired; released = s.released ++ serial ∷ [] }

-- a release: only of what is retired
abbrev pub release_of : ServerState → ℕ → Option Outcome
release_of s serial = if is_retired s serial then Some (unchanged (with_released s serial) replies.Ok) else None

-- what the command gives in this state, with these texts to load from; none where no case holds
abbrev pub apply_of : List Module → ServerState → Cmd → Option Outcome
apply_of texts s (Load refs) = while_none_doomed s (load_of texts s refs)
apply_of texts s (Delete name) = while_none_doomed s (Some (delete_of s name.0))
apply_of texts s (SoftPurge name lingers) = while_none_doomed s (soft_purge_of s name.0 lingers (old_of s name.0))
apply_of texts s (Doom name) = while_none_doomed s (doom_of s (old_of s name.0))
apply_of texts s (Purge name killed) = purge_of s name.0 killed (old_of s name.0)
apply_of texts s (CheckOld name) = Some (unchanged s (answered (is_some (old_of s name.0))))
apply_of texts s (Put key term) = while_none_doomed s (Some (put_of s key.0 (plain term)))
apply_of texts s (Erase key) = while_none_doomed s (Some (erase_of s key.0 (persistent_of s key.0)))
apply_of texts s (Trace target on) = while_none_doomed s (Some (trace_of s on (traceable_of s target)))
apply_of texts s (Spawn target args) = Some (unchanged s replies.Ok)
apply_of texts s (Release serial) = release_of s serial
