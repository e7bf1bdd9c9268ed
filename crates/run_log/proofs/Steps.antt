-- What a command leaves of a state: the same, or an area less that waits for its release, or the next generation with all areas.
use Rattle.std.proofs.Common.{◌≡◌, ℕ, ◌+◌, ◌<◌, ◌≤◌, ◌==◌, ◌⊎◌, inl, inr, Bool, true, false, not, List, [], ◌∷◌, ◌++◌, length, Option, Some, None, is_some, is_none, ◌&&◌, option_map, if◌then◌else◌, refl, ap, ◌∙◌, arith, nat_lt, nat_le}
use Rattle.std.proofs.lemmas.Bool.{cond-false, ne_eqb}
use Rattle.std.proofs.lemmas.Option.{none-some}
use Rattle.std.specs.Bool.{beq}
use Rattle.term_core.specs.declared.atom.AtomId.{AtomId}
use Rattle.term_core.specs.Image.{is_immediate}
use Rattle.term_core.specs.Plain.{plain}
use Rattle.term_core.specs.PlainTerm.{PlainTerm}
use Rattle.mod_core.specs.declared.code.Module.{Module}
use Rattle.server_core.specs.declared.command.TheConstants.{MOST_INSTANCES, MOST_KEYS, MOST_TERMS}
use Rattle.server_core.specs.declared.command.Cmd.{Cmd}
use Rattle.server_core.specs.declared.command.Cmd.TheVariants.{Load, Delete, SoftPurge, Doom, Purge, CheckOld, Put, Erase, Trace, Spawn, Release}
use Rattle.server_core.specs.declared.command.Limit.TheVariants.{Areas, Instances, Keys}
use Rattle.server_core.specs.declared.command.ModRef.{ModRef}
use Rattle.server_core.specs.declared.command.Reply.{Reply}
use Rattle.server_core.specs.declared.command.Reply.TheVariants as replies
use Rattle.server_core.specs.declared.command.Linger.{Linger}
use Rattle.server_core.specs.ServerState.{ServerState, Entry as Function, Instance, Persistent, TermArea, code_among, code_of, current_of, is_doomed, is_retired, is_traced, live_areas, live_count, old_of, persistent_of, term_among, term_of_area, traceable_of}
use Rattle.server_core.specs.CommandTable.{Outcome, apply_of, admitted, answered, delete_of, doom_of, erase_of, holds_equal, load_of, loaded, names_of, not_purged, published, purge_of, put_of, release_of, repeated_after, soft_purge_of, texts_of, trace_of, unchanged, while_none_doomed, with_all, with_complex, with_deleted, with_dropped, with_erased, with_immediate, with_loaded, with_purged, with_put, with_released, with_trace}
use Rattle.machine_core.proofs.TurnLaws.{HasInstances}
use Rattle.run_log.specs.Journal.{state_after, next_state}

-- one state is another with more areas: those that it has outside the serials that were given since are the same
pub record Grows (s t : ServerState) : Type 0 where
  pub serials : s.next_serial ≤ t.next_serial
  pub codes : (serial : ℕ) → (serial < s.next_serial) ⊎ (t.next_serial ≤ serial) → code_of t serial ≡ code_of s serial
  pub terms : (serial : ℕ) → (serial < s.next_serial) ⊎ (t.next_serial ≤ serial) → term_of_area t serial ≡ term_of_area s serial

-- a command leaves the state, or releases an area, or makes the next generation and keeps each area
pub data IsStep (s : ServerState) (cmd : Cmd) (o : Outcome) : Type 0 where
  stays : o.state ≡ s → o.answer.published ≡ None → IsStep s cmd o
  releases : (serial : ℕ) → cmd ≡ Release serial → o.state ≡ with_released s serial → o.answer.published ≡ None → IsStep s cmd o
  publishes_next : o.state.generation ≡ s.generation + 1 → o.answer.published ≡ Some (s.generation + 1) → HasInstances s o.state → Grows s o.state → IsStep s cmd o

-- where the areas are the same, none is new
grows_same : (s t : ServerState) → t.next_serial ≡ s.next_serial → t.instances ≡ s.instances → t.terms ≡ s.terms → Grows s t
grows_same s t n e f = record { serials = omega (arith, n); codes = λ serial known. ap (λ is. code_among is serial) e; terms = λ serial known. ap (λ areas. term_among areas serial) f }

earlier : (serial a b c : ℕ) → a ≤ b → b ≤ c → (serial < a) ⊎ (c ≤ serial) → (serial < a) ⊎ (b ≤ serial)
earlier serial a b c low high (inl k) = inl k
earlier serial a b c low high (inr k) = inr (omega (arith, high, k))

since : (serial a b c : ℕ) → a ≤ b → b ≤ c → (serial < a) ⊎ (c ≤ serial) → (serial < b) ⊎ (c ≤ serial)
since serial a b c low high (inl k) = inl (omega (arith, low, k))
since serial a b c low high (inr k) = inr k

grows_more : (s t u : ServerState) → Grows s t → Grows t u → Grows s u
grows_more s t u g h = record {
  serials = omega (arith, g.serials, h.serials);
  codes = λ serial known. h.codes serial (since serial s.next_serial t.next_serial u.next_serial g.serials h.serials known) ∙ g.codes serial (earlier serial s.next_serial t.next_serial u.next_serial g.serials h.serials known);
  terms = λ serial known. h.terms serial (since serial s.next_serial t.next_serial u.next_serial g.serials h.serials known) ∙ g.terms serial (earlier serial s.next_serial t.next_serial u.next_serial g.serials h.serials known);
}

other_serial : (n serial : ℕ) → (serial < n) ⊎ (n + 1 ≤ serial) → (n == serial) ≡ false
other_serial n serial (inl k) = ne_eqb n serial (λ e. omega (arith, k, e))
other_serial n serial (inr k) = ne_eqb n serial (λ e. omega (arith, k, e))

-- what joins with another serial is not found
code_apart : (is : List Instance) (i : Instance) (serial : ℕ) → (i.serial == serial) ≡ false → code_among (is ++ i ∷ []) serial ≡ code_among is serial
code_apart [] i serial other = cond-false (i.serial == serial) (Some i.code) None other
code_apart (x ∷ is) i serial other = ap (λ o. if x.serial == serial then Some x.code else o) (code_apart is i serial other)

term_apart : (areas : List TermArea) (a : TermArea) (serial : ℕ) → (a.serial == serial) ≡ false → term_among (areas ++ a ∷ []) serial ≡ term_among areas serial
term_apart [] a serial other = cond-false (a.serial == serial) (Some a.term) None other
term_apart (x ∷ areas) a serial other = ap (λ o. if x.serial == serial then Some x.term else o) (term_apart areas a serial other)

choice_some : (b : Bool) (x : Module) (o p : Option Module) (m : Module) → (o ≡ Some m → p ≡ Some m) → (if b then Some x else o) ≡ Some m → (if b then Some x else p) ≡ Some m
choice_some true x o p m f h = h
choice_some false x o p m f h = f h

code_before : (before more : List Instance) (serial : ℕ) (m : Module) → code_among before serial ≡ Some m → code_among (before ++ more) serial ≡ Some m
code_before [] more serial m h = absurd (none-some m h)
code_before (i ∷ is) more serial m h = choice_some (i.serial == serial) i.code (code_among is serial) (code_among (is ++ more) serial) m (code_before is more serial m) h

loaded_stays : (s : ServerState) (m : Module) → HasInstances s (with_loaded s m)
loaded_stays s m serial n h = code_before s.instances _ serial n h

loaded_grows : (s : ServerState) (m : Module) → Grows s (with_loaded s m)
loaded_grows s m = record { serials = omega arith; codes = λ serial known. code_apart s.instances (record { serial = s.next_serial; code = m }) serial (other_serial s.next_serial serial known); terms = λ serial known. refl }

all_stay : (s : ServerState) (modules : List Module) → HasInstances s (with_all s modules)
all_stay s [] serial m h = h
all_stay s (m ∷ ms) serial n h = all_stay (with_loaded s m) ms serial n (loaded_stays s m serial n h)

all_grow : (s : ServerState) (modules : List Module) → Grows s (with_all s modules)
all_grow s [] = grows_same s s refl refl refl
all_grow s (m ∷ ms) = grows_more s (with_loaded s m) (with_all (with_loaded s m) ms) (loaded_grows s m) (all_grow (with_loaded s m) ms)

-- the modules that come in make no generation by themselves
with_all_generation : (s : ServerState) (modules : List Module) → (with_all s modules).generation ≡ s.generation
with_all_generation s [] = refl
with_all_generation s (m ∷ ms) = with_all_generation (with_loaded s m) ms

-- the instances stay where the state changes in other ways
same_instances : (s t : ServerState) → t.instances ≡ s.instances → HasInstances s t
same_instances s t e serial m h = ap (λ is. code_among is serial) e ∙ h

-- what a command gives is a step, if it gives anything
abbrev pub StepIn : ServerState → Cmd → Option Outcome → Type 0
StepIn s cmd None = Unit {0}
StepIn s cmd (Some o) = IsStep s cmd o

module _ (s : ServerState) (cmd : Cmd) where
  choice_step : (b : Bool) (x y : Outcome) → IsStep s cmd x → IsStep s cmd y → IsStep s cmd (if b then x else y)
  choice_step true x y p q = p
  choice_step false x y p q = q

  -- a state with more areas becomes the next generation
  grown_step : (t : ServerState) (reply : Reply) → t.generation ≡ s.generation → HasInstances s t → Grows s (record t { generation = t.generation + 1 }) → IsStep s cmd (published t reply)
  grown_step t reply g k more = publishes_next (ap (λ n. n + 1) g) (ap (λ n. Some (n + 1)) g) k more

  -- and so does one with the same areas
  next_step : (t : ServerState) (reply : Reply) → t.generation ≡ s.generation → t.next_serial ≡ s.next_serial → t.instances ≡ s.instances → t.terms ≡ s.terms → IsStep s cmd (published t reply)
  next_step t reply g n e f = grown_step t reply g (same_instances s t e) (grows_same s (record t { generation = t.generation + 1 }) n e f)

  admitted_step : (refs : List ModRef) (modules : List Module) → IsStep s cmd (admitted s refs modules)
  admitted_step refs modules =
      let come_in = published (with_all s modules) replies.Ok in
      let many = unchanged s (replies.SystemLimit Instances) in
      let old = unchanged s (replies.NotPurged (not_purged s refs)) in
      let grown = all_grow s modules in
      choice_step (nat_lt 0 (length (not_purged s refs))) old (if nat_lt MOST_INSTANCES (live_count s.versions + length refs) then many else come_in) (stays refl refl)
      (choice_step (nat_lt MOST_INSTANCES (live_count s.versions + length refs)) many come_in (stays refl refl)
      (grown_step (with_all s modules) replies.Ok (with_all_generation s modules) (all_stay s modules) (record { serials = grown.serials; codes = grown.codes; terms = grown.terms })))

  loaded_step : (refs : List ModRef) (modules : List Module) (name : Option AtomId) → IsStep s cmd (loaded s refs modules name)
  loaded_step refs modules None = admitted_step refs modules
  loaded_step refs modules (Some name) = stays refl refl

  mapped_step : (f : List Module → Outcome) (o : Option (List Module)) → ((modules : List Module) → IsStep s cmd (f modules)) → StepIn s cmd (option_map f o)
  mapped_step f None h = tt
  mapped_step f (Some modules) h = h modules

  -- where an instance is doomed, or none and a process was killed, a command may have no case
  unless_step : (b : Bool) (o : Option Outcome) → StepIn s cmd o → StepIn s cmd (if b then None else o)
  unless_step true o h = tt
  unless_step false o h = h

  -- a load
  load_step : (texts : List Module) (refs : List ModRef) → StepIn s cmd (load_of texts s refs)
  load_step texts refs = mapped_step _ (texts_of texts refs) (λ modules. loaded_step refs modules (repeated_after [] (names_of refs)))

  -- a delete
  delete_step : (name : ℕ) → IsStep s cmd (delete_of s name)
  delete_step name =
      let same = unchanged s replies.False in
      let next = published (with_deleted s name) replies.True in
      choice_step (is_some (old_of s name)) same (if is_none (current_of s name) then same else next) (stays refl refl)
      (choice_step (is_none (current_of s name)) same next (stays refl refl) (next_step (with_deleted s name) replies.True refl refl refl refl))

  -- a soft purge
  soft_purge_step : (name : ℕ) (lingers : Option Linger) (old : Option ℕ) → StepIn s cmd (soft_purge_of s name lingers old)
  soft_purge_step name None None = stays refl refl
  soft_purge_step name None (Some serial) = next_step (with_dropped s name serial) replies.True refl refl refl refl
  soft_purge_step name (Some linger) None = tt
  soft_purge_step name (Some linger) (Some serial) = stays refl refl

  -- the first half of a purge
  doom_step : (old : Option ℕ) → StepIn s cmd (doom_of s old)
  doom_step None = tt
  doom_step (Some serial) = next_step (record s { doomed = s.doomed ++ serial ∷ [] }) replies.Ok refl refl refl refl

  doomed_step : (b : Bool) (o : Outcome) → IsStep s cmd o → StepIn s cmd (if b then Some o else None)
  doomed_step true o h = h
  doomed_step false o h = tt

  -- a purge
  purge_step : (name : ℕ) (killed : Bool) (old : Option ℕ) → StepIn s cmd (purge_of s name killed old)
  purge_step name killed None =
      let same = Some (unchanged s replies.False) in
      unless_step killed (while_none_doomed s same) (unless_step (nat_lt 0 (length s.doomed)) same (stays refl refl))
  purge_step name killed (Some serial) =
      doomed_step (is_doomed s serial) (published (with_purged s name serial) (answered killed)) (next_step (with_purged s name serial) (answered killed) refl refl refl refl)

  -- a complex term becomes an area
  complex_step : (key : ℕ) (term : PlainTerm) → IsStep s cmd (published (with_complex s key term) replies.Ok)
  complex_step key term = grown_step (with_complex s key term) replies.Ok refl (same_instances s (with_complex s key term) refl) (record {
    serials = omega arith;
    codes = λ serial known. refl;
    terms = λ serial known. term_apart s.terms (record { serial = s.next_serial; term = term }) serial (other_serial s.next_serial serial known);
  })

  put_made : (key : ℕ) (term : PlainTerm) (b : Bool) → IsStep s cmd (published (if b then with_immediate s key term else with_complex s key term) replies.Ok)
  put_made key term true = next_step (with_immediate s key term) replies.Ok refl refl refl refl
  put_made key term false = complex_step key term

  -- a put
  put_step : (key : ℕ) (term : PlainTerm) → IsStep s cmd (put_of s key term)
  put_step key term =
      let made = published (with_put s key term) replies.Ok in
      let areas = unchanged s (replies.SystemLimit Areas) in
      let keys = unchanged s (replies.SystemLimit Keys) in
      let no_area = not (is_immediate term) && nat_le MOST_TERMS (live_areas s.keys) in
      let no_key = is_none (persistent_of s key) && nat_le MOST_KEYS (length s.keys) in
      choice_step (holds_equal (persistent_of s key) term) (unchanged s replies.Ok) (if no_key then keys else if no_area then areas else made) (stays refl refl)
      (choice_step no_key keys (if no_area then areas else made) (stays refl refl) (choice_step no_area areas made (stays refl refl) (put_made key term (is_immediate term))))

  -- an erase
  erase_step : (key : ℕ) (held : Option Persistent) → IsStep s cmd (erase_of s key held)
  erase_step key None = stays refl refl
  erase_step key (Some p) = next_step (with_erased s key) replies.True refl refl refl refl

  -- a trace
  trace_step : (on : Bool) (at : Option Function) → IsStep s cmd (trace_of s on at)
  trace_step on None = stays refl refl
  trace_step on (Some at) =
      choice_step (beq (is_traced s at) on) (unchanged s replies.True) (published (with_trace s at on) replies.True) (stays refl refl) (next_step (with_trace s at on) replies.True refl refl refl refl)

-- a release
release_step : (s : ServerState) (serial : ℕ) → StepIn s (Release serial) (release_of s serial)
release_step s serial = doomed_step s (Release serial) (is_retired s serial) (unchanged (with_released s serial) replies.Ok) (releases serial refl refl refl)

pub step_in : (texts : List Module) (s : ServerState) (cmd : Cmd) → StepIn s cmd (apply_of texts s cmd)
step_in texts s (Load refs) = unless_step s (Load refs) (nat_lt 0 (length s.doomed)) (load_of texts s refs) (load_step s (Load refs) texts refs)
step_in texts s (Delete name) = unless_step s (Delete name) (nat_lt 0 (length s.doomed)) (Some (delete_of s name.0)) (delete_step s (Delete name) name.0)
step_in texts s (SoftPurge name lingers) =
    unless_step s (SoftPurge name lingers) (nat_lt 0 (length s.doomed)) (soft_purge_of s name.0 lingers (old_of s name.0)) (soft_purge_step s (SoftPurge name lingers) name.0 lingers (old_of s name.0))
step_in texts s (Doom name) = unless_step s (Doom name) (nat_lt 0 (length s.doomed)) (doom_of s (old_of s name.0)) (doom_step s (Doom name) (old_of s name.0))
step_in texts s (Purge name killed) = purge_step s (Purge name killed) name.0 killed (old_of s name.0)
step_in texts s (CheckOld name) = stays refl refl
step_in texts s (Put key term) = unless_step s (Put key term) (nat_lt 0 (length s.doomed)) (Some (put_of s key.0 (plain term))) (put_step s (Put key term) key.0 (plain term))
step_in texts s (Erase key) =
    unless_step s (Erase key) (nat_lt 0 (length s.doomed)) (Some (erase_of s key.0 (persistent_of s key.0))) (erase_step s (Erase key) key.0 (persistent_of s key.0))
step_in texts s (Trace target on) =
    unless_step s (Trace target on) (nat_lt 0 (length s.doomed)) (Some (trace_of s on (traceable_of s target))) (trace_step s (Trace target on) on (traceable_of s target))
step_in texts s (Spawn target args) = stays refl refl
step_in texts s (Release serial) = release_step s serial

-- a state after a command: the same, or without an area that the command releases, or one of the next generation
pub data IsNext (s : ServerState) (cmd : Cmd) (t : ServerState) : Type 0 where
  left_alone : t ≡ s → IsNext s cmd t
  without_area : (serial : ℕ) → cmd ≡ Release serial → t ≡ with_released s serial → IsNext s cmd t
  next_generation : t.generation ≡ s.generation + 1 → HasInstances s t → Grows s t → IsNext s cmd t

step_next : (s : ServerState) (cmd : Cmd) (o : Option Outcome) → StepIn s cmd o → IsNext s cmd (state_after s o)
step_next s cmd None h = left_alone refl
step_next s cmd (Some o) (stays p q) = left_alone p
step_next s cmd (Some o) (releases serial is p q) = without_area serial is p
step_next s cmd (Some o) (publishes_next p q k g) = next_generation p k g

pub next_is : (texts : List Module) (s : ServerState) (cmd : Cmd) → IsNext s cmd (next_state texts s cmd)
next_is texts s cmd = step_next s cmd (apply_of texts s cmd) (step_in texts s cmd)

pub next_bounds : (s t : ServerState) (cmd : Cmd) → IsNext s cmd t → (s.generation ≤ t.generation) × (t.generation ≤ s.generation + 1)
next_bounds s t cmd (left_alone e) = let g : t.generation ≡ s.generation = ap (λ x. x.generation) e in (omega arith, omega arith)
next_bounds s t cmd (without_area serial is e) = let g : t.generation ≡ s.generation = ap (λ x. x.generation) e in (omega arith, omega arith)
next_bounds s t cmd (next_generation g k more) = (omega arith, omega arith)

pub next_stays : (s t : ServerState) (cmd : Cmd) → IsNext s cmd t → HasInstances s t
next_stays s t cmd (left_alone e) serial m h = ap (λ x. code_of x serial) e ∙ h
next_stays s t cmd (without_area k is e) serial m h = ap (λ x. code_of x serial) e ∙ h
next_stays s t cmd (next_generation g k more) serial m h = k serial m h

pub next_grows : (s t : ServerState) (cmd : Cmd) → IsNext s cmd t → Grows s t
next_grows s t cmd (left_alone e) = grows_same s t (ap (λ x. x.next_serial) e) (ap (λ x. x.instances) e) (ap (λ x. x.terms) e)
next_grows s t cmd (without_area k is e) = grows_same s t (ap (λ x. x.next_serial) e) (ap (λ x. x.instances) e) (ap (λ x. x.terms) e)
next_grows s t cmd (next_generation g k more) = more
