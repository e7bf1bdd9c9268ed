-- A change of what is traced is decided for a trace alone, and its function is one of current code.
use Rattle.std.proofs.Common.{◌≡◌, ℕ, ◌+◌, ◌≤◌, ◌<◌, ◌&&◌, Bool, true, false, cond, not, nat_eq, List, [], ◌∷◌, ◌++◌, length, length-append, filter, Option, Some, None, is_none, position, option_and_then, option_map, refl, sym, ap, subst, ◌∙◌, arith}
use Rattle.std.specs.Bool.{beq}
use Rattle.std.specs.List.{list_any}
use Rattle.std.proofs.lemmas.Bool.{and_parts, eq-eqb, eqb-true, false≢true}
use Rattle.std.proofs.lemmas.Option.{none-some, same_Some}
use Rattle.term_core.specs.declared.area.CodeRef.{CodeRef}
use Rattle.term_core.specs.declared.atom.Mfa.{Mfa}
use Rattle.term_core.proofs.Places.{position-cons}
use Rattle.mod_core.specs.declared.code.Module.{Module}
use Rattle.server_core.specs.declared.change.Change.{Change}
use Rattle.server_core.specs.declared.change.Change.TheVariants.{SetTrace, ClearTrace}
use Rattle.server_core.specs.declared.command.Cmd.{Cmd}
use Rattle.server_core.specs.declared.command.Cmd.TheVariants as cmds
use Rattle.server_core.specs.declared.command.Reply.TheVariants as replies
use Rattle.server_core.specs.CommandTable.{Outcome, published, with_trace}
use Rattle.server_core.specs.Decided.{change_made}
use Rattle.server_core.specs.ServerState.{Entry, Persistent, ServerState, code_of, current_of, entry_of, function_named, is_named, is_same_entry, is_traced, persistent_of, traceable_of}
use Rattle.server_core.proofs.Changes.{Came, as_before, came, came_in, was_deleted, was_doomed, was_erased, was_purged, was_put, was_released, was_soft_purged, was_traced}
use Rattle.server_core.proofs.KeyChanges.{persistent_erased}
use Rattle.server_core.proofs.Soundness.{current_set}
use Rattle.script_core.specs.declared.script.ScriptCmd.{ScriptCmd}
use Rattle.script_core.specs.declared.script.ScriptCmd.TheVariants.{Load, Delete, Put, Erase, Trace}
use Rattle.change_laws.specs.Breakpoints.{TracesInCode}
use Rattle.change_laws.specs.Uses.{IsCurrentCode}
use Rattle.change_laws.proofs.KeptTraced.{traced_since}
use Rattle.staging.specs.Traced.{IsTraceChange}
use Rattle.write_permit.specs.Permit.{PermitState, next_of, command_opening}
use Rattle.word_permit.specs.declared.book.Decision.{Decision}
use Rattle.word_permit.specs.Books.{TellsNone}
use Rattle.word_permit.specs.Waiting.{GoesOverWords, IsDecided}
use Rattle.word_permit.proofs.Answered.{goes_quiet}

-- ---- what can be traced

-- the function is one of current code
record IsFunction (s : ServerState) (e : Entry) : Type 0 where
  current : IsCurrentCode s e.serial
  code : Module
  is : code_of s e.serial ≡ Some code
  has : e.function < length code.functions

place_within : {X : Type 0} (p : X → Bool) (xs : List X) (i : ℕ) → position p xs ≡ Some i → i < length xs
place_within p [] i h = absurd (none-some i h)
place_within p (x ∷ xs) i h = by (p x) (position p xs) refl (place_within p xs) (sym (position-cons p x xs) ∙ h)
  where
    by : (b : Bool) (o : Option ℕ) → position p xs ≡ o → ((k : ℕ) → position p xs ≡ Some k → k < length xs) → cond b (Some 0) (option_map (λ k. k + 1) o) ≡ Some i → i < length (x ∷ xs)
    by true o is later e = omega (arith, same_Some 0 i e)
    by false None is later e = absurd (none-some i e)
    by false (Some k) is later e = omega (arith, later k is, same_Some (k + 1) i e)

traced_in : (s : ServerState) (to : Mfa) (e : Entry) → traceable_of s to ≡ Some e → IsFunction s e
traced_in s to e h = by (current_of s to.«module».0) refl h
  where
    named : (serial : ℕ) (m : Module) (o : Option ℕ) → current_of s to.«module».0 ≡ Some serial → code_of s serial ≡ Some m → function_named m to ≡ o → option_map (λ i. record { serial = serial; function = i }) o ≡ Some e → IsFunction s e
    named serial m None now code place h = absurd (none-some e h)
    named serial m (Some i) now code place h =
        let found : Entry = record { serial = serial; function = i } in
        subst (IsFunction s) (same_Some found e h) (record { current = (to.«module».0, now); code = m; is = code; has = place_within (is_named to) m.functions i place })

    of_code : (serial : ℕ) (o : Option Module) → current_of s to.«module».0 ≡ Some serial → code_of s serial ≡ o → option_and_then (λ m. option_map (λ i. record { serial = serial; function = i }) (function_named m to)) o ≡ Some e → IsFunction s e
    of_code serial None now code h = absurd (none-some e h)
    of_code serial (Some m) now code h = named serial m (function_named m to) now code refl h

    by : (o : Option ℕ) → current_of s to.«module».0 ≡ o → option_and_then (λ serial. option_and_then (λ m. option_map (λ i. record { serial = serial; function = i }) (function_named m to)) (code_of s serial)) o ≡ Some e → IsFunction s e
    by None now h = absurd (none-some e h)
    by (Some serial) now h = of_code serial (code_of s serial) now refl h

-- ---- lists of breakpoints

not_longer : {A : Type 0} (e : Entry) (xs ys : List Entry) → xs ++ e ∷ [] ≡ ys → length ys ≤ length xs → A
not_longer e xs ys same few = absurd (omega (arith, few, ap length same, length-append xs (e ∷ [])))

filter_few : (test : Entry → Bool) (xs : List Entry) → length (filter test xs) ≤ length xs
filter_few test [] = omega arith
filter_few test (x ∷ xs) = by (test x) (filter_few test xs)
  where
    by : (b : Bool) → length (filter test xs) ≤ length xs → length (cond b (x ∷ filter test xs) (filter test xs)) ≤ length (x ∷ xs)
    by true few = omega (arith, few)
    by false few = omega (arith, few)

same_last : (xs : List Entry) (a b : Entry) → xs ++ a ∷ [] ≡ xs ++ b ∷ [] → a ≡ b
same_last [] a b same = cc
same_last (x ∷ xs) a b same = same_last xs a b (cc)

-- a function of code, in no block
abbrev code_at : Entry → CodeRef
code_at e = record { area = record { serial = e.serial; block = 0 }; function = e.function }

same_entry : (a b : Entry) → is_same_entry a b ≡ true → b ≡ a
same_entry a b h =
    let parts = and_parts (nat_eq a.serial b.serial) (nat_eq a.function b.function) h in
    let serial : a.serial ≡ b.serial = eqb-true a.serial b.serial parts.0 in
    let place : a.function ≡ b.function = eqb-true a.function b.function parts.1 in
    sym (λ i. record { serial = serial i; function = place i })

itself_same : (e : Entry) → is_same_entry e e ≡ true
itself_same e = λ i. eq-eqb e.serial e.serial refl i && eq-eqb e.function e.function refl i

-- a breakpoint is gone that was there, so it is the one that was cleared
cleared_same : (s : ServerState) (at : CodeRef) (e : Entry) → is_traced s e ≡ true → (with_trace s (entry_of at) false).traced ≡ (with_trace s e false).traced → entry_of at ≡ e
cleared_same s at e was same = same_entry e (entry_of at) (by (is_same_entry e (entry_of at)) (ap (λ b. cond (is_same_entry e (entry_of at)) false b) (sym was) ∙ now))
  where
    now : cond (is_same_entry e (entry_of at)) false (is_traced s e) ≡ false
    now =
        sym (traced_since s (ClearTrace 0 at) e)
        ∙ ap (list_any (is_same_entry e)) same
        ∙ traced_since s (ClearTrace 0 (code_at e)) e
        ∙ ap (λ b. cond b false (is_traced s e)) (itself_same e)

    by : (b : Bool) → cond b false true ≡ false → b ≡ true
    by true h = refl
    by false h = absurd (false≢true (sym h))

-- ---- the decided command

-- it is a trace, and its function one of current code
record IsTrace (s : ServerState) (cmd : Cmd) (e : Entry) : Type 0 where
  target : Mfa
  on : Bool
  is : cmd ≡ cmds.Trace target on
  function : IsFunction s e

module _ (texts : List Module) (s : ServerState) (cmd : Cmd) (quiet : TellsNone cmd) (at : CodeRef) (on : Bool) where
  abbrev outcome : Outcome
  outcome = published (with_trace s (entry_of at) on) replies.True

  -- another reply is told by another outcome
  told_ok : {A : Type 0} (o : Outcome) → o.answer.reply ≡ replies.Ok → outcome ≡ o → A
  told_ok o ok is = absurd (let same : replies.True ≡ replies.Ok = ap (λ (x : Outcome). x.answer.reply) is ∙ ok in cc)

  published_none : {A : Type 0} (o : Outcome) → o.answer.published ≡ None → outcome ≡ o → A
  published_none o none is = absurd (none-some (s.generation + 1) (sym (ap (λ (x : Outcome). x.answer.published) is ∙ none)))

  -- what is current stays so
  never_deleted : {A : Type 0} (name : ℕ) → is_none (current_of s name) ≡ false → current_of s name ≡ None → A
  never_deleted name some none = absurd (false≢true (sym some ∙ ap (λ (o : Option ℕ). is_none o) none))

  same_traced : (e : Entry) (b : Bool) → is_traced s e ≡ not b → (with_trace s (entry_of at) on).traced ≡ (with_trace s e b).traced → entry_of at ≡ e
  same_traced e b was same = by on b was same
    where
      by : (x y : Bool) → is_traced s e ≡ not y → (with_trace s (entry_of at) x).traced ≡ (with_trace s e y).traced → entry_of at ≡ e
      by true true was same = same_last s.traced (entry_of at) e same
      by true false was same = not_longer (entry_of at) s.traced _ same (filter_few (λ x. not (is_same_entry e x)) s.traced)
      by false true was same = not_longer e s.traced _ (sym same) (filter_few (λ x. not (is_same_entry (entry_of at) x)) s.traced)
      by false false was same = cleared_same s at e was same

  differs : (a b : Bool) → beq a b ≡ false → a ≡ not b
  differs true true h = absurd (false≢true (sym h))
  differs true false h = refl
  differs false true h = refl
  differs false false h = absurd (false≢true (sym h))

  is_trace : Came texts s cmd outcome → IsTrace s cmd (entry_of at)
  is_trace (as_before reply is) = published_none _ refl is
  is_trace (came_in refs modules command rest comes is) = told_ok _ refl is
  is_trace (was_deleted name command rest old current is) =
      never_deleted name.0 current
      (ap (λ (x : Outcome). current_of x.state name.0) is
      ∙ current_set s.versions (record { name = name.0; current = None; old = current_of s name.0 }) name.0
      ∙ ap (λ b. cond {A = Option ℕ} b None (current_of s name.0)) (eq-eqb name.0 name.0 refl))
  is_trace (was_soft_purged name serial command rest old is) = absurd (subst TellsNone command quiet)
  is_trace (was_doomed name serial command rest old is) = told_ok _ refl is
  is_trace (was_purged name killed serial command doomed old is) = absurd (subst TellsNone command quiet)
  is_trace (was_put key term command rest put is) = told_ok _ refl is
  is_trace (was_erased key p command rest held is) =
      absurd (none-some p (sym (sym held ∙ ap (λ (x : Outcome). persistent_of x.state key.0) is ∙ persistent_erased s.keys key.0 key.0 ∙ ap (λ b. cond {A = Option Persistent} b None (persistent_of s key.0)) (eq-eqb key.0 key.0 refl))))
  is_trace (was_traced target asked e command rest found news is) =
      let same : entry_of at ≡ e = same_traced e asked (differs (is_traced s e) asked news) (ap (λ (x : Outcome). x.state.traced) is) in
      record { target = target; on = asked; is = command; function = subst (IsFunction s) (sym same) (traced_in s target e found) }
  is_trace (was_released serial command retired is) = published_none _ refl is

-- so it is of a decided command that changes what is traced
pub record IsTraceDecided (p : PermitState) (who : ℕ) (d : Decision) : Type 0 where
  pub target : Mfa
  pub on : Bool
  pub cmd : d.cmd ≡ cmds.Trace target on
  pub next : next_of p who ≡ Some (Trace target on)
  pub code : TracesInCode p.server d.change

opens_trace : (s : ServerState) (command : ScriptCmd) (target : Mfa) (on : Bool) → GoesOverWords command → command_opening s [] command ≡ cmds.Trace target on → command ≡ Trace target on
opens_trace s (Load refs) target on goes h = absurd (cc)
opens_trace s (Delete name) target on goes h = absurd (cc)
opens_trace s (Put key term) target on goes h = absurd (cc)
opens_trace s (Erase key) target on goes h = absurd (cc)
opens_trace s (Trace at b) target on goes h = cc
opens_trace s command target on goes h = absurd goes

module _ (p : PermitState) (who : ℕ) (d : Decision) (known : IsDecided p who d) where
  quiet_cmd : TellsNone d.cmd
  quiet_cmd = subst TellsNone (sym known.cmd_is) (goes_quiet p.server known.command known.goes)

  by_entry : (e : Entry) → IsTrace p.server d.cmd e → TracesInCode p.server d.change → IsTraceDecided p who d
  by_entry e trace code = record {
    target = trace.target;
    on = trace.on;
    cmd = trace.is;
    next = known.next ∙ ap Some (opens_trace p.server known.command trace.target trace.on known.goes (sym known.cmd_is ∙ trace.is));
    code = code;
  }

  by_change : (change : Change) → d.change ≡ change → IsTraceChange change → IsTraceDecided p who d
  by_change (SetTrace generation at traced) is h =
      let t = is_trace p.script.modules p.server d.cmd quiet_cmd at true (came p.script.modules p.server d.cmd _ (known.given ∙ ap (λ c. Some (change_made p.server c)) is)) in
      let f = t.function in
      by_entry (entry_of at) t (subst (TracesInCode p.server) (sym is) (record { current = f.current; code = f.code; is = f.is; has = f.has }))
  by_change (ClearTrace generation at) is h =
      let t = is_trace p.script.modules p.server d.cmd quiet_cmd at false (came p.script.modules p.server d.cmd _ (known.given ∙ ap (λ c. Some (change_made p.server c)) is)) in
      let f = t.function in
      by_entry (entry_of at) t (subst (TracesInCode p.server) (sym is) (record { current = f.current; code = f.code; is = f.is; has = f.has }))
  by_change change is h = absurd h

  pub trace_decided : IsTraceChange d.change → IsTraceDecided p who d
  trace_decided h = by_change d.change refl h

-- a trace that changes something tells so, with the generation that it publishes
pub record TellsTrue (s : ServerState) (change : Change) : Type 0 where
  pub reply : (change_made s change).answer.reply ≡ replies.True
  pub published : (change_made s change).answer.published ≡ Some (s.generation + 1)
  pub generation : (change_made s change).state.generation ≡ s.generation + 1

pub tells_true : (s : ServerState) (change : Change) → IsTraceChange change → TellsTrue s change
tells_true s (SetTrace generation at traced) h = record { reply = refl; published = refl; generation = refl }
tells_true s (ClearTrace generation at) h = record { reply = refl; published = refl; generation = refl }
tells_true s change h = absurd h
