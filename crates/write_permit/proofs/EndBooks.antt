-- What each step of the loader that has the permission leaves of a permit's book.
use Rattle.std.proofs.Common.{◌≡◌, ℕ, ◌+◌, Bool, List, [], length, get_or, slice_get, slice_set, if◌then◌else◌, Option, Some, None, IsSome, IsSomeAnd, is_some, option_map, option_and_then, refl, sym, ap, subst, ◌∙◌}
use Rattle.std.proofs.lemmas.Option.{same_Some, slice_get_read, slice_get_within}
use Rattle.term_core.specs.declared.atom.AtomId.{AtomId}
use Rattle.server_core.specs.declared.command.Applied.{Applied}
use Rattle.server_core.specs.declared.command.Cmd.{Cmd}
use Rattle.server_core.specs.declared.command.Cmd.TheVariants as cmds
use Rattle.server_core.specs.declared.command.Linger.{Linger}
use Rattle.server_core.specs.declared.command.Reply.TheVariants as replies
use Rattle.term_core.specs.declared.atom.Mfa.{Mfa}
use Rattle.server_core.specs.ServerState.{ServerState, IsSound, old_of}
use Rattle.script_core.specs.declared.script.ScriptCmd.{ScriptCmd}
use Rattle.script_core.specs.declared.script.ScriptCmd.TheVariants.{Purge, Trace}
use Rattle.run_log.specs.declared.logs.Who.TheVariants.{Loader}
use Rattle.run_log.proofs.SpanRuns.{some_and, some_at}
use Rattle.write_permit.specs.declared.book.Book.{Book}
use Rattle.write_permit.specs.declared.commands.OldCode.{OldCode}
use Rattle.write_permit.specs.declared.holder.Holder.{Holder}
use Rattle.write_permit.specs.declared.holder.Holder.TheVariants.{Free, Held, Purging, Tracing}
use Rattle.write_permit.specs.declared.loader_run.LoaderRun.{LoaderRun}
use Rattle.write_permit.specs.Agreement.{AgreesWithServer}
use Rattle.write_permit.specs.Book.{EndsBy, HoldsJust, IsBook, IsHeld, PurgeWaits, TraceWaits, shown}
use Rattle.write_permit.specs.Permit.{PermitState, PermitStep, advanced, command_begun, counted_in, done_by, doomed_by, command_ended, entered_by, entered_trace, freed, given_up, holder_of, is_spawn, joined, loader_after, made_of, next_of, command_opening, purged_code, settled}
use Rattle.write_permit.proofs.BookKeeps.{book_by, count_same, was_made}
use Rattle.write_permit.proofs.Ends.{CanEnd, can_end, code_of_module, counted_after, doom_keeps, end_keeps, ends_own, given_permit, settled_keeps, trace_keeps, waiting_code}
use Rattle.write_permit.proofs.Entered.{entered_is}
use Rattle.write_permit.proofs.Kept.{there}

-- what is told, as an answer that is there
abbrev pub told : PermitState → Applied → Option PermitStep
told q a = Some (record { state = q; answer = a })

-- ---- the last command of the server

-- what was made and counted is what the call tells
pub ended_is : (p m q : PermitState) (who : ℕ) (command : ScriptCmd) (cmd : Cmd) (answer : Applied) → next_of p who ≡ Some command → made_of p (Loader who) cmd ≡ Some (record { state = m; answer = answer })
    → q ≡ record m { loaders = counted_in p.loaders who command; holder = Free } → command_ended p who cmd ≡ Some (record { state = q; answer = answer })
ended_is p m q who command cmd answer next made same =
    ap (option_and_then {U = PermitStep} (λ x. option_map {U = PermitStep} freed (done_by p who x cmd))) next
    ∙ ap (λ o. option_map {U = PermitStep} freed (option_map {U = PermitStep} (λ s. record { state = record (s.state) { loaders = counted_in p.loaders who command }; answer = s.answer }) o)) made
    ∙ ap (λ (x : PermitState). told (x) answer) (sym same)

-- what the last command of a loader's command leaves
pub record EndMade (b c : Book) (who : ℕ) (cmd : Cmd) (answer : Applied) : Type 0 where
  pub ok : command_ended (shown b) who cmd ≡ Some (record { state = shown c; answer = answer })
  pub book : IsBook c

module _ (b : Book) (known : IsBook b) (who : ℕ) (cmd : Cmd) (ends : IsSomeAnd (next_of (shown b) who) (λ command. EndsBy (shown b) b.holder command cmd)) where
  pub next_there : IsSome (next_of (shown b) who)
  next_there = let d = some_and (next_of (shown b) who) (λ command. EndsBy (shown b) b.holder command cmd) ends in ap is_some d.1.0

  -- the table has a case for it
  pub end_can : CanEnd (shown b) cmd
  end_can = let d = some_and (next_of (shown b) who) (λ command. EndsBy (shown b) b.holder command cmd) ends in can_end (shown b) known.permit b.holder who d.0 cmd refl d.1.0 d.1.1

  pub end_made : (m c : Book) (answer : Applied) (after : LoaderRun) → holder_of b.holder ≡ Some who → IsSomeAnd (next_of (shown b) who) (λ command. option_map (loader_after command) (slice_get b.loaders.items who) ≡ Some after)
      → made_of (shown b) (Loader who) cmd ≡ Some (record { state = shown m; answer = answer }) → shown c ≡ record (shown m) { loaders = slice_set m.loaders.items who after; holder = Free } → c.modules.instances ≡ m.modules.instances
      → IsSound m.server → AgreesWithServer m.modules.instances m.server → EndMade b c who cmd answer
  end_made m c answer after own counts made same table sound agrees =
      let d = some_and (next_of (shown b) who) (λ command. EndsBy (shown b) b.holder command cmd) ends in
      let w = was_made (shown b) (Loader who) cmd (shown m) answer made in
      let loaders : m.loaders.items ≡ b.loaders.items = ap (λ (x : PermitState). x.loaders) w.state in
      let after_is : option_map (loader_after d.0) (slice_get b.loaders.items who) ≡ Some after = subst (λ o. IsSomeAnd o (λ command. option_map (loader_after command) (slice_get b.loaders.items who) ≡ Some after)) d.1.0 counts in
      let counted : slice_set m.loaders.items who after ≡ counted_in b.loaders.items who d.0 = ap (λ ls. slice_set ls who after) loaders ∙ counted_after b.loaders.items who d.0 after after_is in
      let is : shown c ≡ record (shown m) { loaders = counted_in b.loaders.items who d.0; holder = Free } = same ∙ ap (λ ls. record (shown m) { loaders = ls; holder = Free }) counted in
      let left : shown c ≡ record (joined (shown b) (Loader who) cmd w.outcome) { loaders = counted_in b.loaders.items who d.0; holder = Free } = is ∙ ap (λ (x : PermitState). record x { loaders = counted_in b.loaders.items who d.0; holder = Free }) w.state in
      let server : c.server ≡ m.server = ap (λ (x : PermitState). x.server) same in
      record {
        ok = ended_is (shown b) (shown m) (shown c) who d.0 cmd answer d.1.0 made is;
        book = book_by c (record (joined (shown b) (Loader who) cmd w.outcome) { loaders = counted_in b.loaders.items who d.0; holder = Free }) left
            (end_keeps (shown b) known.permit who d.0 d.1.0 cmd w.outcome w.applied (ends_own (shown b) b.holder who d.0 cmd w.outcome known.permit.holds own d.1.0 d.1.1 w.applied) (subst IsSound (sym server ∙ ap (λ (x : PermitState). x.server) left) sound))
            (subst (λ s. AgreesWithServer c.modules.instances s) (sym server) (subst (λ ms. AgreesWithServer ms m.server) (sym table) agrees));
      }

-- ---- a purge of old code

-- what a doom leaves
pub record DoomMade (b c : Book) (who : ℕ) (code : OldCode) : Type 0 where
  pub ok : doomed_by (shown b) who code.«module» ≡ Some (shown c)
  pub book : IsBook c

module _ (b : Book) (known : IsBook b) (who : ℕ) (code : OldCode) (held : b.holder ≡ Held who) (next : next_of (shown b) who ≡ Some (Purge code.«module»)) (old : old_of b.server code.«module».0 ≡ Some code.serial) where
  pub held_rest : b.server.doomed ≡ []
  held_rest = let k : IsHeld (shown b) who = subst (HoldsJust (shown b)) held known.permit.holds in k.rest

  pub doom_left : (m c : Book) (answer : Applied) → made_of (shown b) (Loader who) (cmds.Doom code.«module») ≡ Some (record { state = shown m; answer = answer }) → shown c ≡ record (shown m) { holder = Purging who code.«module» } → c.modules.instances ≡ m.modules.instances
      → IsSound m.server → AgreesWithServer m.modules.instances m.server → DoomMade b c who code
  doom_left m c answer made same table sound agrees =
      let w = was_made (shown b) (Loader who) (cmds.Doom code.«module») (shown m) answer made in
      let left : shown c ≡ record (joined (shown b) (Loader who) (cmds.Doom code.«module») w.outcome) { holder = Purging who code.«module» } = same ∙ ap (λ (x : PermitState). record x { holder = Purging who code.«module» }) w.state in
      let server : c.server ≡ m.server = ap (λ (x : PermitState). x.server) same in
      record {
        ok = ap (option_map {U = PermitState} (λ (s : PermitStep). record (s.state) { holder = Purging who code.«module» })) made ∙ ap (λ (x : PermitState). Some x) (sym same);
        book = book_by c (record (joined (shown b) (Loader who) (cmds.Doom code.«module») w.outcome) { holder = Purging who code.«module» }) left
            (doom_keeps (shown b) known.permit who code.«module» code.serial w.outcome held next old w.applied (subst IsSound (sym server ∙ ap (λ (x : PermitState). x.server) left) sound))
            (subst (λ s. AgreesWithServer c.modules.instances s) (sym server) (subst (λ ms. AgreesWithServer ms m.server) (sym table) agrees));
      }

-- ---- a trace that goes by phases

-- what the entry of a trace leaves
pub record TraceMade (b c : Book) (who : ℕ) (target : Mfa) (on : Bool) : Type 0 where
  pub ok : entered_trace (shown b) who target on ≡ Some (shown c)
  pub book : IsBook c

-- a permit to which the entry of a trace joined, by the generation that it published
abbrev pub tracing_in : PermitState → ℕ → Option ℕ → Option PermitState
tracing_in p who published = option_map {U = PermitState} (λ generation. record p { holder = Tracing who generation }) published

module _ (b : Book) (known : IsBook b) (who generation : ℕ) (target : Mfa) (on : Bool) (held : b.holder ≡ Held who) (next : next_of (shown b) who ≡ Some (Trace target on)) where
  pub trace_left : (m c : Book) (answer : Applied) → answer ≡ record { reply = replies.True; published = Some generation } → made_of (shown b) (Loader who) (cmds.Trace target on) ≡ Some (record { state = shown m; answer = answer })
      → shown c ≡ record (shown m) { holder = Tracing who generation } → c.modules.instances ≡ m.modules.instances → IsSound m.server → AgreesWithServer m.modules.instances m.server → TraceMade b c who target on
  trace_left m c answer answer_is made same table sound agrees =
      let cmd = cmds.Trace target on in
      let w = was_made (shown b) (Loader who) cmd (shown m) answer made in
      let left : shown c ≡ record (joined (shown b) (Loader who) cmd w.outcome) { holder = Tracing who generation } = same ∙ ap (λ (x : PermitState). record x { holder = Tracing who generation }) w.state in
      let server : c.server ≡ m.server = ap (λ (x : PermitState). x.server) same in
      record {
        ok = ap (option_and_then {U = PermitState} (λ (s : PermitStep). tracing_in s.state who s.answer.published)) made ∙ ap (λ (a : Applied). tracing_in (shown m) who a.published) answer_is ∙ ap (λ (x : PermitState). Some x) (sym same);
        book = book_by c (record (joined (shown b) (Loader who) cmd w.outcome) { holder = Tracing who generation }) left
            (trace_keeps (shown b) known.permit who generation target on w.outcome held next w.applied (w.answer_is ∙ answer_is) (subst IsSound (sym server ∙ ap (λ (x : PermitState). x.server) left) sound))
            (subst (λ s. AgreesWithServer c.modules.instances s) (sym server) (subst (λ ms. AgreesWithServer ms m.server) (sym table) agrees));
      }

-- what the end of a trace leaves
pub record SettleMade (b c : Book) (who generation : ℕ) : Type 0 where
  pub ok : advanced (shown b) [] who b.holder ≡ Some (record { state = shown c; answer = record { reply = replies.True; published = Some generation } })
  pub state : shown c ≡ (settled (shown b) who generation).state
  pub book : IsBook c

module _ (b : Book) (known : IsBook b) (who generation : ℕ) (held : b.holder ≡ Tracing who generation) where
  -- what waits
  pub trace_waits : TraceWaits (shown b) who generation
  trace_waits = subst (HoldsJust (shown b)) held known.permit.holds

  pub trace_there : IsSome (next_of (shown b) who)
  trace_there = ap is_some trace_waits.next

  pub settle_left : (c : Book) (after : LoaderRun) → IsSomeAnd (next_of (shown b) who) (λ command. option_map (loader_after command) (slice_get b.loaders.items who) ≡ Some after)
      → shown c ≡ record (shown b) { loaders = slice_set b.loaders.items who after; holder = Free } → c.modules.instances ≡ b.modules.instances → SettleMade b c who generation
  settle_left c after counts same table =
      let command = Trace trace_waits.target trace_waits.on in
      let after_is : option_map (loader_after command) (slice_get b.loaders.items who) ≡ Some after = subst (λ o. IsSomeAnd o (λ x. option_map (loader_after x) (slice_get b.loaders.items who) ≡ Some after)) trace_waits.next counts in
      let counted : slice_set b.loaders.items who after ≡ entered_by (Tracing who generation) b.loaders.items = counted_after b.loaders.items who command after after_is ∙ sym (entered_is who generation trace_waits.target trace_waits.on b.loaders.items) in
      let left : shown c ≡ (settled (shown b) who generation).state = same ∙ ap (λ ls. record (shown b) { loaders = ls; holder = Free }) counted in
      record {
        ok = ap (advanced (shown b) [] who) held ∙ ap (λ (x : PermitState). told x (record { reply = replies.True; published = Some generation })) (sym left);
        state = left;
        book = book_by c (settled (shown b) who generation).state left (settled_keeps (shown b) known.permit who generation held)
            (subst (λ s. AgreesWithServer c.modules.instances s) (sym (ap (λ (x : PermitState). x.server) same)) (subst (λ ms. AgreesWithServer ms b.server) (sym table) known.agrees));
      }

-- ---- the loader that is counted

-- the loader that the code reads
pub loader_read : (b : Book) (who : ℕ) (command : ScriptCmd) (l : LoaderRun) → IsBook b → next_of (shown b) who ≡ Some command → l ≡ get_or b.loaders.items who l → slice_get b.loaders.items who ≡ Some l
loader_read b who command l known next is =
    let t = there (shown b) known.permit who command next in
    slice_get_read b.loaders.items (length b.loaders.items) who l refl (slice_get_within b.loaders.items who t.0 t.1) is

-- what it is once its next command is done
pub next_counted : (b : Book) (who : ℕ) (command : ScriptCmd) (l after : LoaderRun) (spawns : Bool) → next_of (shown b) who ≡ Some command → slice_get b.loaders.items who ≡ Some l → spawns ≡ is_spawn command
    → after ≡ record { done = l.done + 1; next_process = l.next_process + (if spawns then 1 else 0) } → IsSomeAnd (next_of (shown b) who) (λ x. option_map (loader_after x) (slice_get b.loaders.items who) ≡ Some after)
next_counted b who command l after spawns next found told is =
    let new : after ≡ loader_after command l = is ∙ ap (λ n. record { done = l.done + 1; next_process = l.next_process + n }) (ap (λ s. if s then 1 else 0) told ∙ count_same command) in
    some_at (next_of (shown b) who) (λ x. option_map (loader_after x) (slice_get b.loaders.items who) ≡ Some after) command next (ap (option_map {U = LoaderRun} (loader_after command)) found ∙ ap (λ (x : LoaderRun). Some x) (sym new))

-- ---- what a loader is told

-- a command is made at once
pub open_ok : (p : PermitState) (among : List Linger) (who : ℕ) (command : ScriptCmd) (cmd : Cmd) (r : Option PermitStep) → next_of p who ≡ Some command → purged_code p.server command ≡ None → cmd ≡ command_opening p.server among command → command_ended p who cmd ≡ r
    → option_and_then (λ x. command_begun p among who x (purged_code p.server x)) (next_of p who) ≡ r
open_ok p among who command cmd r next code is h =
    ap (option_and_then {U = PermitStep} (λ x. command_begun p among who x (purged_code p.server x))) next ∙ ap (command_begun p among who command) code ∙ ap (command_ended p who) (sym is) ∙ h

-- ---- with what a command ends

pub open_ends : (b : Book) (who : ℕ) (command : ScriptCmd) (among : List Linger) (cmd : Cmd) → b.holder ≡ Held who → next_of (shown b) who ≡ Some command → purged_code b.server command ≡ None → cmd ≡ command_opening b.server among command
    → IsSomeAnd (next_of (shown b) who) (λ x. EndsBy (shown b) b.holder x cmd)
open_ends b who command among cmd held next code is =
    some_at (next_of (shown b) who) (λ x. EndsBy (shown b) b.holder x cmd) command next (subst (λ h. EndsBy (shown b) h command cmd) (sym held) (code, (among, is)))

pub close_ends : (b : Book) (known : IsBook b) (who : ℕ) (code : OldCode) (killed : Bool) → b.holder ≡ Purging who code.«module» → IsSomeAnd (next_of (shown b) who) (λ x. EndsBy (shown b) b.holder x (cmds.Purge code.«module» killed))
close_ends b known who code killed held =
    let k : PurgeWaits (shown b) who code.«module» = subst (HoldsJust (shown b)) held known.permit.holds in
    some_at (next_of (shown b) who) (λ x. EndsBy (shown b) b.holder x (cmds.Purge code.«module» killed)) (Purge code.«module») k.next
    (subst (λ h. EndsBy (shown b) h (Purge code.«module») (cmds.Purge code.«module» killed)) (sym held) (killed, refl))

-- who has the permission
pub held_by : (h : Holder) (n who : ℕ) → h ≡ Held n → holder_of h ≡ Some who → h ≡ Held who
held_by h n who is own = is ∙ ap Held (same_Some n who (sym (ap holder_of is) ∙ own))

pub purging_by : (s : ServerState) (h : Holder) (n who : ℕ) (name : AtomId) (code : OldCode) → h ≡ Purging n name → holder_of h ≡ Some who → purged_code s (Purge name) ≡ Some code → h ≡ Purging who code.«module»
purging_by s h n who name code is own found = is ∙ ap (λ k. Purging k name) (same_Some n who (sym (ap holder_of is) ∙ own)) ∙ ap (Purging who) (code_of_module s name code found)

pub tracing_by : (h : Holder) (n who generation : ℕ) → h ≡ Tracing n generation → holder_of h ≡ Some who → h ≡ Tracing who generation
tracing_by h n who generation is own = is ∙ ap (λ k. Tracing k generation) (same_Some n who (sym (ap holder_of is) ∙ own))

-- a loader whose purge waits has old code to purge
pub second_code : (b : Book) (n : ℕ) (name : AtomId) → IsBook b → b.holder ≡ Purging n name → IsSome (purged_code b.server (Purge name))
second_code b n name known is = waiting_code (shown b) n name (subst (HoldsJust (shown b)) is known.permit.holds)

-- ---- want of memory

-- a loader that gives the permission up keeps the book
pub book_given : (m c : Book) (h : Holder) → IsBook m → h ≡ given_up m.holder → shown c ≡ record (shown m) { holder = h } → c.modules.instances ≡ m.modules.instances → IsBook c
book_given m c h known is left table =
    book_by c (record (shown m) { holder = given_up m.holder }) (left ∙ ap (λ x. record (shown m) { holder = x }) is) (given_permit (shown m) m.holder known.permit refl)
    (subst (λ s. AgreesWithServer c.modules.instances s) (sym (ap (λ (x : PermitState). x.server) left)) (subst (λ ms. AgreesWithServer ms m.server) (sym table) known.agrees))
