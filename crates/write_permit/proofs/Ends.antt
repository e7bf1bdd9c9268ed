-- What every permit shows goes on to hold while the loader goes on that has the permission: its command ends, its purge begins, its trace joins or is done, or it gives up.
use Rattle.std.proofs.Common.{◌≡◌, ℕ, zero, suc, ◌≤◌, Bool, false, List, [], ◌∷◌, ◌++◌, length, slice_set, slice_get, Option, Some, None, IsSome, IsSomeAnd, is_some, option_map, unwrap_or, refl, sym, ap, subst, ◌∙◌, arith}
use Rattle.std.proofs.lemmas.Option.{none-some, same_Some}
use Rattle.term_core.specs.declared.atom.AtomId.{AtomId}
use Rattle.term_core.specs.declared.names.TheConstants.{MOST_NAMES}
use Rattle.term_core.specs.Plain.{plain}
use Rattle.mod_core.specs.declared.code.Module.{Module}
use Rattle.server_core.specs.declared.command.Cmd.{Cmd}
use Rattle.server_core.specs.declared.command.Cmd.TheVariants as cmds
use Rattle.server_core.specs.declared.command.Applied.{Applied}
use Rattle.server_core.specs.declared.command.Linger.{Linger}
use Rattle.server_core.specs.declared.command.Reply.TheVariants as replies
use Rattle.term_core.specs.declared.atom.Mfa.{Mfa}
use Rattle.server_core.specs.ServerState.{ServerState, IsSound, empty_state, old_among, old_of, persistent_of, traceable_of}
use Rattle.server_core.specs.CommandTable.{IsOfText, Outcome, apply_of, delete_of, erase_of, put_of, soft_purge_of, trace_of}
use Rattle.script_core.specs.declared.script.ScriptCmd.{ScriptCmd}
use Rattle.script_core.specs.declared.script.ScriptCmd.TheVariants.{Load, Delete, SoftPurge, Purge, CheckOld, Put, Erase, Trace, Spawn}
use Rattle.script_core.specs.Processes.{commands_at}
use Rattle.script_core.specs.Sound.{IsCmdOf}
use Rattle.script_core.proofs.JoinedPlaces.{get_behind}
use Rattle.script_core.proofs.ShortTerms.{short_term}
use Rattle.std.specs.List.{AllByRecursion}
use Rattle.run_log.specs.declared.logs.Entry.{Entry}
use Rattle.run_log.specs.declared.logs.Who.{Who}
use Rattle.run_log.specs.declared.logs.Who.TheVariants.{Loader}
use Rattle.run_log.specs.Legal.{MayStand, PurgesGo, ended_by, half_after, is_release}
use Rattle.run_log.proofs.ListPlaces.{all_at}
use Rattle.run_log.proofs.SpanRuns.{some_and}
use Rattle.write_permit.specs.declared.commands.OldCode.{OldCode}
use Rattle.write_permit.specs.declared.holder.Holder.{Holder}
use Rattle.write_permit.specs.declared.holder.Holder.TheVariants.{Free, Held, Purging, Tracing}
use Rattle.write_permit.specs.declared.loader_run.LoaderRun.{LoaderRun}
use Rattle.write_permit.specs.Book.{EndsBy, HoldsJust, IsHeld, IsLog, IsPermit, PurgeWaits, TraceWaits}
use Rattle.write_permit.specs.Permit.{PermitState, counted_in, entered_by, given_up, half_of, holder_of, joined, lingering, loader_after, next_of, command_opening, purged_code, settled}
use Rattle.write_permit.proofs.Dooms.{at_rest, doom_dooms, idle_purge_enabled, load_enabled, purge_enabled, purge_lifts, rest_kept}
use Rattle.write_permit.proofs.Entered.{entered_is}
use Rattle.write_permit.proofs.Kept.{there}
use Rattle.write_permit.proofs.Logs.{counted_is, entry_of, log_counted, log_joined, purges_joined}

-- ---- an entry that ends a command

-- an entry that may stand where this loader has the permission, and ends its command, which had none before
pub record EndsOwn (p : PermitState) (h : Holder) (who : ℕ) (command : ScriptCmd) (cmd : Cmd) (o : Outcome) : Type 0 where
  pub ended : ended_by cmd ≡ command ∷ []
  pub loads : is_release cmd ≡ false
  pub stands : MayStand p.server (half_of h) (entry_of (Loader who) cmd o)
  pub half : half_after (half_of h) (Loader who) cmd ≡ None
  pub entered : entered_by h p.loaders ≡ p.loaders
  pub rest : o.state.doomed ≡ []

-- a purge that purges no old code is of a module without such code
pub no_code : (name : AtomId) (old : Option ℕ) → option_map {U = OldCode} (λ serial. record { «module» = name; serial = serial }) old ≡ None → old ≡ None
no_code name None h = refl
no_code name (Some serial) h = absurd (none-some _ (sym h))

module _ (p : PermitState) (by who : ℕ) (among : List Linger) (o : Outcome) (none : p.server.doomed ≡ []) where
  -- a command that is made at once ends itself
  opened : (command : ScriptCmd) → purged_code p.server command ≡ None → apply_of p.script.modules p.server (command_opening p.server among command) ≡ Some o → EndsOwn p (Held by) who command (command_opening p.server among command) o
  opened (Purge name) code applied = record { ended = refl; loads = refl; stands = no_code name (old_of p.server name.0) code; half = refl; entered = refl; rest = rest_kept p.script.modules p.server (cmds.Purge name false) o none tt applied }
  opened command code applied = record { ended = refl; loads = refl; stands = tt; half = refl; entered = refl; rest = rest_kept p.script.modules p.server (command_opening p.server among command) o none tt applied }

-- the second half of a purge ends the purge
closed_ends : (p : PermitState) (by who : ℕ) (name : AtomId) (killed : Bool) (o : Outcome) → PurgeWaits p by name → by ≡ who → apply_of p.script.modules p.server (cmds.Purge name killed) ≡ Some o
    → EndsOwn p (Purging by name) who (Purge name) (cmds.Purge name killed) o
closed_ends p by who name killed o waits own applied =
    let d = some_and (old_of p.server name.0) (λ serial. p.server.doomed ≡ serial ∷ []) waits.doomed in
    record { ended = refl; loads = refl; stands = (ap Loader (sym own), refl); half = refl; entered = refl; rest = purge_lifts p.script.modules p.server name killed d.0 o d.1.1 d.1.0 applied }

-- whose purge waits has that purge as its next command
waiting_command : (p : PermitState) (by who : ℕ) (name : AtomId) (command : ScriptCmd) → PurgeWaits p by name → by ≡ who → next_of p who ≡ Some command → command ≡ Purge name
waiting_command p by who name command waits own next = same_Some command (Purge name) (sym next ∙ sym (ap (next_of p) own) ∙ waits.next)

-- what ends the holder's command may stand and ends it
pub ends_own : (p : PermitState) (h : Holder) (who : ℕ) (command : ScriptCmd) (cmd : Cmd) (o : Outcome) → HoldsJust p h → holder_of h ≡ Some who → next_of p who ≡ Some command → EndsBy p h command cmd → apply_of p.script.modules p.server cmd ≡ Some o
    → EndsOwn p h who command cmd o
ends_own p Free who command cmd o holds own next by applied = absurd by
ends_own p (Tracing n generation) who command cmd o holds own next by applied = absurd by
ends_own p (Held n) who command cmd o holds own next by applied =
    subst (λ c. EndsOwn p (Held n) who command c o) (sym by.1.1)
    (opened p n who by.1.0 o holds.rest command by.0 (subst (λ c. apply_of p.script.modules p.server c ≡ Some o) by.1.1 applied))
ends_own p (Purging n name) who command cmd o holds own next by applied =
    let same : n ≡ who = same_Some n who own in
    subst (λ c. EndsOwn p (Purging n name) who c cmd o) (sym (waiting_command p n who name command holds same next))
    (subst (λ c. EndsOwn p (Purging n name) who (Purge name) c o) (sym by.1)
    (closed_ends p n who name by.0 o holds same (subst (λ c. apply_of p.script.modules p.server c ≡ Some o) by.1 applied)))

-- a command that ends keeps what a permit shows: the permission is free
pub end_keeps : (p : PermitState) (known : IsPermit p) (who : ℕ) (command : ScriptCmd) (next : next_of p who ≡ Some command) (cmd : Cmd) (o : Outcome) → apply_of p.script.modules p.server cmd ≡ Some o → EndsOwn p p.holder who command cmd o → IsSound o.state
    → IsPermit (record (joined p (Loader who) cmd o) { loaders = counted_in p.loaders who command; holder = Free })
end_keeps p known who command next cmd o applied ends sound =
    let t = there p known who command next in
    let counted = counted_is p.loaders who command t.0 t.1 in
    let log : IsLog p.script p.server p.journal p.loaders = subst (IsLog p.script p.server p.journal) ends.entered known.log in
    record {
      script = known.script;
      log = subst (IsLog p.script o.state (p.journal ++ entry_of (Loader who) cmd o ∷ [])) (sym counted) (log_counted p.script p.server p.journal p.loaders log who command next t.0 t.1 cmd o applied ends.ended ends.loads);
      sound = sound;
      purges = subst (PurgesGo p.script.modules empty_state None (p.journal ++ entry_of (Loader who) cmd o ∷ [])) ends.half
          (purges_joined p.script p.server p.journal p.loaders log (Loader who) cmd o applied (half_of p.holder) known.purges ends.stands);
      holds = ends.rest;
    }

-- where a loader has the permission and no entry of its command is there, the journal is that of the loaders
held_log : (p : PermitState) (who : ℕ) → IsPermit p → p.holder ≡ Held who → IsLog p.script p.server p.journal p.loaders
held_log p who known held = subst (λ h. IsLog p.script p.server p.journal (entered_by h p.loaders)) held known.log

-- ---- the first half of a purge

-- a doom keeps it: from now on a purge waits
pub doom_keeps : (p : PermitState) (known : IsPermit p) (who : ℕ) (name : AtomId) (serial : ℕ) (o : Outcome) → p.holder ≡ Held who → next_of p who ≡ Some (Purge name) → old_of p.server name.0 ≡ Some serial
    → apply_of p.script.modules p.server (cmds.Doom name) ≡ Some o → IsSound o.state → IsPermit (record (joined p (Loader who) (cmds.Doom name) o) { holder = Purging who name })
doom_keeps p known who name serial o held next old applied sound =
    let k : IsHeld p who = subst (HoldsJust p) held known.holds in
    let d = doom_dooms p.script.modules p.server name serial o k.rest old applied in
    let log = held_log p who known held in
    record {
      script = known.script;
      log = log_joined p.script p.server p.journal p.loaders log (Loader who) (cmds.Doom name) o applied refl refl;
      sound = sound;
      purges = purges_joined p.script p.server p.journal p.loaders log (Loader who) (cmds.Doom name) o applied None (subst (λ h. PurgesGo p.script.modules empty_state None p.journal (half_of h)) held known.purges) tt;
      holds = record {
        next = next;
        doomed = subst (λ vs. IsSomeAnd (old_among vs name.0) (λ n. o.state.doomed ≡ n ∷ [])) (sym d.versions) (subst (λ x. IsSomeAnd x (λ n. o.state.doomed ≡ n ∷ [])) (sym old) d.doomed);
      };
    }

-- ---- a trace

-- an entry with this answer
abbrev answered_by : Who → Cmd → Applied → Option Entry
answered_by who cmd a = Some (record { who = who; cmd = cmd; reply = a.reply; published = a.published })

-- the entry of a trace keeps it: from now on the trace waits
pub trace_keeps : (p : PermitState) (known : IsPermit p) (who generation : ℕ) (target : Mfa) (on : Bool) (o : Outcome) → p.holder ≡ Held who → next_of p who ≡ Some (Trace target on) → apply_of p.script.modules p.server (cmds.Trace target on) ≡ Some o
    → o.answer ≡ record { reply = replies.True; published = Some generation } → IsSound o.state → IsPermit (record (joined p (Loader who) (cmds.Trace target on) o) { holder = Tracing who generation })
trace_keeps p known who generation target on o held next applied answer sound =
    let k : IsHeld p who = subst (HoldsJust p) held known.holds in
    let log = held_log p who known held in
    let t = there p known who (Trace target on) next in
    let entered = entered_is who generation target on p.loaders ∙ counted_is p.loaders who (Trace target on) t.0 t.1 in
    let longer : List Entry = p.journal ++ entry_of (Loader who) (cmds.Trace target on) o ∷ [] in
    record {
      script = known.script;
      log = subst (IsLog p.script o.state longer) (sym entered) (log_counted p.script p.server p.journal p.loaders log who (Trace target on) next t.0 t.1 (cmds.Trace target on) o applied refl refl);
      sound = sound;
      purges = purges_joined p.script p.server p.journal p.loaders log (Loader who) (cmds.Trace target on) o applied None (subst (λ h. PurgesGo p.script.modules empty_state None p.journal (half_of h)) held known.purges) tt;
      holds = record {
        rest = rest_kept p.script.modules p.server (cmds.Trace target on) o k.rest tt applied;
        target = target;
        on = on;
        next = next;
        place = length p.journal;
        entry = ap (slice_get longer) (omega arith) ∙ get_behind p.journal (entry_of (Loader who) (cmds.Trace target on) o ∷ []) 0 ∙ ap (answered_by (Loader who) (cmds.Trace target on)) answer;
      };
    }

-- so does the end of the trace: nobody has the permission
pub settled_keeps : (p : PermitState) (known : IsPermit p) (who generation : ℕ) → p.holder ≡ Tracing who generation → IsPermit (settled p who generation).state
settled_keeps p known who generation held =
    let k : TraceWaits p who generation = subst (HoldsJust p) held known.holds in
    record {
      script = known.script;
      log = subst (λ h. IsLog p.script p.server p.journal (entered_by h p.loaders)) held known.log;
      sound = known.sound;
      purges = subst (λ h. PurgesGo p.script.modules empty_state None p.journal (half_of h)) held known.purges;
      holds = k.rest;
    }

-- ---- want of memory

-- a loader that gives the permission up keeps it
pub given_permit : (p : PermitState) (h : Holder) → IsPermit p → p.holder ≡ h → IsPermit (record p { holder = given_up h })
given_permit p Free known is = record {
  script = known.script;
  log = subst (λ x. IsLog p.script p.server p.journal (entered_by x p.loaders)) is known.log;
  sound = known.sound;
  purges = subst (λ x. PurgesGo p.script.modules empty_state None p.journal (half_of x)) is known.purges;
  holds = subst (HoldsJust p) is known.holds;
}
given_permit p (Held by) known is =
    let k : IsHeld p by = subst (HoldsJust p) is known.holds in
    record {
      script = known.script;
      log = held_log p by known is;
      sound = known.sound;
      purges = subst (λ x. PurgesGo p.script.modules empty_state None p.journal (half_of x)) is known.purges;
      holds = k.rest;
    }
given_permit p (Purging by name) known is =
    let k : PurgeWaits p by name = subst (HoldsJust p) is known.holds in
    record {
      script = known.script;
      log = subst (λ x. IsLog p.script p.server p.journal (entered_by x p.loaders)) is known.log;
      sound = known.sound;
      purges = subst (λ x. PurgesGo p.script.modules empty_state None p.journal (half_of x)) is known.purges;
      holds = record { next = k.next; doomed = k.doomed };
    }
given_permit p (Tracing by generation) known is =
    let k : TraceWaits p by generation = subst (HoldsJust p) is known.holds in
    record {
      script = known.script;
      log = subst (λ x. IsLog p.script p.server p.journal (entered_by x p.loaders)) is known.log;
      sound = known.sound;
      purges = subst (λ x. PurgesGo p.script.modules empty_state None p.journal (half_of x)) is known.purges;
      holds = record { rest = k.rest; target = k.target; on = k.on; next = k.next; place = k.place; entry = k.entry };
    }

-- ---- commands that have a case

soft_purge_some : (s : ServerState) (name : ℕ) (among : List Linger) (old : Option ℕ) (lingers : Option Linger) → lingers ≡ lingering among old → IsSome (soft_purge_of s name lingers old)
soft_purge_some s name among None None h = refl
soft_purge_some s name [] None (Some linger) h = absurd (none-some linger (sym h))
soft_purge_some s name (l ∷ ls) None (Some linger) h = absurd (none-some linger (sym h))
soft_purge_some s name among (Some serial) None h = refl
soft_purge_some s name among (Some serial) (Some linger) h = refl

opening_some : (names : List (List ℕ)) (texts : List Module) (s : ServerState) (among : List Linger) (command : ScriptCmd) → s.doomed ≡ [] → purged_code s command ≡ None → IsCmdOf names texts command → IsSome (apply_of texts s (command_opening s among command))
opening_some names texts s among (Load refs) none code fits = load_enabled texts s refs none fits.given
opening_some names texts s among (Delete name) none code fits = at_rest s (Some (delete_of s name.0)) none refl
opening_some names texts s among (SoftPurge name) none code fits =
    at_rest s (soft_purge_of s name.0 (lingering among (old_of s name.0)) (old_of s name.0)) none (soft_purge_some s name.0 among (old_of s name.0) (lingering among (old_of s name.0)) refl)
opening_some names texts s among (Purge name) none code fits = idle_purge_enabled texts s name none (no_code name (old_of s name.0) code)
opening_some names texts s among (CheckOld name) none code fits = refl
opening_some names texts s among (Put key term) none code fits = at_rest s (Some (put_of s key.0 (plain term))) none refl
opening_some names texts s among (Erase key) none code fits = at_rest s (Some (erase_of s key.0 (persistent_of s key.0))) none refl
opening_some names texts s among (Trace target on) none code fits = at_rest s (Some (trace_of s on (traceable_of s target))) none refl
opening_some names texts s among (Spawn target args) none code fits = refl

-- what is known of each command of each loader is known of the next one
next_fits : (P : ScriptCmd → Type 0) (loaders : List (List ScriptCmd)) (k place : ℕ) (command : ScriptCmd) → AllByRecursion (λ commands. AllByRecursion P commands) loaders → slice_get (commands_at loaders k) place ≡ Some command → P command
next_fits P [] k place command all h = absurd (none-some command h)
next_fits P (commands ∷ loaders) zero place command all h = all_at P commands place command all.0 h
next_fits P (commands ∷ loaders) (suc k) place command all h = next_fits P loaders k place command all.1 h

opening_of_text : (names : List (List ℕ)) (texts : List Module) (s : ServerState) (among : List Linger) (command : ScriptCmd) → length names ≤ MOST_NAMES → IsCmdOf names texts command → IsOfText (command_opening s among command)
opening_of_text names texts s among (Put key term) room fits = short_term names (plain term) room fits.is_term
opening_of_text names texts s among command room fits = tt

-- what makes a command's last entry: the table has a case for it, and a term that it puts is one that a text can say
pub record CanEnd (p : PermitState) (cmd : Cmd) : Type 0 where
  pub enabled : IsSome (apply_of p.script.modules p.server cmd)
  pub of_text : IsOfText cmd

pub can_end : (p : PermitState) (known : IsPermit p) (h : Holder) (who : ℕ) (command : ScriptCmd) (cmd : Cmd) → p.holder ≡ h → next_of p who ≡ Some command → EndsBy p h command cmd → CanEnd p cmd
can_end p known Free who command cmd is next by = absurd by
can_end p known (Tracing n generation) who command cmd is next by = absurd by
can_end p known (Held n) who command cmd is next by =
    let k : IsHeld p n = subst (HoldsJust p) is known.holds in
    let fits = next_fits (IsCmdOf p.script.names p.script.modules) p.script.loaders who _ command known.script.commands next in
    subst (CanEnd p) (sym by.1.1) (record {
      enabled = opening_some p.script.names p.script.modules p.server by.1.0 command k.rest by.0 fits;
      of_text = opening_of_text p.script.names p.script.modules p.server by.1.0 command known.script.names.room fits;
    })
can_end p known (Purging n name) who command cmd is next by =
    let k : PurgeWaits p n name = subst (HoldsJust p) is known.holds in
    let d = some_and (old_of p.server name.0) (λ serial. p.server.doomed ≡ serial ∷ []) k.doomed in
    subst (CanEnd p) (sym by.1) (record { enabled = purge_enabled p.script.modules p.server name by.0 d.0 d.1.1 d.1.0; of_text = tt })

-- ---- a purge that begins or waits

-- a command that purges old code is a purge of its module
pub record PurgesCode (s : ServerState) (command : ScriptCmd) (code : OldCode) : Type 0 where
  pub command_is : command ≡ Purge code.«module»
  pub old : old_of s code.«module».0 ≡ Some code.serial

code_found : (s : ServerState) (name : AtomId) (code : OldCode) (old : Option ℕ) → old_of s name.0 ≡ old → option_map {U = OldCode} (λ serial. record { «module» = name; serial = serial }) old ≡ Some code → (name ≡ code.«module») × (old_of s code.«module».0 ≡ Some code.serial)
code_found s name code None e h = absurd (none-some code h)
code_found s name code (Some serial) e h =
    let is : record { «module» = name; serial = serial } ≡ code = same_Some _ _ h in
    subst (λ (c : OldCode). (name ≡ c.«module») × (old_of s c.«module».0 ≡ Some c.serial)) is (refl, e)

pub purges_code : (s : ServerState) (command : ScriptCmd) (code : OldCode) → purged_code s command ≡ Some code → PurgesCode s command code
purges_code s (Purge name) code h = let f = code_found s name code (old_of s name.0) refl h in record { command_is = ap Purge f.0; old = f.1 }
purges_code s command code h = absurd (none-some code h)

-- what a purge of this module purges is of this module
pub code_of_module : (s : ServerState) (name : AtomId) (code : OldCode) → purged_code s (Purge name) ≡ Some code → name ≡ code.«module»
code_of_module s name code h = let f = code_found s name code (old_of s name.0) refl h in f.0

-- the old code of a purge that waits is there
pub waiting_code : (p : PermitState) (by : ℕ) (name : AtomId) → PurgeWaits p by name → IsSome (purged_code p.server (Purge name))
waiting_code p by name waits =
    let d = some_and (old_of p.server name.0) (λ serial. p.server.doomed ≡ serial ∷ []) waits.doomed in
    ap (λ o. is_some (option_map {U = OldCode} (λ serial. record { «module» = name; serial = serial }) o)) d.1.0

-- ---- the loader that is counted

-- the loader that is this far stands where the one did whose command is done
pub counted_after : (loaders : List LoaderRun) (who : ℕ) (command : ScriptCmd) (after : LoaderRun) → option_map (loader_after command) (slice_get loaders who) ≡ Some after → slice_set loaders who after ≡ counted_in loaders who command
counted_after loaders who command after h = by (slice_get loaders who) h
  where
    by : (o : Option LoaderRun) → option_map (loader_after command) o ≡ Some after → slice_set loaders who after ≡ unwrap_or (option_map (λ l. slice_set loaders who (loader_after command l)) o) loaders
    by None e = absurd (none-some after e)
    by (Some l) e = ap (slice_set loaders who) (sym (same_Some _ after e))
