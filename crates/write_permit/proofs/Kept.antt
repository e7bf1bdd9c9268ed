-- What every permit shows goes on to hold: after a command that is made at once, and after a release.
use Rattle.std.proofs.Common.{◌≡◌, ◌≢◌, ℕ, zero, suc, ◌<◌, true, false, Bool, List, [], ◌∷◌, ◌++◌, length, slice_get, slice_set, Some, None, IsSomeAnd, if◌then◌else◌, refl, sym, ap, subst, ◌∙◌, arith}
use Rattle.std.proofs.lemmas.Bool.{false≢true}
use Rattle.std.proofs.lemmas.Option.{none-some, same_Some}
use Rattle.term_core.specs.declared.atom.AtomId.{AtomId}
use Rattle.server_core.specs.declared.command.Cmd.{Cmd}
use Rattle.server_core.specs.declared.command.Cmd.TheVariants as cmds
use Rattle.server_core.specs.ServerState.{ServerState, IsSound, empty_state, is_retired, old_among, old_of}
use Rattle.server_core.specs.CommandTable.{Outcome, apply_of, unchanged, with_released}
use Rattle.server_core.specs.declared.command.Reply.TheVariants as replies
use Rattle.term_core.specs.declared.atom.Mfa.{Mfa}
use Rattle.term_core.specs.PlainTerm.{PlainTerm}
use Rattle.script_core.specs.declared.script.ScriptCmd.{ScriptCmd}
use Rattle.script_core.specs.Processes.{commands_at}
use Rattle.script_core.specs.declared.script.ScriptCmd.TheVariants.{Purge, CheckOld, Spawn, Trace}
use Rattle.script_core.proofs.JoinedPlaces.{get_front}
use Rattle.run_log.specs.declared.logs.Entry.{Entry}
use Rattle.run_log.specs.declared.logs.Who.TheVariants.{Loader, Runtime}
use Rattle.run_log.specs.Legal.{commands_of, MayStand, PurgesGo, ended_by, half_after, is_release}
use Rattle.run_log.proofs.ListPlaces.{get_within}
use Rattle.write_permit.specs.declared.holder.Holder.{Holder}
use Rattle.write_permit.specs.declared.holder.Holder.TheVariants.{Free, Held, Purging, Tracing}
use Rattle.write_permit.specs.declared.loader_run.LoaderRun.{LoaderRun}
use Rattle.write_permit.specs.Book.{HoldsJust, IsLog, IsPermit}
use Rattle.write_permit.specs.Permit.{PermitState, counted_in, done_of, entered_by, half_of, holder_of, joined, loader_after, needs_permission, next_of, command_opening}
use Rattle.write_permit.proofs.Entered.{entered_counted, entered_done, entered_other, many_loaders}
use Rattle.write_permit.proofs.Logs.{counted_is, done_other, entry_of, log_counted, log_joined, purges_joined}

-- what the holder is about stays, where what is doomed, the versions, its next command and the entries do
pub holds_same : (p q : PermitState) (h : Holder) → q.server.doomed ≡ p.server.doomed → q.server.versions ≡ p.server.versions → ((by : ℕ) → holder_of h ≡ Some by → next_of q by ≡ next_of p by)
    → ((place : ℕ) (e : Entry) → slice_get p.journal place ≡ Some e → slice_get q.journal place ≡ Some e) → HoldsJust p h → HoldsJust q h
holds_same p q Free d v n j k = d ∙ k
holds_same p q (Held by) d v n j k = record { rest = d ∙ k.rest; next = subst (λ x. IsSomeAnd x (λ command. needs_permission command ≡ true)) (sym (n by refl)) k.next }
holds_same p q (Tracing by generation) d v n j k = record { rest = d ∙ k.rest; target = k.target; on = k.on; next = n by refl ∙ k.next; place = k.place; entry = j k.place _ k.entry }
holds_same p q (Purging by name) d v n j k = record {
  next = n by refl ∙ k.next;
  doomed = subst (λ vs. IsSomeAnd (old_among vs name.0) (λ serial. q.server.doomed ≡ serial ∷ [])) (sym v) (subst (λ x. IsSomeAnd (old_of p.server name.0) (λ serial. x ≡ serial ∷ [])) (sym d) k.doomed);
}

-- a loader whose next command needs no permission does not hold it
pub holder_apart : (p : PermitState) (h : Holder) (who : ℕ) (command : ScriptCmd) → HoldsJust p h → next_of p who ≡ Some command → needs_permission command ≡ false → (by : ℕ) → holder_of h ≡ Some by → by ≡ who → ⊥
holder_apart p Free who command k next free by is same = none-some by is
holder_apart p (Held x) who command k next free by is same =
    let e : x ≡ who = same_Some x by is ∙ same in
    let needs : needs_permission command ≡ true = subst (λ o. IsSomeAnd o (λ c. needs_permission c ≡ true)) (ap (next_of p) e ∙ next) k.next in
    false≢true (sym free ∙ needs)
holder_apart p (Purging x name) who command k next free by is same =
    let e : x ≡ who = same_Some x by is ∙ same in
    let c : command ≡ Purge name = same_Some command (Purge name) (sym next ∙ sym (ap (next_of p) e) ∙ k.next) in
    false≢true (sym free ∙ ap needs_permission c)
holder_apart p (Tracing x generation) who command k next free by is same =
    let e : x ≡ who = same_Some x by is ∙ same in
    let c : command ≡ Trace k.target k.on = same_Some command (Trace k.target k.on) (sym next ∙ sym (ap (next_of p) e) ∙ k.next) in
    false≢true (sym free ∙ ap needs_permission c)

-- two loaders are two
loaders_apart : (a b : ℕ) → (b ≡ a → ⊥) → Loader a ≢ Loader b
loaders_apart a b n e = let f : a ≡ b = cc in n (sym f)

runtime_apart : (a : ℕ) → Runtime ≢ Loader a
runtime_apart a e = cc

-- ---- a command that is made at once

-- a command that leaves the server's state, and may stand anywhere but between the halves of its own loader's purge
record IsQuick (p : PermitState) (who : ℕ) (command : ScriptCmd) (cmd : Cmd) (o : Outcome) : Type 0 where
  ended : ended_by cmd ≡ command ∷ []
  loads : is_release cmd ≡ false
  same : o.state ≡ p.server
  stands : (h : Holder) → ((by : ℕ) → holder_of h ≡ Some by → by ≡ who → ⊥) → MayStand p.server (half_of h) (entry_of (Loader who) cmd o)
  half : (h : Holder) → half_after (half_of h) (Loader who) cmd ≡ half_of h

between : (p : PermitState) (who : ℕ) (cmd : Cmd) (o : Outcome) → ((by : ℕ) (name : AtomId) → (by ≡ who → ⊥) → MayStand p.server (half_of (Purging by name)) (entry_of (Loader who) cmd o)) → MayStand p.server None (entry_of (Loader who) cmd o)
    → (h : Holder) → ((by : ℕ) → holder_of h ≡ Some by → by ≡ who → ⊥) → MayStand p.server (half_of h) (entry_of (Loader who) cmd o)
between p who cmd o stands alone Free n = alone
between p who cmd o stands alone (Held by) n = alone
between p who cmd o stands alone (Purging by name) n = stands by name (n by refl)
between p who cmd o stands alone (Tracing by generation) n = alone

quick_check : (p : PermitState) (who : ℕ) (name : AtomId) (o : Outcome) → apply_of p.script.modules p.server (cmds.CheckOld name) ≡ Some o → IsQuick p who (CheckOld name) (cmds.CheckOld name) o
quick_check p who name o applied = record {
  ended = refl;
  loads = refl;
  same = sym (ap (λ x. x.state) (same_Some _ o applied));
  stands = between p who (cmds.CheckOld name) o (λ by other n. loaders_apart who by n) tt;
  half = λ h. refl;
}

quick_spawn : (p : PermitState) (who : ℕ) (target : Mfa) (args : List PlainTerm) (o : Outcome) → apply_of p.script.modules p.server (cmds.Spawn target args) ≡ Some o → IsQuick p who (Spawn target args) (cmds.Spawn target args) o
quick_spawn p who target args o applied = record {
  ended = refl;
  loads = refl;
  same = sym (ap (λ x. x.state) (same_Some _ o applied));
  stands = between p who (cmds.Spawn target args) o (λ by other n. loaders_apart who by n) tt;
  half = λ h. refl;
}

-- a command that needs no permission is one of these two
quick : (p : PermitState) (who : ℕ) (command : ScriptCmd) (o : Outcome) → needs_permission command ≡ false → apply_of p.script.modules p.server (command_opening p.server [] command) ≡ Some o → IsQuick p who command (command_opening p.server [] command) o
quick p who (CheckOld name) o free applied = quick_check p who name o applied
quick p who (Spawn target args) o free applied = quick_spawn p who target args o applied
quick p who command o free applied = absurd (false≢true (sym free))

-- a loader that has a next command is there
loader_there : (loaders : List (List ScriptCmd)) (k place : ℕ) (command : ScriptCmd) → slice_get (commands_at loaders k) place ≡ Some command → k < length loaders
loader_there [] k place command h = absurd (none-some command h)
loader_there (commands ∷ loaders) zero place command h = omega arith
loader_there (commands ∷ loaders) (suc k) place command h = omega (arith, loader_there loaders k place command h)

module _ (p : PermitState) (known : IsPermit p) (who : ℕ) (command : ScriptCmd) (next : next_of p who ≡ Some command) where
  pub there : (l : LoaderRun) × (slice_get p.loaders who ≡ Some l)
  there = get_within p.loaders who (omega (arith, many_loaders p known, loader_there p.script.loaders who (done_of p.loaders who) command next))

  abbrev with_counted : PermitState → PermitState
  with_counted q = record q { loaders = counted_in p.loaders who command }

  -- the loaders that another command leaves
  pub next_kept : (q : PermitState) → q.script ≡ p.script → (by : ℕ) → (by ≡ who → ⊥) → next_of (with_counted q) by ≡ next_of p by
  next_kept q same by n =
      ap (λ s. slice_get (commands_of s by) (done_of (counted_in p.loaders who command) by)) same
      ∙ ap (slice_get (commands_of p.script by)) (ap (λ ls. done_of ls by) (counted_is p.loaders who command there.0 there.1) ∙ done_other p.loaders who command there.0 there.1 by n)

  -- a command that is made at once keeps what a permit shows
  pub at_once_keeps : (o : Outcome) → needs_permission command ≡ false → apply_of p.script.modules p.server (command_opening p.server [] command) ≡ Some o → IsSound o.state → IsPermit (with_counted (joined p (Loader who) (command_opening p.server [] command) o))
  at_once_keeps o free applied sound =
      let q = quick p who command o free applied in
      let cmd = command_opening p.server [] command in
      let apart = holder_apart p p.holder who command known.holds next free in
      let logged : List LoaderRun = entered_by p.holder p.loaders in
      let found : slice_get logged who ≡ Some there.0 = entered_other p.holder p.loaders who apart ∙ there.1 in
      let due : slice_get (commands_of p.script who) (done_of logged who) ≡ Some command = ap (slice_get (commands_of p.script who)) (entered_done p.holder p.loaders who apart) ∙ next in
      let counted : entered_by p.holder (counted_in p.loaders who command) ≡ slice_set logged who (loader_after command there.0) = entered_counted p.holder p.loaders who command apart ∙ counted_is logged who command there.0 found in
      record {
        script = known.script;
        log = subst (IsLog p.script o.state (p.journal ++ entry_of (Loader who) cmd o ∷ [])) (sym counted) (log_counted p.script p.server p.journal logged known.log who command due there.0 found cmd o applied q.ended q.loads);
        sound = sound;
        purges = subst (PurgesGo p.script.modules empty_state None (p.journal ++ entry_of (Loader who) cmd o ∷ [])) (q.half p.holder)
            (purges_joined p.script p.server p.journal logged known.log (Loader who) cmd o applied (half_of p.holder) known.purges (q.stands p.holder apart));
        holds = holds_same p (with_counted (joined p (Loader who) cmd o)) p.holder (ap (λ (x : ServerState). x.doomed) q.same) (ap (λ (x : ServerState). x.versions) q.same)
            (λ by is. next_kept (joined p (Loader who) cmd o) refl by (apart by is)) (get_front p.journal (entry_of (Loader who) cmd o ∷ [])) known.holds;
      }

-- ---- a release

release_is : (b : Bool) (x o : Outcome) → (if b then Some x else None) ≡ Some o → x ≡ o
release_is true x o h = same_Some x o h
release_is false x o h = absurd (none-some o h)

released_stands : (p : PermitState) (serial : ℕ) (o : Outcome) (h : Holder) → MayStand p.server (half_of h) (entry_of Runtime (cmds.Release serial) o)
released_stands p serial o Free = tt
released_stands p serial o (Held by) = tt
released_stands p serial o (Tracing by generation) = tt
released_stands p serial o (Purging by name) = runtime_apart by

-- so does a release
pub release_keeps : (p : PermitState) (serial : ℕ) (o : Outcome) → IsPermit p → apply_of p.script.modules p.server (cmds.Release serial) ≡ Some o → IsSound o.state → IsPermit (joined p Runtime (cmds.Release serial) o)
release_keeps p serial o known applied sound =
    let e : unchanged (with_released p.server serial) replies.Ok ≡ o = release_is (is_retired p.server serial) _ o applied in
    record {
      script = known.script;
      log = log_joined p.script p.server p.journal (entered_by p.holder p.loaders) known.log Runtime (cmds.Release serial) o applied refl refl;
      sound = sound;
      purges = purges_joined p.script p.server p.journal (entered_by p.holder p.loaders) known.log Runtime (cmds.Release serial) o applied (half_of p.holder) known.purges (released_stands p serial o p.holder);
      holds = holds_same p (joined p Runtime (cmds.Release serial) o) p.holder (sym (ap (λ x. x.state.doomed) e)) (sym (ap (λ x. x.state.versions) e)) (λ by is. refl)
          (get_front p.journal (entry_of Runtime (cmds.Release serial) o ∷ [])) known.holds;
    }
