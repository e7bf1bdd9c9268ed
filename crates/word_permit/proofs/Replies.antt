-- What the last command of a soft purge or a purge answers, by the command table.
use Rattle.std.proofs.Common.{◌≡◌, ℕ, Bool, true, false, List, Option, Some, None, option_map, option_and_then, if◌then◌else◌, refl, sym, ap, subst}
use Rattle.std.proofs.lemmas.Option.{none-some, same_Some}
use Rattle.mod_core.specs.declared.code.Module.{Module}
use Rattle.server_core.specs.declared.command.Applied.{Applied}
use Rattle.server_core.specs.declared.command.Cmd.{Cmd}
use Rattle.server_core.specs.declared.command.Cmd.TheVariants as cmds
use Rattle.server_core.specs.declared.command.Linger.{Linger}
use Rattle.server_core.specs.declared.command.Reply.TheVariants as replies
use Rattle.server_core.specs.CommandTable.{Outcome, answered, apply_of, published, purge_of, soft_purge_of, unchanged, with_dropped, with_purged}
use Rattle.server_core.specs.ServerState.{ServerState, old_of}
use Rattle.script_core.specs.declared.script.ScriptCmd.{ScriptCmd}
use Rattle.run_log.specs.declared.logs.Who.TheVariants.{Loader}
use Rattle.write_permit.specs.declared.holder.Holder.TheVariants.{Free}
use Rattle.write_permit.specs.Permit.{PermitState, PermitStep, command_ended, counted_in, freed, joined, next_of}
use Rattle.word_permit.specs.Purged.{RepliesSo}
use Rattle.word_permit.proofs.Dropped.{advanced_as}

-- what the table answers where nothing is doomed
of_free : (b : Bool) (o : Option Outcome) (x : Outcome) → (if b then None else o) ≡ Some x → o ≡ Some x
of_free true o x h = absurd (none-some x h)
of_free false o x h = h

by_reply : (x y : Outcome) → Some x ≡ Some y → y.answer.reply ≡ x.answer.reply
by_reply x y h = ap (λ (o : Outcome). o.answer.reply) (sym (same_Some x y h))

module _ (texts : List Module) (s : ServerState) (x : Outcome) where
  soft_true : (name : ℕ) (o : Option ℕ) → soft_purge_of s name None o ≡ Some x → x.answer.reply ≡ replies.True
  soft_true name None h = by_reply (unchanged s replies.True) x h
  soft_true name (Some serial) h = by_reply (published (with_dropped s name serial) replies.True) x h

  soft_false : (name : ℕ) (l : Linger) (o : Option ℕ) → soft_purge_of s name (Some l) o ≡ Some x → x.answer.reply ≡ replies.FalseBy l
  soft_false name l None h = absurd (none-some x h)
  soft_false name l (Some serial) h = by_reply (unchanged s (replies.FalseBy l)) x h

  whole_told : (name : ℕ) (killed : Bool) (o : Option ℕ) → purge_of s name killed o ≡ Some x → x.answer.reply ≡ answered killed
  whole_told name true None h = absurd (none-some x h)
  whole_told name false None h = by_reply (unchanged s replies.False) x (of_free _ _ x h)
  whole_told name killed (Some serial) h = by _ h
    where
      by : (b : Bool) → (if b then Some (published (with_purged s name serial) (answered killed)) else None) ≡ Some x → x.answer.reply ≡ answered killed
      by true e = by_reply (published (with_purged s name serial) (answered killed)) x e
      by false e = absurd (none-some x e)

  replies_so : (cmd : Cmd) → apply_of texts s cmd ≡ Some x → RepliesSo cmd x.answer
  replies_so (cmds.SoftPurge name None) h = soft_true name.0 (old_of s name.0) (of_free _ _ x h)
  replies_so (cmds.SoftPurge name (Some l)) h = soft_false name.0 l (old_of s name.0) (of_free _ _ x h)
  replies_so (cmds.Purge name killed) h = whole_told name.0 killed (old_of s name.0) h
  replies_so cmd h = tt

-- so it is of the command by which a loader's command is done
pub ended_reply : (p q : PermitState) (who : ℕ) (cmd : Cmd) (applied : Applied) → command_ended p who cmd ≡ Some (record { state = q; answer = applied }) → RepliesSo cmd applied
ended_reply p q who cmd applied h = by (next_of p who) (apply_of p.script.modules p.server cmd) refl h
  where
    by : (n : Option ScriptCmd) (o : Option Outcome) → apply_of p.script.modules p.server cmd ≡ o
        → option_and_then {U = PermitStep} (λ command. option_map {U = PermitStep} freed (option_map {U = PermitStep} (λ s. record { state = record (s.state) { loaders = counted_in p.loaders who command }; answer = s.answer }) (option_map {U = PermitStep} (λ x. record { state = joined p (Loader who) cmd x; answer = x.answer }) o))) n
        ≡ Some (record { state = q; answer = applied }) → RepliesSo cmd applied
    by None o f g = absurd (none-some _ g)
    by (Some command) None f g = absurd (none-some _ g)
    by (Some command) (Some x) f g =
        let s = same_Some (advanced_as (record (joined p (Loader who) cmd x) { loaders = counted_in p.loaders who command; holder = Free }) x.answer) (advanced_as q applied) g in
        subst (RepliesSo cmd) (ap (λ (a : PermitStep). a.answer) s) (replies_so p.script.modules p.server x cmd f)
