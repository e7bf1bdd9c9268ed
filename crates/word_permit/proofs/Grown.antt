-- Entries join, no loader has fewer commands done, and the script stays, whatever a call answers that goes on with a command.
use Rattle.std.proofs.Common.{◌≡◌, ◌⊎◌, inl, inr, ℕ, ◌≤◌, Bool, [], ◌∷◌, Option, Some, None, IfOk, OnErr, Result, Ok, Err, option_and_then, sym, ap, subst, ◌∙◌, arith}
use Rattle.std.proofs.lemmas.Option.{none-some, same_Some}
use Rattle.term_core.specs.declared.atom.Mfa.{Mfa}
use Rattle.term_core.specs.declared.no_memory.NoMemory.{NoMemory}
use Rattle.server_core.specs.declared.command.Applied.{Applied}
use Rattle.server_core.specs.declared.command.Cmd.TheVariants as cmds
use Rattle.script_core.specs.declared.script.ScriptCmd.{ScriptCmd}
use Rattle.script_core.specs.declared.script.ScriptCmd.TheVariants.{Trace}
use Rattle.run_log.specs.declared.logs.Who.TheVariants.{Loader}
use Rattle.write_permit.specs.declared.book.Book.{Book}
use Rattle.write_permit.specs.declared.commands.OldCode.{OldCode}
use Rattle.write_permit.specs.declared.holder.Holder.{Holder}
use Rattle.write_permit.specs.declared.holder.Holder.TheVariants.{Free, Held, Purging, Tracing}
use Rattle.write_permit.specs.Book.{IsBook, shown}
use Rattle.write_permit.specs.Permit.{PermitState, PermitStep, advanced, command_begun, done_of, entered_trace, next_of, command_opening, purged_code, settled}
use Rattle.write_permit.proofs.Entered.{entered_grows}
use Rattle.write_permit.proofs.Traces.{traced_whole, was_entered}
use Rattle.word_permit.specs.declared.answers.CommandStep.{CommandStep}
use Rattle.word_permit.specs.declared.answers.CommandStep.TheVariants.{Done, NotYet, AwaitRelease, Lingers}
use Rattle.word_permit.specs.declared.book.WordBook.{WordBook}
use Rattle.word_permit.specs.Books.{EndsPlain, HasEntered, HasGivenUp, OpAnswers, StillSettles}
use Rattle.word_permit.specs.Purged.{HasGrown}
use Rattle.word_permit.proofs.Dropped.{ended_grown}
use Rattle.word_permit.proofs.PurgeCalls.{append_none, grown_given, grown_same}

-- ---- the entry of a trace

grown_entered : (b c : Book) (who : ℕ) (target : Mfa) (on : Bool) → entered_trace (shown b) who target on ≡ Some (shown c) → HasGrown b c
grown_entered b c who target on h =
    let e = was_entered (shown b) (shown c) who target on h in
    record {
      script = ap (λ (x : PermitState). x.script) e.state;
      more = record { who = Loader who; cmd = cmds.Trace target on; reply = e.outcome.answer.reply; published = e.outcome.answer.published } ∷ [];
      journal = ap (λ (x : PermitState). x.journal) e.state;
      done = λ loader. subst (λ ls. done_of b.loaders.items loader ≤ done_of ls loader) (sym (ap (λ (x : PermitState). x.loaders) e.state)) (omega arith);
    }

-- ---- the end of a command

abbrev advanced_to : PermitState → Applied → Option PermitStep
advanced_to q answer = Some (record { state = q; answer = answer })

grown_settled : (b c : Book) (by generation : ℕ) (answer : Applied) → Some (settled (shown b) by generation) ≡ advanced_to (shown c) answer → HasGrown b c
grown_settled b c by generation answer h =
    let is : (settled (shown b) by generation).state ≡ shown c = ap (λ (a : PermitStep). a.state) (same_Some _ _ h) in
    record {
      script = ap (λ (x : PermitState). x.script) (sym is);
      more = [];
      journal = ap (λ (x : PermitState). x.journal) (sym is) ∙ sym (append_none b.journal);
      done = λ loader. subst (λ ls. done_of b.loaders.items loader ≤ done_of ls loader) (ap (λ (x : PermitState). x.loaders) is) (entered_grows (Tracing by generation) b.loaders.items loader);
    }

grown_ended : (b c : Book) (who : ℕ) (answer : Applied) → advanced (shown b) [] who b.holder ≡ advanced_to (shown c) answer → HasGrown b c
grown_ended b c who answer h = by b.holder h
  where
    by_code : (command : ScriptCmd) (code : Option OldCode) → command_begun (shown b) [] who command code ≡ advanced_to (shown c) answer → HasGrown b c
    by_code command None e = ended_grown b c who (command_opening b.server [] command) answer e
    by_code command (Some code) e = absurd (none-some _ e)

    by_next : (o : Option ScriptCmd) → option_and_then {U = PermitStep} (λ command. command_begun (shown b) [] who command (purged_code b.server command)) o ≡ advanced_to (shown c) answer → HasGrown b c
    by_next None e = absurd (none-some _ e)
    by_next (Some command) e = by_code command (purged_code b.server command) e

    by : (holder : Holder) → advanced (shown b) [] who holder ≡ advanced_to (shown c) answer → HasGrown b c
    by Free e = absurd (none-some _ e)
    by (Held n) e = by_next (next_of (shown b) who) e
    by (Purging n name) e = absurd (none-some _ e)
    by (Tracing n generation) e = grown_settled b c n generation answer e

-- ---- whatever is answered

grown_op : (who : ℕ) (b c : WordBook) (step : CommandStep) → OpAnswers who b c step → HasGrown b.plain c.plain
grown_op who b c (Done applied) h = grown_ended b.plain c.plain who applied h.step
grown_op who b c (NotYet answer) (inl h) = grown_same b.plain c.plain h.same
grown_op who b c (NotYet answer) (inr h) = by h.since
  where
    by : StillSettles who b c ⊎ HasEntered who b c → HasGrown b.plain c.plain
    by (inl still) = grown_same b.plain c.plain still.same
    by (inr entered) = grown_entered b.plain c.plain who entered.target entered.on entered.entered
grown_op who b c AwaitRelease h = grown_same b.plain c.plain h.same
grown_op who b c (Lingers process turn place word) h = absurd h

pub grown_any : (who : ℕ) (b c : WordBook) (r : Result CommandStep NoMemory) → IfOk r (OpAnswers who b c) → OnErr r (HasGivenUp b c) → HasGrown b.plain c.plain
grown_any who b c (Ok step) ok err = grown_op who b c step ok
grown_any who b c (Err fault) ok err = grown_given b c err

-- ---- a trace that is done in one call

-- the entry and then the end are the command done at once
pub both_ends : (who generation : ℕ) (b m c : Book) (applied : Applied) (target : Mfa) (on : Bool) → IsBook b → b.holder ≡ Held who → next_of (shown b) who ≡ Some (Trace target on) → entered_trace (shown b) who target on ≡ Some (shown m) → m.holder ≡ Tracing who generation
    → EndsPlain who m c applied → EndsPlain who b c applied
both_ends who generation b m c applied target on known holds next entered tracing ends = record {
  step = traced_whole b m c who generation target on applied known holds next entered tracing ends.step;
  script = ends.script ∙ (let e = was_entered (shown b) (shown m) who target on entered in ap (λ (x : PermitState). x.script) e.state);
}
