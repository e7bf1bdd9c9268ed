-- A command that is made at once, taken apart: which entry joins the journal, and what is counted.
use Rattle.std.proofs.Common.{◌≡◌, ℕ, ◌+◌, ◌≤◌, [], ◌∷◌, ◌++◌, Option, None, Some, option_and_then, option_map, refl, sym, ap, subst, ◌∙◌}
use Rattle.std.proofs.lemmas.Option.{none-some, same_Some}
use Rattle.server_core.specs.declared.command.Applied.{Applied}
use Rattle.server_core.specs.CommandTable.{Outcome, apply_of}
use Rattle.script_core.specs.declared.script.ScriptCmd.{ScriptCmd}
use Rattle.run_log.specs.declared.logs.Entry.{Entry}
use Rattle.run_log.specs.declared.logs.Who.TheVariants.{Loader}
use Rattle.write_permit.specs.Book.{IsPermit}
use Rattle.write_permit.specs.Permit.{PermitState, PermitStep, at_once_of, counted_in, done_by, done_of, joined, next_of, command_opening}
use Rattle.write_permit.proofs.Entered.{counted_grows}
use Rattle.write_permit.proofs.Kept.{there}
use Rattle.write_permit.proofs.Logs.{counted_is, done_own}
use Rattle.word_run.specs.Desks.{GoesOn}

-- a loader's next command was made at once
pub record WasDone (p : PermitState) (who : ℕ) (command : ScriptCmd) (q : PermitState) : Type 0 where
  pub outcome : Outcome
  pub next : next_of p who ≡ Some command
  pub state : q ≡ record (joined p (Loader who) (command_opening p.server [] command) outcome) { loaders = counted_in p.loaders who command }

done_in : (p : PermitState) (who : ℕ) (command : ScriptCmd) (q : PermitState) (answer : Applied) (o : Option Outcome) → next_of p who ≡ Some command
    → option_map {T = PermitStep} {U = PermitStep} (λ s. record { state = record (s.state) { loaders = counted_in p.loaders who command }; answer = s.answer }) (option_map (λ x. record { state = joined p (Loader who) (command_opening p.server [] command) x; answer = x.answer }) o)
    ≡ Some (record { state = q; answer = answer }) → WasDone p who command q
done_in p who command q answer None next h = absurd (none-some _ h)
done_in p who command q answer (Some o) next h = record { outcome = o; next = next; state = ap (λ (x : PermitStep). x.state) (sym (same_Some _ _ h)) }

at_once_in : (p : PermitState) (who : ℕ) (q : PermitState) (answer : Applied) (next : Option ScriptCmd) → next_of p who ≡ next
    → option_and_then (λ command. done_by p who command (command_opening p.server [] command)) next ≡ Some (record { state = q; answer = answer }) → (command : ScriptCmd) × WasDone p who command q
at_once_in p who q answer None is h = absurd (none-some _ h)
at_once_in p who q answer (Some command) is h = (command, done_in p who command q answer (apply_of p.script.modules p.server (command_opening p.server [] command)) is h)

pub at_once_is : (p : PermitState) (who : ℕ) (q : PermitState) (answer : Applied) → at_once_of p who ≡ Some (record { state = q; answer = answer }) → (command : ScriptCmd) × WasDone p who command q
at_once_is p who q answer h = at_once_in p who q answer (next_of p who) refl h

module _ (p : PermitState) (who : ℕ) (command : ScriptCmd) (q : PermitState) (done : WasDone p who command q) where
  -- its entry
  abbrev pub entry_for : Entry
  entry_for = record { who = Loader who; cmd = command_opening p.server [] command; reply = done.outcome.answer.reply; published = done.outcome.answer.published }

  pub done_journal : q.journal ≡ p.journal ++ entry_for ∷ []
  done_journal = ap (λ (x : PermitState). x.journal) done.state

  -- one command more of the loader is done
  pub done_more : IsPermit p → done_of q.loaders who ≡ done_of p.loaders who + 1
  done_more permit =
      let l = there p permit who command done.next in
      ap (λ (x : PermitState). done_of x.loaders who) done.state ∙ ap (λ ls. done_of ls who) (counted_is p.loaders who command l.0 l.1) ∙ done_own p.loaders who command l.0 l.1

  -- no command is undone
  pub done_goes : GoesOn p q
  done_goes = record {
    script = ap (λ (x : PermitState). x.script) done.state;
    more = entry_for ∷ [];
    journal = done_journal;
    done = λ loader. subst (λ ls. done_of p.loaders loader ≤ done_of ls loader) (sym (ap (λ (x : PermitState). x.loaders) done.state)) (counted_grows p.loaders who command loader);
  }
