-- A loader's command ends by the change that was decided for it.
use Rattle.std.proofs.Common.{◌≡◌, ℕ, ◌≤◌, List, [], ◌∷◌, ◌++◌, slice_get, Option, Some, IsSomeAnd, option_map, refl, sym, ap, subst, ◌∙◌}
use Rattle.server_core.specs.declared.command.Applied.{Applied}
use Rattle.server_core.specs.CommandTable.{Outcome, apply_of}
use Rattle.server_core.specs.Decided.{change_made}
use Rattle.server_core.specs.ServerState.{ServerState, empty_state}
use Rattle.run_log.specs.declared.logs.Entry.{Entry}
use Rattle.run_log.specs.declared.logs.Who.TheVariants.{Loader}
use Rattle.run_log.specs.Journal.{newest_state}
use Rattle.module_table.specs.Modules.{Modules}
use Rattle.write_permit.specs.declared.book.Book.{Book}
use Rattle.write_permit.specs.declared.holder.Holder.TheVariants.{Held}
use Rattle.write_permit.specs.declared.loader_run.LoaderRun.{LoaderRun}
use Rattle.write_permit.specs.Agreement.{AgreesWithServer, CanFollowNewest, new_modules, newest_of}
use Rattle.write_permit.specs.Book.{IsBook, shown}
use Rattle.write_permit.specs.Permit.{PermitState, PermitStep, advanced, entered_by, holder_of, joined, loader_after, made_of, next_of}
use Rattle.write_permit.proofs.Agreement.{NewestFollows, newest_follows}
use Rattle.write_permit.proofs.EndBooks.{EndMade, end_made, open_ok}
use Rattle.write_permit.proofs.Logs.{server_joined}
use Rattle.word_permit.specs.declared.book.Decision.{Decision}
use Rattle.word_permit.specs.Books.{EndsPlain}
use Rattle.word_permit.specs.Settled.{IsFinished}
use Rattle.word_permit.specs.Waiting.{IsDecided}
use Rattle.word_permit.proofs.Kept.{decided_ends, purges_none}

-- the entry of a decided command
abbrev pub told_entry : ℕ → Decision → Applied → Entry
told_entry who d answer = record { who = Loader who; cmd = d.cmd; reply = answer.reply; published = answer.published }

abbrev pub entry_for : ℕ → Decision → Entry
entry_for who d = told_entry who d d.applied

-- a step as an answer that is there
abbrev made_to : PermitState → Applied → Option PermitStep
made_to q answer = Some (record { state = q; answer = answer })

-- what the end of a command leaves
pub record PlainDone (who : ℕ) (p c : Book) (applied : Applied) : Type 0 where
  pub ended : EndsPlain who p c applied
  pub book : IsBook c

module _ (p : Book) (book : IsBook p) (who : ℕ) (d : Decision) (held : p.holder ≡ Held who) (known : IsDecided (shown p) who d) where
  -- the state behind the entry
  pub state_joined : (change_made p.server d.change).state ≡ newest_state p.script.modules empty_state (p.journal ++ entry_for who d ∷ [])
  state_joined =
      server_joined p.script p.server p.journal (entered_by p.holder p.loaders.items) book.permit.log (Loader who) d.cmd (change_made p.server d.change) known.given
      ∙ ap (λ a. newest_state p.script.modules empty_state (p.journal ++ told_entry who d a ∷ [])) known.answer

  module _ (table : Modules) (same : table.instances ≡ p.modules.instances) (room : new_modules d.cmd ≤ table.room) (journal : List Entry) (more : journal ≡ p.journal ++ entry_for who d ∷ []) where
    -- what the module table owes to the entry
    pub follows_entry : (s : ServerState) (answer : Applied) → change_made p.server d.change ≡ record { state = s; answer = answer } → NewestFollows table s journal
    follows_entry s answer is =
        newest_follows p.script.modules table p.server s answer d.cmd p.journal journal (entry_for who d)
        (subst (λ ms. AgreesWithServer ms p.server) (sym same) book.agrees)
        (known.given ∙ ap Some is)
        room
        refl
        (ap (λ (a : Applied). a.published) (sym known.answer ∙ ap (λ (o : Outcome). o.answer) is))
        more

    pub can_follow : CanFollowNewest table (change_made p.server d.change).state (newest_of journal)
    can_follow = let f = follows_entry (change_made p.server d.change).state (change_made p.server d.change).answer refl in f.can

    module _ (c : Book) (after : LoaderRun) (applied : Applied) (finished : IsFinished who d.change after (record p { journal = journal; modules = table }) c applied)
        (counts : IsSomeAnd (next_of (shown p) who) (λ command. option_map (loader_after command) (slice_get p.loaders.items who) ≡ Some after)) where
      -- the book once the change is made, and the loader is as far as before
      abbrev between : Book
      between = record p { server = c.server; journal = journal; modules = c.modules }

      given : apply_of p.script.modules p.server d.cmd ≡ Some (record { state = c.server; answer = applied })
      given = known.given ∙ ap Some finished.made_is

      told : applied ≡ d.applied
      told = sym (ap (λ (o : Outcome). o.answer) finished.made_is) ∙ known.answer

      made_between : made_of (shown p) (Loader who) d.cmd ≡ Some (record { state = shown between; answer = applied })
      made_between =
          ap (option_map {U = PermitStep} (λ o. record { state = joined (shown p) (Loader who) d.cmd o; answer = o.answer })) given
          ∙ ap (λ (js : List Entry). made_to (record (shown p) { server = c.server; journal = js }) applied) (ap (λ a. p.journal ++ told_entry who d a ∷ []) told ∙ sym more)

      agrees_after : AgreesWithServer c.modules.instances c.server
      agrees_after = let f = follows_entry c.server applied finished.made_is in subst (λ ms. AgreesWithServer ms c.server) (sym finished.table) f.agrees

      end_is : EndMade p c who d.cmd applied
      end_is =
          end_made p book who d.cmd (decided_ends p who d held known) between c applied after (ap holder_of held) counts made_between finished.state refl finished.sound agrees_after

      pub plain_done : PlainDone who p c applied
      plain_done =
          let e = end_is in
          record {
            ended = record {
              step = ap (advanced (shown p) [] who) held ∙ open_ok (shown p) [] who known.command d.cmd _ known.next (purges_none p.server known.command known.goes) known.cmd_is e.ok;
              script = ap (λ (x : PermitState). x.script) finished.state;
            };
            book = e.book;
          }
