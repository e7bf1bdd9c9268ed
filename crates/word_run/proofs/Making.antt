-- What a step under the lock leaves of the permit and of what was posted.
use Rattle.std.proofs.Common.{◌≡◌, ℕ, ◌<◌, List, [], ◌∷◌, length, Option, None, Some, option_map, IfOk, OnErr, OnOk, Result, Ok, Err, refl, sym, ap, subst, ◌∙◌, arith}
use Rattle.std.proofs.lemmas.Option.{none-some, same_Some}
use Rattle.term_core.specs.declared.atom.Mfa.{Mfa}
use Rattle.term_core.specs.declared.no_memory.NoMemory.{NoMemory}
use Rattle.term_core.specs.PlainTerm.{PlainTerm}
use Rattle.server_core.specs.declared.command.Applied.{Applied}
use Rattle.server_core.specs.declared.command.Cmd.TheVariants as cmds
use Rattle.server_core.specs.CommandTable.{Outcome, apply_of}
use Rattle.script_core.specs.declared.script.ScriptCmd.TheVariants as script
use Rattle.script_core.specs.Processes.{spawn_number}
use Rattle.run_log.specs.declared.logs.Entry.{Entry}
use Rattle.run_log.specs.declared.logs.Who.TheVariants.{Runtime}
use Rattle.run_log.specs.Journal.{published_count}
use Rattle.run_law.specs.Newcomers.{SpawnedProcess}
use Rattle.inbox.specs.Ends.{Posting}
use Rattle.write_permit.specs.declared.holder.Holder.{Holder}
use Rattle.write_permit.specs.Book.{IsPermit, shown}
use Rattle.write_permit.specs.Permit.{PermitState, PermitStep, at_once_of, done_of, joined, next_of}
use Rattle.word_permit.specs.declared.answers.Pumped.{Pumped}
use Rattle.word_permit.specs.declared.answers.Pumped.TheVariants as pumps
use Rattle.word_permit.specs.declared.book.WordBook.{WordBook}
use Rattle.word_permit.specs.Pumped.{PumpAnswers, ReleasesNone}
use Rattle.word_permit.specs.Purged.{HasGrown}
use Rattle.word_run.specs.Desks.{AddsInSlices, ArePosted, DeskState, GoesOn, IsDesk, MakesOn}
use Rattle.word_run.specs.Loaders.{posted_home}
use Rattle.word_run.proofs.Asking.{at_once_is, done_goes}
use Rattle.word_run.proofs.Going.{goes_grown, goes_same, goes_seized, goes_through}
use Rattle.word_run.proofs.Posted.{posted_on}
use Rattle.word_run.proofs.Spawning.{homes_kept, posted_more, spawn_made}

-- entries joined, and nothing was posted
makes_quiet : (p q : PermitState) (ends : List (Posting SpawnedProcess)) → IsPermit p → GoesOn p q → MakesOn p q ends ends
makes_quiet p q ends permit goes = record { goes = goes; posted = posted_on p q ends permit goes; homes = refl }

makes_same : (p q : PermitState) (ends : List (Posting SpawnedProcess)) → IsPermit p → q ≡ p → MakesOn p q ends ends
makes_same p q ends permit is = makes_quiet p q ends permit (goes_same p q is)

pub makes_holder : (p q : PermitState) (h : Holder) (ends : List (Posting SpawnedProcess)) → IsPermit p → q ≡ record p { holder = h } → MakesOn p q ends ends
makes_holder p q h ends permit is = makes_quiet p q ends permit (goes_seized p q h is)

pub makes_both : (p q r : PermitState) (a b c : List (Posting SpawnedProcess)) → MakesOn p q a b → MakesOn q r b c → MakesOn p r a c
makes_both p q r a b c first second = record {
  goes = goes_through p q r first.goes second.goes;
  posted = λ h. second.posted (first.posted h);
  homes = second.homes ∙ first.homes;
}

-- ---- a command that needs no permission

pub makes_at_once : (p q : PermitState) (who : ℕ) (answer : Applied) (ends : List (Posting SpawnedProcess)) → IsPermit p → at_once_of p who ≡ Some (record { state = q; answer = answer }) → MakesOn p q ends ends
makes_at_once p q who answer ends permit made = let done = at_once_is p who q answer made in makes_quiet p q ends permit (done_goes p who done.0 q done.1)

module _ (p q : PermitState) (who : ℕ) (target : Mfa) (args : List PlainTerm) (answer : Applied) (process published : ℕ) (ends after : List (Posting SpawnedProcess)) (some : 0 < length ends) (permit : IsPermit p) (next : next_of p who ≡ Some (script.Spawn target args)) (made : at_once_of p who ≡ Some (record { state = q; answer = answer })) (number_is : process ≡ spawn_number p.script.loaders who (done_of p.loaders who)) (published_is : published ≡ published_count p.journal) where
  abbrev spawn : SpawnedProcess
  spawn = record { number = process; target = target; args = args; published = published }

  -- and its process is posted home
  makes_spawn : after ≡ posted_home ends spawn → MakesOn p q ends after
  makes_spawn is =
      let quiet = makes_at_once p q who answer ends permit made in
      record {
        goes = quiet.goes;
        posted = λ h. subst (ArePosted q) (sym is) (posted_more q ends spawn some (quiet.posted h) (spawn_made p q who target args answer process published permit next made number_is published_is));
        homes = ap length is ∙ homes_kept ends spawn some;
      }

  -- where memory for the post was refused, nothing is posted
  pub makes_posted : (X : Type 0) (r : Result X NoMemory) → OnOk r (after ≡ posted_home ends spawn) → OnErr r (after ≡ ends) → MakesOn p q ends after
  makes_posted X (Ok x) ok err = makes_spawn ok
  makes_posted X (Err fault) ok err = subst (MakesOn p q ends) (sym err) (makes_at_once p q who answer ends permit made)

-- ---- a command that needs the permission

pub makes_grown : (b c : WordBook) (ends : List (Posting SpawnedProcess)) → IsPermit (shown b.plain) → HasGrown b.plain c.plain → MakesOn (shown b.plain) (shown c.plain) ends ends
makes_grown b c ends permit grown = makes_quiet (shown b.plain) (shown c.plain) ends permit (goes_grown b.plain c.plain grown)

-- ---- releases

module _ (p q : PermitState) (serial : ℕ) (permit : IsPermit p) (ends : List (Posting SpawnedProcess)) where
  joined_by : (o : Option Outcome)
      → option_map {T = PermitStep} {U = PermitState} (λ s. s.state) (option_map {U = PermitStep} (λ x. record { state = joined p Runtime (cmds.Release serial) x; answer = x.answer }) o) ≡ Some q → MakesOn p q ends ends
  joined_by None h = absurd (none-some _ h)
  joined_by (Some o) h =
      let is : q ≡ joined p Runtime (cmds.Release serial) o = sym (same_Some _ q h) in
      let entry : Entry = record { who = Runtime; cmd = cmds.Release serial; reply = o.answer.reply; published = o.answer.published } in
      makes_quiet p q ends permit (record {
        script = ap (λ (x : PermitState). x.script) is;
        more = entry ∷ [];
        journal = ap (λ (x : PermitState). x.journal) is;
        done = λ loader. omega (arith, ap (λ (x : PermitState). done_of x.loaders loader) is);
      })

module _ (b c : WordBook) (permit : IsPermit (shown b.plain)) (ends : List (Posting SpawnedProcess)) where
  released : (step : Pumped) → PumpAnswers b c step → MakesOn (shown b.plain) (shown c.plain) ends ends
  released (pumps.Released serial) h = joined_by (shown b.plain) (shown c.plain) serial permit ends (apply_of b.plain.script.modules b.plain.server (cmds.Release serial)) h.step
  released (pumps.NotYet answer) h = makes_same (shown b.plain) (shown c.plain) ends permit h.0.same
  released (pumps.Named serial process turn place word) h = makes_same (shown b.plain) (shown c.plain) ends permit h.0.same
  released pumps.Nothing h = makes_same (shown b.plain) (shown c.plain) ends permit h.0.same

  -- at most a release joined
  pub makes_pump : (r : Result Pumped NoMemory) → IfOk r (PumpAnswers b c) → OnErr r (ReleasesNone b c) → MakesOn (shown b.plain) (shown c.plain) ends ends
  makes_pump (Ok step) ok err = released step ok
  makes_pump (Err fault) ok err = makes_same (shown b.plain) (shown c.plain) ends permit err.same

-- ---- the desk

pub desk_makes : (d e : DeskState) → MakesOn (shown d.book.plain) (shown e.book.plain) d.posted e.posted → IsDesk d → IsDesk e
desk_makes d e makes h = record {
  some = subst (λ (n : ℕ). 0 < n) (sym makes.homes) h.some;
  posted = makes.posted h.posted;
}

pub desk_adds : (d e : DeskState) → MakesOn (shown d.book.plain) (shown e.book.plain) d.posted e.posted → AddsInSlices d e
desk_adds d e makes = record { goes = makes.goes; homes = makes.homes }
