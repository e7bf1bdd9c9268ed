-- A spawn that was made in a slice, and the process that is posted for it.
use Rattle.std.proofs.Common.{◌≡◌, ℕ, zero, suc, ◌+◌, ◌<◌, ◌%◌, ◌==◌, Bool, true, false, cond, List, [], ◌∷◌, ◌++◌, length, length-append, Some, ◌⊎◌, inl, inr, option_map, unwrap_or, slice_get, slice_set, if◌then◌else◌, ◌&&◌, refl, sym, ap, subst, ◌∙◌, arith}
use Rattle.std.proofs.lemmas.Bool.{eq-eqb, eqb-true, eqb-false}
use Rattle.std.proofs.lemmas.List.{length-set, length-take}
use Rattle.std.specs.List.{flat_map}
use Rattle.std.proofs.lemmas.Nat.{mod_below}
use Rattle.std.proofs.lemmas.Option.{none-some, same_Some, slice_get_within}
use Rattle.term_core.specs.declared.atom.Mfa.{Mfa}
use Rattle.term_core.specs.PlainTerm.{PlainTerm}
use Rattle.area_core.specs.Blocks.{Among}
use Rattle.server_core.specs.declared.command.Applied.{Applied}
use Rattle.script_core.specs.declared.script.ScriptCmd.{ScriptCmd}
use Rattle.script_core.specs.declared.script.ScriptCmd.TheVariants as script
use Rattle.script_core.specs.Processes.{SpawnLine, spawn_number, spawns_of}
use Rattle.run_log.specs.declared.logs.Entry.{Entry}
use Rattle.run_log.specs.Journal.{ends_command, ends_one, entries_of, is_of, publishes, published_before, published_count}
use Rattle.run_log.specs.Legal.{commands_in, commands_of, ended_by}
use Rattle.run_log.proofs.Journals.{count-cons, ended_length}
use Rattle.run_steps.proofs.Ends.{spawn_line}
use Rattle.run_law.specs.Newcomers.{SpawnedProcess}
use Rattle.inbox.specs.Ends.{Posting, posted}
use Rattle.write_permit.specs.Book.{IsPermit}
use Rattle.write_permit.specs.Permit.{PermitState, at_once_of, done_of, entered_by, next_of, command_opening}
use Rattle.write_permit.proofs.Entered.{entered_done}
use Rattle.write_permit.proofs.Kept.{holder_apart}
use Rattle.literal_areas.proofs.Uses.{set_here, set_there}
use Rattle.word_run.specs.Desks.{ArePosted, WasSpawned}
use Rattle.word_run.specs.Loaders.{posted_home}
use Rattle.word_run.proofs.Asking.{WasDone, at_once_is, done_journal, done_more, entry_for}

own_count : (own one : Bool) (x : Entry) (xs : List Entry) → length (ended_by x.cmd) ≡ (if one then 1 else 0) → length (flat_map (λ (e : Entry). ended_by e.cmd) (cond own (x ∷ xs) xs)) ≡ (if own && one then 1 else 0) + length (flat_map (λ (e : Entry). ended_by e.cmd) xs)
own_count true one x xs h = length-append (ended_by x.cmd) (flat_map (λ (e : Entry). ended_by e.cmd) xs) ∙ ap (λ n. n + length (flat_map (λ (e : Entry). ended_by e.cmd) xs)) h
own_count false one x xs h = omega arith

-- the first entry counts among the commands where it ends one
commands_count : (loader : ℕ) (x : Entry) (journal : List Entry) → length (commands_in loader (x ∷ journal)) ≡ (if ends_command loader x then 1 else 0) + length (commands_in loader journal)
commands_count loader x journal = own_count (is_of loader x.who) (ends_one x.cmd) x (entries_of loader journal) (ended_length x.cmd)

-- what was published before a loader's newest command is all that was published when it was made
by_end : (ends : Bool) (loader place : ℕ) (x : Entry) (journal : List Entry) (e : Entry) → ends_command loader x ≡ ends → place ≡ (if ends then 1 else 0) + length (commands_in loader journal)
    → ((place : ℕ) → place ≡ length (commands_in loader journal) → published_before loader place (journal ++ e ∷ []) ≡ published_count journal)
    → published_before loader place (x ∷ journal ++ e ∷ []) ≡ publishes x + published_count journal
by_end true loader zero x journal e is at rest = absurd (omega (arith, at))
by_end true loader (suc place) x journal e is at rest =
    ap (λ b. publishes x + published_before loader (if b then place else suc place) (journal ++ e ∷ [])) is ∙ ap (λ n. publishes x + n) (rest place (omega (arith, at)))
by_end false loader zero x journal e is at rest =
    ap (λ b. if b then 0 else publishes x + published_before loader zero (journal ++ e ∷ [])) is ∙ ap (λ n. publishes x + n) (rest zero (omega (arith, at)))
by_end false loader (suc place) x journal e is at rest =
    ap (λ b. publishes x + published_before loader (if b then place else suc place) (journal ++ e ∷ [])) is ∙ ap (λ n. publishes x + n) (rest (suc place) (omega (arith, at)))

pub before_here : (loader place : ℕ) (journal : List Entry) (e : Entry) → ends_command loader e ≡ true → place ≡ length (commands_in loader journal) → published_before loader place (journal ++ e ∷ []) ≡ published_count journal
before_here loader zero [] e ends at = ap (λ b. if b then 0 else publishes e + published_before loader zero []) ends
before_here loader (suc place) [] e ends at = absurd (omega (arith, at))
before_here loader place (x ∷ journal) e ends at =
    by_end (ends_command loader x) loader place x journal e refl (at ∙ commands_count loader x journal) (λ p is. before_here loader p journal e ends is) ∙ sym (count-cons x journal)

-- ---- the process

-- the process of the line has this spawn
abbrev line_of : PermitState → ℕ → Mfa → List PlainTerm → SpawnLine
line_of p who target args = record { loader = who; place = done_of p.loaders who; target = target; args = args }

-- each of its loader's entries is of a command that is done
counted_so : (p : PermitState) (who : ℕ) (target : Mfa) (args : List PlainTerm) → IsPermit p → next_of p who ≡ Some (script.Spawn target args) → done_of p.loaders who ≡ length (commands_in who p.journal)
counted_so p who target args permit next =
    let entered = done_of (entered_by p.holder p.loaders) who in
    let apart = holder_apart p p.holder who (script.Spawn target args) permit.holds next refl in
    omega (arith, entered_done p.holder p.loaders who apart, permit.log.within who, ap length (permit.log.in_order who), length-take entered (commands_of p.script who))

own_entry : (who : ℕ) (command : ScriptCmd) (target : Mfa) (args : List PlainTerm) (p q : PermitState) (done : WasDone p who command q) → command ≡ script.Spawn target args
    → ends_command who (entry_for p who command q done) ≡ true
own_entry who command target args p q done is = ap (λ c. (who == who) && ends_one (command_opening p.server [] c)) is ∙ ap (λ b. b && true) (eq-eqb who who refl)

module _ (p q : PermitState) (who : ℕ) (target : Mfa) (args : List PlainTerm) (answer : Applied) (process published : ℕ) (permit : IsPermit p) (next : next_of p who ≡ Some (script.Spawn target args)) (made : at_once_of p who ≡ Some (record { state = q; answer = answer })) (number_is : process ≡ spawn_number p.script.loaders who (done_of p.loaders who)) (published_is : published ≡ published_count p.journal) where
  abbrev spawn : SpawnedProcess
  spawn = record { number = process; target = target; args = args; published = published }

  pub spawn_made : WasSpawned q spawn
  spawn_made =
      let done = at_once_is p who q answer made in
      let is : done.0 ≡ script.Spawn target args = same_Some _ _ (sym done.1.next ∙ next) in
      let script_is : q.script ≡ p.script = ap (λ (x : PermitState). x.script) done.1.state in
      let before : published_before who (done_of p.loaders who) q.journal ≡ published_count p.journal =
      ap (published_before who (done_of p.loaders who)) (done_journal p who done.0 q done.1)
      ∙ before_here who (done_of p.loaders who) p.journal (entry_for p who done.0 q done.1) (own_entry who done.0 target args p q done.1 is) (counted_so p who target args permit next) in
      record {
        line = line_of p who target args;
        at = ap (λ x. slice_get (spawns_of 0 x.loaders) process) script_is ∙ ap (slice_get (spawns_of 0 p.script.loaders)) number_is ∙ spawn_line p.script who (done_of p.loaders who) target args next;
        was_done = omega (arith, done_more p who done.0 q done.1 permit);
        is = ap published_as (published_is ∙ sym before);
      }
    where
      published_as : ℕ → SpawnedProcess
      published_as n = record { number = process; target = target; args = args; published = n }

-- ---- its home

among_last : {X : Type 0} (xs : List X) (x y : X) (i : ℕ) → slice_get (xs ++ x ∷ []) i ≡ Some y → (slice_get xs i ≡ Some y) ⊎ (y ≡ x)
among_last [] x y zero h = inr (sym (same_Some x y h))
among_last [] x y (suc i) h = absurd (none-some y h)
among_last (z ∷ xs) x y zero h = inl h
among_last (z ∷ xs) x y (suc i) h = among_last xs x y i h

home_there : {X : Type 0} (xs : List X) (k : ℕ) → k < length xs → (x : X) × (slice_get xs k ≡ Some x)
home_there [] k h = absurd (omega (arith, h))
home_there (x ∷ xs) zero h = (x, refl)
home_there (x ∷ xs) (suc k) h = home_there xs k (omega (arith, h))

module _ (ends : List (Posting SpawnedProcess)) (spawn : SpawnedProcess) (some : 0 < length ends) where
  pub is_there : (end : Posting SpawnedProcess) × (slice_get ends (spawn.number % length ends) ≡ Some end)
  is_there = home_there ends (spawn.number % length ends) (mod_below spawn.number (length ends) some)

  pub home_is : posted_home ends spawn ≡ slice_set ends (spawn.number % length ends) (posted is_there.0 spawn)
  home_is = ap (λ o. unwrap_or (option_map (λ end. slice_set ends (spawn.number % length ends) (posted end spawn)) o) ends) is_there.1

  pub homes_kept : length (posted_home ends spawn) ≡ length ends
  homes_kept = ap length home_is ∙ length-set ends (spawn.number % length ends) (posted is_there.0 spawn)

module _ (q : PermitState) (ends : List (Posting SpawnedProcess)) (spawn : SpawnedProcess) (some : 0 < length ends) (h : ArePosted q ends) (was : WasSpawned q spawn) where
  abbrev home : ℕ
  home = spawn.number % length ends

  abbrev there : (end : Posting SpawnedProcess) × (slice_get ends (spawn.number % length ends) ≡ Some end)
  there = is_there ends spawn some

  abbrev after : List (Posting SpawnedProcess)
  after = slice_set ends (spawn.number % length ends) (posted (is_there ends spawn some).0 spawn)

  each_end : (k : ℕ) (end : Posting SpawnedProcess) → slice_get after k ≡ Some end → (end.number ≡ k) × ((x : SpawnedProcess) → Among end.put x → WasSpawned q x)
  each_end k end at = by_place (k == home) refl
    where
      by_place : (own : Bool) → (k == home) ≡ own → (end.number ≡ k) × ((x : SpawnedProcess) → Among end.put x → WasSpawned q x)
      by_place true is =
          let same : k ≡ home = eqb-true k home is in
          let end_is : posted there.0 spawn ≡ end = same_Some _ _ (sym (set_here ends home (posted there.0 spawn) (slice_get_within ends home _ there.1)) ∙ ap (slice_get after) (sym same) ∙ at) in (
            ap (λ (e : Posting SpawnedProcess). e.number) (sym end_is) ∙ h.number home there.0 there.1 ∙ sym same,
            λ x among. here x (among.0, subst (λ (e : Posting SpawnedProcess). slice_get e.put among.0 ≡ Some x) (sym end_is) among.1),
          )
        where
          here : (x : SpawnedProcess) → Among (there.0.put ++ spawn ∷ []) x → WasSpawned q x
          here x among = from_last (among_last there.0.put spawn x among.0 among.1)
            where
              from_last : (slice_get there.0.put among.0 ≡ Some x) ⊎ (x ≡ spawn) → WasSpawned q x
              from_last (inl e) = h.each home there.0 there.1 x (among.0, e)
              from_last (inr e) = subst (WasSpawned q) (sym e) was
      by_place false is =
          let same : slice_get ends k ≡ Some end = sym (set_there ends home k (posted there.0 spawn) (eqb-false k home is)) ∙ at in
          (h.number k end same, h.each k end same)

  pub posted_more : ArePosted q (posted_home ends spawn)
  posted_more = subst (ArePosted q) (sym (home_is ends spawn some)) (record { number = λ k end at. (each_end k end at).0; each = λ k end at. (each_end k end at).1 })
