-- What was posted stays what was spawned, as the journal grows.
use Rattle.std.proofs.Common.{◌≡◌, ℕ, ◌<◌, List, [], ◌∷◌, ◌++◌, length, Some, slice_get, sym, ap, subst, ◌∙◌, arith}
use Rattle.std.proofs.lemmas.List.{append-nil, append_assoc, length-append, length-take}
use Rattle.script_core.specs.declared.script.Script.{Script}
use Rattle.script_core.specs.Processes.{SpawnLine, spawns_of}
use Rattle.run_log.specs.declared.logs.Entry.{Entry}
use Rattle.run_log.specs.Journal.{published_before}
use Rattle.run_log.specs.Legal.{commands_in, commands_of}
use Rattle.run_log.proofs.Journals.{before_kept, commands_more}
use Rattle.run_law.specs.Newcomers.{SpawnedProcess}
use Rattle.inbox.specs.Ends.{Posting}
use Rattle.write_permit.specs.Book.{IsPermit}
use Rattle.write_permit.specs.Permit.{PermitState, done_of, entered_by}
use Rattle.write_permit.proofs.Entered.{entered_grows}
use Rattle.word_run.specs.Desks.{ArePosted, GoesOn, WasSpawned}

abbrev spawn_with : ℕ → SpawnLine → ℕ → SpawnedProcess
spawn_with number line published = record { number = number; target = line.target; args = line.args; published = published }

-- a loader's entries stay the first ones
counted_more : (loader place : ℕ) (journal : List Entry) (e : Entry) → place < length (commands_in loader journal) → place < length (commands_in loader (journal ++ e ∷ []))
counted_more loader place journal e h = omega (arith, h, ap length (commands_more loader journal e), length-append (commands_in loader journal) (commands_in loader (e ∷ [])))

-- so does the count of what was published before one of its commands
before_on : (loader place : ℕ) (journal more : List Entry) → place < length (commands_in loader journal) → published_before loader place (journal ++ more) ≡ published_before loader place journal
before_on loader place journal [] h = ap (published_before loader place) (append-nil journal)
before_on loader place journal (e ∷ more) h =
    ap (published_before loader place) (sym (append_assoc journal (e ∷ []) more))
    ∙ before_on loader place (journal ++ e ∷ []) more (counted_more loader place journal e h)
    ∙ before_kept loader place journal e h

-- a command that is done has its entry
done_within : (p : PermitState) (loader place : ℕ) → IsPermit p → place < done_of p.loaders loader → place < length (commands_in loader p.journal)
done_within p loader place permit h =
    let entered = done_of (entered_by p.holder p.loaders) loader in
    omega (arith, h, entered_grows p.holder p.loaders loader, permit.log.within loader, ap length (permit.log.in_order loader), length-take entered (commands_of p.script loader))

spawned_on : (p q : PermitState) (spawn : SpawnedProcess) → IsPermit p → GoesOn p q → WasSpawned p spawn → WasSpawned q spawn
spawned_on p q spawn permit goes h =
    let line : SpawnLine = h.line in
    let same : published_before line.loader line.place q.journal ≡ published_before line.loader line.place p.journal =
    ap (published_before line.loader line.place) goes.journal ∙ before_on line.loader line.place p.journal goes.more (done_within p line.loader line.place permit h.was_done) in
    record {
      line = line;
      at = subst (λ (s : Script). slice_get (spawns_of 0 s.loaders) spawn.number ≡ Some line) (sym goes.script) h.at;
      was_done = omega (arith, h.was_done, goes.done line.loader);
      is = h.is ∙ ap (λ n. spawn_with spawn.number line n) (sym same);
    }

pub posted_on : (p q : PermitState) (posted : List (Posting SpawnedProcess)) → IsPermit p → GoesOn p q → ArePosted p posted → ArePosted q posted
posted_on p q posted permit goes h = record {
  number = h.number;
  each = λ home end at spawn among. spawned_on p q spawn permit goes (h.each home end at spawn among);
}
