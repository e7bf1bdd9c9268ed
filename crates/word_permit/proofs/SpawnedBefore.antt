-- Processes that were spawned, as the journal and the numbers of spawn lines tell.
use Rattle.std.proofs.Common.{◌≡◌, ℕ, zero, suc, ◌+◌, ◌<◌, ◌⊎◌, inl, inr, false, true, List, [], ◌∷◌, ◌++◌, length, take, slice_get, Some, IfSome, refl, sym, ap, subst, ◌∙◌, arith}
use Rattle.std.proofs.lemmas.Bool.{cases_Bool, eqb-true, false≢true}
use Rattle.std.proofs.lemmas.List.{length-take-le}
use Rattle.std.proofs.lemmas.Option.{none-some, same_Some, slice_get_within}
use Rattle.shared_words.specs.declared.view.NoteNumber.{NoteNumber}
use Rattle.shared_words.specs.declared.view.WriterView.{WriterView}
use Rattle.shared_words.specs.Notes.{MaySplitNote}
use Rattle.server_core.specs.declared.command.Cmd.{Cmd}
use Rattle.server_core.specs.declared.command.Cmd.TheVariants as cmds
use Rattle.script_core.specs.declared.script.Script.{Script}
use Rattle.script_core.specs.declared.script.ScriptCmd.{ScriptCmd}
use Rattle.script_core.specs.declared.script.ScriptCmd.TheVariants.{Spawn}
use Rattle.script_core.specs.Processes.{SpawnLine, commands_at, spawn_number, spawns_of}
use Rattle.script_core.proofs.JoinedPlaces.{JoinedAt, behind, get_behind, get_front, in_front, joined_at}
use Rattle.script_core.proofs.SpawnLines.{all_counted, spawn_at}
use Rattle.run_log.specs.declared.logs.Entry.{Entry}
use Rattle.run_log.specs.declared.logs.Who.TheVariants.{Loader}
use Rattle.run_log.specs.Journal.{is_of}
use Rattle.run_log.specs.Legal.{commands_in, commands_of, ended_by}
use Rattle.run_log.proofs.Journals.{commands_more, commands_other, commands_own}
use Rattle.run_log.proofs.SpanRuns.{some_and, some_at}
use Rattle.write_permit.specs.Book.{IsPermit}
use Rattle.write_permit.specs.Permit.{PermitState, done_of, entered_by, is_spawn, needs_permission, next_of, spawned_by}
use Rattle.write_permit.proofs.Entered.{entered_done}
use Rattle.write_permit.proofs.Kept.{holder_apart}
use Rattle.word_permit.specs.Books.{SpawnsNone}
use Rattle.word_permit.specs.Notes.{AreOfSpawned, AreThoseSpawned, HasNoteIn, IsSpawnedIn}
use Rattle.word_permit.proofs.PushedLists.{PushedAt, at_end, before, pushed_at}

-- ---- spawn lines

-- the spawn line of a command that stands at a place of a loader
record HasLine (loaders : List (List ScriptCmd)) (loader place : ℕ) : Type 0 where
  line : SpawnLine
  at : slice_get (spawns_of 0 loaders) (spawn_number loaders loader place) ≡ Some line
  loader_is : line.loader ≡ loader
  place_is : line.place ≡ place

has_line : (loaders : List (List ScriptCmd)) (loader place : ℕ) (command : ScriptCmd) → slice_get (commands_at loaders loader) place ≡ Some command → is_spawn command ≡ true → HasLine loaders loader place
has_line loaders loader place (Spawn target args) h spawns = record {
  line = record { loader = 0 + loader; place = place; target = target; args = args };
  at = spawn_at 0 loaders loader place target args h;
  loader_is = omega arith;
  place_is = refl;
}
has_line loaders loader place command h spawns = absurd (false≢true spawns)

-- two spawn lines with one number are one
number_once : (loaders : List (List ScriptCmd)) (loader place other at : ℕ) → HasLine loaders loader place → HasLine loaders other at → spawn_number loaders loader place ≡ spawn_number loaders other at → (loader ≡ other) × (place ≡ at)
number_once loaders loader place other at h k same =
    let one : h.line ≡ k.line = same_Some h.line k.line (sym h.at ∙ ap (slice_get (spawns_of 0 loaders)) same ∙ k.at) in
    (sym h.loader_is ∙ ap (λ (x : SpawnLine). x.loader) one ∙ k.loader_is, sym h.place_is ∙ ap (λ (x : SpawnLine). x.place) one ∙ k.place_is)

-- ---- with the journal

-- an entry more leaves what was spawned
spawned_later : (script : Script) (journal : List Entry) (e : Entry) (process : ℕ) → IsSpawnedIn script journal process → IsSpawnedIn script (journal ++ e ∷ []) process
spawned_later script journal e process h =
    let s = some_and (slice_get (commands_in h.loader journal) h.place) (λ command. is_spawn command ≡ true) h.spawns in
    let at : slice_get (commands_in h.loader (journal ++ e ∷ [])) h.place ≡ Some s.0 =
    ap (λ commands. slice_get commands h.place) (commands_more h.loader journal e) ∙ get_front (commands_in h.loader journal) (commands_in h.loader (e ∷ [])) h.place s.0 s.1.0 in
    record { loader = h.loader; place = h.place; spawns = some_at _ (λ command. is_spawn command ≡ true) s.0 at s.1.1; number = h.number }

pub notes_later : (script : Script) (journal : List Entry) (e : Entry) (notes : List NoteNumber) → AreOfSpawned script journal notes → AreOfSpawned script (journal ++ e ∷ []) notes
notes_later script journal e notes known = λ n among. spawned_later script journal e n.process (known n among)

-- before the first entry none was spawned
pub none_spawned : (script : Script) (journal : List Entry) (process : ℕ) → journal ≡ [] → IsSpawnedIn script journal process → ⊥
none_spawned script journal process begun h =
    let first = subst (λ js. IsSpawnedIn script js process) begun h in
    let s = some_and (slice_get (commands_in first.loader []) first.place) (λ command. is_spawn command ≡ true) first.spawns in
    none-some s.0 s.1.0

-- a process that an entry spawns
pub record SpawnsNow (script : Script) (journal : List Entry) (e : Entry) (process : ℕ) : Type 0 where
  pub loader : ℕ
  pub place : ℕ
  pub command : ScriptCmd
  pub at : slice_get (commands_in loader (e ∷ [])) place ≡ Some command
  pub spawns : is_spawn command ≡ true
  pub number : process ≡ spawn_number script.loaders loader (length (commands_in loader journal) + place)

-- what was spawned once it joined was so before, or by it
pub spawned_by_entry : (script : Script) (journal : List Entry) (e : Entry) (process : ℕ) → IsSpawnedIn script (journal ++ e ∷ []) process → IsSpawnedIn script journal process ⊎ SpawnsNow script journal e process
spawned_by_entry script journal e process h =
    let s = some_and (slice_get (commands_in h.loader (journal ++ e ∷ [])) h.place) (λ command. is_spawn command ≡ true) h.spawns in
    by s.0 s.1.1 (joined_at (commands_in h.loader journal) (commands_in h.loader (e ∷ [])) h.place s.0 (ap (λ commands. slice_get commands h.place) (sym (commands_more h.loader journal e)) ∙ s.1.0))
  where
    by : (command : ScriptCmd) → is_spawn command ≡ true → JoinedAt (commands_in h.loader journal) (commands_in h.loader (e ∷ [])) h.place command → IsSpawnedIn script journal process ⊎ SpawnsNow script journal e process
    by command spawns (in_front at) = inl (record { loader = h.loader; place = h.place; spawns = some_at _ (λ c. is_spawn c ≡ true) command at spawns; number = h.number })
    by command spawns (behind n is at) = inr (record { loader = h.loader; place = n; command = command; at = at; spawns = spawns; number = h.number ∙ ap (spawn_number script.loaders h.loader) is })

-- ---- an entry that spawns none

-- the one command that it ends is no spawn
one_free : (x command : ScriptCmd) (place : ℕ) → is_spawn x ≡ false → slice_get (x ∷ []) place ≡ Some command → is_spawn command ≡ true → ⊥
one_free x command zero free at spawns = false≢true (sym free ∙ ap is_spawn (same_Some x command at) ∙ spawns)
one_free x command (suc place) free at spawns = none-some command at

ends_free : (cmd : Cmd) (command : ScriptCmd) (place : ℕ) → SpawnsNone cmd → slice_get (ended_by cmd) place ≡ Some command → is_spawn command ≡ true → ⊥
ends_free (cmds.Load refs) command place none at spawns = one_free _ command place refl at spawns
ends_free (cmds.Delete name) command place none at spawns = one_free _ command place refl at spawns
ends_free (cmds.SoftPurge name lingers) command place none at spawns = one_free _ command place refl at spawns
ends_free (cmds.Doom name) command place none at spawns = none-some command at
ends_free (cmds.Purge name killed) command place none at spawns = one_free _ command place refl at spawns
ends_free (cmds.CheckOld name) command place none at spawns = one_free _ command place refl at spawns
ends_free (cmds.Put key term) command place none at spawns = one_free _ command place refl at spawns
ends_free (cmds.Erase key) command place none at spawns = one_free _ command place refl at spawns
ends_free (cmds.Trace target on) command place none at spawns = one_free _ command place refl at spawns
ends_free (cmds.Spawn target args) command place none at spawns = none
ends_free (cmds.Release serial) command place none at spawns = none-some command at

spawns_none : (script : Script) (journal : List Entry) (e : Entry) (process : ℕ) → SpawnsNone e.cmd → SpawnsNow script journal e process → ⊥
spawns_none script journal e process none h =
    elim (cases_Bool (is_of h.loader e.who)) as (λ _. ⊥) [
      | inl own ↦ ends_free e.cmd h.command h.place none (ap (λ commands. slice_get commands h.place) (sym (commands_own h.loader [] e own)) ∙ h.at) h.spawns
      | inr other ↦ none-some h.command (ap (λ commands. slice_get commands h.place) (sym (commands_other h.loader [] e other)) ∙ h.at)
    ]

-- what a command that is made at once spawns has the number of its spawn line
only_one : (x y : ScriptCmd) (i : ℕ) → slice_get (x ∷ []) i ≡ Some y → (x ≡ y) × (i ≡ 0)
only_one x y zero at = (same_Some x y at, refl)
only_one x y (suc i) at = absurd (none-some y at)

pub record SpawnsNext (script : Script) (journal : List Entry) (who : ℕ) (command : ScriptCmd) (process : ℕ) : Type 0 where
  pub spawns : is_spawn command ≡ true
  pub number : process ≡ spawn_number script.loaders who (length (commands_in who journal))

pub spawns_next : (script : Script) (journal : List Entry) (e : Entry) (who : ℕ) (command : ScriptCmd) (process : ℕ) → e.who ≡ Loader who → ended_by e.cmd ≡ command ∷ [] → SpawnsNow script journal e process → SpawnsNext script journal who command process
spawns_next script journal e who command process by ends h =
    elim (cases_Bool (is_of h.loader e.who)) as (λ _. SpawnsNext script journal who command process) [
      | inl own ↦
          let same : who ≡ h.loader = eqb-true who h.loader (ap (is_of h.loader) (sym by) ∙ own) in
          let one = only_one command h.command h.place (ap (λ commands. slice_get commands h.place) (sym (commands_own h.loader [] e own ∙ ends)) ∙ h.at) in
          let last : length (commands_in h.loader journal) + h.place ≡ length (commands_in h.loader journal) = omega (arith, one.1) in
          record {
            spawns = ap is_spawn one.0 ∙ h.spawns;
            number = h.number ∙ ap (spawn_number script.loaders h.loader) last ∙ ap (λ loader. spawn_number script.loaders loader (length (commands_in loader journal))) (sym same);
          }
      | inr other ↦ absurd (none-some h.command (ap (λ commands. slice_get commands h.place) (sym (commands_other h.loader [] e other)) ∙ h.at))
    ]

-- so the notes are those of the spawned processes still
pub those_later : (script : Script) (journal : List Entry) (e : Entry) (notes : List NoteNumber) → SpawnsNone e.cmd → AreThoseSpawned script journal notes → AreThoseSpawned script (journal ++ e ∷ []) notes
those_later script journal e notes none known = record {
  of = notes_later script journal e notes known.of;
  each = λ process h. by process (spawned_by_entry script journal e process h);
}
  where
    by : (process : ℕ) → IsSpawnedIn script journal process ⊎ SpawnsNow script journal e process → HasNoteIn notes process
    by process (inl was) = known.each process was
    by process (inr now) = absurd (spawns_none script journal e process none now)

-- a note more is of a process that was spawned too
one_more : (script : Script) (journal : List Entry) (notes : List NoteNumber) (m : NoteNumber) → AreOfSpawned script journal notes → IsSpawnedIn script journal m.process → (n : NoteNumber) (i : ℕ) → PushedAt notes m i n → IsSpawnedIn script journal n.process
one_more script journal notes m known spawned n i (before less h) = known n (i, h)
one_more script journal notes m known spawned n i (at_end is same) = subst (λ (x : NoteNumber). IsSpawnedIn script journal x.process) same spawned

notes_more : (script : Script) (journal : List Entry) (notes : List NoteNumber) (m : NoteNumber) → AreOfSpawned script journal notes → IsSpawnedIn script journal m.process → AreOfSpawned script journal (notes ++ m ∷ [])
notes_more script journal notes m known spawned = λ n among. one_more script journal notes m known spawned n among.0 (pushed_at notes m among.0 n among.1)

-- and where each process that was spawned has a note, but for one, which gets it now, all have
pub those_more : (script : Script) (journal : List Entry) (notes : List NoteNumber) (m : NoteNumber) → AreOfSpawned script journal notes → IsSpawnedIn script journal m.process → ((process : ℕ) → IsSpawnedIn script journal process → HasNoteIn notes process ⊎ (m.process ≡ process))
    → AreThoseSpawned script journal (notes ++ m ∷ [])
those_more script journal notes m known spawned others = record {
  of = notes_more script journal notes m known spawned;
  each = λ process h. by process (others process h);
}
  where
    by : (process : ℕ) → HasNoteIn notes process ⊎ (m.process ≡ process) → HasNoteIn (notes ++ m ∷ []) process
    by process (inl had) = (had.0, ((had.1.0.0, get_front notes (m ∷ []) had.1.0.0 had.0 had.1.0.1), had.1.1))
    by process (inr same) = (m, ((length notes + 0, get_behind notes (m ∷ []) 0), same))

-- what stands in the beginning of a list
front_within : {X : Type 0} (place k : ℕ) (xs : List X) (x : X) → slice_get (take place xs) k ≡ Some x → (k < place) × (slice_get xs k ≡ Some x)
front_within zero k xs x h = absurd (none-some x h)
front_within (suc place) k [] x h = absurd (none-some x h)
front_within (suc place) zero (y ∷ xs) x h = (omega arith, h)
front_within (suc place) (suc k) (y ∷ xs) x h = let f = front_within place k xs x h in (omega (arith, f.0), f.1)

-- ---- the loader's next command is a spawn

-- it needs no permission
spawns_free : (command : ScriptCmd) → is_spawn command ≡ true → needs_permission command ≡ false
spawns_free (Spawn target args) h = refl
spawns_free command h = absurd (false≢true h)

module _ (p : PermitState) (known : IsPermit p) (who : ℕ) (command : ScriptCmd) (next : next_of p who ≡ Some command) (spawns : is_spawn command ≡ true) where
  abbrev done : ℕ
  done = done_of p.loaders who

  abbrev number : ℕ
  number = spawn_number p.script.loaders who done

  line_next : HasLine p.script.loaders who done
  line_next = has_line p.script.loaders who done command next spawns

  -- its trace is not under way, so its entries are those of its commands that are done
  entered_same : done_of (entered_by p.holder p.loaders) who ≡ done
  entered_same = entered_done p.holder p.loaders who (λ by own. holder_apart p p.holder who command known.holds next (spawns_free command spawns) by own)

  -- no process that was spawned has its number
  spawned_apart : (process : ℕ) → IsSpawnedIn p.script p.journal process → process ≡ number → ⊥
  spawned_apart process h same =
      let s = some_and (slice_get (commands_in h.loader p.journal) h.place) (λ c. is_spawn c ≡ true) h.spawns in
      let f = front_within (done_of (entered_by p.holder p.loaders) h.loader) h.place (commands_of p.script h.loader) s.0 (ap (λ commands. slice_get commands h.place) (sym (known.log.in_order h.loader)) ∙ s.1.0) in
      let one = number_once p.script.loaders h.loader h.place who done (has_line p.script.loaders h.loader h.place s.0 f.1 s.1.1) line_next (sym h.number ∙ same) in
      let at : done_of (entered_by p.holder p.loaders) h.loader ≡ done = ap (done_of (entered_by p.holder p.loaders)) one.0 ∙ entered_same in
      omega (arith, f.0, one.1, at)

  -- so a note may be split for it
  pub may_split : (w : WriterView) → AreOfSpawned p.script p.journal w.notes → MaySplitNote w number
  may_split w noted = record {
    below = omega (arith, slice_get_within (spawns_of 0 p.script.loaders) number line_next.line line_next.at, all_counted 0 p.script.loaders, known.script.few_processes);
    first = λ note among. spawned_apart note.process (noted note among);
  }

  -- as many commands of the loader are in the journal as are done
  pub done_many : length (commands_in who p.journal) ≡ done
  done_many = ap length (known.log.in_order who) ∙ length-take-le (done_of (entered_by p.holder p.loaders) who) (commands_of p.script who) (known.log.within who) ∙ entered_same

  -- once its entry is in the journal it was spawned
  pub spawned_now : (q : PermitState) → q.script ≡ p.script → commands_in who q.journal ≡ commands_in who p.journal ++ command ∷ [] → IsSpawnedIn q.script q.journal number
  spawned_now q script longer =
      let at : done ≡ length (commands_in who p.journal) + 0 = omega (arith, done_many) in
      record {
        loader = who;
        place = done;
        spawns = some_at _ (λ c. is_spawn c ≡ true) command
            (ap (λ commands. slice_get commands done) longer ∙ ap (slice_get (commands_in who p.journal ++ command ∷ [])) at ∙ get_behind (commands_in who p.journal) (command ∷ []) 0) spawns;
        number = ap (λ (x : Script). spawn_number x.loaders who done) (sym script);
      }

-- what is so of the process of a spawn is so of the one that is told
pub if_spawned : (p : PermitState) (who : ℕ) (command : ScriptCmd) (P : ℕ → Type 0) → (is_spawn command ≡ true → P (spawn_number p.script.loaders who (done_of p.loaders who))) → IfSome (spawned_by p who (Some command)) P
if_spawned p who (Spawn target args) P h = h refl
if_spawned p who command P h = tt

pub spawned_number : (p : PermitState) (who : ℕ) (command : ScriptCmd) → is_spawn command ≡ true → spawned_by p who (Some command) ≡ Some (spawn_number p.script.loaders who (done_of p.loaders who))
spawned_number p who (Spawn target args) h = refl
spawned_number p who command h = absurd (false≢true h)
