-- The notes that a permit splits: each is of a process that was spawned, and has learnt of what was published then.
-- Source: this project's own; no turn of a process is under a generation older than those that were published at its spawn.
use Rattle.std.specs.Prelude.{◌≡◌, ℕ, true, List, Option, Some, None, slice_get, IsSomeAnd}
use Rattle.atomic_table.specs.Seated.{TableId}
use Rattle.area_core.specs.Blocks.{Among}
use Rattle.shared_words.specs.declared.view.NoteNumber.{NoteNumber}
use Rattle.shared_words.specs.declared.view.WriterView.{WriterView}
use Rattle.shared_words.specs.Notes.{note_begun, with_note}
use Rattle.progress_words.specs.Tokens.{IsNoteOf, noted_by, written_by}
use Rattle.script_core.specs.declared.script.Script.{Script}
use Rattle.script_core.specs.Processes.{spawn_number}
use Rattle.run_log.specs.declared.logs.Entry.{Entry}
use Rattle.run_log.specs.Legal.{commands_in}
use Rattle.staging.specs.declared.tables.Tables.{Tables}
use Rattle.write_permit.specs.Permit.{PermitState, is_spawn, next_of, spawned_by}
use Rattle.word_permit.specs.declared.answers.Spawned.{Spawned}

-- a process was spawned: the entry of its spawn line is in the journal
pub record IsSpawnedIn (script : Script) (journal : List Entry) (process : ℕ) : Type 0 where
  pub loader : ℕ
  pub place : ℕ
  pub spawns : IsSomeAnd (slice_get (commands_in loader journal) place) (λ command. is_spawn command ≡ true)
  pub number : process ≡ spawn_number script.loaders loader place

-- each note is of such a process
abbrev pub AreOfSpawned : Script → List Entry → List NoteNumber → Type 0
AreOfSpawned script journal notes = (n : NoteNumber) → Among notes n → IsSpawnedIn script journal n.process

-- there is a note of the process
abbrev pub HasNoteIn : List NoteNumber → ℕ → Type 0
HasNoteIn notes process = (n : NoteNumber) × (Among notes n × (n.process ≡ process))

-- and each such process has one
pub record AreThoseSpawned (script : Script) (journal : List Entry) (notes : List NoteNumber) : Type 0 where
  pub of : AreOfSpawned script journal notes
  pub each : (process : ℕ) → IsSpawnedIn script journal process → HasNoteIn notes process

-- this is the process, and its note has learnt of all that the writer has published
pub record HasNote (table : TableId) (number : ℕ) (w : WriterView) (s : Spawned) : Type 0 where
  pub process : s.process ≡ number
  pub token : IsNoteOf table number s.note
  pub learnt : noted_by s.note ≡ note_begun number w

-- the process that a loader's next command spawns, if it spawns one
abbrev pub next_spawned : PermitState → ℕ → Option ℕ
next_spawned p who = spawned_by p who (next_of p who)

-- a process is handed out with its note, if one was spawned
abbrev pub HandsOut : TableId → WriterView → Option ℕ → Option Spawned → Type 0
HandsOut table w None told = told ≡ None
HandsOut table w (Some made) told = IsSomeAnd told (HasNote table made w)

-- what the writer knows then
abbrev pub noted_for : Option ℕ → WriterView → WriterView
noted_for None w = w
noted_for (Some made) w = with_note made w

-- nothing else of the tables has changed
pub record KeepsButNote (made : Option ℕ) (old new : Tables) : Type 0 where
  pub view : written_by new.writer ≡ noted_for made (written_by old.writer)
  pub exports : new.exports ≡ old.exports
  pub index : new.index ≡ old.index
  pub terms : new.terms ≡ old.terms
  pub pools : new.pools ≡ old.pools
  pub patch : new.patch ≡ old.patch
