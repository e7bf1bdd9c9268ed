-- What a look through the slots finds: the turn word and the anchors of each slot, one after another.
-- Source: Erlang/OTP, the manual page of the module code (check_process_code, purge); anchors are this project's own.
use Rattle.std.specs.Prelude.{◌≡◌, ℕ, ◌-◌, ◌<◌, ◌≤◌, Bool, true, false, List, ◌∷◌, ◌++◌, length, Option, Some, slice_get}
use Rattle.std.specs.List.{list_any}
use Rattle.atomic_table.specs.Table.{State}
use Rattle.prgr_core.specs.declared.member.Retirement.{Retirement}
use Rattle.term_core.specs.declared.area.AreaRef.{AreaRef}
use Rattle.term_core.specs.declared.hold.Kind.{Kind}
use Rattle.area_core.specs.declared.map.TheConstants.{PROCESSES, ANCHORS}
use Rattle.area_core.specs.declared.table.Published.{Published}
use Rattle.area_core.specs.Blocks.{Among}
use Rattle.marks.specs.declared.kept.LookKind.{LookKind}
use Rattle.marks.specs.declared.kept.EndedWait.{EndedWait}
use Rattle.marks.specs.declared.kept.LookedAnchor.{LookedAnchor}
use Rattle.marks.specs.declared.kept.ReadTurn.{ReadTurn}
use Rattle.marks.specs.declared.kept.DroppedArea.{DroppedArea}
use Rattle.marks.specs.declared.kept.LingeringFrame.{LingeringFrame}
use Rattle.marks.specs.Names.{names_in, tells_kill}
use Rattle.shared_words.specs.declared.opening.Opening.{Opening}
use Rattle.shared_words.specs.declared.view.WriterView.{WriterView}
use Rattle.shared_words.specs.declared.view.View.{View}
use Rattle.shared_words.specs.Kinds.{counter_kept}
use Rattle.shared_words.specs.Notes.{with_note}
use Rattle.shared_words.specs.Publishing.{with_word, with_next}
use Rattle.shared_words.specs.Drops.{with_drop}
use Rattle.shared_words.specs.Rule.{IsBeginning, RunningRule}
use Rattle.shared_words.specs.Slots.{wait_for, look_kind, slot_looked, IsClear}
use Rattle.shared_words.specs.Lingering.{lingering_found}
use Rattle.shared_words.specs.Laws.{IsOutOfUse}
use Rattle.anchors.specs.declared.answers.Scan.{Scan}
use Rattle.anchors.specs.declared.answers.Scan.TheVariants as scans
use Rattle.anchors.specs.declared.scans.SlotScan.{SlotScan}
use Rattle.anchors.specs.declared.scans.SlotScan.TheVariants as slots

-- the wait that a look on the area stands on
abbrev pub scan_wait : WriterView → Option Kind → ℕ → EndedWait
scan_wait w kind serial = wait_for w (look_kind kind) serial

-- one of these words tells that the area's instance killed its process
abbrev pub tells_any : ℕ → List ℕ → Bool
tells_any serial words = list_any (λ word. tells_kill word serial) words

-- the writer keeps more of looks, and else what it knew; it has dropped nothing, and told of none that lingers
pub record LooksMore (old new : WriterView) : Type 0 where
  pub same : new ≡ record old { looks = new.looks; named = new.named }
  pub anchors : (more : List LookedAnchor) × (new.looks.anchors ≡ more ++ old.looks.anchors)
  pub turns : (more : List ReadTurn) × (new.looks.turns ≡ more ++ old.looks.turns)
  pub dropped : new.looks.dropped ≡ old.looks.dropped
  pub lingering : new.looks.lingering ≡ old.looks.lingering

-- ---- one slot

-- the anchor was loaded since then, and is kept
pub record IsLoaded (old new : WriterView) (l : LookedAnchor) : Type 0 where
  pub since : List LookedAnchor
  pub kept : new.looks.anchors ≡ since ++ old.looks.anchors
  pub among : Among since l

-- the first anchors of the slot as they were found: none names the area, and each was loaded in this look
pub record AreFound (wait : EndedWait) (process : ℕ) (words : List ℕ) (old new : WriterView) : Type 0 where
  pub clear : (place word : ℕ) → slice_get words place ≡ Some word → names_in wait.kind word wait.serial ≡ false
  pub loaded : (place word : ℕ) → slice_get words place ≡ Some word → IsLoaded old new (record { wait = wait; process = process; place = place; told = tells_kill word wait.serial })

-- all were found so; some anchor told of a kill exactly where this is so
pub record IsSlotClear (wait : EndedWait) (process : ℕ) (killed : Bool) (old new : WriterView) : Type 0 where
  pub words : List ℕ
  pub all : length words ≡ ANCHORS
  pub found : AreFound wait process words old new
  pub told : killed ≡ tells_any wait.serial words
  pub named : new.named ≡ old.named

-- this anchor, its place counted from 1, was found last, and names the area; the turn word of its slot was loaded in this look,
-- and it was the last turn word that was kept when the anchor was loaded, so it was loaded before it
pub record IsSlotNamed (wait : EndedWait) (process turn place word : ℕ) (old new : WriterView) : Type 0 where
  pub first : 1 ≤ place
  pub last : place ≤ ANCHORS
  pub names : names_in wait.kind word wait.serial ≡ true
  pub found : new.named ≡ record { wait = wait; process = process; place = place - 1; word = word; behind = Some (record { wait = wait; process = process; turns = turn }) } ∷ old.named
  pub turn_read : (more : List ReadTurn) × (new.looks.turns ≡ record { wait = wait; process = process; turns = turn } ∷ (more ++ old.looks.turns))

-- why each answer comes
abbrev pub SlotCause : EndedWait → ℕ → WriterView → WriterView → SlotScan → Type 0
SlotCause wait process old new (slots.Named turn place word) = IsSlotNamed wait process turn place word old new
SlotCause wait process old new (slots.Clear killed) = IsSlotClear wait process killed old new

-- ---- all slots

-- all anchors of the first slots were found clear, and told of a kill exactly where this is so
pub record AreClear (wait : EndedWait) (count : ℕ) (killed : Bool) (old new : WriterView) : Type 0 where
  pub rows : List (List ℕ)
  pub all : length rows ≡ count
  pub wide : (process : ℕ) (words : List ℕ) → slice_get rows process ≡ Some words → length words ≡ ANCHORS
  pub found : (process : ℕ) (words : List ℕ) → slice_get rows process ≡ Some words → AreFound wait process words old new
  pub told : killed ≡ list_any (tells_any wait.serial) rows

-- why each answer comes
abbrev pub ScanCause : EndedWait → WriterView → WriterView → Scan → Type 0
ScanCause wait old new (scans.Named process turn place word) = (process < PROCESSES) × IsSlotNamed wait process turn place word old new
ScanCause wait old new (scans.Clear killed) = AreClear wait PROCESSES killed old new × IsClear new wait.kind wait.serial

-- ---- what a clear look means

-- the writer has gone on from what it knew, or is still there: it lost no wait, no generation and no look
pub record HasGoneOn (old new : WriterView) : Type 0 where
  pub pairs : (pair : Retirement) → Among old.pairs pair → Among new.pairs pair
  pub counter : old.counter ≤ new.counter
  pub published : IsBeginning old.published new.published
  pub anchors : (l : LookedAnchor) → Among old.looks.anchors l → Among new.looks.anchors l

-- now and later no slot names the area in the kind, and no turn under a generation that a thread may read comes to it
abbrev pub StaysOutOfUse : (Published → Type 0) → Opening → WriterView → LookKind → ℕ → Type 0
StaysOutOfUse Served opening w kind serial =
    (s : State (Unit {0}) View) (r : RunningRule Served opening s) → HasGoneOn w r.writer → IsOutOfUse s.words r.writer r.seats kind serial

-- so it is where a look answers that all is clear
abbrev pub ScanMeans : (Published → Type 0) → Opening → WriterView → LookKind → ℕ → Scan → Type 0
ScanMeans Served opening w kind serial (scans.Named process turn place word) = Unit {0}
ScanMeans Served opening w kind serial (scans.Clear killed) = StaysOutOfUse Served opening w kind serial

-- each step of the writer goes on: the store of a word, that of the root, a drop that it keeps with one of these, the load of the
-- counter, the split of a note, the load of a word of a slot, and that of an anchor for the answer that its process lingers
pub record StepsGoOn (w : WriterView) : Type 0 where
  pub words : (word value : ℕ) → HasGoneOn w (with_word word value w)
  pub roots : (p : Published) → HasGoneOn w (with_next p w)
  pub drops : (d : DroppedArea) → HasGoneOn w (with_drop d w)
  pub counters : (counter : ℕ) → w.counter ≤ counter → HasGoneOn w (counter_kept counter w)
  pub notes : (process : ℕ) → HasGoneOn w (with_note process w)
  pub slots : (process place found : ℕ) (look : Option (AreaRef × Option Kind)) → HasGoneOn w (slot_looked process place look found w)
  pub lingering : (place found : ℕ) (l : LingeringFrame) → HasGoneOn w (lingering_found place found l w)

-- and steps add up
abbrev pub WriterGoesOn : Type 0
WriterGoesOn = (w : WriterView) → StepsGoOn w × ((mid new : WriterView) → HasGoneOn w mid → HasGoneOn mid new → HasGoneOn w new)
