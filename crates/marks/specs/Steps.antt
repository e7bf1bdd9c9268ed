-- The steps on slots and on what the writer keeps, each with what it asks for; and what is known of each process stays
-- known over all of them.
-- Source: Erlang/OTP, the manual page of the module code; the steps are this project's own.
use Rattle.std.specs.Prelude.{◌≡◌, ℕ, ◌+◌, ◌<◌, ◌≤◌, Bool, true, false, [], ◌∷◌, Option, Some, None, length, slice_get, slice_set, ◌⊎◌, ◌↔◌}
use Rattle.area_core.specs.declared.map.TheConstants.{ANCHORS}
use Rattle.area_core.specs.declared.table.Published.{Published}
use Rattle.area_core.specs.declared.table.Table.{Table}
use Rattle.area_core.specs.Generations.{is_current, is_key_area, names_frame}
use Rattle.area_core.specs.Map.{opening_words, slot_place, word_at}
use Rattle.area_core.specs.Blocks.{Among}
use Rattle.area_core.specs.Stores.{may_store_anchor}
use Rattle.marks.specs.declared.kept.LookKind.{LookKind}
use Rattle.marks.specs.declared.kept.EndedWait.{EndedWait}
use Rattle.marks.specs.declared.kept.LookedAnchor.{LookedAnchor}
use Rattle.marks.specs.declared.kept.ReadTurn.{ReadTurn}
use Rattle.marks.specs.declared.kept.DroppedArea.{DroppedArea}
use Rattle.marks.specs.declared.kept.LingeringFrame.{LingeringFrame}
use Rattle.marks.specs.declared.kept.WriterKept.{WriterKept}
use Rattle.marks.specs.declared.mark.ProcessView.{ProcessView}
use Rattle.marks.specs.Names.{names_in, tells_kill, HasAnchor, MarkNames, IsAtRest}
use Rattle.marks.specs.Kept.{Under, comes_to, mark_now, IsKnown, IsBacked, IsOverFor, AreOverFor}

-- ---- what steps make

-- the process with this word in an anchor
abbrev pub with_anchor : ProcessView → ℕ → ℕ → ProcessView
with_anchor p place word = record p { slot = record p.slot { anchors = slice_set p.slot.anchors place word } }

-- the process with one more turn done
abbrev pub with_turn : ProcessView → ℕ → ℕ → ProcessView
with_turn p generation turns = record p { slot = record p.slot { turns = turns }; marks = mark_now generation p ∷ p.marks }

-- the process with its note
abbrev pub with_note : ProcessView → ℕ → ProcessView
with_note p n = record p { note = Some n }

-- a process whose slot names nothing, and which has done no turn
abbrev pub opening_process : ProcessView
opening_process = record { slot = record { turns = 0; anchors = opening_words ANCHORS }; marks = []; note = None }

-- nothing is kept
abbrev pub nothing_kept : WriterKept
nothing_kept = record { waits = []; anchors = []; turns = []; dropped = []; lingering = [] }

-- one more wait that is over is kept
abbrev pub with_wait : WriterKept → EndedWait → WriterKept
with_wait k w = record k { waits = w ∷ k.waits }

-- one more anchor that was looked at is kept
abbrev pub with_looked : WriterKept → LookedAnchor → WriterKept
with_looked k l = record k { anchors = l ∷ k.anchors }

-- one more turn word that was loaded is kept
abbrev pub with_read : WriterKept → ReadTurn → WriterKept
with_read k t = record k { turns = t ∷ k.turns }

-- one more area that was released or purged is kept
abbrev pub with_drop_kept : WriterKept → DroppedArea → WriterKept
with_drop_kept k d = record k { dropped = d ∷ k.dropped }

-- one more answer that a process lingers is kept
abbrev pub with_lingering : WriterKept → LingeringFrame → WriterKept
with_lingering k l = record k { lingering = l ∷ k.lingering }

-- ---- what steps ask for

-- the note of the process has come, and its member is under no generation before it
abbrev pub HasNote : Option ℕ → Under → Type 0
HasNote None u = ⊥
HasNote (Some n) u = n ≤ u.generation

-- an anchor may become this word: what it newly names a turn comes to, a kill is never overwritten, and only the instance
-- of a frame kills
pub record MayBecome (u : Under) (old new : ℕ) : Type 0 where
  pub newly : (kind : LookKind) (serial : ℕ) → names_in kind new serial ≡ true → (names_in kind old serial ≡ true) ⊎ (comes_to u kind serial ≡ true)
  pub stays : (serial : ℕ) → tells_kill old serial ≡ false
  pub kills : (serial : ℕ) → tells_kill new serial ≡ true → names_frame old serial ≡ true

-- what a member is under that holds this generation
abbrev pub holding : Bool → ℕ → Published → Under
holding awake generation p = record { awake = awake; generation = generation; frames = is_current p; literals = is_key_area p }

-- the next turn word: one more than there are marks, or less where the slot names nothing
abbrev pub IsNextTurn : ProcessView → ℕ → Type 0
IsNextTurn p turns = (turns ≡ length p.marks + 1) ⊎ ((turns ≤ length p.marks + 1) × ((kind : LookKind) (serial : ℕ) → MarkNames kind p.slot.anchors serial → ⊥))

-- each anchor of the process was looked at after the wait
abbrev pub IsLookedThrough : WriterKept → EndedWait → ℕ → Type 0
IsLookedThrough k w process = (place : ℕ) → place < ANCHORS → (told : Bool) × Among k.anchors (record { wait = w; process = process; place = place; told = told })

-- some anchor of the process told of a kill when it was looked at
abbrev pub ToldOfKill : WriterKept → EndedWait → ℕ → Type 0
ToldOfKill k w process = (place : ℕ) × (place < ANCHORS) × Among k.anchors (record { wait = w; process = process; place = place; told = true })

-- ---- the laws

-- a member stores an anchor: it names an area, names it no more, or tells of a kill
abbrev pub KeepsAnchors : Type 0
KeepsAnchors =
    (u : Under) (process : ℕ) (p : ProcessView) (k : WriterKept) (place old new : ℕ) → IsKnown u process p k → IsBacked k → AreOverFor u k → u.awake ≡ true → HasNote p.note u
    → slice_get p.slot.anchors place ≡ Some old → MayBecome u old new → IsKnown u process (with_anchor p place new) k

-- a member stores the number of turns done
abbrev pub KeepsTurns : Type 0
KeepsTurns =
    (u : Under) (process : ℕ) (p : ProcessView) (k : WriterKept) (turns : ℕ) → IsKnown u process p k → IsBacked k → AreOverFor u k → HasNote p.note u
    → IsNextTurn p turns → IsKnown u process (with_turn p u.generation turns) k

-- a member loads the root, reports, waits or wakes: its processes are at rest
abbrev pub KeepsAtRest : Type 0
KeepsAtRest =
    (u v : Under) (process : ℕ) (p : ProcessView) (k : WriterKept) → IsKnown u process p k → IsAtRest p → u.generation ≤ v.generation → IsKnown v process p k

-- a wait ends
abbrev pub KeepsWaits : Type 0
KeepsWaits = (u : Under) (process : ℕ) (p : ProcessView) (k : WriterKept) (w : EndedWait) → IsKnown u process p k → IsKnown u process p (with_wait k w)

-- the writer looks at an anchor, and does not find the area
abbrev pub KeepsLooks : Type 0
KeepsLooks =
    (u : Under) (process : ℕ) (p : ProcessView) (k : WriterKept) (l : LookedAnchor) → IsKnown u process p k
    → (l.process ≡ process → (word : ℕ) → slice_get p.slot.anchors l.place ≡ Some word → (names_in l.wait.kind word l.wait.serial ≡ false) × (tells_kill word l.wait.serial ≡ l.told))
    → IsKnown u process p (with_looked k l)

-- the writer loads a turn word
abbrev pub KeepsReads : Type 0
KeepsReads =
    (u : Under) (process : ℕ) (p : ProcessView) (k : WriterKept) (t : ReadTurn) → IsKnown u process p k → IsOverFor u t.wait
    → (t.process ≡ process → t.turns ≡ p.slot.turns) → IsKnown u process p (with_read k t)

-- an area is released or purged, after a look through the slot that found it in no anchor, while no member is under a later generation
abbrev pub KeepsDrops : Type 0
KeepsDrops =
    (u : Under) (process : ℕ) (p : ProcessView) (k : WriterKept) (d : DroppedArea) → IsKnown u process p k → IsLookedThrough k d.wait process
    → u.generation ≤ d.generation → (ToldOfKill k d.wait process ↔ Among d.killed process) → IsKnown u process p (with_drop_kept k d)

-- the writer answers that a process lingers: it read its turn word, and then an anchor that names the instance, while no member is under
-- a later generation than that of the wait
abbrev pub KeepsAnswers : Type 0
KeepsAnswers =
    (u : Under) (process : ℕ) (p : ProcessView) (k : WriterKept) (l : LingeringFrame) → IsKnown u process p k
    → (l.process ≡ process → Among k.turns (record { wait = l.wait; process = l.process; turns = l.turns }) × HasAnchor names_frame p.slot.anchors l.wait.serial × (u.generation ≤ l.wait.generation))
    → IsKnown u process p (with_lingering k l)

-- a slot that was looked through does not name the area in the kind of the look; and so it is after each step, since what was looked at
-- stays kept
abbrev pub EndsNames : Type 0
EndsNames =
    (u : Under) (process : ℕ) (p : ProcessView) (k : WriterKept) (w : EndedWait) → IsKnown u process p k → IsLookedThrough k w process
    → MarkNames w.kind p.slot.anchors w.serial → ⊥

-- the note of a process comes
abbrev pub KeepsNotes : Type 0
KeepsNotes = (u : Under) (process : ℕ) (p : ProcessView) (k : WriterKept) (n : ℕ) → IsKnown u process p k → p.note ≡ None → IsKnown u process (with_note p n) k

-- what is kept stands on waits that are over, where it is backed and what is added is
abbrev pub KeepsBacked : Type 0
KeepsBacked =
    (k : WriterKept) → IsBacked k
    → ((w : EndedWait) → IsBacked (with_wait k w))
    × ((l : LookedAnchor) → Among k.waits l.wait → IsBacked (with_looked k l))
    × ((t : ReadTurn) → Among k.waits t.wait → IsBacked (with_read k t))
    × ((d : DroppedArea) → Among k.waits d.wait → IsBacked (with_drop_kept k d))
    × ((l : LingeringFrame) → Among k.waits l.wait → IsBacked (with_lingering k l))

-- a process without a note is known at first, while the writer keeps nothing
abbrev pub Opens : Type 0
Opens = (u : Under) (process : ℕ) → IsKnown u process opening_process nothing_kept

-- an anchor may become a word that area_core's test of slots lets a member store, where no kill is overwritten, and only the instance of a
-- frame kills
abbrev pub AllowsStores : Type 0
AllowsStores =
    (s : Table) (awake : Bool) (generation process place value : ℕ) (p : Published) → 1 ≤ place → place ≤ ANCHORS → may_store_anchor s process place value p ≡ true
    → ((serial : ℕ) → tells_kill (word_at s.words (slot_place process place)) serial ≡ false)
    → ((serial : ℕ) → tells_kill value serial ≡ true → names_frame (word_at s.words (slot_place process place)) serial ≡ true)
    → MayBecome (holding awake generation p) (word_at s.words (slot_place process place)) value
