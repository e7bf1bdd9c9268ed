-- What is known of one process: over its slot and marks, its member's word and generation, and what the writer keeps.
-- The clauses hold between any two steps. Drops, answers that a process lingers, killed processes and notes are among
-- them from the start, so that later steps add no clause.
-- Source: Erlang/OTP, the manual page of the module code (check_process_code, purge, soft_purge); the words and the
-- clauses are this project's own.
use Rattle.std.specs.Prelude.{◌≡◌, ℕ, ◌+◌, ◌<◌, ◌≤◌, Bool, true, false, nat_le, ◌||◌, List, [], ◌∷◌, Option, Some, None, length, slice_get, ◌⊎◌, ◌↔◌}
use Rattle.std.specs.List.{find}
use Rattle.std.specs.Option.{IfSome}
use Rattle.area_core.specs.declared.map.TheConstants.{ANCHORS}
use Rattle.area_core.specs.Generations.{names_frame}
use Rattle.area_core.specs.Blocks.{Among}
use Rattle.marks.specs.declared.kept.LookKind.{LookKind}
use Rattle.marks.specs.declared.kept.LookKind.TheVariants.{Frame, Both}
use Rattle.marks.specs.declared.kept.EndedWait.{EndedWait}
use Rattle.marks.specs.declared.kept.LookedAnchor.{LookedAnchor}
use Rattle.marks.specs.declared.kept.ReadTurn.{ReadTurn}
use Rattle.marks.specs.declared.kept.DroppedArea.{DroppedArea}
use Rattle.marks.specs.declared.kept.LingeringFrame.{LingeringFrame}
use Rattle.marks.specs.declared.kept.WriterKept.{WriterKept}
use Rattle.marks.specs.declared.mark.Mark.{Mark}
use Rattle.marks.specs.declared.mark.ProcessView.{ProcessView}
use Rattle.marks.specs.Names.{names_in, tells_kill, HasAnchor, MarkNames, last_names, IsAtRest}

-- ---- the member

-- what the process's member is under: whether its word is a value, its generation, and what a turn under that comes to:
-- as frames the current instances, as literals the areas of keys
pub record Under : Type 0 where
  pub awake : Bool
  pub generation : ℕ
  pub frames : ℕ → Bool
  pub literals : ℕ → Bool

-- a turn comes to the area in the kind
abbrev pub comes_to : Under → LookKind → ℕ → Bool
comes_to u Frame serial = u.frames serial
comes_to u Both serial = u.frames serial || u.literals serial

-- ---- marks

-- the generations of marks, newest first, do not rise beyond this one, nor from one to the one before it
abbrev pub AreFalling : ℕ → List Mark → Type 0
AreFalling generation [] = Unit {0}
AreFalling generation (m ∷ marks) = (m.generation ≤ generation) × AreFalling m.generation marks

-- the turn word is the number of marks; it may be less where the last mark names nothing
abbrev pub CountsMarks : ProcessView → Type 0
CountsMarks p =
    (p.slot.turns ≡ length p.marks) ⊎ ((p.slot.turns ≤ length p.marks) × ((kind : LookKind) (serial : ℕ) → MarkNames kind (last_names p.marks) serial → ⊥))

-- the mark that a turn under way counts as
abbrev pub mark_now : ℕ → ProcessView → Mark
mark_now generation p = record { generation = generation; anchors = p.slot.anchors }

-- the newest of the marks that are under no later generation
abbrev pub last_mark_up_to : ℕ → List Mark → Option Mark
last_mark_up_to generation marks = find (λ m. nat_le m.generation generation) marks

-- a mark does not name the area
abbrev pub MarksNameNot : LookKind → ℕ → Mark → Type 0
MarksNameNot kind serial m = MarkNames kind m.anchors serial → ⊥

-- ---- what the writer keeps

-- the anchor does not name the area in the kind of the look, and tells of a kill where it did then
pub record IsAsLooked (l : LookedAnchor) (anchors : List ℕ) : Type 0 where
  pub clear : (word : ℕ) → slice_get anchors l.place ≡ Some word → names_in l.wait.kind word l.wait.serial ≡ false
  pub told : (word : ℕ) → slice_get anchors l.place ≡ Some word → tells_kill word l.wait.serial ≡ l.told

-- from the mark of this turn on, counted from 1, marks name the instance for a frame, and later ones are under no older generation
pub record StaysIn (serial generation turns : ℕ) (marks : List Mark) : Type 0 where
  pub some : 0 < turns
  pub most : turns ≤ length marks
  pub named : (i : ℕ) (m : Mark) → slice_get marks i ≡ Some m → i + turns ≤ length marks → HasAnchor names_frame m.anchors serial
  pub later : (i : ℕ) (m : Mark) → slice_get marks i ≡ Some m → i + turns < length marks → generation ≤ m.generation

-- where the slot still names the instance for a frame, it has been named since the turn that was read
abbrev pub IsAsRead : ReadTurn → ProcessView → Type 0
IsAsRead t p = HasAnchor names_frame p.slot.anchors t.wait.serial → StaysIn t.wait.serial t.wait.generation t.turns p.marks

-- neither the slot nor the newest mark up to the drop names the area, and the slot tells of a kill exactly where the drop has it
pub record IsDropped (generation process : ℕ) (d : DroppedArea) (p : ProcessView) : Type 0 where
  pub slot : MarkNames d.wait.kind p.slot.anchors d.wait.serial → ⊥
  pub marks : IfSome (last_mark_up_to d.generation (mark_now generation p ∷ p.marks)) (MarksNameNot d.wait.kind d.wait.serial)
  pub told : HasAnchor tells_kill p.slot.anchors d.wait.serial ↔ Among d.killed process

-- after this turn, counted from 1 and under no later generation than the newest then, a frame was in the instance; later
-- turns are under no older one
pub record LingersByMarks (l : LingeringFrame) (marks : List Mark) : Type 0 where
  pub some : 0 < l.turns
  pub place : ℕ
  pub mark : Mark
  pub counted : place + l.turns ≡ length marks
  pub at : slice_get marks place ≡ Some mark
  pub seen : mark.generation ≤ l.wait.generation
  pub named : HasAnchor names_frame mark.anchors l.wait.serial
  pub later : (i : ℕ) (m : Mark) → slice_get marks i ≡ Some m → i + l.turns < length marks → l.wait.generation ≤ m.generation

-- ---- notes

-- without a note the process has neither marks nor names; with one, marks are under no generation before it, nor is a turn under way
abbrev pub IsNoted : Option ℕ → Under → ProcessView → Type 0
IsNoted None u p = (p.marks ≡ []) × ((kind : LookKind) (serial : ℕ) → MarkNames kind p.slot.anchors serial → ⊥)
IsNoted (Some n) u p = ((i : ℕ) (m : Mark) → slice_get p.marks i ≡ Some m → n ≤ m.generation) × (IsAtRest p ⊎ (n ≤ u.generation))

-- ---- one process

-- what is known of a process
pub record IsKnown (u : Under) (process : ℕ) (p : ProcessView) (k : WriterKept) : Type 0 where
  -- the slot has its anchors
  pub wide : length p.slot.anchors ≡ ANCHORS
  -- the process is at rest, or its member's word is a value
  pub rest : IsAtRest p ⊎ (u.awake ≡ true)
  -- its frames beyond its last mark are current
  pub current : (serial : ℕ) → HasAnchor names_frame p.slot.anchors serial → HasAnchor names_frame (last_names p.marks) serial ⊎ (u.frames serial ≡ true)
  -- its marks rise to its member's generation
  pub falling : AreFalling u.generation p.marks
  -- its turn word counts its marks
  pub counted : CountsMarks p
  -- what was looked at is clear
  pub looked : (l : LookedAnchor) → Among k.anchors l → l.process ≡ process → IsAsLooked l p.slot.anchors
  -- a turn word that was read has the marks it stands for
  pub read : (t : ReadTurn) → Among k.turns t → t.process ≡ process → IsAsRead t p
  -- drops exclude
  pub dropped : (d : DroppedArea) → Among k.dropped d → IsDropped u.generation process d p
  -- answers that it lingers hold
  pub lingering : (l : LingeringFrame) → Among k.lingering l → l.process ≡ process → LingersByMarks l p.marks
  -- its note was there first
  pub noted : IsNoted p.note u p

-- what is kept of an area stands on a wait that is over
pub record IsBacked (k : WriterKept) : Type 0 where
  pub anchors : (l : LookedAnchor) → Among k.anchors l → Among k.waits l.wait
  pub turns : (t : ReadTurn) → Among k.turns t → Among k.waits t.wait
  pub dropped : (d : DroppedArea) → Among k.dropped d → Among k.waits d.wait
  pub lingering : (l : LingeringFrame) → Among k.lingering l → Among k.waits l.wait

-- a wait is over for the member: it is under no older generation, and its turns do not come to the area in the kind
pub record IsOverFor (u : Under) (w : EndedWait) : Type 0 where
  pub reached : w.generation ≤ u.generation
  pub gone : comes_to u w.kind w.serial ≡ false

-- so are all that are over
abbrev pub AreOverFor : Under → WriterKept → Type 0
AreOverFor u k = (w : EndedWait) → Among k.waits w → IsOverFor u w
