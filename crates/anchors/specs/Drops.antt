-- What it means that a process names an area no more, and that an instance killed it.
-- Source: Erlang/OTP, the manual pages of the module code (check_process_code, purge) and of persistent_term; anchors are
-- this project's own.
use Rattle.std.specs.Prelude.{◌≡◌, ◌≢◌, ℕ, ◌+◌, ◌-◌, ◌*◌, ◌≤◌, ◌↔◌, true, false, List, Some, slice_get, slice_set}
use Rattle.term_core.specs.declared.hold.Kind.{Kind}
use Rattle.area_core.specs.declared.map.TheConstants.{ANCHORS}
use Rattle.area_core.specs.Map.{word_at}
use Rattle.area_core.specs.Generations.{is_doomed_area, serial_in, names_frame}
use Rattle.marks.specs.Names.{HasAnchor, tells_kill}
use Rattle.shared_words.specs.declared.view.MemberView.{MemberView}
use Rattle.shared_words.specs.Views.{published_at}
use Rattle.shared_words.specs.Processes.{process_of}
use Rattle.shared_words.specs.Slots.{with_slot}
use Rattle.anchors.specs.Holds.{anchors_of, names_for, HoldsAnchors, AnchorsApart}

-- anchors of the process were stored, and else nothing
pub record AnchorsStored (process : ℕ) (old new : MemberView) : Type 0 where
  pub same : new ≡ record old { slots = new.slots }
  pub others : (other : ℕ) → (other ≡ process → ⊥) → process_of new other ≡ process_of old other
  pub slot : process_of new process ≡ record (process_of old process) { slot = record (process_of old process).slot { anchors = anchors_of new process } }

-- ---- drops

-- the word of an anchor names what it named, but not the area for this; it tells of a kill where it did
pub record IsWordWithout (word serial : ℕ) (kind : Kind) (rest : ℕ) : Type 0 where
  pub names : (k : Kind) (s : ℕ) → names_for k rest s ≡ true ↔ ((names_for k word s ≡ true) × ((k ≡ kind) × (s ≡ serial) → ⊥))
  pub kills : (s : ℕ) → tells_kill rest s ≡ tells_kill word s
  pub of : rest ≢ 0 → (word ≢ 0) × (serial_in rest ≡ serial_in word)
  pub same : names_for kind word serial ≡ false → rest ≡ word

-- so it is of one anchor, its place counted from 1
pub record HasDroppedAt (process : ℕ) (kind : Kind) (serial place : ℕ) (old new : MemberView) : Type 0 where
  pub stored : AnchorsStored process old new
  pub rest : ℕ
  pub without : IsWordWithout (word_at (anchors_of old process) (place - 1)) serial kind rest
  pub anchors : anchors_of new process ≡ slice_set (anchors_of old process) (place - 1) rest

-- the process names this no more, and else what it named; it is told to be killed where it was; no two anchors come to be of
-- one area
pub record HasDropped (process : ℕ) (kind : Kind) (serial : ℕ) (old new : MemberView) : Type 0 where
  pub stored : AnchorsStored process old new
  pub names : (k : Kind) (s : ℕ) → HoldsAnchors k (anchors_of new process) s ↔ (HoldsAnchors k (anchors_of old process) s × ((k ≡ kind) × (s ≡ serial) → ⊥))
  pub kills : (s : ℕ) → HasAnchor tells_kill (anchors_of new process) s ↔ HasAnchor tells_kill (anchors_of old process) s
  pub apart : AnchorsApart (anchors_of old process) → AnchorsApart (anchors_of new process)

-- ---- kills

-- this anchor, counted from 1, names the area for a frame
pub record IsFrameAt (anchors : List ℕ) (serial place : ℕ) : Type 0 where
  pub first : 1 ≤ place
  pub last : place ≤ ANCHORS
  pub word : ℕ
  pub at : slice_get anchors (place - 1) ≡ Some word
  pub named : names_frame word serial ≡ true

-- the instance is doomed in the generation that the member holds
abbrev pub IsDoomed : ℕ → MemberView → Type 0
IsDoomed serial m = is_doomed_area (published_at m.seen m.member.generation) serial ≡ true

-- an anchor that named the instance for a frame was stored, and now tells that it killed the process; that is the one store
pub record HasKilled (process serial : ℕ) (old new : MemberView) : Type 0 where
  pub place : ℕ
  pub word : ℕ
  pub at : slice_get (anchors_of old process) place ≡ Some word
  pub named : names_frame word serial ≡ true
  pub view : new ≡ with_slot process (place + 1) (serial * 4) old
