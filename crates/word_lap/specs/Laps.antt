-- What the calls of a lap leave of what a member knows.
-- Source: Erlang/OTP erts internal documentation, ThreadProgress; laps are this project's own.
use Rattle.std.specs.Prelude.{◌≡◌, ◌↔◌, ℕ, ◌-◌, ◌%◌, ◌<◌, ◌==◌, slice_set, Option, Some, None, IfSome, if◌then◌else◌}
use Rattle.prgr_core.specs.declared.member.Role.TheVariants.{Follows}
use Rattle.term_core.specs.declared.hold.Kind.{Kind}
use Rattle.term_core.specs.declared.hold.Kind.TheVariants.{Frame}
use Rattle.area_core.specs.Map.{word_at}
use Rattle.machine_core.specs.declared.process.End.{End}
use Rattle.machine_core.specs.declared.process.End.TheVariants.{Killed}
use Rattle.marks.specs.Names.{HasAnchor, tells_kill}
use Rattle.shared_words.specs.declared.view.MemberView.{MemberView}
use Rattle.anchors.specs.Drops.{AnchorsStored, IsDoomed}
use Rattle.anchors.specs.Holds.{HoldsAnchors, anchors_of}

-- the member tried to lead: it follows as before, and knows the same of generations and processes
pub record HasTried (old new : MemberView) : Type 0 where
  pub slots : new.slots ≡ old.slots
  pub seen : new.seen ≡ old.seen
  pub notes : new.notes ≡ old.notes
  pub number : new.member.number ≡ old.member.number
  pub generation : new.member.generation ≡ old.member.generation
  pub word : new.member.word ≡ old.member.word
  pub follows : new.member.role ≡ Follows

-- the word of an anchor that names nothing any more: one that tells of a kill names nothing, and stays
abbrev pub cleared : ℕ → ℕ
cleared word = if word % 4 == 0 then word else 0

-- so it is of one anchor of the process, its place counted from 1
pub record HasClearedAt (process place : ℕ) (old new : MemberView) : Type 0 where
  pub stored : AnchorsStored process old new
  pub anchors : anchors_of new process ≡ slice_set (anchors_of old process) (place - 1) (cleared (word_at (anchors_of old process) (place - 1)))

-- the process names nothing any more, and tells of kills as before; else nothing is changed
pub record HasDroppedAll (process : ℕ) (old new : MemberView) : Type 0 where
  pub stored : AnchorsStored process old new
  pub empty : (kind : Kind) (serial : ℕ) → HoldsAnchors kind (anchors_of new process) serial → ⊥
  pub kills : (serial : ℕ) → HasAnchor tells_kill (anchors_of new process) serial ↔ HasAnchor tells_kill (anchors_of old process) serial

-- the instance that killed a process which ended so
abbrev pub killer_of : End → Option ℕ
killer_of (Killed serial) = Some serial
killer_of fin = None

-- the slot tells that an instance killed the process exactly where it ended so; no instance has serial 0
abbrev pub TellsOf : ℕ → End → MemberView → Type 0
TellsOf process fin m = (serial : ℕ) → 0 < serial → HasAnchor tells_kill (anchors_of m process) serial ↔ (fin ≡ Killed serial)

-- the process has ended so: it names nothing, and its slot tells how it ended
pub record HasEndedIn (process : ℕ) (fin : End) (old new : MemberView) : Type 0 where
  pub stored : AnchorsStored process old new
  pub empty : (kind : Kind) (serial : ℕ) → HoldsAnchors kind (anchors_of new process) serial → ⊥
  pub killed : TellsOf process fin new

-- an instance that killed the process had a frame of it, and is doomed in the generation that the member holds
pub record MayKill (process serial : ℕ) (m : MemberView) : Type 0 where
  pub named : HoldsAnchors Frame (anchors_of m process) serial
  pub doomed : IsDoomed serial m

-- a process may have ended so
abbrev pub MayEndBy : ℕ → MemberView → End → Type 0
MayEndBy process m fin = IfSome (killer_of fin) (λ serial. MayKill process serial m)
