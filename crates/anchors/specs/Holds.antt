-- What a process names: which anchors of its slot are of which area, and what it means to hold an area and to drop it.
-- Source: Erlang/OTP, the manual pages of the module code (check_process_code, purge) and of persistent_term; anchors are
-- this project's own.
use Rattle.std.specs.Prelude.{◌≡◌, ◌≢◌, ℕ, ◌+◌, ◌-◌, ◌%◌, ◌<◌, ◌≤◌, ◌⊎◌, ◌↔◌, Bool, true, List, Some, slice_get, IsTrue}
use Rattle.prgr_core.specs.Members as members
use Rattle.term_core.specs.declared.hold.Kind.{Kind}
use Rattle.term_core.specs.declared.hold.Kind.TheVariants.{Frame, Literal}
use Rattle.area_core.specs.declared.map.TheConstants.{PROCESSES, ANCHORS}
use Rattle.area_core.specs.declared.table.Published.{Published}
use Rattle.area_core.specs.Generations.{is_current, is_key_area, serial_in, is_naming, names_frame, names_literal}
use Rattle.marks.specs.Names.{HasAnchor, tells_kill}
use Rattle.marks.specs.Steps.{HasNote}
use Rattle.shared_words.specs.declared.opening.Opening.{Opening}
use Rattle.shared_words.specs.declared.seats.Member as tokens
use Rattle.shared_words.specs.declared.view.MemberView.{MemberView}
use Rattle.shared_words.specs.Views.{published_at}
use Rattle.shared_words.specs.Seats.{member_of}
use Rattle.shared_words.specs.Processes.{process_of, under_of, note_in}
use Rattle.shared_words.specs.Slots.{IsOfArea, with_slot}

-- what a member knows
abbrev pub view_of : tokens.Member → MemberView
view_of token = member_of token.seat.me.0

-- the anchors of a process's slot
abbrev pub anchors_of : MemberView → ℕ → List ℕ
anchors_of m process = (process_of m process).slot.anchors

-- ---- places

-- this anchor, counted from 1, is of the area
pub record StandsAt (anchors : List ℕ) (serial place : ℕ) : Type 0 where
  pub first : 1 ≤ place
  pub last : place ≤ ANCHORS
  pub word : ℕ
  pub at : slice_get anchors (place - 1) ≡ Some word
  pub of : IsOfArea word serial

-- none is
abbrev pub StandsNowhere : List ℕ → ℕ → Type 0
StandsNowhere anchors serial = (place word : ℕ) → slice_get anchors place ≡ Some word → IsOfArea word serial → ⊥

-- this anchor, counted from 1, is 0
pub record IsFreeAt (anchors : List ℕ) (place : ℕ) : Type 0 where
  pub first : 1 ≤ place
  pub last : place ≤ ANCHORS
  pub at : slice_get anchors (place - 1) ≡ Some 0

-- none is
abbrev pub HasNoFree : List ℕ → Type 0
HasNoFree anchors = (place word : ℕ) → slice_get anchors place ≡ Some word → word ≢ 0

-- this anchor, counted from 1, is that of the area; or it is 0, and none is of the area
pub record IsPlaceFor (anchors : List ℕ) (serial place : ℕ) : Type 0 where
  pub first : 1 ≤ place
  pub last : place ≤ ANCHORS
  pub word : ℕ
  pub at : slice_get anchors (place - 1) ≡ Some word
  pub fits : ((word ≡ 0) × StandsNowhere anchors serial) ⊎ IsOfArea word serial

-- there is none
pub record HasNoPlace (anchors : List ℕ) (serial : ℕ) : Type 0 where
  pub nowhere : StandsNowhere anchors serial
  pub taken : HasNoFree anchors

-- ---- holds

-- an anchor names the area for this
abbrev pub names_for : Kind → ℕ → ℕ → Bool
names_for Frame word serial = names_frame word serial
names_for Literal word serial = names_literal word serial

-- the anchors name the area for this
abbrev pub HoldsAnchors : Kind → List ℕ → ℕ → Type 0
HoldsAnchors kind anchors serial = HasAnchor (names_for kind) anchors serial

-- a turn of the process may be made by the member: the process is its own, it is awake, and the note of the process came with
-- no later generation than it holds
pub record MayRun (opening : Opening) (process : ℕ) (m : MemberView) : Type 0 where
  pub awake : IsTrue (members.is_value m.member.word)
  pub below : process < PROCESSES
  pub own : process % opening.members ≡ m.member.number
  pub noted : HasNote (note_in m.notes process) (under_of m)

-- no anchor tells of a kill
abbrev pub IsUnkilled : List ℕ → Type 0
IsUnkilled anchors = (place word serial : ℕ) → slice_get anchors place ≡ Some word → tells_kill word serial ≡ true → ⊥

-- a turn under this generation may newly name the area: for frames a current instance, for literals the area of a key, or an
-- instance that the slot names for a frame
abbrev pub MayReach : Kind → Published → List ℕ → ℕ → Type 0
MayReach Frame p anchors serial = is_current p serial ≡ true
MayReach Literal p anchors serial = (is_key_area p serial ≡ true) ⊎ HasAnchor names_frame anchors serial

-- the process names the area already, or may reach it
abbrev pub MayHold : ℕ → Kind → ℕ → MemberView → Type 0
MayHold process kind serial m = HoldsAnchors kind (anchors_of m process) serial ⊎ MayReach kind (published_at m.seen m.member.generation) (anchors_of m process) serial

-- each anchor names another area
abbrev pub AreOthers : List ℕ → ℕ → Type 0
AreOthers anchors serial = (place word : ℕ) → slice_get anchors place ≡ Some word → (is_naming word ≡ true) × (serial_in word ≢ serial)

-- one anchor of the process was stored, and else nothing
pub record HasStored (process : ℕ) (old new : MemberView) : Type 0 where
  pub place : ℕ
  pub word : ℕ
  pub view : new ≡ with_slot process (place + 1) word old

-- the view is as it was, or one anchor of the process was stored
abbrev pub IsStored : ℕ → MemberView → MemberView → Type 0
IsStored process old new = (new ≡ old) ⊎ HasStored process old new

-- no two anchors are of one area
abbrev pub AnchorsApart : List ℕ → Type 0
AnchorsApart anchors = (a b v w : ℕ) → slice_get anchors a ≡ Some v → slice_get anchors b ≡ Some w → v ≢ 0 → w ≢ 0 → serial_in v ≡ serial_in w → a ≡ b

-- the process names this besides what it named; no two anchors come to be of one area
pub record HasHeld (process : ℕ) (kind : Kind) (serial : ℕ) (old new : MemberView) : Type 0 where
  pub stored : IsStored process old new
  pub names : (k : Kind) (s : ℕ) → HoldsAnchors k (anchors_of new process) s ↔ (HoldsAnchors k (anchors_of old process) s ⊎ ((k ≡ kind) × (s ≡ serial)))
  pub unkilled : IsUnkilled (anchors_of new process)
  pub apart : AnchorsApart (anchors_of old process) → AnchorsApart (anchors_of new process)

-- ---- words

-- the word names what an anchor that is 0, or of the area, named, and the area for this
pub record IsNamedWord (word serial : ℕ) (kind : Kind) (named : ℕ) : Type 0 where
  pub of : serial_in named ≡ serial
  pub some : named ≢ 0
  pub names : word ≡ 0 ⊎ (serial_in word ≡ serial) → (k : Kind) (s : ℕ) → names_for k named s ≡ true ↔ ((names_for k word s ≡ true) ⊎ ((k ≡ kind) × (s ≡ serial)))
  pub kills : (s : ℕ) → tells_kill named s ≡ true → ⊥
