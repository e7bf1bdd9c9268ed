-- What a process sees of the code server by the shared words: the generation that its member holds, and what its slot names.
-- Source: Erlang/OTP erts internal documentation, CodeLoading; the words are this project's own.
use Rattle.std.specs.Prelude.{◌≡◌, ℕ, true, List, Option, Some, None, IsTrue}
use Rattle.atomic_table.specs.Seated.{TableId}
use Rattle.prgr_core.specs.Members.{is_value}
use Rattle.term_core.specs.declared.area.AreaRef.{AreaRef}
use Rattle.term_core.specs.declared.atom.Mfa.{Mfa}
use Rattle.area_core.specs.declared.table.Published.{Published}
use Rattle.area_core.specs.Blocks.{Among, FitsBlock, InstancesPlaced}
use Rattle.area_core.specs.Generations as tests
use Rattle.area_core.specs.Roots.{serial_image}
use Rattle.marks.specs.Names.{HasAnchor}
use Rattle.shared_words.specs.declared.opening.Opening.{Opening}
use Rattle.shared_words.specs.declared.seats.Member as tokens
use Rattle.shared_words.specs.declared.view.MemberView.{MemberView}
use Rattle.shared_words.specs.Processes.{AreCopied, held_by_view}
use Rattle.shared_words.specs.Rule.{AreAreasApart, HasItsAreas}
use Rattle.shared_words.specs.Seats.{IsMemberSeat, IsRooted, IsSameSeat}
use Rattle.anchors.specs.Drops.{AnchorsStored}
use Rattle.anchors.specs.Holds.{AnchorsApart, IsUnkilled, MayRun, anchors_of, view_of}
use Rattle.machine_core.specs.GenerationReads.{block_among, shown_in}
use Rattle.machine_core.specs.Holds.{Holds}
use Rattle.machine_core.specs.View.{Shown}
use Rattle.word_view.specs.Anchored.{holds_by}
use Rattle.code_law.specs.Served.{IsServed}

-- what contracts see of a view: the token of its member, of which table that is, and what the view was given
pub record Viewed : Type 0 where
  pub table : TableId
  pub opening : Opening
  pub token : tokens.Member
  -- the names of functions by their numbers
  pub names : List Mfa
  pub process : ℕ

-- ---- what it shows

-- what was published, by these names, each area in its block
abbrev pub shown_by : List Mfa → Published → Shown
shown_by names p = shown_in names (block_among p.areas) p.state

-- what a view shows is the generation that its member holds
abbrev pub shown_of_view : Viewed → Shown
shown_of_view v = shown_by v.names (held_by_view (view_of v.token))

-- what it holds is what the slot of its process names
abbrev pub held_of_view : Viewed → Holds
held_of_view v = holds_by (anchors_of (view_of v.token) v.process)

-- ---- areas of a generation

-- the generation has the area in this block with this image, for which there is room
pub record IsAreaOf (p : Published) (area : AreaRef) (words : List ℕ) : Type 0 where
  pub listed : Among p.areas area
  pub image : serial_image p.state.areas area.serial ≡ Some words
  pub fits : FitsBlock (record { area = area; words = words })

-- the generation has one area and one image of each serial
pub record AreOnce (p : Published) : Type 0 where
  pub areas : AreAreasApart p
  pub images : (serial : ℕ) (image : List ℕ) → tests.has_image p.state.areas serial image ≡ true → serial_image p.state.areas serial ≡ Some image

-- it has an area of this serial
pub record StandsIn (p : Published) (serial : ℕ) : Type 0 where
  pub area : AreaRef
  pub words : List ℕ
  pub is : area.serial ≡ serial
  pub stands : IsAreaOf p area words

-- the generation lists each area that these anchors name
abbrev pub NamedListed : Published → List ℕ → Type 0
NamedListed p anchors = (serial : ℕ) → HasAnchor tests.anchor_names_area anchors serial → (a : AreaRef) × Among p.areas a × (a.serial ≡ serial)

-- ---- what a member knows

-- the member may read the generation of this root word, which it has learnt of
pub record IsReading (root : ℕ) (m : MemberView) : Type 0 where
  pub awake : IsTrue (is_value m.member.word)
  pub rooted : IsRooted root m

-- a turn of the process may begin under the generation that the member holds
pub record MayBegin (names : List Mfa) (opening : Opening) (process : ℕ) (m : MemberView) : Type 0 where
  pub run : MayRun opening process m
  pub unkilled : IsUnkilled (anchors_of m process)
  pub apart : AnchorsApart (anchors_of m process)
  pub served : IsServed names (held_by_view m)
  pub areas : HasItsAreas (held_by_view m)
  pub named : NamedListed (held_by_view m) (anchors_of m process)

-- the same, and where the areas stand that a turn may come to
pub record IsReader (names : List Mfa) (opening : Opening) (process : ℕ) (m : MemberView) : Type 0 where
  pub run : MayRun opening process m
  pub unkilled : IsUnkilled (anchors_of m process)
  pub apart : AnchorsApart (anchors_of m process)
  pub served : IsServed names (held_by_view m)
  pub areas : AreAreasApart (held_by_view m)
  -- current and old instances have big blocks
  pub placed : InstancesPlaced (held_by_view m)
  -- what the generation uses stands in it
  pub used : (serial : ℕ) → IsTrue (tests.is_used (held_by_view m) serial) → StandsIn (held_by_view m) serial
  -- and so does what the slot names
  pub named : (serial : ℕ) → HasAnchor tests.anchor_names_area (anchors_of m process) serial → StandsIn (held_by_view m) serial

-- what is true of each view
pub record IsView (v : Viewed) : Type 0 where
  pub token : IsMemberSeat v.table v.token.number v.token.seat
  pub copied : AreCopied v.token.anchors.items (view_of v.token)
  pub reading : IsReading v.token.root (view_of v.token)
  pub reader : IsReader v.names v.opening v.process (view_of v.token)

-- since it was this, a view has read words of blocks and stored anchors of its process, and else it is the same
pub record HasGoneOn (began v : Viewed) : Type 0 where
  pub given : v ≡ record began { token = v.token }
  pub seat : IsSameSeat began.token.seat v.token.seat
  pub number : v.token.number ≡ began.token.number
  pub root : v.token.root ≡ began.token.root
  pub stored : AnchorsStored began.process (record (view_of began.token) { blocks = (view_of v.token).blocks }) (view_of v.token)

-- so it is, if it is known what the view was
abbrev pub IsFrom : Option Viewed → Viewed → Type 0
IsFrom None v = Unit {0}
IsFrom (Some began) v = HasGoneOn began v

-- what is true of each view of which it is known, or not, what it was
pub record IsViewFrom (began : Option Viewed) (v : Viewed) : Type 0 where
  pub view : IsView v
  pub from : IsFrom began v
