-- The steps on slots: a member stores a word of the slot of one of its processes, and the writer loads one, as part of a
-- look or outside every look.
-- Source: Erlang/OTP, the manual pages of the module code (check_process_code, purge) and of persistent_term; the words
-- are this project's own.
use Rattle.std.specs.Prelude.{◌≡◌, ◌≢◌, ℕ, zero, suc, ◌-◌, ◌/◌, ◌%◌, ◌^◌, ◌<◌, ◌≤◌, ◌⊎◌, Bool, true, false, ◌&&◌, nat_le, if◌then◌else◌, List, [], ◌∷◌, Option, Some, None, is_some, unwrap_or, slice_get, IsTrue}
use Rattle.atomic_table.specs.Table.{Step}
use Rattle.prgr_core.specs.declared.member.Retirement.{Retirement}
use Rattle.prgr_core.specs.Members as members
use Rattle.term_core.specs.declared.area.AreaRef.{AreaRef}
use Rattle.term_core.specs.declared.hold.Kind.{Kind}
use Rattle.term_core.specs.declared.hold.Kind.TheVariants as kinds
use Rattle.area_core.specs.declared.map.TheConstants.{SLOTS_START, SLOT_WORDS, PROCESSES, ANCHORS}
use Rattle.area_core.specs.declared.table.Published.{Published}
use Rattle.area_core.specs.Map.{word_at}
use Rattle.area_core.specs.Generations.{is_current, is_key_area, serial_in, names_frame, names_literal}
use Rattle.marks.specs.declared.kept.LookKind.{LookKind}
use Rattle.marks.specs.declared.kept.LookKind.TheVariants.{Frame, Both}
use Rattle.marks.specs.declared.kept.EndedWait.{EndedWait}
use Rattle.marks.specs.declared.kept.ReadTurn.{ReadTurn}
use Rattle.marks.specs.declared.kept.WriterKept.{WriterKept}
use Rattle.marks.specs.declared.mark.ProcessView.{ProcessView}
use Rattle.marks.specs.Names.{names_in, tells_kill, HasAnchor}
use Rattle.marks.specs.Steps.{with_anchor, with_turn, with_wait, with_looked, with_read, HasNote, IsNextTurn, IsLookedThrough}
use Rattle.shared_words.specs.declared.opening.Opening.{Opening}
use Rattle.shared_words.specs.declared.view.NamedAnchor.{NamedAnchor}
use Rattle.shared_words.specs.declared.view.ProcessSlot.{ProcessSlot}
use Rattle.shared_words.specs.declared.view.MemberView.{MemberView}
use Rattle.shared_words.specs.declared.view.WriterView.{WriterView}
use Rattle.shared_words.specs.declared.view.View.TheVariants.{Writer, Member}
use Rattle.shared_words.specs.Views.{published_at}
use Rattle.shared_words.specs.Processes.{process_of, under_of, note_in}
use Rattle.shared_words.specs.Rule.{is_gone, HasEnded}
use Rattle.shared_words.specs.Seats.{member_of, writer_of}
use Rattle.shared_words.specs.Kinds.{Sat}

-- ---- places

-- the process whose slot has this word of the table
abbrev pub process_at : ℕ → ℕ
process_at word = (word - SLOTS_START) / SLOT_WORDS

-- the place of the word in its slot: the turns done, then the anchors
abbrev pub place_at : ℕ → ℕ
place_at word = (word - SLOTS_START) % SLOT_WORDS

-- ---- the store of a word of a slot

-- the word of an anchor names the area, or tells that its instance killed the process
pub record IsOfArea (word serial : ℕ) : Type 0 where
  pub some : word ≢ 0
  pub of : serial_in word ≡ serial

-- an anchor may become this word under a generation
pub record FitsAnchor (p : Published) (anchors : List ℕ) (place value : ℕ) : Type 0 where
  -- a frame that the slot newly names is current
  pub frame : (serial : ℕ) → names_frame value serial ≡ true → HasAnchor names_frame anchors serial ⊎ (is_current p serial ≡ true)
  -- a literal that it newly names is the area of a key, or one that it names for a frame
  pub literal : (serial : ℕ) → names_literal value serial ≡ true → HasAnchor names_literal anchors serial ⊎ ((is_key_area p serial ≡ true) ⊎ HasAnchor names_frame anchors serial)
  -- another anchor is of its area only where this one is: no two are
  pub apart : (other word : ℕ) → slice_get anchors other ≡ Some word → other ≢ place → value ≢ 0 → word ≢ 0 → serial_in word ≡ serial_in value → IsOfArea (word_at anchors place) (serial_in value)
  -- an anchor that tells of a kill stays as it is
  pub stays : (serial : ℕ) → tells_kill (word_at anchors place) serial ≡ false
  -- only the instance of a frame that it named killed the process
  pub kills : (serial : ℕ) → tells_kill value serial ≡ true → names_frame (word_at anchors place) serial ≡ true

-- a word of a slot may become this value: the turns done first, then the anchors
abbrev pub FitsSlot : MemberView → ℕ → ℕ → ℕ → Type 0
FitsSlot m process zero value = (value < 2 ^ 32) × IsNextTurn (process_of m process) value
FitsSlot m process (suc place) value = FitsAnchor (published_at m.seen m.member.generation) (process_of m process).slot.anchors place value

-- the member may store this value into a word of the slot of this process: it is awake, the process is its own, and the
-- note of the process has come
pub record MayStoreSlot (opening : Opening) (process place value : ℕ) (m : MemberView) : Type 0 where
  pub awake : IsTrue (members.is_value m.member.word)
  pub below : process < PROCESSES
  pub own : process % opening.members ≡ m.member.number
  pub last : place ≤ ANCHORS
  pub noted : HasNote (note_in m.notes process) (under_of m)
  pub fits : FitsSlot m process place value

-- what it then knows of the process; with the turns done joins the mark of the turn
abbrev pub process_stored : ℕ → ℕ → ℕ → ProcessView → ProcessView
process_stored zero value generation p = with_turn p generation value
process_stored (suc place) value generation p = with_anchor p place value

-- its slot with what is known of the process
abbrev pub slot_with : ℕ → ProcessView → ProcessSlot
slot_with process p = record { process = process; slot = p.slot; marks = p.marks }

-- it has stored the word
abbrev pub with_slot : ℕ → ℕ → ℕ → MemberView → MemberView
with_slot process place value m =
    record m { slots = slot_with process (process_stored place value m.member.generation (process_of m process)) ∷ m.slots }

-- by the store the word stands in the slot, and nothing else of the member changes
abbrev pub slot_stored : Step (Unit {0}) → Sat → ℕ → Sat → Type 0
slot_stored st me stored me' = me' ≡ (Member (with_slot (process_at st.word) (place_at st.word) stored (member_of me.0)), me.1)

-- ---- the load of a word of a slot

-- a look asks for frames alone, or for both kinds where it names none
abbrev pub IsLookKind : Option Kind → Type 0
IsLookKind None = Unit {0}
IsLookKind (Some kinds.Frame) = Unit {0}
IsLookKind (Some kinds.Literal) = ⊥

-- the kind in which such a look finds areas named
abbrev pub look_kind : Option Kind → LookKind
look_kind None = Both
look_kind (Some kind) = Frame

-- the area is gone in the kind in what was published, if anything was
abbrev pub is_gone_in : Option Published → LookKind → ℕ → Bool
is_gone_in None kind serial = false
is_gone_in (Some p) kind serial = is_gone p kind serial

-- what the writer took is over for a look on the area in the kind
abbrev pub has_ended : WriterView → LookKind → ℕ → Retirement → Bool
has_ended w kind serial pair = nat_le pair.need w.counter && is_gone_in (slice_get w.published pair.generation) kind serial

-- the generation of the last of these that passes the test
abbrev pub last_ended : (Retirement → Bool) → List Retirement → Option ℕ
last_ended test [] = None
last_ended test (pair ∷ pairs) = if is_some (last_ended test pairs) then last_ended test pairs else if test pair then Some pair.generation else None

-- the wait that a look on the area in the kind stands on: the last that is over
abbrev pub wait_for : WriterView → LookKind → ℕ → EndedWait
wait_for w kind serial = record { generation = unwrap_or (last_ended (has_ended w kind serial) w.pairs) 0; serial = serial; kind = kind }

-- a look on the area in the kind may begin: a wait for it is over
pub record LookMayBegin (w : WriterView) (kind : LookKind) (serial : ℕ) : Type 0 where
  pub generation : ℕ
  pub ended : HasEnded w (record { generation = generation; serial = serial; kind = kind })

-- the load may stand in this look, or in none
abbrev pub MayLook : WriterView → Option (AreaRef × Option Kind) → Type 0
MayLook w None = Unit {0}
MayLook w (Some look) = IsLookKind look.1 × LookMayBegin w (look_kind look.1) look.0.serial

-- what the writer keeps of a look once it has found this word: a turn word, or an anchor that does not name the area
abbrev pub word_looked : EndedWait → ℕ → ℕ → ℕ → WriterKept → WriterKept
word_looked wait process zero found k = with_read k (record { wait = wait; process = process; turns = found })
word_looked wait process (suc place) found k =
    if names_in wait.kind found wait.serial then k else with_looked k (record { wait = wait; process = process; place = place; told = tells_kill found wait.serial })

-- an anchor as it was found, behind the turn word that was kept last
abbrev pub anchor_found : EndedWait → ℕ → ℕ → ℕ → List ReadTurn → NamedAnchor
anchor_found wait process place found turns = record { wait = wait; process = process; place = place; word = found; behind = slice_get turns 0 }

-- and of an anchor that names it
abbrev pub named_looked : EndedWait → ℕ → ℕ → ℕ → List ReadTurn → List NamedAnchor → List NamedAnchor
named_looked wait process zero found turns named = named
named_looked wait process (suc place) found turns named =
    if names_in wait.kind found wait.serial then anchor_found wait process place found turns ∷ named else named

-- with its wait
abbrev pub wait_looked : EndedWait → ℕ → ℕ → ℕ → WriterView → WriterView
wait_looked wait process place found w = record w { looks = word_looked wait process place found (with_wait w.looks wait); named = named_looked wait process place found w.looks.turns w.named }

-- what the writer knows once it has found this word in a look, or outside every look
abbrev pub slot_looked : ℕ → ℕ → Option (AreaRef × Option Kind) → ℕ → WriterView → WriterView
slot_looked process place None found w = w
slot_looked process place (Some look) found w = wait_looked (wait_for w (look_kind look.1) look.0.serial) process place found w

-- what the load tells: a turn word ends at the end of a u32
pub record slot_loaded (look : Option (AreaRef × Option Kind)) (st : Step (Unit {0})) (me : Sat) (found : ℕ) (me' : Sat) : Type 0 where
  pub narrow : place_at st.word ≡ 0 → found < 2 ^ 32
  pub view : me' ≡ (Writer (slot_looked (process_at st.word) (place_at st.word) look found (writer_of me.0)), me.1)

-- ---- a look that was clear

-- after a wait that is over, each anchor of each slot was looked at, and none named the area in the kind
pub record IsClear (w : WriterView) (kind : LookKind) (serial : ℕ) : Type 0 where
  pub generation : ℕ
  pub over : HasEnded w (record { generation = generation; serial = serial; kind = kind })
  pub looked : (process : ℕ) → process < PROCESSES → IsLookedThrough w.looks (record { generation = generation; serial = serial; kind = kind }) process
