-- What a member finds in the shared words, and what that leaves of its token.
-- Source: Erlang/OTP erts internal documentation, CodeLoading; the words are this project's own.
use Rattle.std.specs.Prelude.{◌≡◌, ℕ, ◌<◌, ◌⊎◌, true, false, List, length, slice_get, Option, Some, None, unwrap_or}
use Rattle.term_core.specs.declared.area.AreaRef.{AreaRef}
use Rattle.term_core.specs.declared.area.CodeRef.{CodeRef}
use Rattle.term_core.specs.declared.area.Found.{Found}
use Rattle.term_core.specs.declared.area.Found.TheVariants.{Absent, Word, Area}
use Rattle.term_core.specs.declared.generation.FunctionRef.{FunctionRef}
use Rattle.area_core.specs.declared.map.TheConstants.{FUNCTIONS}
use Rattle.area_core.specs.declared.table.Published.{Published}
use Rattle.area_core.specs.Blocks.{Among}
use Rattle.area_core.specs.Generations.{is_current, is_entry_word, is_reached}
use Rattle.shared_words.specs.declared.seats.Member as tokens
use Rattle.shared_words.specs.declared.view.BlockWord.{BlockWord}
use Rattle.shared_words.specs.declared.view.MemberView.{MemberView}
use Rattle.shared_words.specs.declared.view.View.TheVariants.{Member}
use Rattle.shared_words.specs.Processes.{NamesArea, held_by_view}
use Rattle.shared_words.specs.Publishing.{IsWordUnder}
use Rattle.shared_words.specs.Seats.{IsSameSeat}
use Rattle.anchors.specs.Holds.{view_of}
use Rattle.word_view.specs.Views.{AreOnce, IsAreaOf}

-- the member has read words of blocks, and nothing else of it is changed
pub record HasRead (old new : tokens.Member) : Type 0 where
  pub seat : IsSameSeat old.seat new.seat
  pub number : new.number ≡ old.number
  pub root : new.root ≡ old.root
  pub anchors : new.anchors.items ≡ old.anchors.items
  pub blocks : List BlockWord
  pub view : view_of new ≡ record (view_of old) { blocks = blocks }

-- the word that was found is one of blocks that stand for the generation which the member holds
abbrev pub IsFound : MemberView → ℕ → ℕ → Type 0
IsFound m word found = IsWordUnder (Member m) m.member.generation (held_by_view m) word found

-- ---- words of areas

-- a turn may come to the area: the generation reaches it, or a slot names it
abbrev pub MayCome : MemberView → ℕ → Type 0
MayCome m serial = (is_reached (held_by_view m) serial ≡ true) ⊎ NamesArea m serial

-- the member may read the word at this place of the block, where an area of the generation has it
pub record IsReadAt (m : MemberView) (block at : ℕ) : Type 0 where
  pub area : AreaRef
  pub words : List ℕ
  pub may : MayCome m area.serial
  pub stands : IsAreaOf (held_by_view m) area words
  pub once : AreOnce (held_by_view m)
  pub block_is : area.block ≡ block
  pub within : at < length words

-- the word is that of the area's image, unless it is an entry word
abbrev pub IsWordOf : AreaRef → List ℕ → ℕ → ℕ → Type 0
IsWordOf area words at found =
    (value : ℕ) → slice_get words at ≡ Some value → is_entry_word (record { area = area; words = words }) at ≡ false → found ≡ value

-- so it is for each area that has the place
abbrev pub IsWordThere : MemberView → ℕ → ℕ → ℕ → Type 0
IsWordThere m block at found = (r : IsReadAt m block at) → IsWordOf r.area r.words at found

-- a slot of the member names the area, and the generation that it holds has it in this block
pub record IsNamedAt (m : MemberView) (area : AreaRef) : Type 0 where
  pub named : NamesArea m area.serial
  pub words : List ℕ
  pub stands : IsAreaOf (held_by_view m) area words

-- ---- exports

-- what the code index has at this entry
abbrev pub export_at : Published → ℕ → Option FunctionRef
export_at p entry = unwrap_or (slice_get p.state.exports entry) None

-- a function of a current instance, whose image begins with its serial
pub record IsCallable (m : MemberView) (to : FunctionRef) : Type 0 where
  pub few : to.function < FUNCTIONS
  pub current : is_current (held_by_view m) to.serial ≡ true
  pub area : AreaRef
  pub is : area.serial ≡ to.serial
  pub words : List ℕ
  pub stands : IsAreaOf (held_by_view m) area words
  pub once : AreOnce (held_by_view m)
  pub headed : slice_get words 0 ≡ Some to.serial

-- so is what the entry has, if it has something
abbrev pub LeadsOn : MemberView → Option FunctionRef → Type 0
LeadsOn m None = Unit {0}
LeadsOn m (Some to) = IsCallable m to

-- the code refers to this function, in the block of its area; or there is none
abbrev pub IsCodeOf : Published → Option FunctionRef → Option CodeRef → Type 0
IsCodeOf p None None = Unit {0}
IsCodeOf p (Some to) (Some code) = (code.area.serial ≡ to.serial) × (code.function ≡ to.function) × Among p.areas code.area
IsCodeOf p None (Some code) = ⊥
IsCodeOf p (Some to) None = ⊥

-- ---- keys

-- what is found under a key is an area of the generation, if it is an area
abbrev pub IsFoundIn : Published → Found → Type 0
IsFoundIn p Absent = Unit {0}
IsFoundIn p (Word word) = Unit {0}
IsFoundIn p (Area area) = Among p.areas area
