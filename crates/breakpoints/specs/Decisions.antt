-- What a thread finds of a function: whether calls of it are traced in the generation that it holds.
-- Source: Erlang/OTP erts internal documentation, Tracing; the words are this project's own.
use Rattle.std.specs.Prelude.{◌≡◌, ℕ, ◌⊎◌, ◌<◌, true, false, List, IsTrue}
use Rattle.prgr_core.specs.Members.{is_value}
use Rattle.term_core.specs.declared.area.CodeRef.{CodeRef}
use Rattle.area_core.specs.declared.map.TheConstants.{FUNCTIONS}
use Rattle.area_core.specs.Blocks.{Among, IsForInstances}
use Rattle.area_core.specs.Generations.{has_function, has_image, is_current, is_instance, is_retired_area, is_traced_function}
use Rattle.shared_words.specs.declared.seats.Member as tokens
use Rattle.shared_words.specs.declared.view.BlockWord.{BlockWord}
use Rattle.shared_words.specs.declared.view.MemberView.{MemberView}
use Rattle.shared_words.specs.declared.view.View.TheVariants.{Member}
use Rattle.shared_words.specs.Processes.{NamesArea, held_by_view}
use Rattle.shared_words.specs.Publishing.{IsWordUnder}
use Rattle.shared_words.specs.Rule.{AreAreasApart}
use Rattle.shared_words.specs.Seats.{IsRooted, IsSameSeat}
use Rattle.progress_words.specs.Tokens.{view_of}

-- a member may ask of a function: its instance is current in the generation that the member holds, or a slot of the member names it
pub record MayDecide (root : ℕ) (m : MemberView) (at : CodeRef) : Type 0 where
  pub awake : IsTrue (is_value m.member.word)
  pub rooted : IsRooted root m
  -- the generation has the instance, and no other area of its serial
  pub listed : Among (held_by_view m).areas at.area
  pub apart : AreAreasApart (held_by_view m)
  -- in a block for instances
  pub placed : IsForInstances at.area.block
  -- with the function in each image of it
  pub few : at.function < FUNCTIONS
  pub has : (words : List ℕ) → IsTrue (has_image (held_by_view m).state.areas at.area.serial words) → IsTrue (has_function (record { area = at.area; words = words }) at.function)
  pub come : IsTrue (is_current (held_by_view m) at.area.serial) ⊎ NamesArea m at.area.serial
  -- what is not retired is an instance still, and what is retired has no breakpoints
  pub live : is_retired_area (held_by_view m) at.area.serial ≡ false → IsTrue (is_instance (held_by_view m) at.area.serial)
  pub gone : is_retired_area (held_by_view m) at.area.serial ≡ true → is_traced_function (held_by_view m) at.area.serial at.function ≡ false

-- the member has read words of blocks, and nothing else of it is changed
pub record HasLookedUp (old new : tokens.Member) : Type 0 where
  pub seat : IsSameSeat old.seat new.seat
  pub number : new.number ≡ old.number
  pub root : new.root ≡ old.root
  pub anchors : new.anchors.items ≡ old.anchors.items
  pub blocks : List BlockWord
  pub view : view_of new ≡ record (view_of old) { blocks = blocks }

-- the word that was found is one of blocks that stand for the generation which the member holds
abbrev pub IsWordFound : MemberView → ℕ → ℕ → Type 0
IsWordFound m word found = IsWordUnder (Member m) m.member.generation (held_by_view m) word found
