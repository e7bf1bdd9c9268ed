-- What the calls by which a member reports, begins to wait and ends its wait leave of its view.
-- Source: Erlang/OTP erts internal documentation, ThreadProgress, and CodeLoading on the active code index. A report
-- confirms the value after a counter only once the root was loaded behind that counter. Plain records; the members' words
-- stand in a table of words.
use Rattle.std.specs.Prelude.{◌≡◌, ℕ, ◌+◌, ◌<◌, List, length, Some, IsTrue}
use Rattle.prgr_core.specs.declared.member.Loaded.TheVariants.{Nothing}
use Rattle.prgr_core.specs.Members as members
use Rattle.prgr_core.specs.Members.{role_knowing}
use Rattle.prgr_core.specs.Invariant.{CounterInRange}
use Rattle.term_core.specs.declared.area.AreaRef.{AreaRef}
use Rattle.area_core.specs.declared.table.Published.{Published}
use Rattle.area_core.specs.Blocks.{Among}
use Rattle.shared_words.specs.declared.view.MemberView.{MemberView}
use Rattle.shared_words.specs.declared.view.View.TheVariants.{Member}
use Rattle.shared_words.specs.Views.{newest_number, published_at, held_last}
use Rattle.shared_words.specs.Processes.{held_by_view, NamesArea}
use Rattle.shared_words.specs.Kinds.{IsSameIn}
use Rattle.shared_words.specs.Rule.{IsBeginning, HasItsAreas}

-- the member is awake: its word is a value
abbrev pub IsAwake : MemberView → Type 0
IsAwake m = IsTrue (members.is_value m.member.word)

-- what a member knows once it has found this counter, then these generations, and has confirmed the value after that counter
abbrev pub having_reported : ℕ → List Published → MemberView → MemberView
having_reported counter published m = record m {
  member = record m.member { word = counter + 1; loaded = Nothing; generation = newest_number published; role = role_knowing counter m.member.role };
  seen = published;
}

-- the member has reported, and holds this generation
pub record HoldsReported (Served : Published → Type 0) (old new : MemberView) (generation : ℕ) : Type 0 where
  -- the counter that was loaded
  pub counter : ℕ
  pub range : CounterInRange counter
  -- what it had learnt of, it still has
  pub learnt : IsBeginning old.seen new.seen
  pub some : 0 < length new.seen
  -- the generation is that of the root that was loaded, the last that it has learnt of
  pub newest : generation ≡ newest_number new.seen
  -- it may be read from now on
  pub holds : held_last (Member new) ≡ Some generation
  -- the code server has made it
  pub served : Served (published_at new.seen generation)
  -- it has one area of each serial that it uses
  pub areas : HasItsAreas (held_by_view new)
  -- and what slots named of the generation before stands in it
  pub named : (a : AreaRef) → NamesArea old a.serial → Among (held_by_view old).areas a → IsSameIn (held_by_view old) (held_by_view new) a
  -- its word is the value after the counter, and nothing else has changed
  pub view : new ≡ having_reported counter new.seen old
