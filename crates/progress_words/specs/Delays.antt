-- What the calls leave by which a thread reads that is no scheduler: it delays progress meanwhile.
-- Source: Erlang/OTP erts internal documentation, ThreadProgress: an unmanaged thread delays progress. The two delay counts and
-- the order of the steps are this project's own.
use Rattle.std.specs.Prelude.{◌≡◌, ℕ, ◌<◌, ◌⊎◌, true, false, length, Some, IsTrue}
use Rattle.prgr_core.specs.declared.watcher.Phase.TheVariants.{Idle, Added, Moved}
use Rattle.prgr_core.specs.Watchers.{delay_of, other_delay, holds_delay, may_leave, is_claimed, HoldsNone}
use Rattle.area_core.specs.declared.table.Published.{Published}
use Rattle.shared_words.specs.declared.view.WatcherView.{WatcherView}
use Rattle.shared_words.specs.declared.view.View.TheVariants.{Watcher}
use Rattle.shared_words.specs.Views.{newest_number, published_at, held_last}
use Rattle.shared_words.specs.Rule.{IsBeginning, HasItsAreas}

-- the watcher does not delay
abbrev pub IsIdle : WatcherView → Type 0
IsIdle v = v.watcher.phase ≡ Idle

-- it delays: it has a claim, and holds a delay count
pub record IsDelaying (v : WatcherView) : Type 0 where
  pub claimed : IsTrue (is_claimed v.watcher.phase)
  pub holds : IsTrue v.watcher.holds_even ⊎ IsTrue v.watcher.holds_odd

-- it is the same watcher, that has learnt of what it had, and found what it had
pub record IsSameWatcher (old new : WatcherView) : Type 0 where
  pub number : new.watcher.number ≡ old.watcher.number
  pub seen : new.seen ≡ old.seen
  pub blocks : new.blocks ≡ old.blocks

-- ---- the claim

-- the watcher has raised the delay count of this counter, which it has loaded
pub record HasRaised (counter : ℕ) (old new : WatcherView) : Type 0 where
  pub phase : new.watcher.phase ≡ Added counter
  pub holds : holds_delay (delay_of counter) new.watcher ≡ true
  pub same : IsSameWatcher old new

-- it has found that the counter went on from this one, whose delay count it holds
pub record HasMoved (counter : ℕ) (v : WatcherView) : Type 0 where
  pub phase : v.watcher.phase ≡ Moved (delay_of counter)
  pub holds : holds_delay (delay_of counter) v.watcher ≡ true

-- it has claimed to read, and has not loaded the root yet
pub record HasClaimed (old new : WatcherView) : Type 0 where
  pub delaying : IsDelaying new
  pub same : IsSameWatcher old new

-- it delays progress, and holds this generation
pub record HasDelayed (Served : Published → Type 0) (old new : WatcherView) (generation : ℕ) : Type 0 where
  pub delaying : IsDelaying new
  -- what it had learnt of, it still has
  pub learnt : IsBeginning old.seen new.seen
  pub some : 0 < length new.seen
  -- the generation is that of the root that was loaded, the last that it has learnt of
  pub newest : generation ≡ newest_number new.seen
  -- it may be read from now on
  pub holds : held_last (Watcher new) ≡ Some generation
  -- the code server has made it
  pub served : Served (published_at new.seen generation)
  -- it has one area of each serial that it uses
  pub areas : HasItsAreas (published_at new.seen generation)
  -- it is the same watcher, and has found no other words of blocks
  pub number : new.watcher.number ≡ old.watcher.number
  pub blocks : new.blocks ≡ old.blocks

-- ---- the end of a claim

-- the watcher may lower each delay count that it holds, and does not delay where it holds none
pub record MayLower (v : WatcherView) : Type 0 where
  pub even : v.watcher.holds_even ≡ true → IsTrue (may_leave v.watcher.phase)
  pub odd : v.watcher.holds_odd ≡ true → IsTrue (may_leave v.watcher.phase)
  pub idle : HoldsNone v.watcher.holds_even v.watcher.holds_odd → IsIdle v

-- it does not hold the count of this number, and holds the other one where it did
pub record HasLowered (which : ℕ) (old new : WatcherView) : Type 0 where
  pub lowered : holds_delay (delay_of which) new.watcher ≡ false
  pub other : holds_delay (other_delay (delay_of which)) new.watcher ≡ holds_delay (other_delay (delay_of which)) old.watcher
  pub same : IsSameWatcher old new
