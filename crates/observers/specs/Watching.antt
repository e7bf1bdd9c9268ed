-- What an observer finds in the shared words while its watcher delays progress, and what that leaves of the watcher's token.
-- Source: Erlang/OTP erts internal documentation, ThreadProgress, for a thread that is no scheduler, and CodeLoading, for what a name reaches; the words
-- are this project's own.
use Rattle.std.specs.Prelude.{◌≡◌, ℕ, List, [], ◌∷◌, Option, option_map}
use Rattle.prgr_core.specs.Step.{opening_member}
use Rattle.term_core.specs.declared.atom.Mfa.{Mfa}
use Rattle.area_core.specs.declared.table.Published.{Published}
use Rattle.shared_words.specs.declared.seats.Watcher as watching
use Rattle.shared_words.specs.declared.view.BlockWord.{BlockWord}
use Rattle.shared_words.specs.declared.view.MemberView.{MemberView}
use Rattle.shared_words.specs.declared.view.WatcherView.{WatcherView}
use Rattle.shared_words.specs.Processes.{held_by_view}
use Rattle.shared_words.specs.Rule.{HasItsAreas}
use Rattle.shared_words.specs.Seats.{HoldsRoot, IsSameSeat, generation_held}
use Rattle.shared_words.specs.Views.{published_at}
use Rattle.progress_words.specs.Delays.{IsDelaying}
use Rattle.progress_words.specs.Tokens.{watched_by}
use Rattle.machine_core.specs.Reads.{Reads, dispatched}
use Rattle.code_law.specs.Served.{IsServed}
use Rattle.word_view.specs.Loaded.{IsFound, LeadsOn, export_at}

-- ---- what a watcher holds

-- the generation that the watcher holds
abbrev pub held_by_watching : WatcherView → Published
held_by_watching v = published_at v.seen (generation_held v)

-- what the watcher knows, as a scheduler would know it that holds the same generation, and whose one process names nothing
abbrev pub as_member : WatcherView → MemberView
as_member v = record {
  member = record (opening_member 0) { generation = generation_held v };
  seen = v.seen;
  notes = record { process = 0; published = 0 } ∷ [];
  slots = [];
  found = [];
  blocks = v.blocks;
}

-- the watcher delays progress, and this is the root word of the generation that it holds
pub record IsReading (root : ℕ) (v : WatcherView) : Type 0 where
  pub delaying : IsDelaying v
  pub rooted : HoldsRoot root v

-- the code server has made that generation, by these numbers of names; it has one area of each serial that it uses
pub record HoldsServed (names : List Mfa) (v : WatcherView) : Type 0 where
  pub served : IsServed names (held_by_watching v)
  pub areas : HasItsAreas (held_by_watching v)

-- the watcher has read words of blocks, and nothing else of it is changed
pub record HasRead (old new : watching.Watcher) : Type 0 where
  pub seat : IsSameSeat old.seat new.seat
  pub root : new.root ≡ old.root
  pub blocks : List BlockWord
  pub view : watched_by new ≡ record (watched_by old) { blocks = blocks }

-- ---- what a name reaches

-- once a word was found, the name of this number reaches a function of a current instance, or nothing
abbrev pub LeadsFrom : MemberView → ℕ → Type 0
LeadsFrom m entry = (word found : ℕ) → IsFound m word found → LeadsOn m (export_at (held_by_view m) entry)

-- the serial of the instance that the name of this number reaches
abbrev pub serial_at : Published → ℕ → Option ℕ
serial_at p entry = option_map (λ f. f.serial) (export_at p entry)

-- the serial of the instance that a call of the function reaches
abbrev pub serial_reached : Reads → Mfa → Option ℕ
serial_reached r to = option_map (λ e. e.serial) (dispatched r to)
