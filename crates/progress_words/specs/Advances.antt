-- What a leader finds that tries to raise the counter: each member's word is loaded in turn, and the first that is
-- behind is told; then the delay count of the value after the counter.
-- Source: Erlang/OTP erts internal documentation, ThreadProgress: the leader raises the global progress once all others
-- have confirmed the present one. Unmanaged threads delay it; the delay counts are this project's own.
use Rattle.std.specs.Prelude.{◌≡◌, ℕ, ◌+◌, ◌%◌, ◌<◌, ◌≤◌, false, List, [], ◌∷◌, ◌++◌, length, Option, None, Some, IsTrue}
use Rattle.prgr_core.specs.declared.member.TheConstants.{LAST_VALUE}
use Rattle.prgr_core.specs.Members as members
use Rattle.prgr_core.specs.Invariant.{CounterInRange}
use Rattle.shared_words.specs.declared.view.FoundWord.{FoundWord}
use Rattle.shared_words.specs.declared.view.FoundWord.TheVariants.{MemberWord, DelayCount}
use Rattle.shared_words.specs.declared.view.MemberView.{MemberView}
use Rattle.shared_words.specs.Kinds.{known_counter, counter_raised, word_scanned, delay_looked}
use Rattle.progress_words.specs.declared.advances.Lag.{Lag}
use Rattle.progress_words.specs.declared.answers.Advance.{Advance}
use Rattle.progress_words.specs.declared.answers.Advance.TheVariants.{Advanced, Behind, Delayed, AtEnd}

-- ---- the words that are found

-- what a leader knows that has loaded the counter
abbrev pub with_counter : ℕ → MemberView → MemberView
with_counter counter m = record m { member = members.counter_loaded counter m.member }

-- what it knows once it has found these words, the newest first, of the members from 0 on
abbrev pub words_found : List ℕ → MemberView → MemberView
words_found [] m = m
words_found (word ∷ words) m = word_scanned (length words) word (words_found words m)

-- these words, each with the number of its member
abbrev pub with_numbers : List ℕ → List FoundWord
with_numbers [] = []
with_numbers (word ∷ words) = MemberWord (length words) word ∷ with_numbers words

-- between these two views just these words were loaded
abbrev pub AreLoaded : List ℕ → MemberView → MemberView → Type 0
AreLoaded words old new = new.found ≡ with_numbers words ++ old.found

-- each of these words shows that its member waits, or has confirmed the value after this counter
abbrev pub AreDone : ℕ → List ℕ → Type 0
AreDone counter [] = Unit {0}
AreDone counter (word ∷ words) = IsTrue (members.is_done counter word) × AreDone counter words

-- what a leader knows that has found this delay count of the value after the counter that it knows
abbrev pub delay_found : ℕ → MemberView → MemberView
delay_found count m = delay_looked ((known_counter m + 1) % 2) count m

-- ---- the answers

-- the counter was raised: it was below its last value, and each member was done
pub record IsRaised (count counter : ℕ) (words : List ℕ) (value : ℕ) : Type 0 where
  pub below : counter < LAST_VALUE
  pub all : length words ≡ count
  pub done : AreDone counter words
  pub next : value ≡ counter + 1

-- the first member that is behind, and its word: it does not wait, and is below the value after the counter
pub record IsBehind (count counter : ℕ) (words : List ℕ) (number confirmed : ℕ) : Type 0 where
  pub before : List ℕ
  pub found : words ≡ confirmed ∷ before
  pub place : length before ≡ number
  pub done : AreDone counter before
  pub there : number < count
  pub awake : members.is_waiting confirmed ≡ false
  pub behind : confirmed < counter + 1

-- all members were looked at, and each is done
pub record AreAllDone (count counter : ℕ) (words : List ℕ) : Type 0 where
  pub all : length words ≡ count
  pub done : AreDone counter words

-- what a look at the members tells: all are done, or this one is the first that is behind
abbrev pub FoundBy : ℕ → ℕ → List ℕ → Option Lag → Type 0
FoundBy count counter words None = AreAllDone count counter words
FoundBy count counter words (Some lag) = IsBehind count counter words lag.member lag.confirmed

-- a leader that knows the counter has looked at the members
pub record HasFound (count counter : ℕ) (old new : MemberView) (found : Option Lag) : Type 0 where
  pub words : List ℕ
  pub cause : FoundBy count counter words found
  pub view : new ≡ words_found words old
  -- the words were loaded by this look
  pub loaded : AreLoaded words old new

-- the counter is at its last value, and no word was looked at
pub record IsAtEnd (counter : ℕ) (words : List ℕ) : Type 0 where
  pub last : counter ≡ LAST_VALUE
  pub none : words ≡ []

-- all members are done, and watchers delay the counter: so many, and at least one
pub record IsDelayed (count counter : ℕ) (words : List ℕ) (delays : ℕ) : Type 0 where
  pub below : counter < LAST_VALUE
  pub done : AreAllDone count counter words
  pub some : 1 ≤ delays

-- why each answer comes, by the counter that was loaded and the words that were found
abbrev pub CauseOf : ℕ → ℕ → List ℕ → Advance → Type 0
CauseOf count counter words (Advanced value) = IsRaised count counter words value
CauseOf count counter words (Behind number confirmed) = (counter < LAST_VALUE) × IsBehind count counter words number confirmed
CauseOf count counter words (Delayed delays) = IsDelayed count counter words delays
CauseOf count counter words AtEnd = IsAtEnd counter words

-- what the leader then knows: an advance raises the counter, where it has found that no watcher delays it
abbrev pub view_after : Advance → MemberView → MemberView
view_after (Advanced value) m = counter_raised (delay_found 0 m)
view_after (Delayed delays) m = delay_found delays m
view_after _ m = m

-- the delay count that was loaded in front of these words, if one was
abbrev pub with_delays : Advance → ℕ → List FoundWord → List FoundWord
with_delays (Advanced value) counter found = DelayCount ((counter + 1) % 2) 0 ∷ found
with_delays (Delayed delays) counter found = DelayCount ((counter + 1) % 2) delays ∷ found
with_delays _ counter found = found

-- a leader of a table of so many members has tried to raise the counter
pub record HasLooked (count : ℕ) (old new : MemberView) (answer : Advance) : Type 0 where
  -- the counter that was loaded
  pub counter : ℕ
  pub range : CounterInRange counter
  -- the words that were found, the newest first
  pub words : List ℕ
  pub cause : CauseOf count counter words answer
  pub view : new ≡ view_after answer (words_found words (with_counter counter old))
  -- the words, and the delay count that it tells of, were loaded in this call
  pub loaded : new.found ≡ with_delays answer counter (with_numbers words ++ old.found)
