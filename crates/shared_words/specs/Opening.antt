-- The views and words with which a table begins.
use Rattle.std.specs.Prelude.{ℕ, zero, suc, List, [], ◌∷◌, ◌++◌}
use Rattle.prgr_core.specs.Step.{opening_member, opening_watcher}
use Rattle.area_core.specs.declared.map.TheConstants.{TABLE_WORDS}
use Rattle.area_core.specs.Map.{opening_words}
use Rattle.area_core.specs.Step.{opening_published}
use Rattle.marks.specs.Steps.{nothing_kept}
use Rattle.shared_words.specs.declared.view.MemberView.{MemberView}
use Rattle.shared_words.specs.declared.view.WatcherView.{WatcherView}
use Rattle.shared_words.specs.declared.view.WriterView.{WriterView}
use Rattle.shared_words.specs.declared.view.View.{View}
use Rattle.shared_words.specs.declared.view.View.TheVariants.{Writer}

-- a member as it begins: it has learnt of generation 0, and holds it
abbrev pub member_begun : ℕ → MemberView
member_begun k = record { member = opening_member k; seen = opening_published ∷ []; notes = []; slots = []; found = []; blocks = [] }

-- as many members, numbered from 0
unfoldable pub members_begun : ℕ → List MemberView
members_begun zero = []
members_begun (suc n) = members_begun n ++ member_begun n ∷ []

-- a watcher as it begins: it has learnt of generation 0, and holds none
abbrev pub watcher_begun : ℕ → WatcherView
watcher_begun k = record { watcher = opening_watcher k; seen = opening_published ∷ []; blocks = [] }

-- as many watchers, numbered from 0
unfoldable pub watchers_begun : ℕ → List WatcherView
watchers_begun zero = []
watchers_begun (suc n) = watchers_begun n ++ watcher_begun n ∷ []

-- what the writer knows at first: generation 0 is published, and it has the seats of all members and watchers
abbrev pub writer_begun : ℕ → ℕ → WriterView
writer_begun members watchers = record {
  published = opening_published ∷ [];
  pairs = [];
  counter = 0;
  kept = [];
  words = opening_words TABLE_WORDS;
  members = members_begun members;
  handed = 0;
  watchers = watchers_begun watchers;
  notes = [];
  looks = nothing_kept;
  named = [];
  taken = [];
}

-- the same, as what the seat knows that all others are taken from
abbrev pub opening_view : ℕ → ℕ → View
opening_view members watchers = Writer (writer_begun members watchers)
