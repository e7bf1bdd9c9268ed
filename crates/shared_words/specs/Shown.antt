-- The state of blocks and slots that the words and the views show.
-- The words give the counter, the leader, the delay counts, the slots and the blocks; the views give the rest. Seat 0
-- is the writer's, the members' come next and then the watchers', each in the order of their numbers, so that no seat
-- is sought.
use Rattle.std.specs.Prelude.{ℕ, ◌+◌, ◌-◌, ◌==◌, if◌then◌else◌, List, [], ◌∷◌, ◌++◌, length, drop, slice_index, Option, Some, None}
use Rattle.prgr_core.specs.declared.member.Member as machines
use Rattle.prgr_core.specs.declared.watcher.Watcher as watching
use Rattle.prgr_core.specs.declared.progress.Progress.{Progress}
use Rattle.area_core.specs.declared.map.TheConstants.{SLOTS_START}
use Rattle.area_core.specs.declared.table.Table.{Table}
use Rattle.area_core.specs.Map.{opening_words}
use Rattle.shared_words.specs.declared.table.TheConstants.{COUNTER, LEAD, DELAYS}
use Rattle.shared_words.specs.declared.view.MemberView.{MemberView}
use Rattle.shared_words.specs.declared.view.WatcherView.{WatcherView}
use Rattle.shared_words.specs.declared.view.WriterView.{WriterView}
use Rattle.shared_words.specs.declared.view.View.{View}
use Rattle.shared_words.specs.declared.view.View.TheVariants.{Member, Watcher}
use Rattle.shared_words.specs.Views.{newest_number}

-- ---- members and watchers

-- the member's record in its seat's view, or the one at hand where the seat is not a member's
abbrev pub member_shown : MemberView → View → machines.Member
member_shown kept (Member m) = m.member
member_shown kept _ = kept.member

-- the members: each as its seat shows it, or as the writer keeps it while the seat is not handed out
abbrev pub members_shown : List MemberView → List View → List machines.Member
members_shown [] seats = []
members_shown (kept ∷ members) [] = kept.member ∷ members_shown members []
members_shown (kept ∷ members) (seat ∷ seats) = member_shown kept seat ∷ members_shown members seats

-- what the member knows: as its seat has it, or as it is kept where the seat is not a member's
abbrev pub view_shown : MemberView → View → MemberView
view_shown kept (Member m) = m
view_shown kept _ = kept

-- what the members know: each as its seat has it, or as the writer keeps it while the seat is not handed out, and once it
-- came in
abbrev pub views_shown : List MemberView → List View → List MemberView
views_shown [] seats = []
views_shown (kept ∷ members) [] = kept ∷ views_shown members []
views_shown (kept ∷ members) (seat ∷ seats) = view_shown kept seat ∷ views_shown members seats

-- the same of a watcher
abbrev pub watcher_shown : WatcherView → View → watching.Watcher
watcher_shown kept (Watcher w) = w.watcher
watcher_shown kept _ = kept.watcher

-- the watchers
abbrev pub watchers_shown : List WatcherView → List View → List watching.Watcher
watchers_shown [] seats = []
watchers_shown (kept ∷ watchers) [] = kept.watcher ∷ watchers_shown watchers []
watchers_shown (kept ∷ watchers) (seat ∷ seats) = watcher_shown kept seat ∷ watchers_shown watchers seats

-- ---- the state

-- the leader that its word tells
abbrev pub leader_in : ℕ → Option ℕ
leader_in word = if word == 0 then None else Some (word - 1)

-- the state of the progress machine, by the words, the writer's view and the other seats
abbrev pub progress_of : List ℕ → WriterView → List View → Progress
progress_of words w seats = record {
  counter = slice_index words COUNTER;
  generation = newest_number w.published;
  leader = leader_in (slice_index words LEAD);
  members = members_shown w.members seats;
  delay_even = slice_index words DELAYS;
  delay_odd = slice_index words (DELAYS + 1);
  watchers = watchers_shown w.watchers (drop (length w.members) seats);
  needs = [];
  retired = w.pairs;
}

-- the words of slots and blocks, with 0 in the place of those that the progress machine's state shows
abbrev pub block_words : List ℕ → List ℕ
block_words words = opening_words SLOTS_START ++ drop SLOTS_START words

-- the state that words and views show
abbrev pub state_of : List ℕ → WriterView → List View → Table
state_of words w seats = record {
  progress = progress_of words w seats;
  words = block_words words;
  published = w.published;
  kept = w.kept;
}
