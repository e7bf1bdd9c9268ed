-- What the seats know, read from their views: the generations that each has learnt of, and the one that it holds.
-- Source: Erlang/OTP erts internal documentation, ThreadProgress and CodeLoading. Lists and numbers; no value of a
-- view is made.
use Rattle.std.specs.Prelude.{ℕ, ◌+◌, ◌-◌, ◌*◌, List, [], ◌∷◌, length, Option, Some, None, slice_get, unwrap_or}
use Rattle.area_core.specs.declared.table.Root.{Root}
use Rattle.area_core.specs.declared.table.Published.{Published}
use Rattle.area_core.specs.Readers.{held_by_member, held_by_watcher}
use Rattle.area_core.specs.Step.{opening_published}
use Rattle.shared_words.specs.declared.view.NoteNumber.{NoteNumber}
use Rattle.shared_words.specs.declared.view.BlockWord.{BlockWord}
use Rattle.shared_words.specs.declared.view.View.{View}
use Rattle.shared_words.specs.declared.view.View.TheVariants.{Writer, Member, Watcher, Note, Spent}

-- ---- generations

-- the number of the newest generation
abbrev pub newest_number : List Published → ℕ
newest_number published = length published - 1

-- what was published under this number; generation 0 where there is none
abbrev pub published_at : List Published → ℕ → Published
published_at published g = unwrap_or (slice_get published g) opening_published

-- the root word of a generation
abbrev pub root_word : Root → ℕ → ℕ
root_word root g = root.code + 4 * root.bp + 8 * root.term + 32 * g

-- the root word of the newest generation
abbrev pub newest_root : List Published → ℕ
newest_root published = root_word (published_at published (newest_number published)).root (newest_number published)

-- ---- a pass

-- the generations that a seat has learnt of, from 0 on
abbrev pub seen_generations : View → List Published
seen_generations (Writer w) = w.published
seen_generations (Member m) = m.seen
seen_generations (Watcher w) = w.seen
seen_generations (Note n) = n.seen
seen_generations Spent = []

-- the notes that a seat keeps numbers of
abbrev pub notes_of : View → List NoteNumber
notes_of (Writer w) = w.notes
notes_of (Member m) = m.notes
notes_of (Watcher w) = []
notes_of (Note n) = n.note ∷ []
notes_of Spent = []

-- the number of the generation that a seat holds, if it holds one; the writer always holds the newest
abbrev pub held_last : View → Option ℕ
held_last (Writer w) = Some (newest_number w.published)
held_last (Member m) = held_by_member m.member
held_last (Watcher w) = held_by_watcher w.watcher
held_last (Note n) = None
held_last Spent = None

-- the words of blocks that a seat keeps to have found
abbrev pub blocks_found : View → List BlockWord
blocks_found (Member m) = m.blocks
blocks_found (Watcher w) = w.blocks
blocks_found _ = []
