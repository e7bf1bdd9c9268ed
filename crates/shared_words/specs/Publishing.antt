-- The writer's stores, of a word of a block and of the root, by which it publishes; and what a word of a block tells
-- whoever holds a generation. What a store asks is said of what the writer knows: of the words as it has stored them,
-- and of the generations that it does not know to have passed.
-- Source: Erlang/OTP erts internal documentation, CodeLoading and Tracing; the words are this project's own.
use Rattle.std.specs.Prelude.{◌≡◌, ◌≢◌, ◌⊎◌, ℕ, ◌<◌, ◌==◌, Bool, true, false, not, ◌&&◌, List, [], ◌∷◌, ◌++◌, length, slice_get, slice_set, Option, Some, None, IsTrue}
use Rattle.std.specs.List.{filter}
use Rattle.atomic_table.specs.Table.{Step}
use Rattle.term_core.specs.declared.area.AreaRef.{AreaRef}
use Rattle.term_core.specs.declared.area.CodeRef.{CodeRef}
use Rattle.area_core.specs.declared.map.TheConstants.{FUNCTIONS}
use Rattle.area_core.specs.declared.map.WordKind.{WordKind}
use Rattle.area_core.specs.declared.map.WordKind.TheVariants.{Machine, Slot, Retire, Doom, InBlock, Nowhere}
use Rattle.area_core.specs.declared.table.Root.{Root}
use Rattle.area_core.specs.declared.table.Published.{Published}
use Rattle.area_core.specs.declared.table.KeptArea.{KeptArea}
use Rattle.area_core.specs.Map.{word_at, image_entry_at, kind_at}
use Rattle.area_core.specs.Generations.{is_used, is_retired_area, is_doomed_area, is_traced_function, has_function, is_entry_word, tells}
use Rattle.area_core.specs.Stores.{is_released_at}
use Rattle.area_core.specs.Blocks.{Blocks, BlockInvariant, EachCounted, Among, RootFits, InstancesPlaced, CodeStands, BreakpointsStand, term_blocks_words, UsedAreKept, FitsBlock, ImageStands, AreaStands, KeptApart}
use Rattle.area_core.specs.Terms.{TermsStand}
use Rattle.area_core.specs.Readers.{reads_in_block, held_by_member, held_by_watcher, reads_word, is_read_under}
use Rattle.area_core.specs.Roots.{fresh_areas}
use Rattle.marks.specs.declared.kept.LookKind.TheVariants.{Both}
use Rattle.shared_words.specs.declared.view.BlockWord.{BlockWord}
use Rattle.shared_words.specs.declared.view.MemberView.{MemberView}
use Rattle.shared_words.specs.declared.view.WatcherView.{WatcherView}
use Rattle.shared_words.specs.declared.view.WriterView.{WriterView}
use Rattle.shared_words.specs.declared.view.View.{View}
use Rattle.shared_words.specs.declared.view.View.TheVariants.{Writer, Member, Watcher, Note, Spent}
use Rattle.shared_words.specs.Views.{newest_number, seen_generations, held_last, blocks_found}
use Rattle.shared_words.specs.Seats.{writer_of, generation_held}
use Rattle.shared_words.specs.Processes.{held_by_view, NamesArea}
use Rattle.shared_words.specs.Rule.{MayBeRead, OldStays, RetiredStays, HasArea, IsKeptIn, AreAreasApart, IsPlain}
use Rattle.shared_words.specs.Kinds.{Sat}
use Rattle.shared_words.specs.Slots.{IsClear}

-- the blocks as the writer knows them
abbrev pub blocks_known : WriterView → Blocks
blocks_known w = record { word = word_at w.words; published = w.published; kept = w.kept }

-- something holds of each generation that the writer does not know to have passed
abbrev pub EachMayBeRead : WriterView → (ℕ → Published → Type 0) → Type 0
EachMayBeRead w Holds = EachCounted (blocks_known w) (MayBeRead w) Holds

-- ---- the store of a word of a block

-- a word of a block: no generation that may be read reads it, and no area is kept in the block, but for entry words
pub record FitsInBlock (w : WriterView) (block at value : ℕ) : Type 0 where
  pub unread : EachMayBeRead w (λ g p. reads_in_block p block at ≡ false)
  pub unkept : (k : KeptArea) → Among w.kept k → k.area.block ≡ block → IsTrue (is_entry_word k at)
  -- an entry word is 0 only where no generation that may be read traces the function
  pub entries : (k : KeptArea) (function : ℕ) → Among w.kept k → k.area.block ≡ block → IsTrue (has_function k function) → at ≡ image_entry_at function → value ≡ 0 → EachMayBeRead w (λ g p. is_traced_function p k.area.serial function ≡ false)

-- the store of this value into its retire word releases an area: 0, where the newest generation has retired it
abbrev pub is_released : WriterView → ℕ → KeptArea → Bool
is_released w value k = is_released_at (slice_get w.published (newest_number w.published)) value k

-- the retire word of a block tells of each area that is kept in it whether it is retired; an area that is released is used
-- by no generation that may be read, and a look in both kinds was clear of it
pub record FitsRetire (w : WriterView) (block value : ℕ) : Type 0 where
  pub tells_of : EachMayBeRead w (λ g p. (k : KeptArea) → Among w.kept k → k.area.block ≡ block → is_released w value k ≡ false → tells value g ≡ is_retired_area p k.area.serial)
  pub unused : EachMayBeRead w (λ g p. (k : KeptArea) → Among w.kept k → k.area.block ≡ block → is_released w value k ≡ true → is_used p k.area.serial ≡ false)
  pub cleared : (k : KeptArea) → Among w.kept k → k.area.block ≡ block → is_released w value k ≡ true → IsClear w Both k.area.serial

-- the doom word of a block tells of each area that is kept in it, and not retired, whether it is doomed
abbrev pub FitsDoom : WriterView → ℕ → ℕ → Type 0
FitsDoom w block value = EachMayBeRead w (λ g p. (k : KeptArea) → Among w.kept k → k.area.block ≡ block → is_retired_area p k.area.serial ≡ false → tells value g ≡ is_doomed_area p k.area.serial)

-- a word of this kind may become this value
abbrev pub FitsWord : WriterView → ℕ → WordKind → Type 0
FitsWord w value (InBlock block at) = FitsInBlock w block at value
FitsWord w value (Retire block) = FitsRetire w block value
FitsWord w value (Doom block) = FitsDoom w block value
FitsWord w value Machine = ⊥
FitsWord w value Slot = ⊥
FitsWord w value Nowhere = ⊥

-- the writer may store this value into this word
abbrev pub MayStoreWord : WriterView → ℕ → ℕ → Type 0
MayStoreWord w word value = FitsWord w value (kind_at word)

-- the areas that are kept after a store of this value into a word of this kind
abbrev pub kept_left : WriterView → ℕ → WordKind → List KeptArea
kept_left w value (Retire block) = filter (λ k. not ((k.area.block == block) && is_released w value k)) w.kept
kept_left w value _ = w.kept

-- it has stored it
abbrev pub with_word : ℕ → ℕ → WriterView → WriterView
with_word word value w = record w { words = slice_set w.words word value; kept = kept_left w value (kind_at word) }

-- what the store of a word leaves of the writer's view
abbrev pub word_stored : Step (Unit {0}) → Sat → ℕ → Sat → Type 0
word_stored st me stored me' = me' ≡ (Writer (with_word st.word stored (writer_of me.0)), me.1)

-- ---- the store of an entry word

-- the entry word of a function of a kept area may become this: 0 only where no generation that may be read traces the function
pub record MayStoreEntry (w : WriterView) (at : CodeRef) (on : Bool) : Type 0 where
  pub area : KeptArea
  pub kept : Among w.kept area
  pub of : area.area ≡ at.area
  pub has : IsTrue (has_function area at.function)
  pub few : at.function < FUNCTIONS
  pub untraced : on ≡ false → EachMayBeRead w (λ g p. is_traced_function p at.area.serial at.function ≡ false)

-- ---- the store of the root

-- the areas that are kept once this is published
abbrev pub kept_next : WriterView → Published → List KeptArea
kept_next w p = w.kept ++ fresh_areas w.kept p

-- the words and areas stand for what is published next
pub record StandsFor (w : WriterView) (p : Published) : Type 0 where
  pub root : RootFits p.root
  pub placed : InstancesPlaced p
  pub code : CodeStands (word_at w.words) p
  pub breakpoints : BreakpointsStand (word_at w.words) p
  pub terms : TermsStand (term_blocks_words (word_at w.words) p.root) p
  pub used : UsedAreKept (kept_next w p) p
  pub areas : (k : KeptArea) → Among (kept_next w p) k → AreaStands (word_at w.words) k (length w.published) p

-- the areas that it is the first to use have room, their images, and words that are right in earlier generations too
pub record FreshStand (w : WriterView) (p : Published) : Type 0 where
  pub fit : (k : KeptArea) → Among (fresh_areas w.kept p) k → FitsBlock k
  pub images : (k : KeptArea) → Among (fresh_areas w.kept p) k → ImageStands (word_at w.words) k
  pub areas : EachMayBeRead w (λ g q. (k : KeptArea) → Among (fresh_areas w.kept p) k → AreaStands (word_at w.words) k g q)
  pub apart : KeptApart (kept_next w p)

-- each area that is kept then stands in it, in its block and with its image, and no serial was that of another area
pub record AreasGoOn (w : WriterView) (p : Published) : Type 0 where
  pub apart : AreAreasApart p
  pub kept : (k : KeptArea) → Among (kept_next w p) k → HasArea p k
  pub new : (k : KeptArea) (q : Published) (a : AreaRef) → Among (fresh_areas w.kept p) k → Among w.published q → Among q.areas a → a.serial ≢ k.area.serial

-- the writer may publish this next
pub record MayPublish (Served : Published → Type 0) (w : WriterView) (p : Published) : Type 0 where
  pub served : Served p
  pub old_stays : OldStays (w.published ++ p ∷ [])
  pub retired_stays : RetiredStays (w.published ++ p ∷ [])
  pub areas_go_on : AreasGoOn w p
  pub stands : StandsFor w p
  pub fresh : FreshStand w p

-- the root names these blocks
pub record IsRootOf (root : Root) (code bp term : ℕ) : Type 0 where
  pub code_is : root.code ≡ code
  pub bp_is : root.bp ≡ bp
  pub term_is : root.term ≡ term

-- it has published it
abbrev pub with_next : Published → WriterView → WriterView
with_next p w = record w { published = w.published ++ p ∷ []; kept = kept_next w p }

-- what the store of the root leaves of the writer's view
abbrev pub root_stored : Published → Step (Unit {0}) → Sat → ℕ → Sat → Type 0
root_stored p st me stored me' = me' ≡ (Writer (with_next p (writer_of me.0)), me.1)

-- ---- the load of a word of a block

-- a generation that is held, if one is, reads the word
abbrev pub ReadsHeld : ℕ → List Published → Option ℕ → Type 0
ReadsHeld word published None = ⊥
ReadsHeld word published (Some g) = IsTrue (is_read_under (kind_at word) (slice_get published g))

-- the word is one of the block, or its retire or doom word
abbrev pub is_of_block : WordKind → ℕ → Bool
is_of_block (Retire other) block = other == block
is_of_block (Doom other) block = other == block
is_of_block (InBlock other at) block = other == block
is_of_block Machine block = false
is_of_block Slot block = false
is_of_block Nowhere block = false

-- the word is one of an area that a slot of the member names, and that stands in the generation which it holds
pub record ReadsNamed (word : ℕ) (m : MemberView) : Type 0 where
  pub area : AreaRef
  pub named : NamesArea m area.serial
  pub listed : Among (held_by_view m).areas area
  pub of : IsTrue (is_of_block (kind_at word) area.block)

-- who may load the word: the writer, a member and a watcher where the generation that it holds reads it, and a member where
-- one of its slots names the area
abbrev pub MayLoadWord : ℕ → View → Type 0
MayLoadWord word (Writer w) = ReadsHeld word w.published (Some (newest_number w.published))
MayLoadWord word (Member m) = ReadsHeld word m.seen (held_by_member m.member) ⊎ ReadsNamed word m
MayLoadWord word (Watcher w) = ReadsHeld word w.seen (held_by_watcher w.watcher)
MayLoadWord word (Note n) = ⊥
MayLoadWord word Spent = ⊥

-- each area that a slot of the member names, and that stands in the generation which it holds, is kept there
abbrev pub NamedStand : View → List KeptArea → Type 0
NamedStand v kept = (m : MemberView) → v ≡ Member m → (a : AreaRef) → NamesArea m a.serial → Among (held_by_view m).areas a → IsKeptIn kept (held_by_view m) a

-- no store changes the word while a generation reads it: it is one of a block, and no entry word of an area
pub record IsSteady (b : Blocks) (word : ℕ) : Type 0 where
  pub block : ℕ
  pub at : ℕ
  pub is : kind_at word ≡ InBlock block at
  pub plain : IsPlain b.kept block at

-- the member has found this word under the generation that it holds
abbrev pub with_block_word : ℕ → ℕ → MemberView → MemberView
with_block_word word found m = record m { blocks = record { generation = m.member.generation; word = word; value = found } ∷ m.blocks }

-- the same of a watcher
abbrev pub with_watched_word : ℕ → ℕ → WatcherView → WatcherView
with_watched_word word found v = record v { blocks = record { generation = generation_held v; word = word; value = found } ∷ v.blocks }

-- what a seat knows once it has found this word
abbrev pub word_found : ℕ → ℕ → View → View
word_found word found (Member m) = Member (with_block_word word found m)
word_found word found (Watcher w) = Watcher (with_watched_word word found w)
word_found word found v = v

-- the word is one of blocks that stand for this generation, in which the areas stand that slots name, and so is each word of
-- these that was found under it
pub record IsWordUnder (v : View) (g : ℕ) (p : Published) (word found : ℕ) : Type 0 where
  pub blocks : Blocks
  pub stands : BlockInvariant blocks (λ h. h ≡ g)
  pub published : slice_get blocks.published g ≡ Some p
  pub here : blocks.word word ≡ found
  pub named : NamedStand v blocks.kept
  pub all : (f : BlockWord) → Among (blocks_found (word_found word found v)) f → f.generation ≡ g → IsTrue (reads_word (kind_at f.word) p) → IsSteady blocks f.word → blocks.word f.word ≡ f.value

-- what the load of a word tells: it is a word under the generation that is held
abbrev pub WordTells : View → ℕ → ℕ → Type 0
WordTells v word found = (g : ℕ) (p : Published) → held_last v ≡ Some g → slice_get (seen_generations v) g ≡ Some p → IsWordUnder v g p word found

-- what the writer loads is what it has stored
abbrev pub IsOwnWord : View → ℕ → ℕ → Type 0
IsOwnWord v word found = (w : WriterView) → v ≡ Writer w → found ≡ word_at w.words word

-- what the load of a word tells and leaves: a member or a watcher keeps what it found
pub record word_loaded (st : Step (Unit {0})) (me : Sat) (found : ℕ) (me' : Sat) : Type 0 where
  pub view : me' ≡ (word_found st.word found me.0, me.1)
  pub own : IsOwnWord me.0 st.word found
  pub tells : WordTells me.0 st.word found
