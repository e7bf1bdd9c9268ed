-- A load of a word of a block tells of blocks that stand for the generation that is held.
use Rattle.std.proofs.Common.{◌≡◌, ℕ, zero, suc, ◌<◌, ◌≤◌, inl, inr, Bool, true, false, cond, List, refl, sym, ap, subst, ◌∙◌, arith}
use mathlib.Core.Option.{none, some, some-injective}
use lib.ListN.{get_elem?}
use lib.Seq.{set-get_or}
use Rattle.std.specs.Prelude.{Some, None, Option, slice_get, slice_index, unwrap_or, IsTrue}
use Rattle.std.specs.Option.{option_and_then}
use Rattle.std.proofs.lemmas.Bool.Decides.{nat_tests}
use Rattle.atomic_table.specs.Table.{State, keeps, step, Allows}
use Rattle.prgr_core.specs.declared.watcher.Phase.{Phase}
use Rattle.prgr_core.specs.Watchers.{is_claimed}
use Rattle.area_core.specs.declared.map.TheConstants.{RETIRE_START, TABLE_WORDS}
use Rattle.area_core.specs.declared.map.WordKind.{WordKind}
use Rattle.area_core.specs.declared.map.WordKind.TheVariants.{Machine, Slot, Retire, Doom, InBlock, Nowhere}
use Rattle.area_core.specs.declared.event.SeatName.{SeatName}
use Rattle.area_core.specs.declared.event.SeatName.TheVariants as names
use Rattle.area_core.specs.declared.table.Published.{Published}
use Rattle.area_core.specs.Map.{kind_at, word_at}
use Rattle.area_core.specs.Blocks.{Among}
use Rattle.area_core.specs.Readers.{held_by, held_by_member, held_by_watcher, reads_word, is_read_under}
use Rattle.area_core.proofs.Fewer.{fewer_count}
use Rattle.area_core.proofs.Held.{held_readable}
use Rattle.area_core.proofs.UnreadStores.{seat_held}
use Rattle.area_core.proofs.BlockStores.{block_within}
use Rattle.area_core.proofs.Places.{kind_retire_place, kind_doom_place}
use Rattle.shared_words.specs.declared.opening.Opening.{Opening}
use Rattle.shared_words.specs.declared.view.BlockWord.{BlockWord}
use Rattle.shared_words.specs.declared.view.MemberView.{MemberView}
use Rattle.shared_words.specs.declared.view.WatcherView.{WatcherView}
use Rattle.shared_words.specs.declared.view.WriterView.{WriterView}
use Rattle.shared_words.specs.declared.view.View.{View}
use Rattle.shared_words.specs.declared.view.View.TheVariants.{Writer, Member, Watcher, Note, Spent}
use Rattle.shared_words.specs.Views.{newest_number}
use Rattle.shared_words.specs.Shown.{progress_of}
use Rattle.atomic_table.specs.Seated.{TableId}
use Rattle.shared_words.specs.Seats.{SeatPlace}
use Rattle.shared_words.specs.Kinds.{Sat}
use Rattle.shared_words.specs.Passes.{MayLoad}
use Rattle.shared_words.specs.Seats.{member_of, generation_held}
use Rattle.shared_words.specs.Views.{blocks_found}
use Rattle.shared_words.specs.Processes.{held_by_view, NamesArea}
use Rattle.shared_words.specs.Rule.{IsKeptIn, MayBeRead, blocks_shown, WordKept, RunningRule}
use Rattle.shared_words.specs.Publishing.{ReadsHeld, is_of_block, MayLoadWord, NamedStand, IsWordUnder, IsOwnWord, WordTells, with_block_word, with_watched_word, word_found, word_loaded}
use Rattle.shared_words.proofs.ShownMembers.{shown_at, still_at, there, set_same}
use Rattle.shared_words.proofs.ShownWords.{shown_word}
use Rattle.shared_words.proofs.SoundState.{counts}
use Rattle.shared_words.proofs.Frames.{after_step, same_rest, progress_set, member_step}
use Rattle.shared_words.proofs.NamedAreas.{held_at, named_area}
use Rattle.shared_words.proofs.WatcherFrames.{progress_watched, watcher_here, watcher_step}
use Rattle.shared_words.proofs.WriterFrames.{writer_at}
use Rattle.shared_words.proofs.CounterLoads.{same_step}

-- ---- where such a word stands

pub block_behind : (word block at : ℕ) → kind_at word ≡ InBlock block at → RETIRE_START ≤ word
block_behind word block at is = grind (arith, nat_tests)

word_behind : (word : ℕ) (kind : WordKind) (p : Published) → kind_at word ≡ kind → IsTrue (reads_word kind p) → (RETIRE_START ≤ word) × (word < TABLE_WORDS)
word_behind word (InBlock block at) p is reads = (block_behind word block at is, block_within word block at is)
word_behind word (Retire block) p is reads = (let at = kind_retire_place word block is in (omega (arith, at.0), omega (arith, at.0, at.1)))
word_behind word (Doom block) p is reads = (let at = kind_doom_place word block is in (omega (arith, at.0), omega (arith, at.0, at.1)))
word_behind word Machine p is reads = absurd (cc)
word_behind word Slot p is reads = absurd (cc)
word_behind word Nowhere p is reads = absurd (cc)

under_behind : (word : ℕ) (o : Option Published) → IsTrue (is_read_under (kind_at word) o) → (RETIRE_START ≤ word) × (word < TABLE_WORDS)
under_behind word None reads = absurd (cc)
under_behind word (Some p) reads = word_behind word (kind_at word) p refl reads

-- a word of a block of areas, or its retire or doom word
area_behind : (word block : ℕ) (kind : WordKind) → kind_at word ≡ kind → IsTrue (is_of_block kind block) → (RETIRE_START ≤ word) × (word < TABLE_WORDS)
area_behind word block (InBlock other at) is of = (block_behind word other at is, block_within word other at is)
area_behind word block (Retire other) is of = (let at = kind_retire_place word other is in (omega (arith, at.0), omega (arith, at.0, at.1)))
area_behind word block (Doom other) is of = (let at = kind_doom_place word other is in (omega (arith, at.0), omega (arith, at.0, at.1)))
area_behind word block Machine is of = absurd (cc)
area_behind word block Slot is of = absurd (cc)
area_behind word block Nowhere is of = absurd (cc)

held_behind : (word : ℕ) (published : List Published) (o : Option ℕ) → ReadsHeld word published o → (RETIRE_START ≤ word) × (word < TABLE_WORDS)
held_behind word published None reads = absurd reads
held_behind word published (Some g) reads = under_behind word (slice_get published g) reads

-- a word that may be loaded is one behind the slots
pub may_behind : (word : ℕ) (v : View) → MayLoadWord word v → (RETIRE_START ≤ word) × (word < TABLE_WORDS)
may_behind word (Writer w) may = held_behind word w.published (Some (newest_number w.published)) may
may_behind word (Member m) (inl reads) = held_behind word m.seen (held_by_member m.member) reads
may_behind word (Member m) (inr named) = area_behind word named.area.block (kind_at word) refl named.of
may_behind word (Watcher w) may = held_behind word w.seen (held_by_watcher w.watcher) may
may_behind word (Note n) may = absurd may
may_behind word Spent may = absurd may

-- a generation that reads a word is one that there is
reads_some : (kind : WordKind) (o : Option Published) → IsTrue (is_read_under kind o) → (p : Published) × (o ≡ Some p)
reads_some kind None reads = absurd (cc)
reads_some kind (Some p) reads = (p, refl)

-- a watcher that may read holds the generation in its record
holds_it : (phase : Phase) (o : Option ℕ) (g : ℕ) → cond (is_claimed phase) o None ≡ Some g → unwrap_or o 0 ≡ g
holds_it phase o g holds = by_claim (is_claimed phase) holds
  where
    by_claim : (b : Bool) → cond b o None ≡ Some g → unwrap_or o 0 ≡ g
    by_claim true is = ap (λ (x : Option ℕ). unwrap_or x 0) is
    by_claim false is = absurd (cc)

-- what was published under a number is one
one_only : (o : Option Published) (p q : Published) → o ≡ Some p → o ≡ Some q → p ≡ q
one_only o p q first second = (let is : Some p ≡ Some q = sym first ∙ second in cc)

-- ---- what is told

module _ {Served : Published → Type 0} {opening : Opening} (s : State (Unit {0}) View) (r : RunningRule Served opening s) (word : ℕ) (late : RETIRE_START ≤ word) where
  -- of a generation that a seat of the machine holds, with the words that the seat found
  told : (v : View) (seat : SeatName) (g : ℕ) (p : Published) → NamedStand v r.writer.kept → ((f : BlockWord) → Among (blocks_found (word_found word (slice_index s.words word) v)) f → WordKept r.writer f) → held_by (progress_of s.words r.writer r.seats) seat ≡ Some g → slice_get r.writer.published g ≡ Some p
      → IsWordUnder v g p word (slice_index s.words word)
  told v seat g p named kept holds at =
      let q = progress_of s.words r.writer r.seats in
      let counted = counts s r g (held_readable q r.machine.progress g (seat_held q seat g holds)) in
      record {
        blocks = blocks_shown s.words r.writer;
        stands = fewer_count (blocks_shown s.words r.writer) (MayBeRead r.writer) (λ h. h ≡ g) r.words.blocks (λ h same. subst (MayBeRead r.writer) (sym same) counted);
        published = at;
        here = shown_word s.words word (omega (arith, late));
        named = named;
        all = λ f among same reads steady.
            let behind = block_behind f.word steady.block steady.at steady.is in
            let its = kept f among in
            let is : its.published ≡ p = one_only (slice_get r.writer.published f.generation) its.published p its.at (ap (slice_get r.writer.published) same ∙ at) in
            shown_word s.words f.word (omega (arith, behind)) ∙ r.words.mirrored f.word behind
            ∙ its.stands (subst (λ (q : Published). IsTrue (reads_word (kind_at f.word) q)) (sym is) reads) (subst (MayBeRead r.writer) (sym same) counted) steady.block steady.at steady.is steady.plain;
      }

  -- what a member finds stands
  finds : (k : ℕ) (m : MemberView) → get_elem? r.seats k ≡ some (Member m) → (f : BlockWord) → Among (with_block_word word (slice_index s.words word) m).blocks f → WordKept r.writer f
  finds k m at f (zero, is) = subst (WordKept r.writer) (the_same f is) (record { published = held_by_view m; at = held_at s r k m at; stands = λ reads counted block place in_block plain. sym (r.words.mirrored word late) })
    where
      the_same : (f : BlockWord) → Some (record { generation = m.member.generation; word = word; value = slice_index s.words word }) ≡ Some f → record { generation = m.member.generation; word = word; value = slice_index s.words word } ≡ f
      the_same f is = cc
  finds k m at f (suc i, is) = (r.each_seat k (Member m) at).words f (i, is)

  -- what slots of the member name stands
  named_told : (k : ℕ) (m : MemberView) → get_elem? r.seats k ≡ some (Member m) → NamedStand (Member m) r.writer.kept
  named_told k m at n is a = subst (λ (x : MemberView). NamesArea x a.serial → Among (held_by_view x).areas a → IsKeptIn r.writer.kept (held_by_view x) a) (ap member_of is) (named_area s r k m at a)

  member_told : (k : ℕ) (m : MemberView) → get_elem? r.seats k ≡ some (Member m) → WordTells (Member m) word (slice_index s.words word)
  member_told k m at g p holds here =
      let knows = r.each_seat k (Member m) at in
      told (Member m) (names.Member k) g p (named_told k m at) (finds k m at)
      (ap (option_and_then held_by_member) (shown_at r.writer.members r.seats k m knows.made at) ∙ holds)
      (ap (λ (xs : List Published). slice_get xs g) knows.seen.1 ∙ still_at m.seen knows.seen.0 g p here)

  -- what a watcher holds was published, where it reads the word
  watcher_holds : (k : ℕ) (v : WatcherView) → get_elem? r.seats k ≡ some (Watcher v) → (o : Option ℕ) → held_by_watcher v.watcher ≡ o → ReadsHeld word v.seen o → (p : Published) × (slice_get r.writer.published (generation_held v) ≡ Some p)
  watcher_holds k v at None holds reads = absurd reads
  watcher_holds k v at (Some g) holds reads =
      let knows = r.each_seat k (Watcher v) at in
      let learnt = reads_some (kind_at word) (slice_get v.seen g) reads in
      let same : generation_held v ≡ g = holds_it v.watcher.phase v.watcher.generation g holds in
      (learnt.0, ap (slice_get r.writer.published) same ∙ ap (λ (xs : List Published). slice_get xs g) knows.seen.1 ∙ still_at v.seen knows.seen.0 g learnt.0 learnt.1)

  -- what a watcher finds stands
  watcher_finds : (k : ℕ) (v : WatcherView) → get_elem? r.seats k ≡ some (Watcher v) → ReadsHeld word v.seen (held_by_watcher v.watcher) → (f : BlockWord) → Among (with_watched_word word (slice_index s.words word) v).blocks f → WordKept r.writer f
  watcher_finds k v at may f (zero, is) =
      let held = watcher_holds k v at (held_by_watcher v.watcher) refl may in
      subst (WordKept r.writer) (the_same f is) (record { published = held.0; at = held.1; stands = λ reads counted block place in_block plain. sym (r.words.mirrored word late) })
    where
      the_same : (f : BlockWord) → Some (record { generation = generation_held v; word = word; value = slice_index s.words word }) ≡ Some f → record { generation = generation_held v; word = word; value = slice_index s.words word } ≡ f
      the_same f is = cc
  watcher_finds k v at may f (suc i, is) = (r.each_seat k (Watcher v) at).words f (i, is)

  watcher_told : (k : ℕ) (v : WatcherView) → get_elem? r.seats k ≡ some (Watcher v) → ReadsHeld word v.seen (held_by_watcher v.watcher) → WordTells (Watcher v) word (slice_index s.words word)
  watcher_told k v at may g p holds here =
      let knows = r.each_seat k (Watcher v) at in
      told (Watcher v) (names.Watcher v.watcher.number) g p (λ m same. absurd (cc)) (watcher_finds k v at may)
      (ap (option_and_then held_by_watcher) (watcher_here s r k v at) ∙ holds)
      (ap (λ (xs : List Published). slice_get xs g) knows.seen.1 ∙ still_at v.seen knows.seen.0 g p here)

  behind_told : (k : ℕ) (v : View) → get_elem? r.seats k ≡ some v → MayLoadWord word v → WordTells v word (slice_index s.words word)
  behind_told k (Writer w) at may = absurd (r.each_seat k (Writer w) at)
  behind_told k (Member m) at may = member_told k m at
  behind_told k (Watcher w) at may = watcher_told k w at may
  behind_told k (Note n) at may = absurd may
  behind_told k Spent at may = absurd may

  pub tells : (id : ℕ) (v : View) → get_elem? s.views id ≡ some v → MayLoadWord word v → WordTells v word (slice_index s.words word)
  tells zero v at may =
      let is : Writer r.writer ≡ v = some-injective (Writer r.writer) v (ap (λ (vs : List View). get_elem? vs 0) (sym r.views) ∙ at) in
      subst (λ (x : View). WordTells x word (slice_index s.words word)) is (λ g p holds here. told (Writer r.writer) names.Writer g p (λ m same. absurd (cc)) (λ f among. absurd (cc)) holds here)
  tells (suc k) v at may = behind_told k v (ap (λ (vs : List View). get_elem? vs (suc k)) (sym r.views) ∙ at) may

  -- the words behind the slots are those that the writer has stored
  pub own_word : (id : ℕ) (v : View) → get_elem? s.views id ≡ some v → IsOwnWord v word (slice_index s.words word)
  own_word id v at w is = subst (λ (x : WriterView). slice_index s.words word ≡ word_at x.words word) (writer_at s r id w (at ∙ ap some is)).1 (r.words.mirrored word late)

  -- ---- the rule

  -- a load by a member, which keeps what it found
  member_loads : (k : ℕ) (m : MemberView) → get_elem? r.seats k ≡ some (Member m) → RunningRule Served opening (after_step s s.words (suc k) (Member (with_block_word word (slice_index s.words word) m)))
  member_loads k m at =
      let knows = r.each_seat k (Member m) at in
      let p = progress_of s.words r.writer r.seats in
      let shown = shown_at r.writer.members r.seats k m knows.made at in
      let m' = with_block_word word (slice_index s.words word) m in
      member_step s r s.words k m m' at (record {
        rest = same_rest s.words;
        knows = record { numbered = knows.numbered; made = knows.made; seen = knows.seen; holds = knows.holds; noted = knows.noted; own_slots = knows.own_slots; words = finds k m at };
        moves = inr (progress_set s.words r.writer r.seats k m' knows.made (there r.seats k (Member m) at) ∙ (λ i. record p { members = set_same p.members k m.member shown i }));
        own = r.machine.own_words k m.member shown;
        others = λ j other. refl;
        leader = r.machine.leader_made;
        slots = record { slots = refl; known = λ process h. h };
      })

  -- so does a watcher
  watcher_loads : (k : ℕ) (v : WatcherView) → get_elem? r.seats k ≡ some (Watcher v) → ReadsHeld word v.seen (held_by_watcher v.watcher) → RunningRule Served opening (after_step s s.words (suc k) (Watcher (with_watched_word word (slice_index s.words word) v)))
  watcher_loads k v at may =
      let knows = r.each_seat k (Watcher v) at in
      let p = progress_of s.words r.writer r.seats in
      let v' = with_watched_word word (slice_index s.words word) v in
      watcher_step s r s.words k v' (record {
        rest = same_rest s.words;
        knows = record { numbered = knows.numbered; made = knows.made; seen = knows.seen; words = watcher_finds k v at may };
        moves = inr (progress_watched s.words r.writer r.seats k v.watcher.number v' knows.numbered knows.made (there r.seats k (Watcher v) at) ∙ (λ i. record p { watchers = set_same p.watchers v.watcher.number v.watcher (watcher_here s r k v at) i }));
        members = λ j. refl;
        leader = refl;
      })

  behind_loads : (k : ℕ) (v : View) → get_elem? r.seats k ≡ some v → MayLoadWord word v → RunningRule Served opening (after_step s s.words (suc k) (word_found word (slice_index s.words word) v))
  behind_loads k (Writer w) at may = absurd (r.each_seat k (Writer w) at)
  behind_loads k (Member m) at may = member_loads k m at
  behind_loads k (Watcher w) at may = watcher_loads k w at may
  behind_loads k (Note n) at may = absurd may
  behind_loads k Spent at may = absurd may

  pub word_loads : (id : ℕ) (v : View) → get_elem? s.views id ≡ some v → MayLoadWord word v → RunningRule Served opening (after_step s s.words id (word_found word (slice_index s.words word) v))
  word_loads zero v at may =
      let is : Writer r.writer ≡ v = some-injective (Writer r.writer) v (ap (λ (vs : List View). get_elem? vs 0) (sym r.views) ∙ at) in
      subst (λ (x : View). RunningRule Served opening (after_step s s.words 0 (word_found word (slice_index s.words word) x))) is (same_step s r 0 (Writer r.writer) (at ∙ ap some (sym is)))
  word_loads (suc k) v at may = behind_loads k v (ap (λ (vs : List View). get_elem? vs (suc k)) (sym r.views) ∙ at) may

-- a word that the generation reads which a seat holds may be loaded
pub load_word_is_allowed : (Served : Published → Type 0) (opening : Opening) (slots id word : ℕ) (me : Sat) → MayLoadWord word me.0 → Allows (RunningRule Served opening) slots id me word (λ n. n) (word_loaded (step slots word 0 0 none) me)
load_word_is_allowed Served opening slots id word me may s r wide at fits =
    let late = (may_behind word me.0 may).0 in (
      word_found word (slice_index s.words word) me.0,
      keeps,
      tt,
      subst (λ (ws : List ℕ). RunningRule Served opening (after_step s ws id (word_found word (slice_index s.words word) me.0))) (sym (set-get_or s.words word 0)) (word_loads s r word late id me.0 at may),
      record { view = refl; own = own_word s r word late id me.0 at; tells = tells s r word late id me.0 at may },
    )

-- the same as what a load by any token asks
pub load_word_may : (Served : Published → Type 0) (opening : Opening) (table : TableId) (seat : SeatPlace) (word : ℕ) → seat.table_id ≡ table → table.words ≡ TABLE_WORDS → MayLoadWord word seat.me.0 → MayLoad Served opening table word_loaded seat word
load_word_may Served opening table seat word same size may = record {
  same_table = same;
  there = omega (arith, size, (may_behind word seat.me.0 may).1);
  allowed = load_word_is_allowed Served opening table.slots seat.id word seat.me may;
}
