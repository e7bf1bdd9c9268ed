-- A store into a word of a block, or a retire or doom word, keeps the block invariant for the generations that count,
-- and so the rule.
use Rattle.std.proofs.Common.{◌≡◌, ℕ, ◌+◌, ◌<◌, ◌≤◌, ◌⊎◌, true, false, not, ◌&&◌, List, length, length-set, set, get_or-set_other, get_or-set_same, refl, sym, ap, subst, ◌∙◌, arith}
use mathlib.Core.Option.{none, some}
use mathlib.Core.Logic.{dite}
use native.Mathlib.Decide.{ℕ_discrete}
use Rattle.std.specs.Prelude.{◌==◌, Some, slice_get, slice_set, slice_index, IsTrue}
use Rattle.std.proofs.lemmas.Bool.{eq-eqb, eqb-true, true≢false}
use Rattle.std.proofs.lemmas.Bool.Decides.{nat_tests}
use Rattle.atomic_table.specs.Table.{State, keeps, step, Allows}
use Rattle.prgr_core.specs.Step.{IsSound}
use Rattle.term_core.specs.declared.area.AreaRef.{AreaRef}
use Rattle.area_core.specs.declared.map.TheConstants.{TABLE_WORDS, SLOTS_START, RETIRE_START, BIG_WORDS, BREAKPOINTS_START, TERMS_START, EXPORT_ENTRIES, FUNCTIONS}
use Rattle.area_core.specs.declared.map.WordKind.{WordKind}
use Rattle.area_core.specs.declared.map.WordKind.TheVariants.{Machine, Slot, Retire, Doom, InBlock, Nowhere}
use Rattle.area_core.specs.declared.table.Published.{Published}
use Rattle.area_core.specs.declared.table.KeptArea.{KeptArea}
use Rattle.area_core.specs.Map.{word_at, kind_at, block_place, retire_place, doom_place, breakpoint_at, image_entry_at, slot_place}
use Rattle.area_core.specs.Generations.{is_instance, is_retired_area, is_doomed_area, is_traced_function, has_function, is_entry_word, tells, anchor_names_area}
use Rattle.area_core.specs.Blocks.{Blocks, BlockInvariant, Among, RootFits, IsForInstances, IsAnchor}
use Rattle.area_core.specs.Readers.{reads_in_block}
use Rattle.area_core.proofs.Places.{kind_place, kind_retire_place, kind_doom_place, word_here, word_there}
use Rattle.area_core.proofs.Tests.{filter_gives}
use Rattle.area_core.proofs.Frames.{code_after, breakpoints_after, terms_after, entries_after, retired_after, doomed_after, images_after, named_after, apart_after}
use Rattle.area_core.proofs.BlockStores.{stored_off, block_within, same_block}
use Rattle.shared_words.specs.declared.table.TheConstants.{ROOT, COUNTER, LEAD, DELAYS, CONFIRMED}
use Rattle.shared_words.specs.declared.opening.Opening.{Opening}
use Rattle.shared_words.specs.declared.view.BlockWord.{BlockWord}
use Rattle.shared_words.specs.declared.view.WriterView.{WriterView}
use Rattle.shared_words.specs.declared.view.View.{View}
use Rattle.shared_words.specs.declared.view.View.TheVariants.{Writer}
use Rattle.shared_words.specs.Shown.{members_shown, block_words, progress_of}
use Rattle.shared_words.specs.Seats.{writer_of}
use Rattle.shared_words.specs.Kinds.{Sat}
use Rattle.shared_words.specs.Rule.{AreasStay, MayBeRead, WordKept, MachineHolds, RunningRule}
use Rattle.shared_words.specs.Publishing.{FitsInBlock, FitsRetire, FitsDoom, FitsWord, MayStoreWord, is_released, kept_left, with_word, word_stored}
use Rattle.shared_words.proofs.ShownMembers.{within_get}
use Rattle.shared_words.proofs.BlockReads.{reads_code, reads_breakpoint, reads_term, has_instance_at}
use Rattle.shared_words.proofs.KeptWords.{kept_stored}
use Rattle.marks.specs.declared.kept.LookKind.TheVariants.{Both}
use Rattle.shared_words.specs.Slots.{IsClear}
use Rattle.shared_words.proofs.ShownWords.{shown_stored, shown_word, shown_words}
use Rattle.shared_words.proofs.SlotFrames.{ended_as}
use Rattle.shared_words.proofs.ClearLooks.{clear_word, names_neither}
use Rattle.shared_words.proofs.Frames.{after_step, progress_words}
use Rattle.shared_words.proofs.AreaReleases.{unless, not_both, released}
use Rattle.shared_words.proofs.WriterFrames.{writer_step, writer_at}

-- ---- one word is stored

-- what is owed of a word of this kind that becomes this value, for each generation that counts
pub record Owes (published : List Published) (kept : List KeptArea) (Counts : ℕ → Type 0) (kind : WordKind) (value : ℕ) : Type 0 where
  pub slot : kind ≡ Slot → ⊥
  pub code : (g : ℕ) (p : Published) → Counts g → slice_get published g ≡ Some p → RootFits p.root → (entry : ℕ) → entry < EXPORT_ENTRIES → kind ≡ InBlock p.root.code entry → ⊥
  pub breakpoints : (g : ℕ) (p : Published) → Counts g → slice_get published g ≡ Some p → RootFits p.root → (a : AreaRef) → Among p.areas a → IsTrue (is_instance p a.serial) → IsForInstances a.block → (function : ℕ) → function < FUNCTIONS → kind ≡ InBlock (BREAKPOINTS_START + p.root.bp) (breakpoint_at a.block function) → ⊥
  pub terms : (g : ℕ) (p : Published) → Counts g → slice_get published g ≡ Some p → RootFits p.root → (place : ℕ) → place < BIG_WORDS → kind ≡ InBlock (TERMS_START + p.root.term) place → ⊥
  pub entries : (g : ℕ) (p : Published) → Counts g → slice_get published g ≡ Some p → (k : KeptArea) → Among kept k → (function : ℕ) → IsTrue (has_function k function) → kind ≡ InBlock k.area.block (image_entry_at function) → value ≡ 0 → is_traced_function p k.area.serial function ≡ false
  pub retired : (g : ℕ) (p : Published) → Counts g → slice_get published g ≡ Some p → (k : KeptArea) → Among kept k → kind ≡ Retire k.area.block → tells value g ≡ is_retired_area p k.area.serial
  pub doomed : (g : ℕ) (p : Published) → Counts g → slice_get published g ≡ Some p → (k : KeptArea) → Among kept k → kind ≡ Doom k.area.block → is_retired_area p k.area.serial ≡ false → tells value g ≡ is_doomed_area p k.area.serial
  pub images : (k : KeptArea) → Among kept k → (place old : ℕ) → slice_get k.words place ≡ Some old → is_entry_word k place ≡ false → kind ≡ InBlock k.area.block place → value ≡ old

module _ (words : List ℕ) (published : List Published) (kept : List KeptArea) (Counts : ℕ → Type 0) (all : length words ≡ TABLE_WORDS) (word value : ℕ) (within : word < TABLE_WORDS) where
  abbrev b : Blocks
  b = record { word = word_at words; published = published; kept = kept }

  abbrev new : ℕ → ℕ
  new = word_at (slice_set words word value)

  -- what is stored stands at its place
  at_place : (place : ℕ) → word ≡ place → new place ≡ value
  at_place place same = ap new (sym same) ∙ word_here words word value (subst (λ (n : ℕ). word < n) (sym all) within)

  stored : (kind : WordKind) → kind_at word ≡ kind → BlockInvariant b Counts → Owes published kept Counts kind value → BlockInvariant (record { word = new; published = published; kept = kept }) Counts
  stored kind is sound owes =
      let off : (x : ℕ) → (kind_at x ≡ kind) ⊎ (new x ≡ word_at words x) = stored_off words word value kind is in record {
        roots_fit = sound.roots_fit;
        instances_placed = sound.instances_placed;
        code_stands = code_after b Counts new kind off sound owes.code;
        breakpoints_stand = breakpoints_after b Counts new kind off sound owes.breakpoints;
        terms_stand = terms_after b Counts new kind off sound owes.terms;
        used_kept = sound.used_kept;
        areas_stand = λ g p counts here k among. record {
          entries = entries_after b Counts new kind off sound g p counts here k among (λ function has same none. owes.entries g p counts here k among function has same (sym (at_place (block_place k.area.block (image_entry_at function)) (kind_place word k.area.block (image_entry_at function) (is ∙ same)).0) ∙ none));
          retired = retired_after b Counts new kind off sound g p counts here k among (λ same. ap (λ (x : ℕ). tells x g) (at_place (retire_place k.area.block) (kind_retire_place word k.area.block (is ∙ same)).0) ∙ owes.retired g p counts here k among same);
          doomed = doomed_after b Counts new kind off sound g p counts here k among (λ same big unretired. ap (λ (x : ℕ). tells x g) (at_place (doom_place k.area.block) (kind_doom_place word k.area.block (is ∙ same)).0) ∙ owes.doomed g p counts here k among same unretired);
        };
        images_stand = λ k among. images_after b Counts new kind off sound k among (λ place old has plain same. at_place (block_place k.area.block place) (kind_place word k.area.block place (is ∙ same)).0 ∙ owes.images k among place old has plain same);
        kept_fit = sound.kept_fit;
        kept_apart = sound.kept_apart;
        named_kept = named_after b Counts new kind off sound owes.slot;
        anchors_apart = apart_after b Counts new kind off sound owes.slot;
      }

-- ---- by what the writer knows

-- what a word of a block owes
owes_block : (w : WriterView) (block at value : ℕ) → FitsInBlock w block at value → Owes w.published w.kept (MayBeRead w) (InBlock block at) value
owes_block w block at value fits = record {
  slot = λ same. absurd (cc);
  code = λ g p counts here root entry within same.
      let parts = same_block block at p.root.code entry same in
      let code = root.code in
      read g p counts here (reads_code p block at parts.0 (omega (arith, parts.0, code)));
  breakpoints = λ g p counts here root a among instance placed function few same.
      let parts = same_block block at (BREAKPOINTS_START + p.root.bp) (breakpoint_at a.block function) same in
      let bp = root.bp in
      read g p counts here (reads_breakpoint p block at parts.0 (omega (arith, parts.0, bp)) (has_instance_at p a function at among instance placed.first few parts.1));
  terms = λ g p counts here root place within same.
      let parts = same_block block at (TERMS_START + p.root.term) place same in
      let term = root.term in
      read g p counts here (reads_term p block at parts.0 (omega (arith, parts.0, term)));
  entries = λ g p counts here k among function has same none.
      let parts = same_block block at k.area.block (image_entry_at function) same in
      fits.entries k function among (sym parts.0) has parts.1 none g p counts here;
  retired = λ g p counts here k among same. absurd (cc);
  doomed = λ g p counts here k among same unretired. absurd (cc);
  images = λ k among place old has plain same.
      let parts = same_block block at k.area.block place same in
      absurd (true≢false (sym (fits.unkept k among (sym parts.0)) ∙ ap (is_entry_word k) parts.1 ∙ plain));
}
  where
    read : (g : ℕ) (p : Published) → MayBeRead w g → slice_get w.published g ≡ Some p → reads_in_block p block at ≡ true → ⊥
    read g p counts here reads = true≢false (sym reads ∙ fits.unread g p counts here)

-- what a retire word owes
owes_retire : (w : WriterView) (block value : ℕ) → FitsRetire w block value → Owes w.published (kept_left w value (Retire block)) (MayBeRead w) (Retire block) value
owes_retire w block value fits = record {
  slot = λ same. absurd (cc);
  code = λ g p counts here root entry within same. absurd (cc);
  breakpoints = λ g p counts here root a among instance placed function few same. absurd (cc);
  terms = λ g p counts here root place within same. absurd (cc);
  entries = λ g p counts here k among function has same none. absurd (cc);
  retired = λ g p counts here k among same.
      let was = filter_gives (λ (x : KeptArea). not ((x.area.block == block) && is_released w value x)) w.kept among.0 k among.1 in
      fits.tells_of g p counts here k was.0 (retire_block same) (not_both (k.area.block == block) (is_released w value k) was.1 (eq-eqb k.area.block block (retire_block same)));
  doomed = λ g p counts here k among same unretired. absurd (cc);
  images = λ k among place old has plain same. absurd (cc);
}
  where
    retire_block : {one other : ℕ} → Retire one ≡ Retire other → other ≡ one
    retire_block same = cc

-- what a doom word owes
owes_doom : (w : WriterView) (block value : ℕ) → FitsDoom w block value → Owes w.published w.kept (MayBeRead w) (Doom block) value
owes_doom w block value fits = record {
  slot = λ same. absurd (cc);
  code = λ g p counts here root entry within same. absurd (cc);
  breakpoints = λ g p counts here root a among instance placed function few same. absurd (cc);
  terms = λ g p counts here root place within same. absurd (cc);
  entries = λ g p counts here k among function has same none. absurd (cc);
  retired = λ g p counts here k among same. absurd (cc);
  doomed = λ g p counts here k among same unretired. fits g p counts here k among (doom_block same) unretired;
  images = λ k among place old has plain same. absurd (cc);
}
  where
    doom_block : {one other : ℕ} → Doom one ≡ Doom other → other ≡ one
    doom_block same = cc

owes_by : (w : WriterView) (value : ℕ) (kind : WordKind) → FitsWord w value kind → Owes w.published (kept_left w value kind) (MayBeRead w) kind value
owes_by w value (InBlock block at) fits = owes_block w block at value fits
owes_by w value (Retire block) fits = owes_retire w block value fits
owes_by w value (Doom block) fits = owes_doom w block value fits
owes_by w value Machine fits = absurd fits
owes_by w value Slot fits = absurd fits
owes_by w value Nowhere fits = absurd fits

-- what is kept then meets the invariant before the store
left_sound : (w : WriterView) (words : List ℕ) (value : ℕ) (kind : WordKind) → ((serial process anchor : ℕ) → IsClear w Both serial → IsAnchor process anchor → anchor_names_area (word_at words (slot_place process anchor)) serial ≡ false) → FitsWord w value kind → BlockInvariant (record { word = word_at words; published = w.published; kept = w.kept }) (MayBeRead w) → BlockInvariant (record { word = word_at words; published = w.published; kept = kept_left w value kind }) (MayBeRead w)
left_sound w words value (Retire block) clear fits sound =
    released (record { word = word_at words; published = w.published; kept = w.kept }) (MayBeRead w) sound (λ (x : KeptArea). not ((x.area.block == block) && is_released w value x))
    (λ g p counts here k among uses. unless (k.area.block == block) (is_released w value k) (λ same goes. true≢false (sym uses ∙ fits.unused g p counts here k among (eqb-true k.area.block block same) goes)))
    (λ k process anchor among is named. unless (k.area.block == block) (is_released w value k)
    (λ same goes. true≢false (sym named ∙ clear k.area.serial process anchor (fits.cleared k among (eqb-true k.area.block block same) goes) is)))
left_sound w words value kind clear fits sound = sound

-- fewer kept areas are as they were
fewer_stay : (published : List Published) (kept less : List KeptArea) → ((k : KeptArea) → Among less k → Among kept k) → AreasStay published kept → AreasStay published less
fewer_stay published kept less were stay = record {
  apart = stay.apart;
  same = λ p k a at among listed serial. stay.same p k a at (were k among) listed serial;
  stay = λ g later p q k le at_p at_q among has. stay.stay g later p q k le at_p at_q (were k among) has;
}

-- an area that is kept after a store was kept before it
pub kept_was : (w : WriterView) (value : ℕ) (kind : WordKind) (k : KeptArea) → Among (kept_left w value kind) k → Among w.kept k
kept_was w value (Retire block) k among = (filter_gives (λ (x : KeptArea). not ((x.area.block == block) && is_released w value x)) w.kept among.0 k among.1).0
kept_was w value kind k among = among

-- the word is one behind the slots
pub word_placed : (w : WriterView) (word value : ℕ) (kind : WordKind) → kind_at word ≡ kind → FitsWord w value kind → (RETIRE_START ≤ word) × (word < TABLE_WORDS)
word_placed w word value (InBlock block at) is fits = (behind word block at is, block_within word block at is)
  where
    behind : (word block at : ℕ) → kind_at word ≡ InBlock block at → 1109 ≤ word
    behind word block at is = grind (arith, nat_tests)
word_placed w word value (Retire block) is fits = (let at = kind_retire_place word block is in (omega (arith, at.0), omega (arith, at.0, at.1)))
word_placed w word value (Doom block) is fits = (let at = kind_doom_place word block is in (omega (arith, at.0), omega (arith, at.0, at.1)))
word_placed w word value Machine is fits = absurd fits
word_placed w word value Slot is fits = absurd fits
word_placed w word value Nowhere is fits = absurd fits

-- a store into both leaves what is mirrored
mirrored_still : (mirror words : List ℕ) (word value place : ℕ) → word < length mirror → word < length words → slice_index words place ≡ word_at mirror place → slice_index (set words word value) place ≡ word_at (set mirror word value) place
mirrored_still mirror words word value place one other same =
    dite (ℕ_discrete place word)
    (λ (here : place ≡ word). ap (λ (i : ℕ). slice_index (set words word value) i) here ∙ get_or-set_same words word value 0 other ∙ sym (word_here mirror word value one) ∙ ap (λ (i : ℕ). word_at (set mirror word value) i) (sym here))
    (λ (apart : place ≡ word → ⊥). get_or-set_other words word place value 0 (λ e. apart e) ∙ same ∙ sym (word_there mirror word value place apart))

module _ {Served : Published → Type 0} {opening : Opening} (s : State (Unit {0}) View) (r : RunningRule Served opening s) where
  -- what a look in both kinds found clear no anchor that is shown names
  unnamed_shown : (serial process anchor : ℕ) → IsClear r.writer Both serial → IsAnchor process anchor → anchor_names_area (word_at (block_words s.words) (slot_place process anchor)) serial ≡ false
  unnamed_shown serial process anchor clear is =
      ap (λ (x : ℕ). anchor_names_area x serial) (shown_word s.words (slot_place process anchor) (omega arith)) ∙ names_neither (slice_index s.words (slot_place process anchor)) serial (clear_word s r Both serial clear process anchor is)

  -- ---- a store behind the words of the machine leaves the machine
  pub machine_kept : (w' : WriterView) (word value : ℕ) → SLOTS_START ≤ word → w'.members ≡ r.writer.members → progress_of s.words w' r.seats ≡ progress_of s.words r.writer r.seats → MachineHolds (set s.words word value) w' r.seats
  machine_kept w' word value late members same =
      let words' : List ℕ = set s.words word value in
      let few = r.machine.progress.few in
      let shown = progress_words s.words words' w' r.seats (slice_index s.words COUNTER) (slice_index s.words LEAD)
      (get_or-set_other s.words word COUNTER value 0 (λ e. absurd (omega arith)))
      (get_or-set_other s.words word LEAD value 0 (λ e. absurd (omega arith)))
      (get_or-set_other s.words word DELAYS value 0 (λ e. absurd (omega arith)))
      (get_or-set_other s.words word (DELAYS + 1) value 0 (λ e. absurd (omega arith))) in record {
        progress = subst IsSound (sym (shown ∙ same)) r.machine.progress;
        own_words = λ k a at.
            let here : slice_get (members_shown r.writer.members r.seats) k ≡ Some a = ap (λ xs. slice_get (members_shown xs r.seats) k) (sym members) ∙ at in
            let below = within_get (members_shown r.writer.members r.seats) k a here in
            get_or-set_other s.words word (CONFIRMED + k) value 0 (λ e. absurd (omega arith)) ∙ r.machine.own_words k a here;
        others_wait = λ k beyond below.
            get_or-set_other s.words word (CONFIRMED + k) value 0 (λ e. absurd (omega arith)) ∙ r.machine.others_wait k (subst (λ xs. length xs ≤ k) members beyond) below;
        leader_made = subst (λ (n : ℕ). n ≤ length w'.members) (sym (get_or-set_other s.words word LEAD value 0 (λ e. absurd (omega arith)))) (subst (λ xs. slice_index s.words LEAD ≤ length xs) (sym members) r.machine.leader_made);
      }

  -- a store behind the slots, by what it leaves of the words that members found, and by what it keeps and owes
  pub stores_behind : (word value : ℕ) → (RETIRE_START ≤ word) × (word < TABLE_WORDS) → ((f : BlockWord) → WordKept r.writer f → WordKept (with_word word value r.writer) f)
      → BlockInvariant (record { word = word_at (block_words s.words); published = r.writer.published; kept = kept_left r.writer value (kind_at word) }) (MayBeRead r.writer) → Owes r.writer.published (kept_left r.writer value (kind_at word)) (MayBeRead r.writer) (kind_at word) value
      → RunningRule Served opening (after_step s (set s.words word value) 0 (Writer (with_word word value r.writer)))
  stores_behind word value placed found left owes =
      let w = r.writer in
      let late = placed.0 in
      let within = placed.1 in
      let size = r.words.all in
      let shown = shown_stored s.words word value (omega (arith, late)) (omega (arith, size)) in
      let w' : WriterView = with_word word value w in
      writer_step s r (set s.words word value) w' (record { members = refl; watchers = refl; learnt = λ xs is. is; noted = λ note is. is; words = found }) refl refl refl refl
      (record {
        looks = refl;
        ended = ended_as w w' refl refl (omega arith);
        slots = λ process place below few. get_or-set_other s.words word (slot_place process place) value 0 (λ e. absurd (omega (arith, e, late, below, few)));
      })
      (record { made = r.published.made; staffed = r.published.staffed; watched = r.published.watched; some = r.published.some; served = r.published.served; old_stays = r.published.old_stays; retired_stays = r.published.retired_stays; areas_stay = fewer_stay w.published w.kept (kept_left w value (kind_at word)) (kept_was w value (kind_at word)) r.published.areas_stay; notes_fit = r.published.notes_fit })
      (record {
        all = length-set s.words word value ∙ r.words.all;
        root = get_or-set_other s.words word ROOT value 0 (λ e. absurd (omega arith)) ∙ r.words.root;
        mirror = length-set w.words word value ∙ r.words.mirror;
        mirrored = λ place behind. mirrored_still w.words s.words word value place (let mirror = r.words.mirror in omega (arith, within, mirror)) (omega (arith, within, size)) (r.words.mirrored place behind);
        reached = (let same = get_or-set_other s.words word COUNTER value 0 (λ e. absurd (omega arith)) in let before = r.words.reached in omega arith);
        blocks = subst (λ (ws : List ℕ). BlockInvariant (record { word = word_at ws; published = w.published; kept = kept_left w value (kind_at word) }) (MayBeRead w)) (sym shown)
            (stored (block_words s.words) w.published (kept_left w value (kind_at word)) (MayBeRead w) (shown_words s.words r.words.all) word value within (kind_at word) refl left owes);
      })
      (machine_kept w' word value (omega (arith, late)) refl refl)

  pub word_stores : (word value : ℕ) → MayStoreWord r.writer word value → RunningRule Served opening (after_step s (set s.words word value) 0 (Writer (with_word word value r.writer)))
  word_stores word value may =
      let w = r.writer in
      stores_behind word value (word_placed w word value (kind_at word) refl may)
      (kept_stored w word value may (word_at (block_words s.words)) r.words.blocks r.published.areas_stay.apart)
      (left_sound w (block_words s.words) value (kind_at word) (λ serial process anchor clear is. unnamed_shown serial process anchor clear is) may r.words.blocks)
      (owes_by w value (kind_at word) may)

-- the writer may store a word of a block
pub store_word_is_allowed : (Served : Published → Type 0) (opening : Opening) (slots id word value : ℕ) (me : Sat) → me.0 ≡ Writer (writer_of me.0) → MayStoreWord (writer_of me.0) word value
    → Allows (RunningRule Served opening) slots id me word (λ _. value) (λ _. word_stored (step slots word value 0 none) me value)
store_word_is_allowed Served opening slots id word value me is may s r wide at fits =
    let w = writer_of me.0 in
    let seat = writer_at s r id w (at ∙ ap some is) in
    let done = word_stores s r word value (subst (λ (x : WriterView). MayStoreWord x word value) (sym seat.1) may) in (
      Writer (with_word word value w),
      keeps,
      tt,
      subst (λ (z : ℕ × WriterView). RunningRule Served opening (after_step s (set s.words word value) z.0 (Writer (with_word word value z.1)))) (λ i. (sym seat.0 i, seat.1 i)) done,
      refl,
    )
