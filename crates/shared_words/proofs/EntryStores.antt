-- A store of the entry word of a function of a kept area keeps the rule, also while threads read the word.
use Rattle.std.proofs.Common.{◌≡◌, ℕ, ◌+◌, ◌<◌, ◌≤◌, Bool, true, false, set, refl, sym, ap, subst, ◌∙◌, arith}
use mathlib.Core.Option.{none, some}
use Rattle.std.specs.Prelude.{nat_lt, IsTrue}
use Rattle.std.proofs.lemmas.Bool.{and_parts, ltb-true, true≢false}
use Rattle.atomic_table.specs.Table.{State, keeps, step, Allows}
use Rattle.term_core.specs.declared.area.AreaRef.{AreaRef}
use Rattle.term_core.specs.declared.area.CodeRef.{CodeRef}
use Rattle.area_core.specs.declared.map.TheConstants.{BIG_BLOCKS, AREAS_START, BREAKPOINTS_START, TERMS_START}
use Rattle.area_core.specs.declared.map.WordKind.{WordKind}
use Rattle.area_core.specs.declared.map.WordKind.TheVariants.{InBlock}
use Rattle.area_core.specs.declared.table.Published.{Published}
use Rattle.area_core.specs.declared.table.KeptArea.{KeptArea}
use Rattle.area_core.specs.Map.{word_at, kind_at, block_place, breakpoint_at, image_entry_at}
use Rattle.area_core.specs.Generations.{functions_in_image, has_function, is_entry_word, is_traced_function}
use Rattle.area_core.specs.Stores.{entry_word}
use Rattle.area_core.specs.Blocks.{BlockInvariant, Among, FitsBlock}
use Rattle.area_core.proofs.Places.{kind_block}
use Rattle.area_core.proofs.Frames.{function_fits, big_room}
use Rattle.area_core.proofs.BlockStores.{block_within, same_block, entry_is}
use Rattle.area_core.proofs.EntryStores.{same_area}
use Rattle.shared_words.specs.declared.opening.Opening.{Opening}
use Rattle.shared_words.specs.declared.view.WriterView.{WriterView}
use Rattle.shared_words.specs.declared.view.View.{View}
use Rattle.shared_words.specs.declared.view.View.TheVariants.{Writer}
use Rattle.shared_words.specs.Shown.{block_words}
use Rattle.shared_words.specs.Seats.{writer_of}
use Rattle.shared_words.specs.Kinds.{Sat}
use Rattle.shared_words.specs.Rule.{MayBeRead, RunningRule}
use Rattle.shared_words.specs.Publishing.{MayStoreEntry, kept_left, with_word, word_stored}
use Rattle.shared_words.specs.Laws.{IsKeptEntry}
use Rattle.shared_words.proofs.Frames.{after_step}
use Rattle.shared_words.proofs.KeptWords.{kept_patched}
use Rattle.shared_words.proofs.WordLoads.{block_behind}
use Rattle.shared_words.proofs.WordStores.{Owes, stores_behind}
use Rattle.shared_words.proofs.WriterFrames.{writer_at}

-- ---- where the word stands

-- the place of an entry word
abbrev entry_place : CodeRef → ℕ
entry_place at = block_place at.area.block (image_entry_at at.function)

-- a function is one of an instance, in a big block
pub in_big : (w : WriterView) (at : CodeRef) (on : Bool) → MayStoreEntry w at on → at.area.block < BIG_BLOCKS
in_big w at on may =
    subst (λ (a : AreaRef). a.block < 64) may.of (ltb-true may.area.area.block 64 (and_parts (nat_lt may.area.area.block 64) (nat_lt at.function (functions_in_image may.area.words)) may.has).0)

-- its word is one of the block
pub entry_kind : (at : CodeRef) (k : KeptArea) → k.area ≡ at.area → FitsBlock k → IsTrue (has_function k at.function) → kind_at (entry_place at) ≡ InBlock at.area.block (image_entry_at at.function)
entry_kind at k of fits has =
    let own = function_fits k at.function fits has in
    let big : at.area.block < 64 = subst (λ (a : AreaRef). a.block < 64) of own.0 in
    let few = own.1 in
    kind_block at.area.block (image_entry_at at.function) (omega (arith, big)) (big_room at.area.block (image_entry_at at.function) big (omega (arith, few)))

-- ---- the store

module _ {Served : Published → Type 0} {opening : Opening} (s : State (Unit {0}) View) (r : RunningRule Served opening s) (at : CodeRef) (on : Bool) (may : MayStoreEntry r.writer at on) where
  abbrev block : ℕ
  block = at.area.block

  abbrev place : ℕ
  place = image_entry_at at.function

  same : may.area.area.block ≡ block
  same = ap (λ (a : AreaRef). a.block) may.of

  is : kind_at (entry_place at) ≡ InBlock block place
  is = entry_kind at may.area may.of (r.words.blocks.kept_fit may.area may.kept) may.has

  high : AREAS_START ≤ block
  high = subst (λ (n : ℕ). 9 ≤ n) same (r.words.blocks.kept_fit may.area may.kept).first

  -- the area in this block is the instance
  only : (k : KeptArea) → Among r.writer.kept k → block ≡ k.area.block → may.area ≡ k
  only k among here = same_area r.writer.kept r.words.blocks.kept_apart may.area k may.kept among (same ∙ here)

  -- it is 0 where it is not on
  off : (o : Bool) → entry_word o ≡ 0 → o ≡ false
  off true empty = absurd (cc)
  off false empty = refl

  owes : Owes r.writer.published r.writer.kept (MayBeRead r.writer) (InBlock block place) (entry_word on)
  owes = record {
    slot = λ one. absurd (cc);
    code = λ g p counts here root entry within one.
        let parts = same_block block place p.root.code entry one in
        let code = root.code in
        let low = high in
        absurd (omega (arith, parts.0, code, low));
    breakpoints = λ g p counts here root a among instance placed function few one.
        let parts = same_block block place (BREAKPOINTS_START + p.root.bp) (breakpoint_at a.block function) one in
        let bp = root.bp in
        let low = high in
        absurd (omega (arith, parts.0, bp, low));
    terms = λ g p counts here root other within one.
        let parts = same_block block place (TERMS_START + p.root.term) other one in
        let term = root.term in
        let low = high in
        absurd (omega (arith, parts.0, term, low));
    entries = λ g p counts here k among function has one empty.
        let parts = same_block block place k.area.block (image_entry_at function) one in
        let its : at.area ≡ k.area = sym may.of ∙ ap (λ (x : KeptArea). x.area) (only k among parts.0) in
        let own : at.function ≡ function = omega (arith, parts.1) in
        subst (λ (z : AreaRef × ℕ). is_traced_function p z.0.serial z.1 ≡ false) (λ i. (its i, own i)) (may.untraced (off on empty) g p counts here);
    retired = λ g p counts here k among one. absurd (cc);
    doomed = λ g p counts here k among one unretired. absurd (cc);
    images = λ k among other old has plain one.
        let parts = same_block block place k.area.block other one in
        absurd (true≢false (sym (entry_is may.area at.function may.has) ∙ ap (is_entry_word may.area) parts.1 ∙ ap (λ (x : KeptArea). is_entry_word x other) (only k among parts.0) ∙ plain));
  }

  pub entry_stores : RunningRule Served opening (after_step s (set s.words (entry_place at) (entry_word on)) 0 (Writer (with_word (entry_place at) (entry_word on) r.writer)))
  entry_stores =
      let w = r.writer in
      stores_behind s r (entry_place at) (entry_word on)
      (block_behind (entry_place at) block place is, block_within (entry_place at) block place is)
      (kept_patched w (entry_place at) (entry_word on) block place is may.area may.kept same (entry_is may.area at.function may.has))
      (subst (λ (kind : WordKind). BlockInvariant (record { word = word_at (block_words s.words); published = w.published; kept = kept_left w (entry_word on) kind }) (MayBeRead w)) (sym is) r.words.blocks)
      (subst (λ (kind : WordKind). Owes w.published (kept_left w (entry_word on) kind) (MayBeRead w) kind (entry_word on)) (sym is) owes)

  -- the word is an entry word of a kept area
  pub entry_kept : IsKeptEntry r.writer.kept (entry_place at)
  entry_kept = record { block = block; at = place; is = is; area = may.area; among = may.kept; here = same; entry = entry_is may.area at.function may.has }

-- the writer may store an entry word
pub store_entry_is_allowed : (Served : Published → Type 0) (opening : Opening) (slots id word value : ℕ) (at : CodeRef) (on : Bool) (me : Sat) → word ≡ entry_place at → value ≡ entry_word on → me.0 ≡ Writer (writer_of me.0) → MayStoreEntry (writer_of me.0) at on
    → Allows (RunningRule Served opening) slots id me word (λ _. value) (λ _. word_stored (step slots word value 0 none) me value)
store_entry_is_allowed Served opening slots id word value code on me there stored is may s r wide at fits =
    let w = writer_of me.0 in
    let seat = writer_at s r id w (at ∙ ap some is) in
    let done = entry_stores s r code on (subst (λ (x : WriterView). MayStoreEntry x code on) (sym seat.1) may) in
    let here : entry_place code ≡ word = sym there in
    let put : entry_word on ≡ value = sym stored in (
      Writer (with_word word value w),
      keeps,
      tt,
      subst (λ (z : ℕ × ℕ × ℕ × WriterView). RunningRule Served opening (after_step s (set s.words z.0 z.1) z.2 (Writer (with_word z.0 z.1 z.3)))) (λ i. (here i, put i, sym seat.0 i, seat.1 i)) done,
      refl,
    )
