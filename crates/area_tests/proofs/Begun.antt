-- What stands on a table as it begins is that of the writer.
use Rattle.std.proofs.Common.{◌≡◌, ℕ, ◌<◌, ◌≤◌, inl, inr, refl, sym, subst, arith}
use Rattle.std.proofs.lemmas.Bool.{cases_lt, lt-ltb, le-ltb}
use Rattle.atomic_table.specs.Seated.{TableId}
use Rattle.area_core.specs.Map.{room_of}
use Rattle.shared_words.specs.declared.opening.Opening.{Opening}
use Rattle.shared_words.specs.declared.seats.Writer as writers
use Rattle.shared_words.specs.declared.view.WriterView.{WriterView}
use Rattle.shared_words.specs.Making.{IsHanding}
use Rattle.progress_words.specs.Tokens.{written_by}
use Rattle.literal_areas.specs.declared.areas.Areas.{Areas}
use Rattle.literal_areas.specs.Owned.{AreOf, AreAtFirst}
use Rattle.code_index.specs.declared.index.Staging.{Staging}
use Rattle.code_index.specs.Staging.{IsIndexOf, IsAtFirst}
use Rattle.term_table.specs.Tables.{Terms, IsTableOf, IsAtFirst as TableIsAtFirst}
use Rattle.new_tables.proofs.Blank.{handing_blank}
use Rattle.new_tables.proofs.Emptied.{handing_empty}

module _ (table : TableId) (opening : Opening) (handed : ℕ) (writer : writers.Writer) (is : IsHanding table opening handed writer.seat) where
  -- new pools
  pub begun_owned : (s : Areas) → AreAtFirst s → AreOf s (written_by writer)
  begun_owned s first =
      let blank = handing_blank table opening handed writer is in
      first (written_by writer) (record { all = blank.all; published = (handing_empty table opening handed writer is).published; kept = blank.kept })

  -- a new code index
  pub begun_index : (x : Staging) → ((w : WriterView) → IsAtFirst w → IsIndexOf x w) → IsIndexOf x (written_by writer)
  begun_index x first = (let blank = handing_blank table opening handed writer is in first (written_by writer) (record { all = blank.all; published = blank.published; kept = blank.kept; words = blank.words }))

  -- new term tables
  pub begun_tables : (t : Terms) → ((w : WriterView) → TableIsAtFirst w → IsTableOf t w) → IsTableOf t (written_by writer)
  begun_tables t first = (let blank = handing_blank table opening handed writer is in first (written_by writer) (record { all = blank.all; published = blank.published; kept = blank.kept; words = blank.words }))

-- ---- words

-- each block has room for 64 words
pub few_fit : (count block : ℕ) → count ≤ 64 → count ≤ room_of block
few_fit count block few =
    elim (cases_lt block 64) as (λ _. count ≤ room_of block) [
      | inl low ↦ subst (λ (n : ℕ). count ≤ n) (sym (big_room block low)) (omega (arith, few))
      | inr high ↦ subst (λ (n : ℕ). count ≤ n) (sym (small_room block high)) few
    ]
  where
    big_room : (b : ℕ) → b < 64 → room_of b ≡ 1024
    big_room b low = rw (lt-ltb b 64 low) refl

    small_room : (b : ℕ) → 64 ≤ b → room_of b ≡ 64
    small_room b high = rw (le-ltb b 64 high) refl
