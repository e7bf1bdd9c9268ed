-- The writer of a new table has published the empty generation alone, keeps no area, and each word is 0.
use Rattle.std.proofs.Common.{◌≡◌, ℕ, zero, suc, List, length, replicate, refl, sym, ap, subst, ◌∙◌}
use Rattle.std.proofs.lemmas.List.{length-replicate}
use Rattle.atomic_table.specs.Seated.{TableId}
use Rattle.area_core.specs.declared.map.TheConstants.{TABLE_WORDS}
use Rattle.area_core.specs.Map.{opening_words, word_at}
use Rattle.area_core.proofs.Counted.{opened}
use Rattle.shared_words.specs.declared.opening.Opening.{Opening}
use Rattle.shared_words.specs.declared.seats.Writer as writers
use Rattle.shared_words.specs.Making.{IsHanding, writer_handing}
use Rattle.shared_words.specs.Seats.{writer_of}
use Rattle.progress_words.specs.Tokens.{written_by}
use Rattle.code_index.specs.Staging.{IsAtFirst}

long_words : (count : ℕ) → length (opening_words count) ≡ count
long_words count = ap (λ (words : List ℕ). length words) (sym (opened count)) ∙ length-replicate count 0

zero_at : (count place : ℕ) → word_at (replicate count 0) place ≡ 0
zero_at zero place = refl
zero_at (suc n) zero = refl
zero_at (suc n) (suc place) = zero_at n place

empty_words : (count place : ℕ) → word_at (opening_words count) place ≡ 0
empty_words count place = ap (λ (words : List ℕ). word_at words place) (sym (opened count)) ∙ zero_at count place

begun_first : (opening : Opening) (handed : ℕ) → IsAtFirst (writer_handing opening handed)
begun_first opening handed = record { all = long_words TABLE_WORDS; published = refl; kept = refl; words = empty_words TABLE_WORDS }

pub begun : (table : TableId) (opening : Opening) (handed : ℕ) (writer : writers.Writer) → IsHanding table opening handed writer.seat → IsAtFirst (written_by writer)
begun table opening handed writer is = subst IsAtFirst (sym (ap writer_of is.view)) (begun_first opening handed)
