-- The writer of a new table has published the empty generation alone, and each word is 0.
use Rattle.std.proofs.Common.{◌≡◌, ℕ, List, length, refl, sym, ap, subst, ◌∙◌}
use Rattle.std.proofs.lemmas.List.{length-replicate}
use Rattle.atomic_table.specs.Seated.{TableId}
use Rattle.area_core.specs.declared.map.TheConstants.{TABLE_WORDS}
use Rattle.area_core.specs.Map.{opening_words}
use Rattle.area_core.proofs.Counted.{opened}
use Rattle.shared_words.specs.declared.opening.Opening.{Opening}
use Rattle.shared_words.specs.declared.seats.Writer as writers
use Rattle.shared_words.specs.Making.{IsHanding, writer_handing}
use Rattle.shared_words.specs.Seats.{writer_of}
use Rattle.progress_words.specs.Tokens.{written_by}
use Rattle.new_tables.specs.Blank.{IsBlank}
use Rattle.new_tables.proofs.Emptied.{empty_words}

long_words : (count : ℕ) → length (opening_words count) ≡ count
long_words count = ap (λ (words : List ℕ). length words) (sym (opened count)) ∙ length-replicate count 0

begun_blank : (opening : Opening) (handed : ℕ) → IsBlank (writer_handing opening handed)
begun_blank opening handed = record { all = long_words TABLE_WORDS; published = refl; kept = refl; notes = refl; words = empty_words TABLE_WORDS }

pub handing_blank : (table : TableId) (opening : Opening) (handed : ℕ) (writer : writers.Writer) → IsHanding table opening handed writer.seat → IsBlank (written_by writer)
handing_blank table opening handed writer is = subst IsBlank (sym (ap writer_of is.view)) (begun_blank opening handed)
