-- The writer of new words has published the empty generation alone and made no note; each word is 0.
use Rattle.std.proofs.Common.{◌≡◌, ℕ, zero, suc, List, length, replicate, Option, Some, None, IsSomeAnd, refl, sym, ap, subst, ◌∙◌}
use Rattle.std.proofs.lemmas.List.{length-replicate}
use Rattle.atomic_table.specs.Seated.{TableId}
use Rattle.area_core.specs.declared.map.TheConstants.{TABLE_WORDS}
use Rattle.area_core.specs.Map.{opening_words, word_at}
use Rattle.area_core.proofs.Counted.{opened}
use Rattle.shared_words.specs.declared.opening.Opening.{Opening}
use Rattle.shared_words.specs.declared.seats.Writer as writers
use Rattle.shared_words.specs.declared.view.WriterView.{WriterView}
use Rattle.shared_words.specs.Making.{IsHanding, writer_handing}
use Rattle.shared_words.specs.Seats.{writer_of}
use Rattle.progress_words.specs.Tokens.{IsWriterOf, written_by}
use Rattle.script_core.specs.declared.script.Script.{Script}
use Rattle.staging.specs.declared.tables.Tables.{Tables}
use Rattle.staging.specs.Whose.{AreTablesOf}
use Rattle.word_permit.specs.Runs.{IsBegunWith, Run}
use Rattle.word_run.specs.Beginning.{BeginsRun}
use Rattle.code_index.specs.Staging.{IsAtFirst}

long_words : (count : ℕ) → length (opening_words count) ≡ count
long_words count = ap (λ (words : List ℕ). length words) (sym (opened count)) ∙ length-replicate count 0

zero_at : (count place : ℕ) → word_at (replicate count 0) place ≡ 0
zero_at zero place = refl
zero_at (suc n) zero = refl
zero_at (suc n) (suc place) = zero_at n place

empty_words : (count place : ℕ) → word_at (opening_words count) place ≡ 0
empty_words count place = ap (λ (words : List ℕ). word_at words place) (sym (opened count)) ∙ zero_at count place

begun_first : (opening : Opening) (handed : ℕ) → IsAtFirst (writer_handing opening handed)
begun_first opening handed = record { all = long_words TABLE_WORDS; published = refl; kept = refl; words = empty_words TABLE_WORDS }

-- the run begins with the writer of its new words
pub begins_run : (table : TableId) (opening : Opening) (handed : ℕ) (writer : writers.Writer) → IsHanding table opening handed writer.seat → (script : Script) → IsWriterOf table opening writer
    → BeginsRun writer script (Some (record { table = table; opening = opening; script = script }))
begins_run table opening handed writer is script token =
    let view : written_by writer ≡ writer_handing opening handed = ap writer_of is.view in
    record {
      first = subst IsAtFirst (sym view) (begun_first opening handed);
      notes = ap (λ (w : WriterView). w.notes) view;
      drops = ap (λ (w : WriterView). w.looks.dropped) view;
      of_run = (token, refl);
    }

-- tables of that writer are those of the run
pub begun_with : (writer : writers.Writer) (script : Script) (tables : Tables) → ((table : TableId) (opening : Opening) → IsWriterOf table opening writer → AreTablesOf table opening tables)
    → (run : Option Run) → IsSomeAnd run (λ r. IsWriterOf r.table r.opening writer × (r.script ≡ script)) → IsBegunWith tables script run
begun_with writer script tables each None h = h
begun_with writer script tables each (Some r) h = (each r.table r.opening h.0, h.1)
