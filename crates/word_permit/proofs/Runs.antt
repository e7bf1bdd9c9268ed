-- A permit is of the run that a name stands for, before each call and after it.
use Rattle.std.proofs.Common.{◌≡◌, List, length, Option, Some, None, sym, subst, ◌∙◌}
use Rattle.atomic_table.specs.Seated.{TableId}
use Rattle.term_core.specs.declared.atom.Mfa.{Mfa}
use Rattle.shared_words.specs.declared.opening.Opening.{Opening}
use Rattle.script_core.specs.declared.script.Script.{Script}
use Rattle.staging.specs.declared.tables.Tables.{Tables}
use Rattle.staging.specs.Whose.{AreTablesOf}
use Rattle.write_permit.specs.Book.{IsBook, shown}
use Rattle.write_permit.proofs.Entered.{many_loaders}
use Rattle.word_permit.specs.declared.book.WordBook.{WordBook}
use Rattle.word_permit.specs.Books.{IsKept, IsWordBook, KeepsRun}
use Rattle.word_permit.specs.Runs.{IsBegunWith, IsOverWords, Run}

-- a call that keeps a book keeps it of its run
pub keeps_run : (names : List Mfa) (run : Option Run) (b c : WordBook) → IsKept b c → KeepsRun names run b → KeepsRun names run c
keeps_run names None b c kept h = h
keeps_run names (Some r) b c kept h = (kept.book names r.table r.opening h.0, kept.script ∙ h.1)

-- it is over the words of the run
pub over_words : (names : List Mfa) (run : Option Run) (table : TableId) (opening : Opening) (b : WordBook) → IsOverWords table opening run → KeepsRun names run b → IsWordBook names table opening b
over_words names None table opening b over h = absurd h
over_words names (Some r) table opening b over h = subst (λ t. IsWordBook names t opening b) over.0 (subst (λ o. IsWordBook names r.table o b) over.1 h.0)

-- and stays of that run where its script stays
pub of_run : (names : List Mfa) (run : Option Run) (table : TableId) (opening : Opening) (b c : WordBook) → IsOverWords table opening run → KeepsRun names run b → c.plain.script ≡ b.plain.script → IsWordBook names table opening c → KeepsRun names run c
of_run names None table opening b c over h script book = h
of_run names (Some r) table opening b c over h script book =
    (subst (λ t. IsWordBook names t r.opening c) (sym over.0) (subst (λ o. IsWordBook names table o c) (sym over.1) book), script ∙ h.1)

-- before the first command
pub begun_of_run : (names : List Mfa) (run : Option Run) (script : Script) (t : Tables) (c : WordBook) → IsBegunWith t script run → c.plain.script ≡ script → ((table : TableId) (opening : Opening) → AreTablesOf table opening t → IsWordBook names table opening c) → KeepsRun names run c
begun_of_run names None script t c begun same book = begun
begun_of_run names (Some r) script t c begun same book = (book r.table r.opening begun.0, same ∙ sym begun.1)

-- its plain half is kept
pub book_of_run : (names : List Mfa) (run : Option Run) (b : WordBook) → KeepsRun names run b → IsBook b.plain
book_of_run names None b h = absurd h
book_of_run names (Some r) b h = h.0.has.book

-- and tells how far each loader of the script is
pub many_of_run : (names : List Mfa) (run : Option Run) (b : WordBook) → KeepsRun names run b → length b.plain.loaders.items ≡ length b.plain.script.loaders
many_of_run names run b h = let k = book_of_run names run b h in many_loaders (shown b.plain) k.permit
