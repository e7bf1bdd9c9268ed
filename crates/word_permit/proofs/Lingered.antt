-- The answer that a process lingers is kept where the anchor names the instance still; else the process has left it.
use Rattle.std.proofs.Common.{◌≡◌, ℕ, suc, Bool, true, false, List, slice_get, Option, Some, None, IfSome, if◌then◌else◌, refl, sym, ap, subst, ◌∙◌}
use Rattle.std.proofs.lemmas.Option.{none-some}
use Rattle.atomic_table.specs.Seated.{TableId}
use Rattle.term_core.specs.declared.atom.Mfa.{Mfa}
use Rattle.area_core.specs.Blocks.{Among}
use Rattle.area_core.specs.Generations.{names_frame}
use Rattle.marks.specs.declared.kept.LingeringFrame.{LingeringFrame}
use Rattle.marks.specs.declared.kept.ReadTurn.{ReadTurn}
use Rattle.shared_words.specs.declared.opening.Opening.{Opening}
use Rattle.shared_words.specs.declared.seats.Writer as writers
use Rattle.shared_words.specs.declared.view.NamedAnchor.{NamedAnchor}
use Rattle.shared_words.specs.declared.view.WriterView.{WriterView}
use Rattle.shared_words.specs.Lingering.{IsLooked, anchor_again, lingering_found, lingering_of, with_anchor_found, with_lingering}
use Rattle.shared_words.specs.Views.{newest_number}
use Rattle.progress_words.specs.Tokens.{IsWriterOf, written_by}
use Rattle.anchors.specs.declared.answers.Scan.TheVariants as scans
use Rattle.server_core.specs.declared.command.Linger.{Linger}
use Rattle.literal_areas.specs.Laws as areas
use Rattle.run_law.specs.Answers.{HasLingering}
use Rattle.word_permit.specs.declared.book.WordBook.{WordBook}
use Rattle.word_permit.specs.Books.{IsWordBook}
use Rattle.word_permit.specs.Looks.{HasLooked, newest_wait}
use Rattle.word_permit.specs.Purged.{HasLeftCode, IsLingerKept}
use Rattle.word_permit.proofs.Answered.{KeepsAnswers}
use Rattle.word_permit.proofs.Looked.{linger_same}
use Rattle.word_permit.proofs.Quiet.{book_found, with_writer}
use Rattle.word_permit.proofs.Told.{linger_told}

-- a look that named the instance may be kept
pub may_linger : (w : WriterView) (serial process turn place word : ℕ) → HasLooked serial w (scans.Named process turn place word) → IsLooked w process serial turn
may_linger w serial process turn place word looked =
    let found = looked.1 in
    let read : Among w.looks.turns (record { wait = newest_wait w serial; process = process; turns = turn }) = (0, ap (λ (xs : List ReadTurn). slice_get xs 0) found.cause.1.turn_read.1) in
    record {
      read = subst (λ wait. Among w.looks.turns (record { wait = wait; process = process; turns = turn })) (sym found.wait_is) read;
      newest_is = ap (λ wait. wait.generation) found.wait_is;
    }

abbrev linger_of : ℕ → ℕ → Linger
linger_of process turn = record { process = process; turn = turn }

-- the anchor as it was found
abbrev seen : WriterView → ℕ → ℕ → ℕ → ℕ → ℕ → NamedAnchor
seen old found serial process turn place = anchor_again place found (lingering_of old process serial turn) old

-- the answer is kept
pub if_kept : (old new : WriterView) (found serial process turn place word : ℕ) → HasLooked serial old (scans.Named process turn place word) → new ≡ lingering_found place found (lingering_of old process serial turn) old
    → (told : Option Linger) → told ≡ (if names_frame found serial then Some (linger_of process turn) else None) → IfSome told (HasLingering new.looks serial (newest_number old.published))
if_kept old new found serial process turn place word looked is told same = subst (λ o. IfSome o (HasLingering new.looks serial (newest_number old.published))) (sym same) (by (names_frame found serial) is)
  where
    by : (b : Bool) → new ≡ with_anchor_found (seen old found serial process turn place) (if b then with_lingering (lingering_of old process serial turn) old else old) → IfSome (if b then Some (linger_of process turn) else None) (HasLingering new.looks serial (newest_number old.published))
    by true e = linger_told old new.looks serial (linger_of process turn) looked.1.cause.0 looked.1.wait_is (ap (λ (w : WriterView). w.looks) e)
    by false e = tt

-- and nothing else of looks
pub if_lingers : (old new : WriterView) (found serial process turn place : ℕ) → new ≡ lingering_found place found (lingering_of old process serial turn) old → (told : Option Linger) → told ≡ (if names_frame found serial then Some (linger_of process turn) else None)
    → IfSome told (IsLingerKept serial process turn old new)
if_lingers old new found serial process turn place is told same = subst (λ o. IfSome o (IsLingerKept serial process turn old new)) (sym same) (by (names_frame found serial) is)
  where
    by : (b : Bool) → new ≡ with_anchor_found (seen old found serial process turn place) (if b then with_lingering (lingering_of old process serial turn) old else old) → IfSome (if b then Some (linger_of process turn) else None) (IsLingerKept serial process turn old new)
    by true e = record { linger_is = refl; looks = ap (λ (w : WriterView). w.looks) e }
    by false e = tt

-- or the process has left the code
pub if_left : (old new : WriterView) (found serial process turn place : ℕ) → new ≡ lingering_found place found (lingering_of old process serial turn) old → (told : Option Linger) → told ≡ (if names_frame found serial then Some (linger_of process turn) else None) → told ≡ None
    → HasLeftCode serial process turn place old new
if_left old new found serial process turn place is told same none = by (names_frame found serial) refl is (sym same ∙ none)
  where
    by : (b : Bool) → names_frame found serial ≡ b → new ≡ with_anchor_found (seen old found serial process turn place) (if b then with_lingering (lingering_of old process serial turn) old else old) → (if b then Some (linger_of process turn) else None) ≡ None → HasLeftCode serial process turn place old new
    by true named e none = absurd (none-some (linger_of process turn) (sym none))
    by false left e none = record { word = found; left = left; view = e }

answers_lingered : (w : WriterView) (l : LingeringFrame) (b : Bool) → KeepsAnswers w.looks (if b then with_lingering l w else w).looks
answers_lingered w l true = record { grows = record { dropped = λ d had. had; lingering = λ x had. (suc had.0, had.1) }; none = λ d has. has }
answers_lingered w l false = record { grows = record { dropped = λ d had. had; lingering = λ x had. had }; none = λ d has. has }

pub book_lingered : (names : List Mfa) (table : TableId) (opening : Opening) (b : WordBook) (writer : writers.Writer) → IsWordBook names table opening b → areas.KeptByLooks → IsWriterOf table opening writer → (place found : ℕ) (l : LingeringFrame)
    → written_by writer ≡ lingering_found place found l (written_by b.tables.writer) → IsWordBook names table opening (record b { tables = with_writer b.tables writer })
book_lingered names table opening b writer known by_pools token place found l is =
    book_found names table opening b writer known by_pools token (linger_same place found l (written_by b.tables.writer) (written_by writer) is)
    (subst (λ (w : WriterView). KeepsAnswers (written_by b.tables.writer).looks w.looks) (sym is) (answers_lingered (written_by b.tables.writer) l (names_frame found l.wait.serial)))
