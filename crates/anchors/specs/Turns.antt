-- When a turn of a process may end.
-- Source: Erlang/OTP, the manual page of the module code (check_process_code); turn words are this project's own.
use Rattle.std.specs.Prelude.{◌≡◌, ℕ, ◌+◌, ◌≤◌, ◌⊎◌, length}
use Rattle.marks.specs.declared.kept.LookKind.{LookKind}
use Rattle.marks.specs.Names.{MarkNames}
use Rattle.shared_words.specs.declared.view.MemberView.{MemberView}
use Rattle.shared_words.specs.Processes.{process_of}
use Rattle.anchors.specs.Holds.{anchors_of}

-- the last turn word that there is
abbrev pub LAST_TURN : ℕ
LAST_TURN = 4294967295

-- the number is one more than the marks that the member keeps of the process, or the last one where at least so many are kept
-- and the slot names nothing
abbrev pub MayMark : ℕ → ℕ → MemberView → Type 0
MayMark process turns m =
    (turns ≡ length (process_of m process).marks + 1) ⊎ ((turns ≡ LAST_TURN) × (LAST_TURN ≤ length (process_of m process).marks) × ((kind : LookKind) (serial : ℕ) → MarkNames kind (anchors_of m process) serial → ⊥))
