-- What a turn over the shared words reads of each generation that its member has learnt of.
-- Source: Erlang/OTP erts internal documentation, CodeLoading and Tracing: a turn sees one state of the code, and the breakpoints in it.
use Rattle.std.specs.Prelude.{◌≡◌, ℕ, List, [], ◌∷◌}
use Rattle.term_core.specs.declared.atom.Mfa.{Mfa}
use Rattle.area_core.specs.declared.table.Published.{Published}
use Rattle.marks.specs.declared.mark.Mark as words
use Rattle.shared_words.specs.Views.{published_at}
use Rattle.machine_core.specs.GenerationReads.{reads_in}
use Rattle.machine_core.specs.Process.{names_of}
use Rattle.machine_core.specs.Reads.{Reads}
use Rattle.run_log.specs.Legal.{Mark}
use Rattle.word_view.specs.Anchored.{holds_by}

-- what a turn reads of a generation that was learnt of
abbrev pub reads_under : List Mfa → List Published → ℕ → Reads
reads_under names seen g = reads_in names (published_at seen g).state

-- each mark in the words, oldest first, is that of a turn of the log: of its generation, and it names what the process named after it
abbrev pub MarksTell : List words.Mark → List Mark → Type 0
MarksTell [] [] = Unit {0}
MarksTell [] (turn ∷ turns) = ⊥
MarksTell (m ∷ marks) [] = ⊥
MarksTell (m ∷ marks) (turn ∷ turns) = (m.generation ≡ turn.generation) × ((holds_by m.anchors ≡ names_of turn.process) × MarksTell marks turns)
