use Rattle.shared_words.proofs.table.Shared.split_note.Given as goal

-- the process of the call
abbrev pub ghosts-note_for : goal.ghosts-note_for
ghosts-note_for g a = record { process = a.process }
