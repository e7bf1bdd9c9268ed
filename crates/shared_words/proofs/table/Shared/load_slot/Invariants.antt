use Rattle.shared_words.proofs.table.Shared.load_slot.Given as goal

-- the look of the call
abbrev pub ghosts-look_at : goal.ghosts-look_at
ghosts-look_at g a = record { look = a._look }
