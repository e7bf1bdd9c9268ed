use Rattle.shared_words.proofs.table.Shared.store_root_dropping.Given as goal

-- the area of the call
abbrev pub ghosts-root_at : goal.ghosts-root_at
ghosts-root_at g a = record { serial = a._serial }
