use Rattle.shared_words.proofs.table.Shared.store_release.Given as goal

-- the area of the call
abbrev pub ghosts-release_at : goal.ghosts-release_at
ghosts-release_at g a = record { serial = a._serial }
