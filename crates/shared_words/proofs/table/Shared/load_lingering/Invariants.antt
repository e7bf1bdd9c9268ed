use Rattle.shared_words.proofs.table.Shared.load_lingering.Given as goal

-- the instance and the turns of the call
abbrev pub ghosts-linger_at : goal.ghosts-linger_at
ghosts-linger_at g a = record { serial = a._area.serial; turns = a._turns }
