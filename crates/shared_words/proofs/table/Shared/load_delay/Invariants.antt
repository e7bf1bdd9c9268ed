use Rattle.shared_words.proofs.table.Shared.load_delay.Given as goal

-- the watchers of the table
abbrev pub ghosts-look_at_delay : goal.ghosts-look_at_delay
ghosts-look_at_delay g a = record { made = a.table.now.key.watchers }
