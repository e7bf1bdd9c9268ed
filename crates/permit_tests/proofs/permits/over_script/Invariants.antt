-- The names are those of the table.
use Rattle.permit_tests.proofs.permits.over_script.Given as goal

abbrev pub ghosts-over_words : goal.ghosts-over_words
ghosts-over_words a = record { names = a.exports }
