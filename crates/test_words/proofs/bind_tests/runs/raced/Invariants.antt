use Rattle.test_words.proofs.bind_tests.runs.raced.Given as goal

abbrev pub ghosts-race_over : goal.ghosts-race_over
ghosts-race_over a = record { table = a.fresh }
