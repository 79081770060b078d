use Rattle.test_words.proofs.word_tests.said.Given as goal

abbrev pub ghosts-said_over : goal.ghosts-said_over
ghosts-said_over a = record { table = a.fresh }
