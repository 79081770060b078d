use Rattle.test_words.proofs.word_tests.threads.added.Given as goal

abbrev pub ghosts-both_add : goal.ghosts-both_add
ghosts-both_add g a = record { table = a.fresh }
