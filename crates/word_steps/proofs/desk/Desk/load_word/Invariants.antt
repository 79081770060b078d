use Rattle.word_rule.specs.declared.kind.Kind.TheVariants.{Keeper}
use Rattle.word_steps.proofs.desk.Desk.load_word.Given as goal

abbrev pub ghosts-load_as : goal.ghosts-load_as
ghosts-load_as g a = record { kind = Keeper a._aim.now }
