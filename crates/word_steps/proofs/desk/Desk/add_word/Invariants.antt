use Rattle.word_rule.specs.declared.kind.Kind.TheVariants.{Keeper}
use Rattle.word_steps.proofs.desk.Desk.add_word.Given as goal

abbrev pub ghosts-add_as : goal.ghosts-add_as
ghosts-add_as g a = record { kind = Keeper a._aim.now }
