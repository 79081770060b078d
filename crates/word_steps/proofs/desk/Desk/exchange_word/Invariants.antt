use Rattle.word_rule.specs.declared.kind.Kind.TheVariants.{Keeper}
use Rattle.word_steps.proofs.desk.Desk.exchange_word.Given as goal

abbrev pub ghosts-exchange_as : goal.ghosts-exchange_as
ghosts-exchange_as g a = record { kind = Keeper a._aim.now }
