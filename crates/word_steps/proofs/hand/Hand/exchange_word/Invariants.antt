use Rattle.word_rule.specs.declared.kind.Kind.TheVariants.{Hart}
use Rattle.word_steps.proofs.hand.Hand.exchange_word.Given as goal

abbrev pub ghosts-exchange_as : goal.ghosts-exchange_as
ghosts-exchange_as g a = record { kind = Hart a._aim.now }
