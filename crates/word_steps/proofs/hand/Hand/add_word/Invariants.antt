use Rattle.word_rule.specs.declared.kind.Kind.TheVariants.{Hart}
use Rattle.word_steps.proofs.hand.Hand.add_word.Given as goal

abbrev pub ghosts-add_as : goal.ghosts-add_as
ghosts-add_as g a = record { kind = Hart a._aim.now }
