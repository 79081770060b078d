use Rattle.word_rule.specs.declared.kind.Kind.TheVariants.{Hart}
use Rattle.word_steps.proofs.hand.Hand.store_word.Given as goal

abbrev pub ghosts-store_as : goal.ghosts-store_as
ghosts-store_as g a = record { kind = Hart a._aim.now }
