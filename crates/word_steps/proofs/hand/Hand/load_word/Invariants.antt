use Rattle.word_rule.specs.declared.kind.Kind.TheVariants.{Hart}
use Rattle.word_steps.proofs.hand.Hand.load_word.Given as goal

abbrev pub ghosts-load_as : goal.ghosts-load_as
ghosts-load_as g a = record { kind = Hart a._aim.now }
