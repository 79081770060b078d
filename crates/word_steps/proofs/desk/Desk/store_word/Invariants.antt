use Rattle.word_rule.specs.declared.kind.Kind.TheVariants.{Keeper}
use Rattle.word_steps.proofs.desk.Desk.store_word.Given as goal

abbrev pub ghosts-store_as : goal.ghosts-store_as
ghosts-store_as g a = record { kind = Keeper a._aim.now }
