use Rattle.std.proofs.Common.{List, ℕ, [], ◌∷◌, length, sym, ap, subst, ◌∙◌}
use Rattle.std.proofs.lemmas.List.{length-replicate}
use Rattle.word_rule.specs.declared.view.View.TheVariants.{Keeper}
use Rattle.word_rule.specs.Layout.{table_words}
use Rattle.word_rule.specs.Rule.{IsGuest}
use Rattle.word_rule.specs.Start.{first_keeper}
use Rattle.word_rule.specs.Lemmas.Begins.{begins}
use Rattle.word_steps.proofs.memory.fresh.Memory+Brand.new.Goals as goal

pub of_words-requires : goal.of_words-requires
of_words-requires c = subst (λ (words : List ℕ). IsGuest words (Keeper first_keeper ∷ [])) (sym (c.as_slice.ensures.value ∙ c.in_ok-words.ensures)) begins

pub invariant_of-result : goal.invariant_of-result
invariant_of-result c = (
  c.in_ok-table.ensures.2,
  (c.in_ok-table.ensures.0 ∙ (ap length (c.as_slice.ensures.value ∙ c.in_ok-words.ensures) ∙ length-replicate table_words 0), (c.in_ok-table.ensures.4, tt)),
)
