use Rattle.std.proofs.Common.{subst}
use Rattle.word_rule.specs.declared.view.HartView.{HartView}
use Rattle.word_rule.specs.Views.{NoneLater, known_of}
use Rattle.word_memory.proofs.seat.generation.Goals as goal

pub returns-clause-latest : goal.returns-clause-latest
returns-clause-latest g c = subst (λ (h : HartView). NoneLater c.load_word.result (known_of h.lane)) c.seat.view_is c.load_word.ensures.learns
