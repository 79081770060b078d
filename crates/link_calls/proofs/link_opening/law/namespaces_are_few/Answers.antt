use Rattle.std.proofs.Common.{arith}
use Rattle.history_state.specs.After.{after}
use Rattle.history_state.specs.Lemmas.History.{by_lawful}
use Rattle.link_calls.specs.LinkOpening.Asked.{AreFew}
use Rattle.link_calls.proofs.LinkOpening.Few.{stepped_few}
use Rattle.link_calls.proofs.link_opening.law.namespaces_are_few.Goals as goal

pub returns : goal.returns
returns c m events lawful =
    by_lawful m (λ s. AreFew s.namespaces) (omega arith, tt) (λ w past e same before few may. stepped_few w past (after past) e may few) events lawful
