use Rattle.std.proofs.Common.{refl}
use Rattle.history_state.specs.After.{after}
use Rattle.history_state.specs.Lemmas.History.{by_lawful}
use Rattle.link_spaces.specs.Numbered.{AreNumberedApart}
use Rattle.link_spaces.proofs.Numbered.{stepped_apart}
use Rattle.link_spaces.proofs.law.namespaces_are_numbered_apart.Goals as goal

pub returns : goal.returns
returns c m events lawful =
    by_lawful m (λ s. AreNumberedApart s.namespaces) (refl, tt) (λ w past e same before apart may. stepped_apart (after past) e apart) events lawful
