use Rattle.std.proofs.Common.{◌+◌, ◌≤◌, sym, subst}
use Rattle.history_state.specs.After.{after}
use Rattle.history_state.specs.Owed.{brings, owed}
use Rattle.history_state.specs.State.{State}
use Rattle.history_state.specs.Lemmas.History.{after_push}
use Rattle.history_state.proofs.Owing.{rises, spends}
use Rattle.history_state.proofs.law.events_are_owed.Goals as goal

pub returns-clause-spends : goal.returns-clause-spends
returns-clause-spends c m w harts past e same lawful may owes =
    subst (λ (s : State). owed harts s + 1 ≤ owed harts (after past)) (sym (after_push past e))
    (spends harts (record { serials = c.serials_follow.ensures; leads = c.found_stands.ensures.names; founds = c.found_stands.ensures.founds }) m w past e lawful may owes)

pub returns-clause-rises : goal.returns-clause-rises
returns-clause-rises c harts past e = subst (λ (s : State). owed harts s ≤ owed harts (after past) + brings e) (sym (after_push past e)) (rises harts (after past) e)
