-- The namespace of a caller, by what holds its address.
use Rattle.std.proofs.Common.{◌≡◌, ℕ, ◌<◌, List, sym, subst, ◌∙◌}
use Rattle.std.specs.Prelude.{◌^◌, IsTrue}
use Rattle.history_event.specs.declared.event.Event.{Event}
use Rattle.history_state.specs.Accepted.{AcceptsOnly}
use Rattle.history_state.specs.After.{after}
use Rattle.history_state.specs.Legal.{Lawful}
use Rattle.history_state.specs.Objects.{has_namespace}
use Rattle.history_state.specs.Setting.{Machine}
use Rattle.history_calls.specs.Call.{caller_namespace}
use Rattle.history_calls.specs.Laws.{CallersAreHolders, CallersAreThere, OthersAreBase}
use Rattle.link_spaces.specs.ObjectHolders.Holders.{HasNone, IsFound}

module _ (m : Machine) (events : List Event) (only : AcceptsOnly m) (lawful : Lawful m events) (ra : ℕ) where
  pub held_caller : CallersAreHolders → ra < 2 ^ 64 → (id serial : ℕ) → IsFound (after events).namespaces ra id serial → id ≡ caller_namespace (after events) ra
  held_caller holders word id serial found =
      sym (holders m events only lawful found.namespace found.among.object ra word (record { there = found.there; inside = found.among.inside }) found.among.has ∙ found.numbered)

  pub other_caller : OthersAreBase → HasNone (after events).namespaces ra → caller_namespace (after events) ra ≡ 0
  other_caller others none = others m events only lawful ra (λ ns o inside. none ns inside.there o inside.inside)

  pub caller_there : CallersAreThere → (id : ℕ) → id ≡ caller_namespace (after events) ra → IsTrue (has_namespace (after events) id)
  caller_there there id is = subst (λ (n : ℕ). IsTrue (has_namespace (after events) n)) (sym is) (there m events lawful ra)
