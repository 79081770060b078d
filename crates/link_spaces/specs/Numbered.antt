-- Namespaces by their numbers.
use Rattle.std.specs.Prelude.{◌≡◌, false, List, [], ◌∷◌}
use Rattle.std.specs.List.{list_any}
use Rattle.history_state.specs.Objects.{has_id}
use Rattle.scope_rule.specs.declared.namespace.Namespace.{Namespace}

-- no two have one number
abbrev pub AreNumberedApart : List Namespace → Type 0
AreNumberedApart [] = Unit {0}
AreNumberedApart (ns ∷ rest) = (list_any (has_id ns.id) rest ≡ false) × AreNumberedApart rest
