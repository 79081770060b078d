use Rattle.std.proofs.Common.{◌≡◌, ℕ, List, Option, Some, None, sym}
use Rattle.std.specs.Prelude.{IfNone, IfSome, find, position}
use Rattle.history_state.specs.Objects.{has_object}
use Rattle.scope_rule.specs.declared.namespace.Namespace.{Namespace}
use Rattle.link_names.specs.Kept.{IsHome}
use Rattle.link_names.proofs.Homes.{first_has}
use Rattle.link_names.proofs.Standing.{none_found}
use Rattle.link_names.proofs.kept.home.Goals as goal

there : (nss : List Namespace) (owner : ℕ) (x : Option ℕ) → x ≡ position (has_object owner) nss → IfSome x (IsHome nss owner)
there nss owner (Some place) is = first_has nss owner place (sym is)
there nss owner None is = tt

none : (nss : List Namespace) (owner : ℕ) (x : Option ℕ) → x ≡ position (has_object owner) nss → IfNone x (find (has_object owner) nss ≡ None)
none nss owner (Some place) is = tt
none nss owner None is = none_found (has_object owner) nss (sym is)

pub returns-in-None-clause-there : goal.returns-in-None-clause-there
returns-in-None-clause-there c = there c.args.namespaces.now c.args.owner c.first_home.result c.first_home.ensures

pub returns-in-None-clause-none : goal.returns-in-None-clause-none
returns-in-None-clause-none c = none c.args.namespaces.now c.args.owner c.first_home.result c.first_home.ensures
