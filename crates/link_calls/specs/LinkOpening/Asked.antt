-- What is asked of an opening (dlmopen(3)).
use Rattle.std.specs.Prelude.{◌<◌, ℕ, List, Option}
use Rattle.std.specs.List.{AllByRecursion}
use Rattle.ld_base.specs.declared.fault.DlFault.{DlFault}
use Rattle.ld_base.specs.declared.fault.DlFault.TheVariants as faults
use Rattle.history_state.specs.Asking.{AreNamespacesFull, IsBadNamespace}
use Rattle.history_state.specs.State.{State}
use Rattle.scope_rule.specs.declared.namespace.Namespace.{Namespace}

-- the numbers of namespaces are those below 16
abbrev pub AreFew : List Namespace → Type 0
AreFew namespaces = AllByRecursion (λ ns. ns.id < 16) namespaces

-- no namespace is had for what is asked: there is no such one, or there are as many as there may be
pub data RefusesNamespace (s : State) (ns : Option ℕ) (name : Option (List ℕ)) : DlFault → Type 0 where
  bad : (number : ℕ) → IsBadNamespace s ns name number → RefusesNamespace s ns name (faults.BadNamespace number)
  full : AreNamespacesFull s ns name → RefusesNamespace s ns name faults.NamespacesFull
