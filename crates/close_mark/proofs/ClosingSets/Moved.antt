-- The same graph by other names.
use Rattle.std.proofs.Common.{◌≡◌, ℕ, List, subst}
use Rattle.history_graph.specs.Reached.{Unneeded}
use Rattle.history_graph.specs.declared.graph.Edge.{Edge}

pub moved : (es fs : List Edge) (rs qs ns ms set kept : List ℕ) → es ≡ fs → rs ≡ qs → ns ≡ ms → set ≡ kept → Unneeded es rs ns set → Unneeded fs qs ms kept
moved es fs rs qs ns ms set kept a b c d u =
    subst (λ (x : List Edge). Unneeded x qs ms kept) a (subst (λ (x : List ℕ). Unneeded es x ms kept) b (subst (λ (x : List ℕ). Unneeded es rs x kept) c (subst (Unneeded es rs ns) d u)))
