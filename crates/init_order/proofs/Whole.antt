-- A walk that is over.
use Rattle.std.proofs.Common.{◌≡◌, ℕ, ◌<◌, List, [], ◌∷◌, length, Option, Some, None, sym, ap, subst, arith}
use Rattle.std.specs.Prelude.{IsSome, nat_eq}
use Rattle.std.specs.HashMap.{get}
use Rattle.std.specs.Option.{is_some}
use Rattle.std.specs.List.{Contains}
use Rattle.std.specs.List.Sorted.{IsPermutation}
use Rattle.std.proofs.lemmas.List.Sorted.{Contains-permutation, IsPermutation-sym}
use Rattle.history_graph.specs.declared.graph.Edge.{Edge}
use Rattle.history_graph.specs.Reached.{Reached}
use Rattle.history_graph.specs.Reached.Reached.{root, on}
use Rattle.init_order.specs.declared.components.Components.{Components}
use Rattle.init_order.specs.declared.walk.Mark.{Mark}
use Rattle.init_order.specs.declared.walk.Mark.TheVariants.{OnPath, Settled}
use Rattle.init_order.specs.declared.walk.Step.{Step}
use Rattle.init_order.specs.Components.{AreComponents, number_of, settled_in}
use Rattle.init_order.specs.Walked.{Walked}

reached_by : (edges successors : List Edge) (roots : List ℕ) (d : ℕ) → IsPermutation edges successors → Reached successors roots d → Reached edges roots d
reached_by edges successors roots d same (root there) = root there
reached_by edges successors roots d same (on e there before) =
    on e (Contains-permutation successors edges e (IsPermutation-sym edges successors same) there) (reached_by edges successors roots e.source same before)

-- a number is a mark
marked : (o : Option Mark) (c : ℕ) → settled_in o ≡ Some c → o ≡ Some (Settled c)
marked None c h = absurd (none c h)
  where
    none : (c : ℕ) → ◌≡◌ {A = Option ℕ} None (Some c) → ⊥
    none c h = cc
marked (Some (OnPath i)) c h = absurd (none c h)
  where
    none : (c : ℕ) → ◌≡◌ {A = Option ℕ} None (Some c) → ⊥
    none c h = cc
marked (Some (Settled d)) c h = ap (λ (n : ℕ). Some (Settled n)) (same d c h)
  where
    same : (d c : ℕ) → Some d ≡ Some c → d ≡ c
    same d c h = cc

pub are_components : (edges successors : List Edge) (roots starts visited : List ℕ) (pending : List Step) (count : ℕ) (path : List ℕ) (k : Components)
    → k.count ≡ count → IsPermutation edges successors → path ≡ [] → ((q : ℕ) → Contains roots q → Contains visited q)
    → Walked successors (λ q. get nat_eq k.marks q) path starts pending visited count → AreComponents edges roots k
are_components edges successors roots starts visited pending count path k so_many same free rooted w = record {
  rooted = λ q there. let seen = w.seen_only q (rooted q there) in in_one q seen.0 seen.1;
  counted = λ q c is. subst (λ (n : ℕ). c < n) (sym so_many) (w.counted q c (marked (get nat_eq k.marks q) c is));
  closed = λ e c there is.
      let next = w.closed e c (Contains-permutation edges successors e same there) (marked (get nat_eq k.marks e.source) c is) in
      (next.0, ap settled_in next.1, next.2);
  joined = λ u v c is is'. reached_by edges successors (u ∷ []) v same (w.settled u v c (marked (get nat_eq k.marks u) c is) (marked (get nat_eq k.marks v) c is'));
}
  where
    in_one : (q : ℕ) (m : Mark) → get nat_eq k.marks q ≡ Some m → IsSome (number_of k q)
    in_one q (OnPath i) is = let within = (w.on_path q i 0 is).0 in absurd (omega (arith, ap length free))
    in_one q (Settled c) is = ap (λ (o : Option Mark). is_some (settled_in o)) is
