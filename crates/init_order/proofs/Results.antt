-- What holds where a call is answered with Ok, and a walk written in another way.
use Rattle.std.proofs.Common.{◌≡◌, ℕ, ◌<◌, true, false, List, Option, Some, None, Result, Ok, Err, refl, sym, subst}
use Rattle.std.specs.Option.{is_some}
use Rattle.std.specs.Result.{OnOk, is_ok}
use Rattle.std.proofs.lemmas.Bool.{true≢false}
use Rattle.history_graph.specs.declared.graph.Edge.{Edge}
use Rattle.init_order.specs.declared.walk.Mark.{Mark}
use Rattle.init_order.specs.declared.walk.Step.{Step}
use Rattle.init_order.specs.Walked.{Walked, work}

pub by_ok : {T E : Type 0} (r : Result T E) (Q : Type 0) → (is_ok r ≡ true → Q) → OnOk r Q
by_ok (Ok x) Q f = f refl
by_ok (Err e) Q f = tt

pub at_ok : {T E : Type 0} (r : Result T E) (P : Type 0) → is_ok r ≡ true → OnOk r P → P
at_ok (Ok x) P ok p = p
at_ok (Err e) P ok p = absurd (true≢false (sym ok))

pub some_number : (a b : ℕ) → Some a ≡ Some b → a ≡ b
some_number a b h = cc

pub none_of : {X : Type 0} (o : Option X) → false ≡ is_some o → o ≡ None
none_of None h = refl
none_of (Some x) h = absurd (true≢false (sym h))

pub some_of : {X : Type 0} (o : Option X) → true ≡ is_some o → (x : X) × (o ≡ Some x)
some_of None h = absurd (true≢false h)
some_of (Some x) h = (x, refl)

-- a walk that is written in another way
pub walked_as : (edges : List Edge) (marks : ℕ → Option Mark) (path path' starts starts' : List ℕ) (pending pending' : List Step) (visited visited' : List ℕ) (count count' : ℕ)
    → path' ≡ path → starts' ≡ starts → pending' ≡ pending → visited' ≡ visited → count' ≡ count
    → Walked edges marks path starts pending visited count → Walked edges marks path' starts' pending' visited' count'
walked_as edges marks path path' starts starts' pending pending' visited visited' count count' e1 e2 e3 e4 e5 w =
    subst (λ (x : List ℕ). Walked edges marks x starts' pending' visited' count') (sym e1)
    (subst (λ (x : List ℕ). Walked edges marks path x pending' visited' count') (sym e2)
    (subst (λ (x : List Step). Walked edges marks path starts x visited' count') (sym e3)
    (subst (λ (x : List ℕ). Walked edges marks path starts pending x count') (sym e4)
    (subst (λ (x : ℕ). Walked edges marks path starts pending visited x) (sym e5) w))))

pub work_as : (edges : List Edge) (marks : ℕ → Option Mark) (starts starts' : List ℕ) (pending pending' : List Step) (n : ℕ)
    → starts' ≡ starts → pending' ≡ pending → work edges marks starts pending < n → work edges marks starts' pending' < n
work_as edges marks starts starts' pending pending' n e1 e2 h =
    subst (λ (x : List ℕ). work edges marks x pending' < n) (sym e1) (subst (λ (x : List Step). work edges marks starts x < n) (sym e2) h)
