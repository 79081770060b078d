-- Results, and a list that was lent.
use Rattle.std.proofs.Common.{◌≡◌, ℕ, List, [], ◌++◌, length, map, take, drop, Result, Ok, Err, IfErr, IfOk, sym, ap, subst, ◌∙◌, arith}
use Rattle.std.specs.Result.{IsErrAnd}
use Rattle.std.proofs.lemmas.List.{append-nil, drop_all, length-map, take_all}
use Rattle.history_calls.specs.CallLaws.Counts.{ShowsInCounts}
use Rattle.link_open_plan.specs.Planned.{fault_in, refusal_in}
use Rattle.link_open_plan.specs.declared.planning.Unopened.{Unopened}

pub if_ok : {X E : Type 0} (r : Result X E) (P Q : X → Type 0) → ((x : X) → P x → Q x) → IfOk r P → IfOk r Q
if_ok (Ok x) P Q every h = every x h
if_ok (Err e) P Q every h = h

pub err_as : {X E : Type 0} (r : Result X E) (x : E) (P : E → Type 0) → IsErrAnd r (λ e. e ≡ x) → P x → IfErr r P
err_as (Ok a) x P is h = absurd is
err_as (Err e) x P is h = subst P (sym is) h

pub counts_as : {X : Type 0} (r : Result X Unopened) (why : Unopened) (Are : List ℕ → List (List ℕ) → Type 0) (failures failures' misses misses' : ℕ) → IsErrAnd r (λ e. e ≡ why)
    → ShowsInCounts Are (fault_in why) failures failures' misses misses' → ShowsInCounts Are (refusal_in r) failures failures' misses misses'
counts_as (Ok a) why Are failures failures' misses misses' is h = absurd is
counts_as (Err e) why Are failures failures' misses misses' is h = subst (λ (y : Unopened). ShowsInCounts Are (fault_in y) failures failures' misses misses') (sym is) h

-- what is written to the whole of a list that was lent is the list then
pub written : {X Y : Type 0} (f : X → Y) (items slice new : List X) (n : ℕ) → slice ≡ items → length slice ≡ n → map f new ≡ map f slice → take n (new ++ drop (length new) items) ≡ new
written f items slice new n same len is =
    let long : length new ≡ length slice = sym (length-map new f) ∙ ap length is ∙ length-map slice f in
    let all : length slice ≡ length items = ap length same in
    let none : drop (length new) items ≡ [] = drop_all (length new) items (omega (arith, long, all)) in
    ap (take n) (ap (λ rest. new ++ rest) none ∙ append-nil new) ∙ take_all n new (omega (arith, long, len))
