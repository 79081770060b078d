use Rattle.std.proofs.Common.{rules, of_calls, ◌≡◌, ℕ, Bool, true, false, List, refl, cond, ltb, sym, ap, ◌∙◌, length}
use Rattle.std.specs.Prelude.{Some, None}
use Rattle.std.specs.List.Sorted.{IsPartitionPoint}
use Rattle.std.proofs.lemmas.Bool.{ltb-false, ltb-true}
use Rattle.std.proofs.lemmas.Fn.{always_returns_same}
use Rattle.std.proofs.lemmas.List.Sorted.{IsPartitionedBy-ltb}
use Rattle.std.proofs.lemmas.Option.{slice_get_past, slice_get_read}
use Rattle.scope_rule.proofs.Placed.{found_by_halves, place_at}
use Rattle.scope_rule.proofs.places.place_by_halves.Goals as goal

pub returns-then-eq : goal.returns-then-eq
returns-then-eq c =
    let xs : List ℕ = c.args.noted.now in
    let q : ℕ = c.args.serial in
    let place : ℕ = c.partition_point-place.result in
    let point : IsPartitionPoint (λ n. ltb n q ≡ true) (λ n. ltb n q ≡ false) xs place =
    c.partition_point-place.ensures.partitioned (λ n. ltb n q) (always_returns_same _ _ _ (λ a r f k. search (rules, of_calls))) (IsPartitionedBy-ltb (λ (n : ℕ). n) xs q c.requires) in
    sym (ap (λ (b : Bool). cond b (Some place) None) (sym c.eq.ensures ∙ c.if-eq.true))
    ∙ sym (ap (place_at q place) (slice_get_read xs (length xs) place c.in_ok-found.found.now refl (ltb-true place (length xs) (sym c.in_ok-found.ensures.lookup.0)) c.in_ok-found.ensures.lookup.1))
    ∙ found_by_halves q place xs c.requires point

pub returns-else-eq : goal.returns-else-eq
returns-else-eq c =
    let xs : List ℕ = c.args.noted.now in
    let q : ℕ = c.args.serial in
    let place : ℕ = c.partition_point-place.result in
    let point : IsPartitionPoint (λ n. ltb n q ≡ true) (λ n. ltb n q ≡ false) xs place =
    c.partition_point-place.ensures.partitioned (λ n. ltb n q) (always_returns_same _ _ _ (λ a r f k. search (rules, of_calls))) (IsPartitionedBy-ltb (λ (n : ℕ). n) xs q c.requires) in
    sym (ap (λ (b : Bool). cond b (Some place) None) (sym c.eq.ensures ∙ c.if-eq.false))
    ∙ sym (ap (place_at q place) (slice_get_read xs (length xs) place c.in_ok-found.found.now refl (ltb-true place (length xs) (sym c.in_ok-found.ensures.lookup.0)) c.in_ok-found.ensures.lookup.1))
    ∙ found_by_halves q place xs c.requires point

pub returns-in_err-found : goal.returns-in_err-found
returns-in_err-found c =
    let xs : List ℕ = c.args.noted.now in
    let q : ℕ = c.args.serial in
    let place : ℕ = c.partition_point-place.result in
    let point : IsPartitionPoint (λ n. ltb n q ≡ true) (λ n. ltb n q ≡ false) xs place =
    c.partition_point-place.ensures.partitioned (λ n. ltb n q) (always_returns_same _ _ _ (λ a r f k. search (rules, of_calls))) (IsPartitionedBy-ltb (λ (n : ℕ). n) xs q c.requires) in
    c.from_residual.ensures ∙ sym (ap (place_at q place) (slice_get_past xs place (ltb-false place (length xs) (sym c.in_err-found.ensures.lookup.0)))) ∙ found_by_halves q place xs c.requires point
