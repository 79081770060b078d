-- The worked schedules.
use Rattle.std.proofs.Common.{◌≡◌, inl, inr, ⊎_elim, ℕ, ◌^◌, ◌<◌, ◌≤◌, List, [], ◌∷◌, ◌++◌, length, get_or, drop, codes, refl, sym, ap, subst, ◌∙◌, arith}
use Rattle.std.specs.Fmt.{decimal, digits}
use Rattle.std.proofs.lemmas.Fmt.{decimal_digit, decimal_injective}
use Rattle.world_turns.specs.SchedulesPart.Grammar.{AreItems, IsItem, SaysTurns, parts_of}
use Rattle.world_turns.specs.SchedulesPart.Worked.{InOrder, NoHart, NoTurn, Once, Race, turns}
use Rattle.world_turns.specs.declared.schedules.schedule.TurnItem.{TurnItem}

pub race : Race
unfolding digits
race = SaysTurns.by_items (turns 0 18 ∷ turns 1 29 ∷ turns 0 2 ∷ []) (
  record { hart = omega arith; some = omega arith; most = omega arith; written = inl refl },
  (
    record { hart = omega arith; some = omega arith; most = omega arith; written = inl refl },
    (record { hart = omega arith; some = omega arith; most = omega arith; written = inl refl }, tt),
  ),
)

pub in_order : InOrder
in_order = SaysTurns.in_order refl

pub once : Once
unfolding digits
once = SaysTurns.by_items (turns 1 1 ∷ turns 0 1 ∷ []) (
  record { hart = omega arith; some = omega arith; most = omega arith; written = inr (refl, refl) },
  (record { hart = omega arith; some = omega arith; most = omega arith; written = inr (refl, refl) }, tt),
)

-- ---- schedules of one hart that are none

first_hart : (h : ℕ) → h < 1 → decimal h ≡ codes "0"
first_hart h less = ap decimal (let is : h ≡ 0 = omega (arith, less) in is) ∙ decimal_digit 0 (omega arith)

-- the one item of a text without a comma
one_item : (text : List ℕ) → parts_of text ≡ text ∷ [] → length text ≡ 3 → ((item : TurnItem) → IsItem 1 text item → ⊥) → (text ≡ codes "rr" → ⊥) → (items : List TurnItem) → SaysTurns 1 text items → ⊥
one_item text one long none differs items (SaysTurns.in_order is) = differs is
one_item text one long none differs items (SaysTurns.by_items _ are) = by items (subst (λ (parts : List (List ℕ)). AreItems 1 parts items) one are)
  where
    by : (all : List TurnItem) → AreItems 1 (text ∷ []) all → ⊥
    by [] is = is
    by (item ∷ rest) is = none item is.0

not_alone : (text : List ℕ) → length text ≡ 3 → (h : ℕ) → h < 1 → text ≡ decimal h → ⊥
not_alone text long h less is =
    let short : length text ≡ 1 = ap (λ (t : List ℕ). length t) (is ∙ first_hart h less) in
    omega (arith, long, short)

not_rr : (text : List ℕ) → length text ≡ 3 → text ≡ codes "rr" → ⊥
not_rr text long is = let short : length text ≡ 2 = ap (λ (t : List ℕ). length t) is in omega (arith, long, short)

pub no_hart : NoHart
no_hart = one_item (codes "1*3") refl refl none (not_rr (codes "1*3") refl)
  where
    none : (item : TurnItem) → IsItem 1 (codes "1*3") item → ⊥
    none item x = ⊎_elim
        (λ (both : codes "1*3" ≡ decimal item.hart ++ codes "*" ++ decimal item.count).
        let whole : codes "1*3" ≡ codes "0" ++ codes "*" ++ decimal item.count = both ∙ ap (λ (t : List ℕ). t ++ codes "*" ++ decimal item.count) (first_hart item.hart x.hart) in
        let firsts : 49 ≡ 48 = ap (λ (t : List ℕ). get_or t 0 0) whole in
        omega (arith, firsts))
        (λ (alone : (codes "1*3" ≡ decimal item.hart) × (item.count ≡ 1)). not_alone (codes "1*3") refl item.hart x.hart alone.0)
        x.written

pub no_turn : NoTurn
no_turn = one_item (codes "0*0") refl refl none (not_rr (codes "0*0") refl)
  where
    none : (item : TurnItem) → IsItem 1 (codes "0*0") item → ⊥
    none item x = ⊎_elim
        (λ (both : codes "0*0" ≡ decimal item.hart ++ codes "*" ++ decimal item.count).
        let whole : codes "0*0" ≡ codes "0" ++ codes "*" ++ decimal item.count = both ∙ ap (λ (t : List ℕ). t ++ codes "*" ++ decimal item.count) (first_hart item.hart x.hart) in
        let count : codes "0" ≡ decimal item.count = ap (λ (t : List ℕ). drop 2 t) whole in
        let most : item.count ≤ 2 ^ 32 = x.most in
        let some : 1 ≤ item.count = x.some in
        let none_is : item.count ≡ 0 = decimal_injective item.count 0 (omega (arith, most)) (omega arith) (sym count ∙ sym (decimal_digit 0 (omega arith))) in
        omega (arith, some, none_is))
        (λ (alone : (codes "0*0" ≡ decimal item.hart) × (item.count ≡ 1)). not_alone (codes "0*0") refl item.hart x.hart alone.0)
        x.written
