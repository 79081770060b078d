-- What a text says as a schedule: one list of items at most; whether it says any can be told; and then it is UTF-8.
use Rattle.std.proofs.Common.{◌≡◌, ◌⊎◌, inl, inr, ⊎_elim, ℕ, zero, suc, ◌^◌, ◌+◌, ◌<◌, ◌≤◌, ◌==◌, Bool, true, false, List, [], ◌∷◌, ◌++◌, length, codes, refl, sym, ap, subst, ◌∙◌, arith, append_assoc, true≢false}
use Rattle.std.proofs.lemmas.Bool.{ne_eqb}
use Rattle.std.proofs.lemmas.Fmt.{decimal_injective, decimal_is_IsNumeral, IsAscii-decimal}
use Rattle.std.proofs.lemmas.List.Elements.{All-nil, All-cons}
use Rattle.std.proofs.lemmas.List.Splits.{slice_split_none, slice_split_at, join_with_byte-slice_split}
use Rattle.std.proofs.lemmas.Slice.Eq.{bytes_eq-Decides}
use Rattle.std.proofs.lemmas.Str.{IsAscii-append, IsUtf8-from_ascii}
use Rattle.std.proofs.lemmas.Str.Ascii.{IsAscii-cons, IsAscii-nil}
use Rattle.std.specs.Char.{digit_value}
use Rattle.std.specs.Fmt.{decimal}
use Rattle.std.specs.List.{All, Contains, slice_index_or, slice_split, join_with_byte}
use Rattle.std.specs.Str.{IsAscii, IsUtf8, bytes_eq}
use Rattle.std.specs.Str.Parse.{AllDigits}
use Rattle.world_turns.specs.SchedulesPart.Grammar.{AreItems, IsItem, SaysTurns, parts_of}
use Rattle.world_turns.specs.declared.schedules.schedule.TurnItem.{TurnItem}

-- ---- one list of items

abbrev by_star : List ℕ → List (List ℕ)
by_star text = slice_split (λ b. b == 42) text

no_star : (ds : List ℕ) → AllDigits 10 ds → All (λ b. (b == 42) ≡ false) ds
no_star [] d = All-nil (λ b. (b == 42) ≡ false)
no_star (c ∷ cs) d =
    let differs : c ≡ 42 → ⊥ = λ e. let small : digit_value 42 < 10 = subst (λ b. digit_value b < 10) e d.0 in omega (arith, small) in
    All-cons (λ b. (b == 42) ≡ false) c cs (ne_eqb c 42 differs) (no_star cs d.1)

decimal_free : (n : ℕ) → n < 2 ^ 64 → All (λ b. (b == 42) ≡ false) (decimal n)
decimal_free n h = no_star (decimal n) (decimal_is_IsNumeral n h).0.1

-- what stands between stars is what the item says
abbrev Parts : List ℕ → ℕ → ℕ → Type 0
Parts text h c = (by_star text ≡ decimal h ∷ decimal c ∷ []) ⊎ ((by_star text ≡ decimal h ∷ []) × (c ≡ 1))

starred : (h c : ℕ) → decimal h ++ codes "*" ++ decimal c ≡ decimal h ++ (42 ∷ decimal c)
starred h c = append_assoc (decimal h) (codes "*") (decimal c)

written_parts : (text : List ℕ) (h c : ℕ) → h < 2 ^ 64 → c < 2 ^ 64 → (text ≡ decimal h ++ codes "*" ++ decimal c) ⊎ ((text ≡ decimal h) × (c ≡ 1)) → Parts text h c
written_parts text h c below_h below_c (inl both) = inl (
    ap by_star (both ∙ starred h c)
    ∙ slice_split_at (λ b. b == 42) (decimal h) 42 (decimal c) (decimal_free h below_h) refl
    ∙ ap (λ (rest : List (List ℕ)). decimal h ∷ rest) (slice_split_none (λ b. b == 42) (decimal c) (decimal_free c below_c)))
written_parts text h c below_h below_c (inr one) = inr (
  ap by_star one.0 ∙ slice_split_none (λ b. b == 42) (decimal h) (decimal_free h below_h),
  one.1,
)

parts : (harts : ℕ) (text : List ℕ) (item : TurnItem) → harts ≤ 2 ^ 32 → IsItem harts text item → Parts text item.hart item.count
parts harts text item few is = written_parts text item.hart item.count (omega (arith, few, is.hart)) (omega (arith, is.most)) is.written

same_item : (a b : TurnItem) → a.hart ≡ b.hart → a.count ≡ b.count → a ≡ b
same_item a b h c = λ i. record { hart = h i; count = c i }

one_item : (harts : ℕ) (text : List ℕ) (a b : TurnItem) → harts ≤ 2 ^ 32 → IsItem harts text a → IsItem harts text b → a ≡ b
one_item harts text a b few p q = either (parts harts text a few p) (parts harts text b few q)
  where
    one_number : (m n : ℕ) → m < 2 ^ 64 → n < 2 ^ 64 → decimal m ≡ decimal n → m ≡ n
    one_number m n below below' e = decimal_injective m n below below' e

    hart : decimal a.hart ≡ decimal b.hart → a.hart ≡ b.hart
    hart e = one_number a.hart b.hart (omega (arith, few, p.hart)) (omega (arith, few, q.hart)) e

    count : decimal a.count ≡ decimal b.count → a.count ≡ b.count
    count e = one_number a.count b.count (omega (arith, p.most)) (omega (arith, q.most)) e

    either : Parts text a.hart a.count → Parts text b.hart b.count → a ≡ b
    either (inl x) (inl y) =
        let both : decimal a.hart ∷ decimal a.count ∷ [] ≡ decimal b.hart ∷ decimal b.count ∷ [] = sym x ∙ y in
        let first : decimal a.hart ≡ decimal b.hart = cc in
        let second : decimal a.count ≡ decimal b.count = cc in
        same_item a b (hart first) (count second)
    either (inl x) (inr y) = let no : decimal a.hart ∷ decimal a.count ∷ [] ≡ decimal b.hart ∷ [] = sym x ∙ y.0 in absurd cc
    either (inr x) (inl y) = let no : decimal a.hart ∷ [] ≡ decimal b.hart ∷ decimal b.count ∷ [] = sym x.0 ∙ y in absurd cc
    either (inr x) (inr y) =
        let alone : decimal a.hart ∷ [] ≡ decimal b.hart ∷ [] = sym x.0 ∙ y.0 in
        let first : decimal a.hart ≡ decimal b.hart = cc in
        same_item a b (hart first) (x.1 ∙ sym y.1)

one_list : (harts : ℕ) (texts : List (List ℕ)) (a b : List TurnItem) → harts ≤ 2 ^ 32 → AreItems harts texts a → AreItems harts texts b → a ≡ b
one_list harts [] [] [] few p q = refl
one_list harts [] [] (y ∷ b) few p q = absurd q
one_list harts [] (x ∷ a) b few p q = absurd p
one_list harts (text ∷ texts) [] b few p q = absurd p
one_list harts (text ∷ texts) (x ∷ a) [] few p q = absurd q
one_list harts (text ∷ texts) (x ∷ a) (y ∷ b) few p q =
    let first : x ≡ y = one_item harts text x y few p.0 q.0 in
    let rest : a ≡ b = one_list harts texts a b few p.1 q.1 in
    λ i. first i ∷ rest i

-- the letters of `rr` are no number
no_letters : (n : ℕ) → n < 2 ^ 64 → codes "rr" ≡ decimal n → ⊥
no_letters n below e =
    let digits : AllDigits 10 (codes "rr") = subst (AllDigits 10) (sym e) (decimal_is_IsNumeral n below).0.1 in
    let small : digit_value 114 < 10 = digits.0 in
    omega (arith, small)

rr_is_none : (harts : ℕ) (items : List TurnItem) → harts ≤ 2 ^ 32 → AreItems harts (codes "rr" ∷ []) items → ⊥
rr_is_none harts [] few are = are
rr_is_none harts (item ∷ items) few are = either (parts harts (codes "rr") item few are.0)
  where
    hart : codes "rr" ≡ decimal item.hart → ⊥
    hart e = no_letters item.hart (omega (arith, few, are.0.hart)) e

    either : Parts (codes "rr") item.hart item.count → ⊥
    either (inl x) = let no : codes "rr" ∷ [] ≡ decimal item.hart ∷ decimal item.count ∷ [] = x in absurd cc
    either (inr x) = let one : codes "rr" ∷ [] ≡ decimal item.hart ∷ [] = x.0 in let same : codes "rr" ≡ decimal item.hart = cc in hart same

rr_alone : (harts : ℕ) (text : List ℕ) (items : List TurnItem) → harts ≤ 2 ^ 32 → text ≡ codes "rr" → AreItems harts (parts_of text) items → ⊥
rr_alone harts text items few is are = rr_is_none harts items few (subst (λ (t : List ℕ). AreItems harts (parts_of t) items) is are)

pub one_schedule : (harts : ℕ) (text : List ℕ) (a b : List TurnItem) → harts ≤ 2 ^ 32 → SaysTurns harts text a → SaysTurns harts text b → a ≡ b
one_schedule harts text a b few (SaysTurns.in_order is) (SaysTurns.in_order is') = refl
one_schedule harts text a b few (SaysTurns.in_order is) (SaysTurns.by_items _ are) = absurd (rr_alone harts text b few is are)
one_schedule harts text a b few (SaysTurns.by_items _ are) (SaysTurns.in_order is) = absurd (rr_alone harts text a few is are)
one_schedule harts text a b few (SaysTurns.by_items _ are) (SaysTurns.by_items _ are') = one_list harts (parts_of text) a b few are are'

-- ---- whether it says any

abbrev Told : Type 0 → Type 0
Told P = P ⊎ (P → ⊥)

told_by : {P : Type 0} (r : Bool) → (r ≡ true → P) → (P → r ≡ true) → Told P
told_by true holds tells = inl (holds refl)
told_by false holds tells = inr (λ p. absurd (true≢false (sym (tells p))))

told_same : (a b : List ℕ) → Told (a ≡ b)
told_same a b = (let d = bytes_eq-Decides a b in told_by (bytes_eq a b) d.0 d.1)

told_number : (a b : ℕ) → Told (a ≡ b)
told_number zero zero = inl refl
told_number zero (suc b) = inr (λ e. omega (arith, e))
told_number (suc a) zero = inr (λ e. omega (arith, e))
told_number (suc a) (suc b) = ⊎_elim (λ (e : a ≡ b). inl (ap suc e)) (λ (never : a ≡ b → ⊥). inr (λ e. never (omega (arith, e)))) (told_number a b)

-- some number below a bound has it
abbrev Below : (ℕ → Type 0) → ℕ → Type 0
Below P bound = (n : ℕ) × (n < bound) × P n

lesser : (n m : ℕ) → n < suc m → (n ≡ m → ⊥) → n < m
lesser zero zero below differs = absurd (differs refl)
lesser zero (suc m) below differs = omega arith
lesser (suc n) zero below differs = absurd (omega (arith, below))
lesser (suc n) (suc m) below differs =
    let less : n < m = lesser n m (omega (arith, below)) (λ e. differs (ap suc e)) in
    omega (arith, less)

one_more : (P : ℕ → Type 0) (bound : ℕ) → (Below P bound → ⊥) → (P bound → ⊥) → (n : ℕ) → n < suc bound → P n → Told (n ≡ bound) → ⊥
one_more P bound none never n below p (inl e) = never (subst P e p)
one_more P bound none never n below p (inr differs) = none (n, lesser n bound below differs, p)

wider : (P : ℕ → Type 0) (bound : ℕ) → Below P bound → Below P (suc bound)
wider P bound x = (let below : x.0 < bound = x.1 in (x.0, omega (arith, below), x.2))

at_bound : (P : ℕ → Type 0) (bound : ℕ) → (Below P bound → ⊥) → Told (P bound) → Told (Below P (suc bound))
at_bound P bound none (inl p) = inl (bound, omega arith, p)
at_bound P bound none (inr never) = inr (λ x. one_more P bound none never x.0 x.1 x.2 (told_number x.0 bound))

or_at_bound : (P : ℕ → Type 0) (bound : ℕ) → Told (Below P bound) → Told (P bound) → Told (Below P (suc bound))
or_at_bound P bound (inl x) told = inl (wider P bound x)
or_at_bound P bound (inr none) told = at_bound P bound none told

told_below : (P : ℕ → Type 0) → ((n : ℕ) → Told (P n)) → (bound : ℕ) → Told (Below P bound)
told_below P told zero = inr (λ x. (let below : x.0 < 0 = x.1 in omega (arith, below)))
told_below P told (suc bound) = or_at_bound P bound (told_below P told bound) (told bound)

both : {P Q : Type 0} → Told P → Told Q → Told (P × Q)
both (inl p) (inl q) = inl (p, q)
both (inl p) (inr never) = inr (λ x. never x.1)
both (inr never) told = inr (λ x. never x.0)

either : {P Q : Type 0} → Told P → Told Q → Told (P ⊎ Q)
either (inl p) told = inl (inl p)
either (inr never) (inl q) = inl (inr q)
either (inr never) (inr never') = inr (λ x. ⊎_elim never never' x)

told_some : (n : ℕ) → Told (1 ≤ n)
told_some zero = inr (λ e. omega (arith, e))
told_some (suc n) = inl (omega arith)

abbrev Written : List ℕ → ℕ → ℕ → Type 0
Written text h c = (text ≡ decimal h ++ codes "*" ++ decimal c) ⊎ ((text ≡ decimal h) × (c ≡ 1))

told_written : (text : List ℕ) (h c : ℕ) → Told (Written text h c)
told_written text h c = either (told_same text (decimal h ++ codes "*" ++ decimal c)) (both (told_same text (decimal h)) (told_number c 1))

abbrev Item : ℕ → List ℕ → Type 0
Item harts text = (item : TurnItem) × IsItem harts text item

-- an item's numbers, its hart below so many and its count below a bound
abbrev Numbers : ℕ → ℕ → List ℕ → Type 0
Numbers harts bound text = Below (λ h. Below (λ c. (1 ≤ c) × Written text h c) bound) harts

told_numbers : (harts bound : ℕ) (text : List ℕ) → Told (Numbers harts bound text)
told_numbers harts bound text =
    told_below (λ h. Below (λ c. (1 ≤ c) × Written text h c) bound)
    (λ h. told_below (λ c. (1 ≤ c) × Written text h c) (λ c. both (told_some c) (told_written text h c)) bound) harts

told_item : (harts : ℕ) (text : List ℕ) → Told (Item harts text)
told_item harts text = of_numbers (told_numbers harts (2 ^ 32 + 1) text)
  where
    of_numbers : Told (Numbers harts (2 ^ 32 + 1) text) → Told (Item harts text)
    of_numbers (inl x) =
        let below : x.2.0 < 2 ^ 32 + 1 = x.2.1 in
        inl (record { hart = x.0; count = x.2.0 }, record { hart = x.1; some = x.2.2.0; most = omega (arith, below); written = x.2.2.1 })
    of_numbers (inr none) = inr (λ x. none (x.0.hart, x.1.hart, (x.0.count, omega (arith, x.1.most), (x.1.some, x.1.written))))

abbrev Items : ℕ → List (List ℕ) → Type 0
Items harts texts = (items : List TurnItem) × AreItems harts texts items

told_items : (harts : ℕ) (texts : List (List ℕ)) → Told (Items harts texts)
told_items harts [] = inl ([], tt)
told_items harts (text ∷ texts) = of_both (told_item harts text) (told_items harts texts)
  where
    no_rest : (Items harts texts → ⊥) → (items : List TurnItem) → AreItems harts (text ∷ texts) items → ⊥
    no_rest never [] are = are
    no_rest never (item ∷ items) are = never (items, are.1)

    no_first : (Item harts text → ⊥) → (items : List TurnItem) → AreItems harts (text ∷ texts) items → ⊥
    no_first never [] are = are
    no_first never (item ∷ items) are = never (item, are.0)

    of_both : Told (Item harts text) → Told (Items harts texts) → Told (Items harts (text ∷ texts))
    of_both (inl x) (inl y) = inl (x.0 ∷ y.0, (x.1, y.1))
    of_both (inl x) (inr never) = inr (λ all. no_rest never all.0 all.1)
    of_both (inr never) told = inr (λ all. no_first never all.0 all.1)

abbrev pub Schedule : ℕ → List ℕ → Type 0
Schedule harts text = (items : List TurnItem) × SaysTurns harts text items

pub told_schedule : (harts : ℕ) (text : List ℕ) → Schedule harts text ⊎ (Schedule harts text → ⊥)
told_schedule harts text = of_both (told_same text (codes "rr")) (told_items harts (parts_of text))
  where
    none : (text ≡ codes "rr" → ⊥) → (Items harts (parts_of text) → ⊥) → (items : List TurnItem) → SaysTurns harts text items → ⊥
    none no_order no_items items (SaysTurns.in_order is) = no_order is
    none no_order no_items items (SaysTurns.by_items _ are) = no_items (items, are)

    of_both : Told (text ≡ codes "rr") → Told (Items harts (parts_of text)) → Told (Schedule harts text)
    of_both (inl is) told = inl ([], SaysTurns.in_order is)
    of_both (inr never) (inl x) = inl (x.0, SaysTurns.by_items x.0 x.1)
    of_both (inr never) (inr never') = inr (λ x. none never never' x.0 x.1)

-- ---- its bytes

written_ascii : (text : List ℕ) (h c : ℕ) → h < 2 ^ 64 → c < 2 ^ 64 → Written text h c → IsAscii text
written_ascii text h c below below' (inl is) =
    let star : IsAscii (42 ∷ decimal c) = IsAscii-cons 42 (decimal c) (omega arith) (IsAscii-decimal c below') in
    subst IsAscii (sym (is ∙ starred h c)) (IsAscii-append (decimal h) (42 ∷ decimal c) (IsAscii-decimal h below) star)
written_ascii text h c below below' (inr is) = subst IsAscii (sym is.0) (IsAscii-decimal h below)

item_ascii : (harts : ℕ) (text : List ℕ) (item : TurnItem) → harts ≤ 2 ^ 32 → IsItem harts text item → IsAscii text
item_ascii harts text item few is = written_ascii text item.hart item.count (omega (arith, few, is.hart)) (omega (arith, is.most)) is.written

joined_ascii : (harts : ℕ) (texts : List (List ℕ)) (items : List TurnItem) → harts ≤ 2 ^ 32 → AreItems harts texts items → IsAscii (join_with_byte 44 texts)
joined_ascii harts [] items few are = IsAscii-nil
joined_ascii harts (text ∷ texts) [] few are = absurd are
joined_ascii harts (text ∷ []) (item ∷ items) few are = item_ascii harts text item few are.0
joined_ascii harts (text ∷ next ∷ texts) (item ∷ items) few are =
    let rest : IsAscii (join_with_byte 44 (next ∷ texts)) = joined_ascii harts (next ∷ texts) items few are.1 in
    IsAscii-append text (44 ∷ join_with_byte 44 (next ∷ texts)) (item_ascii harts text item few are.0) (IsAscii-cons 44 (join_with_byte 44 (next ∷ texts)) (omega arith) rest)

rr_ascii : IsAscii (codes "rr")
rr_ascii = IsAscii-cons 114 (114 ∷ []) (omega arith) (IsAscii-cons 114 [] (omega arith) IsAscii-nil)

schedule_ascii : (harts : ℕ) (text : List ℕ) (items : List TurnItem) → harts ≤ 2 ^ 32 → SaysTurns harts text items → IsAscii text
schedule_ascii harts text items few (SaysTurns.in_order is) = subst IsAscii (sym is) rr_ascii
schedule_ascii harts text items few (SaysTurns.by_items _ are) = subst IsAscii (join_with_byte-slice_split 44 text) (joined_ascii harts (parts_of text) items few are)

pub schedule_utf8 : (harts : ℕ) (text : List ℕ) (items : List TurnItem) → harts ≤ 2 ^ 32 → SaysTurns harts text items → IsUtf8 text
schedule_utf8 harts text items few says = IsUtf8-from_ascii text (schedule_ascii harts text items few says)

-- ---- its harts

item_within : (harts : ℕ) (texts : List (List ℕ)) (items : List TurnItem) (k : ℕ) (item d : TurnItem) → AreItems harts texts items → k < length items → slice_index_or items k d ≡ item → item.hart < harts
item_within harts [] [] k item d are below is = absurd (omega (arith, below))
item_within harts [] (x ∷ items) k item d are below is = absurd are
item_within harts (text ∷ texts) [] k item d are below is = absurd are
item_within harts (text ∷ texts) (x ∷ items) zero item d are below is = subst (λ (i : TurnItem). i.hart < harts) is are.0.hart
item_within harts (text ∷ texts) (x ∷ items) (suc k) item d are below is = item_within harts texts items k item d are.1 (omega (arith, below)) is

pub within : (harts : ℕ) (text : List ℕ) (items : List TurnItem) (item : TurnItem) → SaysTurns harts text items → Contains items item → item.hart < harts
within harts text items item (SaysTurns.in_order is) there = (let below : there.0 < 0 = there.1 in absurd (omega (arith, below)))
within harts text items item (SaysTurns.by_items _ are) there = item_within harts (parts_of text) items there.0 item item are there.1 there.2
