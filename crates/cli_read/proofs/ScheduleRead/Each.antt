-- Items, one by one.
use Rattle.std.proofs.Common.{◌≡◌, ℕ, zero, suc, ◌^◌, ◌<◌, ◌≤◌, List, [], ◌∷◌, ◌++◌, length, get_or, map, take, codes, Bor, ◌+◌, Option, Some, None, IfErr, IfOk, Result, Ok, Err, refl, sym, ap, subst, arith}
use Rattle.std.proofs.lemmas.Option.{none-some, same_Some}
use Rattle.std.proofs.lemmas.Bool.{true≢false}
use Rattle.std.proofs.lemmas.List.{map_more}
use Rattle.std.specs.Option.{ok_or}
use Rattle.std.specs.Result.{is_ok}
use Rattle.cli_read.proofs.ScheduleRead.Texts.{AreNumbers}
use Rattle.cli_read.specs.ScheduleRead.Items.{IsWithin, Writes}
use Rattle.world_turns.specs.SchedulesPart.Grammar.{AreItems, IsItem, SaysTurns, parts_of}
use Rattle.world_turns.specs.declared.schedules.schedule.TurnItem.{TurnItem}

abbrev Lent : Type 0
Lent = Bor (List ℕ)

pub writes : (harts : ℕ) (text : List ℕ) (item : TurnItem) → IsItem harts text item → Writes text item.hart item.count
writes harts text item x = x.written

pub within : (harts : ℕ) (text : List ℕ) (item : TurnItem) → IsItem harts text item → IsWithin harts item.hart item.count
within harts text item x = record { there = x.hart; some = x.some; most = x.most }

-- no numbers are written, or none that are within

pub none_written : (harts : ℕ) (text : List ℕ) (item : TurnItem) → harts ≤ 2 ^ 32 → AreNumbers text None → IsItem harts text item → ⊥
none_written harts text item few numbers x = none-some _ (numbers.every item.hart item.count (omega (arith, x.hart)) (omega (arith, x.most)) (writes harts text item x))

pub not_within : (harts : ℕ) (text : List ℕ) (h c : ℕ) (item : TurnItem) → harts ≤ 2 ^ 32 → AreNumbers text (Some (h, c)) → (IsWithin harts h c → ⊥)
    → IsItem harts text item → ⊥
not_within harts text h c item few numbers none x =
    let same : Some (h, c) ≡ Some (item.hart, item.count) = numbers.every item.hart item.count (omega (arith, x.hart)) (omega (arith, x.most)) (writes harts text item x) in
    none (subst (λ (p : ℕ × ℕ). IsWithin harts p.0 p.1) (sym (same_Some _ _ same)) (within harts text item x))

-- ---- errors

pub for_err : {T E : Type 0} {P : E → Type 0} (r : Result T E) → ((e : E) → r ≡ Err e → P e) → IfErr r P
for_err (Ok x) h = tt
for_err (Err e) h = h e refl

pub ok_so : {T E : Type 0} {P Q : T → Type 0} (r : Result T E) → ((x : T) → P x → Q x) → IfOk r P → IfOk r Q
ok_so (Ok x) h p = h x p
ok_so (Err e) h p = tt

pub err_so : {T E : Type 0} {P Q : E → Type 0} (r : Result T E) → ((e : E) → P e → Q e) → IfErr r P → IfErr r Q
err_so (Ok x) h p = tt
err_so (Err e) h p = h e p

pub ok_or_none : {T E : Type 0} (o : Option T) (e f : E) → ok_or o e ≡ Err f → o ≡ None
ok_or_none None e f same = refl
ok_or_none {T} {E} (Some x) e f same = absurd (true≢false (ap (λ (r : Result T E). is_ok r) same))

-- ---- lists of items

pub one_more : (harts : ℕ) (texts : List (List ℕ)) (items : List TurnItem) (text : List ℕ) (item : TurnItem) → AreItems harts texts items → IsItem harts text item
    → AreItems harts (texts ++ text ∷ []) (items ++ item ∷ [])
one_more harts [] [] text item are is = (is, tt)
one_more harts [] (x ∷ items) text item are is = absurd are
one_more harts (t ∷ texts) [] text item are is = absurd are
one_more harts (t ∷ texts) (x ∷ items) text item are is = (are.0, one_more harts texts items text item are.1 is)

pub longer : (harts : ℕ) (parts : List Lent) (k : ℕ) (d : Lent) (items : List TurnItem) (item : TurnItem) → k < length parts
    → AreItems harts (map (λ p. p.now) (take k parts)) items → IsItem harts (get_or parts k d).now item
    → AreItems harts (map (λ p. p.now) (take (k + 1) parts)) (items ++ item ∷ [])
longer harts parts k d items item below are is =
    subst (λ (texts : List (List ℕ)). AreItems harts texts (items ++ item ∷ [])) (sym (map_more (λ (p : Lent). p.now) parts k d below))
    (one_more harts (map (λ p. p.now) (take k parts)) items (get_or parts k d).now item are is)

-- a part that is no item is one too many
pub blames : (harts : ℕ) (parts : List Lent) (k : ℕ) (d : Lent) → k < length parts → ((item : TurnItem) → IsItem harts (get_or parts k d).now item → ⊥)
    → (items : List TurnItem) → AreItems harts (map (λ p. p.now) parts) items → ⊥
blames harts [] k d below none items are = omega (arith, below)
blames harts (p ∷ parts) k d below none [] are = are
blames harts (p ∷ parts) zero d below none (x ∷ items) are = none x are.0
blames harts (p ∷ parts) (suc k) d below none (x ∷ items) are = blames harts parts k d (omega (arith, below)) none items are.1

-- ---- schedules

pub by_items : (harts : ℕ) (text : List ℕ) (parts : List Lent) (items : List TurnItem) → map (λ p. p.now) parts ≡ parts_of text
    → AreItems harts (map (λ p. p.now) parts) items → SaysTurns harts text items
by_items harts text parts items split are = SaysTurns.by_items items (subst (λ (texts : List (List ℕ)). AreItems harts texts items) split are)

pub not_turns : (harts : ℕ) (text : List ℕ) (parts : List Lent) → map (λ p. p.now) parts ≡ parts_of text → (text ≡ codes "rr" → ⊥)
    → ((items : List TurnItem) → AreItems harts (map (λ p. p.now) parts) items → ⊥) → (items : List TurnItem) → SaysTurns harts text items → ⊥
not_turns harts text parts split differs none items (SaysTurns.in_order is) = differs is
not_turns harts text parts split differs none items (SaysTurns.by_items _ are) = none items (subst (λ (texts : List (List ℕ)). AreItems harts texts items) (sym split) are)
