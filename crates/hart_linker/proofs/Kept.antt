-- The blocks that are kept, with one more.
use Rattle.std.proofs.Common.{◌≡◌, ℕ, ◌==◌, Bool, true, false, not, cond, if◌then◌else◌, List, [], ◌∷◌, ◌++◌, Option, Some, None, refl, sym, ap, ◌∙◌, eq-eqb}
use Rattle.std.specs.Prelude.{option_map, find}
use Rattle.std.specs.List.{filter}
use Rattle.std.proofs.lemmas.Bool.{eqb-true, true≢false}
use Rattle.tls_blocks.specs.declared.entry.Entry.{Entry}
use Rattle.tls_blocks.specs.Blocks.{block_at}

abbrev others : ℕ → List Entry → List Entry
others number es = filter (λ x. not (x.number == number)) es

abbrev block_in : Option Entry → Option ℕ
block_in found = option_map (λ x. x.block) found

alone : (e : Entry) (t : Bool) → block_in (cond t (Some e) None) ≡ cond t (Some e.block) None
alone e true = refl
alone e false = refl

either : (t u : Bool) (mine old new : Option ℕ) → (t ≡ true → u ≡ true) → cond u new old ≡ cond u new (cond t mine old)
either true true mine old new so = refl
either true false mine old new so = absurd (true≢false (sym (so refl)))
either false u mine old new so = refl

first : (t u : Bool) (mine old new after : Option ℕ) → (t ≡ true → u ≡ false) → after ≡ cond u new old → cond t mine after ≡ cond u new (cond t mine old)
first true true mine old new after never rest = absurd (true≢false (never refl))
first true false mine old new after never rest = refl
first false u mine old new after never rest = rest

block_cond : (t : Bool) (x : Entry) (found : Option Entry) → block_in (cond t (Some x) found) ≡ cond t (Some x.block) (block_in found)
block_cond true x found = refl
block_cond false x found = refl

-- of one entry more in front: it goes if it is the module's
in_front : (x e : Entry) (es : List Entry) (n : ℕ) (s t u : Bool) → (x.number == e.number) ≡ s → (x.number == n) ≡ t → (e.number == n) ≡ u
    → block_at (others e.number es ++ e ∷ []) n ≡ cond u (Some e.block) (block_at es n)
    → block_at (cond (not s) (x ∷ others e.number es) (others e.number es) ++ e ∷ []) n ≡ cond u (Some e.block) (cond t (Some x.block) (block_at es n))
in_front x e es n true t u same at its rest = rest ∙ either t u (Some x.block) (block_at es n) (Some e.block)
    (λ (are : t ≡ true). sym its ∙ eq-eqb e.number n (sym (eqb-true x.number e.number same) ∙ eqb-true x.number n (at ∙ are)))
in_front x e es n false t true apart at its rest =
    block_cond (x.number == n) x (find (λ y. y.number == n) (others e.number es ++ e ∷ []))
    ∙ ap (λ (b : Bool). cond b (Some x.block) (block_at (others e.number es ++ e ∷ []) n)) at
    ∙ first t true (Some x.block) (block_at es n) (Some e.block) (block_at (others e.number es ++ e ∷ []) n)
    (λ (are : t ≡ true). absurd (true≢false (sym (eq-eqb x.number e.number (eqb-true x.number n (at ∙ are) ∙ sym (eqb-true e.number n its))) ∙ apart))) rest
in_front x e es n false t false apart at its rest =
    block_cond (x.number == n) x (find (λ y. y.number == n) (others e.number es ++ e ∷ []))
    ∙ ap (λ (b : Bool). cond b (Some x.block) (block_at (others e.number es ++ e ∷ []) n)) at
    ∙ first t false (Some x.block) (block_at es n) (Some e.block) (block_at (others e.number es ++ e ∷ []) n) (λ are. refl) rest

pub block_with : (es : List Entry) (e : Entry) (n : ℕ) → block_at (others e.number es ++ e ∷ []) n ≡ (if e.number == n then Some e.block else block_at es n)
block_with [] e n = alone e (e.number == n)
block_with (x ∷ es) e n =
    in_front x e es n (x.number == e.number) (x.number == n) (e.number == n) refl refl refl (block_with es e n)
    ∙ ap (λ (o : Option ℕ). cond (e.number == n) (Some e.block) o) (sym (block_cond (x.number == n) x (find (λ y. y.number == n) es)))
