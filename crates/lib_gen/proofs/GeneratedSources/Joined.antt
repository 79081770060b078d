-- Texts that are written one after another.
use Rattle.std.proofs.Common.{◌≡◌, List, ◌++◌, ℕ, OnOk, Result, Ok, Err, ap, ◌∙◌, append_assoc}

pub five : (a b c d e f p q r s t : List ℕ) → b ≡ a ++ p → c ≡ b ++ q → d ≡ c ++ r → e ≡ d ++ s → f ≡ e ++ t → f ≡ a ++ (p ++ (q ++ (r ++ (s ++ t))))
five a b c d e f p q r s t x y z u v =
    v ∙ ap (λ (l : List ℕ). l ++ t) (u ∙ ap (λ (l : List ℕ). l ++ s) (z ∙ ap (λ (l : List ℕ). l ++ r) (y ∙ ap (λ (l : List ℕ). l ++ q) x)))
    ∙ append_assoc (((a ++ p) ++ q) ++ r) s t ∙ append_assoc ((a ++ p) ++ q) r (s ++ t) ∙ append_assoc (a ++ p) q (r ++ (s ++ t)) ∙ append_assoc a p (q ++ (r ++ (s ++ t)))

pub three : (a b c d p q r : List ℕ) → b ≡ a ++ p → c ≡ b ++ q → d ≡ c ++ r → d ≡ a ++ (p ++ (q ++ r))
three a b c d p q r x y z =
    z ∙ ap (λ (l : List ℕ). l ++ r) (y ∙ ap (λ (l : List ℕ). l ++ q) x) ∙ append_assoc (a ++ p) q r ∙ append_assoc a p (q ++ r)

pub on_ok : {T E A B : Type 0} (r : Result T E) → OnOk r A → (A → B) → OnOk r B
on_ok (Ok value) a f = f a
on_ok (Err fault) a f = a
