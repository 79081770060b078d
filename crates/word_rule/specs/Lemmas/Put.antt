-- Functions that are changed at one number, and the lists that they stand for.
use Rattle.std.proofs.Common.{◌≡◌, ◌≢◌, ℕ, zero, suc, ◌<◌, cond, eq-eqb, ne_eqb, List, [], ◌∷◌, length, get_or, set, refl, sym, ap, subst, ◌∙◌, arith}
use mathlib.Core.Logic.{dite}
use native.Mathlib.Decide.{ℕ_discrete}
use Rattle.word_rule.specs.Views.{after, put}

pub ext : {A : Type 0} (f g : ℕ → A) → ((i : ℕ) → f i ≡ g i) → f ≡ g
ext f g same k i = same i k

module _ {A : Type 0} where
  pub put_here : (f : ℕ → A) (i : ℕ) (a : A) → put f i a i ≡ a
  put_here f i a = ap (λ b. cond b a (f i)) (eq-eqb i i refl)

  pub put_else : (f : ℕ → A) (i : ℕ) (a : A) (j : ℕ) → j ≢ i → put f i a j ≡ f j
  put_else f i a j apart = ap (λ b. cond b a (f j)) (ne_eqb j i apart)

  -- what holds at each number holds after
  pub put_each : (P : ℕ → A → Type 0) (f : ℕ → A) (i : ℕ) (a : A) → ((j : ℕ) → j ≢ i → P j (f j)) → P i a → (j : ℕ) → P j (put f i a j)
  put_each P f i a others mine j = dite (ℕ_discrete j i)
      (λ (e : j ≡ i). subst (λ n. P n (put f i a n)) (sym e) (subst (P i) (sym (put_here f i a)) mine))
      (λ (apart : j ≢ i). subst (P j) (sym (put_else f i a j apart)) (others j apart))

  pub put_same : (f : ℕ → A) (i : ℕ) (a : A) → f i ≡ a → put f i a ≡ f
  put_same f i a e = ext (put f i a) f (put_each (λ j x. x ≡ f j) f i a (λ j _. refl) (sym e))

  pub set_at : (l : List A) (i j : ℕ) (a d : A) → j ≢ i → get_or (set l i a) j d ≡ get_or l j d
  set_at [] i j a d apart = refl
  set_at (x ∷ xs) zero zero a d apart = absurd (apart refl)
  set_at (x ∷ xs) zero (suc j) a d apart = refl
  set_at (x ∷ xs) (suc i) zero a d apart = refl
  set_at (x ∷ xs) (suc i) (suc j) a d apart = set_at xs i j a d (λ e. apart (ap suc e))

  set_there : (l : List A) (i : ℕ) (a d : A) → i < length l → get_or (set l i a) i d ≡ a
  set_there [] i a d low = absurd (omega arith)
  set_there (x ∷ xs) zero a d low = refl
  set_there (x ∷ xs) (suc i) a d low = set_there xs i a d (omega arith)

  -- a list with another element at i
  pub set_put : (l : List A) (i : ℕ) (a d : A) → i < length l → put (λ j. get_or l j d) i a ≡ (λ j. get_or (set l i a) j d)
  set_put l i a d low = ext (put (λ j. get_or l j d) i a) (λ j. get_or (set l i a) j d) (λ j. dite (ℕ_discrete j i)
      (λ (e : j ≡ i). subst (λ n. put (λ x. get_or l x d) i a n ≡ get_or (set l i a) n d) (sym e) (put_here (λ x. get_or l x d) i a ∙ sym (set_there l i a d low)))
      (λ (apart : j ≢ i). put_else (λ x. get_or l x d) i a j apart ∙ sym (set_at l i j a d apart)))

-- so it is with two functions that are changed at one number
pub put_both : {A B : Type 0} (P : A → B → Type 0) (f : ℕ → A) (g : ℕ → B) (i : ℕ) (a : A) (b : B) → ((j : ℕ) → j ≢ i → P (f j) (g j)) → P a b → (j : ℕ) → P (put f i a j) (put g i b j)
put_both P f g i a b others mine j = dite (ℕ_discrete j i)
    (λ (e : j ≡ i). subst (λ n. P (put f i a n) (put g i b n)) (sym e) (subst (λ x. P x (put g i b i)) (sym (put_here f i a)) (subst (P a) (sym (put_here g i b)) mine)))
    (λ (apart : j ≢ i). subst (λ x. P x (put g i b j)) (sym (put_else f i a j apart)) (subst (P (f j)) (sym (put_else g i b j apart)) (others j apart)))

-- a field of the values
pub put_field : {A B : Type 0} (g : A → B) (f : ℕ → A) (i : ℕ) (a : A) → put (after g f) i (g a) ≡ after g (put f i a)
put_field {A} {B} g f i a =
    let h : ℕ → B = after g f in
    let now : ℕ → B = after g (put f i a) in
    let P : ℕ → A → Type 0 = λ j x. put h i (g a) j ≡ g x in
    ext (put h i (g a)) now (put_each P f i a (λ j apart. put_else h i (g a) j apart) (put_here h i (g a)))

-- a field that stays
pub field_stays : {A B : Type 0} (g : A → B) (f : ℕ → A) (i : ℕ) (a : A) → g (f i) ≡ g a → after g f ≡ after g (put f i a)
field_stays {A} {B} g f i a e =
    let h : ℕ → B = after g f in
    let now : ℕ → B = after g (put f i a) in
    let P : ℕ → A → Type 0 = λ j x. h j ≡ g x in
    ext h now (put_each P f i a (λ j _. refl) e)
