-- Pieces of a line are read back.
use Rattle.std.proofs.Common.{◌≡◌, ℕ, suc, ◌+◌, Bool, true, false, cond, not, ◌&&◌, ◌==◌, List, [], ◌∷◌, ◌++◌}
use Rattle.std.proofs.Common.{length, take, drop, Option, Some, None, option_map, bytes_eq, refl, sym, ap, ◌∙◌, arith, take_at, drop_at}
use Rattle.std.proofs.Common.{take-append-drop, drop_of_length-le, append-nil, subst}
use Rattle.std.proofs.lemmas.Bool.{and_parts, and_from, eqb-true, eq-eqb, not-true, cond-true, cond-false}
use Rattle.std.proofs.lemmas.Option.{none-some, same_Some, cond_some}
use Rattle.std.proofs.lemmas.Slice.Eq.{bytes_eq-Decides}
use Rattle.trace_read.specs.Pieces.{◌>>=◌, is_mark, until_mark, around, cut_at, cut, behind, labelled, before, pair, option_by, with_option}

-- a reader reads each text of a value that fits, and no other
pub record Reads {A : Type 0} (read : List ℕ → Option A) (text : A → List ℕ) (Fits : A → Type 0) : Type 0 where
  pub there : (a : A) → Fits a → read (text a) ≡ Some a
  pub back : (w : List ℕ) (a : A) → read w ≡ Some a → Fits a × (text a ≡ w)

pub bound : {A B P : Type 0} (o : Option A) (f : A → Option B) (b : B) → (o >>= f) ≡ Some b → ((a : A) → o ≡ Some a → f a ≡ Some b → P)
    → P
bound None f b e k = absurd (none-some b e)
bound (Some a) f b e k = k a refl e

pub mapped : {A B P : Type 0} (f : A → B) (o : Option A) (b : B) → option_map f o ≡ Some b → ((a : A) → o ≡ Some a → f a ≡ b → P) → P
mapped f None b e k = absurd (none-some b e)
mapped f (Some a) b e k = k a refl (same_Some _ _ e)

pub if_true : {A : Type 0} {z : A} (b : Bool) (x y : A) → b ≡ true → cond b x y ≡ z → x ≡ z
if_true b x y t e = sym (cond-true b x y t) ∙ e

pub if_false : {A : Type 0} {z : A} (b : Bool) (x y : A) → b ≡ false → cond b x y ≡ z → y ≡ z
if_false b x y f e = sym (cond-false b x y f) ∙ e

-- labels

pub behind-there : (label w : List ℕ) → behind label (label ++ w) ≡ Some w
unfolding behind
behind-there label w = rw (take_at label w _ refl, drop_at label w _ refl, (bytes_eq-Decides label label).1 refl) refl

pub behind-back : (label w rest : List ℕ) → behind label w ≡ Some rest → label ++ rest ≡ w
unfolding behind
behind-back label w rest e =
    let p = cond_some (bytes_eq (take (length label) w) label) (drop (length label) w) rest e in
    sym (ap (λ front. front ++ rest) ((bytes_eq-Decides _ _).0 p.0)) ∙ sym (ap (λ r. take (length label) w ++ r) p.1)
    ∙ take-append-drop (length label) w

-- no byte of a text is a mark
abbrev pub free : ℕ → List ℕ → Bool
free mark [] = true
free mark (c ∷ cs) = not (c == mark) && free mark cs

pub free-append : (mark : ℕ) (a b : List ℕ) → free mark a ≡ true → free mark b ≡ true → free mark (a ++ b) ≡ true
free-append mark [] b p q = q
free-append mark (c ∷ cs) b p q = let parts = and_parts (not (c == mark)) (free mark cs) p in and_from _ _ parts.0 (free-append mark cs b parts.1 q)

until-free : (mark : ℕ) (a b : List ℕ) → free mark a ≡ true → until_mark mark (a ++ mark ∷ b) ≡ length a
unfolding is_mark
until-free mark [] b p = rw (eq-eqb mark mark refl) refl
until-free mark (c ∷ cs) b p =
    let parts = and_parts (not (c == mark)) (free mark cs) p in
    let differs : (c == mark) ≡ false = not-true (c == mark) parts.0 in
    rw (differs, until-free mark cs b parts.1) (omega arith)

until-none : (mark : ℕ) (a : List ℕ) → free mark a ≡ true → until_mark mark a ≡ length a
unfolding is_mark
until-none mark [] p = refl
until-none mark (c ∷ cs) p =
    let parts = and_parts (not (c == mark)) (free mark cs) p in
    let differs : (c == mark) ≡ false = not-true (c == mark) parts.0 in
    rw (differs, until-none mark cs parts.1) (omega arith)

pub cut-there : (mark : ℕ) (a b : List ℕ) → free mark a ≡ true → cut mark (a ++ mark ∷ b) ≡ Some (a, b)
unfolding cut
cut-there mark a b p = rw (until-free mark a b p, take_at a (mark ∷ b) _ refl, drop_at a (mark ∷ b) _ refl) refl

pub cut-none : (mark : ℕ) (a : List ℕ) → free mark a ≡ true → cut mark a ≡ None
unfolding cut
cut-none mark a p = rw (until-none mark a p, drop_of_length-le a {i = length a} (omega arith)) refl

around_cons : {P : Type 0} (c : ℕ) (front rest : List ℕ) (p : List ℕ × List ℕ) → around (c ∷ front) rest ≡ Some p
    → ((a b : List ℕ) → around front rest ≡ Some (a, b) → (c ∷ a, b) ≡ p → P) → P
around_cons c front [] p e k = absurd (none-some p e)
around_cons c front (mark ∷ behind) p e k = k front behind refl (same_Some _ _ e)

whole_cons : (mark c : ℕ) (cs : List ℕ) (p : List ℕ × List ℕ)
    → ((q : List ℕ × List ℕ) → cut_at (until_mark mark cs) cs ≡ Some q → q.0 ++ mark ∷ q.1 ≡ cs)
    → cut_at (until_mark mark (c ∷ cs)) (c ∷ cs) ≡ Some p → p.0 ++ mark ∷ p.1 ≡ c ∷ cs
unfolding is_mark
whole_cons mark c cs p rest e = by (c == mark) refl
  where
    next : (n : ℕ) → cut_at (n + 1) (c ∷ cs) ≡ around (c ∷ take n cs) (drop n cs)
    next n = ap (λ m. cut_at m (c ∷ cs)) {x = n + 1} {y = suc n} (omega arith)

    by : (t : Bool) → (c == mark) ≡ t → p.0 ++ mark ∷ p.1 ≡ c ∷ cs
    by true t =
        let here : Some ([], cs) ≡ Some p = subst (λ n. cut_at n (c ∷ cs) ≡ Some p) (cond-true (c == mark) 0 (until_mark mark cs + 1) t) e in
        subst (λ x. x.0 ++ mark ∷ x.1 ≡ c ∷ cs) (same_Some _ _ here) (ap (λ m. m ∷ cs) (sym (eqb-true c mark t)))
    by false t =
        let on : cut_at (until_mark mark cs + 1) (c ∷ cs) ≡ Some p = subst (λ n. cut_at n (c ∷ cs) ≡ Some p)
        (cond-false (c == mark) 0 (until_mark mark cs + 1) t) e in
        around_cons c _ _ p (sym (next (until_mark mark cs)) ∙ on) (λ a b found same.
        subst (λ x. x.0 ++ mark ∷ x.1 ≡ c ∷ cs) same (ap (λ t. c ∷ t) (rest (a, b) found)))

whole : (mark : ℕ) (w : List ℕ) (p : List ℕ × List ℕ) → cut_at (until_mark mark w) w ≡ Some p → p.0 ++ mark ∷ p.1 ≡ w
whole mark [] p e = absurd (none-some p e)
whole mark (c ∷ cs) p e = whole_cons mark c cs p (λ q found. whole mark cs q found) e

pub cut-back : (mark : ℕ) (w : List ℕ) (p : List ℕ × List ℕ) → cut mark w ≡ Some p → p.0 ++ mark ∷ p.1 ≡ w
unfolding cut
cut-back mark w p e = whole mark w p e

-- what stands together is read

module _ {A : Type 0} {read : List ℕ → Option A} {text : A → List ℕ} {Fits : A → Type 0} (r : Reads read text Fits) where
  pub labelled_reads : (label : List ℕ) → Reads (labelled read label) (λ a. label ++ text a) Fits
  labelled_reads label = record {
    there = λ a h. rw (behind-there label (text a)) (r.there a h);
    back =
        λ w a e. bound (behind label w) read a e
        (λ rest eb er. let it = r.back rest a er in (it.0, ap (λ t. label ++ t) it.1 ∙ behind-back label w rest eb));
  }

  module _ {B : Type 0} {second : List ℕ → Option B} {other : B → List ℕ} {FitsB : B → Type 0} (s : Reads second other FitsB) (mark : ℕ)
      (bare : (a : A) → Fits a → free mark (text a) ≡ true) where
    pub pair_reads : Reads (pair mark read second) (λ p. text p.0 ++ mark ∷ other p.1) (λ p. Fits p.0 × FitsB p.1)
    pair_reads = record {
      there = λ p h. rw (cut-there mark (text p.0) (other p.1) (bare p.0 h.0), r.there p.0 h.0, s.there p.1 h.1) refl;
      back = λ w p e.
          bound (before mark read w) _ p e (λ q eq er.
          bound (cut mark w) _ q eq (λ c ec ea.
          bound (read c.0) _ q ea (λ a ef at.
          let on : (second c.1 >>= (λ b. Some (a, b))) ≡ Some p = subst (λ x. (second x.1 >>= (λ b. Some (x.0, b))) ≡ Some p)
          (sym (same_Some _ _ at)) er in
          bound (second c.1) _ p on (λ b eb same.
          let front = r.back c.0 a ef in
          let rest = s.back c.1 b eb in
          subst (λ x. (Fits x.0 × FitsB x.1) × (text x.0 ++ mark ∷ other x.1 ≡ w)) (same_Some _ _ same)
          ((front.0, rest.0), (λ i. front.1 i ++ mark ∷ rest.1 i) ∙ cut-back mark w c ec)))));
    }

    module _ (rest : Option B → List ℕ) (FitsRest : Option B → Type 0) (none : rest None ≡ []) (some : (b : B) → rest (Some b) ≡ mark ∷ other b)
        (nothing : FitsRest None) (fits : (b : B) → FitsRest (Some b) → FitsB b) (fitting : (b : B) → FitsB b → FitsRest (Some b)) where
      forward : (a : A) (o : Option B) → Fits a → FitsRest o → with_option mark read second (text a ++ rest o) ≡ Some (a, o)
      forward a None h k =
          ap (λ t. with_option mark read second (text a ++ t)) none ∙ rw (append-nil (text a), cut-none mark (text a) (bare a h), r.there a h) refl
      forward a (Some b) h k =
          ap (λ t. with_option mark read second (text a ++ t)) (some b)
          ∙ rw (cut-there mark (text a) (other b) (bare a h), r.there a h, s.there b (fits b k)) refl

      backward : (w : List ℕ) (p : A × Option B) (c : Option (List ℕ × List ℕ)) → cut mark w ≡ c → option_by read second w c ≡ Some p
          → (Fits p.0 × FitsRest p.1) × (text p.0 ++ rest p.1 ≡ w)
      backward w p None ec e =
          bound (read w) _ p e (λ a ea same.
          let front = r.back w a ea in
          subst (λ x. (Fits x.0 × FitsRest x.1) × (text x.0 ++ rest x.1 ≡ w)) (same_Some _ _ same)
          ((front.0, nothing), ap (λ t. text a ++ t) none ∙ append-nil (text a) ∙ front.1))
      backward w p (Some c) ec e =
          bound (read c.0) _ p e (λ a ea er.
          bound (second c.1) _ p er (λ b eb same.
          let front = r.back c.0 a ea in
          let behind = s.back c.1 b eb in
          subst (λ x. (Fits x.0 × FitsRest x.1) × (text x.0 ++ rest x.1 ≡ w)) (same_Some _ _ same)
          ((front.0, fitting b behind.0), ap (λ t. text a ++ t) (some b) ∙ (λ i. front.1 i ++ mark ∷ behind.1 i) ∙ cut-back mark w c ec)))

      pub with_option_reads : Reads (with_option mark read second) (λ p. text p.0 ++ rest p.1) (λ p. Fits p.0 × FitsRest p.1)
      with_option_reads = record {
        there = λ p h. forward p.0 p.1 h.0 h.1;
        back = λ w p e. backward w p (cut mark w) refl e;
      }
