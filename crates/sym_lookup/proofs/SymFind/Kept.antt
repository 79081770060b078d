-- What a walk keeps of its candidates.
use Rattle.std.proofs.Common.{◌≡◌, ◌∙◌, ap, sym, subst, ℕ, ◌<◌, ◌≤◌, Bool, true, false, List, length, get_or, min, refl, arith, inl, inr}
use Rattle.std.specs.Prelude.{◌⊎◌, ◌&&◌, not, nat_le, if◌then◌else◌, Option, Some, None}
use Rattle.std.specs.List.{slice_get}
use Rattle.std.specs.Option.{is_some, option_map_or}
use Rattle.std.proofs.lemmas.Bool.{and_from, and_parts, cases_eq, cases_lt, eq-eqb, le-leb, leb-true, lt-leb, ne_eqb}
use Rattle.std.proofs.lemmas.Option.{slice_get-get_or, slice_get_past}
use Rattle.ld_base.specs.declared.object.Object.{Object}
use Rattle.ld_base.specs.declared.object.Symbol.{Symbol}
use Rattle.ld_base.specs.Pick.{is_offer}
use Rattle.ld_base.specs.Symbol.{is_hidden_version}
use Rattle.ld_base.specs.Taken.{Exports}
use Rattle.scope_lists.specs.NameOrder.{exports}
use Rattle.sym_lookup.specs.SymFind.Best.{FirstOf, Knows, OnlyOf, after, fitting, least, made, nothing, passes, precedes, seen_too, sighted}
use Rattle.sym_lookup.specs.declared.sym_find.best.Best.{Best}
use Rattle.sym_lookup.specs.declared.sym_find.best.Search.{Search}
use Rattle.sym_lookup.specs.declared.sym_find.best.Sight.{Sight}
use Rattle.sym_lookup.specs.declared.sym_find.best.Sight.TheVariants.{Nothing, One, Several}

module _ (P Q : ℕ → Type 0) (to : (k : ℕ) → P k → Q k) where
  -- of the same numbers the same is kept
  pub first_same : ((k : ℕ) → Q k → P k) → (found : Option ℕ) → FirstOf P found → FirstOf Q found
  first_same from None none = λ k has. none k (from k has)
  first_same from (Some k) (has, first) = (to k has, λ j other. first j (from j other))

  pub only_same : ((k : ℕ) → Q k → P k) → (sight : Sight) → OnlyOf P sight → OnlyOf Q sight
  only_same from Nothing none = λ k has. none k (from k has)
  only_same from (One k) (has, only) = (to k has, λ j other. only j (from j other))
  only_same from Several (j, k, one, other, apart) = (j, k, to j one, to k other, apart)

  -- with greater ones more, the first stays
  first_early : ((k j : ℕ) → P k → Q j → P j ⊎ (k ≤ j)) → (found : Option ℕ) → is_some found ≡ true → FirstOf P found → FirstOf Q found
  first_early from None some none = absurd (cc)
  first_early from (Some k) some (has, first) = (to k has, λ j other. elim (from k j has other) [ inl own ↦ first j own | inr behind ↦ behind ])

  module _ (at : ℕ) (from : (k : ℕ) → Q k → P k ⊎ (k ≡ at)) where
    -- with one more
    least_more : Q at → (found : Option ℕ) → FirstOf P found → FirstOf Q (least found at)
    least_more has None none = (has, λ j other. elim (from j other) [ inl own ↦ absurd (none j own) | inr is ↦ omega arith ])
    least_more has (Some k) (own, first) =
        elim (cases_lt k at) [
          | inl less ↦
              (let is : min k at ≡ k = omega arith in
              (subst Q (sym is) (to k own), λ j other. elim (from j other) [ inl before ↦ (let low = first j before in omega arith) | inr same ↦ omega arith ]))
          | inr past ↦
              (let is : min k at ≡ at = omega arith in
              (subst Q (sym is) has, λ j other. elim (from j other) [ inl before ↦ (let low = first j before in omega arith) | inr same ↦ omega arith ]))
        ]

    only_more : Q at → (sight : Sight) → OnlyOf P sight → OnlyOf Q (seen_too sight at)
    only_more has Nothing none = (has, λ j other. elim (from j other) [ inl own ↦ absurd (none j own) | inr is ↦ is ])
    only_more has (One k) (own, only) =
        elim (cases_eq k at) [
          | inl same ↦ rw (eq-eqb k at same) (to k own, λ j other. elim (from j other) [ inl before ↦ only j before | inr is ↦ is ∙ sym same ])
          | inr apart ↦ rw (ne_eqb k at apart) (k, at, to k own, has, apart)
        ]
    only_more has Several (j, k, one, other, apart) = (j, k, to j one, to k other, apart)

    same_but : (Q at → ⊥) → (k : ℕ) → Q k → P k
    same_but none k has = elim (from k has) [ inl own ↦ own | inr is ↦ absurd (none (subst Q is has)) ]

    first_after : (passes : Bool) → (passes ≡ true → Q at) → (passes ≡ false → Q at → ⊥) → (found : Option ℕ) → FirstOf P found → FirstOf Q (if passes then least found at else found)
    first_after true has none found keeps = least_more (has refl) found keeps
    first_after false has none found keeps = first_same (same_but (none refl)) found keeps

    only_after : (passes : Bool) → (passes ≡ true → Q at) → (passes ≡ false → Q at → ⊥) → (sight : Sight) → OnlyOf P sight → OnlyOf Q (if passes then seen_too sight at else sight)
    only_after true has none sight keeps = only_more (has refl) sight keeps
    only_after false has none sight keeps = only_same (same_but (none refl)) sight keeps

none_before : (passes : Bool) (found : Option ℕ) (at : ℕ) → (if passes then least found at else found) ≡ None → found ≡ None
none_before true None at e = refl
none_before true (Some k) at e = absurd (cc)
none_before false found at e = e

-- ---- the symbols that may be exported

module _ (o : Object) (test : Symbol → Bool) (k : ℕ) where
  exports_to : exports o test k ≡ true → Exports o test k
  exports_to passes =
      let parts = and_parts (nat_le o.first_exported k) (option_map_or test (slice_get o.symbols k) false) passes in
      by_symbol (slice_get o.symbols k) refl (leb-true o.first_exported k parts.0) parts.1
    where
      by_symbol : (found : Option Symbol) → slice_get o.symbols k ≡ found → o.first_exported ≤ k → option_map_or test found false ≡ true → Exports o test k
      by_symbol None at from passes = absurd (cc)
      by_symbol (Some s) at from passes = (from, s, at, passes)

  exports_from : Exports o test k → exports o test k ≡ true
  exports_from (from, s, at, passes) = and_from (nat_le o.first_exported k) (option_map_or test (slice_get o.symbols k) false) (le-leb o.first_exported k from) (rw at passes)

-- ---- searches

no_first : (found : Option ℕ) → found ≡ None → is_some found ≡ true → ⊥
no_first None none some = cc
no_first (Some k) none some = cc none

module _ (w : Search) (led more : ℕ → Type 0) (b : Best) (to : (k : ℕ) → led k → more k) (knows : Knows w led b) where
  abbrev Fits : (ℕ → Type 0) → ℕ → Type 0
  Fits known k = Exports w.object.now (fitting w) k × known k

  abbrev Seen : (ℕ → Type 0) → ℕ → Type 0
  Seen known k = Exports w.object.now (sighted w) k × known k

  -- candidates that are the same
  pub knows_same : ((k : ℕ) → more k → led k) → Knows w more b
  knows_same from = record {
    first = first_same (Fits led) (Fits more) (λ k has. (has.0, to k has.1)) (λ k has. (has.0, from k has.1)) b.first knows.first;
    sight = λ none. only_same (Seen led) (Seen more) (λ k has. (has.0, to k has.1)) (λ k has. (has.0, from k has.1)) b.sight (knows.sight none);
  }

  -- greater ones, where one fits
  pub knows_early : ((k j : ℕ) → led k → more j → led j ⊎ (k ≤ j)) → is_some b.first ≡ true → Knows w more b
  knows_early from some = record {
    first = first_early (Fits led) (Fits more) (λ k has. (has.0, to k has.1)) (λ k j has other. elim (from k j has.1 other.1) [ inl own ↦ inl (other.0, own) | inr behind ↦ inr behind ]) b.first some knows.first;
    sight = λ none. absurd (no_first b.first none some);
  }

  -- ones that aren't before a symbol, where one before it fits
  pub knows_past : (at : ℕ) → precedes b at ≡ true → ((k : ℕ) → w.object.now.first_exported ≤ k → more k → led k ⊎ (at ≤ k)) → Knows w more b
  knows_past at past from = record {
    first = first_past b.first past knows.first;
    sight = λ none. absurd (no_first b.first none (some_first b.first past));
  }
    where
      some_first : (found : Option ℕ) → option_map_or (λ first. nat_le first at) found false ≡ true → is_some found ≡ true
      some_first None is = absurd (cc)
      some_first (Some k) is = refl

      first_past : (found : Option ℕ) → option_map_or (λ first. nat_le first at) found false ≡ true → FirstOf (Fits led) found → FirstOf (Fits more) found
      first_past None is none = absurd (cc)
      first_past (Some k) is (has, first) = (
        (has.0, to k has.1),
        λ j other. elim (from j other.0.0 other.1) [ inl own ↦ first j (other.0, own) | inr behind ↦ (let low = leb-true k at is in omega arith) ],
      )

  -- one more
  pub knows_after : (at : ℕ) → more at → ((k : ℕ) → more k → led k ⊎ (k ≡ at)) → Knows w more (after w b at)
  knows_after at has from =
      let o = w.object.now in
      record {
        first = first_after (Fits led) (Fits more) (λ k own. (own.0, to k own.1)) at (λ k own. elim (from k own.1) [ inl before ↦ inl (own.0, before) | inr is ↦ inr is ]) (exports o (fitting w) at)
            (λ on. (exports_to o (fitting w) at on, has)) (λ off own. absurd (cc (exports_from o (fitting w) at own.0, off))) b.first knows.first;
        sight = λ none.
            only_after (Seen led) (Seen more) (λ k own. (own.0, to k own.1)) at (λ k own. elim (from k own.1) [ inl before ↦ inl (own.0, before) | inr is ↦ inr is ]) (exports o (sighted w) at)
            (λ on. (exports_to o (sighted w) at on, has)) (λ off own. absurd (cc (exports_from o (sighted w) at own.0, off))) b.sight (knows.sight (none_before (exports o (fitting w) at) b.first at none));
      }

-- no candidates
pub knows_nothing : (w : Search) (led : ℕ → Type 0) → ((k : ℕ) → led k → ⊥) → Knows w led nothing
knows_nothing w led none = record { first = λ k has. none k has.1; sight = λ empty k has. none k has.1 }

-- ---- one candidate

pub at_place : (xs ys : List Symbol) (k : ℕ) (s : Symbol) → xs ≡ ys → k < length xs → s ≡ get_or xs k s → slice_get ys k ≡ Some s
at_place xs ys k s same within is = ap (λ (zs : List Symbol). slice_get zs k) (sym same) ∙ slice_get-get_or xs k s within ∙ ap Some (sym is)

and_no : (a : Bool) → (a && false) ≡ false
and_no true = refl
and_no false = refl

unmade : (b : Best) (k : ℕ) → b ≡ made b k false false
unmade b k = refl

module _ (w : Search) (b : Best) (k : ℕ) where
  is_made : (fit seen : Bool) → exports w.object.now (fitting w) k ≡ fit → exports w.object.now (sighted w) k ≡ seen → made b k fit seen ≡ after w b k
  is_made fit seen fits sees = sym (ap (λ x. made b k x (exports w.object.now (sighted w) k)) fits ∙ ap (λ x. made b k fit x) sees)

  none_before_first : k < w.object.now.first_exported → (test : Symbol → Bool) → exports w.object.now test k ≡ false
  none_before_first below test = ap (λ x. x && option_map_or test (slice_get w.object.now.symbols k) false) (lt-leb w.object.now.first_exported k below)

  none_past : length w.object.now.symbols ≤ k → (test : Symbol → Bool) → exports w.object.now test k ≡ false
  none_past past test =
      ap (λ (found : Option Symbol). nat_le w.object.now.first_exported k && option_map_or test found false) (slice_get_past w.object.now.symbols k past) ∙ and_no (nat_le w.object.now.first_exported k)

  pub after_before : k < w.object.now.first_exported → b ≡ after w b k
  after_before below = unmade b k ∙ is_made false false (none_before_first below (fitting w)) (none_before_first below (sighted w))

  pub after_past : length w.object.now.symbols ≤ k → b ≡ after w b k
  after_past past = unmade b k ∙ is_made false false (none_past past (fitting w)) (none_past past (sighted w))

  module _ (s : Symbol) (from : w.object.now.first_exported ≤ k) (at : slice_get w.object.now.symbols k ≡ Some s) where
    one_at : (test : Symbol → Bool) → exports w.object.now test k ≡ test s
    one_at test =
        ap (λ x. x && option_map_or test (slice_get w.object.now.symbols k) false) (le-leb w.object.now.first_exported k from) ∙ ap (λ (found : Option Symbol). option_map_or test found false) at

    pub after_offer : is_offer w.object.now w.name.now s ≡ true → made b k (passes w.test s) (not (is_hidden_version s)) ≡ after w b k
    after_offer offer =
        is_made (passes w.test s) (not (is_hidden_version s)) (one_at (fitting w) ∙ ap (λ x. x && passes w.test s) offer) (one_at (sighted w) ∙ ap (λ x. x && not (is_hidden_version s)) offer)

    pub after_other : is_offer w.object.now w.name.now s ≡ false → b ≡ after w b k
    after_other none = unmade b k ∙ is_made false false (one_at (fitting w) ∙ ap (λ x. x && passes w.test s) none) (one_at (sighted w) ∙ ap (λ x. x && not (is_hidden_version s)) none)
