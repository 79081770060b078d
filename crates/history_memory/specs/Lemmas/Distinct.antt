-- The slots of an object stand in places of their own.
use Rattle.std.proofs.Common.{◌≡◌, ◌⊎◌, inl, inr, ℕ, ◌+◌, ◌<◌, List, ◌++◌, length, get_or, map, Some, arith, sym, ap, ◌∙◌, length-append}
use Rattle.std.specs.List.{AllPairs, slice_get}
use Rattle.std.proofs.lemmas.Bool.{cases_order}
use Rattle.std.proofs.lemmas.List.{get_or-append-add, get_or-map, length-map}
use Rattle.std.proofs.lemmas.Option.{get_or_from_slice_get, slice_get_within}
use Rattle.ld_base.specs.declared.object.Object.{Object}
use Rattle.ld_base.specs.declared.object.Reloc.{Reloc}
use Rattle.ld_base.specs.declared.object.Span.{Span}
use Rattle.seg_image.specs.Accepted.{Accepted, AreApart, doubleword, named, named_by}

pairs_behind : {X : Type 0} (R : X → X → Type 0) (xs ys : List X) → AllPairs R (xs ++ ys) → (i j : ℕ) (d : X) → i < j → j < length ys → R (get_or ys i d) (get_or ys j d)
pairs_behind {X} R xs ys pairs i j d less within =
    let pair = pairs (length xs + i) (length xs + j) d (omega (arith, less)) (omega (arith, within, length-append xs ys)) in
    rw (get_or-append-add xs ys i d, get_or-append-add xs ys j d) at pair

module _ (o : Object) (a : Accepted o) where
  abbrev front : List Span
  front = map (named_by o) o.relocs ++ map doubleword o.relr

  abbrev spans : List Span
  spans = map (λ (r : Reloc). doubleword r.place) o.plt_relocs

  all_apart : AllPairs AreApart (front ++ spans)
  unfolding named
  all_apart = a.apart

  span : (k : ℕ) (r : Reloc) → slice_get o.plt_relocs k ≡ Some r → get_or spans k (doubleword 0) ≡ doubleword r.place
  span k r at =
      get_or-map (λ (q : Reloc). doubleword q.place) o.plt_relocs k r (doubleword 0) (slice_get_within o.plt_relocs k r at)
      ∙ ap (λ (q : Reloc). doubleword q.place) (get_or_from_slice_get o.plt_relocs k r r at)

  earlier : (i j : ℕ) (r q : Reloc) → slice_get o.plt_relocs i ≡ Some r → slice_get o.plt_relocs j ≡ Some q → i < j → r.place ≡ q.place → ⊥
  earlier i j r q first second less same =
      let within : j < length o.plt_relocs = slice_get_within o.plt_relocs j q second in
      let long : length spans ≡ length o.plt_relocs = length-map o.plt_relocs (λ (q : Reloc). doubleword q.place) in
      let pair = pairs_behind AreApart front spans all_apart i j (doubleword 0) less (omega (arith, within, long)) in
      apart r.place q.place (rw (span i r first, span j q second) at pair) same
    where
      apart : (x y : ℕ) → AreApart (doubleword x) (doubleword y) → x ≡ y → ⊥
      apart x y far is = far (omega arith) (omega arith) (omega (arith, is)) (omega (arith, is))

  pub one_slot : (i j : ℕ) (r q : Reloc) → slice_get o.plt_relocs i ≡ Some r → slice_get o.plt_relocs j ≡ Some q → r.place ≡ q.place → i ≡ j
  one_slot i j r q first second same = by (cases_order i j)
    where
      by : (i ≡ j) ⊎ ((i < j) ⊎ (j < i)) → i ≡ j
      by (inl is) = is
      by (inr (inl less)) = absurd (earlier i j r q first second less same)
      by (inr (inr more)) = absurd (earlier j i q r second first more (sym same))
