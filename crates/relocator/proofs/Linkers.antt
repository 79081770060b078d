-- The linker's two words.
use Rattle.std.proofs.Common.{◌≡◌, ℕ, ◌+◌, ◌^◌, ◌<◌, ◌≤◌, ◌==◌, ◌||◌, ◌⊎◌, true, false, length, Some, None, arith, sym, ◌∙◌, ap, inl, inr, if◌then◌else◌}
use Rattle.std.proofs.lemmas.Bool.{cases_eq, eq-eqb, eqb-false, ne_eqb}
use Rattle.std.proofs.lemmas.Option.{get_or_from_slice_get, slice_get_within}
use Rattle.std.specs.Prelude.{unwrap_or}
use Rattle.ld_base.specs.declared.object.Object.{Object}
use Rattle.seg_image.specs.declared.image.Image.{Image}
use Rattle.seg_image.specs.Accepted.{Accepted, IsPlace, IsTable}
use Rattle.seg_image.specs.Images.{IsImage, changed_at}
use Rattle.seg_image.specs.Pages.{IsInside}
use Rattle.relocator.specs.Relocated.{linkers_at, over}
use Rattle.relocator.proofs.Layers.{image_same}

module _ (o : Object) (serial : ℕ) where
  -- an object without slots has none
  no_linkers : (length o.plt_relocs == 0) ≡ true → (v : ℕ) → linkers_at o serial v ≡ None
  unfolding linkers_at
  no_linkers none v = rw none

  pub without_linkers : (base : ℕ) (value : ℕ → ℕ) (image : Image) → (length o.plt_relocs == 0) ≡ true → IsImage o base value image → IsImage o base (over (linkers_at o serial) value) image
  without_linkers base value image none is = image_same o base value (over (linkers_at o serial) value) image is (λ v _. ap (λ w. unwrap_or w (value v)) (no_linkers none v))

  module _ (table : ℕ) (some : (length o.plt_relocs == 0) ≡ false) (got : o.pltgot ≡ Some table) where
    linkers_are : (v : ℕ) → linkers_at o serial v ≡ (if v == table || v == table + 8 then Some (if v == table then 0x80f000 else serial) else None)
    unfolding linkers_at
    linkers_are v = rw (some, got)

    linkers_over : (value : ℕ → ℕ) (v : ℕ) → over (linkers_at o serial) value v ≡ changed_at (changed_at value table 0x80f000) (table + 8) serial v
    unfolding changed_at
    linkers_over value v = ap (λ w. unwrap_or w (value v)) (linkers_are v) ∙ by_place (cases_eq v table) (cases_eq v (table + 8))
      where
        by_place : (v ≡ table) ⊎ (v ≡ table → ⊥) → (v ≡ table + 8) ⊎ (v ≡ table + 8 → ⊥)
            → unwrap_or (if v == table || v == table + 8 then Some (if v == table then 0x80f000 else serial) else None) (value v) ≡ (if v == table + 8 then serial else if v == table then 0x80f000 else value v)
        by_place (inl first) (inl second) = absurd (omega arith)
        by_place (inl first) (inr other) = rw (eq-eqb v table first, ne_eqb v (table + 8) other)
        by_place (inr other) (inl second) = rw (ne_eqb v table other, eq-eqb v (table + 8) second)
        by_place (inr other) (inr neither) = rw (ne_eqb v table other, ne_eqb v (table + 8) neither)

    pub with_linkers : (base : ℕ) (value : ℕ → ℕ) (image : Image) → IsImage o base (changed_at (changed_at value table 0x80f000) (table + 8) serial) image → IsImage o base (over (linkers_at o serial) value) image
    with_linkers base value image is =
        image_same o base (changed_at (changed_at value table 0x80f000) (table + 8) serial) (over (linkers_at o serial) value) image is (λ v _. linkers_over value v)

-- a place of an accepted object is a low address
pub low_place : (o : Object) → Accepted o → (v : ℕ) → IsPlace o v → v + 8 ≤ 2 ^ 32
low_place o a v p =
    let w = p.writable in
    let segment = a.segments w.at w.segment (slice_get_within o.segments w.at w.segment w.is) in
    let same = get_or_from_slice_get o.segments w.at w.segment w.segment w.is in
    let low = rw same at segment.low in
    let high = w.high in
    omega arith

pub low_address : (o : Object) → Accepted o → (v : ℕ) → IsInside o v → v < 2 ^ 32
low_address o a v i =
    let segment = a.segments i.at i.segment (slice_get_within o.segments i.at i.segment i.is) in
    let same = get_or_from_slice_get o.segments i.at i.segment i.segment i.is in
    let low = rw same at segment.low in
    let high = i.high in
    omega arith

pub table_of : (o : Object) → Accepted o → (table : ℕ) → (length o.plt_relocs == 0) ≡ false → o.pltgot ≡ Some table → IsTable o table
table_of o a table some got =
    let none : length o.plt_relocs ≡ 0 → ⊥ = eqb-false (length o.plt_relocs) 0 some in
    let t = a.table (omega arith) in
    let same : t.0 ≡ table = (let e : Some t.0 ≡ Some table = sym t.1 ∙ got in cc) in
    rw same at t.2
