-- An executable address lies in a doubleword that is executable.
use Rattle.std.proofs.Common.{◌≡◌, ℕ, ◌+◌, ◌-◌, ◌*◌, ◌/◌, ◌^◌, ◌<◌, ◌≤◌, Bool, true, false, not, ◌||◌, leb, ltb, Option, Some, None, refl, ap, ◌∙◌, arith}
use Rattle.std.specs.Prelude.{if◌then◌else◌}
use Rattle.std.specs.List.{slice_get}
use Rattle.std.specs.Option.{option_map_or}
use Rattle.std.proofs.lemmas.Bool.{and_from, and_parts, le-leb, leb-true, lt-ltb, ltb-true}
use Rattle.ld_base.specs.declared.linking.Role.TheVariants.{None as NoRole, Ro, Rx, Rw, Slot}
use Rattle.ld_base.specs.declared.object.Object.{Object}
use Rattle.ld_base.specs.declared.object.Segment.{Segment}
use Rattle.history_event.specs.declared.event.Range.{Range}
use Rattle.seg_image.specs.Pages.{end_of, has_page, low_of, own_address, pages_of, segment_at, start_of}
use Rattle.seg_image.specs.Roles.{is_executable, is_linkers, is_relro, is_slot, is_writable, role_in, role_of}
use Rattle.history_state.specs.State.{Linked, State}
use Rattle.history_state.specs.Addresses.{is_linkers_page}
use Rattle.history_state.specs.Memory.{data_at, image_at, is_in, role_at}
use Rattle.history_state.specs.Lemmas.Lazy.{PageLaws}
use Rattle.history_state.specs.Lemmas.Lists.{found_in}
use Rattle.history_state.specs.Lemmas.Map.{Mapped, in_pages, own_at, range_in, range_lies, role_in_image, start_at, within_of}
use Rattle.history_state.specs.Lemmas.Tidy.{in_at}
use Rattle.history_memory.specs.Memory.{IsDoubleword, doubleword_of}

-- ---- an object's own pages

pub low_page : (o : Object) → (k : ℕ) × (low_of o ≡ 4096 * k)
unfolding low_of
low_page o = by (slice_get o.segments 0)
  where
    by : (found : Option Segment) → (k : ℕ) × (option_map_or start_of found 0 ≡ 4096 * k)
    by None = (0, refl)
    by (Some g) = (g.vaddr / 4096, omega arith)

record IsCode (o : Object) (v : ℕ) : Type 0 where
  pub segment : Segment
  pub found : segment_at o v ≡ Some segment
  pub code : is_executable segment ≡ true

code_of : (o : Object) (v : ℕ) → role_of o v ≡ Rx → IsCode o v
unfolding role_of
code_of o v is = by (segment_at o v) refl is
  where
    last : (a b : Bool) → (if a then Slot else if b then Ro else Rw) ≡ Rx → ⊥
    last true b e = let no : Slot ≡ Rx = e in cc
    last false true e = let no : Ro ≡ Rx = e in cc
    last false false e = let no : Rw ≡ Rx = e in cc

    at : (x w a b : Bool) → (if x then Rx else if not w then Ro else if a then Slot else if b then Ro else Rw) ≡ Rx → x ≡ true
    at true w a b e = refl
    at false false a b e = absurd (let no : Ro ≡ Rx = e in cc)
    at false true a b e = absurd (last a b e)

    by : (found : Option Segment) → segment_at o v ≡ found → option_map_or (role_in o v) found NoRole ≡ Rx → IsCode o v
    by None found e = absurd (let no : NoRole ≡ Rx = e in cc)
    by (Some g) found e = record { segment = g; found = found; code = at (is_executable g) (is_writable g) (is_slot o v) (is_linkers o v || is_relro o v) e }

code_role : (o : Object) (v : ℕ) (g : Segment) → segment_at o v ≡ Some g → is_executable g ≡ true → role_of o v ≡ Rx
unfolding role_of
code_role o v g found code =
    ap (λ (x : Option Segment). option_map_or (role_in o v) x NoRole) found
    ∙ ap (λ (t : Bool). if t then Rx else if not (is_writable g) then Ro else if is_slot o v then Slot else if is_linkers o v || is_relro o v then Ro else Rw) code

in_segment : (o : Object) (v : ℕ) (g : Segment) → segment_at o v ≡ Some g → (k : ℕ) × (slice_get o.segments k ≡ Some g) × (start_of g ≤ v) × (v < end_of g)
unfolding segment_at
in_segment o v g found =
    let there = found_in (has_page v) o.segments g found in
    let at = in_at o.segments g there.0 in
    let parts = and_parts (leb (start_of g) v) (ltb v (end_of g)) there.1 in
    (at.0, at.1, leb-true (start_of g) v parts.0, ltb-true v (end_of g) parts.1)

-- ---- addresses

-- the doubleword of an address keeps to the pages that the address is in
keeps_from : (a A k : ℕ) → A ≡ 4096 * k → A ≤ a → A ≤ doubleword_of a
keeps_from a A k page from = omega (arith, page, from)

keeps_own : (low A a l k p v u : ℕ) → low ≡ 4096 * l → A ≡ 4096 * k → A ≤ a → v ≡ low + (a - A) → u ≡ low + (doubleword_of a - A) → 4096 * p ≤ v → 4096 * p ≤ u
keeps_own low A a l k p v u is at from v_is u_is start =
    let steps : u ≡ 4096 * l + (doubleword_of a - 4096 * k) = omega (arith, is, at, u_is) in
    let whole : v ≡ 4096 * l + (a - 4096 * k) = omega (arith, is, at, v_is) in
    omega (arith, at, from, steps, whole, start)

below : (low A a v u q : ℕ) → A ≤ a → v ≡ low + (a - A) → u ≡ low + (doubleword_of a - A) → v < q → u < q
below low A a v u q from v_is u_is last = omega (arith, from, v_is, u_is, last)

module _ (pages : PageLaws) (s : State) (m : Mapped s) (a : ℕ) (word : a < 2 ^ 64) where
  abbrev d : ℕ
  d = doubleword_of a

  abbrev pub Whole : Type 0
  Whole = IsDoubleword d × (role_at s d ≡ Rx)

  of_linkers : is_linkers_page a ≡ true → Whole
  unfolding role_at
  of_linkers page =
      let parts = and_parts (leb 0x80f000 a) (ltb a 0x810000) page in
      let from : 0x80f000 ≤ a = leb-true 0x80f000 a parts.0 in
      let to : a < 0x810000 = ltb-true a 0x810000 parts.1 in
      let on : is_linkers_page d ≡ true = and_from (leb 0x80f000 d) (ltb d 0x810000) (le-leb 0x80f000 d (omega (arith, from))) (lt-ltb d 0x810000 (omega (arith, to))) in (
        record { low = omega (arith, from); high = omega (arith, to); whole = omega arith },
        ap (λ (t : Bool). if t then Rx else elim (image_at s d) [ Some q ↦ role_of q.object (own_address q.base d) | None ↦ elim (data_at s d) [ Some r ↦ Rw | None ↦ NoRole ] ]) on,
      )

  of_image : (i : Linked) → image_at s a ≡ Some i → role_of i.object (own_address i.base a) ≡ Rx → Whole
  of_image i found rx =
      let got = found_in (λ q. is_in q a) s.images i found in
      let r : Range = (m.range i got.0).range in
      let A : ℕ = start_at pages s m i got.0 in
      let n : ℕ = pages_of i.object in
      let size : r.pages ≡ n = (m.range i got.0).pages in
      let within = within_of a r (range_in pages s m i got.0 a word got.1) in
      let from : A ≤ a = within.0 in
      let to : a < A + 4096 * r.pages = within.1 in
      let last : a < A + 4096 * n = omega (arith, to, size) in
      let lies = range_lies s.ranges m.apart r (m.range i got.0).there (omega (arith, from, to)) in
      let at : A ≡ 0x10000 + 4096 * lies.0 = lies.1 in
      let high : A + 4096 * r.pages ≤ 0x80f000 = lies.2 in
      let page : A ≡ 4096 * (16 + lies.0) = omega (arith, at) in
      let first : A ≤ d = keeps_from a A (16 + lies.0) page from in
      let behind : d < A + 4096 * n = omega (arith, last) in
      let small : d < 2 ^ 64 = omega (arith, word) in
      let low = low_page i.object in
      let own : own_address i.base a ≡ low_of i.object + (a - A) = own_at pages s m i got.0 a from last in
      let own_d : own_address i.base d ≡ low_of i.object + (d - A) = own_at pages s m i got.0 d first behind in
      let code = code_of i.object (own_address i.base a) rx in
      let g : Segment = code.segment in
      let seg = in_segment i.object (own_address i.base a) g code.found in
      let start : 4096 * (g.vaddr / 4096) ≤ own_address i.base a = (let e : start_of g ≤ own_address i.base a = seg.2 in omega (arith, e)) in
      let low_d : 4096 * (g.vaddr / 4096) ≤ own_address i.base d = keeps_own (low_of i.object) A a low.0 (16 + lies.0) (g.vaddr / 4096) (own_address i.base a) (own_address i.base d) low.1 page from own own_d start in
      let segment_d : segment_at i.object (own_address i.base d) ≡ Some g =
      pages.one i.object seg.0 g (own_address i.base d) (m.accepted i got.0).image seg.1 (omega (arith, low_d)) (below (low_of i.object) A a (own_address i.base a) (own_address i.base d) (end_of g) from own own_d seg.3) in (
        record { low = omega (arith, at, first); high = omega (arith, behind, size, high); whole = omega arith },
        role_in_image pages s m i got.0 d small (in_pages pages s m i got.0 d first behind) ∙ code_role i.object (own_address i.base d) g segment_d code.code,
      )

  pub code_whole : role_at s a ≡ Rx → Whole
  unfolding role_at
  code_whole rx = by (is_linkers_page a) refl (image_at s a) refl rx
    where
      data_or : (found : Option Range) → (elim found [ Some r ↦ Rw | None ↦ NoRole ]) ≡ Rx → ⊥
      data_or (Some r) e = let no : Rw ≡ Rx = e in cc
      data_or None e = let no : NoRole ≡ Rx = e in cc

      by : (t : Bool) → is_linkers_page a ≡ t → (found : Option Linked) → image_at s a ≡ found
          → (if t then Rx else elim found [ Some i ↦ role_of i.object (own_address i.base a) | None ↦ elim (data_at s a) [ Some r ↦ Rw | None ↦ NoRole ] ]) ≡ Rx → Whole
      by true page found is e = of_linkers page
      by false page (Some i) is e = of_image i is e
      by false page None is e = absurd (data_or (data_at s a) e)
