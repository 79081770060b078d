-- Marked words, and the roles that they come to.
use Rattle.std.proofs.Common.{◌≡◌, ◌≢◌, ℕ, ◌+◌, ◌*◌, ◌<◌, ◌==◌, ◌||◌, ◌&&◌, not, Option, Bool, true, false, List, [], ◌∷◌, ◌++◌, length, get_or, take, Some, None, refl, arith, sym, ◌∙◌, ap, inl, inr, if◌then◌else◌}
use Rattle.std.proofs.lemmas.Bool.{and_parts, cases_Bool, eq-eqb, eqb-true, eqb-false, ne_eqb, not-true, or_cases, or_right, false_from_ne_true}
use Rattle.std.proofs.lemmas.List.{take_more}
use Rattle.std.proofs.lemmas.List.Recursion.{or_push}
use Rattle.std.proofs.lemmas.Option.{get_or_from_slice_get, slice_get_within}
use Rattle.std.specs.List.{list_any}
use Rattle.std.specs.Prelude.{pos}
use Rattle.std.specs.Option.{option_map_or}
use Rattle.ld_base.specs.declared.linking.Role.TheVariants.{None as NoRole, Ro, Rx, Rw, Slot}
use Rattle.ld_base.specs.declared.object.Object.{Object}
use Rattle.ld_base.specs.declared.object.Reloc.{Reloc}
use Rattle.ld_base.specs.declared.object.Segment.{Segment}
use Rattle.seg_image.specs.declared.image.Word.{Word}
use Rattle.seg_image.specs.Accepted.{Accepted, IsPlace, IsTable}
use Rattle.seg_image.specs.Images.{AreWords, with_role}
use Rattle.seg_image.specs.Pages.{low_of, segment_at}
use Rattle.seg_image.specs.Plain.{linkers_marked, plain_in, plain_role, plain_word, slots_marked}
use Rattle.seg_image.specs.Roles.{is_executable, is_linkers, is_relro, is_slot, is_writable, role_in, role_of}
use Rattle.seg_image.specs.Words.{file_word}
use Rattle.seg_image.proofs.Found.{any_at}
use Rattle.seg_image.proofs.Ordered.{pages_hold, segment_is, segment_fits}
use Rattle.seg_image.proofs.Steps.{role_set, words_same}

-- any relocation
abbrev pub no_reloc : Reloc
no_reloc = record { place = 0; kind = 0; symbol = 0; addend = pos 0 }

-- a word that is a slot's
abbrev slotted : Word → Word
slotted w = record { value = w.value; role = Slot }

-- words with some slots marked
abbrev pub marked_by : List Reloc → (ℕ → Word) → ℕ → Word
marked_by slots word v = if list_any (λ r. r.place == v) slots then record { value = (word v).value; role = Slot } else word v

marked_place : (slots : List Reloc) (r : Reloc) (word : ℕ → Word) → marked_by (slots ++ r ∷ []) word r.place ≡ slotted (marked_by slots word r.place)
marked_place slots r word =
    let more = or_push (list_any (λ q. q.place == r.place)) (λ q. q.place == r.place) refl (λ _ _. refl) slots r in
    let here = eq-eqb r.place r.place refl in
    rw (more, or_right (list_any (λ q. q.place == r.place) slots) (r.place == r.place) here) (value_kept (list_any (λ q. q.place == r.place) slots))
  where
    value_kept : (b : Bool) → slotted (word r.place) ≡ slotted (if b then slotted (word r.place) else word r.place)
    value_kept true = refl
    value_kept false = refl

marked_other : (slots : List Reloc) (r : Reloc) (word : ℕ → Word) (v : ℕ) → v ≢ r.place → marked_by (slots ++ r ∷ []) word v ≡ marked_by slots word v
marked_other slots r word v other =
    let more = or_push (list_any (λ q. q.place == v)) (λ q. q.place == v) refl (λ _ _. refl) slots r in
    let not_here = ne_eqb r.place v (λ e. other (sym e)) in
    let same : list_any (λ q. q.place == v) (slots ++ r ∷ []) ≡ list_any (λ q. q.place == v) slots = more ∙ ap (λ b. list_any (λ q. q.place == v) slots || b) not_here ∙ or_false (list_any (λ q. q.place == v) slots) in
    ap (λ b. if b then record { value = (word v).value; role = Slot } else word v) same
  where
    or_false : (b : Bool) → (b || false) ≡ b
    or_false true = refl
    or_false false = refl

-- one slot more is marked
pub slot_marked : (low : ℕ) (word : ℕ → Word) (ws : List Word) (slots : List Reloc) (n k : ℕ) (r : Reloc) → n < length slots
    → low + 8 * k ≡ (get_or slots n r).place → k < length ws → AreWords low (marked_by (take n slots) word) ws → AreWords low (marked_by (take (n + 1) slots) word) (with_role ws k Slot)
slot_marked low word ws slots n k r within place inside are =
    let slot = get_or slots n r in
    rw (take_more slots n r within) (role_set low (marked_by (take n slots) word) (marked_by (take n slots ++ slot ∷ []) word) ws k Slot are inside
    (rw place (marked_place (take n slots) slot word))
    (λ v other. marked_other (take n slots) slot word v (λ e. other (e ∙ sym place))))

-- words with one of them read-only
abbrev pinned : (ℕ → Word) → ℕ → ℕ → Word
pinned word place v = if v == place then record { value = (word v).value; role = Ro } else word v

pinned_here : (word : ℕ → Word) (place : ℕ) → pinned word place place ≡ record { value = (word place).value; role = Ro }
pinned_here word place = rw (eq-eqb place place refl)

pinned_other : (word : ℕ → Word) (place v : ℕ) → v ≢ place → pinned word place v ≡ word v
pinned_other word place v other = rw (ne_eqb v place other)

role_pinned : (low : ℕ) (word : ℕ → Word) (ws : List Word) (k place : ℕ) → low + 8 * k ≡ place → k < length ws → AreWords low word ws → AreWords low (pinned word place) (with_role ws k Ro)
role_pinned low word ws k place at within are =
    role_set low word (pinned word place) ws k Ro are within
    (ap (pinned word place) at ∙ pinned_here word place ∙ ap (λ v. record { value = (word v).value; role = Ro }) (sym at))
    (λ v other. pinned_other word place v (λ e. other (e ∙ sym at)))

-- the linker's two words are marked
pub linkers_set : (o : Object) (low : ℕ) (word : ℕ → Word) (ws : List Word) (table k j : ℕ) → (length o.plt_relocs == 0) ≡ false → o.pltgot ≡ Some table
    → low + 8 * k ≡ table → low + 8 * j ≡ table + 8 → k < length ws → j < length (with_role ws k Ro) → AreWords low word ws
    → AreWords low (linkers_marked o word) (with_role (with_role ws k Ro) j Ro)
linkers_set o low word ws table k j some got first second in_first in_second are =
    let both = role_pinned low (pinned word table) (with_role ws k Ro) j (table + 8) second in_second (role_pinned low word ws k table first in_first are) in
    words_same low (pinned (pinned word table) (table + 8)) (linkers_marked o word) (with_role (with_role ws k Ro) j Ro) both (λ i less. linkers_are (low + 8 * i))
  where
    by_tests : (v : ℕ) (a b : Bool) → (if a || b then record { value = (word v).value; role = Ro } else word v)
        ≡ (if b then record { value = (if a then record { value = (word v).value; role = Ro } else word v).value; role = Ro } else if a then record { value = (word v).value; role = Ro } else word v)
    by_tests v true true = refl
    by_tests v true false = refl
    by_tests v false true = refl
    by_tests v false false = refl

    linkers_are : (v : ℕ) → linkers_marked o word v ≡ pinned (pinned word table) (table + 8) v
    linkers_are v = rw (some, got) (by_tests v (v == table) (v == table + 8))

pub linkers_after : (o : Object) (low : ℕ) (word : ℕ → Word) (ws one two : List Word) (table k j : ℕ) → (length o.plt_relocs == 0) ≡ false → o.pltgot ≡ Some table
    → low + 8 * k ≡ table → low + 8 * j ≡ table + 8 → k < length ws → j < length one → one ≡ with_role ws k Ro → two ≡ with_role one j Ro
    → AreWords low word ws → AreWords low (linkers_marked o word) two
linkers_after o low word ws one two table k j some got first second in_first in_second is_one is_two are =
    let within : j < length (with_role ws k Ro) = rw is_one at in_second in
    rw (is_two, is_one) (linkers_set o low word ws table k j some got first second in_first within are)

-- a place lies in the pages of a segment that is writable and not executable
module _ (o : Object) (a : Accepted o) where
  record HasPlace (v : ℕ) : Type 0 where
    segment : Segment
    is : segment_at o v ≡ Some segment
    writable : is_writable segment ≡ true
    closed : is_executable segment ≡ false

  has_place : (v : ℕ) → IsPlace o v → HasPlace v
  has_place v p =
      let w = p.writable in
      let fits = segment_fits o a w.at w.segment w.is in
      let hold = pages_hold w.segment in
      let low = w.low in
      let high = w.high in
      record {
        segment = w.segment;
        is = segment_is o a w.at w.segment v w.is (omega arith) (omega arith);
        writable = w.writable;
        closed = false_from_ne_true (is_executable w.segment) (fits.closed w.writable);
      }

  role_at_slot : (v : ℕ) → is_slot o v ≡ true → role_of o v ≡ Slot
  unfolding role_of
  role_at_slot v slot =
      let found = any_at (λ r. r.place == v) o.plt_relocs slot in
      let r = found.1 in
      let same : r.place ≡ v = eqb-true r.place v found.3 in
      let is_r = get_or_from_slice_get o.plt_relocs found.0 r r found.2 in
      let place : IsPlace o v = rw (is_r, same) at (a.slots found.0 r (slice_get_within o.plt_relocs found.0 r found.2)) in
      let h = has_place v place in
      rw (h.is, h.closed, h.writable, slot)

  role_at_linkers : (v : ℕ) → is_slot o v ≡ false → is_linkers o v ≡ true → role_of o v ≡ Ro
  unfolding role_of
  role_at_linkers v no_slot linkers =
      let h = has_place v (table_place v linkers) in
      rw (h.is, h.closed, h.writable, no_slot, linkers)
    where
      table_place : (v : ℕ) → is_linkers o v ≡ true → IsPlace o v
      table_place v linkers =
          let parts = and_parts (not (length o.plt_relocs == 0)) (option_map_or (λ p. v == p || v == p + 8) o.pltgot false) linkers in
          let some : (length o.plt_relocs == 0) ≡ false = not-true (length o.plt_relocs == 0) parts.0 in
          let none : length o.plt_relocs ≡ 0 → ⊥ = eqb-false (length o.plt_relocs) 0 some in
          let t = a.table (omega arith) in
          let at : (v == t.0 || v == t.0 + 8) ≡ true = rw t.1 at parts.1 in
          elim (or_cases (v == t.0) (v == t.0 + 8) at) [
            | inl first ↦ (let same = eqb-true v t.0 first in rw same t.2.first)
            | inr second ↦ (let same = eqb-true v (t.0 + 8) second in rw same t.2.second)
          ]

  role_elsewhere : (v : ℕ) → is_slot o v ≡ false → is_linkers o v ≡ false → role_of o v ≡ plain_role o v
  unfolding role_of
  role_elsewhere v no_slot no_linkers = by_segment (segment_at o v)
    where
      by_tests : (x w r : Bool) → (if x then Rx else if not w then Ro else if false then Slot else if false || r then Ro else Rw) ≡ (if x then Rx else if w && not r then Rw else Ro)
      by_tests true w r = refl
      by_tests false false r = refl
      by_tests false true true = refl
      by_tests false true false = refl

      by_segment : (s : Option Segment) → option_map_or (role_in o v) s NoRole ≡ option_map_or (plain_in o v) s NoRole
      by_segment None = refl
      by_segment (Some g) = rw (no_slot, no_linkers) (by_tests (is_executable g) (is_writable g) (is_relro o v))

  -- the table of an object with slots
  pub table_is : (table : ℕ) → (length o.plt_relocs == 0) ≡ false → o.pltgot ≡ Some table → IsTable o table
  table_is table some got =
      let none : length o.plt_relocs ≡ 0 → ⊥ = eqb-false (length o.plt_relocs) 0 some in
      let t = a.table (omega arith) in
      let same : t.0 ≡ table = (let e : Some t.0 ≡ Some table = sym t.1 ∙ got in cc) in
      rw same at t.2

  -- marked words are those of the image
  pub marked_is : (v : ℕ) → ◌≡◌ {A = Word} (slots_marked o (linkers_marked o (plain_word o)) v) (record { value = file_word o v; role = role_of o v })
  unfolding plain_word
  marked_is v =
      elim (cases_Bool (is_slot o v)) [
        | inl slot ↦ rw (slot, role_at_slot v slot) (value_of (is_linkers o v))
        | inr no_slot ↦ elim (cases_Bool (is_linkers o v)) [
          | inl linkers ↦ rw (no_slot, linkers, role_at_linkers v no_slot linkers)
          | inr no_linkers ↦ rw (no_slot, no_linkers, role_elsewhere v no_slot no_linkers)
        ]
      ]
    where
      value_of : (b : Bool) → slotted (if b then record { value = file_word o v; role = Ro } else record { value = file_word o v; role = plain_role o v }) ≡ slotted (record { value = file_word o v; role = Ro })
      value_of true = refl
      value_of false = refl

  pub all_marked : (ws : List Word) → AreWords (low_of o) (slots_marked o (linkers_marked o (plain_word o))) ws
      → AreWords (low_of o) (λ v. record { value = file_word o v; role = role_of o v }) ws
  all_marked ws are =
      words_same (low_of o) (slots_marked o (linkers_marked o (plain_word o))) (λ v. record { value = file_word o v; role = role_of o v }) ws are
      (λ k less. sym (marked_is (low_of o + 8 * k)))
