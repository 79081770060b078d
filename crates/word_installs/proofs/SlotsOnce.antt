-- No two slots of new objects are listed at one address.
use Rattle.std.proofs.Common.{◌≡◌, ◌≢◌, ⊎_elim, ℕ, zero, suc, ◌+◌, ◌≤◌, List, [], ◌∷◌, ◌++◌, length, map, None, Some, refl, sym, ap, subst, ◌∙◌, arith}
use Rattle.std.specs.List.{Contains, flat_map, range_with_len, slice_get}
use Rattle.std.proofs.lemmas.List.Elements.{Contains-append_cases}
use Rattle.ld_base.specs.declared.linking.Loaded.{Loaded}
use Rattle.ld_base.specs.declared.object.Reloc.{Reloc}
use Rattle.seg_image.specs.Pages.{guest_address}
use Rattle.history_calls.specs.Served.{slot_word, slots_of}
use Rattle.history_calls.specs.declared.link_served.installs.SlotWord.{SlotWord}
use Rattle.history_state.specs.Laws.{slot_address}
use Rattle.history_state.specs.Objects.{serial_of}
use Rattle.history_state.specs.State.{Linked, State}
use Rattle.history_state.specs.Lemmas.Lists.{at_in, first_or_later, from_flat, from_map, here, in_map, later, none_in}
use Rattle.history_state.specs.Lemmas.Tidy.{in_at}
use Rattle.history_memory.specs.Holds.{IsSlotAt}
use Rattle.history_memory.specs.Memory.{IsDoubleword}
use Rattle.kept_words.proofs.Settling.{StateLaws, same_slot}
use Rattle.word_installs.specs.Installed.{AreOnce}
use Rattle.word_installs.proofs.Reserved.{IsOfObject}

-- ---- lists

abbrev Once : List SlotWord → Type 0
Once [] = Unit {0}
Once (x ∷ rest) = ((y : SlotWord) → Contains rest y → x.address ≢ y.address) × Once rest

once_append : (xs ys : List SlotWord) → Once xs → Once ys → ((x y : SlotWord) → Contains xs x → Contains ys y → x.address ≢ y.address) → Once (xs ++ ys)
once_append [] ys one two apart = two
once_append (x ∷ xs) ys one two apart = (
  λ y there. ⊎_elim (λ (i : Contains xs y). one.0 y i) (λ (j : Contains ys y). apart x y (here x xs) j) (Contains-append_cases xs ys y there),
  once_append xs ys one.1 two (λ p q i j. apart p q (later x xs p i) j),
)

once_index : (slots : List SlotWord) → Once slots → AreOnce slots
once_index [] once i j x y at_x at_y same = absurd (let none_x : None ≡ Some x = at_x in cc)
once_index (z ∷ rest) once zero zero x y at_x at_y same = refl
once_index (z ∷ rest) once zero (suc j) x y at_x at_y same =
    let first : z ≡ x = cc in absurd (once.0 y (at_in rest j y at_y) (ap (λ (s : SlotWord). s.address) first ∙ same))
once_index (z ∷ rest) once (suc i) zero x y at_x at_y same =
    let first : z ≡ y = cc in absurd (once.0 x (at_in rest i x at_x) (ap (λ (s : SlotWord). s.address) first ∙ sym same))
once_index (z ∷ rest) once (suc i) (suc j) x y at_x at_y same = ap suc (once_index rest once.1 i j x y at_x at_y same)

once_map : (f : Reloc → SlotWord) (relocs : List Reloc)
    → ((i j : ℕ) (r q : Reloc) → slice_get relocs i ≡ Some r → slice_get relocs j ≡ Some q → (f r).address ≡ (f q).address → i ≡ j) → Once (map f relocs)
once_map f [] one = tt
once_map f (r ∷ rest) one = (
  λ y there same.
      let x = from_map f rest y there in
      let k = in_at rest x.0 x.1 in
      let no_more : 0 ≡ suc k.0 = one 0 (suc k.0) r x.0 refl k.1 (same ∙ ap (λ (s : SlotWord). s.address) (sym x.2)) in
      omega (arith, no_more),
  once_map f rest (λ i j p q at_p at_q same. let next : suc i ≡ suc j = one (suc i) (suc j) p q at_p at_q same in omega (arith, next)),
)

-- ---- serials

abbrev pub SerialsDiffer : List Loaded → Type 0
SerialsDiffer [] = Unit {0}
SerialsDiffer (o ∷ rest) = ((p : Loaded) → Contains rest p → o.serial ≢ p.serial) × SerialsDiffer rest

range_low : (m n x : ℕ) → Contains (range_with_len m n) x → m ≤ x
range_low m zero x there = absurd (none_in x there)
range_low m (suc n) x there = ⊎_elim
    (λ (first : m ≡ x). omega (arith, first))
    (λ (rest : Contains (range_with_len (m + 1) n) x). let low : m + 1 ≤ x = range_low (m + 1) n x rest in omega (arith, low))
    (first_or_later m (range_with_len (m + 1) n) x there)

pub serials_differ : (n : ℕ) (added : List Loaded) → map serial_of added ≡ range_with_len n (length added) → SerialsDiffer added
serials_differ n [] are = tt
serials_differ n (o ∷ rest) are =
    let first : o.serial ≡ n = cc in
    let more : map serial_of rest ≡ range_with_len (n + 1) (length rest) = cc in (
      λ p there same.
          let low : n + 1 ≤ p.serial = range_low (n + 1) (length rest) p.serial (subst (λ (ns : List ℕ). Contains ns p.serial) more (in_map serial_of rest p there)) in
          omega (arith, first, same, low),
      serials_differ (n + 1) rest more,
    )

-- ---- slots of a state

-- each slot of an image has its address
pub record HaveSlots (s : State) : Type 0 where
  pub there : (i : Linked) (slot : ℕ) (r : Reloc) → Contains s.images i → slice_get i.object.plt_relocs slot ≡ Some r → IsSlotAt s (slot_address i r) i.serial slot
  pub whole : (i : Linked) (slot : ℕ) (r : Reloc) → Contains s.images i → slice_get i.object.plt_relocs slot ≡ Some r → IsDoubleword (slot_address i r)

module _ (s : State) (laws : StateLaws s) (slots : HaveSlots s) where
  pub slot_of : (o : Loaded) (i : Linked) → Contains s.images i → IsOfObject i o → (k : ℕ) (r : Reloc) → slice_get o.object.plt_relocs k ≡ Some r
      → IsSlotAt s (guest_address o.base r.place) o.serial k × IsDoubleword (guest_address o.base r.place)
  slot_of o i there of k r at =
      let inside : slice_get i.object.plt_relocs k ≡ Some r = ap (λ x. slice_get x.plt_relocs k) of.object ∙ at in (
        subst (λ (n : ℕ). IsSlotAt s (guest_address o.base r.place) n k) of.serial (subst (λ (b : ℕ). IsSlotAt s (guest_address b r.place) i.serial k) of.base (slots.there i k r there inside)),
        subst (λ (b : ℕ). IsDoubleword (guest_address b r.place)) of.base (slots.whole i k r there inside),
      )

  -- slots of one address are one
  one_slot : (o p : Loaded) (i j : Linked) → Contains s.images i → IsOfObject i o → Contains s.images j → IsOfObject j p → (k n : ℕ) (r q : Reloc) → slice_get o.object.plt_relocs k ≡ Some r
      → slice_get p.object.plt_relocs n ≡ Some q → guest_address o.base r.place ≡ guest_address p.base q.place → (p.serial ≡ o.serial) × (n ≡ k)
  one_slot o p i j there_i of_i there_j of_j k n r q at_r at_q same =
      let x = slot_of o i there_i of_i k r at_r in
      let y = slot_of p j there_j of_j n q at_q in
      same_slot s laws (guest_address o.base r.place) o.serial k x.1 x.0 p.serial n (subst (λ (a : ℕ). IsSlotAt s a p.serial n) (sym same) y.0)

  once_of : (o : Loaded) (i : Linked) → Contains s.images i → IsOfObject i o → Once (slots_of o)
  once_of o i there of = once_map (slot_word o) o.object.plt_relocs (λ k n r q at_r at_q same. sym (one_slot o o i i there of there of k n r q at_r at_q same).1)

  once_all : (added : List Loaded) → SerialsDiffer added → ((o : Loaded) → Contains added o → (i : Linked) × Contains s.images i × IsOfObject i o) → Once (flat_map slots_of added)
  once_all [] differ has = tt
  once_all (o ∷ rest) differ has =
      let own = has o (here o rest) in
      once_append (slots_of o) (flat_map slots_of rest) (once_of o own.0 own.1 own.2) (once_all rest differ.1 (λ p there. has p (later o rest p there)))
      (λ x y in_o in_rest same.
      let r = from_map (slot_word o) o.object.plt_relocs x in_o in
      let k = in_at o.object.plt_relocs r.0 r.1 in
      let p = from_flat slots_of rest y in_rest in
      let q = from_map (slot_word p.0) p.0.object.plt_relocs y p.2 in
      let n = in_at p.0.object.plt_relocs q.0 q.1 in
      let its = has p.0 (later o rest p.0 p.1) in
      differ.0 p.0 p.1 (sym (one_slot o p.0 own.0 its.0 own.1 own.2 its.1 its.2 k.0 n.0 r.0 q.0 k.1 n.1
      (ap (λ (z : SlotWord). z.address) r.2 ∙ same ∙ ap (λ (z : SlotWord). z.address) (sym q.2))).0))

  pub slots_once : (added : List Loaded) → SerialsDiffer added → ((o : Loaded) → Contains added o → (i : Linked) × Contains s.images i × IsOfObject i o) → AreOnce (flat_map slots_of added)
  slots_once added differ has = once_index (flat_map slots_of added) (once_all added differ has)
