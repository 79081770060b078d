-- The worked first call, moment by moment.
use Rattle.std.proofs.Common.{◌≡◌, ◌≢◌, inl, inr, ⊎_elim, ℕ, ◌^◌, ◌<◌, Bool, true, false, not, ◌&&◌, ◌||◌, eqb, List, [], ◌∷◌, Option, Some, None, refl, sym, ap, subst, ◌∙◌, arith}
use Rattle.std.specs.Prelude.{if◌then◌else◌}
use Rattle.std.specs.List.{Contains, list_all, slice_get}
use Rattle.std.specs.Option.{option_and_then, option_map, option_map_or}
use Rattle.std.proofs.lemmas.Bool.{and_parts, eq-eqb, eqb-true, true≢false}
use Rattle.ld_base.specs.declared.linking.Choice.TheVariants.{Def}
use Rattle.ld_base.specs.declared.linking.Role.TheVariants.{Ro, Rx, Slot}
use Rattle.ld_base.specs.declared.object.Reloc.{Reloc}
use Rattle.history_event.specs.declared.state.Granting.{Granting}
use Rattle.history_event.specs.declared.state.Standing.TheVariants as standings
use Rattle.relocator.specs.Relocated.{copied_at, image_byte, image_word, linkers_at, moved_word, rela_at, settled_word, slot_at, slot_word, with_copies}
use Rattle.seg_image.specs.Pages.{high_of, low_of, own_address, pages_of, segment_at}
use Rattle.seg_image.specs.Roles.{role_of}
use Rattle.seg_image.specs.Words.{byte_of, file_byte, file_word, word_of}
use Rattle.history_state.specs.State.{Linked, State}
use Rattle.history_state.specs.After.{after, after_from}
use Rattle.history_state.specs.Bound.{linked_with}
use Rattle.history_state.specs.Parts.{slot as slot_reloc}
use Rattle.history_state.specs.Memory.{image_at, is_in, role_at, first_word_at, word_in}
use Rattle.history_state.specs.Slots.{IsOpenGrant}
use Rattle.history_state.specs.Step.{initialise, loaded}
use Rattle.history_state.specs.Lemmas.Chains.{in_all}
use Rattle.history_state.specs.Lemmas.Lists.{found_in, here, none_in, only_in}
use Rattle.history_memory.specs.FirstCall.{bound, called, function, lazy_word, memory_with, other_function, slot_address}
use Rattle.history_memory.specs.Holds.{Holds, HoldsAt, IsSlotAt, SlotHolds, Took, TookAt, lazy_at}
use Rattle.history_memory.specs.Holds.SlotHolds.{exchanged, first}
use Rattle.history_memory.specs.Memory.{IsDoubleword}
use Rattle.history_memory.specs.Lemmas.Exchanged.{fits}

abbrev the_grant : Granting
the_grant = record { number = 1; hart = 0; owner = 1; slot = 0; choice = Def 2 1; value = 0x15000; standing = standings.Open }

abbrev the_bound : Granting
the_bound = record { number = 1; hart = 0; owner = 1; slot = 0; choice = Def 2 1; value = 0x15000; standing = standings.Bound }

-- ---- any state with one slot and one grant

abbrev pub first_place : Linked → ℕ
first_place i = option_map_or (λ r. r.place) (slice_get i.object.plt_relocs 0) 0

-- the first object's base, and where its slot is
abbrev pub is_first : Linked → Bool
is_first i = not (eqb i.serial 1) || (eqb i.base 0x10000 && eqb (first_place i) 0x3010)

place_alone : (b : ℕ) → b < 2 ^ 64 → own_address 0x10000 b ≡ 0x3010 → b ≡ 0x13010
unfolding own_address
place_alone b low is = omega (arith, low, is)

slot_by : (s : State) (a : ℕ) (r : Reloc) (found : Option Linked) → image_at s a ≡ found → option_map (λ (i : Linked). i.serial) found ≡ Some 1
    → option_and_then (λ (i : Linked). slice_get i.object.plt_relocs 0) found ≡ Some r → option_map (λ (i : Linked). own_address i.base a) found ≡ Some r.place → IsSlotAt s a 1 0
slot_by s a r None is serial at place = absurd (let no : None ≡ Some r = at in cc)
slot_by s a r (Some i) is serial at place =
    let owner : i.serial ≡ 1 = cc in
    let own : own_address i.base a ≡ r.place = cc in
    record { image = i; found = is; serial = owner; reloc = r; at = at; place = own }

module _ (s : State) (firsts : list_all is_first s.images ≡ true) (g : Granting) (one : s.grants ≡ g ∷ []) (owner : g.owner ≡ 1) (slot : g.slot ≡ 0) (role : role_at s slot_address ≡ Slot) where
  alone : (b : ℕ) → b < 2 ^ 64 → IsSlotAt s b 1 0 → b ≡ slot_address
  alone b low is =
      let there = (found_in (λ q. is_in q b) s.images is.image is.found).0 in
      by (eqb is.image.serial 1) (eq-eqb is.image.serial 1 is.serial) (in_all is_first s.images is.image firsts there)
    where
      by : (t : Bool) → t ≡ true → (not t || (eqb is.image.base 0x10000 && eqb (first_place is.image) 0x3010)) ≡ true → b ≡ slot_address
      by false e holds = absurd (true≢false (sym e))
      by true e holds =
          let parts = and_parts (eqb is.image.base 0x10000) (eqb (first_place is.image) 0x3010) holds in
          let base : is.image.base ≡ 0x10000 = eqb-true is.image.base 0x10000 parts.0 in
          let place : first_place is.image ≡ 0x3010 = eqb-true (first_place is.image) 0x3010 parts.1 in
          let reloc : first_place is.image ≡ is.reloc.place = ap (λ (found : Option Reloc). option_map_or (λ r. r.place) found 0) is.at in
          place_alone b low (ap (λ (n : ℕ). own_address n b) (sym base) ∙ is.place ∙ sym reloc ∙ place)

  the_one : (h : Granting) → Contains s.grants h → g ≡ h
  the_one h there = only_in g h (subst (λ (hs : List Granting). Contains hs h) one there)

  only_there : (won : List ℕ) (b : ℕ) → b < 2 ^ 64 → b ≢ slot_address → (h : Granting) → TookAt s won b h → ⊥
  only_there won b low differs h at =
      let same : g ≡ h = the_one h at.there in
      differs (alone b low (subst (λ (n : ℕ). IsSlotAt s b 1 n) (ap (λ (q : Granting). q.slot) (sym same) ∙ slot)
      (subst (λ (n : ℕ). IsSlotAt s b n h.slot) (ap (λ (q : Granting). q.owner) (sym same) ∙ owner) at.of)))

  module _ (won : List ℕ) (unsettled : (n : ℕ) → Contains won n → (g : Granting) × IsOpenGrant s n g) (value : ℕ) (holds : SlotHolds s won slot_address value) where
    word : (b : ℕ) → IsDoubleword b → (t : Bool) → eqb b slot_address ≡ t → HoldsAt s won (memory_with s value) b
    word b is true e =
        let same : b ≡ slot_address = eqb-true b slot_address e in
        let at_slot : role_at s b ≡ Slot = ap (role_at s) same ∙ role in
        let value_is : (memory_with s value).value b ≡ value = ap (λ (t : Bool). if t then value else first_word_at s b) e in
        record {
          role = refl;
          fixed = λ either. ⊎_elim
              (λ (ro : role_at s b ≡ Ro). absurd (let no : Slot ≡ Ro = sym at_slot ∙ ro in cc))
              (λ (rx : role_at s b ≡ Rx). absurd (let no : Slot ≡ Rx = sym at_slot ∙ rx in cc))
              either;
          slot = λ is_slot. subst (SlotHolds s won b) (sym value_is) (subst (λ (c : ℕ). SlotHolds s won c value) (sym same) holds);
        }
    word b is false e =
        let value_is : (memory_with s value).value b ≡ first_word_at s b = ap (λ (t : Bool). if t then value else first_word_at s b) e in
        let differs : b ≢ slot_address = λ same. true≢false (sym (eq-eqb b slot_address same) ∙ e) in
        record {
          role = refl;
          fixed = λ either. value_is;
          slot = λ is_slot. first value_is (only_there won b (fits b is) differs);
        }

    pub whole : Holds s won (memory_with s value)
    whole = record { words = λ b is. word b is (eqb b slot_address) refl; unsettled = unsettled }

-- what the slot of a memory that holds is
slot_of : (s : State) (won : List ℕ) (value : ℕ) → role_at s slot_address ≡ Slot → Holds s won (memory_with s value) → SlotHolds s won slot_address value
slot_of s won value role holds = (holds.words slot_address (record { low = omega arith; high = omega arith; whole = refl })).slot role

-- ---- the two states

abbrev s1 : State
s1 = after called

abbrev s2 : State
s2 = after bound

firsts1 : list_all is_first s1.images ≡ true
unfolding loaded initialise after_from linked_with
firsts1 = refl

firsts2 : list_all is_first s2.images ≡ true
unfolding loaded initialise after_from linked_with
firsts2 = refl

one1 : s1.grants ≡ the_grant ∷ []
unfolding loaded initialise after_from
one1 = refl

one2 : s2.grants ≡ the_bound ∷ []
unfolding loaded initialise after_from
one2 = refl

pub role1 : role_at s1 slot_address ≡ Slot
unfolding role_at loaded initialise after_from linked_with low_of high_of pages_of own_address role_of segment_at
role1 = refl

role2 : role_at s2 slot_address ≡ Slot
unfolding role_at loaded initialise after_from linked_with low_of high_of pages_of own_address role_of segment_at
role2 = refl

pub word1 : first_word_at s1 slot_address ≡ lazy_word
unfolding first_word_at word_in image_word image_byte settled_word with_copies copied_at linkers_at rela_at slot_at moved_word slot_word word_of byte_of file_word file_byte loaded initialise after_from linked_with low_of high_of pages_of own_address segment_at
word1 = refl

word2 : first_word_at s2 slot_address ≡ lazy_word
unfolding first_word_at word_in image_word image_byte settled_word with_copies copied_at linkers_at rela_at slot_at moved_word slot_word word_of byte_of file_word file_byte loaded initialise after_from linked_with low_of high_of pages_of own_address segment_at
word2 = refl

lazy1 : lazy_at s1 slot_address ≡ lazy_word
unfolding moved_word file_word word_of file_byte loaded initialise after_from linked_with low_of high_of pages_of own_address segment_at
lazy1 = refl

lazy2 : lazy_at s2 slot_address ≡ lazy_word
unfolding moved_word file_word word_of file_byte loaded initialise after_from linked_with low_of high_of pages_of own_address segment_at
lazy2 = refl

at1 : IsSlotAt s1 slot_address 1 0
unfolding loaded initialise after_from linked_with low_of high_of pages_of own_address
at1 = slot_by s1 slot_address (slot_reloc 0x3010 1) (image_at s1 slot_address) refl refl refl refl

at2 : IsSlotAt s2 slot_address 1 0
unfolding loaded initialise after_from linked_with low_of high_of pages_of own_address
at2 = slot_by s2 slot_address (slot_reloc 0x3010 1) (image_at s2 slot_address) refl refl refl refl

-- ---- the three moments

took1 : (won : List ℕ) → Contains won 1 → TookAt s1 won slot_address the_grant
took1 won there = record { there = subst (λ (gs : List Granting). Contains gs the_grant) (sym one1) (here the_grant []); of = at1; took = inr (refl, there) }

took2 : TookAt s2 [] slot_address the_bound
took2 = record { there = subst (λ (gs : List Granting). Contains gs the_bound) (sym one2) (here the_bound []); of = at2; took = inl refl }

-- nobody took the slot before the exchange
untaken1 : (h : Granting) → TookAt s1 [] slot_address h → ⊥
untaken1 h at = by at.took
  where
    same : the_grant ≡ h
    same = the_one s1 firsts1 the_grant one1 refl refl role1 h at.there

    by : Took [] h → ⊥
    by (inl bound_it) = let no : standings.Open ≡ standings.Bound = ap (λ (q : Granting). q.standing) same ∙ bound_it in cc
    by (inr both) = none_in h.number both.1

number1 : (won : List ℕ) (h : Granting) → TookAt s1 won slot_address h → h.number ≡ 1
number1 won h at = sym (ap (λ (q : Granting). q.number) (the_one s1 firsts1 the_grant one1 refl refl role1 h at.there))

number2 : (h : Granting) → TookAt s2 [] slot_address h → h.number ≡ 1
number2 h at = sym (ap (λ (q : Granting). q.number) (the_one s2 firsts2 the_bound one2 refl refl role2 h at.there))

open_one : (n : ℕ) → Contains (1 ∷ []) n → (g : Granting) × IsOpenGrant s1 n g
open_one n there = (
  the_grant,
  record { there = subst (λ (gs : List Granting). Contains gs the_grant) (sym one1) (here the_grant []); numbered = only_in 1 n there; open_yet = refl },
)

pub before_exchange : Holds s1 [] (memory_with s1 lazy_word)
before_exchange = whole s1 firsts1 the_grant one1 refl refl role1 [] (λ n there. absurd (none_in n there)) lazy_word (first (sym word1) untaken1)

pub after_exchange : Holds s1 (1 ∷ []) (memory_with s1 function)
after_exchange = whole s1 firsts1 the_grant one1 refl refl role1 (1 ∷ []) open_one function
    (exchanged the_grant (took1 (1 ∷ []) (here 1 [])) refl (word1 ∙ sym lazy1) (number1 (1 ∷ [])))

pub once_bound : Holds s2 [] (memory_with s2 function)
once_bound = whole s2 firsts2 the_bound one2 refl refl role2 [] (λ n there. absurd (none_in n there)) function
    (exchanged the_bound took2 refl (word2 ∙ sym lazy2) number2)

-- ---- neighbours

-- the value stands there before the exchange
pub too_early : Holds s1 [] (memory_with s1 function) → ⊥
too_early holds = by (slot_of s1 [] function role1 holds)
  where
    by : SlotHolds s1 [] slot_address function → ⊥
    by (first is none) = let no : 0x15000 ≡ 0x10000 = is ∙ word1 in omega (arith, no)
    by (exchanged h at is first_word only) = untaken1 h at

-- the lazy word stands there after it
pub too_late : Holds s2 [] (memory_with s2 lazy_word) → ⊥
too_late holds = by (slot_of s2 [] lazy_word role2 holds)
  where
    by : SlotHolds s2 [] slot_address lazy_word → ⊥
    by (first is none) = none the_bound took2
    by (exchanged h at is first_word only) =
        let no : 0x10000 ≡ 0x15000 = is ∙ sym (ap (λ (q : Granting). q.value) (the_one s2 firsts2 the_bound one2 refl refl role2 h at.there)) in omega (arith, no)

-- the function of the second library stands there
pub other_value : Holds s2 [] (memory_with s2 other_function) → ⊥
other_value holds = by (slot_of s2 [] other_function role2 holds)
  where
    by : SlotHolds s2 [] slot_address other_function → ⊥
    by (first is none) = none the_bound took2
    by (exchanged h at is first_word only) =
        let no : 0x18000 ≡ 0x15000 = is ∙ sym (ap (λ (q : Granting). q.value) (the_one s2 firsts2 the_bound one2 refl refl role2 h at.there)) in omega (arith, no)
