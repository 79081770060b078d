-- Doublewords side by side: what one call of the bus, and a chain of calls, does to them.
use Rattle.std.proofs.Common.{◌≡◌, ◌≢◌, ◌⊎◌, inl, inr, ⊎_elim, ℕ, ◌-◌, ◌*◌, ◌/◌, ◌%◌, ◌<◌, ◌≤◌, Bool, true, false, cond, eqb, ltb, List, [], ◌∷◌, length, get_or, Some, None, Result, Ok, Err, refl, sym, ap, subst, ◌∙◌, arith}
use Rattle.std.specs.Prelude.{slice_index_or, slice_set, ◌==◌}
use Rattle.std.proofs.lemmas.Bool.{cases_lt, eq-eqb, eqb-true, le-ltb, ltb-false, ltb-true, true≢false}
use Rattle.std.proofs.lemmas.List.{get_or-set_other, get_or-set_same, get_or_past, length-set}
use Rattle.ld_base.specs.declared.linking.Role.{Role}
use Rattle.ld_base.specs.declared.linking.Role.TheVariants.{None as NoRole, Ro, Rx, Rw, Slot}
use Rattle.rv_hart.specs.Buses.{may_write}
use Rattle.rv_hart.specs.Doublewords.{DoesAt, DoesIn, address_of, answer_or, checked, if_ok, if_stored, nowhere, stored, with_word_at, word_at}
use Rattle.rv_hart.specs.declared.bus.BusFault.{BusFault}
use Rattle.rv_hart.specs.declared.bus.BusFault.TheVariants.{Role as RoleFault, Misaligned}
use Rattle.rv_hart.specs.declared.bus.Item.{Item}
use Rattle.rv_hart.specs.declared.bus.Item.TheVariants.{Fetch, Read, Write, Amo, Reserve, Conditional}
use Rattle.rv_hart.specs.declared.doubleword.Doubleword.{Doubleword}
use Rattle.rv_hart.specs.Trail.{Chain}
use Rattle.history_state.specs.State.{State}
use Rattle.history_memory.specs.Holds.{Holds}
use Rattle.history_memory.specs.Memory.{IsDoubleword, doubleword_of}
use Rattle.history_memory.specs.Lemmas.Stored.{keeps_same, stored as store_holds}
use Rattle.world_turns.specs.Memory.{doubleword, lowest, memory_of}

-- ---- one doubleword

-- a doubleword of guest memory is found by its own address alone
pub found_at : (words : List Doubleword) (a : ℕ) → IsDoubleword a → doubleword words a ≡ get_or words ((a - lowest) / 8) nowhere
found_at words a is = ap (λ (t : Bool). cond t nowhere (slice_index_or words ((a - lowest) / 8) nowhere)) (le-ltb a lowest (let low : 0x10000 ≤ a = is.low in low))

-- another one is put there, or none where nothing is
pub record Puts (old new : List Doubleword) (at : ℕ) (word : Doubleword) : Type 0 where
  pub all : length new ≡ length old
  pub others : (b : ℕ) → IsDoubleword b → b ≢ doubleword_of at → doubleword new b ≡ doubleword old b
  pub same : (b : ℕ) → IsDoubleword b → b ≡ doubleword_of at → (doubleword new b ≡ word) ⊎ ((doubleword old b ≡ nowhere) × (doubleword new b ≡ nowhere))

puts_by : (old new : List Doubleword) (at : ℕ) (word : Doubleword) (t : Bool) → ltb at lowest ≡ t → new ≡ cond t old (slice_set old ((at - lowest) / 8) word) → Puts old new at word
puts_by old new at word true below is = record {
  all = ap (λ (ws : List Doubleword). length ws) is;
  others = λ b there differs. ap (λ (ws : List Doubleword). doubleword ws b) is;
  same = λ b there same. absurd (let low : 0x10000 ≤ b = there.low in let less : at < 0x10000 = ltb-true at lowest below in let e : b ≡ at / 8 * 8 = same in omega (arith, low, less, e));
}
puts_by old new at word false above is = record {
  all = ap (λ (ws : List Doubleword). length ws) is ∙ length-set old ((at - lowest) / 8) word;
  others = λ b there differs.
      ap (λ (ws : List Doubleword). doubleword ws b) is
      ∙ found_at (slice_set old ((at - lowest) / 8) word) b there
      ∙ get_or-set_other old ((at - lowest) / 8) ((b - lowest) / 8) word nowhere (λ e. differs (apart b there e))
      ∙ sym (found_at old b there);
  same = λ b there same. by b there same (cases_lt ((at - lowest) / 8) (length old));
}
  where
    from : 0x10000 ≤ at
    from = ltb-false at lowest above

    apart : (b : ℕ) → IsDoubleword b → (b - lowest) / 8 ≡ (at - lowest) / 8 → b ≡ doubleword_of at
    apart b there e = let low : 0x10000 ≤ b = there.low in let whole : b % 8 ≡ 0 = there.whole in let up : 0x10000 ≤ at = from in let f : (b - 0x10000) / 8 ≡ (at - 0x10000) / 8 = e in omega (arith, low, whole, up, f)

    index : (b : ℕ) → IsDoubleword b → b ≡ doubleword_of at → (b - lowest) / 8 ≡ (at - lowest) / 8
    index b there e = let low : 0x10000 ≤ b = there.low in let up : 0x10000 ≤ at = from in let f : b ≡ at / 8 * 8 = e in omega (arith, low, up, f)

    by : (b : ℕ) → IsDoubleword b → b ≡ doubleword_of at → ((at - lowest) / 8 < length old) ⊎ (length old ≤ (at - lowest) / 8)
        → (doubleword new b ≡ word) ⊎ ((doubleword old b ≡ nowhere) × (doubleword new b ≡ nowhere))
    by b there same (inl inside) = inl (
        ap (λ (ws : List Doubleword). doubleword ws b) is ∙ found_at (slice_set old ((at - lowest) / 8) word) b there
        ∙ ap (λ (k : ℕ). get_or (slice_set old ((at - lowest) / 8) word) k nowhere) (index b there same) ∙ get_or-set_same old ((at - lowest) / 8) word nowhere inside)
    by b there same (inr outside) = inr (
      found_at old b there ∙ ap (λ (k : ℕ). get_or old k nowhere) (index b there same) ∙ get_or_past old ((at - lowest) / 8) nowhere outside,
      ap (λ (ws : List Doubleword). doubleword ws b) is ∙ found_at (slice_set old ((at - lowest) / 8) word) b there
          ∙ ap (λ (k : ℕ). get_or (slice_set old ((at - lowest) / 8) word) k nowhere) (index b there same)
          ∙ get_or_past (slice_set old ((at - lowest) / 8) word) ((at - lowest) / 8) nowhere (let l : length (slice_set old ((at - lowest) / 8) word) ≡ length old = length-set old ((at - lowest) / 8) word in let o : length old ≤ (at - lowest) / 8 = outside in omega (arith, l, o)),
    )

pub puts : (old : List Doubleword) (at : ℕ) (word : Doubleword) → Puts old (with_word_at lowest old at word) at word
puts old at word = puts_by old (with_word_at lowest old at word) at word (ltb at lowest) refl refl

-- the doubleword that an address lies in
pub in_doubleword : (words : List Doubleword) (a : ℕ) → 0x10000 ≤ a → word_at lowest words a ≡ doubleword words (doubleword_of a)
in_doubleword words a low =
    ap (λ (t : Bool). cond t nowhere (slice_index_or words ((a - lowest) / 8) nowhere)) (le-ltb a lowest (let l : 0x10000 ≤ a = low in l))
    ∙ ap (λ (k : ℕ). slice_index_or words k nowhere) index
    ∙ sym (ap (λ (t : Bool). cond t nowhere (slice_index_or words ((doubleword_of a - lowest) / 8) nowhere)) (le-ltb (doubleword_of a) lowest above))
  where
    index : (a - lowest) / 8 ≡ (doubleword_of a - lowest) / 8
    index = let l : 0x10000 ≤ a = low in omega (arith, l)

    above : lowest ≤ doubleword_of a
    above = let l : 0x10000 ≤ a = low in omega (arith, l)

-- ---- a call of the bus

-- the doubleword stays, or it may be written and keeps its role
abbrev Written : Doubleword → Doubleword → Type 0
Written word left = (left ≡ word) ⊎ ((word.role ≡ Rw) × (left.role ≡ word.role))

allowed_by : {T : Type 0} (allowed t : Bool) (role : Role) (value found : T) → Ok found ≡ answer_or (cond t (cond allowed None (Some (RoleFault role))) (Some Misaligned)) value → allowed ≡ true
allowed_by true t role value found e = refl
allowed_by {T} false true role value found e = absurd (let no : Ok found ≡ Err (RoleFault role) = e in cc)
allowed_by {T} false false role value found e = absurd (let no : Ok found ≡ Err Misaligned = e in cc)

writable : (role : Role) → may_write role ≡ true → role ≡ Rw
writable Rw e = refl
writable Ro e = absurd (true≢false (sym e))
writable Rx e = absurd (true≢false (sym e))
writable Slot e = absurd (true≢false (sym e))
writable NoRole e = absurd (true≢false (sym e))

may_be_written : {T : Type 0} (address size : ℕ) (role : Role) (value found : T) → Ok found ≡ checked may_write address size role value → role ≡ Rw
may_be_written address size role value found e = writable role (allowed_by (may_write role) (address % size == 0) role value found e)

written_if : {T : Type 0} (address size : ℕ) (word changed left : Doubleword) (value : T) (answer : Result T BusFault) → answer ≡ checked may_write address size word.role value → changed.role ≡ word.role
    → left ≡ if_ok answer changed word → Written word left
written_if address size word changed left value (Ok found) is role e = inr (may_be_written address size word.role value found is, ap (λ (d : Doubleword). d.role) e ∙ role)
written_if address size word changed left value (Err fault) is role e = inl e

stored_if : (address size : ℕ) (word changed left : Doubleword) (value : Bool) (answer : Result Bool BusFault) → answer ≡ checked may_write address size word.role value → changed.role ≡ word.role
    → left ≡ if_stored answer changed word → Written word left
stored_if address size word changed left value (Ok true) is role e = inr (may_be_written address size word.role value true is, ap (λ (d : Doubleword). d.role) e ∙ role)
stored_if address size word changed left value (Ok false) is role e = inl e
stored_if address size word changed left value (Err fault) is role e = inl e

written : (item : Item) (word left : Doubleword) → DoesAt word item left → Written word left
written (Fetch address answer) word left does = inl does.1
written (Read address size answer) word left does = inl does.1
written (Write address size value answer) word left does = written_if address size word (stored word address size value) left tt answer does.0 refl does.1
written (Amo address size op value answer) word left does = written_if address size word (stored word address size _) left _ answer does.0 refl does.1
written (Reserve address size answer) word left does = inl does.1
written (Conditional address size value version answer) word left does = stored_if address size word (stored word address size value) left _ answer does.0 refl does.1

-- what calls of the bus leave of memory: as many doublewords, each with its role, and those that may not be written as they were
pub record Leaves (old new : List Doubleword) : Type 0 where
  pub all : length new ≡ length old
  pub role : (b : ℕ) → IsDoubleword b → (doubleword new b).role ≡ (doubleword old b).role
  pub fixed : (b : ℕ) → IsDoubleword b → (doubleword old b).role ≢ Rw → doubleword new b ≡ doubleword old b

-- and how memory holds then
pub record Keeps (s : State) (won : List ℕ) (old new : List Doubleword) : Type 0 where
  pub leaves : Leaves old new
  pub holds : Holds s won (memory_of old) → Holds s won (memory_of new)

pub keeps_nothing : (s : State) (won : List ℕ) (old : List Doubleword) → Keeps s won old old
keeps_nothing s won old = record { leaves = record { all = refl; role = λ b is. refl; fixed = λ b is may. refl }; holds = λ h. h }

keeps_both : (s : State) (won : List ℕ) (old mid new : List Doubleword) → Keeps s won old mid → Keeps s won mid new → Keeps s won old new
keeps_both s won old mid new a b = record {
  leaves = record {
    all = b.leaves.all ∙ a.leaves.all;
    role = λ c is. b.leaves.role c is ∙ a.leaves.role c is;
    fixed = λ c is may. b.leaves.fixed c is (λ rw. may (sym (a.leaves.role c is) ∙ rw)) ∙ a.leaves.fixed c is may;
  };
  holds = λ h. b.holds (a.holds h);
}

keeps_put : (s : State) (won : List ℕ) (old new : List Doubleword) (at : ℕ) (left : Doubleword) → Puts old new at left → Written (word_at lowest old at) left → Keeps s won old new
keeps_put s won old new at left puts how = record {
  leaves = record { all = puts.all; role = role; fixed = fixed };
  holds = holds how;
}
  where
    word : Doubleword
    word = word_at lowest old at

    here : (b : ℕ) → IsDoubleword b → b ≡ doubleword_of at → word_at lowest old at ≡ doubleword old b
    here b is e = in_doubleword old at (let low : 0x10000 ≤ b = is.low in let f : b ≡ at / 8 * 8 = e in omega (arith, low, f)) ∙ ap (λ (c : ℕ). doubleword old c) (sym e)

    unchanged : (b : ℕ) → IsDoubleword b → left ≡ word_at lowest old at → (t : Bool) → eqb b (doubleword_of at) ≡ t → doubleword new b ≡ doubleword old b
    unchanged b is same true e = ⊎_elim
        (λ (p : doubleword new b ≡ left). p ∙ same ∙ here b is (eqb-true b (doubleword_of at) e))
        (λ (q : (doubleword old b ≡ nowhere) × (doubleword new b ≡ nowhere)). q.1 ∙ sym q.0)
        (puts.same b is (eqb-true b (doubleword_of at) e))
    unchanged b is same false e = puts.others b is (λ f. true≢false (sym (eq-eqb b (doubleword_of at) f) ∙ e))

    role_by : Written (word_at lowest old at) left → (b : ℕ) → IsDoubleword b → (t : Bool) → eqb b (doubleword_of at) ≡ t → (doubleword new b).role ≡ (doubleword old b).role
    role_by (inl same) b is t e = ap (λ (d : Doubleword). d.role) (unchanged b is same t e)
    role_by (inr both) b is true e = ⊎_elim
        (λ (p : doubleword new b ≡ left). ap (λ (d : Doubleword). d.role) p ∙ both.1 ∙ ap (λ (d : Doubleword). d.role) (here b is (eqb-true b (doubleword_of at) e)))
        (λ (q : (doubleword old b ≡ nowhere) × (doubleword new b ≡ nowhere)). ap (λ (d : Doubleword). d.role) (q.1 ∙ sym q.0))
        (puts.same b is (eqb-true b (doubleword_of at) e))
    role_by (inr both) b is false e = ap (λ (d : Doubleword). d.role) (puts.others b is (λ f. true≢false (sym (eq-eqb b (doubleword_of at) f) ∙ e)))

    role : (b : ℕ) → IsDoubleword b → (doubleword new b).role ≡ (doubleword old b).role
    role b is = role_by how b is (eqb b (doubleword_of at)) refl

    fixed_by : Written (word_at lowest old at) left → (b : ℕ) → IsDoubleword b → (doubleword old b).role ≢ Rw → (t : Bool) → eqb b (doubleword_of at) ≡ t → doubleword new b ≡ doubleword old b
    fixed_by (inl same) b is may t e = unchanged b is same t e
    fixed_by (inr both) b is may true e = absurd (may (ap (λ (d : Doubleword). d.role) (sym (here b is (eqb-true b (doubleword_of at) e))) ∙ both.0))
    fixed_by (inr both) b is may false e = puts.others b is (λ f. true≢false (sym (eq-eqb b (doubleword_of at) f) ∙ e))

    fixed : (b : ℕ) → IsDoubleword b → (doubleword old b).role ≢ Rw → doubleword new b ≡ doubleword old b
    fixed b is may = fixed_by how b is may (eqb b (doubleword_of at)) refl

    -- a word that may be written isn't nowhere, and so lies in guest memory
    holds : Written (word_at lowest old at) left → Holds s won (memory_of old) → Holds s won (memory_of new)
    holds (inl same) h = keeps_same s won (memory_of old) (memory_of new) h (record {
      value = λ b is. ap (λ (d : Doubleword). d.value) (unchanged b is same (eqb b (doubleword_of at)) refl);
      role = λ b is. ap (λ (d : Doubleword). d.role) (unchanged b is same (eqb b (doubleword_of at)) refl);
    })
    holds (inr both) h = store_holds s won (memory_of old) (memory_of new) (doubleword_of at) h (record {
      may = ap (λ (d : Doubleword). d.role) (sym (in_doubleword old at (low_by (ltb at lowest) refl both.0))) ∙ both.0;
      others = λ b is differs. ap (λ (d : Doubleword). d.value) (puts.others b is differs);
      role = role;
    })
      where
        low_by : (t : Bool) → ltb at lowest ≡ t → (cond t nowhere (slice_index_or old ((at - lowest) / 8) nowhere)).role ≡ Rw → 0x10000 ≤ at
        low_by true e rw = absurd (let no : NoRole ≡ Rw = rw in cc)
        low_by false e rw = ltb-false at lowest e

keeps_call : (s : State) (won : List ℕ) (old : List Doubleword) (item : Item) (new : List Doubleword) → DoesIn lowest old item new → Keeps s won old new
keeps_call s won old item new does =
    keeps_put s won old new (address_of item) does.0 (subst (λ (ws : List Doubleword). Puts old ws (address_of item) does.0) (sym does.2) (puts old (address_of item) does.0))
    (written item (word_at lowest old (address_of item)) does.0 does.1)

-- ---- a chain

pub keeps_chain : (s : State) (won : List ℕ) (items : List Item) (old new : List Doubleword) → Chain (DoesIn lowest) old items new → Keeps s won old new
keeps_chain s won [] old new is = subst (Keeps s won old) is (keeps_nothing s won old)
keeps_chain s won (item ∷ items) old new (between, does, more) = keeps_both s won old between new (keeps_call s won old item between does) (keeps_chain s won items between new more)
