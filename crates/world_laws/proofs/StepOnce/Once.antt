-- Each call of the bus is settled by what it asks for and by the doubleword that it is at.
use Rattle.std.proofs.Common.{◌≡◌, ℕ, Bool, List, [], ◌∷◌, Option, Result, refl, sym, ap, subst, ◌∙◌, ◌==◌}
use Rattle.rv_isa.specs.declared.instr.Instr.{Instr}
use Rattle.rv_hart.specs.Arithmetic.{combined}
use Rattle.rv_hart.specs.Buses.{may_fetch, may_read, may_write}
use Rattle.rv_hart.specs.Doublewords.{DoesAt, DoesIn, address_of, checked, if_ok, if_stored, lane, stored, with_word_at, word_at}
use Rattle.rv_hart.specs.Instructions.{access_for}
use Rattle.rv_hart.specs.Laws.{OneEnd, StepLeads}
use Rattle.rv_hart.specs.Registers.{Registers}
use Rattle.rv_hart.specs.Trail.{Accessing, Begins, Chain, Ends, IsAfterStep, IsStep, Place, Ready}
use Rattle.rv_hart.specs.declared.action.Access.{Access}
use Rattle.rv_hart.specs.declared.action.Access.TheVariants as access
use Rattle.rv_hart.specs.declared.bus.BusFault.{BusFault}
use Rattle.rv_hart.specs.declared.bus.Item.{Item}
use Rattle.rv_hart.specs.declared.bus.Item.TheVariants.{Fetch, Read, Write, Amo, Reserve, Conditional}
use Rattle.rv_hart.specs.declared.doubleword.Doubleword.{Doubleword}
use Rattle.world_laws.specs.StepOnce.Laws.{OneChain, OneRead, OneStep, OneWrite}

-- ---- what is left of a doubleword

abbrev left_by : Doubleword → Item → Doubleword
left_by word (Fetch address answer) = word
left_by word (Read address size answer) = word
left_by word (Write address size value answer) = if_ok answer (stored word address size value) word
left_by word (Amo address size op value answer) = if_ok answer (stored word address size (combined op size (lane word.value address size) value)) word
left_by word (Reserve address size answer) = word
left_by word (Conditional address size value version answer) = if_stored answer (stored word address size value) word

left_is : (word : Doubleword) (item : Item) (left : Doubleword) → DoesAt word item left → left ≡ left_by word item
left_is word (Fetch address answer) left x = x.1
left_is word (Read address size answer) left x = x.1
left_is word (Write address size value answer) left x = x.1
left_is word (Amo address size op value answer) left x = x.1
left_is word (Reserve address size answer) left x = x.1
left_is word (Conditional address size value version answer) left x = x.1

does_is : (first : ℕ) (words : List Doubleword) (item : Item) (left : List Doubleword) → DoesIn first words item left
    → left ≡ with_word_at first words (address_of item) (left_by (word_at first words (address_of item)) item)
does_is first words item left x = x.2 ∙ ap (λ (word : Doubleword). with_word_at first words (address_of item) word) (left_is (word_at first words (address_of item)) item x.0 x.1)

one_call : (first : ℕ) (words left other : List Doubleword) (item : Item) → DoesIn first words item left → DoesIn first words item other → left ≡ other
one_call first words left other item x y = does_is first words item left x ∙ sym (does_is first words item other y)

pub one_chain : OneChain
one_chain first words left other [] x y = sym x ∙ y
one_chain first words left other (item ∷ items) (between, x, more) (middle, y, others) =
    one_chain first between left other items more
    (subst (λ (ws : List Doubleword). Chain (DoesIn first) ws items other) (one_call first words middle between item y x) others)

pub one_read : OneRead
one_read first words left other address size answer also x y = x.1.0 ∙ sym y.1.0

pub one_write : OneWrite
one_write first words left other address size value answer also x y = x.1.0 ∙ sym y.1.0

-- ---- the call that an access asks for

-- the fetch at the pc
abbrev fetched : ℕ → List Doubleword → ℕ → Item
fetched first words pc = Fetch pc (checked may_fetch pc 4 (word_at first words pc).role (lane (word_at first words pc).value pc 4))

abbrev made : ℕ → List Doubleword → Access → Item
made first words access.Nothing = fetched first words 0
made first words (access.Read address size) = Read address size (checked may_read address size (word_at first words address).role (lane (word_at first words address).value address size))
made first words (access.Write address size value) = Write address size value (checked may_write address size (word_at first words address).role tt)
made first words (access.Amo address size op value) = Amo address size op value (checked may_write address size (word_at first words address).role (lane (word_at first words address).value address size))
made first words (access.Reserve address size) =
    Reserve address size (checked may_read address size (word_at first words address).role (lane (word_at first words address).value address size, (word_at first words address).version))
made first words (access.Conditional address size value version) =
    Conditional address size value version (checked may_write address size (word_at first words address).role ((word_at first words address).version == version))
made first words access.Ecall = fetched first words 0
made first words access.Break = fetched first words 0
made first words access.Bad = fetched first words 0
made first words (access.Misaligned address) = fetched first words 0

begin_is : (first : ℕ) (words left : List Doubleword) (r : Registers) (item : Item) (end : Place) → Begins r item end → DoesIn first words item left → item ≡ fetched first words r.pc
begin_is first words left r (Fetch address answer) end b x =
    ap (λ (a : Result ℕ BusFault). Fetch address a) x.1.0 ∙ ap (λ (a : ℕ). fetched first words a) b.0
begin_is first words left r (Read address size answer) end b x = absurd b
begin_is first words left r (Write address size value answer) end b x = absurd b
begin_is first words left r (Amo address size op value answer) end b x = absurd b
begin_is first words left r (Reserve address size answer) end b x = absurd b
begin_is first words left r (Conditional address size value version answer) end b x = absurd b

end_is : (first : ℕ) (words left : List Doubleword) (r : Registers) (decoded : Option Instr) (item : Item) (end : Place) → Ends r decoded item end → DoesIn first words item left → item ≡ made first words (access_for r decoded)
end_is first words left r decoded (Fetch address answer) end e x = absurd e
end_is first words left r decoded (Read address size answer) end e x = ap (λ (a : Result ℕ BusFault). Read address size a) x.1.0 ∙ ap (made first words) (sym e.0)
end_is first words left r decoded (Write address size value answer) end e x = ap (λ (a : Result Unit BusFault). Write address size value a) x.1.0 ∙ ap (made first words) (sym e.0)
end_is first words left r decoded (Amo address size op value answer) end e x = ap (λ (a : Result ℕ BusFault). Amo address size op value a) x.1.0 ∙ ap (made first words) (sym e.0)
end_is first words left r decoded (Reserve address size answer) end e x = ap (λ (a : Result (ℕ × ℕ) BusFault). Reserve address size a) x.1.0 ∙ ap (made first words) (sym e.0)
end_is first words left r decoded (Conditional address size value version answer) end e x =
    ap (λ (a : Result Bool BusFault). Conditional address size value version a) x.1.0 ∙ ap (made first words) (sym e.0)

-- ---- a step

module _ (one : OneEnd) (leads : StepLeads) (first : ℕ) (r : Registers) (words : List Doubleword) where
  -- two fetches are one
  begins_same : (left other : List Doubleword) (item also : Item) (end after : Place) → Begins r item end → Begins r also after → DoesIn first words item left → DoesIn first words also other → item ≡ also
  begins_same left other item also end after b c x y = begin_is first words left r item end b x ∙ sym (begin_is first words other r also after c y)

  -- and lead to one place
  begins_at : (item also : Item) (end after : Place) → Begins r item end → Begins r also after → item ≡ also → end ≡ after
  begins_at item also end after b c same =
      one (Ready r) (item ∷ []) end after (end, b, refl) (after, subst (λ (i : Item). Begins r i after) (sym same) c, refl)

  no_step : (decoded : Option Instr) (end : Place) → end ≡ Accessing r decoded → IsAfterStep end → ⊥
  no_step decoded end is x = subst IsAfterStep is x

  by_items : (left other : List Doubleword) (items others : List Item) (end also : Place) → IsStep r items end → IsStep r others also → Chain (DoesIn first) words items left → Chain (DoesIn first) words others other → items ≡ others
  by_items left other [] others end also s t x y = absurd s
  by_items left other (a ∷ []) [] end also s t x y = absurd t
  by_items left other (a ∷ []) (b ∷ []) end also s t (m, x, _) (n, y, _) = ap (λ (i : Item). i ∷ []) (begins_same m n a b end also s.0 t.0 x y)
  by_items left other (a ∷ []) (b ∷ (d ∷ [])) end also s (decoded, t, u) (m, x, _) (n, y, _) =
      absurd (no_step decoded end (begins_at a b end (Accessing r decoded) s.0 t (begins_same m n a b end (Accessing r decoded) s.0 t x y)) s.1)
  by_items left other (a ∷ []) (b ∷ (d ∷ (f ∷ rest))) end also s t x y = absurd t
  by_items left other (a ∷ (c ∷ [])) [] end also s t x y = absurd t
  by_items left other (a ∷ (c ∷ [])) (b ∷ []) end also (decoded, s, e) t (m, x, _) (n, y, _) =
      absurd (no_step decoded also (begins_at b a also (Accessing r decoded) t.0 s (begins_same n m b a also (Accessing r decoded) t.0 s y x)) t.1)
  by_items left other (a ∷ (c ∷ [])) (b ∷ (d ∷ [])) end also (decoded, s, e) (instr, t, u) (m, x, (p, z, _)) (n, y, (q, v, _)) =
      let same : a ≡ b = begins_same m n a b (Accessing r decoded) (Accessing r instr) s t x y in
      let places : Accessing r decoded ≡ Accessing r instr = begins_at a b (Accessing r decoded) (Accessing r instr) s t same in
      let instrs : decoded ≡ instr = cc in
      let memory : n ≡ m = one_call first words n m b y (subst (λ (i : Item). DoesIn first words i m) same x) in
      let second : c ≡ d = end_is first m p r decoded c end e z ∙ ap (λ (i : Option Instr). made first m (access_for r i)) instrs ∙ sym (end_is first m q r instr d also u (subst (λ (ws : List Doubleword). DoesIn first ws d q) memory v)) in
      ap (λ (i : Item). i ∷ (c ∷ [])) same ∙ ap (λ (i : Item). b ∷ (i ∷ [])) second
  by_items left other (a ∷ (c ∷ [])) (b ∷ (d ∷ (f ∷ rest))) end also s t x y = absurd t
  by_items left other (a ∷ (c ∷ (g ∷ more))) others end also s t x y = absurd s

pub one_step : OneEnd → StepLeads → OneStep
one_step one leads first r words left other items others end also s t x y =
    let same : items ≡ others = by_items one leads first r words left other items others end also s t x y in
    record {
      calls = same;
      place = one (Ready r) items end also (leads r items end s) (leads r items also (subst (λ (is : List Item). IsStep r is also) (sym same) t));
    }
