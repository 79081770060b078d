-- An exchange keeps memory as the journal says.
use Rattle.std.proofs.Common.{◌≡◌, ◌≢◌, ◌⊎◌, inl, inr, ⊎_elim, ℕ, ◌^◌, ◌<◌, Bool, true, false, eqb, List, ◌∷◌, refl, sym, subst, ◌∙◌, arith}
use Rattle.std.specs.List.{Contains}
use Rattle.std.proofs.lemmas.Bool.{eq-eqb, eqb-true, true≢false}
use Rattle.ld_base.specs.declared.linking.Role.TheVariants.{Slot}
use Rattle.history_event.specs.declared.state.Granting.{Granting}
use Rattle.history_state.specs.State.{State}
use Rattle.history_state.specs.Laws.{ImagesAreMapped, NoneIsLazy, SlotsBegin}
use Rattle.history_state.specs.Memory.{role_at}
use Rattle.history_state.specs.Lemmas.Lists.{first_or_later, here, later}
use Rattle.history_state.specs.Lemmas.Map.{Mapped}
use Rattle.history_state.specs.Lemmas.Tidy.{Tidy, one_number}
use Rattle.history_memory.specs.Holds.{Holds, HoldsAt, IsSlotAt, SlotHolds, Took, TookAt, lazy_at}
use Rattle.history_memory.specs.Holds.SlotHolds.{exchanged, first}
use Rattle.history_memory.specs.Memory.{IsDoubleword, Memory}
use Rattle.history_memory.specs.Remade.{MayExchange, Wins}
use Rattle.history_memory.specs.Lemmas.Slots.{loaded_at, one_address, role_is}

-- the address of a doubleword fits into one
pub fits : (a : ℕ) → IsDoubleword a → a < 2 ^ 64
fits a is = let high : a < 0x810000 = is.high in omega (arith, high)

-- no grant that took a slot left the lazy word there
pub not_lazy : (s : State) → Mapped s → SlotsBegin s → ImagesAreMapped s → NoneIsLazy s → (won : List ℕ) (a : ℕ) → a < 2 ^ 64 → (h : Granting) → TookAt s won a h → h.value ≢ lazy_at s a
not_lazy s m begins mapped lazy won a word h took same =
    let at = loaded_at s m begins mapped a word h.owner h.slot took.of in
    lazy.granted at.namespace at.object h at.reloc at.inside took.there (sym at.serial) at.at (same ∙ at.lazy)

module _ (s : State) (m : Mapped s) (begins : SlotsBegin s) (mapped : ImagesAreMapped s) (lazy : NoneIsLazy s) (tidy : Tidy s.grants) (won : List ℕ) (a : ℕ) (g : Granting)
    (may : MayExchange s a g) (old left : Memory) (holds : Holds s won old) (wins : Wins s a g old left) where
  abbrev more : List ℕ
  more = g.number ∷ won

  word : a < 2 ^ 64
  word = fits a may.place

  is_more : (h : Granting) → Took won h → Took more h
  is_more h (inl bound) = inl bound
  is_more h (inr both) = inr (both.0, later g.number won h.number both.1)

  -- who took a slot now had taken it, but for the grant itself
  is_less : (h : Granting) → Took more h → Took won h ⊎ (g.number ≡ h.number)
  is_less h (inl bound) = inl (inl bound)
  is_less h (inr both) = ⊎_elim
      (λ (same : g.number ≡ h.number). inr same)
      (λ (there : Contains won h.number). inl (inr (both.0, there)))
      (first_or_later g.number won h.number both.1)

  -- ---- the slot itself

  took : TookAt s more a g
  took = record { there = may.there; of = may.of; took = inr (may.open_yet, here g.number won) }

  slot_after : SlotHolds s won a (old.value a) → SlotHolds s more a (left.value a)
  slot_after (first is none) = exchanged g took wins.left (sym is ∙ wins.found) (λ h at. ⊎_elim
      (λ (before : Took won h). absurd (none h (record { there = at.there; of = at.of; took = before })))
      (λ (same : g.number ≡ h.number). sym same)
      (is_less h at.took))
  slot_after (exchanged h at is first_word only) = absurd (not_lazy s m begins mapped lazy won a word h at (sym is ∙ wins.found))

  role : role_at s a ≡ Slot
  role = role_is s m begins a word g.owner g.slot may.of

  -- ---- others

  module _ (b : ℕ) (is : IsDoubleword b) (differs : b ≢ a) where
    other : (h : Granting) → TookAt s more b h → TookAt s won b h
    other h at = ⊎_elim
        (λ (before : Took won h). record { there = at.there; of = at.of; took = before })
        (λ (same : g.number ≡ h.number).
        let one : g ≡ h = one_number s.grants tidy g h may.there at.there same in
        absurd (differs (one_address s m begins b a (fits b is) word g.owner g.slot (subst (λ (q : Granting). IsSlotAt s b q.owner q.slot) (sym one) at.of) may.of)))
        (is_less h at.took)

    slot_stays : SlotHolds s won b (old.value b) → SlotHolds s more b (old.value b)
    slot_stays (first same none) = first same (λ h at. none h (other h at))
    slot_stays (exchanged h at same first_word only) =
        exchanged h (record { there = at.there; of = at.of; took = is_more h at.took }) same first_word (λ k took_it. only k (other k took_it))

    stays : HoldsAt s more left b
    stays =
        let was = holds.words b is in
        let value : left.value b ≡ old.value b = wins.others b is differs in
        record {
          role = wins.role b is ∙ was.role;
          fixed = λ either. value ∙ was.fixed either;
          slot = λ slot. subst (SlotHolds s more b) (sym value) (slot_stays (was.slot slot));
        }

  itself : HoldsAt s more left a
  itself =
      let was = holds.words a may.place in
      record {
        role = wins.role a may.place ∙ was.role;
        fixed = λ either. ⊎_elim
            (λ ro. absurd (let no = sym role ∙ ro in cc))
            (λ rx. absurd (let no = sym role ∙ rx in cc))
            either;
        slot = λ slot. slot_after (was.slot slot);
      }

  itself_by : (b : ℕ) → IsDoubleword b → (t : Bool) → eqb b a ≡ t → HoldsAt s more left b
  itself_by b is true e = subst (HoldsAt s more left) (sym (eqb-true b a e)) itself
  itself_by b is false e = stays b is (λ same. true≢false (sym (eq-eqb b a same) ∙ e))

  pub exchange_holds : Holds s more left
  exchange_holds = record {
    words = λ b is. itself_by b is (eqb b a) refl;
    unsettled = λ n there. ⊎_elim
        (λ (same : g.number ≡ n). (g, record { there = may.there; numbered = same; open_yet = may.open_yet }))
        (λ (old_one : Contains won n). holds.unsettled n old_one)
        (first_or_later g.number won n there);
  }
