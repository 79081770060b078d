-- Words of objects, then of areas, then slots.
use Rattle.std.proofs.Common.{◌≡◌, ◌≢◌, ◌⊎◌, ⊎_elim, inl, inr, ℕ, true, false, refl, sym, ap, subst, ◌∙◌}
use Rattle.ld_base.specs.declared.linking.Role.TheVariants.{None as NoRole, Rx}
use Rattle.seg_image.specs.declared.image.Word.{Word}
use Rattle.word_rule.specs.declared.view.KeeperView.{KeeperView}
use Rattle.word_rule.specs.declared.view.Kept.{Kept}
use Rattle.word_rule.specs.Allowed.{LeadsTo}
use Rattle.word_rule.specs.Layout.{place_of}
use Rattle.word_rule.specs.Views.{kept_at}
use Rattle.history_calls.specs.declared.link_served.installs.Installs.{Installs}
use Rattle.history_memory.specs.Memory.{doubleword_of}
use Rattle.word_installs.specs.Installed.{HasWord, IsInstalled, LeadsInto, MayInstall, MayPut, MayPutSlots, OfImages, OfInstalls, OfSlots, Puts, is_plain}
use Rattle.word_installs.proofs.Places.{place_one, place_whole}
use Rattle.word_installs.proofs.Putting.{one_word, puts_then}

module _ (installs : Installs) (k : KeeperView) (may : MayInstall k installs) where
  abbrev both : ℕ → ℕ → Word → Type 0
  both a z x = OfImages installs.images a z x ⊎ OfImages installs.areas a z x

  -- a word of an object and one of an area have two places
  two_places : (a b : ℕ) (x y : Word) → HasWord installs.images a x → HasWord installs.areas b y → place_of b ≢ place_of a
  two_places a b x y first second same =
      let is : b ≡ a = place_one b a (may.areas.placed b y second) (may.images.placed a x first) same in
      may.apart a x y first (subst (λ (c : ℕ). HasWord installs.areas c y) is second)

  pub next_areas : (l : KeeperView) → Puts (OfImages installs.images) k l → MayPut l installs.areas
  next_areas l puts = record {
    placed = may.areas.placed;
    free = λ a x has. ap (λ (y : Kept). y.role) (puts.kept (place_of a) (λ b z y is same. two_places b a y x is.0 has (sym same))) ∙ may.areas.free a x has;
    apart = may.areas.apart;
  }

  module _ (l m : KeeperView) (objects : Puts (OfImages installs.images) k l) (areas : Puts (OfImages installs.areas) l m) where
    -- a place with no plain word of an object, and none of an area
    stays : (d : ℕ) → ((a : ℕ) (x : Word) → HasWord installs.images a x → is_plain x.role ≡ true → place_of a ≢ d) → ((a : ℕ) (x : Word) → HasWord installs.areas a x → place_of a ≢ d)
        → kept_at m d ≡ kept_at k d
    stays d no_object no_area = areas.kept d (λ a z x is. no_area a x is.0) ∙ objects.kept d (λ a z x is. no_object a x is.0 is.2)

    -- what may be run before, or is a word of an object, may be run then
    leads : (value : ℕ) → LeadsInto k installs.images value → LeadsTo (kept_at m) value
    leads value (inl none) = inl none
    leads value (inr (inside, inl rx)) = inr (
      inside,
      ap (λ (y : Kept). y.role) (stays (place_of value)
          (λ a x has plain same. (let both : NoRole ≡ Rx = sym (may.images.free a x has) ∙ ap (λ (d : ℕ). (kept_at k d).role) same ∙ rx in cc))
          (λ a x has same. (let both : NoRole ≡ Rx = sym (may.areas.free a x has) ∙ ap (λ (d : ℕ). (kept_at k d).role) same ∙ rx in cc))) ∙ rx,
    )
    leads value (inr (inside, inr (x, has, rx))) = inr (
      inside,
      ap (λ (d : ℕ). (kept_at m d).role) (sym (place_whole value (may.images.placed (doubleword_of value) x has)))
          ∙ ap (λ (y : Kept). y.role) (areas.kept (place_of (doubleword_of value)) (λ a z y is. two_places (doubleword_of value) a x y has is.0))
          ∙ ap (λ (y : Kept). y.role) (objects.put (doubleword_of value) 0 x (has, refl, ap is_plain rx))
          ∙ rx,
    )

    pub next_slots : MayPutSlots m installs.images installs.slots
    next_slots = record {
      each = λ i slot at. record {
        placed = λ x has. may.images.placed slot.address x has;
        free = λ x has role. ap (λ (y : Kept). y.role) (stays (place_of slot.address)
            (λ a y other plain same.
            let is : y ≡ x = sym (one_word installs.images k may.images slot.address a x y has other same) in
            let both : true ≡ false = sym plain ∙ ap (λ (w : Word). is_plain w.role) is ∙ ap is_plain role in cc)
            (λ a y other same. two_places slot.address a x y has other same))
            ∙ may.images.free slot.address x has;
        one = λ x y first second. one_word installs.images k may.images slot.address slot.address x y first second refl;
        leads = λ x has role. leads x.value (may.leads slot.address x has role);
      };
      once = may.slots;
    }

    pub installed : (n o : KeeperView) (generation : ℕ) → Puts (OfSlots installs.images installs.slots) m n → o ≡ record n { generation = generation } → IsInstalled installs k o
    installed n o generation slots set =
        subst (λ (v : KeeperView). Puts (OfInstalls installs) k v) back
        (puts_then both (OfSlots installs.images installs.slots) (OfInstalls installs) k m n
        (puts_then (OfImages installs.images) (OfImages installs.areas) both k l m objects areas (λ a z x is. is) (λ a z x is. is)
        (λ a z x b w y first second. two_places a b x y first.0 second.0))
        slots
        (λ a z x is. ⊎_elim (λ (o : OfImages installs.images a z x). inl (inl o)) (λ rest. ⊎_elim (λ (r : OfImages installs.areas a z x). inl (inr r)) (λ (s : OfSlots installs.images installs.slots a z x). inr s) rest) is)
        (λ a z x is. ⊎_elim (λ first. ⊎_elim (λ (o : OfImages installs.images a z x). inl o) (λ (r : OfImages installs.areas a z x). inr (inl r)) first) (λ (s : OfSlots installs.images installs.slots a z x). inr (inr s)) is)
        apart)
      where
        apart : (a z : ℕ) (x : Word) (b w : ℕ) (y : Word) → OfImages installs.images a z x ⊎ OfImages installs.areas a z x → OfSlots installs.images installs.slots b w y → place_of b ≢ place_of a
        apart a z x b w y (inl object) slot same =
            let is : x ≡ y = one_word installs.images k may.images a b x y object.0 slot.3.0 same in
            let no : true ≡ false = sym object.2 ∙ ap (λ (v : Word). is_plain v.role) is ∙ ap is_plain slot.3.1 in cc
        apart a z x b w y (inr area) slot same = two_places b a y x slot.3.0 area.0 (sym same)

        generation_same : k.generation ≡ n.generation
        generation_same = sym (ap (λ (v : KeeperView). v.generation) slots.only ∙ ap (λ (v : KeeperView). v.generation) areas.only ∙ ap (λ (v : KeeperView). v.generation) objects.only)

        back : n ≡ record o { generation = k.generation }
        back = ap (λ (g : ℕ). record n { generation = g }) (sym generation_same) ∙ ap (λ (v : KeeperView). record v { generation = k.generation }) (sym set)
