-- What events make of memory is one.
use Rattle.std.proofs.Common.{◌≡◌, ◌⊎◌, ⊎_elim, ℕ, zero, suc, ◌+◌, ◌-◌, ◌*◌, ◌/◌, ◌<◌, Bool, true, false, List, [], ◌∷◌, length, get_or, refl, sym, ap, subst, ◌∙◌, arith}
use Rattle.std.specs.List.{Contains, list_any}
use Rattle.std.proofs.lemmas.List.{same_lists}
use Rattle.history_event.specs.declared.event.Event.{Event}
use Rattle.history_event.specs.declared.event.Range.{Range}
use Rattle.history_state.specs.Changes.{reserved, taken}
use Rattle.history_state.specs.Memory.{covers}
use Rattle.history_state.specs.State.{State}
use Rattle.history_state.specs.Step.{step}
use Rattle.history_state.specs.Lemmas.Lists.{any_in, in_any_not}
use Rattle.history_memory.specs.Memory.{IsDoubleword}
use Rattle.rv_hart.specs.Doublewords.{nowhere}
use Rattle.rv_hart.specs.declared.doubleword.Doubleword.{Doubleword}
use Rattle.world_turns.specs.Memory.{Remakes, RemakesAll, doubleword, word_count}
use Rattle.world_turns.specs.Lemmas.Words.{found_at}

-- doublewords that are alike at each address are the same
pub same_words : (one other : List Doubleword) → length one ≡ word_count → length other ≡ word_count → ((a : ℕ) → IsDoubleword a → doubleword one a ≡ doubleword other a) → one ≡ other
same_words one other all also same = same_lists one other (all ∙ sym also) (λ k d less. at k d less)
  where
    at : (k : ℕ) (d : Doubleword) → k < length one → get_or one k d ≡ get_or other k d
    at k d less =
        let low : k < 0x100000 = subst (λ (n : ℕ). k < n) all less in
        let place : IsDoubleword (0x10000 + 8 * k) = record { low = omega arith; high = omega (arith, low); whole = omega arith } in
        let index : ((0x10000 + 8 * k) - 0x10000) / 8 ≡ k = omega arith in
        get_or_alike one k d less ∙ sym (ap (λ (n : ℕ). get_or one n nowhere) index) ∙ sym (found_at one (0x10000 + 8 * k) place) ∙ same (0x10000 + 8 * k) place
        ∙ found_at other (0x10000 + 8 * k) place ∙ ap (λ (n : ℕ). get_or other n nowhere) index ∙ sym (get_or_alike other k d (subst (λ (n : ℕ). k < n) (all ∙ sym also) less))
      where
        get_or_alike : (xs : List Doubleword) (k : ℕ) (d : Doubleword) → k < length xs → get_or xs k d ≡ get_or xs k nowhere
        get_or_alike [] k d less = absurd (omega (arith, less))
        get_or_alike (x ∷ rest) zero d less = refl
        get_or_alike (x ∷ rest) (suc k) d less = get_or_alike rest k d (omega (arith, less))

-- ---- an event

module _ (s : State) (e : Event) (old new other : List Doubleword) (x : Remakes s e old new) (y : Remakes s e old other) where
  by_ranges : (a : ℕ) → IsDoubleword a → (t u : Bool) → list_any (λ r. covers a r) (reserved s e) ≡ t → list_any (λ r. covers a r) (taken s e) ≡ u → doubleword new a ≡ doubleword other a
  by_ranges a is true u comes goes =
      let r = any_in (λ r. covers a r) (reserved s e) comes in x.given r.0 a is r.1 r.2 ∙ sym (y.given r.0 a is r.1 r.2)
  by_ranges a is false true comes goes =
      let r = any_in (λ r. covers a r) (taken s e) goes in x.gone r.0 a is r.1 r.2 ∙ sym (y.gone r.0 a is r.1 r.2)
  by_ranges a is false false comes goes = x.kept a is untouched ∙ sym (y.kept a is untouched)
    where
      untouched : (r : Range) → Contains (reserved s e) r ⊎ Contains (taken s e) r → covers a r ≡ false
      untouched r either = ⊎_elim
          (λ (there : Contains (reserved s e) r). in_any_not (λ q. covers a q) (reserved s e) r comes there)
          (λ (there : Contains (taken s e) r). in_any_not (λ q. covers a q) (taken s e) r goes there)
          either

  one_remade : length old ≡ word_count → new ≡ other
  one_remade all = same_words new other (x.all ∙ all) (y.all ∙ all) (λ a is. by_ranges a is (list_any (λ r. covers a r) (reserved s e)) (list_any (λ r. covers a r) (taken s e)) refl refl)

pub all_remade : (s : State) (added : List Event) (old new other : List Doubleword) → length old ≡ word_count → RemakesAll s added old new → RemakesAll s added old other → new ≡ other
all_remade s [] old new other all x y = x ∙ sym y
all_remade s (e ∷ rest) old new other all (between, x, more) (middle, y, others) =
    let same : between ≡ middle = one_remade s e old between middle x y all in
    all_remade (step s e) rest between new other (x.all ∙ all) more (subst (λ (ws : List Doubleword). RemakesAll (step s e) rest ws other) (sym same) others)
