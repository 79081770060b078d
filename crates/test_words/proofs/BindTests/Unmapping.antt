-- The slot and its code lose their roles.
use Rattle.std.proofs.Common.{◌≡◌, ◌≢◌, ℕ, zero, suc, ◌<◌, List, [], ◌∷◌, length, slice_index_or, None as Nothing, Some, Result, Ok, Err, IfOk, IfErr, sym, ap, ◌∙◌, refl, arith}
use Rattle.ld_base.specs.declared.fault.Shown.{Shown}
use Rattle.ld_base.specs.declared.linking.Role.TheVariants.{None as NoRole, Rx, Rw, Slot as SlotRole}
use Rattle.word_rule.specs.declared.view.KeeperView.{KeeperView}
use Rattle.word_rule.specs.declared.view.Kept.{Kept}
use Rattle.word_rule.specs.Allowed.{IsSlot}
use Rattle.word_rule.specs.KeeperSteps.{retired}
use Rattle.word_rule.specs.Layout.{IsDoubleword, place_of}
use Rattle.word_rule.specs.Views.{kept_at, row_of, unmapped}
use Rattle.word_rule.specs.Lemmas.Heeding.{kept_else, kept_here}
use Rattle.word_memory.specs.Roles.{MayRetire}
use Rattle.test_words.specs.BindTests.Stocked.{IsStocked, IsUnmapped, IsUnslotted}
use Rattle.test_words.proofs.BindTests.Places.{first_place, lazy_place, low_place, second_place, slot_place}

-- ---- one doubleword

pub take_done : (k k' : KeeperView) (address : ℕ) (r : Result Unit Shown) → (kept_at k (place_of address)).role ≢ Rw
    → IfOk r (λ _. k' ≡ retired (place_of address) k) → IfErr r (λ _. (kept_at k (place_of address)).role ≡ Rw) → k' ≡ retired (place_of address) k
take_done k k' address (Ok t) other ok err = ok
take_done k k' address (Err shown) other ok err = absurd (other err)

-- a doubleword with a role is one that the keeper knows of
inside_of : (k : KeeperView) (d : ℕ) → (kept_at k d).role ≢ NoRole → d < length k.words
inside_of k d some = go k.words d some
  where
    go : (l : List Kept) (d : ℕ) → (slice_index_or l d unmapped).role ≢ NoRole → d < length l
    go [] d some = absurd (some refl)
    go (x ∷ xs) zero some = omega arith
    go (x ∷ xs) (suc d) some = let low : d < length xs = go xs d some in omega arith

-- a doubleword lost its role, at this place
record HasTaken (k k' : KeeperView) (d : ℕ) : Type 0 where
  pub taken : k' ≡ retired d k
  pub inside : d < length k.words

module _ (k k' : KeeperView) (d : ℕ) (t : HasTaken k k' d) where
  take_else : (e : ℕ) → e ≢ d → (kept_at k' e).role ≡ (kept_at k e).role
  take_else e apart = ap (λ k. (kept_at k e).role) t.taken ∙ ap (λ (y : Kept). y.role) (kept_else k d (record (kept_at k d) { role = NoRole }) t.inside e apart)

  take_here : (kept_at k' d).role ≡ NoRole
  take_here = ap (λ k. (kept_at k d).role) t.taken ∙ ap (λ (y : Kept). y.role) (kept_here k d (record (kept_at k d) { role = NoRole }) t.inside)

  -- a slot that is left was there before, elsewhere
  left_slot : (e : ℕ) → IsSlot (kept_at k') e → IsSlot (kept_at k) e × (e ≢ d)
  left_slot e is =
      let apart : e ≢ d = λ same. let q : NoRole ≡ SlotRole = sym take_here ∙ (ap (λ e. (kept_at k' e).role) (sym same) ∙ is.1) in absurd (cc) in
      ((is.0, sym (take_else e apart) ∙ is.1), apart)

-- ---- the slot

module _ (k : KeeperView) (stocked : IsStocked (kept_at k)) (settled : (m : ℕ) → (row_of k m).pending ≡ Nothing) where
  pub slot_written : (kept_at k (place_of 0x37010)).role ≢ Rw
  slot_written e = let q : SlotRole ≡ Rw = sym stocked.role ∙ e in absurd (cc)

  pub may_take_slot : MayRetire k 0x37010
  may_take_slot = record {
    at = ((omega arith, low_place (place_of 0x37010) 19970 slot_place (omega arith)), omega arith);
    some_role = λ none. let q : SlotRole ≡ NoRole = sym stocked.role ∙ none in absurd (cc);
    slot = λ _ m g e at. let q : Nothing ≡ Some g = sym (settled m) ∙ e in absurd (cc);
    other = λ no. absurd (no stocked.role);
  }

  pub unslotted : (k1 : KeeperView) → k1 ≡ retired (place_of 0x37010) k → IsUnslotted (kept_at k1)
  unslotted k1 e1 = record {
    slot = take_here k k1 (place_of 0x37010) taken;
    none = λ d is. let was = left_slot k k1 (place_of 0x37010) taken d is in was.1 (stocked.only d was.0);
    lazy_code = take_else k k1 (place_of 0x37010) taken (place_of 0x35000) (λ e. let a = slot_place in let b = lazy_place in absurd (omega arith)) ∙ stocked.lazy_code;
    first_code = take_else k k1 (place_of 0x37010) taken (place_of 0x39000) (λ e. let a = slot_place in let b = first_place in absurd (omega arith)) ∙ stocked.first_code;
    second_code = take_else k k1 (place_of 0x37010) taken (place_of 0x3c000) (λ e. let a = slot_place in let b = second_place in absurd (omega arith)) ∙ stocked.second_code;
  }
    where
      taken : HasTaken k k1 (place_of 0x37010)
      taken = record { taken = e1; inside = inside_of k (place_of 0x37010) (λ e. let q : SlotRole ≡ NoRole = sym stocked.role ∙ e in absurd (cc)) }

-- ---- the code

-- code to which no slot leads may lose its role
module _ (k : KeeperView) (address : ℕ) (at : IsDoubleword address) (code : (kept_at k (place_of address)).role ≡ Rx) where
  unwritten : (kept_at k (place_of address)).role ≢ Rw
  unwritten e = let q : Rx ≡ Rw = sym code ∙ e in absurd (cc)

  may_take : ((d : ℕ) → ¬ (IsSlot (kept_at k) d)) → MayRetire k address
  may_take none' = record {
    at = at;
    some_role = λ none. let q : Rx ≡ NoRole = sym code ∙ none in absurd (cc);
    slot = λ e. let q : Rx ≡ SlotRole = sym code ∙ e in absurd (cc);
    other = λ _ e v is allowed. absurd (none' e is);
  }

  takes : (k' : KeeperView) → k' ≡ retired (place_of address) k → HasTaken k k' (place_of address)
  takes k' e = record { taken = e; inside = inside_of k (place_of address) (λ e. let q : Rx ≡ NoRole = sym code ∙ e in absurd (cc)) }

lazy_at : IsDoubleword 0x35000
lazy_at = ((omega arith, low_place (place_of 0x35000) 18944 lazy_place (omega arith)), omega arith)

first_at : IsDoubleword 0x39000
first_at = ((omega arith, low_place (place_of 0x39000) 20992 first_place (omega arith)), omega arith)

second_at : IsDoubleword 0x3c000
second_at = ((omega arith, low_place (place_of 0x3c000) 22528 second_place (omega arith)), omega arith)

module _ (k : KeeperView) (u : IsUnslotted (kept_at k)) where
  pub may_take_lazy : MayRetire k 0x35000
  may_take_lazy = may_take k 0x35000 lazy_at u.lazy_code u.none

  pub lazy_written : (kept_at k (place_of 0x35000)).role ≢ Rw
  lazy_written = unwritten k 0x35000 lazy_at u.lazy_code

  module _ (k1 : KeeperView) (e1 : k1 ≡ retired (place_of 0x35000) k) where
    t1 : HasTaken k k1 (place_of 0x35000)
    t1 = takes k 0x35000 lazy_at u.lazy_code k1 e1

    none1 : (d : ℕ) → ¬ (IsSlot (kept_at k1) d)
    none1 d is = u.none d (left_slot k k1 (place_of 0x35000) t1 d is).0

    first1 : (kept_at k1 (place_of 0x39000)).role ≡ Rx
    first1 = take_else k k1 (place_of 0x35000) t1 (place_of 0x39000) (λ e. let a = lazy_place in let b = first_place in absurd (omega arith)) ∙ u.first_code

    pub may_take_first : MayRetire k1 0x39000
    may_take_first = may_take k1 0x39000 first_at first1 none1

    pub first_written : (kept_at k1 (place_of 0x39000)).role ≢ Rw
    first_written = unwritten k1 0x39000 first_at first1

    module _ (k2 : KeeperView) (e2 : k2 ≡ retired (place_of 0x39000) k1) where
      t2 : HasTaken k1 k2 (place_of 0x39000)
      t2 = takes k1 0x39000 first_at first1 k2 e2

      none2 : (d : ℕ) → ¬ (IsSlot (kept_at k2) d)
      none2 d is = none1 d (left_slot k1 k2 (place_of 0x39000) t2 d is).0

      second2 : (kept_at k2 (place_of 0x3c000)).role ≡ Rx
      second2 = take_else k1 k2 (place_of 0x39000) t2 (place_of 0x3c000) (λ e. let a = first_place in let b = second_place in absurd (omega arith))
          ∙ (take_else k k1 (place_of 0x35000) t1 (place_of 0x3c000) (λ e. let a = lazy_place in let b = second_place in absurd (omega arith)) ∙ u.second_code)

      pub may_take_second : MayRetire k2 0x3c000
      may_take_second = may_take k2 0x3c000 second_at second2 none2

      pub second_written : (kept_at k2 (place_of 0x3c000)).role ≢ Rw
      second_written = unwritten k2 0x3c000 second_at second2

      module _ (k3 : KeeperView) (e3 : k3 ≡ retired (place_of 0x3c000) k2) where
        t3 : HasTaken k2 k3 (place_of 0x3c000)
        t3 = takes k2 0x3c000 second_at second2 k3 e3

        pub all_taken : IsUnmapped (kept_at k3)
        all_taken = record {
          slot = take_else k2 k3 (place_of 0x3c000) t3 (place_of 0x37010) (λ e. let a = slot_place in let b = second_place in absurd (omega arith))
              ∙ (take_else k1 k2 (place_of 0x39000) t2 (place_of 0x37010) (λ e. let a = slot_place in let b = first_place in absurd (omega arith))
              ∙ (take_else k k1 (place_of 0x35000) t1 (place_of 0x37010) (λ e. let a = slot_place in let b = lazy_place in absurd (omega arith)) ∙ u.slot));
          lazy_code = take_else k2 k3 (place_of 0x3c000) t3 (place_of 0x35000) (λ e. let a = lazy_place in let b = second_place in absurd (omega arith))
              ∙ (take_else k1 k2 (place_of 0x39000) t2 (place_of 0x35000) (λ e. let a = lazy_place in let b = first_place in absurd (omega arith)) ∙ take_here k k1 (place_of 0x35000) t1);
          first_code = take_else k2 k3 (place_of 0x3c000) t3 (place_of 0x39000) (λ e. let a = first_place in let b = second_place in absurd (omega arith)) ∙ take_here k1 k2 (place_of 0x39000) t2;
          second_code = take_here k2 k3 (place_of 0x3c000) t3;
        }
