-- The words of the tests are set one after the other.
use Rattle.std.proofs.Common.{◌≡◌, ◌≢◌, inr, ℕ, ◌<◌, Bool, true, false, cond, [], length, None as Nothing, sym, ap, subst, ◌∙◌, arith}
use Rattle.std.proofs.lemmas.Bool.Decides.{nat_tests}
use mathlib.Core.Logic.{dite}
use native.Mathlib.Decide.{ℕ_discrete}
use Rattle.ld_base.specs.declared.linking.Role.{Role}
use Rattle.ld_base.specs.declared.linking.Role.TheVariants.{None as NoRole, Rx, Slot as SlotRole}
use Rattle.word_rule.specs.declared.view.KeeperView.{KeeperView}
use Rattle.word_rule.specs.declared.view.Kept.{Kept}
use Rattle.word_rule.specs.declared.view.Row.{Row}
use Rattle.word_rule.specs.Allowed.{IsSlot, LeadsTo}
use Rattle.word_rule.specs.Layout.{doublewords, IsDoubleword, place_of}
use Rattle.word_rule.specs.Views.{IsLong, kept_at, no_row, row_of, unmapped}
use Rattle.word_rule.specs.Lemmas.Heeding.{kept_else, kept_here}
use Rattle.word_memory.specs.Roles.{MaySet}
use Rattle.word_memory.specs.WordSeats.Making.{IsMade, in_linker_page, linker_page, linker_word}
use Rattle.word_access.specs.WordKeeping.Keeping.{set_as}
use Rattle.test_words.specs.BindTests.Stocked.{IsReady}

-- ---- places

pub slot_place : place_of 0x37010 ≡ 19970
unfolding place_of
slot_place = omega arith

pub lazy_place : place_of 0x35000 ≡ 18944
unfolding place_of
lazy_place = omega arith

pub first_place : place_of 0x39000 ≡ 20992
unfolding place_of
first_place = omega arith

pub second_place : place_of 0x3c000 ≡ 22528
unfolding place_of
second_place = omega arith

page_place : place_of linker_page ≡ 1048064
unfolding place_of
page_place = omega arith

pub low_place : (d n : ℕ) → d ≡ n → n < 1000000 → d < doublewords
unfolding doublewords
low_place d n is low = omega arith

-- ---- one doubleword is set

-- a doubleword was set, at this place
pub record HasSet (k k' : KeeperView) (d x : ℕ) (role : Role) : Type 0 where
  pub set : k' ≡ set_as d x role 0x35000 k
  pub inside : d < length k.words

module _ (k k' : KeeperView) (d x : ℕ) (role : Role) (s : HasSet k k' d x role) where
  pub set_else : (e : ℕ) → e ≢ d → kept_at k' e ≡ kept_at k e
  set_else e apart = ap (λ k. kept_at k e) s.set ∙ kept_else k d (record { role = role; value = x; lazy = 0x35000; since = length k.events; fixed = Nothing }) s.inside e apart

  pub set_here : kept_at k' d ≡ record { role = role; value = x; lazy = 0x35000; since = length k.events; fixed = Nothing }
  set_here = ap (λ k. kept_at k d) s.set ∙ kept_here k d (record { role = role; value = x; lazy = 0x35000; since = length k.events; fixed = Nothing }) s.inside

  pub same_rows : (m : ℕ) → row_of k' m ≡ row_of k m
  same_rows m = ap (λ k. row_of k m) s.set

  pub same_events : k'.events ≡ k.events
  same_events = ap (λ (k : KeeperView). k.events) s.set

  -- a word that is no slot brings no slot
  pub was_slot : role ≢ SlotRole → (e : ℕ) → IsSlot (kept_at k') e → IsSlot (kept_at k) e
  was_slot other e is = dite (ℕ_discrete e d)
      (λ (same : e ≡ d). absurd (other (sym (ap (λ (y : Kept). y.role) (ap (kept_at k') same ∙ set_here)) ∙ is.1)))
      (λ (apart : e ≢ d). (is.0, ap (λ (y : Kept). y.role) (sym (set_else e apart)) ∙ is.1))

pub may : (k : KeeperView) (address value : ℕ) (role : Role) → IsDoubleword address → role ≢ NoRole → (kept_at k (place_of address)).role ≡ NoRole → (role ≡ SlotRole → LeadsTo (kept_at k) value) → MaySet k address value role
may k address value role at some unset leads = record { at = at; fresh = unset; some_role = some; leads = leads }

rx_some : Rx ≢ NoRole
rx_some e = absurd (cc)

rx_apart : Rx ≢ SlotRole
rx_apart e = absurd (cc)

slot_some : SlotRole ≢ NoRole
slot_some e = absurd (cc)

-- ---- all of them

module _ (k0 : KeeperView) (made : IsMade k0 512 2) where
  no_slot : (d : ℕ) → IsSlot (kept_at k0) d → ⊥
  no_slot d is = go (in_linker_page 512 d) (ap (λ (y : Kept). y.role) (sym (made.words d)) ∙ is.1)
    where
      go : (b : Bool) → (cond b linker_word unmapped).role ≡ SlotRole → ⊥
      go true e = let q : Rx ≡ SlotRole = e in absurd (cc)
      go false e = let q : NoRole ≡ SlotRole = e in absurd (cc)

  unset : (d n : ℕ) → d ≡ n → n < 1000000 → (kept_at k0 d).role ≡ NoRole
  unset d n is low = ap (λ (y : Kept). y.role) (made.words d ∙ ap (λ b. cond b linker_word unmapped) out)
    where
      out : in_linker_page 512 d ≡ false
      out = let p = page_place in grind (arith, nat_tests)

  unset_lazy : (kept_at k0 (place_of 0x35000)).role ≡ NoRole
  unset_lazy = unset (place_of 0x35000) 18944 lazy_place (omega arith)

  pub may_lazy : MaySet k0 0x35000 0x0010007300100073 Rx
  may_lazy = may k0 0x35000 0x0010007300100073 Rx ((omega arith, low_place (place_of 0x35000) 18944 lazy_place (omega arith)), omega arith) rx_some unset_lazy (λ e. absurd (rx_apart e))

  module _ (k1 : KeeperView) (e1 : k1 ≡ set_as (place_of 0x35000) 0x0010007300100073 Rx 0x35000 k0) (long0 : IsLong k0) where
    s1 : HasSet k0 k1 (place_of 0x35000) 0x0010007300100073 Rx
    s1 = record { set = e1; inside = subst (λ n. place_of 0x35000 < n) (sym long0.0) (low_place (place_of 0x35000) 18944 lazy_place (omega arith)) }

    unset1 : (d n : ℕ) → d ≡ n → n < 1000000 → n ≢ 18944 → (kept_at k1 d).role ≡ NoRole
    unset1 d n is low apart = ap (λ (y : Kept). y.role) (set_else k0 k1 (place_of 0x35000) 0x0010007300100073 Rx s1 d (λ e. let p = lazy_place in apart (sym is ∙ (e ∙ p)))) ∙ unset d n is low

    unset_first : (kept_at k1 (place_of 0x39000)).role ≡ NoRole
    unset_first = unset1 (place_of 0x39000) 20992 first_place (omega arith) (λ e. absurd (omega arith))

    pub may_first : MaySet k1 0x39000 0x0010007300100073 Rx
    may_first = may k1 0x39000 0x0010007300100073 Rx ((omega arith, low_place (place_of 0x39000) 20992 first_place (omega arith)), omega arith) rx_some unset_first (λ e. absurd (rx_apart e))

    module _ (k2 : KeeperView) (e2 : k2 ≡ set_as (place_of 0x39000) 0x0010007300100073 Rx 0x35000 k1) (long1 : IsLong k1) where
      s2 : HasSet k1 k2 (place_of 0x39000) 0x0010007300100073 Rx
      s2 = record { set = e2; inside = subst (λ n. place_of 0x39000 < n) (sym long1.0) (low_place (place_of 0x39000) 20992 first_place (omega arith)) }

      unset2 : (d n : ℕ) → d ≡ n → n < 1000000 → n ≢ 18944 → n ≢ 20992 → (kept_at k2 d).role ≡ NoRole
      unset2 d n is low apart other = ap (λ (y : Kept). y.role) (set_else k1 k2 (place_of 0x39000) 0x0010007300100073 Rx s2 d (λ e. let p = first_place in other (sym is ∙ (e ∙ p)))) ∙ unset1 d n is low apart

      unset_second : (kept_at k2 (place_of 0x3c000)).role ≡ NoRole
      unset_second = unset2 (place_of 0x3c000) 22528 second_place (omega arith) (λ e. absurd (omega arith)) (λ e. absurd (omega arith))

      pub may_second : MaySet k2 0x3c000 0x0010007300100073 Rx
      may_second = may k2 0x3c000 0x0010007300100073 Rx ((omega arith, low_place (place_of 0x3c000) 22528 second_place (omega arith)), omega arith) rx_some unset_second (λ e. absurd (rx_apart e))

      module _ (k3 : KeeperView) (e3 : k3 ≡ set_as (place_of 0x3c000) 0x0010007300100073 Rx 0x35000 k2) (long2 : IsLong k2) where
        s3 : HasSet k2 k3 (place_of 0x3c000) 0x0010007300100073 Rx
        s3 = record { set = e3; inside = subst (λ n. place_of 0x3c000 < n) (sym long2.0) (low_place (place_of 0x3c000) 22528 second_place (omega arith)) }

        unset_slot : (kept_at k3 (place_of 0x37010)).role ≡ NoRole
        unset_slot = ap (λ (y : Kept). y.role) (set_else k2 k3 (place_of 0x3c000) 0x0010007300100073 Rx s3 (place_of 0x37010) (λ e. let a = slot_place in let b = second_place in absurd (omega arith)))
            ∙ unset2 (place_of 0x37010) 19970 slot_place (omega arith) (λ e. absurd (omega arith)) (λ e. absurd (omega arith))

        -- the lazy word lies in code
        lazy_code : (kept_at k3 (place_of 0x35000)).role ≡ Rx
        lazy_code = ap (λ (y : Kept). y.role) (set_else k2 k3 (place_of 0x3c000) 0x0010007300100073 Rx s3 (place_of 0x35000) (λ e. let a = lazy_place in let b = second_place in absurd (omega arith))
            ∙ (set_else k1 k2 (place_of 0x39000) 0x0010007300100073 Rx s2 (place_of 0x35000) (λ e. let a = lazy_place in let b = first_place in absurd (omega arith))
            ∙ set_here k0 k1 (place_of 0x35000) 0x0010007300100073 Rx s1))

        pub may_slot : MaySet k3 0x37010 0x35000 SlotRole
        may_slot = may k3 0x37010 0x35000 SlotRole ((omega arith, low_place (place_of 0x37010) 19970 slot_place (omega arith)), omega arith) slot_some unset_slot
            (λ _. inr ((omega arith, low_place (place_of 0x35000) 18944 lazy_place (omega arith)), lazy_code))

        module _ (k4 : KeeperView) (e4 : k4 ≡ set_as (place_of 0x37010) 0x35000 SlotRole 0x35000 k3) (long3 : IsLong k3) where
          s4 : HasSet k3 k4 (place_of 0x37010) 0x35000 SlotRole
          s4 = record { set = e4; inside = subst (λ n. place_of 0x37010 < n) (sym long3.0) (low_place (place_of 0x37010) 19970 slot_place (omega arith)) }

          events_are : k4.events ≡ []
          events_are = same_events k3 k4 (place_of 0x37010) 0x35000 SlotRole s4 ∙ (same_events k2 k3 (place_of 0x3c000) 0x0010007300100073 Rx s3 ∙ (same_events k1 k2 (place_of 0x39000) 0x0010007300100073 Rx s2
              ∙ (same_events k0 k1 (place_of 0x35000) 0x0010007300100073 Rx s1 ∙ made.no_events)))

          since_is : length k3.events ≡ 0
          since_is = ap length (sym (same_events k3 k4 (place_of 0x37010) 0x35000 SlotRole s4) ∙ events_are)

          rows_are : (m : ℕ) → row_of k4 m ≡ no_row
          rows_are m = same_rows k3 k4 (place_of 0x37010) 0x35000 SlotRole s4 m ∙ (same_rows k2 k3 (place_of 0x3c000) 0x0010007300100073 Rx s3 m ∙ (same_rows k1 k2 (place_of 0x39000) 0x0010007300100073 Rx s2 m
              ∙ (same_rows k0 k1 (place_of 0x35000) 0x0010007300100073 Rx s1 m ∙ made.rows m)))

          slot_here : kept_at k4 (place_of 0x37010) ≡ record { role = SlotRole; value = 0x35000; lazy = 0x35000; since = length k3.events; fixed = Nothing }
          slot_here = set_here k3 k4 (place_of 0x37010) 0x35000 SlotRole s4

          pub ready : IsReady k4
          ready = record {
            stocked = record {
              role = ap (λ (y : Kept). y.role) slot_here;
              lazy = ap (λ (y : Kept). y.lazy) slot_here;
              since = ap (λ (y : Kept). y.since) slot_here ∙ since_is;
              lazy_code = ap (λ (y : Kept). y.role) (set_else k3 k4 (place_of 0x37010) 0x35000 SlotRole s4 (place_of 0x35000) (λ e. let a = slot_place in let b = lazy_place in absurd (omega arith))) ∙ lazy_code;
              first_code = ap (λ (y : Kept). y.role) (set_else k3 k4 (place_of 0x37010) 0x35000 SlotRole s4 (place_of 0x39000) (λ e. let a = slot_place in let b = first_place in absurd (omega arith))
                  ∙ (set_else k2 k3 (place_of 0x3c000) 0x0010007300100073 Rx s3 (place_of 0x39000) (λ e. let a = second_place in let b = first_place in absurd (omega arith))
                  ∙ set_here k1 k2 (place_of 0x39000) 0x0010007300100073 Rx s2));
              second_code = ap (λ (y : Kept). y.role) (set_else k3 k4 (place_of 0x37010) 0x35000 SlotRole s4 (place_of 0x3c000) (λ e. let a = slot_place in let b = second_place in absurd (omega arith))
                  ∙ set_here k2 k3 (place_of 0x3c000) 0x0010007300100073 Rx s3);
              only = λ d is. dite (ℕ_discrete d (place_of 0x37010))
                  (λ (same : d ≡ place_of 0x37010). same)
                  (λ (apart : d ≢ place_of 0x37010). absurd (no_slot d (was_slot k0 k1 (place_of 0x35000) 0x0010007300100073 Rx s1 rx_apart d (was_slot k1 k2 (place_of 0x39000) 0x0010007300100073 Rx s2 rx_apart d
                  (was_slot k2 k3 (place_of 0x3c000) 0x0010007300100073 Rx s3 rx_apart d (is.0, ap (λ (y : Kept). y.role) (sym (set_else k3 k4 (place_of 0x37010) 0x35000 SlotRole s4 d apart)) ∙ is.1))))));
            };
            rows = λ m. ap (λ (r : Row). r.pending) (rows_are m);
            events = ap length events_are;
          }
