-- The worked steps, by computation.
use Rattle.std.proofs.Common.{◌≡◌, ℕ, ◌≤◌, ◌<◌, arith, true, false, [], ◌∷◌, ◌++◌, length, refl, ap, ◌∙◌, inr}
use Rattle.ld_base.specs.declared.linking.Role.{Role}
use Rattle.ld_base.specs.declared.linking.Role.TheVariants.{Slot as SlotRole}
use Rattle.word_rule.specs.declared.kind.StoreAsk.TheVariants.{Conditional}
use Rattle.word_rule.specs.declared.view.KeeperView.{KeeperView}
use Rattle.word_rule.specs.declared.view.Retired.{Retired}
use Rattle.word_rule.specs.Views.{kept_at}
use Rattle.word_rule.specs.HartSteps.{is_fresh, last_control}
use Rattle.word_rule.specs.Layout.{doublewords, place_of}
use Rattle.word_rule.specs.Worked.{AnotherHasLocked, ConditionalFails, ConditionalIsRefused, LockIsShown, LookKeeps, OneLocks, OneWins, RoleComesAndGoes, RolesGoInOrder, RowGoesRound, StoreIsOwed}

pub one_locks : OneLocks
one_locks = (refl, refl, refl, refl)

pub another_has_locked : AnotherHasLocked
another_has_locked = refl

pub conditional_fails : ConditionalFails
conditional_fails = (refl, refl)

first_low : place_of 0x10000 < doublewords
unfolding doublewords place_of
first_low = omega arith

pub conditional_is_refused : ConditionalIsRefused
conditional_is_refused = (
  (λ ready. let found : 19 ≡ ready.2.0 = ap last_control ready.2.1 in let fresh : false ≡ true = ap (λ n. is_fresh (Conditional 0x10000 8 7 0) n) found ∙ ready.2.2 in absurd (cc)),
  (refl, inr (refl, refl), (19, refl, refl), ((omega arith, first_low), inr (inr (inr refl)), refl)),
)

pub store_is_owed : StoreIsOwed
store_is_owed = (
  (λ ready. let stored = ready.1 in absurd (cc)),
  (λ ready. let inside : 0x10000 ≤ 0x8 = ready.3.0.0 in absurd (omega arith)),
)

pub one_wins : OneWins
one_wins = (refl, refl, refl, refl)

pub role_comes_and_goes : RoleComesAndGoes
role_comes_and_goes = (refl, refl, refl, refl)

abbrev went : ℕ → Role → KeeperView → Retired
went d r v = record { at = d; role = r; generation = v.generation; number = length v.events; value = (kept_at v d).value }

pub roles_go_in_order : RolesGoInOrder
roles_go_in_order k none_yet slot = (
  ap (λ gone. gone ++ went 0 (kept_at k 0).role k ∷ []) none_yet ∙ ap (λ r. went 0 r k ∷ []) slot,
  (λ l is rx. ap (λ gone. gone ++ went 1 (kept_at l 1).role l ∷ []) is ∙ ap (λ r. went 0 SlotRole k ∷ went 1 r l ∷ []) rx),
)

pub look_keeps : LookKeeps
look_keeps = (refl, refl)

pub lock_is_shown : LockIsShown
lock_is_shown k none_yet = (
  ap (λ l. l ++ record { at = 0; first = 11; second = 11 } ∷ []) none_yet,
  ap (λ l. l ++ record { at = 0; first = 3; second = 19 } ∷ []) none_yet,
  none_yet,
)

pub row_goes_round : RowGoesRound
row_goes_round = (refl, refl, refl, refl, refl, refl, refl)
