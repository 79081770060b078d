-- What is known of lost grants, over steps.
use Rattle.std.proofs.Common.{◌≡◌, ⊎_elim, inl, inr, ℕ, Bool, true, false, eqb, nat_le, List, length, Option, Contains, refl, sym, subst}
use Rattle.std.proofs.lemmas.List.Elements.{Contains-append_left, Contains-push_cases}
use Rattle.word_rule.specs.declared.entry.Exchange.{Exchange}
use Rattle.word_rule.specs.declared.kind.KeeperKind.{KeeperKind}
use Rattle.word_rule.specs.declared.kind.KeeperKind.TheVariants as keeps
use Rattle.word_rule.specs.declared.view.KeeperView.{KeeperView}
use Rattle.word_rule.specs.declared.view.Loss.{Loss}
use Rattle.word_rule.specs.declared.view.TrailItem.{TrailItem}
use Rattle.word_rule.specs.Layout.{doublewords, harts_at_most, value_at}
use Rattle.word_rule.specs.Views.{exchanges_by, exchanges_of, grant_in, kept_at, put, row_of}
use Rattle.word_rule.specs.KeeperSteps.{KeeperReady, awaited_if, heeding, keeper_after, keeper_word, keeps_if}
use Rattle.word_rule.specs.Owners.{Grows}
use Rattle.word_rule.specs.Slots.{AreLosses, Slots}
use Rattle.word_rule.specs.Lemmas.HartSlots.{exchanges_push}
use Rattle.word_rule.specs.Lemmas.KeeperSlots.{loss_is}
use Rattle.word_rule.specs.Lemmas.Put.{put_each}

-- ---- a hart steps

-- a trail that grows has its exchanges still
pub exchanges_grow : (before now : List TrailItem) → Grows before now → (x : Exchange) → Contains (exchanges_of before) x → Contains (exchanges_of now) x
exchanges_grow before now (inl same) x there = subst (λ t. Contains (exchanges_of t) x) (sym same) there
exchanges_grow before now (inr more) x there = subst (λ t. Contains (exchanges_of t) x) (sym more.1)
    (subst (λ es. Contains es x) (sym (exchanges_push before more.0)) (Contains-append_left (exchanges_of before) (exchanges_by more.0) x there))

pub hart_losses : (losses : List Loss) (exchanges : ℕ → List Exchange) (m : ℕ) (xs : List Exchange) → ((x : Exchange) → Contains (exchanges m) x → Contains xs x) → AreLosses losses exchanges
    → AreLosses losses (put exchanges m xs)
hart_losses losses exchanges m xs grows are x there = put_each (λ j (ys : List Exchange). Contains (exchanges j) x.exchange → Contains ys x.exchange) exchanges m xs (λ j _ c. c) (grows x.exchange) x.hart (are x there)

-- ---- the keeper steps

keeps_losses : (d : ℕ) (b : Bool) (k : KeeperView) → k.losses ≡ (keeps_if d b (heeding k)).losses
keeps_losses d true k = refl
keeps_losses d false k = refl

awaited_losses : (m : ℕ) (b : Bool) (k : KeeperView) → k.losses ≡ (awaited_if m b (heeding k)).losses
awaited_losses m true k = refl
awaited_losses m false k = refl

module _ (word : ℕ → ℕ) (k : KeeperView) (tried : ℕ → Option Exchange) (exchanges : ℕ → List Exchange) (s : Slots word (kept_at k) k.access.locked (length k.events) (row_of k) tried exchanges)
    (words_known : length k.words ≡ doublewords) (rows_known : length k.rows ≡ harts_at_most) (are : AreLosses k.losses exchanges) where
  pub keeper_losses : (kind : KeeperKind) → KeeperReady kind k → AreLosses (keeper_after kind k (word (keeper_word kind))).losses exchanges
  keeper_losses (keeps.Lock d control) ready = subst (λ l. AreLosses l exchanges) (keeps_losses d (eqb (word (keeper_word (keeps.Lock d control))) control) k) are
  keeper_losses (keeps.Await m) ready = subst (λ l. AreLosses l exchanges) (awaited_losses m (nat_le 8 (word (keeper_word (keeps.Await m)))) k) are
  keeper_losses (keeps.Saw d m) ready = λ x there. ⊎_elim
      (λ (was : Contains k.losses x). are x was)
      (λ (new : record { hart = m; exchange = record { grant = grant_in (row_of k m); found = word (value_at d) } } ≡ x). subst (λ (x : Loss). Contains (exchanges x.hart) x.exchange) new
      (loss_is word k tried exchanges s words_known rows_known d m (grant_in (row_of k m)) ready.0 ready.1 ready.2))
      (Contains-push_cases k.losses (record { hart = m; exchange = record { grant = grant_in (row_of k m); found = word (value_at d) } }) x there)
  keeper_losses (keeps.Look d) ready = are
  keeper_losses (keeps.Load d) ready = are
  keeper_losses (keeps.Store d x) ready = are
  keeper_losses (keeps.Unlock d role lazy) ready = are
  keeper_losses (keeps.Count e) ready = are
  keeper_losses (keeps.Ask m) ready = are
  keeper_losses (keeps.Fill m i x) ready = are
  keeper_losses (keeps.Hand m mark) ready = are
  keeper_losses (keeps.Open m) ready = are
  keeper_losses (keeps.RetireSlot d) ready = are
  keeper_losses (keeps.Retire d old) ready = are
  keeper_losses (keeps.Generation g) ready = are
  keeper_losses (keeps.Recall m i) ready = are
  keeper_losses keeps.RecallGeneration ready = are
  keeper_losses (keeps.RecallRole d) ready = are
  keeper_losses keeps.Listen ready = are
