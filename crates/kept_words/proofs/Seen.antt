-- Lost grants have seen the words that they show.
use Rattle.std.proofs.Common.{◌≡◌, ⊎_elim, ℕ, List, [], ◌∷◌, ◌++◌, refl, sym, ap, subst, ◌∙◌}
use Rattle.std.specs.List.{Contains}
use Rattle.std.proofs.lemmas.List.Elements.{Contains-append_cases}
use Rattle.history_event.specs.declared.state.Granting.{Granting}
use Rattle.history_event.specs.declared.state.Standing.TheVariants.{Lost, Open}
use Rattle.word_rule.specs.declared.view.Fate.TheVariants.{Lost as FateLost}
use Rattle.word_rule.specs.declared.view.KeeperView.{KeeperView}
use Rattle.word_rule.specs.declared.view.Kept.{Kept}
use Rattle.word_rule.specs.declared.view.Settled.{Settled}
use Rattle.word_rule.specs.Allowed.{IsOf}
use Rattle.word_rule.specs.Layout.{place_of}
use Rattle.word_rule.specs.Views.{kept_at, row_of}
use Rattle.history_state.specs.State.{Linked, State}
use Rattle.history_state.specs.Lemmas.Lists.{only_in}
use Rattle.kept_words.specs.Kept.{IsSeen, LostHaveSeen}
use Rattle.kept_words.proofs.Staying.{slot_on}

-- the word of the slot stays, and so do the grants whose fate is known
pub seen_word : (k l : KeeperView) (a saw : ℕ) → kept_at l (place_of a) ≡ kept_at k (place_of a) → ((m : ℕ) → (row_of l m).settled ≡ (row_of k m).settled) → IsSeen k a saw → IsSeen l a saw
seen_word k l a saw same settled seen = record {
  hart = seen.hart;
  grant = seen.grant;
  low = seen.low;
  lost = subst (λ (all : List Settled). Contains all (record { grant = seen.grant; fate = FateLost })) (sym (settled seen.hart)) seen.lost;
  of = subst (λ (y : Kept). IsOf (λ _. y) (place_of a) seen.grant) (sym same) seen.of;
  fixed = ap (λ (y : Kept). y.fixed) same ∙ seen.fixed;
  bound = λ other. seen.bound (λ lazy. other (ap (λ (y : Kept). y.value) same ∙ lazy ∙ ap (λ (y : Kept). y.lazy) (sym same))) ∙ ap (λ (y : Kept). y.value) (sym same);
}

pub seen_on : (s t : State) (k l : KeeperView) → t.images ≡ s.images → t.grants ≡ s.grants → ((d : ℕ) → kept_at l d ≡ kept_at k d)
    → ((m : ℕ) → (row_of l m).settled ≡ (row_of k m).settled) → LostHaveSeen s k → LostHaveSeen t l
seen_on s t k l images grants words settled seen x saw i there lost inside serial =
    let was = seen x saw i (subst (λ (all : List Granting). Contains all x) grants there) lost (subst (λ (all : List Linked). Contains all i) images inside) serial in
    record {
      address = was.address;
      word = was.word;
      at = slot_on s t images was.address x.owner x.slot was.at;
      seen = seen_word k l was.address saw (words (place_of was.address)) settled was.seen;
    }

-- a grant more, which is open
pub seen_more : (s : State) (k : KeeperView) (y : Granting) → y.standing ≡ Open → LostHaveSeen s k → LostHaveSeen (record s { grants = s.grants ++ y ∷ [] }) k
seen_more s k y open_yet seen x saw i there lost inside serial = ⊎_elim
    (λ (old : Contains s.grants x).
    let was = seen x saw i old lost inside serial in
    record { address = was.address; word = was.word; at = slot_on s (record s { grants = s.grants ++ y ∷ [] }) refl was.address x.owner x.slot was.at; seen = was.seen })
    (λ (new : Contains (y ∷ []) x). absurd (let both : Open ≡ Lost saw = sym open_yet ∙ ap (λ (g : Granting). g.standing) (only_in y x new) ∙ lost in cc))
    (Contains-append_cases s.grants (y ∷ []) x there)
