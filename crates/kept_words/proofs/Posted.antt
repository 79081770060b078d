-- A grant is posted: the view stays that of the state.
use Rattle.std.proofs.Common.{◌≡◌, ◌≢◌, ◌⊎◌, ⊎_elim, inl, inr, ℕ, ◌<◌, List, [], ◌∷◌, ◌++◌, length, Some, None, refl, sym, ap, subst, ◌∙◌}
use mathlib.Core.Logic.{dite}
use native.Mathlib.Decide.{ℕ_discrete}
use Rattle.std.specs.List.{Contains}
use Rattle.std.proofs.lemmas.List.Elements.{Contains-append_cases, Contains-append_left, Contains-append_right}
use Rattle.ld_base.specs.declared.linking.Role.{Role}
use Rattle.ld_base.specs.declared.linking.Role.TheVariants.{Ro, Rx, Slot}
use Rattle.history_event.specs.declared.state.Granting.{Granting}
use Rattle.history_event.specs.declared.state.Standing.TheVariants.{Bound, Open}
use Rattle.word_rule.specs.declared.entry.Grant.{Grant}
use Rattle.word_rule.specs.declared.view.KeeperView.{KeeperView}
use Rattle.word_rule.specs.declared.view.Row.{Row}
use Rattle.word_rule.specs.Allowed.{IsOf, IsWon, Stands}
use Rattle.word_rule.specs.Layout.{harts_at_most, place_of}
use Rattle.word_rule.specs.Lemmas.Heeding.{row_else, row_here}
use Rattle.word_rule.specs.Views.{IsLong, kept_at, row_of}
use Rattle.history_state.specs.Lemmas.Lists.{here, only_in}
use Rattle.history_state.specs.Memory.{role_at, first_word_at}
use Rattle.history_state.specs.State.{State}
use Rattle.history_state.specs.Storage.{tls_block, tp_of}
use Rattle.history_memory.specs.Holds.{IsSlotAt}
use Rattle.history_memory.specs.Memory.{IsDoubleword}
use Rattle.slot_bind.specs.Grants.{posted, row_posted}
use Rattle.word_holds.specs.Shared.{IsGrantOf, IsOfState}
use Rattle.kept_words.specs.Posted.{Posts}
use Rattle.kept_words.proofs.Staying.{slot_on}

pub role_stays : (all : List Granting) (s : State) (a : ℕ) → role_at (record s { grants = all }) a ≡ role_at s a
unfolding role_at
role_stays all s a = refl

word_stays : (all : List Granting) (s : State) (a : ℕ) → first_word_at (record s { grants = all }) a ≡ first_word_at s a
unfolding first_word_at tls_block tp_of
word_stays all s a = refl

module _ (s : State) (k : KeeperView) (number next : ℕ → Grant → ℕ) (m : ℕ) (g : Grant) (x : Granting) (long : IsLong k) (is : IsOfState s k number) (posts : Posts s k number next m g x)
    (of : IsOf (kept_at k) (place_of g.entry.slot) g) where
  abbrev all : List Granting
  all = s.grants ++ x ∷ []

  abbrev t : State
  t = record s { grants = s.grants ++ x ∷ [] }

  abbrev l : KeeperView
  l = posted m g k

  inside : m < length k.rows
  inside = subst (λ (n : ℕ). m < n) (sym long.1) posts.low

  row_is : row_of (posted m g k) m ≡ row_posted g (row_of k m)
  row_is = row_here k m (row_posted g (row_of k m)) inside

  row_other : (j : ℕ) → j ≢ m → row_of (posted m g k) j ≡ row_of k j
  row_other j apart = row_else k m (row_posted g (row_of k m)) inside j apart

  pending_is : (row_of (posted m g k) m).pending ≡ Some g
  pending_is = ap (λ (r : Row). r.pending) row_is

  won_back : (j : ℕ) (p : Grant) → IsWon (row_of (posted m g k) j) p → IsWon (row_of k j) p
  won_back j p done = dite (ℕ_discrete j m)
      (λ (same : j ≡ m). subst (λ (i : ℕ). IsWon (row_of k i) p) (sym same) (subst (λ (r : Row). IsWon r p) row_is (subst (λ (i : ℕ). IsWon (row_of (posted m g k) i) p) same done)))
      (λ (apart : j ≢ m). subst (λ (r : Row). IsWon r p) (row_other j apart) done)

  -- what stands is the new one, or stood
  pub stood : (j : ℕ) (p : Grant) → Stands (row_of (posted m g k) j) p → ((j ≡ m) × (p ≡ g)) ⊎ Stands (row_of k j) p
  stood j p st = dite (ℕ_discrete j m)
      (λ (same : j ≡ m). ⊎_elim
      (λ (waits : (row_of (posted m g k) j).pending ≡ Some p). inl (same, let both : Some p ≡ Some g = sym waits ∙ ap (λ (i : ℕ). (row_of (posted m g k) i).pending) same ∙ pending_is in cc))
      (λ (done : IsWon (row_of (posted m g k) j) p). inr (inr (won_back j p done)))
      st)
      (λ (apart : j ≢ m). inr (subst (λ (r : Row). Stands r p) (row_other j apart) st))

  stands_still : (j : ℕ) (p : Grant) → Stands (row_of k j) p → Stands (row_of (posted m g k) j) p
  stands_still j p st = dite (ℕ_discrete j m)
      (λ (same : j ≡ m). subst (λ (i : ℕ). Stands (row_of (posted m g k) i) p) (sym same) (⊎_elim
      (λ (waits : (row_of k m).pending ≡ Some p). absurd (let no : None ≡ Some p = sym posts.settled ∙ waits in cc))
      (λ (done : IsWon (row_of k m) p). inr (subst (λ (r : Row). IsWon r p) (sym row_is) done))
      (subst (λ (i : ℕ). Stands (row_of k i) p) same st)))
      (λ (apart : j ≢ m). subst (λ (r : Row). Stands r p) (sym (row_other j apart)) st)

  not_old : (j : ℕ) → j ≡ m → Stands (row_of k j) g → ⊥
  not_old j same st =
      let low : j < harts_at_most = subst (λ (i : ℕ). i < harts_at_most) (sym same) posts.low in
      posts.fresh j g low st (sym (posts.same j g low st) ∙ ap (λ (i : ℕ). next i g) same ∙ posts.numbered)

  grant_new : IsGrantOf (record s { grants = s.grants ++ x ∷ [] }) (posted m g k) m g x
  grant_new = record {
    there = Contains-append_right s.grants (x ∷ []) x (here x []);
    value = posts.value;
    slot = slot_on s (record s { grants = s.grants ++ x ∷ [] }) refl g.entry.slot x.owner x.slot posts.slot;
    open_yet = λ _. posts.open_yet;
    bound = λ done. absurd (not_old m refl (inr (won_back m g done)));
  }

  grant_old : (j : ℕ) (p : Grant) (y : Granting) → j < harts_at_most → Stands (row_of k j) p → IsGrantOf s k j p y → IsGrantOf (record s { grants = s.grants ++ x ∷ [] }) (posted m g k) j p y
  grant_old j p y low st z = record {
    there = Contains-append_left s.grants (x ∷ []) y z.there;
    value = z.value;
    slot = slot_on s (record s { grants = s.grants ++ x ∷ [] }) refl p.entry.slot y.owner y.slot z.slot;
    open_yet = λ waits. dite (ℕ_discrete j m)
        (λ (same : j ≡ m).
        let both : Some p ≡ Some g = sym waits ∙ ap (λ (i : ℕ). (row_of (posted m g k) i).pending) same ∙ pending_is in
        let is_g : p ≡ g = cc in
        absurd (not_old j same (subst (λ (q : Grant). Stands (row_of k j) q) is_g st)))
        (λ (apart : j ≢ m). z.open_yet (sym (ap (λ (r : Row). r.pending) (row_other j apart)) ∙ waits));
    bound = λ done. z.bound (won_back j p done);
  }

  pub posted_stays : IsOfState (record s { grants = s.grants ++ x ∷ [] }) (posted m g k) next
  posted_stays = record {
    role = λ a word. is.role a word ∙ sym (role_stays (s.grants ++ x ∷ []) s a);
    word = λ a word roles. is.word a word (subst (λ (r : Role). (r ≡ Ro) ⊎ (r ≡ Rx) ⊎ (r ≡ Slot)) (role_stays (s.grants ++ x ∷ []) s a) roles) ∙ sym (word_stays (s.grants ++ x ∷ []) s a);
    lazy = λ a word role. is.lazy a word (sym (role_stays (s.grants ++ x ∷ []) s a) ∙ role);
    granted = λ j p low st at. granted j p low at (stood j p st);
    stands = λ a y word there standing at. stands a y word standing at (Contains-append_cases s.grants (x ∷ []) y there);
    one = λ j n p q low_j low_n st_p st_q same. one j n p q low_j low_n (stood j p st_p) (stood n q st_q) same;
  }
    where
      granted : (j : ℕ) (p : Grant) → j < harts_at_most → IsOf (kept_at k) (place_of p.entry.slot) p → ((j ≡ m) × (p ≡ g)) ⊎ Stands (row_of k j) p
          → (y : Granting) × (y.number ≡ next j p) × IsGrantOf (record s { grants = s.grants ++ x ∷ [] }) (posted m g k) j p y
      granted j p low at (inl new) = (
        x,
        sym posts.numbered ∙ ap (λ (i : ℕ). next i g) (sym new.0) ∙ ap (λ (q : Grant). next j q) (sym new.1),
        subst (λ (i : ℕ). IsGrantOf (record s { grants = s.grants ++ x ∷ [] }) (posted m g k) i p x) (sym new.0) (subst (λ (q : Grant). IsGrantOf (record s { grants = s.grants ++ x ∷ [] }) (posted m g k) m q x) (sym new.1) grant_new),
      )
      granted j p low at (inr st) =
          let y = is.granted j p low st at in
          (y.0, y.1 ∙ sym (posts.same j p low st), grant_old j p y.0 low st y.2)

      stands : (a : ℕ) (y : Granting) → IsDoubleword a → (y.standing ≡ Bound) ⊎ (y.standing ≡ Open) → IsSlotAt (record s { grants = s.grants ++ x ∷ [] }) a y.owner y.slot → (Contains s.grants y ⊎ Contains (x ∷ []) y)
          → (j : ℕ) × (p : Grant) × (j < harts_at_most) × Stands (row_of (posted m g k) j) p × IsOf (kept_at k) (place_of a) p × (next j p ≡ y.number)
          × IsGrantOf (record s { grants = s.grants ++ x ∷ [] }) (posted m g k) j p y
      stands a y word standing at (inl there) =
          let q = is.stands a y word there standing (slot_on (record s { grants = s.grants ++ x ∷ [] }) s refl a y.owner y.slot at) in
          (q.0, q.1, q.2, stands_still q.0 q.1 q.3, q.4, posts.same q.0 q.1 q.2 q.3 ∙ q.5, grant_old q.0 q.1 y q.2 q.3 q.6)
      stands a y word standing at (inr there) =
          let new : x ≡ y = only_in x y there in
          let slot : IsSlotAt s a x.owner x.slot = slot_on (record s { grants = s.grants ++ x ∷ [] }) s refl a x.owner x.slot (subst (λ (z : Granting). IsSlotAt (record s { grants = s.grants ++ x ∷ [] }) a z.owner z.slot) (sym new) at) in
          let same : a ≡ g.entry.slot = posts.place a word slot in
          subst (λ (z : Granting). (j : ℕ) × (p : Grant) × (j < harts_at_most) × Stands (row_of (posted m g k) j) p × IsOf (kept_at k) (place_of a) p × (next j p ≡ z.number) × IsGrantOf (record s { grants = s.grants ++ x ∷ [] }) (posted m g k) j p z) new
          (m, g, posts.low, inl pending_is, subst (λ (b : ℕ). IsOf (kept_at k) (place_of b) g) (sym same) of, posts.numbered, grant_new)

      one : (j n : ℕ) (p q : Grant) → j < harts_at_most → n < harts_at_most → ((j ≡ m) × (p ≡ g)) ⊎ Stands (row_of k j) p → ((n ≡ m) × (q ≡ g)) ⊎ Stands (row_of k n) q → next j p ≡ next n q → (j ≡ n) × (p ≡ q)
      one j n p q low_j low_n (inl a) (inl b) same = (a.0 ∙ sym b.0, a.1 ∙ sym b.1)
      one j n p q low_j low_n (inl a) (inr st) same =
          absurd (posts.fresh n q low_n st (sym (posts.same n q low_n st) ∙ sym same ∙ ap (λ (i : ℕ). next i p) a.0 ∙ ap (λ (r : Grant). next m r) a.1 ∙ posts.numbered))
      one j n p q low_j low_n (inr st) (inl b) same =
          absurd (posts.fresh j p low_j st (sym (posts.same j p low_j st) ∙ same ∙ ap (λ (i : ℕ). next i q) b.0 ∙ ap (λ (r : Grant). next m r) b.1 ∙ posts.numbered))
      one j n p q low_j low_n (inr st) (inr sq) same = is.one j n p q low_j low_n st sq (sym (posts.same j p low_j st) ∙ same ∙ posts.same n q low_n sq)
