-- A grant is settled: the view stays that of the state.
use Rattle.std.proofs.Common.{◌≡◌, ◌≢◌, ◌⊎◌, ⊎_elim, inl, inr, ℕ, ◌<◌, ◌&&◌, Bool, true, eqb, ne_eqb, if◌then◌else◌, List, [], ◌∷◌, ◌++◌, length, map, Option, Some, None, refl, sym, ap, subst, ◌∙◌}
use mathlib.Core.Logic.{dite}
use native.Mathlib.Decide.{ℕ_discrete}
use Rattle.std.specs.List.{Contains}
use Rattle.std.proofs.lemmas.Bool.{and_from, eq-eqb}
use Rattle.std.proofs.lemmas.List.Elements.{Contains-append_cases, Contains-append_left, Contains-append_right}
use Rattle.ld_base.specs.declared.linking.Role.{Role}
use Rattle.ld_base.specs.declared.linking.Role.TheVariants.{Ro, Rx, Slot}
use Rattle.history_event.specs.declared.state.Granting.{Granting}
use Rattle.history_event.specs.declared.state.Standing.{Standing}
use Rattle.history_event.specs.declared.state.Standing.TheVariants.{Bound, Lost, Open}
use Rattle.word_rule.specs.declared.entry.Grant.{Grant}
use Rattle.word_rule.specs.declared.view.Fate.{Fate}
use Rattle.word_rule.specs.declared.view.Fate.TheVariants.{Won as FateWon, Lost as FateLost}
use Rattle.word_rule.specs.declared.view.KeeperView.{KeeperView}
use Rattle.word_rule.specs.declared.view.Row.{Row}
use Rattle.word_rule.specs.declared.view.Settled.{Settled}
use Rattle.word_rule.specs.Allowed.{IsOf, IsWon, Stands}
use Rattle.word_rule.specs.KeeperSteps.{settled_as}
use Rattle.word_rule.specs.Layout.{harts_at_most, place_of}
use Rattle.word_rule.specs.Lemmas.Heeding.{row_else, row_here}
use Rattle.word_rule.specs.Views.{IsLong, kept_at, row_of}
use Rattle.history_state.specs.Lemmas.Lists.{from_map, here, in_map, only_in}
use Rattle.history_state.specs.Lemmas.Tidy.{Tidy, one_number}
use Rattle.history_state.specs.Memory.{role_at, first_word_at}
use Rattle.history_state.specs.Grants.{is_open}
use Rattle.history_state.specs.State.{State}
use Rattle.history_state.specs.Step.{settle, settled_as as settled_in}
use Rattle.history_state.specs.Storage.{tls_block, tp_of}
use Rattle.history_memory.specs.Holds.{IsSlotAt}
use Rattle.history_memory.specs.Memory.{IsDoubleword}
use Rattle.word_holds.specs.Shared.{IsGrantOf, IsOfState}
use Rattle.kept_words.specs.Staying.{Settles, fated_in}
use Rattle.kept_words.proofs.Staying.{slot_on}

role_stays : (number : ℕ) (z : Standing) (s : State) (a : ℕ) → role_at (settle number z s) a ≡ role_at s a
unfolding role_at
role_stays number z s a = refl

word_stays : (number : ℕ) (z : Standing) (s : State) (a : ℕ) → first_word_at (settle number z s) a ≡ first_word_at s a
unfolding first_word_at tls_block tp_of
word_stays number z s a = refl

open_is : (x : Granting) → x.standing ≡ Open → is_open x ≡ true
open_is x e = ap (λ (z : Standing). is_open (record x { standing = z })) e

not_open : (fate : Fate) (z : Standing) → Settles fate z → z ≡ Open → ⊥
not_open fate z Settles.as_bound e = let no : Bound ≡ Open = e in cc
not_open fate z (Settles.as_lost saw) e = let no : Lost saw ≡ Open = e in cc

module _ (s : State) (tidy : Tidy s.grants) (k : KeeperView) (number : ℕ → Grant → ℕ) (is : IsOfState s k number) (long : IsLong k) (h : ℕ) (low : h < harts_at_most) (g : Grant)
    (pending : (row_of k h).pending ≡ Some g) (of : IsOf (kept_at k) (place_of g.entry.slot) g) (fate : Fate) (z : Standing) (settles : Settles fate z) where
  x0 : (x : Granting) × (x.number ≡ number h g) × IsGrantOf s k h g x
  x0 = is.granted h g low (inl pending) of

  was_open : x0.0.standing ≡ Open
  was_open = x0.2.open_yet pending

  -- ---- rows

  inside : h < length k.rows
  inside = subst (λ (m : ℕ). h < m) (sym long.1) low

  row_is : row_of (fated_in fate h k) h ≡ settled_as fate (Some g) (row_of k h)
  row_is = row_here k h (settled_as fate (row_of k h).pending (row_of k h)) inside ∙ ap (λ (p : Option Grant). settled_as fate p (row_of k h)) pending

  row_other : (j : ℕ) → j ≢ h → row_of (fated_in fate h k) j ≡ row_of k j
  row_other j apart = row_else k h (settled_as fate (row_of k h).pending (row_of k h)) inside j apart

  not_pending : (p : Grant) → (row_of (fated_in fate h k) h).pending ≡ Some p → ⊥
  not_pending p e = let no : None ≡ Some p = sym (ap (λ (r : Row). r.pending) row_is) ∙ e in cc

  settled_is : (row_of (fated_in fate h k) h).settled ≡ (row_of k h).settled ++ record { grant = g; fate = fate } ∷ []
  settled_is = ap (λ (r : Row). r.settled) row_is

  not_won : IsWon (row_of k h) g → ⊥
  not_won done = let no : Bound ≡ Open = sym (x0.2.bound done) ∙ was_open in cc

  -- a grant that is known as won was so, or it is this one
  won_case : (p : Grant) → IsWon (row_of (fated_in fate h k) h) p → IsWon (row_of k h) p ⊎ ((p ≡ g) × (z ≡ Bound))
  won_case p done = ⊎_elim
      (λ (old : IsWon (row_of k h) p). inl old)
      (λ (new : Contains (record { grant = g; fate = fate } ∷ []) (record { grant = p; fate = FateWon })). inr (fresh fate z settles (only_in (record { grant = g; fate = fate }) (record { grant = p; fate = FateWon }) new)))
      (Contains-append_cases (row_of k h).settled (record { grant = g; fate = fate } ∷ []) (record { grant = p; fate = FateWon }) (subst (λ (all : List Settled). Contains all (record { grant = p; fate = FateWon })) settled_is done))
    where
      fresh : (f : Fate) (y : Standing) → Settles f y → ◌≡◌ {A = Settled} (record { grant = g; fate = f }) (record { grant = p; fate = FateWon }) → (p ≡ g) × (y ≡ Bound)
      fresh f y Settles.as_bound e = (sym (ap (λ (q : Settled). q.grant) e), refl)
      fresh f y (Settles.as_lost saw) e = let no : FateLost ≡ FateWon = ap (λ (q : Settled). q.fate) e in absurd (cc)

  won_on : (p : Grant) → IsWon (row_of k h) p → IsWon (row_of (fated_in fate h k) h) p
  won_on p done = subst (λ (all : List Settled). Contains all (record { grant = p; fate = FateWon })) (sym settled_is)
      (Contains-append_left (row_of k h).settled (record { grant = g; fate = fate } ∷ []) (record { grant = p; fate = FateWon }) done)

  is_won : z ≡ Bound → IsWon (row_of (fated_in fate h k) h) g
  is_won e = subst (λ (all : List Settled). Contains all (record { grant = g; fate = FateWon })) (sym settled_is)
      (Contains-append_right (row_of k h).settled (record { grant = g; fate = fate } ∷ []) (record { grant = g; fate = FateWon }) (fresh fate z settles e))
    where
      fresh : (f : Fate) (y : Standing) → Settles f y → y ≡ Bound → Contains {X = Settled} (record { grant = g; fate = f } ∷ []) (record { grant = g; fate = FateWon })
      fresh f y Settles.as_bound e = here (record { grant = g; fate = FateWon }) []
      fresh f y (Settles.as_lost saw) e = let no : Lost saw ≡ Bound = e in absurd (cc)

  pub stood : (j : ℕ) (p : Grant) → Stands (row_of (fated_in fate h k) j) p → Stands (row_of k j) p
  stood j p st = dite (ℕ_discrete j h)
      (λ (same : j ≡ h). subst (λ (i : ℕ). Stands (row_of k i) p) (sym same) (own (subst (λ (i : ℕ). Stands (row_of (fated_in fate h k) i) p) same st)))
      (λ (apart : j ≢ h). subst (λ (r : Row). Stands r p) (row_other j apart) st)
    where
      own : Stands (row_of (fated_in fate h k) h) p → Stands (row_of k h) p
      own st = ⊎_elim
          (λ (waits : (row_of (fated_in fate h k) h).pending ≡ Some p). absurd (not_pending p waits))
          (λ (done : IsWon (row_of (fated_in fate h k) h) p).
          ⊎_elim (λ (old : IsWon (row_of k h) p). inr old) (λ (new : (p ≡ g) × (z ≡ Bound)). inl (pending ∙ ap (λ (q : Grant). Some q) (sym new.0))) (won_case p done))
          st

  -- another grant stands still
  stands_still : (j : ℕ) (p : Grant) → Stands (row_of k j) p → ((j ≡ h) × (p ≡ g) → ⊥) → Stands (row_of (fated_in fate h k) j) p
  stands_still j p st other = dite (ℕ_discrete j h)
      (λ (same : j ≡ h). subst (λ (i : ℕ). Stands (row_of (fated_in fate h k) i) p) (sym same) (own same (subst (λ (i : ℕ). Stands (row_of k i) p) same st)))
      (λ (apart : j ≢ h). subst (λ (r : Row). Stands r p) (sym (row_other j apart)) st)
    where
      own : j ≡ h → Stands (row_of k h) p → Stands (row_of (fated_in fate h k) h) p
      own same st = ⊎_elim
          (λ (waits : (row_of k h).pending ≡ Some p). absurd (other (same, let both : Some p ≡ Some g = sym waits ∙ pending in cc)))
          (λ (done : IsWon (row_of k h) p). inr (won_on p done))
          st

  -- ---- grants of the state

  standing_open : (x : Granting) → Contains s.grants x → x.number ≡ number h g → x.standing ≡ Open
  standing_open x there same = ap (λ (q : Granting). q.standing) (one_number s.grants tidy x x0.0 there x0.2.there (same ∙ sym x0.1)) ∙ was_open

  hit : (x : Granting) → Contains s.grants x → x.number ≡ number h g → settled_in (number h g) z x ≡ record x { standing = z }
  hit x there same = ap (λ (b : Bool). if b then record x { standing = z } else x) (and_from (eqb x.number (number h g)) (is_open x) (eq-eqb x.number (number h g) same) (open_is x (standing_open x there same)))

  miss : (x : Granting) → x.number ≢ number h g → settled_in (number h g) z x ≡ x
  miss x other = ap (λ (b : Bool). if b && is_open x then record x { standing = z } else x) (ne_eqb x.number (number h g) other)

  slot_after : (a owner slot : ℕ) → IsSlotAt s a owner slot → IsSlotAt (settle (number h g) z s) a owner slot
  slot_after a owner slot at = slot_on s (settle (number h g) z s) refl a owner slot at

  -- the settled grant's
  grant_hit : (j : ℕ) (p : Grant) (x : Granting) → j ≡ h → p ≡ g → x.number ≡ number h g → IsGrantOf s k j p x → IsGrantOf (settle (number h g) z s) (fated_in fate h k) j p (record x { standing = z })
  grant_hit j p x same_hart same_grant same_number y = record {
    there = subst (λ (q : Granting). Contains (map (settled_in (number h g) z) s.grants) q) (hit x y.there same_number) (in_map (settled_in (number h g) z) s.grants x y.there);
    value = y.value;
    slot = slot_after p.entry.slot x.owner x.slot y.slot;
    open_yet = λ waits. absurd (not_pending p (subst (λ (i : ℕ). (row_of (fated_in fate h k) i).pending ≡ Some p) same_hart waits));
    bound = λ done. ⊎_elim
        (λ (old : IsWon (row_of k h) p). absurd (not_won (subst (IsWon (row_of k h)) same_grant old)))
        (λ (new : (p ≡ g) × (z ≡ Bound)). new.1)
        (won_case p (subst (λ (i : ℕ). IsWon (row_of (fated_in fate h k) i) p) same_hart done));
  }

  -- another's
  grant_miss : (j : ℕ) (p : Grant) (x : Granting) → x.number ≢ number h g → number j p ≡ x.number → IsGrantOf s k j p x → IsGrantOf (settle (number h g) z s) (fated_in fate h k) j p x
  grant_miss j p x other numbered y = record {
    there = subst (λ (q : Granting). Contains (map (settled_in (number h g) z) s.grants) q) (miss x other) (in_map (settled_in (number h g) z) s.grants x y.there);
    value = y.value;
    slot = slot_after p.entry.slot x.owner x.slot y.slot;
    open_yet = λ waits. dite (ℕ_discrete j h)
        (λ (same : j ≡ h). absurd (not_pending p (subst (λ (i : ℕ). (row_of (fated_in fate h k) i).pending ≡ Some p) same waits)))
        (λ (apart : j ≢ h). y.open_yet (sym (ap (λ (r : Row). r.pending) (row_other j apart)) ∙ waits));
    bound = λ done. dite (ℕ_discrete j h)
        (λ (same : j ≡ h). ⊎_elim
        (λ (old : IsWon (row_of k h) p). y.bound (subst (λ (i : ℕ). IsWon (row_of k i) p) (sym same) old))
        (λ (new : (p ≡ g) × (z ≡ Bound)). absurd (other (sym numbered ∙ ap (λ (i : ℕ). number i p) same ∙ ap (λ (q : Grant). number h q) new.0)))
        (won_case p (subst (λ (i : ℕ). IsWon (row_of (fated_in fate h k) i) p) same done)))
        (λ (apart : j ≢ h). y.bound (subst (λ (r : Row). IsWon r p) (row_other j apart) done));
  }

  pub settled_stays : IsOfState (settle (number h g) z s) (fated_in fate h k) number
  settled_stays = record {
    role = λ a word. is.role a word ∙ sym (role_stays (number h g) z s a);
    word = λ a word roles. is.word a word (subst (λ (r : Role). (r ≡ Ro) ⊎ (r ≡ Rx) ⊎ (r ≡ Slot)) (role_stays (number h g) z s a) roles) ∙ sym (word_stays (number h g) z s a);
    lazy = λ a word role. is.lazy a word (sym (role_stays (number h g) z s a) ∙ role);
    granted = granted;
    stands = stands;
    one = λ m n p q low_m low_n st_p st_q same. is.one m n p q low_m low_n (stood m p st_p) (stood n q st_q) same;
  }
    where
      granted : (m : ℕ) (p : Grant) → m < harts_at_most → Stands (row_of (fated_in fate h k) m) p → IsOf (kept_at k) (place_of p.entry.slot) p
          → (x : Granting) × (x.number ≡ number m p) × IsGrantOf (settle (number h g) z s) (fated_in fate h k) m p x
      granted m p low_m st at =
          let y = is.granted m p low_m (stood m p st) at in
          dite (ℕ_discrete y.0.number (number h g))
          (λ (same : y.0.number ≡ number h g).
          let one = is.one m h p g low_m low (stood m p st) (inl pending) (sym y.1 ∙ same) in
          (record y.0 { standing = z }, y.1, grant_hit m p y.0 one.0 one.1 same y.2))
          (λ (other : y.0.number ≢ number h g). (y.0, y.1, grant_miss m p y.0 other (sym y.1) y.2))

      stands : (a : ℕ) (x : Granting) → IsDoubleword a → Contains (map (settled_in (number h g) z) s.grants) x → (x.standing ≡ Bound) ⊎ (x.standing ≡ Open)
          → IsSlotAt (settle (number h g) z s) a x.owner x.slot
          → (m : ℕ) × (p : Grant) × (m < harts_at_most) × Stands (row_of (fated_in fate h k) m) p × IsOf (kept_at k) (place_of a) p × (number m p ≡ x.number)
          × IsGrantOf (settle (number h g) z s) (fated_in fate h k) m p x
      stands a x word there standing at =
          let from = from_map (settled_in (number h g) z) s.grants x there in
          dite (ℕ_discrete from.0.number (number h g))
          (λ (same : from.0.number ≡ number h g). was_hit from.0 from.1 (sym (hit from.0 from.1 same) ∙ from.2) same)
          (λ (other : from.0.number ≢ number h g). was_miss from.0 from.1 (sym (miss from.0 other) ∙ from.2) other)
        where
          was_hit : (y : Granting) → Contains s.grants y → record y { standing = z } ≡ x → y.number ≡ number h g
              → (m : ℕ) × (p : Grant) × (m < harts_at_most) × Stands (row_of (fated_in fate h k) m) p × IsOf (kept_at k) (place_of a) p × (number m p ≡ x.number)
              × IsGrantOf (settle (number h g) z s) (fated_in fate h k) m p x
          was_hit y there_y is_x same =
              let slot_y : IsSlotAt s a y.owner y.slot = slot_on (settle (number h g) z s) s refl a y.owner y.slot (subst (λ (q : Granting). IsSlotAt (settle (number h g) z s) a q.owner q.slot) (sym is_x) at) in
              let q = is.stands a y word there_y (inr (standing_open y there_y same)) slot_y in
              let one = is.one q.0 h q.1 g q.2 low q.3 (inl pending) (q.5 ∙ same) in
              let bound : z ≡ Bound = ⊎_elim (λ (b : x.standing ≡ Bound). ap (λ (v : Granting). v.standing) is_x ∙ b) (λ (o : x.standing ≡ Open). absurd (not_open fate z settles (ap (λ (v : Granting). v.standing) is_x ∙ o))) standing in
              subst (λ (v : Granting). (m : ℕ) × (p : Grant) × (m < harts_at_most) × Stands (row_of (fated_in fate h k) m) p × IsOf (kept_at k) (place_of a) p × (number m p ≡ v.number) × IsGrantOf (settle (number h g) z s) (fated_in fate h k) m p v) is_x (
                h,
                g,
                low,
                inr (is_won bound),
                subst (λ (p : Grant). IsOf (kept_at k) (place_of a) p) one.1 q.4,
                sym same,
                grant_hit h g y refl refl same (subst (λ (p : Grant). IsGrantOf s k h p y) one.1 (subst (λ (i : ℕ). IsGrantOf s k i q.1 y) one.0 q.6)),
              )

          was_miss : (y : Granting) → Contains s.grants y → y ≡ x → y.number ≢ number h g
              → (m : ℕ) × (p : Grant) × (m < harts_at_most) × Stands (row_of (fated_in fate h k) m) p × IsOf (kept_at k) (place_of a) p × (number m p ≡ x.number)
              × IsGrantOf (settle (number h g) z s) (fated_in fate h k) m p x
          was_miss y there_y is_x other =
              let slot_y : IsSlotAt s a y.owner y.slot = slot_on (settle (number h g) z s) s refl a y.owner y.slot (subst (λ (q : Granting). IsSlotAt (settle (number h g) z s) a q.owner q.slot) (sym is_x) at) in
              let q = is.stands a y word there_y (subst (λ (v : Granting). (v.standing ≡ Bound) ⊎ (v.standing ≡ Open)) (sym is_x) standing) slot_y in
              let apart : (q.0 ≡ h) × (q.1 ≡ g) → ⊥ = λ both. other (sym q.5 ∙ ap (λ (i : ℕ). number i q.1) both.0 ∙ ap (λ (p : Grant). number h p) both.1) in
              subst (λ (v : Granting). (m : ℕ) × (p : Grant) × (m < harts_at_most) × Stands (row_of (fated_in fate h k) m) p × IsOf (kept_at k) (place_of a) p × (number m p ≡ v.number) × IsGrantOf (settle (number h g) z s) (fated_in fate h k) m p v) is_x
              (q.0, q.1, q.2, stands_still q.0 q.1 q.3 apart, q.4, q.5, grant_miss q.0 q.1 y other q.5 q.6)
