-- Grants that are made and settled keep what leads where.
use Rattle.std.proofs.Common.{◌≡◌, ◌⊎◌, inl, inr, ⊎_elim, ℕ, ◌<◌, Bool, true, false, ◌&&◌, eqb, List, [], ◌∷◌, ◌++◌, map, refl, sym, ap, subst, ◌∙◌}
use Rattle.std.specs.Prelude.{if◌then◌else◌}
use Rattle.std.specs.List.{Contains}
use Rattle.std.proofs.lemmas.Bool.{and_parts}
use Rattle.std.proofs.lemmas.List.Elements.{Contains-push_cases}
use Rattle.ld_base.specs.declared.linking.Loaded.{Loaded}
use Rattle.history_event.specs.declared.state.Granting.{Granting}
use Rattle.history_event.specs.declared.state.Standing.{Standing}
use Rattle.history_event.specs.declared.state.Standing.TheVariants.{Open, Bound, Lost}
use Rattle.scope_rule.specs.declared.namespace.Namespace.{Namespace}
use Rattle.history_state.specs.Grants.{is_open, is_open_standing, target_of}
use Rattle.history_state.specs.Step.{settled_as}
use Rattle.history_state.specs.Lemmas.Lists.{from_map}
use Rattle.history_state.specs.Lemmas.Good.{ChoseBy, Core, Good, HeldBy, Inside, Safe, is_live}

-- ---- one grant more

pub good_granted : (c : Core) (g : Granting) → Good c → g.owner < c.next
    → ((ns : Namespace) (o : Loaded) (d : ℕ) → Inside c.namespaces ns o → o.serial ≡ g.owner → Contains (target_of g.choice) d → Safe c.closings ns o.serial d)
    → Good (record c { grants = c.grants ++ g ∷ [] })
good_granted c g good low safe = record {
  leads = λ ns o d inside leads. ⊎_elim
      (λ (h : Contains o.found d). good.leads ns o d inside (inl h))
      (λ (h : ChoseBy c.chosen o.serial d ⊎ HeldBy (c.grants ++ g ∷ []) o.serial d). ⊎_elim
      (λ (i : ChoseBy c.chosen o.serial d). good.leads ns o d inside (inr (inl i)))
      (λ (i : HeldBy (c.grants ++ g ∷ []) o.serial d). ⊎_elim
      (λ (old : Contains c.grants i.0). good.leads ns o d inside (inr (inr (i.0, old, i.2, i.3, i.4))))
      (λ (e : g ≡ i.0). safe ns o d inside (sym i.2 ∙ ap (λ (q : Granting). q.owner) (sym e)) (subst (λ (q : Granting). Contains (target_of q.choice) d) (sym e) i.4))
      (Contains-push_cases c.grants g i.0 i.1))
      h)
      leads;
  global = good.global;
  opens = good.opens;
  dies = good.dies;
  some = good.some;
  low = good.low;
  set_low = good.set_low;
  chosen_low = good.chosen_low;
  grants_low = λ q there. ⊎_elim
      (λ (old : Contains c.grants q). good.grants_low q old)
      (λ (e : g ≡ q). subst (λ (q : Granting). q.owner < c.next) e low)
      (Contains-push_cases c.grants g q there);
  one_home = good.one_home;
  one_id = good.one_id;
  positive = good.positive;
}

-- ---- grants that are settled

-- what a settled grant was: one of the same owner and choice, which was live if it is
pub record Was (g q : Granting) : Type 0 where
  pub owner : g.owner ≡ q.owner
  pub slot : g.slot ≡ q.slot
  pub choice : g.choice ≡ q.choice
  pub value : g.value ≡ q.value
  pub live : is_live q.standing ≡ true → is_live g.standing ≡ true

open_lives : (st : Standing) → is_open_standing st ≡ true → is_live st ≡ true
open_lives Open e = refl
open_lives Bound e = refl
open_lives (Lost saw) e = e

was_by : (number : ℕ) (standing : Standing) (g : Granting) (b : Bool) → (b ≡ true → is_live g.standing ≡ true) → Was g (if b then record g { standing = standing } else g)
was_by number standing g true lives = record { owner = refl; slot = refl; choice = refl; value = refl; live = λ h. lives refl }
was_by number standing g false lives = record { owner = refl; slot = refl; choice = refl; value = refl; live = λ h. h }

pub was : (number : ℕ) (standing : Standing) (g : Granting) → Was g (settled_as number standing g)
was number standing g = was_by number standing g (eqb g.number number && is_open g)
    (λ e. open_lives g.standing (and_parts (eqb g.number number) (is_open g) e).1)

-- each grant of the settled list was one of the old
pub was_there : (number : ℕ) (standing : Standing) (grants : List Granting) (q : Granting) → Contains (map (settled_as number standing) grants) q
    → (g : Granting) × Contains grants g × Was g q
was_there number standing grants q h =
    let at = from_map (settled_as number standing) grants q h in (at.0, at.1, subst (Was at.0) at.2 (was number standing at.0))

pub good_settled : (c : Core) (number : ℕ) (standing : Standing) → Good c → Good (record c { grants = map (settled_as number standing) c.grants })
good_settled c number standing good = record {
  leads = λ ns o d inside leads. ⊎_elim
      (λ (h : Contains o.found d). good.leads ns o d inside (inl h))
      (λ (h : ChoseBy c.chosen o.serial d ⊎ HeldBy (map (settled_as number standing) c.grants) o.serial d). ⊎_elim
      (λ (i : ChoseBy c.chosen o.serial d). good.leads ns o d inside (inr (inl i)))
      (λ (i : HeldBy (map (settled_as number standing) c.grants) o.serial d).
      let old = was_there number standing c.grants i.0 i.1 in
      good.leads ns o d inside (inr (inr (
        old.0,
        old.1,
        old.2.owner ∙ i.2,
        old.2.live i.3,
        subst (λ choice. Contains (target_of choice) d) (sym old.2.choice) i.4,
      ))))
      h)
      leads;
  global = good.global;
  opens = good.opens;
  dies = good.dies;
  some = good.some;
  low = good.low;
  set_low = good.set_low;
  chosen_low = good.chosen_low;
  grants_low = λ q there. let old = was_there number standing c.grants q there in subst (λ (n : ℕ). n < c.next) old.2.owner (good.grants_low old.0 old.1);
  one_home = good.one_home;
  one_id = good.one_id;
  positive = good.positive;
}
