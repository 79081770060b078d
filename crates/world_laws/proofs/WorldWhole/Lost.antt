-- Where a lost grant of a state comes from.
use Rattle.std.proofs.Common.{◌≡◌, ◌⊎◌, inl, inr, ⊎_elim, ℕ, suc, Bool, true, false, cond, List, [], ◌∷◌, ◌++◌, map, Some, refl, sym, ap, subst, ◌∙◌, append-nil}
use Rattle.std.specs.List.{Contains, slice_get}
use Rattle.std.proofs.lemmas.List.Elements.{Contains-append_cases}
use Rattle.std.proofs.lemmas.Option.{none-some}
use Rattle.history_event.specs.declared.event.CloseAnswer.TheVariants as closes
use Rattle.history_event.specs.declared.event.Event.{Event}
use Rattle.history_event.specs.declared.event.Event.TheVariants as events
use Rattle.history_event.specs.declared.event.OpenAnswer.TheVariants as opens
use Rattle.history_event.specs.declared.event.SymAnswer.TheVariants as syms
use Rattle.history_event.specs.declared.state.Granting.{Granting}
use Rattle.history_event.specs.declared.state.Standing.{Standing}
use Rattle.history_event.specs.declared.state.Standing.TheVariants as standings
use Rattle.history_state.specs.After.{after}
use Rattle.history_state.specs.State.{State}
use Rattle.history_state.specs.Grants.{is_open}
use Rattle.history_state.specs.Step.{die, initialise, loaded, lower, settled_as, step, unmap}
use Rattle.history_state.specs.Lemmas.History.{after_push, one_behind}
use Rattle.history_state.specs.Lemmas.Lists.{here, later, only_in}
use Rattle.history_state.specs.Lemmas.Tidy.{Settled, was_settled}
use Rattle.history_calls.specs.Laws.{hart_of}
use Rattle.hart_moves.specs.Harts.{HartState, Offered, Resolving}
use Rattle.world_turns.specs.World.{has_won, settled_by, settling, settling_event}

-- ---- a hart's event loses no grant

lost_step : (s : State) (e : Event) (h : ℕ) → hart_of e ≡ Some h → (g : Granting) (saw : ℕ) → Contains (step s e).grants g → g.standing ≡ standings.Lost saw → Contains s.grants g
unfolding loaded die lower unmap initialise
lost_step s (events.Open hart ask (opens.Done id root added ranges)) h of g saw there lost = there
lost_step s (events.Open hart ask opens.Absent) h of g saw there lost = there
lost_step s (events.Open hart ask (opens.Refused fault)) h of g saw there lost = there
lost_step s (events.Close hart handle (closes.Done set)) h of g saw there lost = there
lost_step s (events.Close hart handle (closes.Refused fault)) h of g saw there lost = there
lost_step s (events.Unmapped hart set) h of g saw there lost = there
lost_step s (events.Grant number hart owner slot choice value) h of g saw there lost = ⊎_elim
    (λ (old : Contains s.grants g). old)
    (λ (one : Contains (new ∷ []) g). absurd (let no : standings.Open ≡ standings.Lost saw = ap (λ (q : Granting). q.standing) (only_in new g one) ∙ lost in cc))
    (Contains-append_cases s.grants (new ∷ []) g there)
  where
    new : Granting
    new = record { number = number; hart = hart; owner = owner; slot = slot; choice = choice; value = value; standing = standings.Open }
lost_step s (events.Bound number) h of g saw there lost = absurd (none-some h of)
lost_step s (events.Lost number word) h of g saw there lost = absurd (none-some h of)
lost_step s (events.Unresolved hart owner slot choice) h of g saw there lost = there
lost_step s (events.Sym hart ask (syms.Found serial index value)) h of g saw there lost = there
lost_step s (events.Sym hart ask (syms.Refused fault)) h of g saw there lost = there
lost_step s (events.Tls hart owner address) h of g saw there lost = there
lost_step s (events.Init hart object) h of g saw there lost = there
lost_step s (events.Fini hart object) h of g saw there lost = there
lost_step s (events.Wrote hart bytes) h of g saw there lost = there
lost_step s (events.Told hart fault) h of g saw there lost = there
lost_step s (events.Ended hart reason) h of g saw there lost = there

pub lost_before : (past added : List Event) (h : ℕ) → ((e : Event) → Contains added e → hart_of e ≡ Some h) → (g : Granting) (saw : ℕ) → Contains (after (past ++ added)).grants g → g.standing ≡ standings.Lost saw
    → Contains (after past).grants g
lost_before past [] h of g saw there lost = subst (λ (es : List Event). Contains (after es).grants g) (append-nil past) there
lost_before past (e ∷ rest) h of g saw there lost =
    lost_step (after past) e h (of e (here e rest)) g saw
    (subst (λ (s : State). Contains s.grants g) (after_push past e)
    (lost_before (past ++ e ∷ []) rest h (λ d at. of d (later e rest d at)) g saw (subst (λ (es : List Event). Contains (after es).grants g) (sym (one_behind past e rest)) there) lost)) lost

-- ---- what is settled

-- a hart is done with the grant of this number, and its exchange found another word than the lazy one
pub record IsDone (harts : List HartState) (number saw : ℕ) : Type 0 where
  pub hart : ℕ
  pub state : HartState
  pub at : slice_get harts hart ≡ Some state
  pub offered : Offered
  pub is : state.resolving ≡ Resolving.to_settle offered saw
  pub other : has_won offered saw ≡ false
  pub numbered : number ≡ offered.number

-- what a lost grant was before its hart was done: lost, too, or it is lost now
pub record Came (past : List Event) (harts : List HartState) (g : Granting) (saw : ℕ) : Type 0 where
  pub was : Granting
  pub there : Contains (after past).grants was
  pub owner : was.owner ≡ g.owner
  pub slot : was.slot ≡ g.slot
  pub how : (was.standing ≡ standings.Lost saw) ⊎ IsDone harts was.number saw

-- one more hart in front, that nothing is settled of
further : (past : List Event) (b : HartState) (rest : List HartState) (g : Granting) (saw : ℕ) → Came past rest g saw → Came past (b ∷ rest) g saw
further past b rest g saw x = record {
  was = x.was;
  there = x.there;
  owner = x.owner;
  slot = x.slot;
  how = ⊎_elim (λ (lost : x.was.standing ≡ standings.Lost saw). inl lost) (λ (y : IsDone rest x.was.number saw). inr (done_behind b rest x.was.number saw y)) x.how;
}
  where
    done_behind : (b : HartState) (rest : List HartState) (number saw : ℕ) → IsDone rest number saw → IsDone (b ∷ rest) number saw
    done_behind b rest number saw y = record { hart = suc y.hart; state = y.state; at = y.at; offered = y.offered; is = y.is; other = y.other; numbered = y.numbered }

abbrev standing_of : Offered → ℕ → Standing
standing_of o found = cond (has_won o found) standings.Bound (standings.Lost found)

settled_state : (past : List Event) (o : Offered) (found : ℕ) → (after (past ++ settling_event o found ∷ [])).grants ≡ map (settled_as o.number (standing_of o found)) (after past).grants
settled_state past o found = ap (λ (s : State). s.grants) (after_push past (settling_event o found)) ∙ by (has_won o found)
  where
    by : (won : Bool) → (step (after past) (cond won (events.Bound o.number) (events.Lost o.number found))).grants ≡ map (settled_as o.number (cond won standings.Bound (standings.Lost found))) (after past).grants
    by true = refl
    by false = refl

-- a lost standing that a settling gives is that of a hart whose exchange found the word
lost_by : (o : Offered) (found saw : ℕ) → (won : Bool) → has_won o found ≡ won → cond won standings.Bound (standings.Lost found) ≡ standings.Lost saw → (won ≡ false) × (found ≡ saw)
lost_by o found saw true e is = absurd (let no : standings.Bound ≡ standings.Lost saw = is in cc)
lost_by o found saw false e is = (refl, (let same : standings.Lost found ≡ standings.Lost saw = is in cc))

module _ (past : List Event) (b : HartState) (rest : List HartState) (o : Offered) (found : ℕ) (is : b.resolving ≡ Resolving.to_settle o found) (g : Granting) (saw : ℕ) where
  before : (x : Came (past ++ settling_event o found ∷ []) rest g saw) → Came past (b ∷ rest) g saw
  before x = record { was = was.0; there = was.1; owner = same.owner ∙ x.owner; slot = same.slot ∙ x.slot; how = by x.how }
    where
      was : (q : Granting) × Contains (after past).grants q × Settled o.number (standing_of o found) q x.was
      was = was_settled o.number (standing_of o found) (after past).grants x.was (subst (λ (gs : List Granting). Contains gs x.was) (settled_state past o found) x.there)

      same : Settled o.number (standing_of o found) was.0 x.was
      same = was.2

      now : was.0.number ≡ o.number → x.was.standing ≡ standing_of o found → x.was.standing ≡ standings.Lost saw → IsDone (b ∷ rest) was.0.number saw
      now number standing lost =
          let y = lost_by o found saw (has_won o found) refl (sym standing ∙ lost) in
          record {
            hart = 0;
            state = b;
            at = refl;
            offered = o;
            is = is ∙ ap (λ (n : ℕ). Resolving.to_settle o n) y.1;
            other = ap (λ (n : ℕ). has_won o n) (sym y.1) ∙ y.0;
            numbered = number;
          }

      by : (x.was.standing ≡ standings.Lost saw) ⊎ IsDone rest x.was.number saw → (was.0.standing ≡ standings.Lost saw) ⊎ IsDone (b ∷ rest) was.0.number saw
      by (inl lost) = ⊎_elim
          (λ (kept : x.was.standing ≡ was.0.standing). inl (sym kept ∙ lost))
          (λ (new : (was.0.number ≡ o.number) × (is_open was.0 ≡ true) × (x.was.standing ≡ standing_of o found)). inr (now new.0 new.2 lost))
          same.how
      by (inr y) = inr (record { hart = suc y.hart; state = y.state; at = y.at; offered = y.offered; is = y.is; other = y.other; numbered = same.number_is ∙ y.numbered })

came_by : (past : List Event) (b : HartState) (rest : List HartState) (r : Resolving) → b.resolving ≡ r → (g : Granting) (saw : ℕ) → ((journal : List Event) → Contains (after (journal ++ settling rest)).grants g → Came journal rest g saw)
    → Contains (after (past ++ (settled_by r ++ settling rest))).grants g → Came past (b ∷ rest) g saw
came_by past b rest Resolving.idle is g saw more there = further past b rest g saw (more past there)
came_by past b rest (Resolving.to_exchange o) is g saw more there = further past b rest g saw (more past there)
came_by past b rest (Resolving.to_finish o found) is g saw more there = further past b rest g saw (more past there)
came_by past b rest (Resolving.to_settle o found) is g saw more there =
    before past b rest o found is g saw
    (more (past ++ settling_event o found ∷ []) (subst (λ (es : List Event). Contains (after es).grants g) (sym (one_behind past (settling_event o found) (settling rest))) there))

pub came : (past : List Event) (harts : List HartState) (g : Granting) (saw : ℕ) → g.standing ≡ standings.Lost saw → Contains (after (past ++ settling harts)).grants g → Came past harts g saw
came past [] g saw lost there =
    record { was = g; there = subst (λ (es : List Event). Contains (after es).grants g) (append-nil past) there; owner = refl; slot = refl; how = inl lost }
came past (b ∷ rest) g saw lost there = came_by past b rest b.resolving refl g saw (λ journal at. came journal rest g saw lost at) there
