-- What turns spend of a hart's fuel, and that they come to an end by it.
use Rattle.std.proofs.Common.{◌≡◌, ⊎_elim, inl, inr, ℕ, ◌+◌, ◌-◌, ◌<◌, ◌≤◌, Bool, true, false, cond, nat_lt, List, Option, Some, None, is_some, refl, sym, ap, subst, ◌∙◌, arith}
use Rattle.std.proofs.lemmas.Bool.{false≢true, ltb-true}
use Rattle.history_event.specs.declared.event.Event.{Event}
use Rattle.history_event.specs.declared.hart_end.HartEnd.{HartEnd}
use Rattle.word_rule.specs.declared.view.HartView.{HartView}
use Rattle.history_state.specs.After.{after}
use Rattle.history_state.specs.Setting.{Setting}
use Rattle.history_state.specs.State.{State, empty_state}
use Rattle.tls_blocks.specs.Blocks.{BlockTable}
use Rattle.hart_moves.specs.Due.{Due, by_phase, by_resolving, due, is_finalising}
use Rattle.hart_moves.specs.Harts.{HartState, Offered, Resolving}
use Rattle.hart_moves.specs.Laws.{TurnsCount}
use Rattle.hart_moves.specs.Moves.{Did, Moves, ended}
use Rattle.hart_turns.specs.Turns.{is_own}
use Rattle.hart_turns.specs.declared.turned.Turned.{Turned}
use Rattle.hart_turns.specs.declared.turned.Turned.TheVariants.{Again, Ends, Over}
use Rattle.hart_linker.specs.Between.{IsAtRow}
use Rattle.hart_linker.specs.Serving.{ServesTurn, is_asking}
use Rattle.hart_threads.specs.Binding.{BindsSlot}
use Rattle.hart_threads.specs.Keeping.{Answers, ReadsBlock, kept_in}
use Rattle.hart_threads.specs.Next.{HoldsSlot}
use Rattle.hart_threads.specs.Quiet.{TakesQuiet, end_of}
use Rattle.hart_threads.specs.Turns.{SpendsFuel, SpendsTurns}

-- ---- how many turns are left

held : Resolving → ℕ
held Resolving.idle = 0
held (Resolving.to_exchange o) = 1
held (Resolving.to_finish o found) = 1
held (Resolving.to_settle o found) = 0

left_at : Option HartEnd → HartState → ℕ
left_at (Some reason) b = 0
left_at None b = (b.fuel - b.turns) + (b.fuel - b.turns) + held b.resolving + 1

-- none when it has ended. A turn within the fuel counts twice, since it may be granted a slot in its last one, whose two turns come behind
pub turns_left : HartState → ℕ
turns_left b = left_at b.«end» b

held_few : (r : Resolving) → held r ≤ 1
unfolding held
held_few Resolving.idle = omega arith
held_few (Resolving.to_exchange o) = omega arith
held_few (Resolving.to_finish o found) = omega arith
held_few (Resolving.to_settle o found) = omega arith

held_one : (b : HartState) → HoldsSlot b → held b.resolving ≡ 1
unfolding held
held_one b (inl (o, is)) = ap held is
held_one b (inr (o, found, is)) = ap held is

held_none : (b : HartState) → (HoldsSlot b → ⊥) → held b.resolving ≡ 0
unfolding held
held_none b free = by b.resolving refl
  where
    by : (r : Resolving) → b.resolving ≡ r → held r ≡ 0
    by Resolving.idle is = refl
    by (Resolving.to_exchange o) is = absurd (free (inl (o, is)))
    by (Resolving.to_finish o found) is = absurd (free (inr (o, found, is)))
    by (Resolving.to_settle o found) is = refl

pub fewer : (b c : HartState) → b.«end» ≡ None → SpendsFuel b c → turns_left c < turns_left b
unfolding turns_left left_at
fewer b c runs x = subst (λ (e : Option HartEnd). left_at c.«end» c < left_at e b) (sym runs) (by c.«end» refl)
  where
    spent_so : SpendsTurns b c → c.«end» ≡ None → left_at None c < left_at None b
    spent_so (SpendsTurns.one left more) on = omega (arith, x.fuel, left, more, held_few c.resolving)
    spent_so (SpendsTurns.of_slot holds free more) on = omega (arith, x.fuel, more, held_one b holds, held_none c free)
    spent_so (SpendsTurns.last over) on = absurd (false≢true (sym (ap is_some on) ∙ over))

    by : (e : Option HartEnd) → c.«end» ≡ e → left_at e c < left_at None b
    by (Some reason) at = omega arith
    by None at = spent_so x.turns at

-- ---- a turn of a kind that takes from the fuel

module _ (p : Due → Bool) (nothing : p Due.nothing ≡ false) (exchange : (o : Offered) → p (Due.exchange o) ≡ false)
    (finish : (o : Offered) (found : ℕ) → p (Due.finish o found) ≡ false) (out : p Due.fuel_out ≡ false) (s : State) (b : HartState) where
  within : (t : Bool) (d : Due) → nat_lt b.turns b.fuel ≡ t → p (cond t d Due.fuel_out) ≡ true → b.turns < b.fuel
  within true d less is = ltb-true b.turns b.fuel less
  within false d less is = absurd (false≢true (sym out ∙ is))

  by_place : (r : Resolving) → p (by_resolving s b r) ≡ true → b.turns < b.fuel
  by_place Resolving.idle is = within (nat_lt b.turns b.fuel) (by_phase s b b.phase) refl is
  by_place (Resolving.to_exchange o) is = absurd (false≢true (sym (exchange o) ∙ is))
  by_place (Resolving.to_finish o found) is = absurd (false≢true (sym (finish o found) ∙ is))
  by_place (Resolving.to_settle o found) is = within (nat_lt b.turns b.fuel) (by_phase s b b.phase) refl is

  by_end : (over : Option HartEnd) → p (elim over [ Some reason ↦ Due.nothing | None ↦ by_resolving s b b.resolving ]) ≡ true → b.turns < b.fuel
  by_end (Some reason) is = absurd (false≢true (sym nothing ∙ is))
  by_end None is = by_place b.resolving is

  pub in_fuel : p (due s b) ≡ true → b.turns < b.fuel
  unfolding due
  in_fuel is = by_end b.«end» is

asked_in_fuel : (b : HartState) → is_asking (due empty_state b) ≡ true → b.turns < b.fuel
asked_in_fuel b = in_fuel is_asking refl (λ o. refl) (λ o found. refl) refl empty_state b

last_in_fuel : (b : HartState) → is_finalising (due empty_state b) ≡ true → b.turns < b.fuel
last_in_fuel b = in_fuel is_finalising refl (λ o. refl) (λ o found. refl) refl empty_state b

own_in_fuel : (b : HartState) → is_own (due empty_state b) ≡ true → b.turns < b.fuel
own_in_fuel b = in_fuel is_own refl (λ o. refl) (λ o found. refl) refl empty_state b

-- ---- what each turn spends

pub ending_spends : (b e c : HartState) (reason : HartEnd) → e.fuel ≡ b.fuel → c ≡ ended reason e → SpendsFuel b c
ending_spends b e c reason same left = record {
  fuel = ap (λ (x : HartState). x.fuel) left ∙ same;
  turns = SpendsTurns.last (ap (λ (x : HartState). is_some x.«end») left);
}

module _ (count : TurnsCount) where
  counted : (w : Setting) (past : List Event) (h : ℕ) (b c : HartState) (did : Did) → b.turns < b.fuel → Moves w past h b did c → SpendsFuel b c
  counted w past h b c did left moves =
      let k = count w past h b c did moves in
      record { fuel = k.0; turns = ⊎_elim (λ more. SpendsTurns.one left more) (λ out. SpendsTurns.last (ap is_some out.ends)) k.1 }

  serving : (w : Setting) (before now : HartView) (b c : HartState) → b.turns < b.fuel → ServesTurn w before now b c → SpendsFuel b c
  serving w before now b c left x = counted w _ before.number b c x.turn.did left x.turns.moves

  pub serve_spends : (w : Setting) (before now : HartView) (b c : HartState) → is_asking (due empty_state b) ≡ true → ServesTurn w before now b c → SpendsFuel b c
  serve_spends w before now b c asks = serving w before now b c (asked_in_fuel b asks)

  pub last_spends : (w : Setting) (before now : HartView) (b c : HartState) → is_finalising (due empty_state b) ≡ true → ServesTurn w before now b c → SpendsFuel b c
  last_spends w before now b c last = serving w before now b c (last_in_fuel b last)

  -- a turn that asks nothing of the linker, and doesn't end its hart
  pub quiet_spends : (w : Setting) (before now : HartView) (b c : HartState) (result : Option Turned) → is_own (due empty_state b) ≡ true
      → ((s : State) → TakesQuiet before now (due s b) b c result) → end_of result ≡ None → SpendsFuel b c
  quiet_spends w before now b c None own quiet none = absurd (false≢true (sym (quiet empty_state).0 ∙ own))
  quiet_spends w before now b c (Some Over) own quiet none =
      let x = (quiet (after before.heard)).0 in counted w before.heard before.number b c (Did.quiet x.items) (own_in_fuel b own) (x.turn w before.heard before.number)
  quiet_spends w before now b c (Some (Again shown)) own quiet none =
      let x = (quiet (after before.heard)).0 in counted w before.heard before.number b c (Did.quiet x.items) (own_in_fuel b own) (x.turn w before.heard before.number)
  quiet_spends w before now b c (Some (Ends reason)) own quiet none = absurd (let no : Some reason ≡ None = none in cc)

  -- one that asks for a block, which the hart doesn't keep
  pub asked_spends : (w : Setting) (before mid now : HartView) (b a c : HartState) → b.turns < b.fuel → a ≡ b → ServesTurn w mid now a c → SpendsFuel b c
  asked_spends w before mid now b a c left same y = serving w mid now b c left (subst (λ (z : HartState). ServesTurn w mid now z c) same y)

-- one whose block it keeps
pub kept_spends : (before now : HartView) (b c : HartState) (d : BlockTable) (number offset : ℕ) → b.turns < b.fuel → ReadsBlock before now d number offset b c true
    → SpendsFuel b c
kept_spends before now b c d number offset left x = by (kept_in d x.generation number) refl
  where
    by : (k : Option ℕ) → kept_in d x.generation number ≡ k → SpendsFuel b c
    by None at = absurd (let no = subst (λ o. Answers offset b c o true) at x.answers in false≢true (sym no.0))
    by (Some block) at =
        let is = (subst (λ o. Answers offset b c o true) at x.answers).1 in
        record { fuel = ap (λ (e : HartState). e.fuel) is; turns = SpendsTurns.one left (ap (λ (e : HartState). e.turns) is) }

-- those of a slot
pub bind_spends : (before now : HartView) (b c : HartState) → IsAtRow before b.resolving → HoldsSlot b → BindsSlot before now b c → SpendsFuel b c
bind_spends before now b c row (inl (o, at)) x =
    let is = x.hart o at in
    record {
      fuel = ap (λ (e : HartState). e.fuel) is;
      turns = SpendsTurns.of_slot (inl (o, at)) (settled (ap (λ (e : HartState). e.resolving) is)) (twice (ap (λ (e : HartState). e.turns) is));
    }
  where
    twice : c.turns ≡ (b.turns + 1) + 1 → c.turns ≡ b.turns + 2
    twice is = omega (arith, is)

    settled : {o : Offered} {found : ℕ} → c.resolving ≡ Resolving.to_settle o found → HoldsSlot c → ⊥
    settled {o} {found} is (inl (p, at)) = let no : Resolving.to_settle o found ≡ Resolving.to_exchange p = sym is ∙ at in cc
    settled {o} {found} is (inr (p, word, at)) = let no : Resolving.to_settle o found ≡ Resolving.to_finish p word = sym is ∙ at in cc
bind_spends before now b c row (inr (o, found, at)) x = absurd (subst (IsAtRow before) at row)
