-- An exchange and the end of its offer, as turns behind all events that their hart knows of.
use Rattle.std.proofs.Common.{◌≡◌, ℕ, ◌≤◌, List, [], ◌∷◌, ◌++◌, Some, None, refl, sym, ap, subst, ◌∙◌, append-nil}
use Rattle.history_event.specs.declared.event.Event.{Event}
use Rattle.word_rule.specs.declared.entry.Grant.{Grant}
use Rattle.word_rule.specs.declared.view.HartView.{HartView}
use Rattle.word_rule.specs.declared.view.TrailItem.TheVariants.{Done, Exchanged}
use Rattle.slot_bind.specs.Grants.{exchange_of, exchanged as exchanged_view, found_by}
use Rattle.slot_bind.specs.Rows.{IsRowOf, full_offer, offer_or}
use Rattle.history_state.specs.After.{after}
use Rattle.history_state.specs.Setting.{Setting}
use Rattle.history_state.specs.State.{State}
use Rattle.hart_moves.specs.Due.{Due, by_resolving, due}
use Rattle.hart_moves.specs.Harts.{HartState, Offered, Resolving}
use Rattle.hart_moves.specs.Moves.{Did, Moves, MovesAs}
use Rattle.hart_trails.specs.Entries.{IsExchange}
use Rattle.hart_trails.specs.Trails.{Leaves}
use Rattle.hart_moves.specs.Trails.{event_from}
use Rattle.hart_moves.specs.TurnEvents.Appends.{has_finals}
use Rattle.hart_fits.specs.Finals.{OwnMovesFit}
use Rattle.hart_fits.specs.Fits.{HartFits}
use Rattle.history_state.specs.Lemmas.History.{legal_is_lawful}
use Rattle.tls_blocks.specs.Blocks.{BlockTable}
use Rattle.word_rule.specs.declared.entry.Exchange.{Exchange}
use Rattle.word_rule.specs.Views.{known_of}
use Rattle.hart_linker.specs.Between.{HasGrant, IsAtRow, IsBetweenTurns}
use Rattle.hart_threads.specs.Binding.{BindsSlot, done_to, exchanged_to}
use Rattle.hart_threads.specs.Turns.{TakesTurn}
use Rattle.hart_threads.proofs.Standing.{SameKnown, blocks_stay, current_stays, heard_stays, known_back, reached_stays}
use Rattle.hart_threads.proofs.Stepping.{turn_here}

due_by : (s : State) (b : HartState) (r : Resolving) → b.«end» ≡ None → b.resolving ≡ r → due s b ≡ by_resolving s b r
unfolding due
due_by s b r runs is = cc

-- a row that was read in full is one grant's
one_row : (g held : Grant) → IsRowOf (full_offer held) g → g ≡ held
one_row g held is =
    let mark = is.entry.mark in
    let number = is.entry.number held.entry.number refl in
    let slot = is.entry.slot held.entry.slot refl in
    let value = is.entry.value held.entry.value refl in
    let generation = is.entry.generation held.entry.generation refl in
    let lazy = is.lazy held.lazy refl in
    λ i. record { entry = record { mark = mark i; number = number i; slot = slot i; value = value i; generation = generation i }; lazy = lazy i }

pub same_grant : (o : Offered) (before now : HartView) (b c : HartState) (x : BindsSlot before now b c) (held : HasGrant before o) → x.grant ≡ held.grant
same_grant o before now b c x held = one_row x.grant held.grant (subst (λ p. IsRowOf p x.grant) (ap offer_or held.read) x.row)

-- the two moves
pub exchange_moves : (w : Setting) (h : ℕ) (heard : List Event) (o : Offered) (found : ℕ) (b : HartState) → b.«end» ≡ None → b.resolving ≡ Resolving.to_exchange o
    → Moves w heard h b (Did.exchanges o found) (exchanged_to o found b)
exchange_moves w h heard o found b runs is =
    subst (λ (d : Due). MovesAs w heard h b d (Did.exchanges o found) (exchanged_to o found b)) (sym (due_by (after heard) b (Resolving.to_exchange o) runs is))
    (record { found = found; is = refl; leaves = refl })

pub finish_moves : (w : Setting) (h : ℕ) (heard : List Event) (o : Offered) (found : ℕ) (b : HartState) → b.«end» ≡ None
    → Moves w heard h (exchanged_to o found b) Did.finishes (done_to o found (exchanged_to o found b))
finish_moves w h heard o found b runs =
    subst (λ (d : Due). MovesAs w heard h (exchanged_to o found b) d Did.finishes (done_to o found (exchanged_to o found b)))
    (sym (due_by (after heard) (exchanged_to o found b) (Resolving.to_finish o found) runs refl))
    (record { is = refl; leaves = refl })

-- between them the hart has the exchange in its trail
pub exchange_turn : (w : Setting) (o : Offered) (before now : HartView) (b c : HartState) → b.«end» ≡ None → b.resolving ≡ Resolving.to_exchange o
    → HasGrant before o → (x : BindsSlot before now b c)
    → TakesTurn w before (exchanged_view (exchange_of x.grant x.bound) before) b (exchanged_to o (found_by x.grant x.bound) b) (Exchanged (exchange_of x.grant x.bound) ∷ [])
exchange_turn w o before now b c runs is held x =
    let found : ℕ = found_by x.grant x.bound in
    turn_here w before (exchanged_view (exchange_of x.grant x.bound) before) b (exchanged_to o found b) (Exchanged (exchange_of x.grant x.bound) ∷ []) (Did.exchanges o found) refl refl refl
    (exchange_moves w before.number before.heard o found b runs is)
    (Leaves.exchanges o found (exchange_of x.grant x.bound)
    (subst (λ (g : Grant). IsExchange before.heard (event_from 1 before.heard o.number) o found (record { grant = g; found = found })) (sym (same_grant o before now b c x held)) (held.is found)))

pub finish_turn : (w : Setting) (o : Offered) (before now : HartView) (b c : HartState) → b.«end» ≡ None → b.resolving ≡ Resolving.to_exchange o
    → (x : BindsSlot before now b c)
    → TakesTurn w (exchanged_view (exchange_of x.grant x.bound) before) now (exchanged_to o (found_by x.grant x.bound) b) c (Done ∷ [])
finish_turn w o before now b c runs is x =
    let found : ℕ = found_by x.grant x.bound in
    turn_here w (exchanged_view (exchange_of x.grant x.bound) before) now (exchanged_to o found b) c (Done ∷ []) Did.finishes (ap (λ (h : HartView). h.number) x.view) (ap (λ (h : HartView). h.heard) x.view) refl
    (subst (λ (e : HartState). Moves w before.heard before.number (exchanged_to o found b) Did.finishes e) (sym (x.hart o is)) (finish_moves w before.number before.heard o found b runs))
    Leaves.finishes

-- the hart is between two turns again
pub bound_stands : OwnMovesFit → (w : Setting) (begun : List Event) (o : Offered) (before now : HartView) (b c : HartState) (d : BlockTable) → IsBetweenTurns w begun before b d
    → b.«end» ≡ None → b.resolving ≡ Resolving.to_exchange o → HasGrant before o → (x : BindsSlot before now b c) → IsBetweenTurns w begun now c d
bound_stands fit w begun o before now b c d between runs is held x =
    let e : Exchange = exchange_of x.grant x.bound in
    let found : ℕ = found_by x.grant x.bound in
    let grant : x.grant ≡ held.grant = same_grant o before now b c x held in
    let known : known_of now.lane ≡ known_of before.lane =
    ap (λ (h : HartView). known_of h.lane) x.view
    ∙ known_back e before (held.read ∙ ap (λ (g : Grant). Some (full_offer g)) (sym grant)) (ap (λ (g : Grant). g.entry.mark) grant ∙ (held.is found).mark) in
    let same : SameKnown before now = record { number = ap (λ (h : HartView). h.number) x.view; heard = ap (λ (h : HartView). h.heard) x.view; known = known } in
    let lawful = legal_is_lawful w before.heard between.heard.legal in
    let left : c ≡ done_to o found (exchanged_to o found b) = x.hart o is in
    let none : before.heard ++ [] ≡ before.heard = append-nil before.heard in
    let first : HartFits w before.heard before.number (exchanged_to o found b) = subst (λ (es : List Event). HartFits w es before.number (exchanged_to o found b)) none
    (fit w before.heard before.number b (exchanged_to o found b) (Did.exchanges o found) lawful (exchange_moves w before.number before.heard o found b runs is) runs runs (between.fits runs)) in
    let second : HartFits w before.heard before.number (done_to o found (exchanged_to o found b)) = subst (λ (es : List Event). HartFits w es before.number (done_to o found (exchanged_to o found b))) none
    (fit w before.heard before.number (exchanged_to o found b) (done_to o found (exchanged_to o found b)) Did.finishes lawful (finish_moves w before.number before.heard o found b runs) runs runs first) in
    record {
      heard = heard_stays w begun before now same between.heard;
      fits = λ on. subst (λ (p : HartState × (List Event × ℕ)). HartFits w p.1.0 p.1.1 p.0) (λ i. (sym left i, (sym same.heard i, sym same.number i))) second;
      row = subst (λ (r : Resolving). IsAtRow now r) (ap (λ (z : HartState). z.resolving) (sym left)) (ap (λ (h : HartView). h.lane.calling) x.view);
      blocks = blocks_stay d before now known between.blocks;
      early = subst (λ (es : List Event). d.generation ≤ (after es).generation) (sym same.heard) between.early;
      current = λ on. current_stays d before now same (between.current runs);
      reached = λ on calm. reached_stays d before now known (between.reached runs (ap (λ (z : HartState). has_finals z.frames) (sym left) ∙ calm));
    }
