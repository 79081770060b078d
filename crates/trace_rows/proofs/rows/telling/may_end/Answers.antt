use Rattle.std.proofs.Common.{◌≡◌, ℕ, ◌&&◌, false, not, eqb, List, refl, sym, ap, ◌∙◌}
use Rattle.std.specs.List.{list_any}
use Rattle.std.proofs.lemmas.Bool.{eq-eqb, ne_eqb}
use Rattle.std.proofs.lemmas.Bool.Decides.{Decides-at}
use Rattle.history_event.specs.declared.state.Ending.{Ending}
use Rattle.history_state.specs.After.{after}
use Rattle.history_state.specs.Setting.{are_finals}
use Rattle.trace_rows.proofs.Tests.{and_else, and_then, or_else, or_then}
use Rattle.trace_rows.proofs.Told.{ends_so}
use Rattle.trace_rows.proofs.rows.telling.may_end.Goals as goal

pub returns-then-not-has_ended : goal.returns-then-not-has_ended
returns-then-not-has_ended c = λ reason w past same x.
    or_then (not c.has_ended.result) (eqb c.args.hart 0 && are_finals w (after past)) (ap not c.if-not-has_ended.true)
    (ends_so w (after past) c.args.replay.now c.args.hart c.has_ended.result (eqb c.args.hart 0) (are_finals w (after past)) x.state
    (c.has_ended.ensures ∙ ap (λ (es : List Ending). list_any (λ (e : Ending). eqb e.hart c.args.hart) es) c.endings.ensures) refl refl)

pub returns-then-number-eq0 : goal.returns-then-number-eq0
returns-then-number-eq0 c = λ reason w past same x.
    and_then (eqb c.args.hart 0) c.are_finals.result (eq-eqb c.args.hart 0 (sym c.number.ensures ∙ c.if-number-eq0.true))
    (or_else (not c.has_ended.result) (eqb c.args.hart 0 && c.are_finals.result) (ap not c.if-not-has_ended.false)
    (ends_so w (after past) c.args.replay.now c.args.hart c.has_ended.result (eqb c.args.hart 0) c.are_finals.result x.state
    (c.has_ended.ensures ∙ ap (λ (es : List Ending). list_any (λ (e : Ending). eqb e.hart c.args.hart) es) c.endings.ensures) refl (c.are_finals.ensures w (after past) same (sym x.state.endings))))

pub returns-else-number-eq0 : goal.returns-else-number-eq0
returns-else-number-eq0 c = λ reason w past same x.
    let other : eqb c.args.hart 0 ≡ false = ne_eqb c.args.hart 0 (λ (e : c.args.hart ≡ 0). c.if-number-eq0.false (c.number.ensures ∙ e)) in
    Decides-at (eqb c.number.result 0) (eqb c.args.hart 0) (ap (λ (n : ℕ). eqb n 0) c.number.ensures)
    (and_else (eqb c.args.hart 0) (are_finals w (after past)) other
    (or_else (not c.has_ended.result) (eqb c.args.hart 0 && are_finals w (after past)) (ap not c.if-not-has_ended.false)
    (ends_so w (after past) c.args.replay.now c.args.hart c.has_ended.result (eqb c.args.hart 0) (are_finals w (after past)) x.state
    (c.has_ended.ensures ∙ ap (λ (es : List Ending). list_any (λ (e : Ending). eqb e.hart c.args.hart) es) c.endings.ensures) refl refl)))
