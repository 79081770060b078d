use Rattle.std.proofs.Common.{◌≡◌, ℕ, ◌&&◌, false, eqb, List, refl, sym, ap, ◌∙◌}
use Rattle.std.specs.List.{list_any}
use Rattle.std.proofs.lemmas.Bool.{eq-eqb, ne_eqb}
use Rattle.std.proofs.lemmas.Bool.Decides.{Decides-at}
use Rattle.history_event.specs.declared.state.Closing.{Closing}
use Rattle.trace_rows.specs.Functions.{is_due_at_end, is_next_of}
use Rattle.trace_rows.proofs.Running.{finishes_so}
use Rattle.trace_rows.proofs.Tests.{and_else, and_then, or_else, or_then}
use Rattle.trace_rows.proofs.rows.functions.may_finalise.Goals as goal

pub returns-then-is_next_closed : goal.returns-then-is_next_closed
returns-then-is_next_closed c = λ w past same x.
    let closing : c.is_next_closed.result ≡ list_any (is_next_of c.args.replay.now.unfinished c.args.hart c.args.object) c.args.replay.now.closings =
    c.is_next_closed.ensures ∙ ap (λ (ds : List ℕ). list_any (is_next_of ds c.args.hart c.args.object) c.closings.result.now) c.unfinished.ensures
    ∙ ap (λ (cs : List Closing). list_any (is_next_of c.args.replay.now.unfinished c.args.hart c.args.object) cs) c.closings.ensures in
    or_then c.is_next_closed.result (eqb c.args.hart 0 && is_due_at_end c.args.object c.args.replay.now) c.if-is_next_closed.true
    (finishes_so w past c.args.replay.now c.args.hart c.args.object c.is_next_closed.result (eqb c.args.hart 0) (is_due_at_end c.args.object c.args.replay.now) same x closing refl refl)

pub returns-then-number-eq0 : goal.returns-then-number-eq0
returns-then-number-eq0 c = λ w past same x.
    let closing : c.is_next_closed.result ≡ list_any (is_next_of c.args.replay.now.unfinished c.args.hart c.args.object) c.args.replay.now.closings =
    c.is_next_closed.ensures ∙ ap (λ (ds : List ℕ). list_any (is_next_of ds c.args.hart c.args.object) c.closings.result.now) c.unfinished.ensures
    ∙ ap (λ (cs : List Closing). list_any (is_next_of c.args.replay.now.unfinished c.args.hart c.args.object) cs) c.closings.ensures in
    and_then (eqb c.args.hart 0) c.is_next_at_end.result (eq-eqb c.args.hart 0 (sym c.number.ensures ∙ c.if-number-eq0.true))
    (or_else c.is_next_closed.result (eqb c.args.hart 0 && c.is_next_at_end.result) c.if-is_next_closed.false
    (finishes_so w past c.args.replay.now c.args.hart c.args.object c.is_next_closed.result (eqb c.args.hart 0) c.is_next_at_end.result same x closing refl c.is_next_at_end.ensures))

pub returns-else-number-eq0 : goal.returns-else-number-eq0
returns-else-number-eq0 c = λ w past same x.
    let closing : c.is_next_closed.result ≡ list_any (is_next_of c.args.replay.now.unfinished c.args.hart c.args.object) c.args.replay.now.closings =
    c.is_next_closed.ensures ∙ ap (λ (ds : List ℕ). list_any (is_next_of ds c.args.hart c.args.object) c.closings.result.now) c.unfinished.ensures
    ∙ ap (λ (cs : List Closing). list_any (is_next_of c.args.replay.now.unfinished c.args.hart c.args.object) cs) c.closings.ensures in
    let other : eqb c.args.hart 0 ≡ false = ne_eqb c.args.hart 0 (λ (e : c.args.hart ≡ 0). c.if-number-eq0.false (c.number.ensures ∙ e)) in
    Decides-at (eqb c.number.result 0) (eqb c.args.hart 0) (ap (λ (n : ℕ). eqb n 0) c.number.ensures)
    (and_else (eqb c.args.hart 0) (is_due_at_end c.args.object c.args.replay.now) other
    (or_else c.is_next_closed.result (eqb c.args.hart 0 && is_due_at_end c.args.object c.args.replay.now) c.if-is_next_closed.false
    (finishes_so w past c.args.replay.now c.args.hart c.args.object c.is_next_closed.result (eqb c.args.hart 0) (is_due_at_end c.args.object c.args.replay.now) same x closing refl refl)))
