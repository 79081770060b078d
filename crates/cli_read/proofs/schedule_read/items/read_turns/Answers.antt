use Rattle.std.proofs.Common.{rules, ◌≡◌, ℕ, map, Bor, List, codes, sym, ap, subst, ◌∙◌}
use Rattle.world_turns.specs.SchedulesPart.Grammar.{SaysTurns, parts_of}
use Rattle.cli_read.proofs.ScheduleRead.Each.{by_items, err_so, ok_so, not_turns}
use Rattle.cli_read.proofs.schedule_read.items.read_turns.Goals as goal

pub returns-then-eq-clause-says : goal.returns-then-eq-clause-says
returns-then-eq-clause-says c =
    let rr : c.args.text.now ≡ codes "rr" = search rules in
    subst (SaysTurns c.args.harts c.args.text.now) (sym c.new.ensures) (SaysTurns.in_order rr)

lent : (c : goal.After-drop-parts) → map (λ (p : Bor (List ℕ)). p.now) c.as_slice.result.now ≡ parts_of c.args.text.now
lent c = ap (map (λ (p : Bor (List ℕ)). p.now)) c.as_slice.ensures.value ∙ c.in_ok-parts.ensures ∙ ap parts_of c.as_bytes.ensures.value

pub returns-clause-says : goal.returns-clause-says
returns-clause-says c = ok_so c.items_of.result (λ items are. by_items c.args.harts c.args.text.now c.as_slice.result.now items (lent c) are) c.items_of.ensures.are

pub returns-clause-not_turns : goal.returns-clause-not_turns
returns-clause-not_turns c =
    let differs : c.args.text.now ≡ codes "rr" → ⊥ = λ rr. search (rules, rr) in
    err_so c.items_of.result (λ e none is. not_turns c.args.harts c.args.text.now c.as_slice.result.now (lent c) differs (none is)) c.items_of.ensures.not_turns
