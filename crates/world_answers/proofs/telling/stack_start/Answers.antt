use Rattle.std.proofs.Common.{◌≡◌, List, Option, Some, None, ap, subst, find}
use Rattle.std.specs.Option.{option_map_or}
use Rattle.history_event.specs.declared.event.Range.{Range}
use Rattle.history_calls.specs.Startup.{is_stack}
use Rattle.world_answers.proofs.telling.stack_start.Goals as goal

pub returns-in-Some : goal.returns-in-Some
returns-in-Some c =
    ap (λ (o : Option Range). option_map_or (λ (r : Range). r.address) o 0)
    (subst (λ (rs : List Range). Some c.in-Some.stack.now ≡ find (λ (r : Range). is_stack c.args.id r.purpose) rs) c.ranges-pages.ensures c.in-Some.ensures)

pub returns-in-None : goal.returns-in-None
returns-in-None c =
    ap (λ (o : Option Range). option_map_or (λ (r : Range). r.address) o 0)
    (subst (λ (rs : List Range). None ≡ find (λ (r : Range). is_stack c.args.id r.purpose) rs) c.ranges-pages.ensures c.in-None.ensures)
