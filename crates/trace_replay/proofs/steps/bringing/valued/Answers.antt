use Rattle.std.proofs.Common.{◌≡◌, List, Option, ℕ, ◌++◌, map, ap, ◌∙◌}
use Rattle.std.specs.Option.{option_map}
use Rattle.history_state.specs.Addresses.{address}
use Rattle.ld_base.specs.declared.linking.Choice.{Choice}
use Rattle.trace_replay.proofs.steps.bringing.valued.Goals as goal

pub returns : goal.returns
returns c = λ s are.
    let values : c.from-2.result ≡ map (option_map (address s)) c.args.new.slots.items =
    c.from-2.ensures ∙ c.push_values.ensures s are ∙ ap (λ (vs : List (Option ℕ)). vs ++ map (option_map (address s)) c.as_slice.result.now) c.requires.none
    ∙ ap (λ (cs : List (Option Choice)). map (option_map (address s)) cs) c.as_slice.ensures.value in
    λ i. record { owner = c.args.new.owner; choices = c.from.ensures i; values = values i }
