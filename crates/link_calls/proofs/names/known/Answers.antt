use Rattle.std.proofs.Common.{◌≡◌, ℕ, length, min, take, rules, ap, ◌∙◌}
use Rattle.std.proofs.lemmas.List.{take_min}
use Rattle.link_calls.proofs.names.known.Goals as goal

pub returns : goal.returns
returns c =
    let count : c.min-count.result ≡ min 256 (length c.args.name.now) = search rules in
    ap (λ (k : ℕ). take k c.args.name.now) count ∙ take_min 256 c.args.name.now
