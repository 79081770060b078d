use Rattle.std.proofs.Common.{◌≡◌, ℕ, List, length, min, take, rules, ap, ◌∙◌}
use Rattle.std.proofs.lemmas.List.{take_min}
use Rattle.ld_base.specs.FaultText.{fault_text}
use Rattle.history_calls.specs.Served.{answer_text}
use Rattle.link_calls.proofs.Left.{if_so}
use Rattle.link_calls.proofs.telling.text_of.Goals as goal

pub returns : goal.returns
returns c =
    let bytes : List ℕ = c.as_bytes-bytes.result.now in
    let all : c.as_bytes-bytes.result.now ≡ fault_text c.args.fault.now = search rules in
    let count : c.min-count.result ≡ min 511 (length c.as_bytes-bytes.result.now) = search rules in
    if_so c.new.result (λ (n : List ℕ). n ≡ take c.min-count.result c.as_bytes-bytes.result.now) (λ (n : List ℕ). n ≡ answer_text c.args.fault.now)
    (λ n is. is ∙ ap (λ (k : ℕ). take k bytes) count ∙ take_min 511 bytes ∙ ap (take 511) all) c.new.ensures
