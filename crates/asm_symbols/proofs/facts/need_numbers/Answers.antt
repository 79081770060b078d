use Rattle.std.proofs.Common.{◌∙◌, sym, ap, List, ℕ, Some, None}
use Rattle.std.specs.Prelude.{if◌then◌else◌}
use Rattle.std.specs.Option.{option_or}
use Rattle.std.specs.Str.{bytes_eq}
use Rattle.asm_uses.specs.Numbers.{number_of}
use Rattle.asm_layout.proofs.Firsts.{one_further}
use Rattle.asm_symbols.proofs.facts.need_numbers.Goals as goal

pub loop-at-preserved : goal.loop-at-preserved
loop-at-preserved c = λ name.
    c.in_ok-note.ensures name
    ∙ ap (λ (n : List ℕ). option_or (number_of c.loop-at.numbers name) (if bytes_eq name n then Some c.loop-at.at else None)) c.as_bytes.ensures
    ∙ rw (c.loop-at.invariant name)
    (sym (one_further (λ need. bytes_eq name need.name) c.args.needs.now c.loop-at.at c.index-needs-at.result c.loop-at-test.true c.index-needs-at.is))
