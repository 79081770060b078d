use Rattle.std.proofs.Common.{◌∙◌, ap, List, ℕ}
use Rattle.std.specs.Prelude.{if◌then◌else◌}
use Rattle.std.specs.Str.{bytes_eq}
use Rattle.asm_uses.specs.Spelled.{spelled_pairs}
use Rattle.asm_symbols.specs.Visibilities.{visibility_of}
use Rattle.asm_symbols.proofs.Given.{given_last}
use Rattle.asm_symbols.proofs.visibilities.Visibilities.give.Goals as goal

pub returns : goal.returns
returns c = λ other.
    let entries = c.self.inside.given.entries in
    rw (← c.self.view_is)
    (ap (λ all. visibility_of (spelled_pairs all) other) c.in_ok-insert.ensures.entries
    ∙ given_last entries c.in_ok-name.name c.args.visibility other
    ∙ ap (λ (n : List ℕ). if bytes_eq other n then c.args.visibility else visibility_of (spelled_pairs entries) other) c.in_ok-name.ensures.items)
