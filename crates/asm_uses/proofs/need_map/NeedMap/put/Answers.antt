use Rattle.std.proofs.Common.{◌≡◌, ◌∙◌, ap, sym}
use Rattle.asm_statement.specs.declared.directive.Need.{Need}
use Rattle.asm_layout.specs.Uses.{with_need}
use Rattle.asm_uses.specs.Needs.{values_of}
use Rattle.asm_uses.proofs.Needed.{put, stays_by_name}
use Rattle.asm_uses.proofs.need_map.NeedMap.put.Goals as goal

pub invariant_of-self-2 : goal.invariant_of-self-2
invariant_of-self-2 c =
    let need = c.in_ok-need.need in
    let is : c.in_ok-name.name.items ≡ need.name =
    c.in_ok-name.ensures.items ∙ c.as_bytes.ensures ∙ ap (λ (n : Need). n.name) (sym c.in_ok-need.ensures) in
    rw c.in_ok-insert.ensures.entries (stays_by_name c.self.inside.needs.entries c.in_ok-name.name need c.self.invariant is)

pub returns : goal.returns
returns c =
    let entries = c.self.inside.needs.entries in
    let need = c.in_ok-need.need in
    let is : c.in_ok-name.name.items ≡ need.name =
    c.in_ok-name.ensures.items ∙ c.as_bytes.ensures ∙ ap (λ (n : Need). n.name) (sym c.in_ok-need.ensures) in
    rw (← c.self.view_is)
    (ap values_of c.in_ok-insert.ensures.entries ∙ put entries c.in_ok-name.name need c.self.invariant is
    ∙ ap (with_need (values_of entries)) c.in_ok-need.ensures)
