use Rattle.std.proofs.Common.{◌≡◌, ◌∙◌, ap, Some, None}
use Rattle.std.specs.Prelude.{Option, option_map, find}
use Rattle.std.specs.Str.{bytes_eq}
use Rattle.asm_statement.specs.declared.directive.Need.{Need}
use Rattle.asm_uses.specs.Needs.{values_of}
use Rattle.asm_uses.proofs.Needed.{found}
use Rattle.asm_uses.proofs.need_map.NeedMap.version.Goals as goal

pub returns-in-Some : goal.returns-in-Some
returns-in-Some c =
    let entries = c.self.inside.needs.entries in
    let name = c.args.name.now in
    let e : Some c.in-Some.need.now ≡ find (λ need. bytes_eq name need.name) (values_of entries) =
    c.in-Some.ensures.value ∙ found entries name c.self.invariant in
    rw (← c.self.view_is) (ap Some c.as_bytes.ensures ∙ ap (λ (o : Option Need). option_map (λ need. need.version) o) e)

pub returns-in-None : goal.returns-in-None
returns-in-None c =
    let entries = c.self.inside.needs.entries in
    let name = c.args.name.now in
    let e : None ≡ find (λ need. bytes_eq name need.name) (values_of entries) = c.in-None.ensures.value ∙ found entries name c.self.invariant in
    rw (← c.self.view_is) (ap (λ (o : Option Need). option_map (λ need. need.version) o) e)
