use Rattle.std.proofs.Common.{◌<◌, ◌≤◌, List, length, get_or, rules, sym, subst}
use Rattle.std.specs.Prelude.{◌-◌}
use Rattle.std.specs.List.Sorted.{IsNonDecreasingBy}
use Rattle.std.proofs.lemmas.List.Sorted.{IsNonDecreasingBy-push}
use Rattle.link_images.specs.declared.parts.Part.{Part}
use Rattle.link_images.specs.Parts.{serial_of}
use Rattle.link_images.proofs.parts.ImageParts.push.Goals as goal

pub invariant_of-self : goal.invariant_of-self
invariant_of-self c = (
  search rules,
  λ ascends.
      let last : (d : Part) → 0 < length c.self.inside.parts.items → serial_of (get_or c.self.inside.parts.items (length c.self.inside.parts.items - 1) d) ≤ c.args.part.serial =
      subst (λ (ps : List Part). (d : Part) → 0 < length ps → serial_of (get_or ps (length ps - 1) d) ≤ c.args.part.serial) c.as_slice.ensures.value (c.ascends_behind-self-inside.ensures.last ascends) in
      subst (IsNonDecreasingBy serial_of) (sym c.push_reserved.ensures.items)
      (IsNonDecreasingBy-push serial_of c.self.inside.parts.items c.args.part (c.self.invariant.1 (c.ascends_behind-self-inside.ensures.others ascends)) last),
)
