use Rattle.std.proofs.Common.{rules, of_calls, ◌≡◌, Bor, Bool, Option, ltb, sym, ap, ◌∙◌}
use Rattle.std.specs.Bool.{then_some}
use Rattle.std.specs.List.{find}
use Rattle.std.specs.Option.{option_copied}
use Rattle.std.specs.Prelude.{◌==◌}
use Rattle.std.proofs.lemmas.Fn.{always_returns_same}
use Rattle.std.proofs.lemmas.List.Sorted.{IsPartitionedBy-ltb}
use Rattle.link_images.specs.declared.parts.Part.{Part}
use Rattle.link_images.specs.Parts.{serial_of}
use Rattle.link_images.proofs.Halves.{copied, found_at, found_first}
use Rattle.link_images.proofs.parts.found_by_halves.Goals as goal

pub returns : goal.returns
returns c =
    let found : found_at c.args.serial (option_copied c.first.result) ≡ find (λ p. p.serial == c.args.serial) c.args.parts.now =
    found_first c.args.serial c.partition_point-place.result c.args.parts.now c.split_at.result.1.now c.first.result c.requires
    (c.partition_point-place.ensures.partitioned (λ p. ltb (serial_of p) c.args.serial) (always_returns_same _ _ _ (λ a r f k. search (rules, of_calls))) (IsPartitionedBy-ltb serial_of c.args.parts.now c.args.serial c.requires))
    c.split_at.ensures.back c.first.ensures.value in
    ap option_copied (c.then_some.ensures ∙ ap (λ (b : Bool). then_some b c.in-Some.part) c.eq.ensures)
    ∙ copied (c.in-Some.part.now.serial == c.args.serial) c.in-Some.part
    ∙ sym (ap (λ (o : Option (Bor Part)). found_at c.args.serial (option_copied o)) c.in-Some.is) ∙ found

pub returns-in_default : goal.returns-in_default
returns-in_default c =
    let found : found_at c.args.serial (option_copied c.first.result) ≡ find (λ p. p.serial == c.args.serial) c.args.parts.now =
    found_first c.args.serial c.partition_point-place.result c.args.parts.now c.split_at.result.1.now c.first.result c.requires
    (c.partition_point-place.ensures.partitioned (λ p. ltb (serial_of p) c.args.serial) (always_returns_same _ _ _ (λ a r f k. search (rules, of_calls))) (IsPartitionedBy-ltb serial_of c.args.parts.now c.args.serial c.requires))
    c.split_at.ensures.back c.first.ensures.value in
    sym (ap (λ (o : Option (Bor Part)). found_at c.args.serial (option_copied o)) c.in_default.is) ∙ found
