use Rattle.std.proofs.Common.{◌≡◌, ℕ, Bool, ◌&&◌, Some, None, ◌∙◌, ap, refl}
use Rattle.std.specs.Prelude.{map, Option, option_map}
use Rattle.std.specs.Global.{Vec}
use Rattle.std.specs.Option.{option_eq}
use Rattle.std.specs.Str.{bytes_eq}
use Rattle.std.proofs.Math.Bool.{beq}
use Rattle.asm_layout.specs.Uses.{same_export}
use Rattle.asm_uses.specs.declared.export_set.Key.{Key}
use Rattle.asm_uses.specs.Exports.{exported_as}
use Rattle.asm_layout.specs.Once.{added}
use Rattle.asm_uses.specs.contracts.export_set.KeyPartialEq.TheImpl.{eq-value}
use Rattle.asm_uses.proofs.Keys.{mapped_insert}
use Rattle.asm_uses.proofs.export_set.ExportSet.add.Goals as goal

-- keys are compared as the symbols that they stand for
same_version : (one other : Option (Vec ℕ)) → option_eq (λ a b. bytes_eq a.items b.items) one other
    ≡ option_eq bytes_eq (option_map (λ v. v.items) one) (option_map (λ v. v.items) other)
same_version None None = refl
same_version None (Some other) = refl
same_version (Some one) None = refl
same_version (Some one) (Some other) = refl

same_symbol : (one other : Key) → eq-value.it one other ≡ same_export (exported_as one) (exported_as other)
same_symbol one other =
    ap (λ (same : Bool). bytes_eq one.label.items other.label.items
    && (bytes_eq one.name.items other.name.items && (same && (beq one.is_needed other.is_needed && beq one.is_default other.is_default))))
    (same_version one.version other.version)

pub returns : goal.returns
returns c =
    rw (← c.self.view_is)
    (ap (map exported_as) c.in_ok-insert.ensures.keys
    ∙ mapped_insert eq-value.it same_export exported_as same_symbol c.self.inside.keys.keys c.in_ok-key.key
    ∙ ap (added same_export (map exported_as c.self.inside.keys.keys)) c.in_ok-key.ensures)
