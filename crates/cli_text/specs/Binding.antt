-- What the references of a namespace come to, whose objects are all there.
use Rattle.std.specs.Prelude.{◌≡◌, Bool, None, Some}
use Rattle.std.specs.String.{string_bytes}
use Rattle.scope_rule.specs.declared.namespace.Namespace.{Namespace}
use Rattle.cli_text.specs.Lines.{bound_text}
use Rattle.cli_text.specs.Refusal.{first_refusal}
use Rattle.cli_text.specs.declared.objects.Binding.{Binding}
use Rattle.cli_text.specs.declared.objects.Binding.TheVariants.{Bound, Refused}

-- the first refusal, or the text where none is refused
abbrev pub IsBinding : Namespace → Bool → Binding → Type 0
IsBinding ns now (Bound text) = (first_refusal ns now ns.objects ≡ None) × (string_bytes text ≡ bound_text ns)
IsBinding ns now (Refused fault) = first_refusal ns now ns.objects ≡ Some fault
