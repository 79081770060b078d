-- How what the relocations of new objects choose is refused (dlopen(3)).
use Rattle.std.specs.Prelude.{◌≡◌, Option, Some}
use Rattle.ld_base.specs.declared.fault.DlFault.{DlFault}
use Rattle.link_open_plan.specs.declared.object_choices.choosing.ChoiceFault.{ChoiceFault}
use Rattle.link_open_plan.specs.declared.object_choices.choosing.ChoiceFault.TheVariants.{Refused, Memory}

-- it is the refusal, or there was no memory
abbrev pub IsFaultOf : Option DlFault → ChoiceFault → Type 0
IsFaultOf fault (Refused why) = fault ≡ Some why
IsFaultOf fault Memory = Unit {0}
