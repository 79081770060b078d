-- What a reader answers, beside what its bytes mean.
use Rattle.std.specs.Prelude.{◌≡◌, Result, Ok, Err}
use Rattle.ld_base.specs.declared.fault.NotAccepted.{NotAccepted}
use Rattle.ld_base.specs.declared.fault.ReadFault.{ReadFault}
use Rattle.ld_base.specs.declared.fault.ReadFault.TheVariants as faults

-- the fault is the rule that the bytes break first; want of memory says nothing of the bytes
abbrev pub Faults : {X : Type 0} → ReadFault → Result X NotAccepted → Type 0
Faults (faults.NotAccepted broken) meant = meant ≡ Err broken
Faults faults.Memory meant = Unit {0}

-- what a reader gave is what the bytes mean, unless memory ran out
abbrev pub Gives : {X : Type 0} → Result X ReadFault → Result X NotAccepted → Type 0
Gives (Ok x) meant = meant ≡ Ok x
Gives (Err fault) meant = Faults fault meant

-- what a reader answers: a value that the bytes spell, or the rule that they break first; want of memory says nothing of them
abbrev pub Answers : {X : Type 0} → (X → Type 0) → (NotAccepted → Type 0) → Result X ReadFault → Type 0
Answers Spells Breaks (Ok x) = Spells x
Answers Spells Breaks (Err (faults.NotAccepted fault)) = Breaks fault
Answers Spells Breaks (Err faults.Memory) = Unit {0}
