-- What a reader gives is what it has to answer.
use Rattle.std.specs.Prelude.{◌≡◌, Result, Ok, Err}
use Rattle.ld_base.specs.declared.fault.NotAccepted.{NotAccepted}
use Rattle.ld_base.specs.declared.fault.ReadFault.{ReadFault}
use Rattle.ld_base.specs.declared.fault.ReadFault.TheVariants as faults
use Rattle.elf_head.specs.AcceptancePart.Gives.{Answers, Gives}

pub answers : {X : Type 0} (Spells : X → Type 0) (Breaks : NotAccepted → Type 0) (meant : Result X NotAccepted) → ((x : X) → meant ≡ Ok x → Spells x)
    → ((fault : NotAccepted) → meant ≡ Err fault → Breaks fault) → (result : Result X ReadFault) → Gives result meant → Answers Spells Breaks result
answers Spells Breaks meant spells breaks (Ok x) given = spells x given
answers Spells Breaks meant spells breaks (Err (faults.NotAccepted fault)) given = breaks fault given
answers Spells Breaks meant spells breaks (Err faults.Memory) given = tt
