use Rattle.std.proofs.Common.{◌≡◌, ◌⊎◌, inl, inr, ℕ, Bool, List, subst}
use Rattle.ld_base.specs.declared.fault.NotAccepted.{NotAccepted}
use Rattle.ld_base.specs.declared.object.Object.{Object}
use Rattle.elf_object.specs.Spells.{Broken, Spells}
use Rattle.asm_accepted.specs.AsmRecord.Record.{record_of}
use Rattle.asm_accepted.proofs.law.unbroken_bytes_spell_the_record.Goals as goal

-- what is one object or broken is that object, where it isn't broken
spelled : (bytes : List ℕ) (program : Bool) (said : Object) → ((object : Object) → Spells bytes program object → object ≡ said)
    → ((fault : NotAccepted) → Broken bytes program fault → ⊥)
    → ((object : Object) × Spells bytes program object) ⊎ ((fault : NotAccepted) × Broken bytes program fault) → Spells bytes program said
spelled bytes program said is unbroken (inl found) = subst (λ (object : Object). Spells bytes program object) (is found.0 found.1) found.1
spelled bytes program said is unbroken (inr broken) = absurd (unbroken broken.0 broken.1)

pub returns : goal.returns
returns c source bytes denotes program unbroken =
    spelled bytes program (record_of denotes.lines) (c.the_object_is_the_record.ensures source bytes denotes program) unbroken (c.one_object.ensures.exactly bytes program)
