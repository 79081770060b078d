-- What a reader answers, beside what its bytes mean. For the code of this crate alone.
use Rattle.std.specs.Prelude.{◌≡◌, Option, Some, None, Result, Ok, Err}
use Rattle.trace_read.specs.declared.fault.TraceFault.{TraceFault}
use Rattle.trace_read.specs.declared.fault.TraceFault.TheVariants as faults

-- there is nothing that the bytes mean; want of memory says nothing of the bytes
abbrev pub Misses : {X : Type 0} → Option X → TraceFault → Type 0
Misses meant faults.NotALine = meant ≡ None
Misses meant faults.Memory = Unit {0}

-- what a reader gave is what the bytes mean, unless memory ran out
abbrev pub Gives : {X : Type 0} → Option X → Result X TraceFault → Type 0
Gives meant (Ok x) = meant ≡ Some x
Gives meant (Err fault) = Misses meant fault
