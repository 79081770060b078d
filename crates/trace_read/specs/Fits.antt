-- What can stand in a line: numbers in their widths, and bytes.
use Rattle.std.specs.Prelude.{◌≡◌, ℕ, ◌<◌, ◌^◌, List, length, All, Option, Some, None}
use Rattle.ld_base.specs.declared.fault.DlFault.{DlFault}
use Rattle.ld_base.specs.declared.fault.DlFault.TheVariants as faults
use Rattle.ld_base.specs.declared.linking.Choice.{Choice}
use Rattle.ld_base.specs.declared.linking.Choice.TheVariants as choices
use Rattle.ld_base.specs.declared.linking.TlsPlace.{TlsPlace}
use Rattle.history_event.specs.declared.event.CloseAnswer.{CloseAnswer}
use Rattle.history_event.specs.declared.event.CloseAnswer.TheVariants as closes
use Rattle.history_event.specs.declared.event.SymAnswer.{SymAnswer}
use Rattle.history_event.specs.declared.event.SymAnswer.TheVariants as syms
use Rattle.history_event.specs.declared.event_line.EventLine.{EventLine}
use Rattle.history_event.specs.declared.event_line.EventLine.TheVariants as lines
use Rattle.history_event.specs.declared.event_line.NewLine.{NewLine}
use Rattle.history_event.specs.declared.event_line.OpenLine.{OpenLine}
use Rattle.history_event.specs.declared.event_line.OpenLine.TheVariants as opens
use Rattle.history_event.specs.declared.hart_end.HartEnd.{HartEnd}
use Rattle.history_event.specs.declared.hart_end.HartEnd.TheVariants as ends

abbrev pub Fits8 : ℕ → Type 0
Fits8 n = n < 2 ^ 8

abbrev pub Fits32 : ℕ → Type 0
Fits32 n = n < 2 ^ 32

abbrev pub Fits64 : ℕ → Type 0
Fits64 n = n < 2 ^ 64

abbrev pub AreBytes : List ℕ → Type 0
AreBytes bytes = All (λ b. b < 256) bytes

abbrev pub AreBytesIfSome : Option (List ℕ) → Type 0
AreBytesIfSome None = Unit {0}
AreBytesIfSome (Some bytes) = AreBytes bytes

abbrev pub Fits64IfSome : Option ℕ → Type 0
Fits64IfSome None = Unit {0}
Fits64IfSome (Some n) = Fits64 n

abbrev pub FaultFits : DlFault → Type 0
FaultFits (faults.MissingLibrary name) = AreBytes name
FaultFits (faults.ReadFault path) = AreBytes path
FaultFits (faults.NotAccepted path broken) = AreBytes path × (Fits8 broken.rule × Fits64 broken.number)
FaultFits (faults.MissingVersion o file version) = AreBytes o × (AreBytes file × AreBytes version)
FaultFits (faults.MissingSymbol o name version) = AreBytesIfSome o × (AreBytes name × AreBytesIfSome version)
FaultFits (faults.NotCode o name) = AreBytes o × AreBytes name
FaultFits (faults.NeedsStaticTls o) = AreBytes o
FaultFits (faults.AddressSpaceFull pages) = Fits64 pages
FaultFits faults.NamespacesFull = Unit {0}
FaultFits (faults.BadHandle handle) = Fits64 handle
FaultFits (faults.BadFlags flags) = Fits64 flags
FaultFits (faults.ClosingHere o) = AreBytes o
FaultFits faults.NameTooLong = Unit {0}
FaultFits (faults.BadNamespace ns) = Fits64 ns

abbrev pub FaultFitsIfSome : Option DlFault → Type 0
FaultFitsIfSome None = Unit {0}
FaultFitsIfSome (Some fault) = FaultFits fault

abbrev pub EndFits : HartEnd → Type 0
EndFits (ends.Exit code) = Fits64 code
EndFits ends.FuelOut = Unit {0}
EndFits (ends.NotMapped pc address) = Fits64 pc × Fits64 address
EndFits (ends.SlotStore pc address) = Fits64 pc × Fits64 address
EndFits (ends.BadInstruction pc word) = Fits64 pc × Fits32 word
EndFits (ends.Misaligned pc address) = Fits64 pc × Fits64 address
EndFits (ends.Break pc) = Fits64 pc
EndFits (ends.BadModule number) = Fits64 number
EndFits (ends.Unloaded serial) = Fits64 serial
EndFits (ends.NoSlot serial eights) = Fits64 serial × Fits64 eights
EndFits (ends.Unresolved serial slot) = Fits64 serial × Fits32 slot
EndFits (ends.NotCode serial slot) = Fits64 serial × Fits32 slot
EndFits (ends.AddressSpaceFull pages) = Fits64 pages
EndFits ends.Memory = Unit {0}

abbrev pub PlaceFits : Option TlsPlace → Type 0
PlaceFits None = Unit {0}
PlaceFits (Some place) = Fits64 place.number × Fits64IfSome place.offset

abbrev pub NewLineFits : NewLine → Type 0
NewLineFits o = Fits64 o.serial × (AreBytes o.path × (Fits64 o.base × PlaceFits o.«module»))

abbrev pub OpenFits : OpenLine → Type 0
OpenFits (opens.Done ns root added) = Fits32 ns × (Fits64 root × All NewLineFits added)
OpenFits opens.Absent = Unit {0}
OpenFits (opens.Refused fault) = FaultFits fault

abbrev pub CloseFits : CloseAnswer → Type 0
CloseFits (closes.Done dying) = All Fits64 dying
CloseFits (closes.Refused fault) = FaultFits fault

abbrev pub SymFits : SymAnswer → Type 0
SymFits (syms.Found serial index address) = (Fits64 serial × Fits32 index) × Fits64 address
SymFits (syms.Refused fault) = FaultFits fault

-- a grant has something to give, 0 by a weak symbol
abbrev pub GrantedFits : Choice → ℕ → Type 0
GrantedFits (choices.Def serial index) value = (Fits64 serial × Fits32 index) × Fits64 value
GrantedFits choices.WeakZero value = value ≡ 0
GrantedFits choices.Missing value = ⊥

-- what isn't there at all is no weak symbol's
abbrev pub RefusedFits : Choice → Type 0
RefusedFits (choices.Def serial index) = Fits64 serial × Fits32 index
RefusedFits choices.WeakZero = ⊥
RefusedFits choices.Missing = Unit {0}

-- an event that has a line
abbrev pub IsWritable : EventLine → Type 0
IsWritable (lines.Open hart ask answer) = Fits32 hart × (Fits64IfSome ask.ns × (AreBytesIfSome ask.name × (Fits64 ask.flags × OpenFits answer)))
IsWritable (lines.Close hart handle answer) = Fits32 hart × (Fits64 handle × CloseFits answer)
IsWritable (lines.Unmapped hart set) = Fits32 hart × All Fits64 set
IsWritable (lines.Grant grant hart owner slot choice value) = Fits64 grant × (Fits32 hart × (Fits64 owner × (Fits32 slot × GrantedFits choice value)))
IsWritable (lines.Bound grant) = Fits64 grant
IsWritable (lines.Lost grant saw) = Fits64 grant × Fits64 saw
IsWritable (lines.Unresolved hart owner slot choice) = Fits32 hart × (Fits64 owner × (Fits32 slot × RefusedFits choice))
IsWritable (lines.Sym hart ask answer) =
    Fits32 hart × (Fits32 ask.ns × (Fits64 ask.handle × (AreBytes ask.name × (AreBytesIfSome ask.version × SymFits answer))))
IsWritable (lines.Tls hart owner address) = Fits32 hart × (Fits64 owner × Fits64 address)
IsWritable (lines.Init hart object) = Fits32 hart × Fits64 object
IsWritable (lines.Fini hart object) = Fits32 hart × Fits64 object
IsWritable (lines.Wrote hart bytes) = Fits32 hart × (AreBytes bytes × Fits64 (length bytes))
IsWritable (lines.Told hart fault) = Fits32 hart × FaultFitsIfSome fault
IsWritable (lines.Ended hart end) = Fits32 hart × EndFits end
