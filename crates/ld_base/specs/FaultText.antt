-- How a refusal is written: a word, then what it is of. dlerror(3) gives the same text.
use Rattle.std.specs.Prelude.{ℕ, false, List, ◌∷◌, ◌++◌, codes}
use Rattle.std.specs.Fmt.{decimal, digits}
use Rattle.ld_base.specs.declared.fault.DlFault.{DlFault}
use Rattle.ld_base.specs.declared.fault.DlFault.TheVariants as faults
use Rattle.ld_base.specs.Text.{name_text, name_or_none}

-- a number in lower-case hexadecimal digits
abbrev pub hex_text : ℕ → List ℕ
hex_text n = codes "0x" ++ digits 16 false n

unfoldable pub fault_text : DlFault → List ℕ
fault_text (faults.MissingLibrary name) = codes "missing-library " ++ name_text name
fault_text (faults.ReadFault path) = codes "read-fault " ++ name_text path
fault_text (faults.NotAccepted path broken) = codes "not-accepted " ++ name_text path ++ 32 ∷ decimal broken.rule ++ 32 ∷ decimal broken.number
fault_text (faults.MissingVersion o file version) = codes "missing-version " ++ name_text o ++ 32 ∷ name_text file ++ 32 ∷ name_text version
fault_text (faults.MissingSymbol o name version) = codes "missing-symbol " ++ name_or_none o ++ 32 ∷ name_text name ++ 32 ∷ name_or_none version
fault_text (faults.NotCode o name) = codes "not-code " ++ name_text o ++ 32 ∷ name_text name
fault_text (faults.NeedsStaticTls o) = codes "needs-static-tls " ++ name_text o
fault_text (faults.AddressSpaceFull pages) = codes "address-space-full " ++ decimal pages
fault_text faults.NamespacesFull = codes "namespaces-full"
fault_text (faults.BadHandle handle) = codes "bad-handle " ++ hex_text handle
fault_text (faults.BadFlags flags) = codes "bad-flags " ++ hex_text flags
fault_text (faults.ClosingHere o) = codes "closing-here " ++ name_text o
fault_text faults.NameTooLong = codes "name-too-long"
fault_text (faults.BadNamespace ns) = codes "bad-namespace " ++ hex_text ns
