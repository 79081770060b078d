-- Refusals as lines have them, read back. For the code of this crate alone.
use Rattle.std.specs.Prelude.{ℕ, ◌^◌, if◌then◌else◌, codes, List, [], ◌∷◌, Option, Some, None, option_map}
use Rattle.std.specs.Str.{bytes_eq}
use Rattle.ld_base.specs.declared.fault.DlFault.{DlFault}
use Rattle.ld_base.specs.declared.fault.DlFault.TheVariants as faults
use Rattle.ld_base.specs.declared.fault.NotAccepted.{NotAccepted}
use Rattle.trace_read.specs.declared.faults.FaultWord.{FaultWord}
use Rattle.trace_read.specs.declared.faults.FaultWord.TheVariants as words
use Rattle.trace_read.specs.Pieces.{◌>>=◌, cut, named, pair}
use Rattle.trace_read.specs.Numbers.{numeral, decimal_in}
use Rattle.trace_read.specs.Names.{name_of, some_name}
use Rattle.trace_read.specs.Lists.{hexadecimal}

abbrev pub fault_words : List (List ℕ × FaultWord)
fault_words =
    (codes "missing-library", words.MissingLibrary)
    ∷ (codes "read-fault", words.ReadFault)
    ∷ (codes "not-accepted", words.NotAccepted)
    ∷ (codes "missing-version", words.MissingVersion)
    ∷ (codes "missing-symbol", words.MissingSymbol)
    ∷ (codes "not-code", words.NotCode)
    ∷ (codes "needs-static-tls", words.NeedsStaticTls)
    ∷ (codes "address-space-full", words.AddressSpaceFull)
    ∷ (codes "bad-handle", words.BadHandle)
    ∷ (codes "bad-flags", words.BadFlags)
    ∷ (codes "closing-here", words.ClosingHere)
    ∷ (codes "bad-namespace", words.BadNamespace)
    ∷ []

unfoldable pub fault_word : List ℕ → Option FaultWord
fault_word text = named text fault_words

-- the refusals that are one word
abbrev pub bare_fault : List ℕ → Option DlFault
bare_fault text =
    if bytes_eq text (codes "namespaces-full") then Some faults.NamespacesFull
    else (if bytes_eq text (codes "name-too-long") then Some faults.NameTooLong else None)

abbrev pub not_accepted : List ℕ → Option DlFault
not_accepted text =
    option_map (λ p. faults.NotAccepted p.0 (record { rule = p.1.0; number = p.1.1 })) (pair 32 name_of (pair 32 (decimal_in (2 ^ 8)) (numeral 10)) text)

abbrev pub missing_version : List ℕ → Option DlFault
missing_version text = option_map (λ p. faults.MissingVersion p.0 p.1.0 p.1.1) (pair 32 name_of (pair 32 name_of name_of) text)

abbrev pub missing_symbol : List ℕ → Option DlFault
missing_symbol text = option_map (λ p. faults.MissingSymbol p.0 p.1.0 p.1.1) (pair 32 some_name (pair 32 name_of some_name) text)

abbrev pub not_code : List ℕ → Option DlFault
not_code text = option_map (λ p. faults.NotCode p.0 p.1) (pair 32 name_of name_of text)

-- a refusal behind its first word
abbrev pub fault_behind : FaultWord → List ℕ → Option DlFault
fault_behind words.MissingLibrary text = option_map faults.MissingLibrary (name_of text)
fault_behind words.ReadFault text = option_map faults.ReadFault (name_of text)
fault_behind words.NotAccepted text = not_accepted text
fault_behind words.MissingVersion text = missing_version text
fault_behind words.MissingSymbol text = missing_symbol text
fault_behind words.NotCode text = not_code text
fault_behind words.NeedsStaticTls text = option_map faults.NeedsStaticTls (name_of text)
fault_behind words.AddressSpaceFull text = option_map faults.AddressSpaceFull (numeral 10 text)
fault_behind words.BadHandle text = option_map faults.BadHandle (hexadecimal text)
fault_behind words.BadFlags text = option_map faults.BadFlags (hexadecimal text)
fault_behind words.ClosingHere text = option_map faults.ClosingHere (name_of text)
fault_behind words.BadNamespace text = option_map faults.BadNamespace (hexadecimal text)

abbrev pub fault_by : List ℕ → Option (List ℕ × List ℕ) → Option DlFault
fault_by text None = bare_fault text
fault_by text (Some p) = fault_word p.0 >>= λ word. fault_behind word p.1

-- a refusal
unfoldable pub fault_of : List ℕ → Option DlFault
fault_of text = fault_by text (cut 32 text)
