-- Refusals are read back.
use Rattle.std.proofs.Common.{◌≡◌, ℕ, ◌^◌, Bool, true, false, List, ◌∷◌, ◌++◌, Option, Some, None, option_map}
use Rattle.std.proofs.Common.{if◌then◌else◌, refl, sym, ap, ◌∙◌, subst, codes, bytes_eq, append_assoc}
use Rattle.std.proofs.lemmas.Option.{none-some, same_Some}
use Rattle.std.proofs.lemmas.Slice.Eq.{bytes_eq-Decides}
use Rattle.ld_base.specs.declared.fault.DlFault.{DlFault}
use Rattle.ld_base.specs.declared.fault.DlFault.TheVariants as faults
use Rattle.ld_base.specs.FaultText.{fault_text}
use Rattle.ld_base.specs.Text.{name_text, name_or_none}
use Rattle.std.specs.Fmt.{decimal}
use Rattle.trace_read.specs.declared.faults.FaultWord.{FaultWord}
use Rattle.trace_read.specs.declared.faults.FaultWord.TheVariants as words
use Rattle.trace_read.specs.Faults.{fault_words, fault_word, bare_fault, fault_behind, fault_by, fault_of}
use Rattle.trace_read.specs.Fits.{AreBytes, AreBytesIfSome, Fits8, Fits64, FaultFits}
use Rattle.trace_read.specs.Names.{name_of, some_name}
use Rattle.trace_read.specs.Numbers.{numeral, decimal_in}
use Rattle.trace_read.specs.Pieces.{cut, pair}
use Rattle.trace_read.proofs.Parts.{Reads, bound, free, cut-there, cut-none, cut-back, pair_reads}
use Rattle.trace_read.proofs.Spelled.{name_reads, some_name_reads, name_free, some_name_free}
use Rattle.trace_read.proofs.Worded.{decimal_reads, decimal8_reads, decimal8_free, hexadecimal_reads, named-back, variant-back}

abbrev spelled : FaultWord → List ℕ
spelled words.MissingLibrary = codes "missing-library"
spelled words.ReadFault = codes "read-fault"
spelled words.NotAccepted = codes "not-accepted"
spelled words.MissingVersion = codes "missing-version"
spelled words.MissingSymbol = codes "missing-symbol"
spelled words.NotCode = codes "not-code"
spelled words.NeedsStaticTls = codes "needs-static-tls"
spelled words.AddressSpaceFull = codes "address-space-full"
spelled words.BadHandle = codes "bad-handle"
spelled words.BadFlags = codes "bad-flags"
spelled words.ClosingHere = codes "closing-here"
spelled words.BadNamespace = codes "bad-namespace"

word_there : (k : FaultWord) → fault_word (spelled k) ≡ Some k
unfolding fault_word
word_there words.MissingLibrary = refl
word_there words.ReadFault = refl
word_there words.NotAccepted = refl
word_there words.MissingVersion = refl
word_there words.MissingSymbol = refl
word_there words.NotCode = refl
word_there words.NeedsStaticTls = refl
word_there words.AddressSpaceFull = refl
word_there words.BadHandle = refl
word_there words.BadFlags = refl
word_there words.ClosingHere = refl
word_there words.BadNamespace = refl

word_free : (k : FaultWord) → free 32 (spelled k) ≡ true
word_free words.MissingLibrary = refl
word_free words.ReadFault = refl
word_free words.NotAccepted = refl
word_free words.MissingVersion = refl
word_free words.MissingSymbol = refl
word_free words.NotCode = refl
word_free words.NeedsStaticTls = refl
word_free words.AddressSpaceFull = refl
word_free words.BadHandle = refl
word_free words.BadFlags = refl
word_free words.ClosingHere = refl
word_free words.BadNamespace = refl

word_back : (w : List ℕ) (k : FaultWord) → fault_word w ≡ Some k → spelled k ≡ w
unfolding fault_word
word_back w k e = named-back spelled w fault_words k e (refl, (refl, (refl, (refl, (refl, (refl, (refl, (refl, (refl, (refl, (refl, (refl, tt))))))))))))

behind_word : (k : FaultWord) (rest : List ℕ) (fault : DlFault) → fault_behind k rest ≡ Some fault
    → fault_of (spelled k ++ 32 ∷ rest) ≡ Some fault
unfolding fault_of
behind_word k rest fault e = rw (cut-there 32 (spelled k) rest (word_free k), word_there k) e

not_accepted_reads : Reads (pair 32 name_of (pair 32 (decimal_in (2 ^ 8)) (numeral 10)))
    (λ p. name_text p.0 ++ 32 ∷ (decimal p.1.0 ++ 32 ∷ decimal p.1.1)) (λ p. AreBytes p.0 × (Fits8 p.1.0 × Fits64 p.1.1))
not_accepted_reads = pair_reads name_reads (pair_reads decimal8_reads decimal_reads 32 (decimal8_free 32 refl)) 32 (name_free 32 refl refl refl)

missing_version_reads : Reads (pair 32 name_of (pair 32 name_of name_of)) (λ p. name_text p.0 ++ 32 ∷ (name_text p.1.0 ++ 32 ∷ name_text p.1.1))
    (λ p. AreBytes p.0 × (AreBytes p.1.0 × AreBytes p.1.1))
missing_version_reads = pair_reads name_reads (pair_reads name_reads name_reads 32 (name_free 32 refl refl refl)) 32 (name_free 32 refl refl refl)

missing_symbol_reads : Reads (pair 32 some_name (pair 32 name_of some_name)) (λ p. name_or_none p.0 ++ 32 ∷ (name_text p.1.0 ++ 32 ∷ name_or_none p.1.1))
    (λ p. AreBytesIfSome p.0 × (AreBytes p.1.0 × AreBytesIfSome p.1.1))
missing_symbol_reads =
    pair_reads some_name_reads (pair_reads name_reads some_name_reads 32 (name_free 32 refl refl refl)) 32 (some_name_free 32 refl refl refl refl)

not_code_reads : Reads (pair 32 name_of name_of) (λ p. name_text p.0 ++ 32 ∷ name_text p.1) (λ p. AreBytes p.0 × AreBytes p.1)
not_code_reads = pair_reads name_reads name_reads 32 (name_free 32 refl refl refl)

namespaces_full : fault_of (codes "namespaces-full") ≡ Some faults.NamespacesFull
unfolding fault_of
namespaces_full = rw (cut-none 32 (codes "namespaces-full") refl) refl

name_too_long : fault_of (codes "name-too-long") ≡ Some faults.NameTooLong
unfolding fault_of
name_too_long = rw (cut-none 32 (codes "name-too-long") refl) refl

-- three texts with blanks between, taken together from the left or from the right
regroup : (a b c : List ℕ) → a ++ 32 ∷ b ++ 32 ∷ c ≡ a ++ 32 ∷ (b ++ 32 ∷ c)
regroup a b c = append_assoc a (32 ∷ b) (32 ∷ c)

three_there : (k : FaultWord) (a b c : List ℕ) (fault : DlFault) → fault_behind k (a ++ 32 ∷ (b ++ 32 ∷ c)) ≡ Some fault
    → fault_of (spelled k ++ 32 ∷ (a ++ 32 ∷ b ++ 32 ∷ c)) ≡ Some fault
three_there k a b c fault e = ap (λ t. fault_of (spelled k ++ 32 ∷ t)) (regroup a b c) ∙ behind_word k (a ++ 32 ∷ (b ++ 32 ∷ c)) fault e

fault-there : (fault : DlFault) → FaultFits fault → fault_of (fault_text fault) ≡ Some fault
unfolding fault_text
fault-there (faults.MissingLibrary name) h = behind_word words.MissingLibrary _ _ (ap (option_map faults.MissingLibrary) (name_reads.there name h))
fault-there (faults.ReadFault path) h = behind_word words.ReadFault _ _ (ap (option_map faults.ReadFault) (name_reads.there path h))
fault-there (faults.NotAccepted path broken) h =
    three_there words.NotAccepted (name_text path) (decimal broken.rule) (decimal broken.number) _
    (rw (not_accepted_reads.there (path, (broken.rule, broken.number)) h) refl)
fault-there (faults.MissingVersion o file version) h =
    three_there words.MissingVersion (name_text o) (name_text file) (name_text version) _ (rw (missing_version_reads.there (o, (file, version)) h) refl)
fault-there (faults.MissingSymbol o name version) h =
    three_there words.MissingSymbol (name_or_none o) (name_text name) (name_or_none version) _ (rw (missing_symbol_reads.there (o, (name, version)) h) refl)
fault-there (faults.NotCode o name) h = behind_word words.NotCode _ _ (rw (not_code_reads.there (o, name) h) refl)
fault-there (faults.NeedsStaticTls o) h = behind_word words.NeedsStaticTls _ _ (ap (option_map faults.NeedsStaticTls) (name_reads.there o h))
fault-there (faults.AddressSpaceFull pages) h = behind_word words.AddressSpaceFull _ _ (ap (option_map faults.AddressSpaceFull) (decimal_reads.there pages h))
fault-there faults.NamespacesFull h = namespaces_full
fault-there (faults.BadHandle handle) h = behind_word words.BadHandle _ _ (ap (option_map faults.BadHandle) (hexadecimal_reads.there handle h))
fault-there (faults.BadFlags flags) h = behind_word words.BadFlags _ _ (ap (option_map faults.BadFlags) (hexadecimal_reads.there flags h))
fault-there (faults.ClosingHere o) h = behind_word words.ClosingHere _ _ (ap (option_map faults.ClosingHere) (name_reads.there o h))
fault-there faults.NameTooLong h = name_too_long
fault-there (faults.BadNamespace ns) h = behind_word words.BadNamespace _ _ (ap (option_map faults.BadNamespace) (hexadecimal_reads.there ns h))

abbrev IsFault : List ℕ → DlFault → Type 0
IsFault w fault = FaultFits fault × (fault_text fault ≡ w)

behind-back : (k : FaultWord) (w : List ℕ) (fault : DlFault) → fault_behind k w ≡ Some fault → IsFault (spelled k ++ 32 ∷ w) fault
unfolding fault_text
behind-back words.MissingLibrary w fault e =
    variant-back name_reads faults.MissingLibrary fault_text FaultFits (codes "missing-library ") (λ a h. h) (λ a. refl) w fault e
behind-back words.ReadFault w fault e = variant-back name_reads faults.ReadFault fault_text FaultFits (codes "read-fault ") (λ a h. h) (λ a. refl) w fault e
behind-back words.NotAccepted w fault e =
    variant-back not_accepted_reads _ fault_text FaultFits (codes "not-accepted ") (λ a h. h)
    (λ a. ap (λ t. codes "not-accepted " ++ t) (regroup (name_text a.0) (decimal a.1.0) (decimal a.1.1))) w fault e
behind-back words.MissingVersion w fault e =
    variant-back missing_version_reads _ fault_text FaultFits (codes "missing-version ") (λ a h. h)
    (λ a. ap (λ t. codes "missing-version " ++ t) (regroup (name_text a.0) (name_text a.1.0) (name_text a.1.1))) w fault e
behind-back words.MissingSymbol w fault e =
    variant-back missing_symbol_reads _ fault_text FaultFits (codes "missing-symbol ") (λ a h. h)
    (λ a. ap (λ t. codes "missing-symbol " ++ t) (regroup (name_or_none a.0) (name_text a.1.0) (name_or_none a.1.1))) w fault e
behind-back words.NotCode w fault e = variant-back not_code_reads _ fault_text FaultFits (codes "not-code ") (λ a h. h) (λ a. refl) w fault e
behind-back words.NeedsStaticTls w fault e =
    variant-back name_reads faults.NeedsStaticTls fault_text FaultFits (codes "needs-static-tls ") (λ a h. h) (λ a. refl) w fault e
behind-back words.AddressSpaceFull w fault e =
    variant-back decimal_reads faults.AddressSpaceFull fault_text FaultFits (codes "address-space-full ") (λ a h. h) (λ a. refl) w fault e
behind-back words.BadHandle w fault e =
    variant-back hexadecimal_reads faults.BadHandle fault_text FaultFits (codes "bad-handle ") (λ a h. h) (λ a. refl) w fault e
behind-back words.BadFlags w fault e =
    variant-back hexadecimal_reads faults.BadFlags fault_text FaultFits (codes "bad-flags ") (λ a h. h) (λ a. refl) w fault e
behind-back words.ClosingHere w fault e =
    variant-back name_reads faults.ClosingHere fault_text FaultFits (codes "closing-here ") (λ a h. h) (λ a. refl) w fault e
behind-back words.BadNamespace w fault e =
    variant-back hexadecimal_reads faults.BadNamespace fault_text FaultFits (codes "bad-namespace ") (λ a h. h) (λ a. refl) w fault e

bare-back : (w : List ℕ) (fault : DlFault) → bare_fault w ≡ Some fault → IsFault w fault
unfolding fault_text
bare-back w fault e = by (bytes_eq w (codes "namespaces-full")) (bytes_eq w (codes "name-too-long")) refl refl e
  where
    by : (a b : Bool) → bytes_eq w (codes "namespaces-full") ≡ a → bytes_eq w (codes "name-too-long") ≡ b
        → (if a then Some faults.NamespacesFull else (if b then Some faults.NameTooLong else None)) ≡ Some fault → IsFault w fault
    by true b ea eb e = subst (IsFault w) (same_Some _ _ e) (tt, sym ((bytes_eq-Decides w (codes "namespaces-full")).0 ea))
    by false true ea eb e = subst (IsFault w) (same_Some _ _ e) (tt, sym ((bytes_eq-Decides w (codes "name-too-long")).0 eb))
    by false false ea eb e = absurd (none-some fault e)

fault-back : (w : List ℕ) (fault : DlFault) → fault_of w ≡ Some fault → IsFault w fault
unfolding fault_of
fault-back w fault e = by (cut 32 w) refl e
  where
    by : (c : Option (List ℕ × List ℕ)) → cut 32 w ≡ c → fault_by w c ≡ Some fault → IsFault w fault
    by None ec e = bare-back w fault e
    by (Some p) ec e = bound (fault_word p.0) (λ word. fault_behind word p.1) fault e (λ k ek eb.
        let it = behind-back k p.1 fault eb in
        (it.0, it.1 ∙ ap (λ x. x ++ 32 ∷ p.1) (word_back p.0 k ek) ∙ cut-back 32 w p ec))

pub fault_reads : Reads fault_of fault_text FaultFits
fault_reads = record { there = fault-there; back = fault-back }
