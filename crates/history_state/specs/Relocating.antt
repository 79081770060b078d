-- Which relocation of new objects is refused first (psABI, "Relocations"; dlopen(3)).
use Rattle.std.specs.Prelude.{ℕ, Bool, true, false, not, List, [], ◌∷◌, Option, Some, None, map, if◌then◌else◌}
use Rattle.std.specs.Option.{option_map_or, option_or}
use Rattle.ld_base.specs.declared.fault.DlFault.{DlFault}
use Rattle.ld_base.specs.declared.fault.DlFault.TheVariants as faults
use Rattle.ld_base.specs.declared.linking.Choice.{Choice}
use Rattle.ld_base.specs.declared.linking.Choice.TheVariants.{Def, WeakZero, Missing}
use Rattle.ld_base.specs.declared.linking.Loaded.{Loaded}
use Rattle.ld_base.specs.declared.linking.Want.{Want}
use Rattle.ld_base.specs.declared.linking.Want.TheVariants as want
use Rattle.ld_base.specs.declared.object.Reloc.{Reloc}
use Rattle.ld_base.specs.declared.object.Symbol.{Symbol}
use Rattle.relocator.specs.Storage.{lacks_offset}
use Rattle.scope_rule.specs.Choose.{want_of}
use Rattle.scope_rule.specs.Relocation.{choice_at}
use Rattle.scope_rule.specs.Seen.{Seen}
use Rattle.history_state.specs.State.{State}
use Rattle.history_state.specs.Addresses.{leads_to_code, symbol_at}
use Rattle.history_state.specs.Bound.{binding_of, binds_now, lazy_word, place_of}

-- the first of some faults
abbrev pub first_fault : {X : Type 0} → (X → Option DlFault) → List X → Option DlFault
first_fault fault [] = None
first_fault fault (x ∷ rest) = option_or (fault x) (first_fault fault rest)

-- the version that is wanted, where it has a name
abbrev pub version_of : Want → Option (List ℕ)
version_of (want.Version version) = Some version
version_of want.Plain = None
version_of want.Dlsym = None
version_of (want.Dlvsym version) = Some version

-- a relocation's symbol has no definition
abbrev pub missing_of : Loaded → Option Symbol → DlFault
missing_of o (Some symbol) = faults.MissingSymbol (Some o.path) symbol.name (version_of (want_of o.object symbol))
missing_of o None = faults.MissingSymbol (Some o.path) [] None

abbrev pub missing_symbol : Loaded → Reloc → DlFault
missing_symbol o r = missing_of o (symbol_at o.object r.symbol)

abbrev pub not_code : Loaded → Reloc → DlFault
not_code o r = faults.NotCode o.path (option_map_or (λ symbol. symbol.name) (symbol_at o.object r.symbol) [])

abbrev pub is_missing : Choice → Bool
is_missing (Def serial index) = false
is_missing WeakZero = false
is_missing Missing = true

-- a relocation of DT_RELA: nothing defines its symbol, or a TLS_TPREL64's object has no static offset
abbrev pub reloc_fault_by : State → Loaded → Reloc → Choice → Option DlFault
reloc_fault_by s o r choice =
    if is_missing choice then Some (missing_symbol o r)
    else if lacks_offset o.serial (map place_of s.modules) (r, binding_of s r choice) then Some (faults.NeedsStaticTls o.path)
    else None

abbrev pub reloc_fault : State → Seen → Loaded → Reloc → Option DlFault
reloc_fault s ns o r = reloc_fault_by s o r (choice_at ns o r)

-- a slot that is bound at load: nothing defines its symbol, or what does isn't code
abbrev pub slot_fault_by : State → Loaded → Reloc → Choice → Option DlFault
slot_fault_by s o r choice =
    if is_missing choice then Some (missing_symbol o r)
    else if not (leads_to_code s (lazy_word o r) choice) then Some (not_code o r)
    else None

abbrev pub slot_fault : State → Seen → Bool → Loaded → Reloc → Option DlFault
slot_fault s ns now o r = if binds_now now o.object then slot_fault_by s o r (choice_at ns o r) else None

-- relocations in the file's order, DT_RELA before the slots
abbrev pub object_fault : State → Seen → Bool → Loaded → Option DlFault
object_fault s ns now o = option_or (first_fault (reloc_fault s ns o) o.object.relocs) (first_fault (slot_fault s ns now o) o.object.plt_relocs)

-- the first refusal of new objects, in load order
unfoldable pub relocation_fault : State → Seen → Bool → List Loaded → Option DlFault
relocation_fault s ns now added = first_fault (object_fault s ns now) added
