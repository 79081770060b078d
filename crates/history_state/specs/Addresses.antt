-- What a choice comes to: S, the address of its definition (psABI, "Relocations"), and whether it is code.
use Rattle.std.specs.Prelude.{ℕ, ◌+◌, ◌*◌, ◌%◌, ◌^◌, Bool, true, false, not, ◌&&◌, ◌==◌, nat_le, nat_lt, if◌then◌else◌, Option, Some, None}
use Rattle.std.specs.List.{slice_get}
use Rattle.std.specs.Option.{option_map_or, option_and_then}
use Rattle.ld_base.specs.Symbol.{is_absolute}
use Rattle.ld_base.specs.declared.linking.Choice.{Choice}
use Rattle.ld_base.specs.declared.linking.Choice.TheVariants.{Def, WeakZero, Missing}
use Rattle.ld_base.specs.declared.linking.Loaded.{Loaded}
use Rattle.ld_base.specs.declared.linking.Role.{Role}
use Rattle.ld_base.specs.declared.linking.Role.TheVariants.{Rx}
use Rattle.ld_base.specs.declared.object.Object.{Object}
use Rattle.ld_base.specs.declared.object.Symbol.{Symbol}
use Rattle.seg_image.specs.Pages.{guest_address, own_address}
use Rattle.seg_image.specs.Roles.{role_of}
use Rattle.history_state.specs.State.{State}
use Rattle.history_state.specs.Objects.{object_at}

-- the linker's own page, and its functions there: the one of symbol i stands at sixteen times i
abbrev pub linker_page : ℕ
linker_page = 0x80f000

abbrev pub is_linkers_page : ℕ → Bool
is_linkers_page a = nat_le linker_page a && nat_lt a 0x810000

abbrev pub linker_function : ℕ → ℕ
linker_function index = linker_page + 16 * index

-- the address of an object's symbol, of 64 bits: its value and the base, or the value alone (SHN_ABS)
abbrev pub symbol_address : Loaded → Symbol → ℕ
symbol_address o symbol = if is_absolute symbol then symbol.value % 2 ^ 64 else guest_address o.base symbol.value

abbrev pub symbol_at : Object → ℕ → Option Symbol
symbol_at o index = slice_get o.symbols index

abbrev pub definition_address : Option Loaded → ℕ → ℕ
definition_address None index = 0
definition_address (Some o) index = option_map_or (symbol_address o) (symbol_at o.object index) 0

-- S
unfoldable pub address : State → Choice → ℕ
address s (Def serial index) = if serial == 0 then linker_function index else definition_address (object_at s serial) index
address s WeakZero = 0
address s Missing = 0

-- the symbol that was chosen, where an object has it
abbrev pub chosen_symbol : State → Choice → Option Symbol
chosen_symbol s (Def serial index) = option_and_then (λ o. symbol_at o.object index) (object_at s serial)
chosen_symbol s WeakZero = None
chosen_symbol s Missing = None

abbrev pub is_rx : Role → Bool
is_rx Rx = true
is_rx other = false

-- the address lies in executable words of the object
abbrev pub is_code_in : Loaded → ℕ → Bool
is_code_in o a = is_rx (role_of o.object (own_address o.base a))

unfoldable pub is_code_of : State → ℕ → ℕ → Bool
is_code_of s serial a = if serial == 0 then is_linkers_page a else option_map_or (λ o. is_code_in o a) (object_at s serial) false

-- a slot may be bound to this: to 0 by a weak symbol without a definition, or to code of the chosen object, which differs from what the
-- slot holds until then
unfoldable pub leads_to_code : State → ℕ → Choice → Bool
leads_to_code s lazy (Def serial index) = is_code_of s serial (address s (Def serial index)) && not (address s (Def serial index) == lazy)
leads_to_code s lazy WeakZero = true
leads_to_code s lazy Missing = false
