-- What a look-up of a symbol answers (dlsym(3), dlvsym(3)).
use Rattle.std.specs.Prelude.{◌≡◌, ℕ, ◌+◌, ◌%◌, ◌^◌, Bool, true, false, ◌==◌, if◌then◌else◌, List, length, find, Option, Some, None, IsTrue, IsSome}
use Rattle.std.specs.Option.{option_map, option_map_or}
use Rattle.std.specs.List.{list_any}
use Rattle.address_space.specs.Pages.{Fits, IsFirstFit}
use Rattle.ld_base.specs.Symbol.{is_tls}
use Rattle.ld_base.specs.declared.fault.DlFault.{DlFault}
use Rattle.ld_base.specs.declared.fault.DlFault.TheVariants as faults
use Rattle.ld_base.specs.declared.linking.Choice.TheVariants.{Def}
use Rattle.ld_base.specs.declared.linking.Loaded.{Loaded}
use Rattle.ld_base.specs.declared.linking.Want.{Want}
use Rattle.ld_base.specs.declared.linking.Want.TheVariants as want
use Rattle.ld_base.specs.declared.object.TlsSeg.{TlsSeg}
use Rattle.history_event.specs.declared.event.SymAnswer.{SymAnswer}
use Rattle.history_event.specs.declared.event.SymAnswer.TheVariants as syms
use Rattle.history_event.specs.declared.event.SymAsk.{SymAsk}
use Rattle.scope_rule.specs.Searching.{in_breadth, in_global}
use Rattle.scope_rule.specs.Seen.{seen_in}
use Rattle.scope_rule.specs.declared.namespace.Namespace.{Namespace}
use Rattle.history_state.specs.State.{State}
use Rattle.history_state.specs.Addresses.{address, chosen_symbol}
use Rattle.history_state.specs.Areas.{free_pages}
use Rattle.history_state.specs.Asking.{is_too_long}
use Rattle.history_state.specs.Objects.{has_namespace, namespace_of, object_at}
use Rattle.history_state.specs.Storage.{block_align, block_pages, module_of, residue, tls_block}

-- ---- where a name is searched

-- dlvsym names a version
abbrev pub wanted_of : Option (List ℕ) → Want
wanted_of None = want.Dlsym
wanted_of (Some version) = want.Dlvsym version

abbrev pub is_opened : ℕ → Namespace → Bool
is_opened handle ns = list_any (λ r. r.root == handle) ns.opens

-- the namespace in which the handle's object was opened
abbrev pub opened_in : State → ℕ → Option Namespace
opened_in s handle = find (is_opened handle) s.namespaces

-- what a search finds: none where there is no namespace to search, or nothing in it. The handle 0 is RTLD_DEFAULT.
abbrev pub found_default : State → SymAsk → Option (Option (ℕ × ℕ))
found_default s ask = option_map (λ ns. in_global (seen_in ns) ask.name (wanted_of ask.version)) (namespace_of s ask.ns)

abbrev pub found_on_handle : State → SymAsk → Option (Option (ℕ × ℕ))
found_on_handle s ask = option_map (λ ns. in_breadth (seen_in ns) ask.handle ask.name (wanted_of ask.version)) (opened_in s ask.handle)

unfoldable pub search : State → SymAsk → Option (Option (ℕ × ℕ))
search s ask = if ask.handle == 0 then found_default s ask else found_on_handle s ask

-- ---- what it answers

-- the symbol is one of thread-local storage
abbrev pub is_storage_symbol : State → ℕ → ℕ → Bool
is_storage_symbol s serial index = option_map_or (λ symbol. is_tls symbol) (chosen_symbol s (Def serial index)) false

abbrev pub symbol_value : State → ℕ → ℕ → ℕ
symbol_value s serial index = option_map_or (λ symbol. symbol.value) (chosen_symbol s (Def serial index)) 0

-- the address of a definition: that of thread-local storage lies in the hart's block
abbrev pub IsAddressBy : Bool → State → ℕ → ℕ → ℕ → ℕ → Type 0
IsAddressBy false s hart serial index value = value ≡ address s (Def serial index)
IsAddressBy true s hart serial index value = (block : ℕ) × (tls_block s hart serial ≡ Some block) × (value ≡ (block + symbol_value s serial index) % 2 ^ 64)

abbrev pub IsAddress : State → ℕ → ℕ → ℕ → ℕ → Type 0
IsAddress s hart serial index value = IsAddressBy (is_storage_symbol s serial index) s hart serial index value

-- ---- names

abbrev pub is_version_long : Option (List ℕ) → Bool
is_version_long None = false
is_version_long (Some version) = is_too_long version

-- of a name that is too long 256 bytes are known, and no version then; or the version is too long
pub data IsTooLong (ask : SymAsk) : Type 0 where
  name : length ask.name ≡ 256 → ask.version ≡ None → IsTooLong ask
  version : is_too_long ask.name ≡ false → (text : List ℕ) → ask.version ≡ Some text → length text ≡ 256 → IsTooLong ask

pub record IsShort (ask : SymAsk) : Type 0 where
  pub name : is_too_long ask.name ≡ false
  pub version : is_version_long ask.version ≡ false

-- ---- a new block

-- the object has a module, and a segment of thread-local storage
pub record HasStorage (s : State) (serial : ℕ) : Type 0 where
  pub object : Loaded
  pub mapped : object_at s serial ≡ Some object
  pub seg : TlsSeg
  pub storage : object.object.tls ≡ Some seg
  pub has_module : IsSome (module_of s serial)

-- a variable of thread-local storage that a look-up finds is defined by an object that has some
abbrev pub SymbolsAreStored : State → Type 0
SymbolsAreStored s = (ask : SymAsk) (serial index : ℕ) → search s ask ≡ Some (Some (serial, index)) → IsTrue (is_storage_symbol s serial index)
    → HasStorage s serial

-- a late module of which the hart has no block yet
pub record WantsBlock (s : State) (hart serial : ℕ) (seg : TlsSeg) : Type 0 where
  pub object : Loaded
  pub mapped : object_at s serial ≡ Some object
  pub storage : object.object.tls ≡ Some seg
  pub has_module : IsSome (module_of s serial)
  pub none : tls_block s hart serial ≡ None

-- a hart's first use of a module: the block stands at its residue in the first pages that have room
pub record MayHaveBlock (s : State) (hart serial address : ℕ) : Type 0 where
  pub seg : TlsSeg
  pub wants : WantsBlock s hart serial seg
  pub pages : ℕ
  pub first : IsFirstFit (free_pages s.ranges) (block_pages seg) (block_align seg) pages
  pub is : address ≡ pages + residue seg

-- there is no room for it
pub record HasNoBlock (s : State) (hart serial count : ℕ) : Type 0 where
  pub seg : TlsSeg
  pub wants : WantsBlock s hart serial seg
  pub none : (at : ℕ) → ¬ (Fits (free_pages s.ranges) (block_pages seg) (block_align seg) at)
  pub is : count ≡ block_pages seg

-- ---- refusals, in their order

-- the object that a missing symbol's fault names: the handle's root, none for RTLD_DEFAULT
abbrev pub searched_object : State → ℕ → Option (List ℕ)
searched_object s handle = if handle == 0 then None else option_map (λ o. o.path) (object_at s handle)

pub data RefusesSymbol (s : State) (hart : ℕ) (ask : SymAsk) : DlFault → Type 0 where
  name_too_long : IsTooLong ask → RefusesSymbol s hart ask faults.NameTooLong
  bad_handle : IsShort ask → (ask.handle == 0) ≡ false → opened_in s ask.handle ≡ None → RefusesSymbol s hart ask (faults.BadHandle ask.handle)
  missing : IsShort ask → search s ask ≡ Some None
      → RefusesSymbol s hart ask (faults.MissingSymbol (searched_object s ask.handle) ask.name ask.version)
  no_room : (serial index pages : ℕ) → IsShort ask → search s ask ≡ Some (Some (serial, index)) → IsTrue (is_storage_symbol s serial index)
      → HasNoBlock s hart serial pages → RefusesSymbol s hart ask (faults.AddressSpaceFull pages)

pub record FindsSymbol (s : State) (hart : ℕ) (ask : SymAsk) (serial index value : ℕ) : Type 0 where
  pub short : IsShort ask
  pub found : search s ask ≡ Some (Some (serial, index))
  pub is : IsAddress s hart serial index value

abbrev pub SearchAnswers : State → ℕ → SymAsk → SymAnswer → Type 0
SearchAnswers s hart ask (syms.Found serial index value) = FindsSymbol s hart ask serial index value
SearchAnswers s hart ask (syms.Refused fault) = RefusesSymbol s hart ask fault

-- the caller's namespace is there
abbrev pub MayAnswer : State → ℕ → SymAsk → SymAnswer → Type 0
MayAnswer s hart ask answer = IsTrue (has_namespace s ask.ns) × SearchAnswers s hart ask answer
