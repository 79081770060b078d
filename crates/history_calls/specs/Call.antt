-- What a hart asks the linker for (dlopen(3), dlsym(3); psABI, "Program Linkage Table"; ELF Handling For Thread-Local Storage).
use Rattle.std.specs.Prelude.{ℕ, Bool, true, false, ◌==◌, if◌then◌else◌, List, take, Option, Some, None}
use Rattle.std.specs.Option.{option_map, option_map_or}
use Rattle.history_event.specs.declared.event.OpenAsk.{OpenAsk}
use Rattle.history_event.specs.declared.event.SymAsk.{SymAsk}
use Rattle.history_event.specs.declared.hart_end.HartEnd.{HartEnd}
use Rattle.history_state.specs.Asking.{is_too_long, new_namespace}
use Rattle.history_state.specs.Memory.{image_at}
use Rattle.history_state.specs.Objects.{home}
use Rattle.history_state.specs.State.{State}

pub data Call : Type 0 where
  -- a slot's function is called for the first time: the serial of the slot's object, and eight times the slot's number
  resolves : (owner eights : ℕ) → Call
  -- dlopen and dlmopen
  opens : OpenAsk → Call
  -- dlsym and dlvsym
  looks_up : SymAsk → Call
  -- dlclose, of a handle
  closes : ℕ → Call
  -- dlclose goes on: the destructors of these objects have run
  unmaps : List ℕ → Call
  -- dlerror
  asks_fault : Call
  -- __tls_get_addr, of a module's number and an offset
  locates : (number offset : ℕ) → Call
  -- write, of these bytes
  writes : List ℕ → Call
  -- the hart runs no further
  stops : HartEnd → Call

-- ---- the functions that a guest calls

-- the caller's namespace: that of the object whose pages hold the return address, the base where none does
unfoldable pub caller_namespace : State → ℕ → ℕ
caller_namespace s ra = option_map_or (λ m. option_map_or (λ ns. ns.id) (home s m.serial) 0) (image_at s ra) 0

-- of a name that is too long as many bytes are known as show that it is
abbrev pub known : List ℕ → List ℕ
known name = take 256 name

-- what dlopen asks for, of a caller in this namespace
abbrev pub dlopen_in : ℕ → Option (List ℕ) → ℕ → Call
dlopen_in caller name flags = opens (record { ns = Some caller; name = option_map known name; flags = flags })

abbrev pub dlopen : State → ℕ → Option (List ℕ) → ℕ → Call
dlopen s ra = dlopen_in (caller_namespace s ra)

-- LM_ID_NEWLM asks for a namespace of its own
abbrev pub asked_namespace : ℕ → Option ℕ
asked_namespace ns = if ns == new_namespace then None else Some ns

abbrev pub dlmopen : ℕ → Option (List ℕ) → ℕ → Call
dlmopen ns name flags = opens (record { ns = asked_namespace ns; name = option_map known name; flags = flags })

abbrev pub dlsym_in : ℕ → ℕ → List ℕ → Call
dlsym_in caller handle name = looks_up (record { ns = caller; handle = handle; name = known name; version = None })

abbrev pub dlsym : State → ℕ → ℕ → List ℕ → Call
dlsym s ra = dlsym_in (caller_namespace s ra)

-- beside a name that is too long no version is asked for
abbrev pub asked_version : Bool → List ℕ → Option (List ℕ)
asked_version true version = None
asked_version false version = Some (known version)

abbrev pub dlvsym_in : ℕ → ℕ → List ℕ → List ℕ → Call
dlvsym_in caller handle name version =
    looks_up (record { ns = caller; handle = handle; name = known name; version = asked_version (is_too_long name) version })

abbrev pub dlvsym : State → ℕ → ℕ → List ℕ → List ℕ → Call
dlvsym s ra = dlvsym_in (caller_namespace s ra)
