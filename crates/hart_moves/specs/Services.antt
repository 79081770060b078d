-- The services of the linker's own page, by their addresses.
use Rattle.std.specs.Prelude.{ℕ, ◌==◌, if◌then◌else◌, Option, Some, None}
use Rattle.hart_moves.specs.Harts.{Naming}

pub data Service : Type 0 where
  -- a slot is called for the first time (psABI, "Procedure Linkage Table")
  resolve : Service
  -- dlopen(3), dlmopen(3), dlsym(3), dlvsym(3)
  of_name : Naming → Service
  dlclose : Service
  dlerror : Service
  tls_get_addr : Service
  -- the next constructor or destructor
  next_function : Service
  -- the end of a hart
  exit : Service

-- a fetch at one of these addresses is a turn of the service; all other words of the page are ebreaks
abbrev pub service_at : ℕ → Option Service
service_at pc =
    if pc == 0x80f000 then Some Service.resolve
    else if pc == 0x80f010 then Some (Service.of_name Naming.dlopen)
    else if pc == 0x80f020 then Some (Service.of_name Naming.dlmopen)
    else if pc == 0x80f030 then Some (Service.of_name Naming.dlsym)
    else if pc == 0x80f040 then Some (Service.of_name Naming.dlvsym)
    else if pc == 0x80f050 then Some Service.dlclose
    else if pc == 0x80f060 then Some Service.dlerror
    else if pc == 0x80f070 then Some Service.tls_get_addr
    else if pc == 0x80f080 then Some Service.next_function
    else if pc == 0x80f090 then Some Service.exit
    else None
