-- A copied doubleword, by what the hart has of what it passes.
use Rattle.std.specs.Prelude.{ℕ, ◌++◌, List, [], take, Option, Some, None}
use Rattle.rv_hart.specs.Registers.{Registers}
use Rattle.hart_moves.specs.Copying.{Copy, bytes_from, first_left, grown, with_bytes}
use Rattle.hart_moves.specs.Due.{name_start, write_count}
use Rattle.hart_moves.specs.Harts.{Phase}
use Rattle.hart_moves.specs.Registers.{a0, a1, a2}
use Rattle.hart_moves.specs.Services.{Service, service_at}

-- some bytes of a text that begins at an address, with one doubleword more, and so many at most
abbrev pub more_bytes : (most start : ℕ) → List ℕ → ℕ → List ℕ
more_bytes most start bytes word = take most (bytes ++ bytes_from (first_left start bytes) word)

-- what a service begins to copy
abbrev pub begun_by : Service → Phase
begun_by (Service.of_name n) = Phase.naming n []
begun_by Service.tls_get_addr = Phase.pairing []
begun_by Service.resolve = Phase.at_pc
begun_by Service.dlclose = Phase.at_pc
begun_by Service.dlerror = Phase.at_pc
begun_by Service.next_function = Phase.at_pc
begun_by Service.exit = Phase.at_pc

abbrev pub begun_at : Option Service → Phase
begun_at None = Phase.at_pc
begun_at (Some service) = begun_by service

abbrev pub begun : ℕ → Phase → Phase
begun pc Phase.at_pc = begun_at (service_at pc)
begun pc (Phase.naming n bytes) = Phase.naming n bytes
begun pc (Phase.versioning name bytes) = Phase.versioning name bytes
begun pc (Phase.named n name version) = Phase.named n name version
begun pc (Phase.waiting n name version for) = Phase.waiting n name version for
begun pc (Phase.pairing bytes) = Phase.pairing bytes
begun pc (Phase.writing bytes) = Phase.writing bytes
begun pc (Phase.storing text stored word more) = Phase.storing text stored word more

-- where a doubleword leaves a hart that copies
abbrev pub with_word : Copy → ℕ → List ℕ → ℕ → Phase
with_word copy start bytes word = with_bytes copy (grown copy start bytes word)

abbrev pub copied_phase : Registers → Phase → ℕ → Phase
copied_phase r Phase.at_pc word = Phase.at_pc
copied_phase r (Phase.naming n bytes) word = with_word (Copy.of_name n) (name_start n r) bytes word
copied_phase r (Phase.versioning name bytes) word = with_word (Copy.of_version name) (a2 r) bytes word
copied_phase r (Phase.named n name version) word = Phase.named n name version
copied_phase r (Phase.waiting n name version for) word = Phase.waiting n name version for
copied_phase r (Phase.pairing bytes) word = with_word Copy.of_pair (a0 r) bytes word
copied_phase r (Phase.writing bytes) word = with_word (Copy.of_text (write_count r)) (a1 r) bytes word
copied_phase r (Phase.storing text stored word more) next = Phase.storing text stored word more
