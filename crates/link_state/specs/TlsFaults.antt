-- Why a block can't be made, as its caller is told.
use Rattle.link_state.specs.declared.faults.TlsFault.{TlsFault}
use Rattle.link_state.specs.declared.faults.TlsFault.TheVariants as faults
use Rattle.link_open_images.specs.declared.new_blocks.placing.BlockFault.{BlockFault}
use Rattle.link_open_images.specs.declared.new_blocks.placing.BlockFault.TheVariants as blocks

abbrev pub tls_fault : BlockFault → TlsFault
tls_fault (blocks.NoRoom pages) = faults.NoRoom pages
tls_fault blocks.Memory = faults.Memory
