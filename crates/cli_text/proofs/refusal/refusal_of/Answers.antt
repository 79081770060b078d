use Rattle.std.proofs.Common.{length}
use Rattle.cli_text.proofs.Slots.{named_first, named_second}
use Rattle.cli_text.proofs.refusal.refusal_of.Goals as goal

pub first_missing-requires-clause-named : goal.first_missing-requires-clause-named
first_missing-requires-clause-named c = rw c.as_slice-relocs.ensures (named_first (length c.args.owner.now.object.symbols) c.args.owner.now.object.relocs c.args.owner.now.object.plt_relocs c.requires.names)

pub first_missing-requires-in-None-clause-named : goal.first_missing-requires-in-None-clause-named
first_missing-requires-in-None-clause-named c = rw c.as_slice.ensures (named_second (length c.args.owner.now.object.symbols) c.args.owner.now.object.relocs c.args.owner.now.object.plt_relocs c.requires.names)
