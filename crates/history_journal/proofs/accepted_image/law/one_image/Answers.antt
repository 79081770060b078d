use Rattle.std.proofs.Common.{ℕ, Bool, List}
use Rattle.ld_base.specs.declared.object.Object.{Object}
use Rattle.elf_object.specs.Spells.{Spells}
use Rattle.seg_image.specs.Accepted.{Accepted}
use Rattle.history_journal.proofs.AcceptedImage.Accepting.{is_accepted}
use Rattle.history_journal.proofs.accepted_image.law.one_image.Goals as goal

from_spelled : goal.After-one_object → (bytes : List ℕ) (program : Bool) (o : Object) → Spells bytes program o → Accepted o
from_spelled c bytes program o s =
    let read = (c.one_verdict.ensures.accepted bytes s.head).1 s.is_head in
    is_accepted bytes s.head o s.is_head (c.accepted_head.ensures.segments bytes s.head read) s.say.segments s.parts (c.accepted_tables.ensures bytes s.head program s.parts s.are_parts)
    s.versions.versym s.say.symbols s.say.relocs s.say.relr s.say.plt_relocs s.say.pltgot

pub returns-clause-spelled : goal.returns-clause-spelled
returns-clause-spelled c = from_spelled c

pub returns-clause-read : goal.returns-clause-read
returns-clause-read c bytes program object table e = from_spelled c bytes program object ((c.one_object.ensures.verdict bytes program object).0 (table, e))
