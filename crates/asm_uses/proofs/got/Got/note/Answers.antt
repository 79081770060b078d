use Rattle.std.proofs.Common.{refl}
use Rattle.std.proofs.lemmas.Result.{on_ok_weaker}
use Rattle.asm_uses.proofs.Words.{noted_address, noted_pair, noted_offset}
use Rattle.asm_uses.proofs.got.Got.note.Goals as goal

pub returns-in-Address : goal.returns-in-Address
returns-in-Address c =
    let old = c.args.self.now in
    rw c.in-Address.is (on_ok_weaker c.note.result (noted_address c.args.name.now old _ refl refl refl refl) c.note.ensures)

pub returns-in-Pair : goal.returns-in-Pair
returns-in-Pair c =
    let old = c.args.self.now in
    rw c.in-Pair.is (on_ok_weaker c.note-in-Pair.result (noted_pair c.args.name.now old _ refl refl refl refl) c.note-in-Pair.ensures)

pub returns-in-Offset : goal.returns-in-Offset
returns-in-Offset c =
    let old = c.args.self.now in
    rw c.in-Offset.is (on_ok_weaker c.note-in-Offset.result (noted_offset c.args.name.now old _ refl refl refl refl) c.note-in-Offset.ensures)
