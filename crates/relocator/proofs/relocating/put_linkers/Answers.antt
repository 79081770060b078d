use Rattle.std.proofs.Common.{◌≡◌, ◌==◌, ◌∙◌, false, length, sym, arith}
use Rattle.seg_image.specs.Images.{changed_at}
use Rattle.relocator.proofs.Linkers.{low_place, table_of, with_linkers, without_linkers}
use Rattle.relocator.proofs.relocating.put_linkers.Goals as goal

pub returns-then-is_empty : goal.returns-then-is_empty
returns-then-is_empty c = λ base value is.
    without_linkers c.args.object.now c.args.serial base value c.args.image.now (sym c.is_empty.ensures ∙ c.if-is_empty.true) is

pub overflow_add-table : goal.overflow_add-table
overflow_add-table c =
    let o = c.args.object.now in
    let some : (length o.plt_relocs == 0) ≡ false = sym c.is_empty.ensures ∙ c.if-is_empty.false in
    let t = table_of o c.requires.accepted c.in-Some.table some c.in-Some.is in
    let low = low_place o c.requires.accepted c.in-Some.table t.first in
    omega arith

pub returns-in-Some : goal.returns-in-Some
returns-in-Some c = λ base value is.
    let o = c.args.object.now in
    let some : (length o.plt_relocs == 0) ≡ false = sym c.is_empty.ensures ∙ c.if-is_empty.false in
    let first = c.set_value.ensures.set base value is in
    let second = c.set_value-in-Some.ensures.set base (changed_at value c.in-Some.table 0x80f000) first in
    with_linkers o c.args.serial c.in-Some.table some c.in-Some.is base value c.set_value-in-Some.new.self (rw c.number.ensures at second)
