use Rattle.std.proofs.Common.{◌≡◌, ◌<◌, ◌∙◌, ◌==◌, false, length, sym, arith}
use Rattle.ld_base.specs.declared.linking.Role.TheVariants.{Ro}
use Rattle.seg_image.specs.Pages.{low_of}
use Rattle.seg_image.proofs.Marks.{linkers_after, table_is}
use Rattle.seg_image.proofs.Ordered.{at_place}
use Rattle.seg_image.proofs.Steps.{length-with_role}
use Rattle.seg_image.proofs.making.mark_linkers.Goals as goal

pub returns-in-Some-clause-marked : goal.returns-in-Some-clause-marked
returns-in-Some-clause-marked c =
    let o = c.args.object.now in
    let some : (length o.plt_relocs == 0) ≡ false = sym c.is_empty.ensures ∙ c.if-is_empty.false in
    let t = table_is o c.requires.accepted c.in-Some.table some c.in-Some.is in
    let k = c.index_of.result in
    let j = c.index_of-in-Some.result in
    let first = at_place o c.requires.accepted k _ c.index_of.ensures.low c.index_of.ensures.high t.first.aligned in
    let second = at_place o c.requires.accepted j _ c.index_of-in-Some.ensures.low c.index_of-in-Some.ensures.high t.second.aligned in
    let in_first : k < length c.args.words.now = (let all = c.requires.all in let less = c.index_of.ensures.within in omega arith) in
    let in_second : j < length c.set_role.new.self = rw (c.set_role.ensures, length-with_role c.args.words.now k Ro) (let all = c.requires.all in let less = c.index_of-in-Some.ensures.within in omega arith) in
    λ word are. linkers_after o (low_of o) word c.args.words.now c.set_role.new.self c.set_role-in-Some.new.self c.in-Some.table k j some c.in-Some.is
    first second in_first in_second c.set_role.ensures c.set_role-in-Some.ensures are
