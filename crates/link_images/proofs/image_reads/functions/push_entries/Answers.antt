use Rattle.std.proofs.Common.{◌+◌, ◌≤◌, ◌^◌, arith}
use Rattle.link_images.proofs.ImageReads.Places.{array_inside, array_low}
use Rattle.link_images.proofs.image_reads.functions.push_entries.Goals as goal

pub push_words-requires-clause-aligned : goal.push_words-requires-clause-aligned
push_words-requires-clause-aligned c = (c.requires.array c.in-Some.array c.in-Some.is).aligned

pub push_words-requires-clause-low : goal.push_words-requires-clause-low
push_words-requires-clause-low c =
    let low : c.in-Some.array.start + c.in-Some.array.size ≤ 2 ^ 32 = array_low c.args.object.now c.requires.accepted c.in-Some.array (c.requires.array c.in-Some.array c.in-Some.is) in
    omega (arith, low)

pub push_words-requires-clause-inside : goal.push_words-requires-clause-inside
push_words-requires-clause-inside c = array_inside c.args.object.now c.in-Some.array (c.requires.array c.in-Some.array c.in-Some.is)
