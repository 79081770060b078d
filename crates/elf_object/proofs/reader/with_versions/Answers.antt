use Rattle.std.proofs.Common.{◌∙◌, ap, length, arith}
use Rattle.std.proofs.lemmas.List.{length-set}
use Rattle.elf_object.specs.Object.{with_versions}
use Rattle.elf_object.proofs.Versioned.{next_version, all_versions}
use Rattle.elf_object.proofs.reader.with_versions.Goals as goal

pub loop-index-preserved : goal.loop-index-preserved
loop-index-preserved c = record {
  versions = next_version c.args.versym.now c.args.symbols c.loop-index.versioned.items c.loop-index.index c.version_at.result c.index_mut.result.now c.loop-index.invariant.versions c.loop-index.invariant.len (omega (arith, c.loop-index-test.true, c.len-index-end.ensures, ap length c.into_vec-versioned.ensures.value, c.loop-index.invariant.len)) c.index_mut.ensures.value c.version_at.ensures;
  len = length-set c.loop-index.versioned.items c.loop-index.index _ ∙ c.loop-index.invariant.len;
}

pub returns : goal.returns
unfolding with_versions
returns c = c.from_vec.ensures ∙ all_versions c.args.versym.now c.args.symbols _ c.loop-index.index (omega (arith, c.loop-index-test.false, c.len-index-end.ensures, ap length c.into_vec-versioned.ensures.value)) c.loop-index.invariant.versions
