use Rattle.elf_object.proofs.segment.read_segments.Goals as goal

pub push_segment-requires : goal.push_segment-requires
push_segment-requires c =
    let same = c.as_slice-header-items.ensures in
    rw same (λ loaded some. (c.accepted_head.ensures.segments _ _ c.requires _ _ (rw same at c.loop-header-test.true) loaded).held some)
