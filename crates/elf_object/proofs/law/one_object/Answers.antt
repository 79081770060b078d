use Rattle.elf_object.proofs.Laws.{Readings, names_of_read, never_both, one_broken, one_spelled, read_of, spelled_or_broken, table_of_read, verdict}
use Rattle.elf_object.proofs.law.one_object.Goals as goal

readings : goal.After-one_verdict-4 → Readings
readings c = record {
  head = λ bytes. record { accepted = c.one_verdict.ensures.accepted bytes; refused = c.one_verdict.ensures.refused bytes };
  parts = λ bytes head program. record { accepted = c.one_verdict-2.ensures.accepted bytes head program; refused = c.one_verdict-2.ensures.refused bytes head program };
  kept_parts = c.accepted_tables.ensures;
  versions = λ bytes head parts. record { accepted = c.one_verdict-3.ensures.accepted bytes head parts; refused = c.one_verdict-3.ensures.refused bytes head parts };
  table = λ bytes head parts. record { accepted = c.one_verdict-4.ensures.accepted bytes head parts; refused = c.one_verdict-4.ensures.refused bytes head parts };
  same_table = c.one_verdict-4.ensures.versions;
}

pub returns : goal.returns
returns c = record {
  verdict = λ bytes program object. (
    λ (table, e). (((verdict (readings c) bytes program).accepted (object, table)).0 e).0,
    λ s. (s.table, read_of (readings c) bytes program object s),
  );
  one = one_spelled (readings c);
  exactly = spelled_or_broken (readings c);
  never_both = never_both (readings c);
  one_fault = one_broken (readings c);
  refused = λ bytes program. (verdict (readings c) bytes program).refused;
  table = table_of_read (readings c);
  names = names_of_read (readings c);
}
