use Rattle.std.proofs.Common.{◌≡◌, ◌++◌, take, drop, true}
use Rattle.std.specs.List.{flat_map, AllByRecursion}
use Rattle.std.specs.String.{string_bytes}
use Rattle.scope_rule.specs.Relocation.{names_symbols}
use Rattle.scope_rule.specs.Seen.{seen_in}
use Rattle.cli_text.specs.Lines.{slot_lines}
use Rattle.cli_text.specs.Refusal.{first_refusal}
use Rattle.cli_text.proofs.objects.refuse_or_write_all.Given as goal

-- the first refusal of the rest is that of all, and the slots of the objects so far are written
abbrev pub invariant-loop-place : goal.invariant-loop-place
invariant-loop-place l = record {
  first : first_refusal l.ns l.now (drop l.place l.object-items) ≡ first_refusal l.ns l.now l.ns.objects;
  written : string_bytes l.text ≡ string_bytes l.fn.text ++ flat_map (slot_lines (seen_in l.ns)) (take l.place l.object-items);
  rest : AllByRecursion (λ o. names_symbols o.object ≡ true) (drop l.place l.object-items);
}
