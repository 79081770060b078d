use Rattle.std.proofs.Common.{◌≡◌, ℕ, List, take, drop, Some}
use Rattle.std.specs.Prelude.{◌==◌}
use Rattle.elf_head.specs.AcceptancePart.Lemmas.Reading.{stands_from-before, before_from-stands, stands_within, stands_take}
use Rattle.elf_head.specs.DynTable.TagNumbers.{dt_null}
use Rattle.elf_head.specs.DynTable.Tag.{has_tag, all_tags, tags_of}
use Rattle.elf_head.specs.DynTable.Name.{string_at, IsStringAt}
use Rattle.elf_head.proofs.dyn_table.law.one_reading.Goals as goal

pub returns-clause-tags : goal.returns-clause-tags
unfolding tags_of
returns-clause-tags c bytes tags =
    (stands_from-before (has_tag dt_null) (all_tags bytes) tags, before_from-stands (has_tag dt_null) (all_tags bytes) tags)

is_string : (strings : List ℕ) (offset : ℕ) (name : List ℕ) → string_at strings offset ≡ Some name → IsStringAt strings offset name
unfolding string_at
is_string strings offset name e =
    let s = stands_within (λ b. b == 0) 4096 (drop offset strings) name (stands_from-before (λ b. b == 0) (take 4096 (drop offset strings)) name e) in
    record { ended = s.0; short = s.1 }

string_is : (strings : List ℕ) (offset : ℕ) (name : List ℕ) → IsStringAt strings offset name → string_at strings offset ≡ Some name
unfolding string_at
string_is strings offset name s =
    before_from-stands (λ b. b == 0) (take 4096 (drop offset strings)) name (stands_take (λ b. b == 0) 4096 (drop offset strings) name s.ended s.short)

pub returns-clause-string : goal.returns-clause-string
returns-clause-string c strings name offset = (is_string strings offset name, string_is strings offset name)
