-- The dynamic table (gABI, "Dynamic Section").
use Rattle.std.specs.Prelude.{ℕ, ◌+◌, ◌/◌, ◌%◌, Bool, ◌==◌, List, length, reverse, map, filter, find, count_by, Option, option_map, is_some, unwrap_or}
use Rattle.ld_base.specs.Field.{field}
use Rattle.ld_base.specs.declared.parts.Tag.{Tag}
use Rattle.elf_head.specs.AcceptancePart.Before.{before, StandsBefore}
use Rattle.elf_head.specs.AcceptancePart.Table.{table}
use Rattle.elf_head.specs.DynTable.TagNumbers.{dt_null}

-- d_tag and d_un of the entry at a place
unfoldable pub tag_at : List ℕ → ℕ → Tag
tag_at bytes at = record { tag = field 8 bytes at; value = field 8 bytes (at + 8) }

-- the whole entries of the table's bytes
unfoldable pub all_tags : List ℕ → List Tag
all_tags bytes = table (tag_at bytes) 0 16 (length bytes / 16)

-- the entry is of this tag
abbrev pub has_tag : ℕ → Tag → Bool
has_tag tag t = t.tag == tag

-- the entries before the first DT_NULL, which ends the table; none where nothing ends it
unfoldable pub tags_of : List ℕ → Option (List Tag)
tags_of bytes = before (has_tag dt_null) (all_tags bytes)

-- the same as a relation: these entries stand before a DT_NULL, and none of them is one
abbrev pub EndsAtNull : List ℕ → List Tag → Type 0
EndsAtNull bytes tags = StandsBefore (has_tag dt_null) tags (all_tags bytes)

-- the values of the entries of a tag, in order
unfoldable pub values_of : List Tag → ℕ → List ℕ
values_of tags tag = map (λ t. t.value) (filter (has_tag tag) tags)

-- the value of a tag: where it stands more than once, the last one counts
unfoldable pub last_of : List Tag → ℕ → Option ℕ
last_of tags tag = option_map (λ t. t.value) (find (has_tag tag) (reverse tags))

-- how many entries are of a tag
unfoldable pub count_of : List Tag → ℕ → ℕ
count_of tags tag = count_by (has_tag tag) tags

-- the value of a tag, 0 where it doesn't stand
abbrev pub value_of : List Tag → ℕ → ℕ
value_of tags tag = unwrap_or (last_of tags tag) 0

-- the tag stands
abbrev pub has : List Tag → ℕ → Bool
has tags tag = is_some (last_of tags tag)

-- the tag's value has this bit, the lowest being 0
abbrev pub has_flag : List Tag → ℕ → ℕ → Bool
has_flag tags tag bit = value_of tags tag / bit % 2 == 1
