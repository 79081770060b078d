-- What the dynamic table tells of a tag.
use Rattle.std.proofs.Common.{◌≡◌, ◌∙◌, ap, sym, refl, ℕ, ◌+◌, ◌*◌, ◌==◌, ◌||◌, Bool, true, false, nat_lt, is_some, if◌then◌else◌, List, [], ◌∷◌, ◌++◌, length, map, reverse, find}
use Rattle.std.specs.Prelude.{Some, None, Option, option_map, option_to_list}
use Rattle.std.specs.Option.{option_or}
use Rattle.std.specs.Int.{from_bool}
use Rattle.std.proofs.lemmas.List.Folds.{find-append}
use mathlib.Core.List.{reverse-cons}
use Rattle.ld_base.specs.declared.object.ObjFlags.{ObjFlags}
use Rattle.ld_base.specs.declared.parts.Tag.{Tag}
use Rattle.elf_head.specs.DynTable.Tag.{has_tag, last_of}
use Rattle.elf_head.specs.DynTable.TagNumbers.{dt_needed, dt_soname, dt_strtab, dt_strsz, dt_symtab, dt_rela, dt_relasz, dt_jmprel, dt_pltrelsz, dt_relr, dt_relrsz, dt_pltgot, dt_init, dt_fini, dt_symbolic, dt_bind_now, dt_flags, dt_flags_1, dt_gnu_hash, dt_hash, dt_syment, dt_pltrel, dt_relaent, dt_relrent, dt_versym, dt_verdef, dt_verdefnum, dt_verneed, dt_verneednum}
use Rattle.elf_head.specs.DynTable.TagNumbers.{dt_preinit_array, dt_preinit_arraysz, dt_init_array, dt_init_arraysz, dt_fini_array, dt_fini_arraysz}
use Rattle.asm_write.specs.declared.contents.Contents.{Contents}
use Rattle.asm_write.specs.declared.entries.DynamicEntry.{DynamicEntry}
use Rattle.asm_write.specs.declared.entries.Told.{Told}
use Rattle.asm_write.specs.declared.entries.Told.TheVariants as tells
use Rattle.asm_write.specs.declared.part.Part.{Part}
use Rattle.asm_write.specs.declared.part.Part.TheVariants as parts
use Rattle.asm_write.specs.declared.starts.Starts.{Starts}
use Rattle.asm_write.specs.Records.{told_value}
use Rattle.asm_write.specs.Sizes.{name_entries, symbol_entries, flag_entries, arrays_entries, array_entries, reloc_entries, version_entries, where_some, tells_number, tells_start, tells_size}
use Rattle.asm_write.specs.Sizes.{count_in, listed_count, packed_count}
use Rattle.asm_write.specs.Starts.{starts_of, start_in, size_in}
use Rattle.asm_laws.specs.ElfSpelled.Said.{said_tag, said_tags, told_entries, told_if}

-- of the entries of a tag the last counts
abbrev pub last_told : List DynamicEntry → ℕ → Option Told
last_told [] tag = None
last_told (e ∷ entries) tag = option_or (last_told entries tag) (if e.tag == tag then Some e.told else None)

assoc : {A : Type 0} (x y z : Option A) → option_or (option_or x y) z ≡ option_or x (option_or y z)
assoc None y z = refl
assoc (Some x) y z = refl

right : {A : Type 0} (x : Option A) → option_or x None ≡ x
right None = refl
right (Some x) = refl

joined : (xs ys : List DynamicEntry) (tag : ℕ) → last_told (xs ++ ys) tag ≡ option_or (last_told ys tag) (last_told xs tag)
joined [] ys tag = sym (right (last_told ys tag))
joined (x ∷ xs) ys tag =
    let here = if x.tag == tag then Some x.told else None in
    ap (λ o. option_or o here) (joined xs ys tag) ∙ assoc (last_told ys tag) (last_told xs tag) here

mapped : {A B : Type 0} (f : A → B) (x y : Option A) → option_map f (option_or x y) ≡ option_or (option_map f x) (option_map f y)
mapped f None y = refl
mapped f (Some x) y = refl

one_found : (starts : Starts) (e : DynamicEntry) (tag : ℕ)
    → option_map (λ (t : Tag). t.value) (find (has_tag tag) (said_tag starts e ∷ [])) ≡ option_map (told_value starts) (if e.tag == tag then Some e.told else None)
one_found starts e tag =
    let P : Bool → Type 0 = λ here. option_map (λ (t : Tag). t.value) (if here then Some (said_tag starts e) else None) ≡ option_map (told_value starts) (if here then Some e.told else None) in
    let cases : (here : Bool) → P here = λ here. elim here as P [ true ↦ refl | false ↦ refl ] in
    cases (e.tag == tag)

pub last_said : (starts : Starts) (entries : List DynamicEntry) (tag : ℕ) → last_of (map (said_tag starts) entries) tag ≡ option_map (told_value starts) (last_told entries tag)
unfolding last_of
last_said starts [] tag = refl
last_said starts (e ∷ entries) tag =
    let value : Tag → ℕ = λ t. t.value in
    let rest = map (said_tag starts) entries in
    ap (λ (ts : List Tag). option_map value (find (has_tag tag) ts)) (reverse-cons (said_tag starts e) rest)
    ∙ ap (option_map value) (find-append (has_tag tag) (reverse rest) (said_tag starts e ∷ []))
    ∙ mapped value (find (has_tag tag) (reverse rest)) (find (has_tag tag) (said_tag starts e ∷ []))
    ∙ ap (λ o. option_or o (option_map value (find (has_tag tag) (said_tag starts e ∷ [])))) (last_said starts entries tag)
    ∙ ap (option_or (option_map (told_value starts) (last_told entries tag))) (one_found starts e tag)
    ∙ sym (mapped (told_value starts) (last_told entries tag) (if e.tag == tag then Some e.told else None))

-- Group by group

abbrev pick : Bool → Option Told → Option Told
pick true told = told
pick false told = None

no_pick : (b : Bool) → pick b None ≡ None
no_pick true = refl
no_pick false = refl

picked : (b : Bool) (entries : List DynamicEntry) (tag : ℕ) → last_told (where_some b entries) tag ≡ pick b (last_told entries tag)
picked true entries tag = refl
picked false entries tag = refl

two : (xs ys : List DynamicEntry) (tag : ℕ) (x y : Option Told) → last_told xs tag ≡ x → last_told ys tag ≡ y → last_told (xs ++ ys) tag ≡ option_or y x
two xs ys tag x y one other = joined xs ys tag ∙ ap (λ o. option_or o (last_told xs tag)) other ∙ ap (option_or y) one

abbrev needed_part : Contents → ℕ → Option Told
needed_part contents tag = last_told (map (tells_number dt_needed) contents.needed) tag

abbrev soname_part : Contents → ℕ → Option Told
soname_part contents tag = last_told (option_to_list (option_map (tells_number dt_soname) contents.soname)) tag

-- the groups of entries
abbrev pub gnu_entry : List DynamicEntry
gnu_entry = tells_start dt_gnu_hash parts.GnuHash ∷ []

abbrev pub sysv_entry : List DynamicEntry
sysv_entry = tells_start dt_hash parts.SysvHash ∷ []

abbrev pub table_entries : List DynamicEntry
table_entries = tells_start dt_strtab parts.Strings ∷ tells_size dt_strsz parts.Strings ∷ tells_start dt_symtab parts.Symbols ∷ tells_number dt_syment 24 ∷ []

abbrev pub flags_entry : ObjFlags → List DynamicEntry
flags_entry flags = tells_number dt_flags (2 * from_bool flags.symbolic + 8 * from_bool flags.bind_now) ∷ []

abbrev pub more_flags_entry : List DynamicEntry
more_flags_entry = tells_number dt_flags_1 8 ∷ []

abbrev pub part_entries : Part → ℕ → ℕ → List DynamicEntry
part_entries part start size = tells_start start part ∷ tells_size size part ∷ []

abbrev pub rela_entries : List DynamicEntry
rela_entries = tells_start dt_rela parts.Rela ∷ tells_size dt_relasz parts.Rela ∷ tells_number dt_relaent 24 ∷ []

abbrev pub relr_entries : List DynamicEntry
relr_entries = tells_start dt_relr parts.Relr ∷ tells_size dt_relrsz parts.Relr ∷ tells_number dt_relrent 8 ∷ []

abbrev pub slot_entries : List DynamicEntry
slot_entries = tells_start dt_jmprel parts.Jmprel ∷ tells_size dt_pltrelsz parts.Jmprel ∷ tells_number dt_pltrel 7 ∷ tells_start dt_pltgot parts.GotPlt ∷ []

abbrev pub versym_entry : List DynamicEntry
versym_entry = tells_start dt_versym parts.Versym ∷ []

abbrev pub verdef_entries : ℕ → List DynamicEntry
verdef_entries count = tells_start dt_verdef parts.Verdef ∷ tells_number dt_verdefnum count ∷ []

abbrev pub verneed_entries : ℕ → List DynamicEntry
verneed_entries count = tells_start dt_verneed parts.Verneed ∷ tells_number dt_verneednum count ∷ []

module _ (contents : Contents) where
  abbrev pub has_flags : Bool
  has_flags = contents.flags.symbolic || contents.flags.bind_now

  abbrev pub has_array : Part → Bool
  has_array part = nat_lt 0 (count_in contents part)

  abbrev pub has_rela : Bool
  has_rela = nat_lt 0 (listed_count contents)

  abbrev pub has_relr : Bool
  has_relr = nat_lt 0 (packed_count contents)

  abbrev pub has_slots : Bool
  has_slots = nat_lt 0 (length contents.slots)

  abbrev pub defines_versions : Bool
  defines_versions = nat_lt 0 (length contents.versions)

  abbrev pub needs_versions : Bool
  needs_versions = nat_lt 0 (length contents.files)

  module _ (tag : ℕ) where
    abbrev of_hashes : Option Told
    of_hashes = option_or (pick (is_some contents.sysv) (last_told sysv_entry tag)) (pick (is_some contents.gnu) (last_told gnu_entry tag))

    abbrev of_symbols : Option Told
    of_symbols = option_or (last_told table_entries tag) of_hashes

    symbols_told : last_told (symbol_entries contents) tag ≡ of_symbols
    symbols_told = two (where_some (is_some contents.gnu) gnu_entry ++ where_some (is_some contents.sysv) sysv_entry) table_entries tag of_hashes (last_told table_entries tag)
        (two (where_some (is_some contents.gnu) gnu_entry) (where_some (is_some contents.sysv) sysv_entry) tag (pick (is_some contents.gnu) (last_told gnu_entry tag)) (pick (is_some contents.sysv) (last_told sysv_entry tag))
        (picked (is_some contents.gnu) gnu_entry tag) (picked (is_some contents.sysv) sysv_entry tag)) refl

    abbrev of_flags : Option Told
    of_flags = option_or (pick contents.flags.nodelete (last_told more_flags_entry tag)) (pick has_flags (last_told (flags_entry contents.flags) tag))

    flags_told : last_told (flag_entries contents.flags) tag ≡ of_flags
    flags_told = two (where_some has_flags (flags_entry contents.flags)) (where_some contents.flags.nodelete more_flags_entry) tag
        (pick has_flags (last_told (flags_entry contents.flags) tag)) (pick contents.flags.nodelete (last_told more_flags_entry tag))
        (picked has_flags (flags_entry contents.flags) tag) (picked contents.flags.nodelete more_flags_entry tag)

    abbrev of_array : Part → ℕ → ℕ → Option Told
    of_array part start size = pick (has_array part) (last_told (part_entries part start size) tag)

    abbrev of_first_arrays : Option Told
    of_first_arrays = option_or (of_array parts.InitArray dt_init_array dt_init_arraysz) (of_array parts.PreinitArray dt_preinit_array dt_preinit_arraysz)

    abbrev of_arrays : Option Told
    of_arrays = option_or (of_array parts.FiniArray dt_fini_array dt_fini_arraysz) of_first_arrays

    arrays_told : last_told (arrays_entries contents) tag ≡ of_arrays
    arrays_told =
        let one = picked (has_array parts.PreinitArray) (part_entries parts.PreinitArray dt_preinit_array dt_preinit_arraysz) tag in
        let other = picked (has_array parts.InitArray) (part_entries parts.InitArray dt_init_array dt_init_arraysz) tag in
        let third = picked (has_array parts.FiniArray) (part_entries parts.FiniArray dt_fini_array dt_fini_arraysz) tag in
        two (array_entries contents parts.PreinitArray dt_preinit_array dt_preinit_arraysz ++ array_entries contents parts.InitArray dt_init_array dt_init_arraysz)
        (array_entries contents parts.FiniArray dt_fini_array dt_fini_arraysz) tag of_first_arrays (of_array parts.FiniArray dt_fini_array dt_fini_arraysz)
        (two (array_entries contents parts.PreinitArray dt_preinit_array dt_preinit_arraysz) (array_entries contents parts.InitArray dt_init_array dt_init_arraysz) tag
        (of_array parts.PreinitArray dt_preinit_array dt_preinit_arraysz) (of_array parts.InitArray dt_init_array dt_init_arraysz) one other) third

    abbrev of_listed : Option Told
    of_listed = option_or (pick has_relr (last_told relr_entries tag)) (pick has_rela (last_told rela_entries tag))

    abbrev of_relocs : Option Told
    of_relocs = option_or (pick has_slots (last_told slot_entries tag)) of_listed

    relocs_told : last_told (reloc_entries contents) tag ≡ of_relocs
    relocs_told = two (where_some has_rela rela_entries ++ where_some has_relr relr_entries) (where_some has_slots slot_entries) tag of_listed (pick has_slots (last_told slot_entries tag))
        (two (where_some has_rela rela_entries) (where_some has_relr relr_entries) tag (pick has_rela (last_told rela_entries tag)) (pick has_relr (last_told relr_entries tag))
        (picked has_rela rela_entries tag) (picked has_relr relr_entries tag)) (picked has_slots slot_entries tag)

    abbrev of_defined : Option Told
    of_defined = option_or (pick defines_versions (last_told (verdef_entries (length contents.versions)) tag)) (pick contents.has_versions (last_told versym_entry tag))

    abbrev of_versions : Option Told
    of_versions = option_or (pick needs_versions (last_told (verneed_entries (length contents.files)) tag)) of_defined

    versions_told : last_told (version_entries contents) tag ≡ of_versions
    versions_told =
        let verdef = verdef_entries (length contents.versions) in
        let verneed = verneed_entries (length contents.files) in
        two (where_some contents.has_versions versym_entry ++ where_some defines_versions verdef) (where_some needs_versions verneed) tag of_defined (pick needs_versions (last_told verneed tag))
        (two (where_some contents.has_versions versym_entry) (where_some defines_versions verdef) tag (pick contents.has_versions (last_told versym_entry tag)) (pick defines_versions (last_told verdef tag))
        (picked contents.has_versions versym_entry tag) (picked defines_versions verdef tag)) (picked needs_versions verneed tag)

    abbrev of_names : Option Told
    of_names = option_or (soname_part contents tag) (needed_part contents tag)

    abbrev of_all : Option Told
    of_all = option_or of_versions (option_or of_relocs (option_or of_arrays (option_or of_flags (option_or of_symbols of_names))))

    all_told : last_told (told_entries contents) tag ≡ of_all
    all_told =
        let names = name_entries contents in
        let symbols = names ++ symbol_entries contents in
        let flags = symbols ++ flag_entries contents.flags in
        let arrays = flags ++ arrays_entries contents in
        let relocs = arrays ++ reloc_entries contents in
        let one = two names (symbol_entries contents) tag of_names of_symbols
        (joined (map (tells_number dt_needed) contents.needed) (option_to_list (option_map (tells_number dt_soname) contents.soname)) tag) symbols_told in
        let second = two symbols (flag_entries contents.flags) tag (option_or of_symbols of_names) of_flags one flags_told in
        let third = two flags (arrays_entries contents) tag (option_or of_flags (option_or of_symbols of_names)) of_arrays second arrays_told in
        let fourth = two arrays (reloc_entries contents) tag (option_or of_arrays (option_or of_flags (option_or of_symbols of_names))) of_relocs third relocs_told in
        two relocs (version_entries contents) tag (option_or of_relocs (option_or of_arrays (option_or of_flags (option_or of_symbols of_names)))) of_versions fourth versions_told

-- the names' tags are their own
no_needed : (offsets : List ℕ) (tag : ℕ) → (1 == tag) ≡ false → last_told (map (tells_number dt_needed) offsets) tag ≡ None
no_needed [] tag other = refl
no_needed (offset ∷ offsets) tag other = rw (no_needed offsets tag other, other) refl

no_soname : (soname : Option ℕ) (tag : ℕ) → (14 == tag) ≡ false → last_told (option_to_list (option_map (tells_number dt_soname) soname)) tag ≡ None
no_soname None tag other = refl
no_soname (Some offset) tag other = rw other refl

soname_there : (soname : Option ℕ) → last_told (option_to_list (option_map (tells_number dt_soname) soname)) dt_soname ≡ option_map tells.Number soname
soname_there None = refl
soname_there (Some offset) = refl

number_back : (starts : Starts) (o : Option ℕ) → option_map (told_value starts) (option_map tells.Number o) ≡ o
number_back starts None = refl
number_back starts (Some number) = refl

told_where : (starts : Starts) (b : Bool) (told : Told) → option_map (told_value starts) (pick b (Some told)) ≡ told_if b (told_value starts told)
told_where starts true told = refl
told_where starts false told = refl

-- Of one tag each is found in one group alone

module _ (contents : Contents) where
  abbrev starts : Starts
  starts = starts_of contents

  looked : (tag : ℕ) (told : Option Told) → of_all contents tag ≡ told → last_of (said_tags contents) tag ≡ option_map (told_value starts) told
  looked tag told is = last_said starts (told_entries contents) tag ∙ ap (option_map (told_value starts)) (all_told contents tag ∙ is)

  looked_where : (tag : ℕ) (b : Bool) (told : Told) → of_all contents tag ≡ pick b (Some told) → last_of (said_tags contents) tag ≡ told_if b (told_value starts told)
  looked_where tag b told is = looked tag (pick b (Some told)) is ∙ told_where starts b told

  pub gnu_hash : last_of (said_tags contents) dt_gnu_hash ≡ told_if (is_some contents.gnu) (start_in (starts_of contents) parts.GnuHash)
  gnu_hash = looked_where dt_gnu_hash (is_some contents.gnu) (tells.Start parts.GnuHash) (simp (no_pick, right, no_needed contents.needed dt_gnu_hash refl, no_soname contents.soname dt_gnu_hash refl) refl)

  pub hash : last_of (said_tags contents) dt_hash ≡ told_if (is_some contents.sysv) (start_in (starts_of contents) parts.SysvHash)
  hash = looked_where dt_hash (is_some contents.sysv) (tells.Start parts.SysvHash) (simp (no_pick, right, no_needed contents.needed 4 refl, no_soname contents.soname 4 refl) refl)

  pub strings : last_of (said_tags contents) dt_strtab ≡ Some (start_in (starts_of contents) parts.Strings)
  strings = looked dt_strtab (Some (tells.Start parts.Strings)) (simp (no_pick, right) refl)

  pub strings_size : last_of (said_tags contents) dt_strsz ≡ Some (size_in (starts_of contents) parts.Strings)
  strings_size = looked dt_strsz (Some (tells.Size parts.Strings)) (simp (no_pick, right) refl)

  pub symbols : last_of (said_tags contents) dt_symtab ≡ Some (start_in (starts_of contents) parts.Symbols)
  symbols = looked dt_symtab (Some (tells.Start parts.Symbols)) (simp (no_pick, right) refl)

  pub flags : last_of (said_tags contents) dt_flags ≡ told_if (contents.flags.symbolic || contents.flags.bind_now) (2 * from_bool contents.flags.symbolic + 8 * from_bool contents.flags.bind_now)
  flags = looked_where dt_flags (contents.flags.symbolic || contents.flags.bind_now) (tells.Number (2 * from_bool contents.flags.symbolic + 8 * from_bool contents.flags.bind_now)) (simp (no_pick, right, no_needed contents.needed 30 refl, no_soname contents.soname 30 refl) refl)

  pub more_flags : last_of (said_tags contents) dt_flags_1 ≡ told_if (contents.flags.nodelete) (8)
  more_flags = looked_where dt_flags_1 (contents.flags.nodelete) (tells.Number 8) (simp (no_pick, right, no_needed contents.needed dt_flags_1 refl, no_soname contents.soname dt_flags_1 refl) refl)

  pub symbolic : last_of (said_tags contents) dt_symbolic ≡ None
  symbolic = looked dt_symbolic (None) (simp (no_pick, right, no_needed contents.needed 16 refl, no_soname contents.soname 16 refl) refl)

  pub bind_now : last_of (said_tags contents) dt_bind_now ≡ None
  bind_now = looked dt_bind_now (None) (simp (no_pick, right, no_needed contents.needed 24 refl, no_soname contents.soname 24 refl) refl)

  pub init : last_of (said_tags contents) dt_init ≡ None
  init = looked dt_init (None) (simp (no_pick, right, no_needed contents.needed 12 refl, no_soname contents.soname 12 refl) refl)

  pub fini : last_of (said_tags contents) dt_fini ≡ None
  fini = looked dt_fini (None) (simp (no_pick, right, no_needed contents.needed 13 refl, no_soname contents.soname 13 refl) refl)

  pub preinit_array : last_of (said_tags contents) dt_preinit_array ≡ told_if (nat_lt 0 (count_in contents parts.PreinitArray)) (start_in (starts_of contents) parts.PreinitArray)
  preinit_array = looked_where dt_preinit_array (nat_lt 0 (count_in contents parts.PreinitArray)) (tells.Start parts.PreinitArray) (simp (no_pick, right, no_needed contents.needed 32 refl, no_soname contents.soname 32 refl) refl)

  pub preinit_size : last_of (said_tags contents) dt_preinit_arraysz ≡ told_if (nat_lt 0 (count_in contents parts.PreinitArray)) (size_in (starts_of contents) parts.PreinitArray)
  preinit_size = looked_where dt_preinit_arraysz (nat_lt 0 (count_in contents parts.PreinitArray)) (tells.Size parts.PreinitArray) (simp (no_pick, right, no_needed contents.needed 33 refl, no_soname contents.soname 33 refl) refl)

  pub init_array : last_of (said_tags contents) dt_init_array ≡ told_if (nat_lt 0 (count_in contents parts.InitArray)) (start_in (starts_of contents) parts.InitArray)
  init_array = looked_where dt_init_array (nat_lt 0 (count_in contents parts.InitArray)) (tells.Start parts.InitArray) (simp (no_pick, right, no_needed contents.needed 25 refl, no_soname contents.soname 25 refl) refl)

  pub init_size : last_of (said_tags contents) dt_init_arraysz ≡ told_if (nat_lt 0 (count_in contents parts.InitArray)) (size_in (starts_of contents) parts.InitArray)
  init_size = looked_where dt_init_arraysz (nat_lt 0 (count_in contents parts.InitArray)) (tells.Size parts.InitArray) (simp (no_pick, right, no_needed contents.needed 27 refl, no_soname contents.soname 27 refl) refl)

  pub fini_array : last_of (said_tags contents) dt_fini_array ≡ told_if (nat_lt 0 (count_in contents parts.FiniArray)) (start_in (starts_of contents) parts.FiniArray)
  fini_array = looked_where dt_fini_array (nat_lt 0 (count_in contents parts.FiniArray)) (tells.Start parts.FiniArray) (simp (no_pick, right, no_needed contents.needed 26 refl, no_soname contents.soname 26 refl) refl)

  pub fini_size : last_of (said_tags contents) dt_fini_arraysz ≡ told_if (nat_lt 0 (count_in contents parts.FiniArray)) (size_in (starts_of contents) parts.FiniArray)
  fini_size = looked_where dt_fini_arraysz (nat_lt 0 (count_in contents parts.FiniArray)) (tells.Size parts.FiniArray) (simp (no_pick, right, no_needed contents.needed 28 refl, no_soname contents.soname 28 refl) refl)

  pub rela : last_of (said_tags contents) dt_rela ≡ told_if (nat_lt 0 (listed_count contents)) (start_in (starts_of contents) parts.Rela)
  rela = looked_where dt_rela (nat_lt 0 (listed_count contents)) (tells.Start parts.Rela) (simp (no_pick, right, no_needed contents.needed 7 refl, no_soname contents.soname 7 refl) refl)

  pub rela_size : last_of (said_tags contents) dt_relasz ≡ told_if (nat_lt 0 (listed_count contents)) (size_in (starts_of contents) parts.Rela)
  rela_size = looked_where dt_relasz (nat_lt 0 (listed_count contents)) (tells.Size parts.Rela) (simp (no_pick, right, no_needed contents.needed 8 refl, no_soname contents.soname 8 refl) refl)

  pub relr : last_of (said_tags contents) dt_relr ≡ told_if (nat_lt 0 (packed_count contents)) (start_in (starts_of contents) parts.Relr)
  relr = looked_where dt_relr (nat_lt 0 (packed_count contents)) (tells.Start parts.Relr) (simp (no_pick, right, no_needed contents.needed 36 refl, no_soname contents.soname 36 refl) refl)

  pub relr_size : last_of (said_tags contents) dt_relrsz ≡ told_if (nat_lt 0 (packed_count contents)) (size_in (starts_of contents) parts.Relr)
  relr_size = looked_where dt_relrsz (nat_lt 0 (packed_count contents)) (tells.Size parts.Relr) (simp (no_pick, right, no_needed contents.needed 35 refl, no_soname contents.soname 35 refl) refl)

  pub slots : last_of (said_tags contents) dt_jmprel ≡ told_if (nat_lt 0 (length contents.slots)) (start_in (starts_of contents) parts.Jmprel)
  slots = looked_where dt_jmprel (nat_lt 0 (length contents.slots)) (tells.Start parts.Jmprel) (simp (no_pick, right, no_needed contents.needed 23 refl, no_soname contents.soname 23 refl) refl)

  pub slots_size : last_of (said_tags contents) dt_pltrelsz ≡ told_if (nat_lt 0 (length contents.slots)) (size_in (starts_of contents) parts.Jmprel)
  slots_size = looked_where dt_pltrelsz (nat_lt 0 (length contents.slots)) (tells.Size parts.Jmprel) (simp (no_pick, right, no_needed contents.needed 2 refl, no_soname contents.soname 2 refl) refl)

  pub slot_words : last_of (said_tags contents) dt_pltgot ≡ told_if (nat_lt 0 (length contents.slots)) (start_in (starts_of contents) parts.GotPlt)
  slot_words = looked_where dt_pltgot (nat_lt 0 (length contents.slots)) (tells.Start parts.GotPlt) (simp (no_pick, right, no_needed contents.needed 3 refl, no_soname contents.soname 3 refl) refl)

  pub versym : last_of (said_tags contents) dt_versym ≡ told_if (contents.has_versions) (start_in (starts_of contents) parts.Versym)
  versym = looked_where dt_versym (contents.has_versions) (tells.Start parts.Versym) (simp (no_pick, right, no_needed contents.needed dt_versym refl, no_soname contents.soname dt_versym refl) refl)

  pub verdef : last_of (said_tags contents) dt_verdef ≡ told_if (nat_lt 0 (length contents.versions)) (start_in (starts_of contents) parts.Verdef)
  verdef = looked_where dt_verdef (nat_lt 0 (length contents.versions)) (tells.Start parts.Verdef) (simp (no_pick, right, no_needed contents.needed dt_verdef refl, no_soname contents.soname dt_verdef refl) refl)

  pub verdef_count : last_of (said_tags contents) dt_verdefnum ≡ told_if (nat_lt 0 (length contents.versions)) (length contents.versions)
  verdef_count = looked_where dt_verdefnum (nat_lt 0 (length contents.versions)) (tells.Number (length contents.versions)) (simp (no_pick, right, no_needed contents.needed dt_verdefnum refl, no_soname contents.soname dt_verdefnum refl) refl)

  pub verneed : last_of (said_tags contents) dt_verneed ≡ told_if (nat_lt 0 (length contents.files)) (start_in (starts_of contents) parts.Verneed)
  verneed = looked_where dt_verneed (nat_lt 0 (length contents.files)) (tells.Start parts.Verneed) (simp (no_pick, right, no_needed contents.needed dt_verneed refl, no_soname contents.soname dt_verneed refl) refl)

  pub verneed_count : last_of (said_tags contents) dt_verneednum ≡ told_if (nat_lt 0 (length contents.files)) (length contents.files)
  verneed_count = looked_where dt_verneednum (nat_lt 0 (length contents.files)) (tells.Number (length contents.files)) (simp (no_pick, right, no_needed contents.needed dt_verneednum refl, no_soname contents.soname dt_verneednum refl) refl)

  pub soname : last_of (said_tags contents) dt_soname ≡ contents.soname
  soname = looked dt_soname (option_map tells.Number contents.soname)
      (simp (no_pick, right, no_needed contents.needed 14 refl, soname_there contents.soname) refl) ∙ number_back starts contents.soname
