-- The tags of a dynamic table that a linker minds (gABI, "Dynamic Section"; Drepper, "ELF Symbol Versioning").
use Rattle.std.specs.Prelude.{ℕ}

abbrev pub dt_null : ℕ
dt_null = 0

abbrev pub dt_needed : ℕ
dt_needed = 1

abbrev pub dt_pltrelsz : ℕ
dt_pltrelsz = 2

abbrev pub dt_pltgot : ℕ
dt_pltgot = 3

abbrev pub dt_hash : ℕ
dt_hash = 4

abbrev pub dt_strtab : ℕ
dt_strtab = 5

abbrev pub dt_symtab : ℕ
dt_symtab = 6

abbrev pub dt_rela : ℕ
dt_rela = 7

abbrev pub dt_relasz : ℕ
dt_relasz = 8

abbrev pub dt_relaent : ℕ
dt_relaent = 9

abbrev pub dt_strsz : ℕ
dt_strsz = 10

abbrev pub dt_syment : ℕ
dt_syment = 11

abbrev pub dt_init : ℕ
dt_init = 12

abbrev pub dt_fini : ℕ
dt_fini = 13

abbrev pub dt_soname : ℕ
dt_soname = 14

abbrev pub dt_symbolic : ℕ
dt_symbolic = 16

abbrev pub dt_rel : ℕ
dt_rel = 17

abbrev pub dt_pltrel : ℕ
dt_pltrel = 20

abbrev pub dt_textrel : ℕ
dt_textrel = 22

abbrev pub dt_jmprel : ℕ
dt_jmprel = 23

abbrev pub dt_bind_now : ℕ
dt_bind_now = 24

abbrev pub dt_init_array : ℕ
dt_init_array = 25

abbrev pub dt_fini_array : ℕ
dt_fini_array = 26

abbrev pub dt_init_arraysz : ℕ
dt_init_arraysz = 27

abbrev pub dt_fini_arraysz : ℕ
dt_fini_arraysz = 28

abbrev pub dt_flags : ℕ
dt_flags = 30

abbrev pub dt_preinit_array : ℕ
dt_preinit_array = 32

abbrev pub dt_preinit_arraysz : ℕ
dt_preinit_arraysz = 33

abbrev pub dt_relrsz : ℕ
dt_relrsz = 35

abbrev pub dt_relr : ℕ
dt_relr = 36

abbrev pub dt_relrent : ℕ
dt_relrent = 37

abbrev pub dt_gnu_hash : ℕ
dt_gnu_hash = 0x6fff_fef5

abbrev pub dt_versym : ℕ
dt_versym = 0x6fff_fff0

abbrev pub dt_flags_1 : ℕ
dt_flags_1 = 0x6fff_fffb

abbrev pub dt_verdef : ℕ
dt_verdef = 0x6fff_fffc

abbrev pub dt_verdefnum : ℕ
dt_verdefnum = 0x6fff_fffd

abbrev pub dt_verneed : ℕ
dt_verneed = 0x6fff_fffe

abbrev pub dt_verneednum : ℕ
dt_verneednum = 0x6fff_ffff
