-- The flags of an opening (dlopen(3), <dlfcn.h>).
use Rattle.std.specs.Prelude.{ℕ, Bool, not, ◌&&◌, ◌||◌, ◌==◌, bit_and}

abbrev has_flag : ℕ → ℕ → Bool
has_flag flag flags = not (bit_and flags flag == 0)

-- RTLD_LAZY is 1, RTLD_NOW 2
abbrev pub is_lazy : ℕ → Bool
is_lazy flags = has_flag 1 flags

abbrev pub is_now : ℕ → Bool
is_now flags = has_flag 2 flags

-- RTLD_NOLOAD
abbrev pub is_noload : ℕ → Bool
is_noload flags = has_flag 4 flags

-- RTLD_DEEPBIND
abbrev pub is_deepbind : ℕ → Bool
is_deepbind flags = has_flag 8 flags

-- RTLD_GLOBAL
abbrev pub is_global : ℕ → Bool
is_global flags = has_flag 0x100 flags

-- RTLD_NODELETE
abbrev pub is_nodelete : ℕ → Bool
is_nodelete flags = has_flag 0x1000 flags

-- one of RTLD_LAZY and RTLD_NOW, and no bit that isn't one of these six
abbrev pub are_flags : ℕ → Bool
are_flags flags = bit_and flags 0x110f == flags && (bit_and flags 3 == 1 || bit_and flags 3 == 2)
