-- What the fields of a symbol say (gABI, "Symbol Table").
use Rattle.std.specs.Prelude.{ℕ, Bool, not, ◌&&◌, ◌||◌, ◌==◌, nat_le, ◌/◌, ◌%◌}
use Rattle.ld_base.specs.declared.object.Symbol.{Symbol}

-- STB_LOCAL is 0, STB_WEAK 2
abbrev pub binding : Symbol → ℕ
binding s = s.info / 16

abbrev pub is_local : Symbol → Bool
is_local s = binding s == 0

abbrev pub is_weak : Symbol → Bool
is_weak s = binding s == 2

-- STT_NOTYPE 0, STT_OBJECT 1, STT_FUNC 2, STT_COMMON 5, STT_TLS 6
abbrev pub type_of : Symbol → ℕ
type_of s = s.info % 16

abbrev pub is_tls : Symbol → Bool
is_tls s = type_of s == 6

-- STV_DEFAULT 0, STV_INTERNAL 1, STV_HIDDEN 2, STV_PROTECTED 3
abbrev pub visibility : Symbol → ℕ
visibility s = s.other % 4

-- SHN_UNDEF is 0
abbrev pub is_defined : Symbol → Bool
is_defined s = not (s.shndx == 0)

-- SHN_ABS is 0xfff1
abbrev pub is_absolute : Symbol → Bool
is_absolute s = s.shndx == 0xfff1

-- a type of which a reference may be to
abbrev pub is_linkable_type : Symbol → Bool
is_linkable_type s = nat_le (type_of s) 2 || type_of s == 5 || is_tls s

-- a definition that other objects can see: it is defined, its binding and its visibility let it out, and it has a value
abbrev pub is_visible_definition : Symbol → Bool
is_visible_definition s =
    is_defined s && not (is_local s) && not (visibility s == 1) && not (visibility s == 2) && is_linkable_type s
    && (not (s.value == 0) || is_absolute s || is_tls s)

-- the version's index, without the bit that hides the definition
abbrev pub version_index : Symbol → ℕ
version_index s = s.version % 0x8000

-- a definition that only a reference with its version takes
abbrev pub is_hidden_version : Symbol → Bool
is_hidden_version s = nat_le 0x8000 s.version
