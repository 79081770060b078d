-- How objects, symbols and bytes are named in texts: each text is of visible ASCII characters and spaces.
use Rattle.std.specs.Prelude.{ℕ, ◌/◌, ◌%◌, Bool, ◌&&◌, ◌==◌, nat_le, if◌then◌else◌, List, [], ◌∷◌, ◌++◌, codes, flat_map, Option, Some, None}
use Rattle.std.specs.Fmt.{decimal}
use Rattle.ld_base.specs.FaultText.{hex_text}
use Rattle.ld_base.specs.Text.{hex_digit, name_text}
use Rattle.ld_base.specs.declared.linking.Choice.{Choice}
use Rattle.ld_base.specs.declared.linking.Choice.TheVariants as choices
use Rattle.history_event.specs.declared.event_line.NewLine.{NewLine}
use Rattle.trace_view.specs.declared.members.Member.{Member}
use Rattle.trace_view.specs.Members.{member_of, symbol_of, slot_symbol_of}

-- ---- objects

abbrev pub path_or_number : ℕ → Option Member → List ℕ
path_or_number serial None = codes "object " ++ decimal serial
path_or_number serial (Some member) = name_text member.path

-- an object by its path; the linker's own is ldso
unfoldable pub object_name : List Member → ℕ → List ℕ
object_name members serial = if serial == 0 then codes "ldso" else path_or_number serial (member_of members serial)

-- a handle is the serial of what was opened, or 0
abbrev pub handle_name : List Member → ℕ → List ℕ
handle_name members handle = if handle == 0 then codes "RTLD_DEFAULT" else object_name members handle

abbrev pub objects_text : List Member → List ℕ → List ℕ
objects_text members [] = codes "nothing"
objects_text members (serial ∷ serials) = object_name members serial ++ flat_map (λ s. 44 ∷ 32 ∷ object_name members s) serials

abbrev pub new_name : NewLine → List ℕ
new_name new = name_text new.path ++ codes " at " ++ hex_text new.base

abbrev pub news_text : List NewLine → List ℕ
news_text [] = codes "nothing new"
news_text (new ∷ news) = new_name new ++ flat_map (λ n. 44 ∷ 32 ∷ new_name n) news

-- ---- symbols

-- the functions of the linker's own object, by index
abbrev pub linker_name : ℕ → Option (List ℕ)
linker_name index =
    if index == 1 then Some (codes "dlopen")
    else if index == 2 then Some (codes "dlmopen")
    else if index == 3 then Some (codes "dlsym")
    else if index == 4 then Some (codes "dlvsym")
    else if index == 5 then Some (codes "dlclose")
    else if index == 6 then Some (codes "dlerror")
    else if index == 7 then Some (codes "__tls_get_addr")
    else None

-- a name, escaped, or what numbers it
abbrev pub plain_or_number : ℕ → Option (List ℕ) → List ℕ
plain_or_number index None = codes "symbol " ++ decimal index
plain_or_number index (Some name) = name

abbrev pub name_or_number : ℕ → Option (List ℕ) → List ℕ
name_or_number index None = codes "symbol " ++ decimal index
name_or_number index (Some name) = name_text name

unfoldable pub symbol_name : List Member → ℕ → ℕ → List ℕ
symbol_name members serial index =
    if serial == 0 then plain_or_number index (linker_name index) else name_or_number index (symbol_of members serial index)

abbrev pub symbol_or_slot : List Member → ℕ → ℕ → Option ℕ → List ℕ
symbol_or_slot members owner slot None = codes "slot " ++ decimal slot
symbol_or_slot members owner slot (Some index) = symbol_name members owner index

-- a slot by the symbol that it is for
unfoldable pub slot_name : List Member → ℕ → ℕ → List ℕ
slot_name members owner slot = symbol_or_slot members owner slot (slot_symbol_of members owner slot)

abbrev pub choice_name : List Member → Choice → List ℕ
choice_name members (choices.Def serial index) = symbol_name members serial index ++ codes " of " ++ object_name members serial
choice_name members choices.WeakZero = codes "no definition"
choice_name members choices.Missing = codes "no definition"

-- ---- bytes

abbrev pub is_visible : ℕ → Bool
is_visible byte = nat_le 0x20 byte && nat_le byte 0x7e

-- a byte as a literal of C has it
abbrev pub quoted_byte : ℕ → List ℕ
quoted_byte byte =
    if byte == 10 then codes "\\n"
    else if byte == 34 then codes "\\\""
    else if byte == 92 then codes "\\\\"
    else if is_visible byte then byte ∷ []
    else 92 ∷ 120 ∷ hex_digit (byte / 16) ∷ hex_digit (byte % 16) ∷ []

abbrev pub quoted : List ℕ → List ℕ
quoted bytes = 34 ∷ flat_map quoted_byte bytes ++ 34 ∷ []
