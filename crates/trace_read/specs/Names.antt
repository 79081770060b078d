-- Names as lines have them, read back. For the code of this crate alone.
use Rattle.std.specs.Prelude.{ℕ, ◌+◌, ◌*◌, ◌==◌, ◌||◌, if◌then◌else◌, length, List, [], ◌∷◌, Option, Some, None, option_map}
use Rattle.std.specs.Str.{bytes_eq}
use Rattle.ld_base.specs.Text.{is_plain}
use Rattle.trace_read.specs.Numbers.{digit}
use Rattle.trace_read.specs.Pieces.{◌>>=◌}

-- a byte of its two digits
abbrev pub byte_of : ℕ → ℕ → Option ℕ
byte_of high low = digit 16 high >>= λ h. digit 16 low >>= λ l. Some (16 * h + l)

-- bytes of their digits; a first digit may have been read
abbrev pub bytes_of : Option ℕ → List ℕ → Option (List ℕ)
bytes_of None [] = Some []
bytes_of (Some h) [] = None
bytes_of None (c ∷ rest) = digit 16 c >>= λ h. bytes_of (Some h) rest
bytes_of (Some h) (c ∷ rest) = digit 16 c >>= λ l. option_map (λ bytes. (16 * h + l) ∷ bytes) (bytes_of None rest)

-- what stands behind a %: two digits of a byte that doesn't stand for itself
unfoldable pub escaped : List ℕ → Option (ℕ × List ℕ)
escaped [] = None
escaped (high ∷ []) = None
escaped (high ∷ low ∷ rest) = byte_of high low >>= λ byte. if is_plain byte then None else Some (byte, rest)

-- the first byte, and what stands behind it
unfoldable pub first_byte : ℕ → List ℕ → Option (ℕ × List ℕ)
first_byte c rest = if c == 37 then escaped rest else (if is_plain c then Some (c, rest) else None)

-- how much of an escaped byte is read: its %, or its first digit, too
pub data Stage : Type 0 where
  plain : Stage
  percent : Stage
  high : ℕ → Stage

abbrev pub unescape : Stage → List ℕ → Option (List ℕ)
unescape plain [] = Some []
unescape percent [] = None
unescape (high h) [] = None
unescape plain (c ∷ rest) = if c == 37 then unescape percent rest else (if is_plain c then option_map (λ name. c ∷ name) (unescape plain rest) else None)
unescape percent (c ∷ rest) = digit 16 c >>= λ h. unescape (high h) rest
unescape (high h) (c ∷ rest) =
    digit 16 c >>= λ l. if is_plain (16 * h + l) then None else option_map (λ name. (16 * h + l) ∷ name) (unescape plain rest)

unfoldable pub name_of : List ℕ → Option (List ℕ)
name_of text =
    if bytes_eq text (37 ∷ []) then Some []
    else (if bytes_eq text (37 ∷ 50 ∷ 100 ∷ []) then Some (45 ∷ [])
    else (if length text == 0 || bytes_eq text (45 ∷ []) then None else unescape plain text))

-- a name, or none for -
unfoldable pub some_name : List ℕ → Option (Option (List ℕ))
some_name text = if bytes_eq text (45 ∷ []) then Some None else option_map Some (name_of text)
