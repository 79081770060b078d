-- Words as texts, and what an option takes of them.
use Rattle.std.specs.Prelude.{ℕ, if◌then◌else◌, List, [], ◌∷◌, map, Option, Some, None, option_map, option_and_then, codes, String}
use Rattle.std.specs.Global.{Global}
use Rattle.std.specs.List.{slice_get}
use Rattle.std.specs.String.{string_bytes}
use Rattle.std.specs.Str.{bytes_eq}
use Rattle.cli_words.specs.declared.switch.Switch.{Switch}
use Rattle.cli_words.specs.Options.{front_of, has_dash, has_value, is_joined, is_option, option_in, value_of}
use Rattle.cli_read.specs.declared.said_words.front.Front.{Front}
use Rattle.cli_read.specs.declared.said_words.front.Front.TheVariants as fronts

abbrev pub Text : Type 0
Text = List ℕ

abbrev pub texts : List (String Global) → List Text
texts words = map (λ word. string_bytes word) words

-- a value has no dash
abbrev pub behind_value : List Text → Option (List Text)
behind_value [] = None
behind_value (value ∷ rest) = if has_dash value then None else Some rest

-- an option that has a value takes it from its own word, or from the next
abbrev pub taking_front : List Text → Switch → Option (Switch × List Text)
taking_front rest c = if has_value c then Some (c, rest) else None

abbrev pub taking_next : List Text → Switch → Option (Switch × List Text)
taking_next rest c = if has_value c then option_map (λ more. (c, more)) (behind_value rest) else Some (c, rest)

-- the front of a word with an equals sign
abbrev pub joined_front : Text → Option Text
joined_front word = if is_joined word then Some (front_of word) else None

abbrev pub option_named : List Switch → Text → List Text → Option Text → Option (Switch × List Text)
option_named known word rest None = option_and_then (taking_next rest) (option_in known word)
option_named known word rest (Some name) = option_and_then (taking_front rest) (option_in known name)

unfoldable pub option_at : List Switch → Text → List Text → Option (Switch × List Text)
option_at known word rest = option_named known word rest (joined_front word)

-- the value of an option that stands at a word: what is joined to it, or the next word
abbrev pub joined_value : Text → Option Text
joined_value word = if is_joined word then Some (value_of word) else None

abbrev pub value_at : Switch → Text → List Text → Option Text
value_at c word rest = if has_value c then (if is_joined word then Some (value_of word) else slice_get rest 0) else None

-- ---- the front of words

-- two dashes, behind which all are other words; another word; or an option with its value
abbrev pub at_option : Option (Switch × List Text) → Option (Front × List Text)
at_option found = option_map (λ r. (fronts.Option r.0, r.1)) found

abbrev pub read_front : List Switch → Text → List Text → Option (Front × List Text)
read_front known word rest =
    if bytes_eq word (codes "--") then Some (fronts.End, rest) else (if is_option word then at_option (option_at known word rest) else Some (fronts.Word, rest))
