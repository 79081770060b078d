-- What the headers before one say of it, in a few words: for a loop of this crate alone.
use Rattle.std.specs.Prelude.{◌≡◌, Bool, true, false, is_some, nat_le, MatchOption, Option, ℕ, List, [], ◌∷◌, ◌++◌}
use Rattle.std.specs.Option.{option_map_or}
use Rattle.std.specs.List.{list_any}
use Rattle.ld_base.specs.declared.parts.Header.{Header}
use Rattle.elf_head.specs.Header.{is_loaded}
use Rattle.elf_head.specs.Segments.{is_bad, is_misplaced, first_page, has_kind}
use Rattle.elf_head.specs.declared.segments.Passed.{Passed}

-- a segment that begins on this last page or below it
abbrev pub reaches : Option ℕ → Header → Bool
reaches last h = option_map_or (nat_le (first_page h)) last false

-- these are the headers that were passed
pub record IsPassed (before : List Header) (passed : Passed) : Type 0 where
  pub loaded : list_any is_loaded before ≡ is_some passed.last_page
  pub misplaced : (h : Header) → is_misplaced before h ≡ reaches passed.last_page h
  pub dynamic : has_kind 2 before ≡ passed.has_dynamic
  pub tls : has_kind 7 before ≡ passed.has_tls

-- a header after these is bad, or else it is passed too
abbrev pub Judges : ℕ → List Header → List Header → Header → Option Passed → Type 0
Judges size headers before h judged =
    MatchOption judged (is_bad size headers before h ≡ true)
    (λ passed. (is_bad size headers before h ≡ false) × IsPassed (before ++ h ∷ []) passed)
