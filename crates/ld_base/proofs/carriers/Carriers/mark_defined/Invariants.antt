use Rattle.std.proofs.Common.{◌≡◌, ◌<◌, ◌-◌, ℕ, length, drop}
use Rattle.std.specs.Option.{option_map_or}
use Rattle.std.specs.Str.{bytes_eq}
use Rattle.ld_base.specs.Marks.{is_marked}
use Rattle.ld_base.specs.Version.{verdef_of}
use Rattle.ld_base.proofs.carriers.Carriers.mark_defined.Given as goal

-- the last records are marked
abbrev pub invariant-loop-passed : goal.invariant-loop-passed
invariant-loop-passed l =
    (k : ℕ) → k < 0x8000 → is_marked l.self k
    ≡ option_map_or (λ d. bytes_eq d.name l.version) (verdef_of (drop (length l.verdefs - l.passed) l.verdefs) k) (is_marked l.initial.self k)
