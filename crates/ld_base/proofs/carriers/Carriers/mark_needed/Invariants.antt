use Rattle.std.proofs.Common.{◌≡◌, ◌<◌, ◌-◌, ℕ, length, drop}
use Rattle.std.specs.Prelude.{option_map}
use Rattle.ld_base.specs.Marks.{is_marked}
use Rattle.ld_base.specs.Pick.{is_named}
use Rattle.ld_base.specs.Version.{verneed_of}
use Rattle.ld_base.proofs.carriers.Carriers.mark_needed.Given as goal

-- the last records are marked
abbrev pub invariant-loop-passed : goal.invariant-loop-passed
invariant-loop-passed l =
    (k : ℕ) → k < 0x8000 → is_marked l.self k ≡ is_named l.version (option_map (λ n. n.name) (verneed_of (drop (length l.verneeds - l.passed) l.verneeds) k))
