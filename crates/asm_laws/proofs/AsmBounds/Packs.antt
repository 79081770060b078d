-- The places that are packed stand in the third segment or behind it.
use Rattle.std.proofs.Common.{ℕ, ◌+◌, ◌^◌, ◌<◌, ◌≤◌, List, [], ◌∷◌, length, take, arith}
use Rattle.std.specs.Prelude.{⊤, Option, Some}
use Rattle.asm_write.specs.declared.contents.Fix.{Fix}
use Rattle.asm_write.specs.declared.part.Part.{Part}
use Rattle.asm_write.specs.declared.starts.Starts.{Starts}
use Rattle.asm_write.specs.Starts.{start_in}
use Rattle.asm_laws.specs.ElfWritten.Standing.{PacksBehind}
use Rattle.asm_statement.specs.declared.directive.Directive.TheVariants as directives
use Rattle.asm_statement.specs.declared.directive.Doubleword.TheVariants as doublewords
use Rattle.asm_statement.specs.declared.directive.Section.{Section}
use Rattle.asm_statement.specs.declared.line.Line.{Line}
use Rattle.asm_statement.specs.declared.line.Statement.{Statement}
use Rattle.asm_statement.specs.declared.line.Statement.TheVariants as statements
use Rattle.asm_layout.specs.Fixes.{fixes_of}
use Rattle.asm_layout.specs.Places.{filled}
use Rattle.asm_laws.specs.Lemmas.Each.{Each}
use Rattle.asm_laws.specs.AsmBounds.Lemmas.Fixes.{Adds, IsFit, all_fit}

-- whatever is added
any_statement : (statement : Option Statement) → Adds (λ _. ⊤) statement
any_statement (Some (statements.Directive (directives.Dword (doublewords.Address name addend)))) = tt
any_statement _ = tt

any_line : (lines : List Line) → Each (λ line. Adds (λ _. ⊤) line.statement) lines
any_line [] = tt
any_line (line ∷ lines) = (any_statement line.statement, any_line lines)

packs : (starts : Starts) → ((part : Part) → start_in starts part < 2 ^ 62) → (fixes : List Fix) → Each (IsFit (λ _. ⊤)) fixes → PacksBehind starts fixes
packs starts low [] near = tt
packs starts low (fix ∷ fixes) (first, near) =
    let start = low fix.spot.part in
    let offset = first.near in
    ((λ _. record { behind = first.behind; fits = omega (arith, start, offset) }), packs starts low fixes near)

pub pack_behind : (lines : List Line) → ((k : ℕ) (section : Section) → filled section (take k lines) < 2 ^ 53) → length lines ≤ 2 ^ 20 + 1
    → (starts : Starts) → ((part : Part) → start_in starts part < 2 ^ 62) → PacksBehind starts (fixes_of lines)
pack_behind lines small few starts low = packs starts low (fixes_of lines) (all_fit (λ _. ⊤) tt lines small few (any_line lines))
