-- What is so of all places that the linker of a source's object fills.
use Rattle.std.proofs.Common.{◌≡◌, subst, refl, ℕ, ◌+◌, ◌*◌, ◌^◌, ◌<◌, ◌≤◌, Bool, true, false, if◌then◌else◌, List, [], ◌∷◌, ◌++◌, length, take, arith}
use Rattle.std.specs.Prelude.{⊤, Option, Some}
use Rattle.asm_write.specs.declared.contents.Fix.{Fix}
use Rattle.asm_write.specs.declared.contents.Spot.{Spot}
use Rattle.asm_write.specs.declared.part.Part.{Part}
use Rattle.asm_write.specs.declared.part.Part.TheVariants as parts
use Rattle.asm_write.specs.Parts.{number_of}
use Rattle.asm_write.specs.Starts.{wrapped}
use Rattle.asm_statement.specs.declared.directive.Array.{Array}
use Rattle.asm_statement.specs.declared.directive.Array.TheVariants as arrays
use Rattle.asm_statement.specs.declared.directive.Directive.TheVariants as directives
use Rattle.asm_statement.specs.declared.directive.Doubleword.TheVariants as doublewords
use Rattle.asm_statement.specs.declared.directive.Section.{Section}
use Rattle.asm_statement.specs.declared.directive.Section.TheVariants as sections
use Rattle.asm_statement.specs.declared.line.Line.{Line}
use Rattle.asm_statement.specs.declared.line.Statement.{Statement}
use Rattle.asm_statement.specs.declared.line.Statement.TheVariants as statements
use Rattle.asm_layout.specs.declared.uses.GotKind.TheVariants as gots
use Rattle.asm_layout.specs.declared.uses.GotUse.{GotUse}
use Rattle.asm_write.specs.declared.contents.Target.TheVariants as targets
use Rattle.asm_write.specs.Records.{target_symbol}
use Rattle.asm_layout.specs.Names.{is_preemptible}
use Rattle.asm_layout.specs.Symbols.{symbol_index}
use Rattle.asm_layout.specs.Fixes.{addend_of, array_fixes, fixes_of, got_fix, got_fixes, line_fixes, section_fixes, statement_fixes, target_of}
use Rattle.asm_layout.specs.Places.{filled, is_section, place_at}
use Rattle.asm_layout.specs.Spots.{own_spot, part_of, spot_of}
use Rattle.asm_layout.specs.Tables.{entries, got_words}
use Rattle.asm_layout.specs.Uses.{got_uses}
use Rattle.asm_laws.specs.Lemmas.Each.{Each, both}
use Rattle.asm_laws.specs.Lemmas.Fewer.{entries_few, uses_few}
use Rattle.asm_laws.specs.Lemmas.Filled.{is_same}

-- such a place stands in the third segment or behind it, and near the start of its part; a symbol's number has 32 bits; Q holds of what is added
pub record IsFit (Q : ℕ → Type 0) (fix : Fix) : Type 0 where
  pub behind : number_of parts.Dynamic ≤ number_of fix.spot.part
  pub near : fix.spot.offset < 2 ^ 54
  pub symbol : target_symbol fix.target < 2 ^ 32
  pub addend : Q fix.addend

-- Q holds of what a statement adds to an address
abbrev pub Adds : (ℕ → Type 0) → Option Statement → Type 0
Adds Q (Some (statements.Directive (directives.Dword (doublewords.Address name addend)))) = Q (addend_of addend)
Adds Q _ = ⊤

unwrapped : (n : ℕ) → wrapped n ≤ n
unwrapped n = omega arith

numbered : (lines : List Line) (name : List ℕ) → symbol_index lines name < 2 ^ 32
unfolding symbol_index
numbered lines name = omega arith

targeted : (lines : List Line) (name : List ℕ) → target_symbol (target_of lines name) < 2 ^ 32
targeted lines name =
    let low = numbered lines name in
    elim (is_preemptible lines name) as (λ b. target_symbol (if b then targets.Symbol (symbol_index lines name) else targets.Own (own_spot lines name)) < 2 ^ 32) [
      | true ↦ low
      | false ↦ omega arith
    ]

module _ (Q : ℕ → Type 0) (none : Q 0) (lines : List Line) where
  got_fit : (offset : ℕ) (uses : List GotUse) → offset + 16 * length uses < 2 ^ 54 → Each (IsFit Q) (got_fixes lines offset uses)
  got_fit offset [] low = tt
  got_fit offset (got ∷ uses) low =
      let one = unwrapped offset in
      let other = unwrapped (offset + 8) in
      let symbol = targeted lines got.name in
      let short = got_fit (offset + 8 * 1) uses (omega (arith, low)) in
      let long = got_fit (offset + 8 * 2) uses (omega (arith, low)) in
      elim got.kind as (λ kind. Each (IsFit Q) (got_fix lines offset got.name kind ++ got_fixes lines (offset + 8 * got_words kind) uses)) [
        | gots.Address ↦ (record { behind = omega arith; near = omega (arith, one, low); symbol = symbol; addend = none }, short)
        | gots.Pair ↦ (
          record { behind = omega arith; near = omega (arith, one, low); symbol = symbol; addend = none },
          (record { behind = omega arith; near = omega (arith, other, low); symbol = symbol; addend = none }, long),
        )
        | gots.Offset ↦ (record { behind = omega arith; near = omega (arith, one, low); symbol = symbol; addend = none }, short)
      ]

  array_fit : (part : Part) → number_of parts.Dynamic ≤ number_of part → (offset : ℕ) (names : List (List ℕ)) → offset + 8 * length names < 2 ^ 54
      → Each (IsFit Q) (array_fixes lines part offset names)
  array_fit part behind offset [] low = tt
  array_fit part behind offset (name ∷ names) low =
      let one = unwrapped offset in (
        record { behind = behind; near = omega (arith, one, low); symbol = omega arith; addend = none },
        array_fit part behind (offset + 8) names (omega (arith, low)),
      )

  statement_fit : (spot : Spot) (statement : Option Statement) → number_of parts.Dynamic ≤ number_of spot.part → spot.offset < 2 ^ 54 → Adds Q statement
      → Each (IsFit Q) (statement_fixes lines spot statement)
  statement_fit spot (Some (statements.Directive (directives.Dword (doublewords.Address name addend)))) behind near adds =
      (record { behind = behind; near = near; symbol = targeted lines name; addend = adds }, tt)
  statement_fit spot (Some (statements.Directive (directives.Copy name size))) behind near adds =
      (record { behind = behind; near = near; symbol = numbered lines name; addend = none }, tt)
  statement_fit spot _ behind near adds = tt

  module _ (small : (k : ℕ) (section : Section) → filled section (take k lines) < 2 ^ 53) where
    section_fit : (section : Section) → number_of parts.Dynamic ≤ number_of (part_of section) → (k : ℕ) (rest : List Line)
        → Each (λ line. Adds Q line.statement) rest → Each (IsFit Q) (section_fixes lines section k rest)
    section_fit section behind k [] adds = tt
    section_fit section behind k (line ∷ rest) (first, adds) =
        let place = place_at lines k in
        let less = small k place.section in
        let P : Bool → Type 0 = λ b. is_section section place.section ≡ b
        → Each (IsFit Q) (if b then statement_fixes lines (spot_of place) line.statement else []) in
        let own : P true = λ is.
        let there = subst (λ s. number_of parts.Dynamic ≤ number_of (part_of s)) (is_same section place.section is) behind in
        statement_fit (spot_of place) line.statement there (omega (arith, less)) first in
        let cases : (b : Bool) → P b = λ b. elim b as P [ true ↦ own | false ↦ λ _. tt ] in
        both (IsFit Q) (line_fixes lines section place line) (section_fixes lines section (k + 1) rest) (cases (is_section section place.section) refl)
        (section_fit section behind (k + 1) rest adds)

    -- all places that the linker of a source's object fills
    pub all_fit : length lines ≤ 2 ^ 20 + 1 → Each (λ line. Adds Q line.statement) lines → Each (IsFit Q) (fixes_of lines)
    unfolding fixes_of
    all_fit few adds =
        let uses = uses_few lines in
        let array : (part : Part) → number_of parts.Dynamic ≤ number_of part → (which : Array) → Each (IsFit Q) (array_fixes lines part 0 (entries which lines))
        = λ part behind which. let some = entries_few which lines in array_fit part behind 0 (entries which lines) (omega (arith, some, few)) in
        let section : (target : Section) → number_of parts.Dynamic ≤ number_of (part_of target) → Each (IsFit Q) (section_fixes lines target 0 lines)
        = λ target behind. section_fit target behind 0 lines adds in
        both (IsFit Q) _ (section_fixes lines sections.Bss 0 lines)
        (both (IsFit Q) _ (section_fixes lines sections.Data 0 lines)
        (both (IsFit Q) _ (section_fixes lines sections.Tdata 0 lines)
        (both (IsFit Q) _ (section_fixes lines sections.Relro 0 lines)
        (both (IsFit Q) _ (array_fixes lines parts.FiniArray 0 (entries arrays.Fini lines))
        (both (IsFit Q) _ (array_fixes lines parts.InitArray 0 (entries arrays.Init lines))
        (both (IsFit Q) (got_fixes lines 0 (got_uses lines)) (array_fixes lines parts.PreinitArray 0 (entries arrays.Preinit lines))
        (got_fit 0 (got_uses lines) (omega (arith, uses, few))) (array parts.PreinitArray (omega arith) arrays.Preinit))
        (array parts.InitArray (omega arith) arrays.Init))
        (array parts.FiniArray (omega arith) arrays.Fini))
        (section sections.Relro (omega arith)))
        (section sections.Tdata (omega arith)))
        (section sections.Data (omega arith)))
        (section sections.Bss (omega arith))
