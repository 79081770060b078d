-- What a source says is as short as the source, and its alignments are those of the grammar.
use Rattle.std.proofs.Common.{◌≡◌, ap, subst, refl, ℕ, suc, ◌+◌, ◌^◌, ◌≤◌, ◌==◌, ◌||◌, Bool, true, false, List, [], ◌∷◌, ◌++◌, length, arith, inl, inr, length-append}
use Rattle.std.specs.Prelude.{Some, None, Option, option_to_list, ⊤}
use Rattle.std.specs.List.{join_with_byte, list_any}
use Rattle.std.specs.Str.{byte}
use Rattle.std.proofs.lemmas.Bool.Decides.{nat_tests}
use Rattle.asm_statement.specs.Alignments.{alignments, is_alignment}
use Rattle.asm_statement.specs.declared.directive.Directive.{Directive}
use Rattle.asm_statement.specs.declared.directive.Directive.TheVariants as the
use Rattle.asm_statement.specs.declared.line.Line.{Line}
use Rattle.asm_statement.specs.declared.line.Statement.{Statement}
use Rattle.asm_statement.specs.declared.line.Statement.TheVariants as statements
use Rattle.asm_grammar.specs.Directives.{alignment, named}
use Rattle.asm_grammar.specs.Grammar.{HasText, IsLabelled, SayLines, SaysLine, SaysOf, SaysSource, SaysText}
use Rattle.asm_grammar.specs.Texts.{IsWorded}
use Rattle.std.proofs.lemmas.List.Elements.{All-contains}
use Rattle.asm_laws.specs.Lemmas.Each.{Each, all, both}
use Rattle.asm_laws.specs.Said.{IsSaid, line_names, said_names, statement_names}
use Rattle.asm_laws.specs.Short.{AreOfSource, AreShort, IsShort}
use Rattle.asm_laws.specs.AsmWhole.Aligned.{AreAligned, IsAligned}
use Rattle.asm_laws.specs.AsmWhole.Named.{AreNames}
use Rattle.asm_laws.proofs.AsmWhole.Directives.{Ends, Good, IsNameWithin, Short, all_parts, directive_good}
use Rattle.asm_laws.proofs.AsmWhole.Instructions.{instruction_named}

-- Lines

worded_short : (text word behind : List ℕ) → IsWorded text word behind → length behind ≤ length text
worded_short text word behind (bare, inl (same, none)) = omega (arith, ap length none)
worded_short text word behind (bare, inr apart) =
    let whole = ap length apart.whole in
    let outer = length-append word (apart.gap ++ behind) in
    let inner = length-append apart.gap behind in
    omega (arith, whole, outer, inner)

label_short : (text : List ℕ) (label : Option (List ℕ)) (rest : List ℕ) → IsLabelled text label rest → length rest ≤ length text
label_short text None rest (same, none) = omega (arith, ap length same)
label_short text (Some label) rest begins =
    let whole = ap length begins.whole in
    let outer = length-append label (byte ":" ∷ (begins.gap ++ rest)) in
    let inner = length-append begins.gap rest in
    omega (arith, whole, outer, inner)

inner_short : (line : List ℕ) (label : Option (List ℕ)) (text : List ℕ) (has : HasText line label text) → length has.inner ≤ length line
inner_short line label text has =
    let said = ap length has.before.whole in
    let two = length-append has.said has.before.comment in
    let padded = ap length has.padded.whole in
    let outer = length-append has.padded.front (has.inner ++ has.padded.behind) in
    let inner = length-append has.inner has.padded.behind in
    omega (arith, said, two, padded, outer, inner)

text_short : (line : List ℕ) (label : Option (List ℕ)) (text : List ℕ) → HasText line label text → length text ≤ length line
text_short line label text has =
    let labelled = label_short has.inner label text has.labelled in
    let inner = inner_short line label text has in
    omega (arith, labelled, inner)

small : (alignment : ℕ) → is_alignment alignment ≡ true → alignment ≤ 4096
unfolding is_alignment
small alignment is = among alignments within alignment is
  where
    AllSmall : List ℕ → Type 0
    AllSmall [] = ⊤
    AllSmall (power ∷ powers) = (power ≤ 4096) × AllSmall powers

    within : AllSmall alignments
    within = (omega arith, (omega arith, (omega arith, (omega arith, (omega arith, (omega arith, (omega arith, (omega arith, (omega arith, (omega arith, (omega arith, (omega arith, (omega arith, tt)))))))))))))

    among : (powers : List ℕ) → AllSmall powers → (bytes : ℕ) → list_any (λ power. power == bytes) powers ≡ true → bytes ≤ 4096
    among [] all bytes is = absurd cc
    among (power ∷ powers) (first, all) bytes is =
        let P : Bool → Type 0 = λ here. (power == bytes) ≡ here → (here || list_any (λ power. power == bytes) powers) ≡ true → bytes ≤ 4096 in
        let found : P true = λ here _. (let same : power ≡ bytes = grind (arith, nat_tests) in omega (arith, same, first)) in
        let cases : (here : Bool) → P here = λ here. elim here as P [ true ↦ found | false ↦ λ _ rest. among powers all bytes rest ] in
        cases (power == bytes) refl is

-- what the laws ask of a line's statement, and of its names
record IsFit (statement : Option Statement) : Type 0 where
  short : IsShort statement
  aligned : IsAligned statement
  named : Each (IsNameWithin (2 ^ 20)) (statement_names statement)

directive_fit : (says : Directive) → Good (2 ^ 20) says → IsFit (Some (statements.Directive says))
directive_fit (the.Align alignment) (is, named) = record { short = small alignment is; aligned = is; named = named }
directive_fit (the.Asciz text) (less, named) = record { short = less; aligned = tt; named = named }
directive_fit _ (told, named) = record { short = tt; aligned = tt; named = named }

-- a line's statement
of_word : (word text : List ℕ) (says : Statement) → SaysOf word text says → length text ≤ 2 ^ 20 → IsFit (Some says)
of_word word text (statements.Instruction says) (form, operands, other, known, are, is) fits =
    record { short = tt; aligned = tt; named = instruction_named (2 ^ 20) form text operands says are fits is }
of_word word text (statements.Directive says) (which, known, is) fits = directive_fit says (subst (Ends (Good (2 ^ 20))) is (directive_good (2 ^ 20) which text fits))

label_named : (text : List ℕ) (label : Option (List ℕ)) (rest : List ℕ) → IsLabelled text label rest → length text ≤ 2 ^ 20 → Each (IsNameWithin (2 ^ 20)) (option_to_list label)
label_named text None rest is fits = tt
label_named text (Some label) rest begins fits =
    let whole = ap length begins.whole in
    let outer = length-append label (byte ":" ∷ (begins.gap ++ rest)) in
    (record { spelled = begins.name; short = omega (arith, whole, outer, fits) }, tt)

of_line : (line : List ℕ) (says : Line) → SaysLine line says → length line ≤ 2 ^ 20 → IsFit says.statement × Each (IsNameWithin (2 ^ 20)) (line_names says)
of_line line says is fits =
    let fit = of_text says.statement is.is in
    let inner = inner_short line says.label is.text is.has in
    (fit, both (IsNameWithin (2 ^ 20)) (option_to_list says.label) (statement_names says.statement) (label_named is.has.inner says.label is.text is.has.labelled (omega (arith, inner, fits))) fit.named)
  where
    of_text : (statement : Option Statement) → SaysText is.text statement → IsFit statement
    of_text None none = record { short = tt; aligned = tt; named = tt }
    of_text (Some statement) (some, said) =
        let behind = worded_short is.text said.word said.behind said.worded in
        let text = text_short line says.label is.text is.has in
        of_word said.word said.behind statement said.of_word (omega (arith, behind, text, fits))

-- Sources

few_parts : (mark : ℕ) (parts : List (List ℕ)) → length parts ≤ length (join_with_byte mark parts) + 1
few_parts mark [] = omega arith
few_parts mark (part ∷ []) = omega arith
few_parts mark (part ∷ next ∷ parts) =
    let whole = length-append part (mark ∷ join_with_byte mark (next ∷ parts)) in
    let rest = few_parts mark (next ∷ parts) in
    omega (arith, whole, rest)

as_many : (lines : List (List ℕ)) (says : List Line) → SayLines lines says → length says ≡ length lines
as_many [] [] said = refl
as_many [] (line ∷ says) said = absurd said
as_many (line ∷ lines) [] said = absurd said
as_many (line ∷ lines) (one ∷ says) (first, said) = ap suc (as_many lines says said)

-- the same of all lines
record AreFit (says : List Line) : Type 0 where
  short : AreShort says
  aligned : AreAligned says
  named : Each (IsNameWithin (2 ^ 20)) (said_names says)

all_lines : (lines : List (List ℕ)) (says : List Line) → SayLines lines says → Each (Short (2 ^ 20)) lines → AreFit says
all_lines [] [] said long = record { short = tt; aligned = tt; named = tt }
all_lines [] (line ∷ says) said long = absurd said
all_lines (line ∷ lines) [] said long = absurd said
all_lines (line ∷ lines) (one ∷ says) (first, said) (fits, long) =
    let (here, names) = of_line line one first fits in
    let rest = all_lines lines says said long in
    record {
      short = (here.short, rest.short);
      aligned = (here.aligned, rest.aligned);
      named = both (IsNameWithin (2 ^ 20)) (line_names one) (said_names says) names rest.named;
    }

pub of_source : (source : List ℕ) (says : List Line) → SaysSource source says → AreOfSource says × AreAligned says × AreNames says
of_source source says said =
    let joined = ap length said.parts.joined in
    let long : length (join_with_byte (byte "\n") said.lines) ≤ 2 ^ 20 = let bound = said.bound in omega (arith, joined, bound) in
    let few = few_parts (byte "\n") said.lines in
    let many = as_many said.lines says said.each in
    let fit = all_lines said.lines says said.each (all_parts (byte "\n") (2 ^ 20) said.lines long) in
    let named : (name : List ℕ) → IsSaid says name → IsNameWithin (2 ^ 20) name
    = λ name is. All-contains (IsNameWithin (2 ^ 20)) (said_names says) name (all (IsNameWithin (2 ^ 20)) (said_names says) fit.named) is in
    (record { count = omega (arith, few, many, long); short = fit.short; named = λ name is. (named name is).short }, fit.aligned, λ name is. (named name is).spelled)
