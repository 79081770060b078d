use Rattle.std.proofs.Common.{◌∙◌, ◌++◌, ◌∷◌, ◌+◌, ◌<◌, ◌^◌, [], List, ℕ, ap, sym, length, append_assoc, arith}
use Rattle.std.specs.Prelude.{Option}
use Rattle.std.specs.List.{cons_option}
use Rattle.asm_layout.specs.Contents.{offsets_from}
use Rattle.asm_layout.proofs.Offsets.{cut_offsets}
use Rattle.asm_contents.proofs.Joined.{small}
use Rattle.asm_contents.proofs.strings.push_offset.Goals as goal

pub returns-in_ok-push-in-Some : goal.returns-in_ok-push-in-Some
returns-in_ok-push-in-Some c = λ rest.
    let old = c.args.offsets.now in
    let at = c.args.at in
    let name = c.in-Some.name.now in
    let next = c.offset_behind.result in
    let below : at < 2 ^ 32 = omega (arith, c.ranges.at.fits) in
    ap (λ (front : List ℕ). front ++ offsets_from next rest) c.in_ok-push-in-Some.ensures.ok
    ∙ append_assoc old (at ∷ []) (offsets_from next rest)
    ∙ ap (λ (tail : List ℕ). old ++ at ∷ tail) (ap (λ (m : ℕ). offsets_from m rest) c.offset_behind.ensures ∙ cut_offsets (at + length name + 1) rest)
    ∙ ap (λ (first : ℕ). old ++ first ∷ offsets_from (at + length name + 1) rest) (sym (small at below))
    ∙ ap (λ (found : Option (List ℕ)). old ++ offsets_from at (cons_option found rest)) c.in-Some.ensures
