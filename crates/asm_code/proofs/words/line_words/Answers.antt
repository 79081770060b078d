use Rattle.std.proofs.Common.{◌≡◌, ℕ, length, None, Some, below_more, arith}
use Rattle.std.specs.Prelude.{slice_get}
use Rattle.std.proofs.lemmas.Option.{slice_get_read}
use Rattle.asm_layout.specs.Faults.{fault_at}
use Rattle.asm_code.specs.Atlas.{IsAtlasOf}
use Rattle.asm_code.proofs.Wording.{words_more, no_fault}
use Rattle.asm_code.proofs.words.line_words.Goals as goal

pub loop-number-preserved : goal.loop-number-preserved
loop-number-preserved c =
    let lines = c.as_slice-line-items.result.now in
    let n = c.loop-number.number in
    let same = c.as_slice-line-items.ensures in
    let atlas : IsAtlasOf lines (record { uses = c.args.uses; needed = c.args.needed; places = c.args.places; bases = c.args.bases }) =
    rw same (record { uses = c.requires.uses; needed = c.requires.needed; places = c.requires.places; bases = c.requires.bases }) in
    let there : slice_get lines n ≡ Some c.line-item.result =
    slice_get_read lines (length lines) n c.line-item.result (omega arith) c.loop-number-test.true c.line-item.is in
    let told = c.in_ok-words_or_fault.ensures lines atlas there in
    record {
      words = rw c.in_ok-push.ensures.ok (words_more lines n c.loop-number.words c.in_ok-words_or_fault.field-0 c.loop-number.invariant.words told.1);
      accepted = below_more (λ (k : ℕ). fault_at lines k ≡ None) n c.loop-number.invariant.accepted told.0;
    }

pub returns-clause-accepted : goal.returns-clause-accepted
returns-clause-accepted c =
    rw (← c.as_slice-line-items.ensures)
    (no_fault c.as_slice-line-items.result.now c.loop-number.number (omega arith) c.loop-number.invariant.accepted)
