use Rattle.std.proofs.Common.{◌≡◌, ℕ, Bool, false, ◌||◌, length, leb, eqb, ap, sym, ◌∙◌, arith}
use Rattle.std.specs.List.{position}
use Rattle.std.proofs.lemmas.List.{length-take-le}
use Rattle.hart_moves.specs.Copying.{has_end}
use Rattle.hart_seat.proofs.HartParts.Bytes.{an_end, copied_all, cut_found, ends_name, no_end, whole_without}
use Rattle.hart_seat.proofs.hart_parts.passed.PassedBytes.cut.Goals as goal

pub returns-in-Some-clause-left : goal.returns-in-Some-clause-left
returns-in-Some-clause-left c =
    c.truncate.ensures ∙ cut_found c.args.self.now c.in-Some.end (sym c.in-Some.is ∙ c.first_zero.ensures ∙ ap (position ends_name) c.as_slice.ensures.bytes)

pub returns-in-Some-clause-copied : goal.returns-in-Some-clause-copied
returns-in-Some-clause-copied c =
    sym (ap (λ (t : Bool). t || leb 256 (length c.args.self.now)) (an_end c.args.self.now c.in-Some.end (sym c.in-Some.is ∙ c.first_zero.ensures ∙ ap (position ends_name) c.as_slice.ensures.bytes)))

pub returns-in-None-clause-copied : goal.returns-in-None-clause-copied
returns-in-None-clause-copied c =
    let size : length c.args.self.now ≡ c.self.inside.len = ap length (sym c.self.view_is) ∙ length-take-le c.self.inside.len c.self.inside.bytes (omega (arith, c.self.told, c.self.invariant)) in
    let without : has_end c.args.self.now ≡ false = no_end c.args.self.now (sym c.in-None.is ∙ c.first_zero.ensures ∙ ap (position ends_name) c.as_slice.ensures.bytes) in
    ap (λ (n : ℕ). eqb n 256) (sym size) ∙ copied_all (has_end c.args.self.now) (length c.args.self.now) without (omega (arith, size, c.self.invariant))

pub returns-in-None-clause-left : goal.returns-in-None-clause-left
returns-in-None-clause-left c =
    sym (whole_without c.args.self.now (no_end c.args.self.now (sym c.in-None.is ∙ c.first_zero.ensures ∙ ap (position ends_name) c.as_slice.ensures.bytes)))
