use Rattle.std.proofs.Common.{◌≡◌, ◌<◌, ℕ, ◌+◌, true, false, cond, eqb, List, length, sym, ap, subst, ◌∙◌, arith}
use Rattle.std.specs.HashSet.{contains}
use Rattle.std.specs.List.{list_any}
use Rattle.std.proofs.lemmas.Bool.{OnFalse_at, not-false, not-true, true≢false}
use Rattle.init_order.specs.Jobs.{AreFirstsTo}
use Rattle.init_order.proofs.Firsts.{firsts_passed, firsts_pushed, is_in_push}
use Rattle.init_order.proofs.Settles.{from_is_in, is_in_from}
use Rattle.init_order.proofs.init.firsts.Goals as goal

pub loop-serial-preserved-then-not-branch : goal.loop-serial-preserved-then-not-branch
loop-serial-preserved-then-not-branch c =
    let xs : List ℕ = c.args.serials.now in
    let i : ℕ = c.loop-serial.serial-index in
    let line : List ℕ = c.loop-serial.line.items in
    let within : i < length xs = omega arith in
    let x : ℕ = c.serial-item.result in
    let known : list_any (eqb x) line ≡ true = sym (c.loop-serial.invariant.seen x) ∙ not-false (contains eqb c.loop-serial.seen x) (sym c.in_ok-insert.ensures.added ∙ c.if-not-branch.true) in
    record {
      line = firsts_passed xs i line x within c.serial-item.is c.loop-serial.invariant.line (from_is_in line x known);
      seen = λ q. ap (list_any (eqb q)) (OnFalse_at c.if-not-branch.true c.in_ok-insert.ensures.unchanged) ∙ c.loop-serial.invariant.seen q;
    }

pub loop-serial-preserved : goal.loop-serial-preserved
loop-serial-preserved c =
    let xs : List ℕ = c.args.serials.now in
    let i : ℕ = c.loop-serial.serial-index in
    let line : List ℕ = c.loop-serial.line.items in
    let within : i < length xs = omega arith in
    let x : ℕ = c.serial-item.result in
    let new : list_any (eqb x) line ≡ false = sym (c.loop-serial.invariant.seen x) ∙ not-true (contains eqb c.loop-serial.seen x) (sym c.in_ok-insert.ensures.added ∙ c.if-not-branch.false) in
    record {
      line =
          subst (AreFirstsTo xs (i + 1)) (sym c.in_ok-push.ensures.items)
          (firsts_pushed xs i line x within c.serial-item.is c.loop-serial.invariant.line (λ there. true≢false (sym (is_in_from line x there) ∙ new)));
      seen = λ q.
          c.in_ok-insert.ensures.updates.0 q ∙ ap (cond (eqb x q) true) (c.loop-serial.invariant.seen q) ∙ sym (is_in_push line x q)
          ∙ ap (list_any (eqb q)) (sym c.in_ok-push.ensures.items);
    }
