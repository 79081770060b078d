use Rattle.std.proofs.Common.{◌≡◌, ℕ, ◌<◌, Some, Option, List, eqb, cond, length, take, ap, sym, ◌∙◌, ◌+◌, ◌++◌, ◌∷◌, [], arith}
use Rattle.std.specs.HashMap.{get}
use Rattle.std.proofs.lemmas.List.{take_more}
use Rattle.init_order.specs.declared.walk.Mark.{Mark}
use Rattle.init_order.specs.declared.walk.Mark.TheVariants.{Settled}
use Rattle.init_order.specs.Walking.{is_in}
use Rattle.init_order.proofs.Settles.{marked_more}
use Rattle.init_order.proofs.walk.mark_settled.Goals as goal

pub loop-serial-preserved : goal.loop-serial-preserved
loop-serial-preserved c = λ q.
    let xs : List ℕ = c.args.serials.now in
    let i : ℕ = c.loop-serial.serial-index in
    let x : ℕ = c.serial-item.result in
    let within : i < length xs = omega arith in
    let more : take (i + 1) xs ≡ take i xs ++ x ∷ [] = take_more xs i x within ∙ ap (λ (y : ℕ). take i xs ++ y ∷ []) (sym c.serial-item.is) in
    c.in_ok-insert.ensures.updates.0 q
    ∙ ap (λ (o : Option Mark). cond (eqb x q) (Some (Settled c.args.component)) o) (c.loop-serial.invariant q)
    ∙ marked_more (take i xs) x q (Settled c.args.component) (get eqb c.args.marks.now q)
    ∙ ap (λ (ys : List ℕ). cond (is_in ys q) (Some (Settled c.args.component)) (get eqb c.args.marks.now q)) (sym more)
