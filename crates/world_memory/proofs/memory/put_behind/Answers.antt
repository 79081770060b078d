use Rattle.std.proofs.Common.{rules, ◌≡◌, ℕ, ◌-◌, ◌≤◌, List, [], ◌∷◌, ◌++◌, length, ap, ◌∙◌, arith}
use Rattle.std.specs.Vec.{vec_len}
use Rattle.rv_hart.specs.Doublewords.{nowhere}
use Rattle.rv_hart.specs.declared.doubleword.Doubleword.{Doubleword}
use Rattle.world_memory.specs.Front.{front_count, nowheres, spread}
use Rattle.world_memory.proofs.Spreading.{put_between, put_nothing}
use Rattle.world_memory.proofs.memory.put_behind.Goals as goal

pub returns-then-ne-clause-put : goal.returns-then-ne-clause-put
returns-then-ne-clause-put c = λ page.
    let long : vec_len c.args.front.now ≡ length c.args.front.now.items = c.args.front.now.ok.0 in
    let out : length c.args.front.now.items ≤ c.args.index = omega (arith, long, c.requires.behind) in
    let few : length c.args.front.now.items ≤ front_count = omega (arith, out, c.requires.inside) in
    ap (λ (ws : List Doubleword). spread ws page)
    (c.push_reserved.ensures.items
    ∙ ap (λ (ws : List Doubleword). ws ++ c.args.word ∷ [])
    (c.extend.ensures.items ∙ ap (λ (n : ℕ). c.args.front.now.items ++ nowheres (c.args.index - n)) (c.len.ensures ∙ long)))
    ∙ put_between front_count c.args.front.now.items page few c.args.index c.args.word out c.requires.inside

pub returns-else-ne-clause-put : goal.returns-else-ne-clause-put
returns-else-ne-clause-put c = λ page.
    let long : vec_len c.args.front.now ≡ length c.args.front.now.items = c.args.front.now.ok.0 in
    let out : length c.args.front.now.items ≤ c.args.index = omega (arith, long, c.requires.behind) in
    let few : length c.args.front.now.items ≤ front_count = omega (arith, out, c.requires.inside) in
    let none : c.args.word ≡ nowhere = search rules in
    put_nothing front_count c.args.front.now.items page few c.args.index c.args.word out c.requires.inside none
