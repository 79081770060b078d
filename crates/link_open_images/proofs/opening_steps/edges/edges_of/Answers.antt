use Rattle.std.proofs.Common.{◌≤◌, drop, length, ◌∙◌, arith}
use Rattle.std.proofs.lemmas.List.{drop_all}
use Rattle.link_open_images.proofs.OpeningSteps.Chosen.{among_none, as_chosen, edges_among}
use Rattle.link_open_images.proofs.opening_steps.edges.edges_of.Goals as goal

pub returns : goal.returns
returns c = λ s ns now are.
    let over : length c.args.objects.now ≤ c.loop-index.index = omega (arith, c.loop-index-test.false) in
    among_none c.loop-index.edges.items (drop c.loop-index.index c.args.objects.now) (drop c.loop-index.index c.args.choices.now) (edges_among c.args.objects.now c.args.choices.now)
    c.loop-index.invariant (drop_all c.loop-index.index c.args.objects.now over)
    ∙ as_chosen s ns now c.args.objects.now c.args.choices.now c.requires.count are.each
