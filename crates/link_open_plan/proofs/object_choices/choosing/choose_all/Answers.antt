use Rattle.std.proofs.Common.{◌≡◌, ◌∙◌, ◌+◌, ℕ, suc, List, [], ◌∷◌, ◌++◌, length, Some, ap, sym, arith}
use Rattle.std.specs.List.{slice_get}
use Rattle.std.proofs.lemmas.Option.{slice_get-get_or}
use Rattle.ld_base.specs.declared.linking.Loaded.{Loaded}
use Rattle.link_open_plan.proofs.object_choices.choosing.choose_all.Goals as goal

-- what stands behind others
behind : (xs ys : List Loaded) (k : ℕ) (o : Loaded) → slice_get ys k ≡ Some o → slice_get (xs ++ ys) (length xs + k) ≡ Some o
behind [] ys k o at = (let none : 0 + k ≡ k = omega arith in ap (slice_get ys) none ∙ at)
behind (x ∷ xs) ys k o at =
    let next : length (x ∷ xs) + k ≡ suc (length xs + k) = omega arith in
    ap (slice_get (x ∷ xs ++ ys)) next ∙ behind xs ys k o at

pub choose_at-requires-clause-listed : goal.choose_at-requires-clause-listed
choose_at-requires-clause-listed c =
    let there = c.args.sight.now.view.objects.now in
    let added = c.args.sight.now.view.added.now in
    let k : ℕ = c.loop-index.index in
    let owner : Loaded = c.owner-item.result in
    let here = slice_get-get_or added k owner c.loop-index-test.true ∙ ap (λ (o : Loaded). Some o) (sym c.owner-item.is) in
    c.requires.sight.listed (length there + k) owner (omega arith) (behind there added k owner here)
