use Rattle.std.proofs.Common.{◌∙◌, ◌++◌, List, ℕ, append-nil, ap, sym}
use Rattle.scope_rule.specs.Seen.{seen}
use Rattle.scope_lists.specs.Brought.{brought_of}
use Rattle.scope_lists.proofs.Apart.{brings_nothing}
use Rattle.scope_lists.proofs.brought.Brought.add.Goals as goal

pub returns-then-not-has : goal.returns-then-not-has
returns-then-not-has c = λ q own.
    let before : List ℕ = brought_of c.args.self.now q in
    sym (append-nil before)
    ∙ ap (λ (l : List ℕ). before ++ l)
    (brings_nothing c.args.owners.now.serials.keys (seen c.args.view.now) c.args.root q (c.requires.apart c.if-apart.true) (sym c.has.ensures ∙ c.if-not-has.true) own)
