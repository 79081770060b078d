use Rattle.std.proofs.Common.{◌≡◌, ◌∷◌, ◌++◌, ℕ, List, length, ap, ◌∙◌, arith}
use Rattle.history_calls.specs.Functions.{preinits}
use Rattle.link_startup.proofs.Opened.{addresses_are, can_read_it}
use Rattle.link_startup.proofs.preinits.preinits.Goals as goal

pub bounds-objects-0 : goal.bounds-objects-0
bounds-objects-0 c =
    let all : length c.startup_objects.result.0.now ≡ length (c.requires.program ∷ c.requires.others) =
    ap length (c.startup_objects.ensures.objects c.requires.loaded ∙ c.requires.are) in
    omega (arith, all)

pub push_preinits-requires-clause-accepted : goal.push_preinits-requires-clause-accepted
push_preinits-requires-clause-accepted c =
    (can_read_it c.args.state.now.events c.args.installs.now c.requires c.startup_objects.result.0.now c.index-objects-0.result c.as_slice.result.now c.index-as_slice-0.result
    (c.startup_objects.ensures.objects c.requires.loaded) c.as_slice.ensures c.index-objects-0.is c.index-as_slice-0.is).accepted

pub push_preinits-requires-clause-all : goal.push_preinits-requires-clause-all
push_preinits-requires-clause-all c =
    (can_read_it c.args.state.now.events c.args.installs.now c.requires c.startup_objects.result.0.now c.index-objects-0.result c.as_slice.result.now c.index-as_slice-0.result
    (c.startup_objects.ensures.objects c.requires.loaded) c.as_slice.ensures c.index-objects-0.is c.index-as_slice-0.is).whole

pub returns : goal.returns
returns c =
    addresses_are c.args.state.now.events c.args.installs.now c.requires c.startup_objects.result.0.now c.index-objects-0.result c.as_slice.result.now c.index-as_slice-0.result
    (c.startup_objects.ensures.objects c.requires.loaded) c.as_slice.ensures c.index-objects-0.is c.index-as_slice-0.is c.push_preinits.new.addresses.items
    (λ m is. c.push_preinits.ensures.addresses m is ∙ ap (λ (xs : List ℕ). xs ++ preinits m) c.in_ok-addresses.ensures.items)
