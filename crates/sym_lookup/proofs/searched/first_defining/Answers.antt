use Rattle.std.proofs.Common.{◌≡◌, subst, sym, ◌∙◌, arith}
use Rattle.std.specs.Prelude.{Some, None}
use Rattle.std.proofs.lemmas.List.Elements.{All-from_recursion}
use Rattle.scope_rule.specs.Choose.{pick_at}
use Rattle.scope_rule.specs.Seen.{seen}
use Rattle.scope_lists.specs.Lists.{IsSearched}
use Rattle.sym_lookup.specs.Looking.{outside}
use Rattle.sym_lookup.proofs.Skips.{one_asked, one_has, skipped_all, skipped_to}
use Rattle.sym_lookup.proofs.searched.first_defining.Goals as goal

pub bounds-searched-place : goal.bounds-searched-place
bounds-searched-place c = (c.in-Some.ensures (seen c.args.view.now).objects c.args.searched.now c.requires.definers).within

pub offset_bounds-searched-place : goal.offset_bounds-searched-place
offset_bounds-searched-place c = (let next = c.in-Some.ensures (seen c.args.view.now).objects c.args.searched.now c.requires.definers in omega (arith, next.within))

pub overflow_add-from : goal.overflow_add-from
overflow_add-from c = (let next = c.in-Some.ensures (seen c.args.view.now).objects c.args.searched.now c.requires.definers in omega (arith, next.within))

pub loop-place-smaller : goal.loop-place-smaller
loop-place-smaller c = (let next = c.in-Some.ensures (seen c.args.view.now).objects c.args.searched.now c.requires.definers in omega (arith, next.behind, next.within))

pub found_outside-requires-clause-searched : goal.found_outside-requires-clause-searched
found_outside-requires-clause-searched c =
    let s = seen c.args.view.now in
    let list = c.args.searched.now in
    let next = c.in-Some.ensures s.objects list c.requires.definers in
    let one = c.index-searched-place.result in
    subst (IsSearched s) (sym c.index-searched-place.is) (All-from_recursion (IsSearched s) list c.requires.searched c.in-Some.place one next.within)

pub returns-in-Some-found_outside : goal.returns-in-Some-found_outside
returns-in-Some-found_outside c =
    let s = seen c.args.view.now in
    let sought = c.args.sought.now in
    let asked = outside c.args.copy c.args.owner (pick_at s sought.name sought.want) in
    let list = c.args.searched.now in
    let next = c.in-Some.ensures s.objects list c.requires.definers in
    let skipped = skipped_to c.one_pick.ensures.taken s sought.name sought.want c.args.copy c.args.owner list c.args.definers.now c.loop-place.from c.gnu.result c.requires.definers c.requires.searched c.gnu.ensures c.in-Some.place next in
    let has : asked c.index-searched-place.result.serial ≡ Some c.in-Some-found_outside.index = sym c.found_outside.ensures ∙ c.in-Some-found_outside.is in
    sym (sym c.loop-place.invariant.same ∙ skipped ∙ one_has asked list c.in-Some.place c.in-Some-found_outside.index c.index-searched-place.result next.within c.index-searched-place.is has)

pub loop-place-preserved : goal.loop-place-preserved
loop-place-preserved c =
    let s = seen c.args.view.now in
    let sought = c.args.sought.now in
    let asked = outside c.args.copy c.args.owner (pick_at s sought.name sought.want) in
    let list = c.args.searched.now in
    let next = c.in-Some.ensures s.objects list c.requires.definers in
    let skipped = skipped_to c.one_pick.ensures.taken s sought.name sought.want c.args.copy c.args.owner list c.args.definers.now c.loop-place.from c.gnu.result c.requires.definers c.requires.searched c.gnu.ensures c.in-Some.place next in
    let none : asked c.index-searched-place.result.serial ≡ None = sym c.found_outside.ensures ∙ c.in_default-found_outside.is in
    record {
      within = omega (arith, next.within);
      same = sym (one_asked asked list c.in-Some.place c.index-searched-place.result next.within c.index-searched-place.is none) ∙ sym skipped ∙ c.loop-place.invariant.same;
    }

pub returns : goal.returns
returns c =
    let s = seen c.args.view.now in
    let sought = c.args.sought.now in
    let list = c.args.searched.now in
    sym
    (sym c.loop-place.invariant.same
    ∙ skipped_all c.one_pick.ensures.taken s sought.name sought.want c.args.copy c.args.owner list c.args.definers.now c.loop-place.from c.gnu.result c.requires.definers c.requires.searched c.gnu.ensures
    (c.in_default.ensures s.objects list c.requires.definers) c.loop-place.invariant.within)
