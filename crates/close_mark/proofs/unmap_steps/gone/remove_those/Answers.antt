use Rattle.std.proofs.Common.{◌≡◌, ◌<◌, ◌≤◌, List, length, Some, sym, ap, subst, ◌∙◌, arith}
use Rattle.std.specs.Option.{option_map}
use Rattle.std.specs.List.{count_by, filter, find}
use Rattle.std.proofs.lemmas.List.Sums.{count_by-le-length, length-filter}
use Rattle.history_event.specs.declared.state.Module.{Module}
use Rattle.history_state.specs.Lemmas.Lists.{found_in}
use Rattle.tls_blocks.specs.Numbers.{AreNumbered, without_module}
use Rattle.close_mark.specs.UnmapSteps.Touched.{is_of_set}
use Rattle.close_mark.proofs.UnmapSteps.Removed.{IsOneLess, found_number, is_there, no_more, none_go, removed_one, stays, still_numbered}
use Rattle.close_mark.proofs.unmap_steps.gone.remove_those.Goals as goal

pub remove-requires-clause-there : goal.remove-requires-clause-there
remove-requires-clause-there c =
    let at : Some c.in-Some.number ≡ option_map (λ (m : Module). m.number) (find (is_of_set c.args.set.now) c.loop-number.modules.modules) =
    c.in-Some.ensures ∙ ap (λ (ms : List Module). option_map (λ (m : Module). m.number) (find (is_of_set c.args.set.now) ms)) c.as_slice.ensures in
    let m = found_number c.args.set.now c.loop-number.modules.modules c.in-Some.number at in
    is_there c.loop-number.modules.modules m.0 c.in-Some.number (found_in (is_of_set c.args.set.now) c.loop-number.modules.modules m.0 m.1).0 m.2

pub remove-requires-clause-generation : goal.remove-requires-clause-generation
remove-requires-clause-generation c =
    let at : Some c.in-Some.number ≡ option_map (λ (m : Module). m.number) (find (is_of_set c.args.set.now) c.loop-number.modules.modules) =
    c.in-Some.ensures ∙ ap (λ (ms : List Module). option_map (λ (m : Module). m.number) (find (is_of_set c.args.set.now) ms)) c.as_slice.ensures in
    let m = found_number c.args.set.now c.loop-number.modules.modules c.in-Some.number at in
    let less : IsOneLess c.args.set.now c.loop-number.modules.modules (without_module m.0.number c.loop-number.modules.modules) =
    removed_one c.args.set.now c.loop-number.modules.modules m.0 m.1 c.loop-number.invariant.numbered.rising in
    let all : length (filter (is_of_set c.args.set.now) c.args.modules.now.modules) ≤ length c.args.modules.now.modules =
    (let le : count_by (is_of_set c.args.set.now) c.args.modules.now.modules ≤ length c.args.modules.now.modules = count_by-le-length (is_of_set c.args.set.now) c.args.modules.now.modules in
    let long : length (filter (is_of_set c.args.set.now) c.args.modules.now.modules) ≡ count_by (is_of_set c.args.set.now) c.args.modules.now.modules = length-filter (is_of_set c.args.set.now) c.args.modules.now.modules in
    omega (arith, le, long)) in
    omega (arith, less.go, all, c.loop-number.invariant.counted, c.requires.generation)

pub loop-number-smaller : goal.loop-number-smaller
loop-number-smaller c =
    let at : Some c.in-Some.number ≡ option_map (λ (m : Module). m.number) (find (is_of_set c.args.set.now) c.loop-number.modules.modules) =
    c.in-Some.ensures ∙ ap (λ (ms : List Module). option_map (λ (m : Module). m.number) (find (is_of_set c.args.set.now) ms)) c.as_slice.ensures in
    let m = found_number c.args.set.now c.loop-number.modules.modules c.in-Some.number at in
    let less : IsOneLess c.args.set.now c.loop-number.modules.modules (without_module m.0.number c.loop-number.modules.modules) =
    removed_one c.args.set.now c.loop-number.modules.modules m.0 m.1 c.loop-number.invariant.numbered.rising in
    let is : c.remove.new.self.modules ≡ without_module m.0.number c.loop-number.modules.modules =
    c.remove.ensures.modules ∙ ap (λ n. without_module n c.loop-number.modules.modules) (sym m.2) in
    let same : length (filter (is_of_set c.args.set.now) c.remove.new.self.modules) ≡ length (filter (is_of_set c.args.set.now) (without_module m.0.number c.loop-number.modules.modules)) =
    ap (λ (ms : List Module). length (filter (is_of_set c.args.set.now) ms)) is in
    let smaller : length (filter (is_of_set c.args.set.now) c.remove.new.self.modules) < length (filter (is_of_set c.args.set.now) c.loop-number.modules.modules) = omega (arith, less.go, same) in
    smaller

pub loop-number-preserved : goal.loop-number-preserved
loop-number-preserved c =
    let at : Some c.in-Some.number ≡ option_map (λ (m : Module). m.number) (find (is_of_set c.args.set.now) c.loop-number.modules.modules) =
    c.in-Some.ensures ∙ ap (λ (ms : List Module). option_map (λ (m : Module). m.number) (find (is_of_set c.args.set.now) ms)) c.as_slice.ensures in
    let m = found_number c.args.set.now c.loop-number.modules.modules c.in-Some.number at in
    let less : IsOneLess c.args.set.now c.loop-number.modules.modules (without_module m.0.number c.loop-number.modules.modules) =
    removed_one c.args.set.now c.loop-number.modules.modules m.0 m.1 c.loop-number.invariant.numbered.rising in
    let is : c.remove.new.self.modules ≡ without_module m.0.number c.loop-number.modules.modules =
    c.remove.ensures.modules ∙ ap (λ n. without_module n c.loop-number.modules.modules) (sym m.2) in
    let same : length (filter (is_of_set c.args.set.now) c.remove.new.self.modules) ≡ length (filter (is_of_set c.args.set.now) (without_module m.0.number c.loop-number.modules.modules)) =
    ap (λ (ms : List Module). length (filter (is_of_set c.args.set.now) ms)) is in
    record {
      numbered = subst AreNumbered (sym is) (still_numbered m.0.number c.loop-number.modules.modules c.loop-number.invariant.numbered);
      stay = ap (filter (stays c.args.set.now)) is ∙ less.stay ∙ c.loop-number.invariant.stay;
      counted = omega (arith, c.remove.ensures.generation, same, less.go, c.loop-number.invariant.counted);
      size = c.remove.ensures.size ∙ c.loop-number.invariant.size;
      tp = c.remove.ensures.tp ∙ c.loop-number.invariant.tp;
    }

pub returns-clause-modules : goal.returns-clause-modules
returns-clause-modules c =
    let none = none_go c.args.set.now c.loop-number.modules.modules (no_more c.args.set.now c.as_slice.result.now c.loop-number.modules.modules c.number_of.result c.number_of.ensures c.as_slice.ensures c.in_default.not-Some) in
    sym none.0 ∙ c.loop-number.invariant.stay

pub returns-clause-generation : goal.returns-clause-generation
returns-clause-generation c =
    let none = none_go c.args.set.now c.loop-number.modules.modules (no_more c.args.set.now c.as_slice.result.now c.loop-number.modules.modules c.number_of.result c.number_of.ensures c.as_slice.ensures c.in_default.not-Some) in
    let zero : length (filter (is_of_set c.args.set.now) c.loop-number.modules.modules) ≡ 0 = ap length none.1 in
    omega (arith, zero, c.loop-number.invariant.counted)
