use Rattle.std.proofs.Common.{◌≡◌, ℕ, None, Some, length, sym, ap, subst, ◌∙◌}
use Rattle.init_order.specs.declared.walk.Mark.{Mark}
use Rattle.init_order.specs.declared.walk.Mark.TheVariants.{OnPath, Settled}
use Rattle.init_order.specs.Walking.{DropsBehind, at}
use Rattle.init_order.proofs.Visits.{Adds}
use Rattle.init_order.proofs.Advances.{follow_new, follow_back, follow_settled, work_new}
use Rattle.init_order.proofs.Results.{at_ok, by_ok, walked_as, work_as}
use Rattle.init_order.proofs.walk.Walk.follow.Goals as goal

pub returns-in-None-clause-walked : goal.returns-in-None-clause-walked
returns-in-None-clause-walked c =
    by_ok c.visit.result _ (λ ok.
    let old = c.args.self.now in
    let new = c.visit.new.self in
    let s = c.args.step in
    let edges = c.args.successors.now in
    let fresh : at old s.target ≡ None = sym c.get.ensures.value ∙ sym c.copied.ensures ∙ c.in-None.is in
    let adds : Adds (at old) s.target (length old.path.items) (at new) = at_ok c.visit.result _ ok c.visit.ensures.marks in
    let path = at_ok c.visit.result _ ok c.visit.ensures.path in
    let starts = at_ok c.visit.result _ ok c.visit.ensures.starts in
    let pending = at_ok c.visit.result _ ok c.visit.ensures.pending in
    let visited = at_ok c.visit.result _ ok c.visit.ensures.visited in
    walked_as edges (at new) _ _ _ _ _ _ _ _ _ _ path starts pending visited (ap length c.visit.ensures.components)
    (follow_new edges (at old) old.path.items old.starts.items old.pending.items s old.visited.items (length old.components.items) c.requires.last c.requires.walked (at new) fresh adds))

pub returns-in-None-clause-less : goal.returns-in-None-clause-less
returns-in-None-clause-less c =
    by_ok c.visit.result _ (λ ok.
    let old = c.args.self.now in
    let new = c.visit.new.self in
    let s = c.args.step in
    let edges = c.args.successors.now in
    let fresh : at old s.target ≡ None = sym c.get.ensures.value ∙ sym c.copied.ensures ∙ c.in-None.is in
    let adds : Adds (at old) s.target (length old.path.items) (at new) = at_ok c.visit.result _ ok c.visit.ensures.marks in
    let starts = at_ok c.visit.result _ ok c.visit.ensures.starts in
    let pending = at_ok c.visit.result _ ok c.visit.ensures.pending in
    work_as edges (at new) _ _ _ _ _ starts pending
    (work_new edges (at old) old.path.items old.starts.items old.pending.items s old.visited.items (length old.components.items) c.requires.last c.requires.walked (at new) fresh adds))

pub returns-in-Some-OnPath-clause-walked : goal.returns-in-Some-OnPath-clause-walked
returns-in-Some-OnPath-clause-walked c =
    let old = c.args.self.now in
    let s = c.args.step in
    let mark : at old s.target ≡ Some (OnPath c.in-Some-OnPath.place) = sym c.get.ensures.value ∙ sym c.copied.ensures ∙ c.in-Some-OnPath.is ∙ ap (λ (m : Mark). Some m) c.in-Some-OnPath.field-0-is in
    follow_back c.args.successors.now (at old) old.path.items old.starts.items old.pending.items s old.visited.items (length old.components.items) c.requires.last c.requires.walked
    c.in-Some-OnPath.place c.join_parts.new.starts.items mark
    (subst (λ (j : ℕ). DropsBehind old.starts.items c.join_parts.new.starts.items j) c.in-Some-OnPath.place-is c.join_parts.ensures)

pub returns-in-Some-Settled-clause-walked : goal.returns-in-Some-Settled-clause-walked
returns-in-Some-Settled-clause-walked c =
    let old = c.args.self.now in
    let s = c.args.step in
    let mark : at old s.target ≡ Some (Settled c.in-Some-Settled.field-0-0) = sym c.get.ensures.value ∙ sym c.copied.ensures ∙ c.in-Some-Settled.is ∙ ap (λ (m : Mark). Some m) c.in-Some-Settled.field-0-is in
    follow_settled c.args.successors.now (at old) old.path.items old.starts.items old.pending.items s old.visited.items (length old.components.items) c.requires.last c.requires.walked
    c.in-Some-Settled.field-0-0 mark
