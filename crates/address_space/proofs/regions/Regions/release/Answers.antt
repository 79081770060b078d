use Rattle.std.proofs.Common.{ℕ, Option, None, Some, IfNone, IsSome, refl}
use Rattle.address_space.proofs.FreePages.{marked_pages-together_with}
use Rattle.address_space.proofs.regions.Regions.release.Goals as goal

IsSome-unless : (o : Option ℕ) (P : Type 0) → IfNone o (¬ P) → P → IsSome o
IsSome-unless None P no_P p = absurd (no_P p)
IsSome-unless (Some x) P _ p = refl

pub unwrap-start-requires : goal.unwrap-start-requires
unwrap-start-requires c = IsSome-unless c.place_of.result _ c.place_of.ensures.none (λ k h. (c.requires k h).0)

pub returns : goal.returns
returns c =
    let place = rw c.unwrap-start.ensures at c.place_of.ensures.place in
    rw (← c.self.view_is)
    (marked_pages-together_with c.self.inside.free c.mark.new.marks c.args.address c.args.pages c.unwrap-start.result place c.mark.ensures)
