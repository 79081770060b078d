-- Lanes of one event more.
use Rattle.std.proofs.Common.{◌≡◌, ◌==◌, ℕ, Bool, true, false, cond, refl, List, sym, ap, ◌∙◌}
use Rattle.std.specs.Prelude.{Option, Some}
use Rattle.std.specs.List.{list_any}
use Rattle.trace_view.specs.declared.picture.Lane.{Lane}
use Rattle.trace_view.specs.Picture.{with_hart}

stays : {A : Type 0} (b : Bool) (x y : A) → b ≡ true → x ≡ cond b x y
stays true x y is = refl
stays false x y is = absurd (let d : false ≡ true = is in cc)

pub has_stays : (lanes : List Lane) (asked : Option ℕ) (hart : ℕ) → asked ≡ Some hart → list_any (λ lane. lane.hart == hart) lanes ≡ true
    → lanes ≡ with_hart lanes asked
has_stays lanes asked hart is there = stays (list_any (λ lane. lane.hart == hart) lanes) lanes _ there ∙ ap (λ (o : Option ℕ). with_hart lanes o) (sym is)
