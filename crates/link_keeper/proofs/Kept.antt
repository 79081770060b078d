-- Rows and journals of the keeper's view.
use Rattle.std.proofs.Common.{◌≡◌, ◌≢◌, ℕ, zero, suc, ◌-◌, ◌<◌, List, [], ◌∷◌, ◌++◌, length, None, Some, sym, ap, subst, ◌∙◌}
use mathlib.Core.Logic.{dite}
use native.Mathlib.Decide.{ℕ_discrete}
use Rattle.std.specs.List.{slice_get}
use Rattle.history_event.specs.declared.event.Event.{Event}
use Rattle.word_rule.specs.declared.entry.Grant.{Grant}
use Rattle.word_rule.specs.declared.view.KeeperView.{KeeperView}
use Rattle.word_rule.specs.declared.view.Row.{Row}
use Rattle.word_rule.specs.KeeperSteps.{with_row}
use Rattle.word_rule.specs.Layout.{harts_at_most}
use Rattle.word_rule.specs.Lemmas.Heeding.{row_else, row_here}
use Rattle.word_rule.specs.Views.{IsLong, row_of}
use Rattle.slot_bind.specs.Grants.{posted, row_posted}
use Rattle.kept_words.specs.Staying.{IsGrantEvent, number_by, number_in}

pub inside : (k : KeeperView) (h : ℕ) → IsLong k → h < harts_at_most → h < length k.rows
inside k h long low = subst (λ (n : ℕ). h < n) (sym long.1) low

-- a row changes, and a field of it doesn't
pub row_field : {A : Type 0} (f : Row → A) → (k : KeeperView) (m : ℕ) (r : Row) → m < length k.rows → f r ≡ f (row_of k m) → (j : ℕ) → f (row_of (with_row m r k) j) ≡ f (row_of k j)
row_field {A} f k m r low same j = dite (ℕ_discrete j m)
    (λ (here : j ≡ m). subst (λ (i : ℕ). f (row_of (with_row m r k) i) ≡ f (row_of k i)) (sym here) (ap f (row_here k m r low) ∙ same))
    (λ (apart : j ≢ m). ap f (row_else k m r low j apart))

-- the lazy word of a row in which a grant was posted
pub posted_lazy : (k : KeeperView) (m : ℕ) (g : Grant) → IsLong k → m < harts_at_most → (row_of (posted m g k) m).lazy ≡ g.lazy
posted_lazy k m g long low = ap (λ (r : Row). r.lazy) (row_here k m (row_posted g (row_of k m)) (inside k m long low))

front_at : {X : Type 0} (xs ys : List X) (n : ℕ) (x : X) → slice_get xs n ≡ Some x → slice_get (xs ++ ys) n ≡ Some x
front_at {X} [] ys n x e = absurd (let no : None ≡ Some x = e in cc)
front_at {X} (z ∷ xs) ys zero x e = e
front_at {X} (z ∷ xs) ys (suc n) x e = front_at xs ys n x e

-- the number of a grant stays while the journal grows
pub later_number : (journal more : List Event) (m : ℕ) (g : Grant) → IsGrantEvent journal m g → number_in (journal ++ more) m g ≡ number_in journal m g
later_number journal more m g x = ap number_by (front_at journal more (g.entry.number - 1) _ x.at ∙ sym x.at)

pub later_event : (journal more : List Event) (m : ℕ) (g : Grant) → IsGrantEvent journal m g → IsGrantEvent (journal ++ more) m g
later_event journal more m g x = record {
  number = x.number;
  owner = x.owner;
  slot = x.slot;
  choice = x.choice;
  at = front_at journal more (g.entry.number - 1) _ x.at;
  some = x.some;
}
