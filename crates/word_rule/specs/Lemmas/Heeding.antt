-- The keeper's view where what it keeps of a note ends, and where what it knows of one doubleword or of one row changes.
use Rattle.std.proofs.Common.{◌≡◌, ◌≢◌, ℕ, ◌<◌, Bool, true, false, eqb, None, length, refl, sym, ap, ◌∙◌}
use Rattle.word_rule.specs.declared.view.KeeperView.{KeeperView}
use Rattle.word_rule.specs.declared.view.Kept.{Kept}
use Rattle.word_rule.specs.declared.view.Row.{Row}
use Rattle.word_rule.specs.KeeperSteps.{fixed_by, fixed_if, heeding, with_kept, with_row}
use Rattle.word_rule.specs.Views.{kept_at, no_row, put, row_of, unmapped}
use Rattle.word_rule.specs.Lemmas.Put.{put_each, put_else, put_here, set_put}

-- a view that keeps nothing of a note
pub heeds : (k : KeeperView) → k.note ≡ None → heeding k ≡ k
heeds k nothing i = record k { note = sym nothing i }

module _ (k : KeeperView) (d : ℕ) (x : Kept) (low : d < length k.words) where
  pub kept_put : kept_at (with_kept d x k) ≡ put (kept_at k) d x
  kept_put = sym (set_put k.words d x unmapped low)

  pub kept_here : kept_at (with_kept d x k) d ≡ x
  kept_here = ap (λ f. f d) kept_put ∙ put_here (kept_at k) d x

  pub kept_else : (e : ℕ) → e ≢ d → kept_at (with_kept d x k) e ≡ kept_at k e
  kept_else e apart = ap (λ f. f e) kept_put ∙ put_else (kept_at k) d x e apart

module _ (k : KeeperView) (m : ℕ) (r : Row) (low : m < length k.rows) where
  row_put : row_of (with_row m r k) ≡ put (row_of k) m r
  row_put = sym (set_put k.rows m r no_row low)

  pub row_here : row_of (with_row m r k) m ≡ r
  row_here = ap (λ f. f m) row_put ∙ put_here (row_of k) m r

  pub row_else : (j : ℕ) → j ≢ m → row_of (with_row m r k) j ≡ row_of k j
  row_else j apart = ap (λ f. f j) row_put ∙ put_else (row_of k) m r j apart

-- ---- a slot is looked at

-- what is known of a doubleword, but for what was seen of it
abbrev pub unseen : Kept → Kept
unseen x = record x { fixed = None }

pub fixed_same : (n : ℕ) (b : Bool) (x : Kept) → unseen (fixed_if n b x) ≡ unseen x
fixed_same n true x = refl
fixed_same n false x = refl

pub known_same : (known : ℕ → Kept) (d n e : ℕ) → unseen (put known d (fixed_by n (known d)) e) ≡ unseen (known e)
known_same known d n = put_each (λ e x. unseen x ≡ unseen (known e)) known d (fixed_by n (known d)) (λ e _. refl) (fixed_same n (eqb n (known d).lazy) (known d))
