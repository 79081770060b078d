-- What a new memory is, and what its harts know.
use Rattle.std.specs.Prelude.{◌≡◌, ℕ, ◌+◌, ◌&&◌, nat_le, nat_lt, zero, suc, cond, List, [], ◌∷◌, ◌++◌, None}
use Rattle.ld_base.specs.declared.linking.Role.TheVariants.{Rx}
use Rattle.word_rule.specs.declared.view.HartView.{HartView}
use Rattle.word_rule.specs.declared.view.KeeperView.{KeeperView}
use Rattle.word_rule.specs.declared.view.Kept.{Kept}
use Rattle.word_rule.specs.Layout.{place_of}
use Rattle.word_rule.specs.Views.{first_hart, kept_at, no_row, row_of, unmapped}

-- the linker's own page is executable, and each of its words is two ebreaks
abbrev pub linker_page : ℕ
linker_page = 0x80f000

abbrev pub linker_word : Kept
linker_word = record { role = Rx; value = 0x0010007300100073; lazy = 0; since = 0; fixed = None }

-- the first doublewords of that page
abbrev pub in_linker_page : ℕ → ℕ → Rattle.std.specs.Prelude.Bool
in_linker_page count d = nat_le (place_of linker_page) d && nat_lt d (place_of linker_page + count)

-- a new memory has no roles but those, and no hart has done anything
pub record IsMade (k : KeeperView) (page harts : ℕ) : Type 0 where
  pub words : (d : ℕ) → kept_at k d ≡ cond (in_linker_page page d) linker_word unmapped
  pub rows : (m : ℕ) → row_of k m ≡ no_row
  pub no_events : k.events ≡ []
  pub harts_are : k.harts ≡ harts
  pub no_modules : k.generation ≡ 0
  pub none_joined : k.joined ≡ []
  pub none_shown : k.shown ≡ []
  pub none_retired : k.retired ≡ []
  pub none_open : k.opens ≡ []

-- the views of harts that have done nothing
abbrev pub new_harts : ℕ → List HartView
new_harts zero = []
new_harts (suc n) = new_harts n ++ first_hart n ∷ []
