-- The words and the keeper's view at the start: no word has a role, no hart is there, nothing was handed to anyone.
use Rattle.std.specs.Prelude.{◌≡◌, ℕ, List, [], None, replicate}
use Rattle.word_rule.specs.declared.view.KeeperView.{KeeperView}
use Rattle.word_rule.specs.Layout.{doublewords, harts_at_most, table_words}
use Rattle.word_rule.specs.Views.{IsLong, kept_at, no_row, nothing_locked, row_of, unmapped}

abbrev pub first_words : List ℕ
first_words = replicate table_words 0

unfoldable pub first_keeper : KeeperView
first_keeper = record {
  words = replicate doublewords unmapped;
  events = [];
  generation = 0;
  harts = 0;
  rows = replicate harts_at_most no_row;
  access = nothing_locked;
  joined = [];
  note = None;
  shown = [];
  losses = [];
  retired = [];
  opens = [];
}

-- what that view says of anything
pub record IsFirst (k : KeeperView) : Type 0 where
  pub long : IsLong k
  pub no_roles : (d : ℕ) → kept_at k d ≡ unmapped
  pub no_rows : (m : ℕ) → row_of k m ≡ no_row
  pub no_events : k.events ≡ []
  pub no_harts : k.harts ≡ 0
  pub no_modules : k.generation ≡ 0
  pub access : k.access ≡ nothing_locked
  pub none_joined : k.joined ≡ []
  pub no_note : k.note ≡ None
  pub none_shown : k.shown ≡ []
  pub none_lost : k.losses ≡ []
  pub none_retired : k.retired ≡ []
  pub none_open : k.opens ≡ []
