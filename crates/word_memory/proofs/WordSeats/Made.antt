-- A new memory, step by step.
use Rattle.std.proofs.Common.{◌≡◌, ◌≢◌, ℕ, suc, ◌+◌, ◌*◌, ◌<◌, true, false, cond, [], ◌∷◌, ◌++◌, length, None as Nothing, sym, ap, subst, ◌∙◌, arith}
use Rattle.std.proofs.lemmas.Bool.Decides.{nat_tests}
use mathlib.Core.Logic.{dite}
use native.Mathlib.Decide.{ℕ_discrete}
use Rattle.ld_base.specs.declared.linking.Role.TheVariants.{None as NoRole, Rx, Slot as SlotRole}
use Rattle.word_rule.specs.declared.view.KeeperView.{KeeperView}
use Rattle.word_rule.specs.declared.view.Kept.{Kept}
use Rattle.word_rule.specs.Layout.{doublewords, place_of}
use Rattle.word_rule.specs.Views.{IsLong, first_hart, kept_at, unmapped}
use Rattle.word_rule.specs.Start.{IsFirst}
use Rattle.word_memory.specs.Roles.{MaySet}
use Rattle.word_memory.specs.WordSeats.Making.{IsMade, in_linker_page, linker_page, linker_word, new_harts}
use Rattle.word_access.specs.WordKeeping.Keeping.{set_as}
use Rattle.word_rule.specs.Lemmas.Heeding.{kept_else, kept_here}

pub first_made : (k : KeeperView) → IsFirst k → IsMade k 0 0
first_made k f = record {
  words = λ d. f.no_roles d ∙ ap (λ b. cond b linker_word unmapped) (sym (nothing_in d));
  rows = f.no_rows;
  no_events = f.no_events;
  harts_are = f.no_harts;
  no_modules = f.no_modules;
  none_joined = f.none_joined;
  none_shown = f.none_shown;
  none_retired = f.none_retired;
  none_open = f.none_open;
}
  where
    nothing_in : (d : ℕ) → in_linker_page 0 d ≡ false
    nothing_in d = grind (arith, nat_tests)

page_at : (i : ℕ) → i < 512 → place_of (linker_page + 8 * i) ≡ place_of linker_page + i
unfolding place_of
page_at i low = omega arith

page_low : (i : ℕ) → i < 512 → place_of (linker_page + 8 * i) < doublewords
unfolding place_of doublewords
page_low i low = omega arith

-- no word of the page that isn't made has a role
no_role : (k : KeeperView) (i : ℕ) → i < 512 → IsMade k i 0 → kept_at k (place_of (linker_page + 8 * i)) ≡ unmapped
no_role k i low made = made.words (place_of (linker_page + 8 * i)) ∙ ap (λ b. cond b linker_word unmapped) (ap (in_linker_page i) (page_at i low) ∙ out)
  where
    out : in_linker_page i (place_of linker_page + i) ≡ false
    out = grind (arith, nat_tests)

pub page_set : (k : KeeperView) (i address : ℕ) → i < 512 → address ≡ linker_page + 8 * i → IsMade k i 0 → MaySet k address 0x0010007300100073 Rx
page_set k i address low is made = subst (λ a. MaySet k a 0x0010007300100073 Rx) (sym is) (record {
  at = ((omega arith, page_low i low), omega arith);
  fresh = ap (λ (x : Kept). x.role) (no_role k i low made);
  some_role = λ e. let q : Rx ≡ NoRole = e in absurd (cc);
  leads = λ e. let q : Rx ≡ SlotRole = e in absurd (cc);
})

pub page_more : (k k' : KeeperView) (i address : ℕ) → i < 512 → address ≡ linker_page + 8 * i → IsMade k i 0 → place_of address < length k.words → k' ≡ set_as (place_of address) 0x0010007300100073 Rx 0 k → IsMade k' (i + 1) 0
page_more k k' i address low is made inside now = subst (λ k. IsMade k (i + 1) 0) (sym now) (record {
  words = λ d. dite (ℕ_discrete d (place_of address))
      (λ (here : d ≡ place_of address). ap (λ d. kept_at (set_as (place_of address) 0x0010007300100073 Rx 0 k) d) here ∙ (kept_here k (place_of address) x inside ∙ (new_word ∙ ap (λ b. cond b linker_word unmapped) (sym (ap (in_linker_page (i + 1)) (here ∙ at) ∙ now_in)))))
      (λ (apart : d ≢ place_of address). kept_else k (place_of address) x inside d apart ∙ (made.words d ∙ ap (λ b. cond b linker_word unmapped) (others d (λ e. apart (e ∙ sym at)))));
  rows = made.rows;
  no_events = made.no_events;
  harts_are = made.harts_are;
  no_modules = made.no_modules;
  none_joined = made.none_joined;
  none_shown = made.none_shown;
  none_retired = made.none_retired;
  none_open = made.none_open;
})
  where
    x : Kept
    x = record { role = Rx; value = 0x0010007300100073; lazy = 0; since = length k.events; fixed = Nothing }

    at : place_of address ≡ place_of linker_page + i
    at = ap place_of is ∙ page_at i low

    new_word : record { role = Rx; value = 0x0010007300100073; lazy = 0; since = length k.events; fixed = Nothing } ≡ linker_word
    new_word = ap (λ n. record { role = Rx; value = 0x0010007300100073; lazy = 0; since = n; fixed = Nothing }) (ap length made.no_events)

    now_in : in_linker_page (i + 1) (place_of linker_page + i) ≡ true
    now_in = grind (arith, nat_tests)

    others : (d : ℕ) → d ≢ place_of linker_page + i → in_linker_page i d ≡ in_linker_page (i + 1) d
    others d apart = grind (arith, nat_tests)

-- the keeper knows of each doubleword of the page
pub page_within : (k : KeeperView) (i address : ℕ) → i < 512 → address ≡ linker_page + 8 * i → IsLong k → place_of address < length k.words
page_within k i address low is long = subst (λ n. place_of address < n) (sym long.0) (subst (λ a. place_of a < doublewords) (sym is) (page_low i low))

pub hart_more : (k k' : KeeperView) (n : ℕ) → IsMade k 512 n → k' ≡ record k { harts = k.harts + 1 } → IsMade k' 512 (n + 1)
hart_more k k' n made now = subst (λ k. IsMade k 512 (n + 1)) (sym now) (record {
  words = made.words;
  rows = made.rows;
  no_events = made.no_events;
  harts_are = ap (λ m. m + 1) made.harts_are;
  no_modules = made.no_modules;
  none_joined = made.none_joined;
  none_shown = made.none_shown;
  none_retired = made.none_retired;
  none_open = made.none_open;
})

pub new_more : (n : ℕ) → new_harts (n + 1) ≡ new_harts n ++ first_hart n ∷ []
new_more n = let e : n + 1 ≡ suc n = omega arith in ap new_harts e
