-- Doublewords get their roles one after the other.
use Rattle.std.proofs.Common.{◌≡◌, ◌≢◌, ℕ, ◌+◌, ◌*◌, ◌<◌, false, cond, length, None as Nothing, sym, ap, subst, ◌∙◌, arith}
use Rattle.std.proofs.lemmas.Bool.Decides.{nat_tests}
use Rattle.ld_base.specs.declared.linking.Role.{Role}
use Rattle.ld_base.specs.declared.linking.Role.TheVariants.{None as NoRole, Slot as SlotRole}
use Rattle.word_rule.specs.declared.view.KeeperView.{KeeperView}
use Rattle.word_rule.specs.declared.view.Kept.{Kept}
use Rattle.word_rule.specs.Layout.{doublewords, place_of}
use Rattle.word_rule.specs.Views.{IsLong, kept_at, unmapped}
use Rattle.word_memory.specs.Roles.{MaySet}
use Rattle.word_memory.specs.WordSeats.Making.{IsMade, in_linker_page, linker_page, linker_word}
use Rattle.word_access.specs.WordKeeping.Keeping.{set_as}
use Rattle.word_rule.specs.Lemmas.Heeding.{kept_else}
use Rattle.test_words.specs.WordTests.Unset.{AreUnset}

page : place_of linker_page ≡ 1048064
unfolding place_of
page = omega arith

pub unset_first : (k : KeeperView) (harts : ℕ) → IsMade k 512 harts → AreUnset k 0
unset_first k harts made d from low = ap (λ (x : Kept). x.role) (made.words d ∙ ap (λ b. cond b linker_word unmapped) (out d low))
  where
    out : (d : ℕ) → d < 64 → in_linker_page 512 d ≡ false
    out d low = let p = page in grind (arith, nat_tests)

place_is : (n : ℕ) → n < 64 → place_of (0x10000 + 8 * n) ≡ n
unfolding place_of
place_is n low = omega arith

place_low : (n : ℕ) → n < 64 → place_of (0x10000 + 8 * n) < doublewords
unfolding place_of doublewords
place_low n low = omega arith

pub may_set : (k : KeeperView) (n value : ℕ) (role : Role) → n < 64 → role ≢ NoRole → role ≢ SlotRole → AreUnset k n → MaySet k (0x10000 + 8 * n) value role
may_set k n value role low some other unset = record {
  at = ((omega arith, place_low n low), omega arith);
  fresh = ap (λ d. (kept_at k d).role) (place_is n low) ∙ unset n (omega arith) low;
  some_role = some;
  leads = λ e. absurd (other e);
}

pub unset_more : (k k' : KeeperView) (n value : ℕ) (role : Role) → n < 64 → AreUnset k n → IsLong k → k' ≡ set_as (place_of (0x10000 + 8 * n)) value role 0 k → AreUnset k' (n + 1)
unset_more k k' n value role low unset long set d from few =
    ap (λ k. (kept_at k d).role) set ∙ (ap (λ (x : Kept). x.role) (kept_else k (place_of (0x10000 + 8 * n)) (record { role = role; value = value; lazy = 0; since = length k.events; fixed = Nothing }) inside d apart) ∙ unset d (omega arith) few)
  where
    inside : place_of (0x10000 + 8 * n) < length k.words
    inside = subst (λ m. place_of (0x10000 + 8 * n) < m) (sym long.0) (place_low n low)

    apart : d ≢ place_of (0x10000 + 8 * n)
    apart e = let p : d ≡ n = e ∙ place_is n low in absurd (omega arith)
