-- An address in the pages of an object, told by its page.
use Rattle.std.proofs.Common.{◌≡◌, ⊎_elim, ℕ, ◌+◌, ◌-◌, ◌*◌, ◌/◌, ◌%◌, ◌^◌, ◌<◌, ◌≤◌, ◌&&◌, Bool, true, false, refl, sym, ap, ◌∙◌, arith}
use Rattle.std.specs.Prelude.{nat_le, nat_lt}
use Rattle.std.proofs.lemmas.Bool.{cases_Bool, ltb-true, ltb-false, lt-ltb, le-ltb, le-leb, lt-leb}
use Rattle.ld_base.specs.declared.linking.Loaded.{Loaded}
use Rattle.history_state.specs.Memory.{holds}
use Rattle.seg_image.specs.Pages.{low_of, own_address, pages_of}

and_is : (a b : Bool) → a ≡ true → (a && b) ≡ b
and_is true b e = refl
and_is false b e = absurd cc

inside : (w low pages : ℕ) → low ≤ w → nat_lt ((w - low) / 4096) pages ≡ (nat_le low w && nat_lt w (low + 4096 * pages))
inside w low pages le = ⊎_elim
    (λ (t : nat_lt ((w - low) / 4096) pages ≡ true).
    let lt : (w - low) / 4096 < pages = ltb-true ((w - low) / 4096) pages t in
    t ∙ sym (and_is (nat_le low w) (nat_lt w (low + 4096 * pages)) (le-leb low w le) ∙ lt-ltb w (low + 4096 * pages) (omega (arith, lt, le))))
    (λ (f : nat_lt ((w - low) / 4096) pages ≡ false).
    let ge : pages ≤ (w - low) / 4096 = ltb-false ((w - low) / 4096) pages f in
    f ∙ sym (and_is (nat_le low w) (nat_lt w (low + 4096 * pages)) (le-leb low w le) ∙ le-ltb w (low + 4096 * pages) (omega (arith, ge, le))))
    (cases_Bool (nat_lt ((w - low) / 4096) pages))

pub holds_inside : (o : Loaded) (a low pages : ℕ) → low ≡ low_of o.object → pages ≡ pages_of o.object → low ≤ (a + (2 ^ 64 - o.base)) % 2 ^ 64
    → nat_lt (((a + (2 ^ 64 - o.base)) % 2 ^ 64 - low) / 4096) pages ≡ holds o a
unfolding own_address
holds_inside o a low pages l p le =
    inside ((a + (2 ^ 64 - o.base)) % 2 ^ 64) low pages le
    ∙ ap (λ x. nat_le x ((a + (2 ^ 64 - o.base)) % 2 ^ 64) && nat_lt ((a + (2 ^ 64 - o.base)) % 2 ^ 64) (x + 4096 * pages)) l
    ∙ ap (λ x. nat_le (low_of o.object) ((a + (2 ^ 64 - o.base)) % 2 ^ 64) && nat_lt ((a + (2 ^ 64 - o.base)) % 2 ^ 64) (low_of o.object + 4096 * x)) p

pub holds_outside : (o : Loaded) (a low : ℕ) → low ≡ low_of o.object → (a + (2 ^ 64 - o.base)) % 2 ^ 64 < low → nat_le low ((a + (2 ^ 64 - o.base)) % 2 ^ 64) ≡ holds o a
unfolding own_address
holds_outside o a low l lt =
    lt-leb low ((a + (2 ^ 64 - o.base)) % 2 ^ 64) lt
    ∙ sym (ap (λ (b : Bool). b && nat_lt ((a + (2 ^ 64 - o.base)) % 2 ^ 64) (low + 4096 * pages_of o.object)) (lt-leb low ((a + (2 ^ 64 - o.base)) % 2 ^ 64) lt))
    ∙ ap (λ x. nat_le x ((a + (2 ^ 64 - o.base)) % 2 ^ 64) && nat_lt ((a + (2 ^ 64 - o.base)) % 2 ^ 64) (x + 4096 * pages_of o.object)) l
