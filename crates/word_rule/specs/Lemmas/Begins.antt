-- The rule holds at the start.
use Rattle.std.proofs.Common.{◌≡◌, ◌≢◌, ◌⊎◌, inl, inr, ℕ, zero, suc, [], ◌∷◌, get_or, replicate, Some, None, Contains, refl, sym, subst, arith, slice_index}
use Rattle.std.proofs.lemmas.List.{length-replicate}
use mathlib.Core.Option.{some, some-injective, some-ne-none}
use lib.ListN.{get_elem?}
use Rattle.word_rule.specs.declared.entry.Grant.{Grant}
use Rattle.word_rule.specs.declared.entry.RowWord.{RowWord}
use Rattle.word_rule.specs.declared.entry.RowWord.TheVariants.{Number, Slot, Lazy, Value, Generation}
use Rattle.word_rule.specs.declared.view.KeeperView.{KeeperView}
use Rattle.word_rule.specs.declared.view.Kept.{Kept}
use Rattle.word_rule.specs.declared.view.Row.{Row}
use Rattle.word_rule.specs.declared.view.View.{View}
use Rattle.word_rule.specs.declared.view.View.TheVariants.{Keeper}
use Rattle.word_rule.specs.Layout.{doublewords, harts_at_most, table_words}
use Rattle.word_rule.specs.Views.{field_of, first_hart, kept_at, no_row, nothing_locked, row_of, unmapped}
use Rattle.word_rule.specs.Start.{first_keeper, first_words, IsFirst}
use Rattle.word_rule.specs.Seats.{Fits}
use Rattle.word_rule.specs.Words.{nobody, keeper, hart, LockIs, Owner, Words}
use Rattle.word_rule.specs.Calls.{Calls, RowIs}
use Rattle.word_rule.specs.Slots.{Slots}
use Rattle.word_rule.specs.Generations.{Generations}
use Rattle.word_rule.specs.Fetches.{FetchesFind, StandAmong}
use Rattle.word_rule.specs.Rule.{IsGuest, Parts}
use Rattle.word_rule.specs.Lemmas.Put.{ext}
use Rattle.word_rule.specs.Lemmas.Trails.{none_read}

all_same : {A : Type 0} (n : ℕ) (a : A) (i : ℕ) → a ≡ get_or (replicate n a) i a
all_same zero a i = refl
all_same (suc n) a zero = refl
all_same (suc n) a (suc i) = all_same n a i

nothing : {A : Type 0} (x : A) → ¬ (Contains [] x)
nothing x c = let low = c.1 in absurd (omega arith)

no_lock : (me : Owner) → nobody ≢ me → LockIs (λ i. 0) (λ d. nobody) me nothing_locked
no_lock me apart = record {
  owns = λ d e. absurd (apart e);
  named = λ d e. let q : None ≡ Some d = e in absurd (cc);
  held = λ d x e f. let q : None ≡ Some d = e in absurd (cc);
}

fields : (i : RowWord) → 0 ≡ field_of i no_row
fields Number = refl
fields Slot = refl
fields Lazy = refl
fields Value = refl
fields Generation = refl

first_row : (m : ℕ) → RowIs (λ i. 0) 0 m no_row (first_hart m).lane []
first_row m = record {
  fields = fields;
  stage = (inl refl, record { all = refl; no_offer = refl; no_try = refl });
  known = λ c e. let q : None ≡ Some c = e in absurd (cc);
  seen = omega arith;
  trail = refl;
}

first_words_part : Words (λ i. 0) (λ d. unmapped) nothing_locked (λ m. nothing_locked)
first_words_part = record {
  owner = λ d. nobody;
  each_word = λ d low. record { role = omega arith; free = λ _. omega arith; taken = λ e. absurd (e refl); holds = tt };
  keepers = no_lock keeper (λ e. absurd (cc));
  of_hart = λ m. no_lock (hart m) (λ e. absurd (cc));
  only_rw = λ m d e. let q : None ≡ Some d = e in absurd (cc);
  steady = λ d control low e other. let q : None ≡ Some (d, control) = e in absurd (cc);
}

first_slots : Slots (λ i. 0) (λ d. unmapped) None 0 (λ m. no_row) (λ m. None) (λ m. [])
first_slots = record {
  winner = λ d. None;
  each_slot = λ d here. let q : unmapped.role ≡ Rattle.ld_base.specs.declared.linking.Role.TheVariants.Slot = here.1 in absurd (cc);
  each_hart = λ m few. record {
    closed = λ _ (e : 0 ≡ 3). omega arith;
    pending = λ g e. let q : None ≡ Some g = e in absurd (cc);
    won = λ g c. absurd (nothing (record { grant = g; fate = Rattle.word_rule.specs.declared.view.Fate.TheVariants.Won }) c);
    lost = λ g c. absurd (nothing (record { grant = g; fate = Rattle.word_rule.specs.declared.view.Fate.TheVariants.Lost }) c);
    counted = λ g h. absurd (ungranted g h);
    granted = λ x c. absurd (nothing x c);
    rising = tt;
  };
  each_exchange = λ m few x c o. absurd (nothing x c);
  no_more = λ m g high st. ungranted g (Rattle.std.proofs.Common.⊎_elim (λ (e : None ≡ Some g). inl e) (λ c. inr (Rattle.word_rule.specs.declared.view.Fate.TheVariants.Won, c)) st);
}
  where
    ungranted : (g : Grant) → Rattle.word_rule.specs.Slots.IsGrant no_row g → ⊥
    ungranted g h = Rattle.std.proofs.Common.⊎_elim (λ (e : None ≡ Some g). absurd (let q : None ≡ Some g = e in cc))
        (λ (c : (f : Rattle.word_rule.specs.declared.view.Fate.Fate) × Contains [] (record { grant = g; fate = f })). nothing (record { grant = g; fate = c.0 }) c.1) h

abbrev start : KeeperView
start = record {
  words = replicate doublewords unmapped;
  events = [];
  generation = 0;
  harts = 0;
  rows = replicate harts_at_most no_row;
  access = nothing_locked;
  joined = [];
  note = None;
  shown = [];
  losses = [];
  retired = [];
  opens = [];
}

first_is : first_keeper ≡ start
unfolding first_keeper
first_is = refl

first_parts : Parts (slice_index first_words) start first_hart
first_parts = record {
  heard = λ m. record { numbered = refl; heard = ([], refl); told = tt };
  locks = subst (λ (p : (ℕ → ℕ) × (ℕ → Kept)). Words p.0 p.1 nothing_locked (λ m. nothing_locked)) (λ i. (words i, knowledge i)) first_words_part;
  calls = subst (λ (p : (ℕ → ℕ) × (ℕ → Row)). Calls p.0 0 p.1 (λ m. (first_hart m).lane) (λ m. [])) (λ i. (words i, rows i)) (record { counted = refl; each_row = λ m few. first_row m });
  slots = subst (λ (p : (ℕ → ℕ) × (ℕ → Kept) × (ℕ → Row)). Slots p.0 p.1 None 0 p.2 (λ m. None) (λ m. [])) (λ i. (words i, knowledge i, rows i)) first_slots;
  generations = subst (λ (p : (ℕ → ℕ) × (ℕ → Row)). Generations p.0 0 p.1 (λ m. [])) (λ i. (words i, rows i)) (record { current = refl; issued = λ m few e c. absurd (nothing e c); kept = λ m few. tt; read = λ m few. none_read 0 });
  losses = λ x there. absurd (nothing x there);
  fetches = record {
    each = λ m. record {
      fetched = record { crossed = []; among = StandAmong.nothing; each = FetchesFind.nothing };
      looked = λ d control e rx. let q : None ≡ Some (d, control) = e in absurd (cc);
    };
  };
}
  where
    words : (λ i. 0) ≡ slice_index first_words
    words = ext (λ i. 0) (slice_index first_words) (all_same table_words 0)

    knowledge : (λ d. unmapped) ≡ kept_at start
    knowledge = ext (λ d. unmapped) (kept_at start) (all_same doublewords unmapped)

    rows : (λ m. no_row) ≡ row_of start
    rows = ext (λ m. no_row) (row_of start) (all_same harts_at_most no_row)

begun : IsGuest first_words (Keeper start ∷ [])
begun = record {
  kept = start;
  keeper = 0;
  seat_of = λ m. 0;
  hart = first_hart;
  wide = length-replicate table_words 0;
  seats = record {
    here = refl;
    each = one;
    gone = λ i j e. let q : None ≡ Some j = e in absurd (cc);
    once = λ i n j l e there same. let q : None ≡ Some j = e in absurd (cc);
    there = λ m low. absurd (omega (arith, low));
    unborn = λ m high. refl;
    few = omega arith;
    words_known = length-replicate doublewords unmapped;
    rows_known = length-replicate harts_at_most no_row;
    told = tt;
  };
  parts = first_parts;
}
  where
    one : (seat : ℕ) (v : View) → get_elem? (Keeper start ∷ []) seat ≡ some v → Fits start 0 (λ m. 0) first_hart seat v
    one zero v e = subst (Fits start 0 (λ m. 0) first_hart 0) (some-injective (Keeper start) v e) (refl, refl)
    one (suc seat) v e = absurd (some-ne-none v (sym e))

pub begins : IsGuest first_words (Keeper first_keeper ∷ [])
begins = subst (λ k. IsGuest first_words (Keeper k ∷ [])) (sym first_is) begun

pub is_first : IsFirst first_keeper
is_first = subst IsFirst (sym first_is) (record {
  long = (length-replicate doublewords unmapped, length-replicate harts_at_most no_row);
  no_roles = λ d. sym (all_same doublewords unmapped d);
  no_rows = λ m. sym (all_same harts_at_most no_row m);
  no_events = refl;
  no_harts = refl;
  no_modules = refl;
  access = refl;
  none_joined = refl;
  no_note = refl;
  none_shown = refl;
  none_lost = refl;
  none_retired = refl;
  none_open = refl;
})
