-- The verdict on hash tables and the relations that say what it means.
use Rattle.std.proofs.Common.{◌≡◌, ◌≢◌, ◌↔◌, ◌∙◌, sym, ap, ℕ, zero, suc, ◌+◌, ◌-◌, ◌/◌, ◌%◌, ◌^◌, ◌<◌, ◌≤◌, ◌||◌, ◌&&◌, Bool, true, false, not, List, [], ◌∷◌}
use Rattle.std.proofs.Common.{length, map, take, drop, get_or, refl, inl, inr, arith, length-drop, length-take, Decides, Option, Some, None, Ok, Err, Contains}
use Rattle.std.proofs.Common.{IsTrue, slice_get, slice_index, option_map}
use Rattle.std.specs.Prelude.{unwrap_or}
use Rattle.std.specs.Option.{option_map_or}
use Rattle.std.specs.List.{list_all}
use Rattle.std.proofs.lemmas.Bool.{and_from, and_parts}
use Rattle.std.proofs.lemmas.Bool.Decides.{Decides-eqb, Decides-ltb}
use Rattle.std.proofs.lemmas.List.{get_or-drop, get_or-take, length-map}
use Rattle.std.proofs.lemmas.List.Sums.{AllPass-from_list_all, list_all-from_AllPass}
use Rattle.std.proofs.lemmas.Option.{gets, get_or_from_slice_get, slice_get-get_or, slice_get-map, slice_get_within}
use Rattle.ld_base.specs.Symbol.{is_visible_definition}
use Rattle.ld_base.specs.declared.fault.NotAccepted.{NotAccepted}
use Rattle.ld_base.specs.declared.object.Symbol.{Symbol}
use Rattle.ld_base.specs.declared.parts.GnuPart.{GnuPart}
use Rattle.ld_base.specs.declared.parts.HashTable.{HashTable}
use Rattle.ld_base.specs.declared.parts.SysvPart.{SysvPart}
use Rattle.elf_head.specs.AcceptancePart.Broken.{first_broken}
use Rattle.elf_head.specs.AcceptancePart.First.{IsFirstBroken}
use Rattle.elf_head.specs.AcceptancePart.Lemmas.Finds.{one_first, same_some, Finds}
use Rattle.elf_head.specs.AcceptancePart.Lemmas.Leasts.{finds_least}
use Rattle.elf_head.specs.AcceptancePart.Lemmas.Tests.{among, both, contrary, decided, itself, le_decides, means, refuted, settle, there_decides}
use Rattle.sym_hash.proofs.Following.{end_decides, sysv_decides}
use Rattle.sym_hash.specs.Breaks.{Breaks, IsMissedAt}
use Rattle.sym_hash.specs.Breaks.Breaks.{no_end, not_reached}
use Rattle.sym_hash.specs.Gnu.{ends_between, gnu_leads, gnu_walks_end, has_bit, in_bloom, is_end, walk_ends}
use Rattle.sym_hash.specs.Hash.{gnu_hash}
use Rattle.sym_hash.specs.Hashed.{first_lost, hash_by, is_lost, leads, unmet_by, walks_end}
use Rattle.sym_hash.specs.Reached.{EndsBefore, GoesOn, IsChainWord, IsTableFor, Reached, ReachedByGnu, WalksEnd}
use Rattle.sym_hash.specs.Sysv.{sysv_walks_end}
use Rattle.sym_hash.specs.Verdict.{unmet}

-- the second is decided where the first holds
both_then : {a b : Bool} {P : Type 0} {Q : P → Type 0} → Decides a P → ((p : P) → Decides b (Q p)) → Decides (a && b) ((p : P) × Q p)
both_then {a} {b} d k = (λ e. let parts = and_parts a b e in (d.0 parts.0, (k (d.0 parts.0)).0 parts.1), λ (p, q). and_from a b (d.1 p) ((k p).1 q))

unless : {a b : Bool} {P Q : Type 0} → Decides a P → Decides b Q → Decides (a || b) ((P → ⊥) → Q)
unless {a = true} d f = (λ e not_p. absurd (not_p (d.0 refl)), λ q. refl)
unless {a = false} d f = (λ e not_p. f.0 e, λ q. f.1 (q (λ p. let e = d.1 p in cc)))

get_part : (a c j k : ℕ) (xs : List ℕ) → k ≡ a + j → k < c → slice_get (drop a (take c xs)) j ≡ slice_get xs k
get_part a c j k xs is below = grind (arith, gets, length-drop, length-take, get_or-drop, get_or-take)

-- ---- the chain that a bucket begins

module _ (g : GnuPart) (bucket : ℕ) (low : g.symoffset ≤ bucket) where
  abbrev Ended : ℕ → Type 0
  Ended i = (k : ℕ) × (w : ℕ) × (bucket ≤ k) × (k < i) × IsChainWord g k w × (is_end w ≡ true)

  marks : (i : ℕ) → Decides (ends_between g bucket i) (Ended i)
  marks i =
      let a : ℕ = bucket - g.symoffset in
      let c : ℕ = i - g.symoffset in
      means (among (λ w. itself (is_end w)) (drop a (take c g.chain)))
      (λ (j, w, at, end).
      let below : a + j < c = omega (arith, slice_get_within (drop a (take c g.chain)) j w at, length-drop a (take c g.chain), length-take c g.chain) in
      let stands = sym (get_part a c j (bucket + j - g.symoffset) g.chain (omega arith) (omega arith)) ∙ at in
      (bucket + j, w, omega arith, omega arith, record { from = omega arith; stands = stands }, end))
      (λ (k, w, least, below, is, end). (k - bucket, w, get_part a c (k - bucket) (k - g.symoffset) g.chain (omega arith) (omega arith) ∙ is.stands, end))

  -- no word up to a symbol marks an end
  goes : (i : ℕ) → bucket ≤ i → i - g.symoffset ≤ length g.chain → (Ended i → ⊥) → GoesOn g bucket i
  goes i order within none = record {
    order = order;
    on = λ k least below.
        let w : ℕ = get_or g.chain (k - g.symoffset) 0 in
        let stands : IsChainWord g k w = record { from = omega arith; stands = slice_get-get_or g.chain (k - g.symoffset) 0 (omega arith) } in
        (w, stands, refuted (itself (is_end w)) (λ end. none (k, w, least, below, stands, end)));
  }

  goes_decides : (i : ℕ) → bucket ≤ i → i - g.symoffset ≤ length g.chain → Decides (not (ends_between g bucket i)) (GoesOn g bucket i)
  goes_decides i order within = means (contrary (marks i)) (goes i order within) (λ on (k, w, least, below, stands, end).
      let (other, is, off) = on.on k least below in
      let same : w ≡ other = same_some (sym stands.stands ∙ is.stands) in
      cc)

  -- the first mark
  first : (count n k w : ℕ) → k < n → bucket ≤ k → k < count → IsChainWord g k w → is_end w ≡ true → EndsBefore g bucket count
  first count zero k w below least few stands end = absurd (omega arith)
  first count (suc n) k w below least few stands end =
      elim (settle (marks k)) [
        | inl (j, v, from, less, at, ended) ↦ first count n j v (omega arith) from (omega arith) at ended
        | inr none ↦
            let within = slice_get_within g.chain (k - g.symoffset) w stands.stands in
            record { last = k; within = few; goes_on = goes k least (omega arith) none; word = w; stands = stands; ended = end }
      ]

  ends_decides : (count : ℕ) → Decides (ends_between g bucket count) (EndsBefore g bucket count)
  ends_decides count = means (marks count) (λ (k, w, least, below, stands, end). first count (suc k) k w (omega arith) least below stands end)
      (λ e. (e.last, e.word, e.goes_on.order, e.within, e.stands, e.ended))

-- ---- a walk that ends, and a symbol that is reached

walk_decides : (g : GnuPart) (count bucket : ℕ) → Decides (walk_ends g count bucket) (bucket ≢ 0 → (g.symoffset ≤ bucket) × EndsBefore g bucket count)
walk_decides g count bucket = unless (Decides-eqb bucket 0) (both_then (le_decides g.symoffset bucket) (λ low. ends_decides g bucket low count))

gnu_decides : (g : GnuPart) (name : List ℕ) (i : ℕ) → Decides (gnu_leads g (gnu_hash name) i) (ReachedByGnu g name i)
unfolding gnu_leads in_bloom
gnu_decides g name i =
    let h : ℕ = gnu_hash name in
    means
    (both_then
    (both
    (there_decides _ _ (λ word. both (itself (has_bit word (h % 64))) (itself (has_bit word (h / 2 ^ g.shift % 64))))
    (slice_get g.bloom (h / 64 % length g.bloom)))
    (there_decides _ _ (λ word. Decides-eqb (word / 2) (h / 2)) (slice_get g.chain (i - g.symoffset))))
    (λ (bloom, (word, at, hash)). there_decides _ _ (λ bucket.
    both_then (both (both (Decides-ltb 0 bucket) (le_decides g.symoffset bucket)) (le_decides bucket i)) (λ ((some, low), order).
    goes_decides g bucket low i order (let within = slice_get_within g.chain (i - g.symoffset) word at in omega arith)))
    (slice_get g.buckets (h % length g.buckets))))
    (λ (((bloom, filter, (first, second)), (word, at, hash)), (bucket, begins, (((some, low), order), goes))).
    let begun : bucket ≢ 0 = omega arith in
    let stands : IsChainWord g i word = record { from = omega arith; stands = at } in
    search)
    (λ r. (
      ((r.bloom, r.filter, (r.first_bit, r.second_bit)), (r.word, r.stands.stands, r.hash)),
      (r.bucket, r.begins, (((let some = r.some in omega arith, r.within), r.goes_on.order), r.goes_on)),
    ))

each_decides : {p : ℕ → Bool} {P : ℕ → Type 0} → ((x : ℕ) → Decides (p x) (P x)) → (xs : List ℕ) → Decides (list_all p xs) ((x : ℕ) → Contains xs x → P x)
each_decides {p} {P} d xs = (
  λ e x (k, below, is). rw (← is) ((d (get_or xs k x)).0 (AllPass-from_list_all p xs e k x below)),
  λ each. list_all-from_AllPass p xs (λ k x below.
      (d (get_or xs k x)).1 (each (get_or xs k x) (k, below, get_or_from_slice_get xs k _ _ (slice_get-get_or xs k x below)))),
)

-- ---- a table by its parts

abbrev table_of : Option GnuPart → Option SysvPart → HashTable
table_of gnu sysv = record { gnu = gnu; sysv = sysv }

walks_decides : (gnu : Option GnuPart) (sysv : Option SysvPart) (count : ℕ) → Decides (walks_end (table_of gnu sysv) count) (WalksEnd (table_of gnu sysv) count)
unfolding gnu_walks_end sysv_walks_end
walks_decides (Some g) sysv count = each_decides (walk_decides g count) g.buckets
walks_decides None (Some s) count = each_decides (end_decides s.chain (length s.chain)) s.buckets
walks_decides None None count = (λ e. tt, λ all. refl)

reach_decides : (gnu : Option GnuPart) (sysv : Option SysvPart) (count : ℕ) → WalksEnd (table_of gnu sysv) count → (name : List ℕ) (i : ℕ)
    → Decides (leads (table_of gnu sysv) (hash_by (table_of gnu sysv) name) i) (Reached (table_of gnu sysv) name i)
reach_decides (Some g) sysv count ends name i = gnu_decides g name i
reach_decides None (Some s) count ends name i =
    sysv_decides s (λ bucket has. (Decides-eqb _ 0).0 ((end_decides s.chain (length s.chain) bucket).1 (ends bucket has))) name i
reach_decides None None count ends name i = (λ e. absurd cc, λ r. absurd r)

visible_decides : (o : Option Symbol)
    → Decides (unwrap_or (option_map is_visible_definition o) false) ((s : Symbol) × (o ≡ Some s) × IsTrue (is_visible_definition s))
visible_decides None = (λ e. absurd cc, λ (s, e, visible). absurd cc)
visible_decides (Some s) = means (itself (is_visible_definition s)) (λ visible. (s, refl, visible)) (λ (other, e, visible). rw (same_some e) visible)

module _ (t : HashTable) (symbols : List Symbol) (first : ℕ) where
  abbrev visible : List Bool
  visible = map is_visible_definition symbols

  abbrev hashes : List ℕ
  hashes = map (λ s. hash_by t s.name) symbols

  walks : Decides (walks_end t (length visible)) (WalksEnd t (length symbols))
  walks = rw (length-map symbols is_visible_definition) (walks_decides t.gnu t.sysv (length symbols))

  missed_decides : WalksEnd t (length symbols) → (i : ℕ)
      → Decides (is_lost (λ k. leads t (slice_index hashes k) k) visible first i) (IsMissedAt t symbols first i)
  missed_decides ends i =
      means
      (both_then (both (le_decides first i) (rw (slice_get-map is_visible_definition symbols i) (visible_decides (slice_get symbols i))))
      (λ (from, (s, at, visible)). contrary (reached s at)))
      (λ ((from, (s, at, visible)), missed). search) (λ m. ((m.exported, (m.symbol, m.stands, m.visible)), m.missed))
    where
      reached : (s : Symbol) → slice_get symbols i ≡ Some s → Decides (leads t (slice_index hashes i) i) (Reached t s.name i)
      reached s at =
          let hash = slice_get-map (λ (s : Symbol). hash_by t s.name) symbols i ∙ ap (option_map (λ (s : Symbol). hash_by t s.name)) at in
          rw (get_or_from_slice_get hashes i (hash_by t s.name) 0 hash)
          (reach_decides t.gnu t.sysv (length symbols) ends s.name i)

  abbrev lost : Option ℕ
  lost = first_lost (λ k. leads t (slice_index hashes k) k) visible first

  found : WalksEnd t (length symbols) → Finds (IsMissedAt t symbols first) lost
  unfolding first_lost
  found ends = finds_least _ (IsMissedAt t symbols first) (length visible) (missed_decides ends)
      (λ i m. rw (length-map symbols is_visible_definition) (slice_get_within symbols i m.symbol m.stands))

  -- what is said by a number that is found, or by none
  abbrev Says : Option ℕ → Type 0
  Says None = IsTableFor t symbols first
  Says (Some number) = Breaks t symbols first 19 number

  found_says : WalksEnd t (length symbols) → (o : Option ℕ) → Finds (IsMissedAt t symbols first) o → Says o
  found_says ends (Some i) f = not_reached ends i f
  found_says ends None none = record {
    ends = ends;
    reached = λ i s from at visible. decided (reach_decides t.gnu t.sysv (length symbols) ends s.name i) (λ missed. none i (search));
  }

  pub says : Says (unmet t symbols first)
  unfolding unmet_by
  says = elim (settle walks) [
    | inl ends ↦ rw (walks.1 ends) (found_says ends lost (found ends))
    | inr none ↦ rw (refuted walks none) (no_end none)
  ]

  against : {rule number : ℕ} → Breaks t symbols first rule number → IsTableFor t symbols first → ⊥
  against (no_end none) is = none is.ends
  against (not_reached ends i f) is = let m = f.bad in m.missed (is.reached i m.symbol m.exported m.stands m.visible)

  one : {rule number other more : ℕ} → Breaks t symbols first rule number → Breaks t symbols first other more → (rule ≡ other) × (number ≡ more)
  one (no_end none) (no_end never) = (refl, refl)
  one (no_end none) (not_reached ends i f) = absurd (none ends)
  one (not_reached ends i f) (no_end none) = absurd (none ends)
  one (not_reached ends i f) (not_reached more j g) = (refl, one_first _ i j f g)

  pub accepts : (o : Option ℕ) → Says o → (x : HashTable)
      → (option_map_or Err (first_broken 19 (o ∷ [])) (Ok t) ≡ Ok x) ↔ ((x ≡ t) × IsTableFor x symbols first)
  accepts None is x = (λ e. let same : x ≡ t = cc in (same, rw same is), λ (same, table). rw same refl)
  accepts (Some number) broken x = (λ e. absurd cc, λ (same, table). absurd (against broken (rw same at table)))

  pub refuses : (o : Option ℕ) → Says o → (f : NotAccepted)
      → (option_map_or Err (first_broken 19 (o ∷ [])) (Ok t) ≡ Err f) ↔ IsFirstBroken (Breaks t symbols first) f
  refuses None is f = (λ e. absurd cc, λ broken. absurd (against broken.broken is))
  refuses (Some number) broken f = (
    λ e. let same : f ≡ record { rule = 19; number = number } = cc in
        rw same (record { broken = broken; kept = λ rule other less more. let both = one more broken in omega (arith, both.0) }),
    λ first. let (rule, other) = one broken first.broken in rw (rule, other) refl,
  )
