-- Pages that are given one after another, and the bases that they give.
use Rattle.std.proofs.Common.{◌≡◌, ℕ, suc, ◌+◌, ◌<◌, ◌≤◌, max, List, [], ◌∷◌, ◌++◌, drop, take, length, get_or, Option, Some, None, refl, sym, ap, subst, ◌∙◌, arith}
use Rattle.std.specs.List.{fold}
use Rattle.std.specs.Option.{option_map_or}
use Rattle.std.proofs.lemmas.List.{length-take-le, take_more, take_more_set}
use Rattle.std.proofs.lemmas.List.Sums.{fold-append}
use Rattle.std.proofs.Math.ListN.{set}
use Rattle.std.proofs.Math.Seq.{split_at}
use Rattle.address_space.specs.Pages.{without}
use Rattle.ld_base.specs.declared.linking.Loaded.{Loaded}
use Rattle.ld_base.specs.declared.object.Object.{Object}
use Rattle.ld_base.specs.declared.object.Segment.{Segment}
use Rattle.ld_base.specs.declared.object.TlsSeg.{TlsSeg}
use Rattle.history_event.specs.declared.event.Range.{Range}
use Rattle.history_state.specs.Areas.{Area, AreBased, AreGiven, HasNoRoom, IsGiven, LacksRoom}
use Rattle.seg_image.specs.Pages.{align_of, low_of, own_address, page_size}
use Rattle.link_open_plan.specs.ObjectPlaces.Placing.{align_asked}

-- one area more
pub given_push : (free : List ℕ) (xs : List Area) (rs : List Range) (mid : List ℕ) (a : Area) (r : Range) → AreGiven free xs rs mid → IsGiven mid a r
    → AreGiven free (xs ++ a ∷ []) (rs ++ r ∷ []) (without mid r.address r.pages)
given_push free [] [] mid a r given is = (subst (λ (f : List ℕ). IsGiven f a r) given is, ap (λ (f : List ℕ). without f r.address r.pages) given)
given_push free [] (q ∷ rs) mid a r given is = absurd given
given_push free (x ∷ xs) [] mid a r given is = absurd given
given_push free (x ∷ xs) (q ∷ rs) mid a r given is = (given.0, given_push (without free q.address q.pages) xs rs mid a r given.1 is)

pub given_more : (free : List ℕ) (wanted : List Area) (i : ℕ) (d : Area) (ranges more : List Range) (mid left : List ℕ) (r : Range) → i < length wanted → d ≡ get_or wanted i d
    → AreGiven free (take i wanted) ranges mid → IsGiven mid d r → left ≡ without mid r.address r.pages → more ≡ ranges ++ r ∷ [] → AreGiven free (take (i + 1) wanted) more left
given_more free wanted i d ranges more mid left r lt at given is rest pushed =
    let next : take i wanted ++ d ∷ [] ≡ take (i + 1) wanted = ap (λ (a : Area). take i wanted ++ a ∷ []) at ∙ sym (take_more wanted i d lt) in
    subst (λ (xs : List Area). AreGiven free xs more left) next
    (subst (λ (rs : List Range). AreGiven free (take i wanted ++ d ∷ []) rs left) (sym pushed)
    (subst (λ (pages : List ℕ). AreGiven free (take i wanted ++ d ∷ []) (ranges ++ r ∷ []) pages) (sym rest) (given_push free (take i wanted) ranges mid d r given is)))

-- there is no room for the next
pub lacks_at : (free : List ℕ) (wanted : List Area) (i : ℕ) (d : Area) (ranges : List Range) (mid : List ℕ) (pages : ℕ) → i < length wanted → d ≡ get_or wanted i d
    → AreGiven free (take i wanted) ranges mid → HasNoRoom mid d.pages d.place → pages ≡ d.pages → LacksRoom free wanted pages
lacks_at free wanted i d ranges mid pages lt at given none is = record {
  before = take i wanted;
  area = d;
  rest = drop (suc i) wanted;
  are = split_at wanted i d lt ∙ ap (λ (a : Area). take i wanted ++ a ∷ drop (suc i) wanted) (sym at);
  ranges = ranges;
  left = mid;
  given = given;
  none = none;
  is = is;
}

-- each has a range
pub given_count : (free : List ℕ) (xs : List Area) (rs : List Range) (left : List ℕ) → AreGiven free xs rs left → length rs ≡ length xs
given_count free [] [] left given = refl
given_count free [] (r ∷ rs) left given = absurd given
given_count free (x ∷ xs) [] left given = absurd given
given_count free (x ∷ xs) (r ∷ rs) left given = let rest = given_count (without free r.address r.pages) xs rs left given.1 in omega (arith, rest)

-- one base more
pub based_push : (os : List Loaded) (rs : List Range) (o : Loaded) (d : Range) → AreBased os rs → length os < length rs
    → o.base ≡ own_address (low_of o.object) (get_or rs (length os) d).address → AreBased (os ++ o ∷ []) rs
based_push [] [] o d based lt is = absurd (omega (arith, lt))
based_push [] (r ∷ rs) o d based lt is = (is, tt)
based_push (p ∷ os) [] o d based lt is = absurd (omega (arith, lt))
based_push (p ∷ os) (r ∷ rs) o d based lt is = (based.0, based_push os rs o d based.1 (omega (arith, lt)) is)

pub based_more : (os : List Loaded) (rs : List Range) (i : ℕ) (o : Loaded) (d : Range) → i < length os → length os ≤ length rs → AreBased (take i os) rs
    → o.base ≡ own_address (low_of o.object) (get_or rs i d).address → AreBased (take (i + 1) (set os i o)) rs
based_more os rs i o d lt enough based is =
    let len : length (take i os) ≡ i = length-take-le i os (omega (arith, lt)) in
    subst (λ (xs : List Loaded). AreBased xs rs) (sym (take_more_set os i o lt))
    (based_push (take i os) rs o d based (omega (arith, lt, enough, len)) (is ∙ ap (λ n. own_address (low_of o.object) (get_or rs n d).address) (sym len)))

-- ---- alignments

grows : (n : ℕ) (gs : List Segment) → n ≤ fold (λ align g. max align g.align) n gs
grows n [] = omega arith
grows n (g ∷ gs) = let rest = grows (max n g.align) gs in omega (arith, rest)

pub some_align : (o : Object) → 0 < align_of o
unfolding align_of
some_align o = let above = grows page_size o.segments in omega (arith, above)

abbrev pub align_by : ℕ → Loaded → ℕ
align_by align o = option_map_or (λ (seg : TlsSeg). max align seg.align) o.object.tls align

pub asked_max : (a : ℕ) (tls : Option TlsSeg) → max a (option_map_or (λ (seg : TlsSeg). seg.align) tls 0) ≡ option_map_or (λ (seg : TlsSeg). max a seg.align) tls a
asked_max a None = omega arith
asked_max a (Some seg) = refl

pub align_more : (added : List Loaded) (i : ℕ) (d : Loaded) (align new asked : ℕ) → i < length added → d ≡ get_or added i d → align ≡ fold align_by 4096 (take i added)
    → asked ≡ align_asked d → new ≡ max align asked → new ≡ fold align_by 4096 (take (i + 1) added)
align_more added i d align new asked lt at so_far asks is =
    is ∙ ap (λ n. max align n) asks ∙ asked_max align d.object.tls ∙ ap (λ n. align_by n d) so_far
    ∙ sym (fold-append align_by 4096 (take i added) (d ∷ [])) ∙ ap (λ (o : Loaded). fold align_by 4096 (take i added ++ o ∷ [])) at
    ∙ ap (fold align_by 4096) (sym (take_more added i d lt))
