-- New objects, their modules and their pages are settled by what was found.
use Rattle.std.proofs.Common.{◌≡◌, ⊎_elim, ℕ, ◌<◌, ◌≤◌, Bool, true, false, List, [], ◌∷◌, ◌++◌, map, Option, Some, None, refl, sym, ap, subst, ◌∙◌, arith}
use Rattle.std.proofs.lemmas.Bool.{cases_lt}
use Rattle.ld_base.specs.declared.linking.Loaded.{Loaded}
use Rattle.ld_base.specs.declared.linking.TlsPlace.{TlsPlace}
use Rattle.ld_base.specs.declared.object.TlsSeg.{TlsSeg}
use Rattle.address_space.specs.Pages.{AllFree, without}
use Rattle.history_event.specs.declared.event.Range.{Range}
use Rattle.history_event.specs.declared.state.Module.{Module}
use Rattle.seg_image.specs.Pages.{low_of, own_address}
use Rattle.tls_blocks.specs.Numbers.{IsLeastFree}
use Rattle.history_state.specs.Areas.{Area, AreBased, AreGiven, HasNoRoom, IsGiven, LacksRoom, StandsAt, Where, anywhere, only}
use Rattle.history_state.specs.Opening.{unplaced}
use Rattle.history_state.specs.State.{Statics}
use Rattle.history_state.specs.Storage.{HaveModules, IsPlaceOf, IsStaticOffset, statics_with_one, with_place}
use Rattle.history_calls.specs.Lemmas.Unique.{same_fit}

-- ---- modules

same_number : (modules : List Module) (a b : ℕ) → IsLeastFree modules a → IsLeastFree modules b → a ≡ b
same_number modules a b x y = ⊎_elim
    (λ (lt : a < b). absurd (x.free (y.least a x.positive lt)))
    (λ (ge : b ≤ a). ⊎_elim (λ (lt : b < a). absurd (y.free (x.least b y.positive lt))) (λ (le : a ≤ b). omega (arith, ge, le)) (cases_lt b a))
    (cases_lt a b)

same_static : (startup : Bool) (st : Statics) (serial : ℕ) (seg : TlsSeg) (a b : Option ℕ) → IsStaticOffset startup st serial seg a → IsStaticOffset startup st serial seg b → a ≡ b
same_static true st serial seg (Some a) (Some b) x y = let le : a ≤ b = x.least b y.stands in let ge : b ≤ a = y.least a x.stands in let same : a ≡ b = omega (arith, le, ge) in ap Some same
same_static true st serial seg (Some a) None x y = absurd y
same_static true st serial seg None b x y = absurd x
same_static false st serial seg a b x y = x ∙ sym y

same_place : (startup : Bool) (modules : List Module) (st : Statics) (serial : ℕ) (seg : Option TlsSeg) (a b : Option TlsPlace) → IsPlaceOf startup modules st serial seg a
    → IsPlaceOf startup modules st serial seg b → a ≡ b
same_place startup modules st serial None None None x y = refl
same_place startup modules st serial None None (Some b) x y = absurd y
same_place startup modules st serial None (Some a) b x y = absurd x
same_place startup modules st serial (Some seg) None b x y = absurd x
same_place startup modules st serial (Some seg) (Some a) None x y = absurd y
same_place startup modules st serial (Some seg) (Some a) (Some b) x y =
    let numbers : a.number ≡ b.number = same_number modules a.number b.number x.0 y.0 in
    let offsets : a.offset ≡ b.offset = same_static startup st serial seg a.offset b.offset x.1 y.1 in
    ap Some (ap (λ (n : ℕ). record { number = n; offset = a.offset }) numbers ∙ ap (λ (o : Option ℕ). record { number = b.number; offset = o }) offsets)

-- new objects but for their bases
abbrev pub unbased : Loaded → Loaded
unbased o = record o { base = 0 }

same_unbased : (o p : Loaded) → unplaced o ≡ unplaced p → o.«module» ≡ p.«module» → unbased o ≡ unbased p
same_unbased o p same places = ap (λ (q : Loaded). record q { «module» = o.«module» }) same ∙ ap (λ (m : Option TlsPlace). record p { base = 0; «module» = m }) places

cons_head : {X : Type 0} (x y : X) (xs ys : List X) → x ∷ xs ≡ y ∷ ys → x ≡ y
cons_head x y xs ys e = cc

cons_tail : {X : Type 0} (x y : X) (xs ys : List X) → x ∷ xs ≡ y ∷ ys → xs ≡ ys
cons_tail x y xs ys e = cc

pub same_modules : (startup : Bool) (modules : List Module) (st : Statics) (a b : List Loaded) → map unplaced a ≡ map unplaced b → HaveModules startup modules st a → HaveModules startup modules st b
    → map unbased a ≡ map unbased b
same_modules startup modules st [] [] same x y = refl
same_modules startup modules st [] (p ∷ b) same x y = absurd (let d : [] ≡ unplaced p ∷ map unplaced b = same in cc)
same_modules startup modules st (o ∷ a) [] same x y = absurd (let d : unplaced o ∷ map unplaced a ≡ [] = same in cc)
same_modules startup modules st (o ∷ a) (p ∷ b) same x y =
    let heads : unplaced o ≡ unplaced p = cons_head (unplaced o) (unplaced p) (map unplaced a) (map unplaced b) same in
    let tails : map unplaced a ≡ map unplaced b = cons_tail (unplaced o) (unplaced p) (map unplaced a) (map unplaced b) same in
    let placed : IsPlaceOf startup modules st p.serial p.object.tls o.«module» = subst (λ (q : Loaded). IsPlaceOf startup modules st q.serial q.object.tls o.«module») heads x.0 in
    let places : o.«module» ≡ p.«module» = same_place startup modules st p.serial p.object.tls o.«module» p.«module» placed y.0 in
    let firsts : unbased o ≡ unbased p = same_unbased o p heads places in
    let rest : HaveModules startup (with_place p modules) (statics_with_one st p.serial p.object.tls p.«module») a =
    subst (λ (q : Loaded). HaveModules startup (with_place q modules) (statics_with_one st q.serial q.object.tls q.«module») a) firsts x.1 in
    ap (λ (q : Loaded). q ∷ map unbased a) firsts
    ∙ ap (λ (qs : List Loaded). unbased p ∷ qs) (same_modules startup (with_place p modules) (statics_with_one st p.serial p.object.tls p.«module») a b tails rest y.1)

-- ---- pages

same_stand : (free : List ℕ) (pages : ℕ) (place : Where) (a b : ℕ) → StandsAt free pages place a → StandsAt free pages place b → a ≡ b
same_stand free pages (anywhere align) a b x y = same_fit free pages align a b x y
same_stand free pages (only own) a b x y = x.0 ∙ sym y.0

same_range : (free : List ℕ) (area : Area) (r q : Range) → IsGiven free area r → IsGiven free area q → r ≡ q
same_range free area r q x y =
    let addresses : r.address ≡ q.address = same_stand free area.pages area.place r.address q.address x.stands y.stands in
    let pages : r.pages ≡ q.pages = x.pages ∙ sym y.pages in
    let purposes : r.purpose ≡ q.purpose = x.purpose ∙ sym y.purpose in
    ap (λ (n : ℕ). record r { address = n }) addresses ∙ ap (λ (n : ℕ). record r { address = q.address; pages = n }) pages ∙ ap (λ p. record q { purpose = p }) purposes

pub same_given : (free : List ℕ) (wanted : List Area) (a b : List Range) (left other : List ℕ) → AreGiven free wanted a left → AreGiven free wanted b other → (a ≡ b) × (left ≡ other)
same_given free [] [] [] left other x y = (refl, x ∙ sym y)
same_given free [] [] (q ∷ b) left other x y = absurd y
same_given free [] (r ∷ a) b left other x y = absurd x
same_given free (area ∷ rest) [] b left other x y = absurd x
same_given free (area ∷ rest) (r ∷ a) [] left other x y = absurd y
same_given free (area ∷ rest) (r ∷ a) (q ∷ b) left other x y =
    let firsts : r ≡ q = same_range free area r q x.0 y.0 in
    let more = same_given (without free q.address q.pages) rest a b left other (subst (λ (z : Range). AreGiven (without free z.address z.pages) rest a left) firsts x.1) y.1 in
    (ap (λ (z : Range). z ∷ a) firsts ∙ ap (λ (zs : List Range). q ∷ zs) more.0, more.1)

-- where there is no room nothing stands
no_stand : (free : List ℕ) (pages : ℕ) (place : Where) (a : ℕ) → HasNoRoom free pages place → StandsAt free pages place a → ⊥
no_stand free pages (anywhere align) a none x = none a x.fits
no_stand free pages (only own) a none x = none (subst (λ (n : ℕ). AllFree free n pages) x.0 x.1)

pub given_or_lacking : (free : List ℕ) (before : List Area) (area : Area) (rest : List Area) (ranges some : List Range) (left end : List ℕ) → AreGiven free before some end
    → HasNoRoom end area.pages area.place → AreGiven free (before ++ area ∷ rest) ranges left → ⊥
given_or_lacking free [] area rest [] [] left end x none y = y
given_or_lacking free [] area rest (r ∷ ranges) [] left end x none y =
    no_stand free area.pages area.place r.address (subst (λ (f : List ℕ). HasNoRoom f area.pages area.place) x none) y.0.stands
given_or_lacking free [] area rest ranges (q ∷ some) left end x none y = x
given_or_lacking free (first ∷ before) area rest [] some left end x none y = y
given_or_lacking free (first ∷ before) area rest (r ∷ ranges) [] left end x none y = x
given_or_lacking free (first ∷ before) area rest (r ∷ ranges) (q ∷ some) left end x none y =
    given_or_lacking (without free q.address q.pages) before area rest ranges some left end x.1 none
    (subst (λ (z : Range). AreGiven (without free z.address z.pages) (before ++ area ∷ rest) ranges left) (same_range free first r q y.0 x.0) y.1)

same_lacking : (free : List ℕ) (before also : List Area) (area next : Area) (rest behind : List Area) (ranges others : List Range) (left end : List ℕ) → before ++ area ∷ rest ≡ also ++ next ∷ behind
    → AreGiven free before ranges left → HasNoRoom left area.pages area.place → AreGiven free also others end → HasNoRoom end next.pages next.place → area.pages ≡ next.pages
same_lacking free [] [] area next rest behind ranges others left end same x none y without_room = ap (λ (z : Area). z.pages) (cons_head area next rest behind same)
same_lacking free [] (first ∷ also) area next rest behind [] [] left end same x none y without_room = absurd y
same_lacking free [] (first ∷ also) area next rest behind [] (q ∷ others) left end same x none y without_room =
    absurd (no_stand free first.pages first.place q.address
    (subst (λ (z : Area). HasNoRoom free z.pages z.place) (cons_head area first rest (also ++ next ∷ behind) same) (subst (λ (f : List ℕ). HasNoRoom f area.pages area.place) x none)) y.0.stands)
same_lacking free [] (first ∷ also) area next rest behind (r ∷ ranges) others left end same x none y without_room = absurd x
same_lacking free (first ∷ before) [] area next rest behind [] others left end same x none y without_room = absurd x
same_lacking free (first ∷ before) [] area next rest behind (r ∷ ranges) [] left end same x none y without_room =
    absurd (no_stand free first.pages first.place r.address
    (subst (λ (z : Area). HasNoRoom free z.pages z.place) (sym (cons_head first next (before ++ area ∷ rest) behind same)) (subst (λ (f : List ℕ). HasNoRoom f next.pages next.place) y without_room)) x.0.stands)
same_lacking free (first ∷ before) [] area next rest behind (r ∷ ranges) (q ∷ others) left end same x none y without_room = absurd y
same_lacking free (first ∷ before) (second ∷ also) area next rest behind [] others left end same x none y without_room = absurd x
same_lacking free (first ∷ before) (second ∷ also) area next rest behind (r ∷ ranges) [] left end same x none y without_room = absurd y
same_lacking free (first ∷ before) (second ∷ also) area next rest behind (r ∷ ranges) (q ∷ others) left end same x none y without_room =
    let firsts : first ≡ second = cons_head first second (before ++ area ∷ rest) (also ++ next ∷ behind) same in
    let one : r ≡ q = same_range free second r q (subst (λ (z : Area). IsGiven free z r) firsts x.0) y.0 in
    same_lacking (without free q.address q.pages) before also area next rest behind ranges others left end (cons_tail first second (before ++ area ∷ rest) (also ++ next ∷ behind) same)
    (subst (λ (z : Range). AreGiven (without free z.address z.pages) before ranges left) one x.1) none y.1 without_room

pub same_room : (free : List ℕ) (wanted : List Area) (pages other : ℕ) → LacksRoom free wanted pages → LacksRoom free wanted other → pages ≡ other
same_room free wanted pages other a b =
    a.is ∙ same_lacking free a.before b.before a.area b.area a.rest b.rest a.ranges b.ranges a.left b.left (sym a.are ∙ b.are) a.given a.none b.given b.none ∙ sym b.is

-- ---- bases

same_based : (o p : Loaded) → unbased o ≡ unbased p → o.base ≡ p.base → o ≡ p
same_based o p same bases = ap (λ (q : Loaded). record q { base = o.base }) same ∙ ap (λ (n : ℕ). record p { base = n }) bases

pub same_added : (a b : List Loaded) (ranges : List Range) → map unbased a ≡ map unbased b → AreBased a ranges → AreBased b ranges → a ≡ b
same_added [] [] ranges same x y = refl
same_added [] (p ∷ b) ranges same x y = absurd (let d : [] ≡ unbased p ∷ map unbased b = same in cc)
same_added (o ∷ a) [] ranges same x y = absurd (let d : unbased o ∷ map unbased a ≡ [] = same in cc)
same_added (o ∷ a) (p ∷ b) [] same x y = absurd x
same_added (o ∷ a) (p ∷ b) (r ∷ ranges) same x y =
    let heads : unbased o ≡ unbased p = cons_head (unbased o) (unbased p) (map unbased a) (map unbased b) same in
    let tails : map unbased a ≡ map unbased b = cons_tail (unbased o) (unbased p) (map unbased a) (map unbased b) same in
    let bases : o.base ≡ p.base = x.0 ∙ ap (λ (q : Loaded). own_address (low_of q.object) r.address) heads ∙ sym y.0 in
    ap (λ (q : Loaded). q ∷ a) (same_based o p heads bases) ∙ ap (λ (qs : List Loaded). p ∷ qs) (same_added a b ranges tails x.1 y.1)
