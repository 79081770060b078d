-- What the events of a turn make of memory, one range after another.
use Rattle.std.proofs.Common.{◌≡◌, ◌⊎◌, inl, inr, ⊎_elim, ℕ, zero, suc, ◌<◌, ◌+◌, ◌≤◌, true, false, not, List, [], ◌∷◌, ◌++◌, length, get_or, take, Some, None, refl, sym, ap, subst, ◌∙◌, add-one, arith}
use Rattle.std.specs.List.{Contains, filter, slice_get}
use Rattle.std.proofs.lemmas.Bool.{cases_Bool, true≢false}
use Rattle.std.proofs.lemmas.List.{take_all}
use Rattle.std.proofs.lemmas.Option.{slice_get-get_or}
use Rattle.std.proofs.Math.Seq.{take-append_seam}
use Rattle.history_event.specs.declared.event.Event.{Event}
use Rattle.history_event.specs.declared.event.Range.{Range}
use Rattle.history_state.specs.After.{after}
use Rattle.history_state.specs.Allowed.{Allowed}
use Rattle.history_state.specs.Changes.{reserved, taken}
use Rattle.history_state.specs.Legal.{Legal}
use Rattle.history_state.specs.Memory.{covers}
use Rattle.history_state.specs.Setting.{Setting}
use Rattle.history_state.specs.State.{State}
use Rattle.history_state.specs.Step.{step}
use Rattle.history_state.specs.Lemmas.History.{legal_is_lawful}
use Rattle.history_state.specs.Lemmas.Lists.{at_in, first_or_later, from_filter, here, later, none_in}
use Rattle.history_calls.specs.declared.link_served.installs.Installs.{Installs}
use Rattle.history_calls.specs.Served.{AreImages, AreInstalls, AreWordsOf, InstallsNothing, is_area}
use Rattle.history_memory.specs.Memory.{IsDoubleword}
use Rattle.rv_hart.specs.declared.doubleword.Doubleword.{Doubleword}
use Rattle.seg_image.specs.declared.image.Image.{Image}
use Rattle.world_memory.specs.TurnAnswers.Changes.{AreReserved, AreTaken, LeaveMemory, loaded_objects}
use Rattle.world_turns.specs.Lemmas.Events.{legal_front}
use Rattle.world_turns.specs.Memory.{Remakes, RemakesAll, doubleword}
use Rattle.world_memory.specs.Pages.{AreGuest, IsGuest, RemakesAt, RemakesEach, objects_first, released_word, reserved_word}
use Rattle.world_memory.proofs.Ranges.{AreApart, from_objects_first, in_objects_first, reserved_apart, reserved_guest, taken_lie}
use Rattle.ld_base.specs.declared.linking.Loaded.{Loaded}

-- ---- one range after another

-- one range more
each_more : (made : ℕ → Doubleword → Doubleword) (ranges : List Range) (i : ℕ) (r : Range) (old mid new : List Doubleword) → slice_get ranges i ≡ Some r
    → RemakesAt (λ a. covers a r) made mid new → RemakesEach made (take i ranges) old mid → RemakesEach made (take (suc i) ranges) old new
each_more made [] i r old mid new at remakes front = absurd (let d : None ≡ Some r = at in cc)
each_more made (q ∷ rest) zero r old mid new at remakes front =
    let same : r ≡ q = cc in (new, subst (λ (x : Range). RemakesAt (λ a. covers a x) made old new) same (subst (λ (ws : List Doubleword). RemakesAt (λ a. covers a r) made ws new) front remakes), refl)
each_more made (q ∷ rest) (suc i) r old mid new at remakes (between, first, more) = (between, first, each_more made rest i r between mid new at remakes more)

-- some ranges and then others
each_append : (made : ℕ → Doubleword → Doubleword) (xs ys : List Range) (old mid new : List Doubleword) → RemakesEach made xs old mid → RemakesEach made ys mid new → RemakesEach made (xs ++ ys) old new
each_append made [] ys old mid new front back = subst (λ (ws : List Doubleword). RemakesEach made ys ws new) front back
each_append made (r ∷ xs) ys old mid new (between, first, more) back = (between, first, each_append made xs ys between mid new more back)

-- the range of an image
range_of : (s : State) (ranges : List Range) (images : List Image) (i : ℕ) (image : Image) → AreImages s ranges images → slice_get images i ≡ Some image
    → (r : Range) × (slice_get ranges i ≡ Some r) × AreWordsOf s r image
range_of s [] [] i image are at = absurd (let d : None ≡ Some image = at in cc)
range_of s [] (x ∷ images) i image are at = absurd are
range_of s (r ∷ ranges) [] i image are at = absurd are
range_of s (r ∷ ranges) (x ∷ images) zero image are at = let same : x ≡ image = cc in (r, refl, subst (AreWordsOf s r) same are.0)
range_of s (r ∷ ranges) (x ∷ images) (suc i) image are at = range_of s ranges images i image are.1 at

as_many : (s : State) (ranges : List Range) (images : List Image) → AreImages s ranges images → length ranges ≡ length images
as_many s [] [] are = refl
as_many s [] (x ∷ images) are = absurd are
as_many s (r ∷ ranges) [] are = absurd are
as_many s (r ∷ ranges) (x ∷ images) are = ap suc (as_many s ranges images are.1)

-- the words of one image more
pub image_more : (s : State) (ranges : List Range) (images : List Image) (i : ℕ) (image : Image) (old mid new : List Doubleword) → AreImages s ranges images → AreGuest ranges → i < length images
    → image ≡ get_or images i image → ((r : Range) → AreWordsOf s r image → IsGuest r → RemakesAt (λ a. covers a r) (reserved_word s) mid new)
    → RemakesEach (reserved_word s) (take i ranges) old mid → RemakesEach (reserved_word s) (take (i + 1) ranges) old new
image_more s ranges images i image old mid new are guest within item one front =
    let of = range_of s ranges images i image are (slice_get-get_or images i image within ∙ ap (λ (x : Image). Some x) (sym item)) in
    rw add-one (each_more (reserved_word s) ranges i of.0 old mid new of.1 (one of.0 of.2 (guest of.0 (at_in ranges i of.0 of.1))) front)

pub all_images : (s : State) (ranges : List Range) (images : List Image) (i : ℕ) (old new : List Doubleword) → AreImages s ranges images → length images ≤ i
    → RemakesEach (reserved_word s) (take i ranges) old new → RemakesEach (reserved_word s) ranges old new
all_images s ranges images i old new are past remakes =
    subst (λ (rs : List Range). RemakesEach (reserved_word s) rs old new) (take_all i ranges (let count : length ranges ≡ length images = as_many s ranges images are in omega (arith, count, past))) remakes

-- the pages of one range more
pub range_more : (ranges : List Range) (i : ℕ) (r : Range) (old mid new : List Doubleword) → AreGuest ranges → i < length ranges → r ≡ get_or ranges i r
    → (IsGuest r → RemakesAt (λ a. covers a r) released_word mid new) → RemakesEach released_word (take i ranges) old mid → RemakesEach released_word (take (i + 1) ranges) old new
range_more ranges i r old mid new guest within item one front =
    let at : slice_get ranges i ≡ Some r = slice_get-get_or ranges i r within ∙ ap (λ (x : Range). Some x) (sym item) in
    rw add-one (each_more released_word ranges i r old mid new at (one (guest r (at_in ranges i r at))) front)

-- objects and then areas
pub both_installed : (s : State) (added : List Loaded) (ranges : List Range) (installs : Installs) (old mid new : List Doubleword) → AreInstalls s added ranges installs → AreGuest ranges
    → ((rs : List Range) → AreImages s rs installs.images → AreGuest rs → RemakesEach (reserved_word s) rs old mid)
    → ((rs : List Range) → AreImages s rs installs.areas → AreGuest rs → RemakesEach (reserved_word s) rs mid new)
    → RemakesEach (reserved_word s) (objects_first ranges) old new
both_installed s added ranges installs old mid new are guest objects areas =
    each_append (reserved_word s) (filter (λ r. not (is_area r)) ranges) (filter is_area ranges) old mid new
    (objects (filter (λ r. not (is_area r)) ranges) are.images (λ r there. guest r (from_filter (λ q. not (is_area q)) ranges r there).0))
    (areas (filter is_area ranges) are.areas (λ r there. guest r (from_filter is_area ranges r there).0))

-- ---- all ranges at once

record RemakesIn (ranges : List Range) (made : ℕ → Doubleword → Doubleword) (old new : List Doubleword) : Type 0 where
  pub all : length new ≡ length old
  pub remade : (r : Range) (a : ℕ) → IsDoubleword a → Contains ranges r → covers a r ≡ true → doubleword new a ≡ made a (doubleword old a)
  pub kept : (a : ℕ) → IsDoubleword a → ((r : Range) → Contains ranges r → covers a r ≡ false) → doubleword new a ≡ doubleword old a

-- a range, and then others that have no address of it
module _ (made : ℕ → Doubleword → Doubleword) (q : Range) (rest : List Range) (old between new : List Doubleword) (apart : (r : Range) (a : ℕ) → Contains rest r → covers a q ≡ true → covers a r ≡ false)
    (first : RemakesAt (λ a. covers a q) made old between) (behind : RemakesIn rest made between new) where
  by_first_range : (a : ℕ) → IsDoubleword a → covers a q ≡ true → doubleword new a ≡ made a (doubleword old a)
  by_first_range a is e = behind.kept a is (λ r inside. apart r a inside e) ∙ first.remade a is e

  out_of_first : (r : Range) (a : ℕ) → Contains rest r → covers a r ≡ true → covers a q ≡ false
  out_of_first r a inside e = ⊎_elim
      (λ (t : covers a q ≡ true). absurd (true≢false (sym e ∙ apart r a inside t)))
      (λ (f : covers a q ≡ false). f)
      (cases_Bool (covers a q))

  with_first : RemakesIn (q ∷ rest) made old new
  with_first = record {
    all = behind.all ∙ first.all;
    remade = λ r a is there e. ⊎_elim
        (λ (same : q ≡ r). by_first_range a is (subst (λ (x : Range). covers a x ≡ true) (sym same) e))
        (λ (inside : Contains rest r). behind.remade r a is inside e ∙ ap (made a) (first.kept a is (out_of_first r a inside e)))
        (first_or_later q rest r there);
    kept = λ a is none. behind.kept a is (λ r inside. none r (later q rest r inside)) ∙ first.kept a is (none q (here q rest));
  }

in_ranges : (made : ℕ → Doubleword → Doubleword) (ranges : List Range) (old new : List Doubleword) → AreApart ranges → RemakesEach made ranges old new → RemakesIn ranges made old new
in_ranges made [] old new apart same = record {
  all = ap (λ (ws : List Doubleword). length ws) same;
  remade = λ r a is there e. absurd (none_in r there);
  kept = λ a is out. ap (λ (ws : List Doubleword). doubleword ws a) same;
}
in_ranges made (q ∷ rest) old new apart (between, first, more) = with_first made q rest old between new apart.0 first (in_ranges made rest between new apart.1 more)

-- ---- one event, and those behind it

none_of : (ranges : List Range) → ranges ≡ [] → (r : Range) → Contains ranges r → ⊥
none_of ranges none r there = none_in r (subst (λ (rs : List Range). Contains rs r) none there)

leaves : (s : State) (events : List Event) (words : List Doubleword) → LeaveMemory s events → RemakesAll s events words words
leaves s [] words leave = refl
leaves s (e ∷ rest) words leave = (
  words,
  record {
    all = refl;
    kept = λ a is untouched. refl;
    given = λ r a is there. absurd (none_of (reserved s e) leave.0 r there);
    gone = λ r a is there. absurd (none_of (taken s e) leave.1 r there);
  },
  leaves (step s e) rest words leave.2,
)

module _ (w : Setting) (past given : List Event) (first : Event) (behind : List Event) (legal : Legal w (past ++ given)) (are : given ≡ first ∷ behind) where
  allowed : Allowed w past first
  unfolding Legal
  allowed =
      subst (λ (es : List Event). Allowed w es first) (take-append_seam past (first ∷ behind))
      (subst (λ (es : List Event). Legal w (past ++ es)) are legal (length past) first (at past))
    where
      at : (es : List Event) → slice_get (es ++ first ∷ behind) (length es) ≡ Some first
      at [] = refl
      at (e ∷ es) = at es

  abbrev s : State
  s = after past

  by_first : (old new : List Doubleword) → Remakes s first old new → LeaveMemory (step s first) behind → RemakesAll s given old new
  by_first old new remakes leave = subst (λ (es : List Event). RemakesAll s es old new) (sym are) (new, remakes, leaves (step s first) behind new leave)

  reserving : (old new : List Doubleword) → taken s first ≡ [] → RemakesEach (reserved_word (step s first)) (objects_first (reserved s first)) old new → Remakes s first old new
  reserving old new none each =
      let x = in_ranges (reserved_word (step s first)) (objects_first (reserved s first)) old new
      (reserved_apart w.machine w refl past first (legal_is_lawful w past (legal_front w past given legal)) allowed) each in
      record {
        all = x.all;
        kept = λ a is untouched. x.kept a is (λ r there. untouched r (inl (from_objects_first (reserved s first) r there)));
        given = λ r a is there covered. x.remade r a is (in_objects_first (reserved s first) r there) covered;
        gone = λ r a is there. absurd (none_of (taken s first) none r there);
      }

  taking : (old new : List Doubleword) → reserved s first ≡ [] → RemakesEach released_word (taken s first) old new → Remakes s first old new
  taking old new none each =
      let x = in_ranges released_word (taken s first) old new
      (taken_lie w.machine w refl past first (legal_is_lawful w past (legal_front w past given legal)) allowed).apart each in
      record {
        all = x.all;
        kept = λ a is untouched. x.kept a is (λ r there. untouched r (inr there));
        given = λ r a is there. absurd (none_of (reserved s first) none r there);
        gone = λ r a is there covered. x.remade r a is there covered;
      }

  guest : AreGuest (reserved s first)
  guest = reserved_guest w.machine w refl past first (legal_is_lawful w past (legal_front w past given legal)) allowed

  taken_guest : AreGuest (taken s first)
  taken_guest = (taken_lie w.machine w refl past first (legal_is_lawful w past (legal_front w past given legal)) allowed).guest

-- ---- what a change comes to

abbrev pub Installed : Installs → List Doubleword → List Doubleword → Type 0
Installed installs old new = (s : State) (added : List Loaded) (ranges : List Range) → AreInstalls s added ranges installs → AreGuest ranges
    → RemakesEach (reserved_word s) (objects_first ranges) old new

pub nothing_changes : (w : Setting) (past given : List Event) (words : List Doubleword) → LeaveMemory (after past) given → RemakesAll (after past) given words words
nothing_changes w past given words leave = leaves (after past) given words leave

pub pages_come : (w : Setting) (past given : List Event) (installs : Installs) (old new : List Doubleword) → Legal w (past ++ given) → AreReserved (after past) given installs
    → Installed installs old new → RemakesAll (after past) given old new
pages_come w past given installs old new legal is installed =
    by_first w past given is.first is.behind legal is.are old new
    (reserving w past given is.first is.behind legal is.are old new is.takes_none
    (installed (step (after past) is.first) (loaded_objects is.first) (reserved (after past) is.first) is.installed (guest w past given is.first is.behind legal is.are)))
    is.leave

pub made_comes : (w : Setting) (past given : List Event) (made : Installs) (old new : List Doubleword) → Legal w (past ++ given)
    → AreReserved (after past) given made ⊎ (InstallsNothing made × LeaveMemory (after past) given) → Installed made old new → RemakesAll (after past) given old new
made_comes w past given made old new legal (inl is) installed = pages_come w past given made old new legal is installed
made_comes w past given made old new legal (inr none) installed =
    subst (λ (ws : List Doubleword). RemakesAll (after past) given old ws) (sym same) (leaves (after past) given old none.1)
  where
    same : new ≡ old
    same = installed (after past) [] [] (record {
      images = subst (λ (images : List Image). AreImages (after past) [] images) (sym none.0.images) tt;
      slots = none.0.slots;
      areas = subst (λ (images : List Image). AreImages (after past) [] images) (sym none.0.areas) tt;
    }) (λ r there. absurd (none_in r there))

pub pages_go : (w : Setting) (past given : List Event) (ranges : List Range) (old new : List Doubleword) → Legal w (past ++ given) → AreTaken (after past) given ranges
    → (AreGuest ranges → RemakesEach released_word ranges old new) → RemakesAll (after past) given old new
pages_go w past given ranges old new legal is released =
    by_first w past given is.first is.behind legal is.are old new
    (taking w past given is.first is.behind legal is.are old new is.reserves_none
    (subst (λ (rs : List Range). RemakesEach released_word rs old new) is.takes
    (released (subst AreGuest (sym is.takes) (taken_guest w past given is.first is.behind legal is.are)))))
    is.leave
