-- With which registers harts start.
use Rattle.std.proofs.Common.{◌≡◌, ℕ, suc, ◌+◌, ◌*◌, ◌<◌, ◌≤◌, false, List, [], ◌∷◌, ◌++◌, length, take, get_or, refl, sym, ap, subst, ◌∙◌, arith}
use Rattle.std.specs.Prelude.{IsTrue}
use Rattle.std.specs.List.{Contains}
use Rattle.std.proofs.lemmas.List.{length-take, take_more}
use Rattle.history_event.specs.declared.event.Purpose.{Purpose}
use Rattle.history_event.specs.declared.event.Purpose.TheVariants as purposes
use Rattle.history_event.specs.declared.event.Range.{Range}
use Rattle.history_event.specs.declared.handed.HartEntry.{HartEntry}
use Rattle.history_state.specs.Laws.{ModulesAreFew, RangesAreApart, StaticAreasHaveRoom}
use Rattle.history_state.specs.Setting.{Machine}
use Rattle.history_state.specs.State.{State}
use Rattle.history_state.specs.Storage.{is_static_area, pages_for}
use Rattle.history_calls.specs.Startup.{entries_from, entry_at}
use Rattle.link_startup.specs.StartParts.Loaded.{AreGuests, HaveRoom}

-- ---- pages

guest_end : (s : State) (r : Range) → RangesAreApart s → Contains s.ranges r → 0 < r.pages → r.address + 4096 * r.pages ≤ 0x10000 + 4096 * 2047
guest_end s r apart inside some = (apart.guest r inside some).high

pub are_guests : (s : State) (ranges : List Range) → s.ranges ≡ ranges → RangesAreApart s → AreGuests ranges
are_guests s ranges are apart r inside some =
    let low = guest_end s r apart (subst (λ (rs : List Range). Contains rs r) (sym are) inside) some in omega (arith, low)

some_for : (bytes pages : ℕ) → pages ≡ pages_for bytes → 0 < pages
some_for bytes pages e = omega (arith, e)

static_pages : (m : Machine) (s : State) (r : Range) (hart : ℕ) (purpose : Purpose) → StaticAreasHaveRoom m s → Contains s.ranges r → r.purpose ≡ purpose
    → IsTrue (is_static_area hart purpose) → 0 < r.pages
static_pages m s r hart (purposes.StaticTls h) room inside is area = some_for (s.statics.tp + s.statics.size) r.pages (room.pages r h inside is)
static_pages m s r hart (purposes.Object serial) room inside is area = absurd (let d : IsTrue false = area in cc)
static_pages m s r hart (purposes.Stack h) room inside is area = absurd (let d : IsTrue false = area in cc)
static_pages m s r hart (purposes.Block h serial) room inside is area = absurd (let d : IsTrue false = area in cc)

pub have_room : (m : Machine) (s : State) (ranges : List Range) (tp : ℕ) → s.ranges ≡ ranges → s.statics.tp ≡ tp → 1 ≤ m.harts → RangesAreApart s → StaticAreasHaveRoom m s
    → ModulesAreFew m s → HaveRoom tp ranges
have_room m s ranges tp are is some apart room few r hart inside area =
    let there : Contains s.ranges r = subst (λ (rs : List Range). Contains rs r) (sym are) inside in
    let low = guest_end s r apart there (static_pages m s r hart r.purpose room there refl area) in
    let small : s.statics.tp + s.statics.size ≤ 4096 * 2047 = few.statics some in
    omega (arith, low, small, is)

-- ---- one hart after another

entries_more : (s : State) (hart : ℕ) (starts : List ℕ) (pc : ℕ) → entries_from s hart (starts ++ pc ∷ []) ≡ entries_from s hart starts ++ entry_at s (hart + length starts) pc ∷ []
entries_more s hart [] pc = let none : hart ≡ hart + 0 = omega arith in ap (λ n. entry_at s n pc ∷ []) none
entries_more s hart (start ∷ rest) pc =
    let one : hart + 1 + length rest ≡ hart + suc (length rest) = omega arith in
    ap (λ (es : List HartEntry). entry_at s hart start ∷ es)
    (entries_more s (hart + 1) rest pc ∙ ap (λ n. entries_from s (hart + 1) rest ++ entry_at s n pc ∷ []) one)

pub entries_next : (s : State) (starts : List ℕ) (index : ℕ) → index < length starts
    → entries_from s 0 (take index starts) ++ entry_at s index (get_or starts index 0) ∷ [] ≡ entries_from s 0 (take (index + 1) starts)
entries_next s starts index within =
    let count : index ≡ 0 + length (take index starts) = omega (arith, length-take index starts) in
    ap (λ n. entries_from s 0 (take index starts) ++ entry_at s n (get_or starts index 0) ∷ []) count
    ∙ sym (entries_more s 0 (take index starts) (get_or starts index 0))
    ∙ ap (entries_from s 0) (sym (take_more starts index 0 within))
