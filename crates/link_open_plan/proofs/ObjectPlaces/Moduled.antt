-- Modules of new objects, one after another.
use Rattle.std.proofs.Common.{◌≡◌, ℕ, ◌+◌, ◌<◌, ◌≤◌, ◌||◌, Bool, true, false, not, cond, List, [], ◌∷◌, ◌++◌, length, map, take, Option, Some, None, refl, sym, ap, subst, ◌∙◌, arith}
use Rattle.std.specs.List.{fold, range_with_len}
use Rattle.std.specs.Option.{is_some}
use Rattle.std.proofs.lemmas.Bool.{true≢false}
use Rattle.std.proofs.lemmas.List.{length-append, length-map, take_more_set}
use Rattle.std.proofs.Math.ListN.{set}
use Rattle.ld_base.specs.declared.linking.Loaded.{Loaded}
use Rattle.ld_base.specs.declared.linking.TlsPlace.{TlsPlace}
use Rattle.ld_base.specs.declared.object.TlsSeg.{TlsSeg}
use Rattle.history_event.specs.declared.state.Module.{Module}
use Rattle.history_state.specs.Areas.{Area, has_storage, object_area, other_areas, stack_area, static_area, static_areas}
use Rattle.history_state.specs.Opening.{unplaced}
use Rattle.history_state.specs.State.{Statics}
use Rattle.history_state.specs.Storage.{HaveModules, IsPlaceOf, pages_for, statics_with, statics_with_one, with_modules, with_place}
use Rattle.link_open_plan.specs.ObjectPlaces.Placing.{HasFewBytes, area_of_hart, areas_by, unbased}
use Rattle.link_open_plan.proofs.ObjectPlaces.Given.{align_by}

pub modules_push : (xs : List Loaded) (modules : List Module) (o : Loaded) → with_modules (xs ++ o ∷ []) modules ≡ with_place o (with_modules xs modules)
modules_push [] modules o = refl
modules_push (x ∷ xs) modules o = modules_push xs (with_place x modules) o

pub statics_push : (xs : List Loaded) (st : Statics) (o : Loaded) → statics_with (xs ++ o ∷ []) st ≡ statics_with_one (statics_with xs st) o.serial o.object.tls o.«module»
statics_push [] st o = refl
statics_push (x ∷ xs) st o = statics_push xs (statics_with_one st x.serial x.object.tls x.«module») o

pub have_push : (startup : Bool) (xs : List Loaded) (modules : List Module) (st : Statics) (o : Loaded) → HaveModules startup modules st xs
    → IsPlaceOf startup (with_modules xs modules) (statics_with xs st) o.serial o.object.tls o.«module» → HaveModules startup modules st (xs ++ o ∷ [])
have_push startup [] modules st o have is = (is, tt)
have_push startup (x ∷ xs) modules st o have is =
    (have.0, have_push startup xs (with_place x modules) (statics_with_one st x.serial x.object.tls x.«module») o have.1 is)

-- where a late module stands static blocks don't tell
late_place : (modules : List Module) (st other : Statics) (serial : ℕ) (tls : Option TlsSeg) (place : Option TlsPlace) → IsPlaceOf false modules st serial tls place
    → IsPlaceOf false modules other serial tls place
late_place modules st other serial None None is = is
late_place modules st other serial None (Some place) is = is
late_place modules st other serial (Some seg) None is = is
late_place modules st other serial (Some seg) (Some place) is = is

pub place_by : (late : Bool) (modules : List Module) (st other : Statics) (serial : ℕ) (tls : Option TlsSeg) (place : Option TlsPlace) → (late ≡ false → st ≡ other)
    → IsPlaceOf (not late) modules st serial tls place → IsPlaceOf (not late) modules other serial tls place
place_by true modules st other serial tls place same is = late_place modules st other serial tls place is
place_by false modules st other serial tls place same is = subst (λ (s : Statics). IsPlaceOf true modules s serial tls place) (same refl) is

pub have_more : (late : Bool) (added : List Loaded) (i : ℕ) (o : Loaded) (modules now : List Module) (st new : Statics) → i < length added
    → HaveModules (not late) modules st (take i added) → now ≡ with_modules (take i added) modules → (late ≡ false → new ≡ statics_with (take i added) st)
    → IsPlaceOf (not late) now new o.serial o.object.tls o.«module» → HaveModules (not late) modules st (take (i + 1) (set added i o))
have_more late added i o modules now st new lt have are same is =
    subst (HaveModules (not late) modules st) (sym (take_more_set added i o lt))
    (have_push (not late) (take i added) modules st o have
    (place_by late (with_modules (take i added) modules) new (statics_with (take i added) st) o.serial o.object.tls o.«module» same
    (subst (λ (ms : List Module). IsPlaceOf (not late) ms new o.serial o.object.tls o.«module») are is)))

pub modules_more : (added : List Loaded) (i : ℕ) (o : Loaded) (modules now new : List Module) → i < length added → now ≡ with_modules (take i added) modules → new ≡ with_place o now
    → new ≡ with_modules (take (i + 1) (set added i o)) modules
modules_more added i o modules now new lt are is =
    is ∙ ap (with_place o) are ∙ sym (modules_push (take i added) modules o) ∙ ap (λ (xs : List Loaded). with_modules xs modules) (sym (take_more_set added i o lt))

pub statics_more_of : (added : List Loaded) (i : ℕ) (o : Loaded) (st now new : Statics) → i < length added → now ≡ statics_with (take i added) st
    → new ≡ statics_with_one now o.serial o.object.tls o.«module» → new ≡ statics_with (take (i + 1) (set added i o)) st
statics_more_of added i o st now new lt are is =
    is ∙ ap (λ (s : Statics). statics_with_one s o.serial o.object.tls o.«module») are ∙ sym (statics_push (take i added) st o)
    ∙ ap (λ (xs : List Loaded). statics_with xs st) (sym (take_more_set added i o lt))

pub few_alike : (o p : Loaded) → unplaced o ≡ unplaced p → HasFewBytes p → HasFewBytes o
few_alike o p same few seg is = few seg (sym (ap (λ (x : Loaded). x.object.tls) same) ∙ is)

-- ---- bases are nothing to modules and areas

have_plain : (startup : Bool) (xs : List Loaded) (modules : List Module) (st : Statics) → HaveModules startup modules st xs → HaveModules startup modules st (map unbased xs)
have_plain startup [] modules st have = have
have_plain startup (x ∷ xs) modules st have = (have.0, have_plain startup xs (with_place x modules) (statics_with_one st x.serial x.object.tls x.«module») have.1)

have_back : (startup : Bool) (xs : List Loaded) (modules : List Module) (st : Statics) → HaveModules startup modules st (map unbased xs) → HaveModules startup modules st xs
have_back startup [] modules st have = have
have_back startup (x ∷ xs) modules st have = (have.0, have_back startup xs (with_place x modules) (statics_with_one st x.serial x.object.tls x.«module») have.1)

modules_plain : (xs : List Loaded) (modules : List Module) → with_modules (map unbased xs) modules ≡ with_modules xs modules
modules_plain [] modules = refl
modules_plain (x ∷ xs) modules = modules_plain xs (with_place x modules)

statics_plain : (xs : List Loaded) (st : Statics) → statics_with (map unbased xs) st ≡ statics_with xs st
statics_plain [] st = refl
statics_plain (x ∷ xs) st = statics_plain xs (statics_with_one st x.serial x.object.tls x.«module»)

areas_plain : (xs : List Loaded) → map object_area (map unbased xs) ≡ map object_area xs
areas_plain [] = refl
areas_plain (x ∷ xs) = ap (λ (all : List Area). object_area x ∷ all) (areas_plain xs)

align_plain : (xs : List Loaded) (n : ℕ) → fold align_by n (map unbased xs) ≡ fold align_by n xs
align_plain [] n = refl
align_plain (x ∷ xs) n = align_plain xs (align_by n x)

has_plain : (xs : List Loaded) → has_storage (map unbased xs) ≡ has_storage xs
has_plain [] = refl
has_plain (x ∷ xs) = ap (λ (b : Bool). is_some x.object.tls || b) (has_plain xs)

static_plain : (xs : List Loaded) (st : Statics) (harts : ℕ) → static_areas st harts (map unbased xs) ≡ static_areas st harts xs
static_plain xs st harts =
    ap (λ (b : Bool). cond b (map (static_area st (map unbased xs)) (range_with_len 0 harts)) []) (has_plain xs)
    ∙ ap (λ align. cond (has_storage xs) (map (area_of_hart (pages_for (st.tp + st.size)) align) (range_with_len 0 harts)) []) (align_plain xs 4096)

all_plain : (harts : Option ℕ) (xs : List Loaded) (st : Statics) → areas_by harts st (map unbased xs) ≡ areas_by harts st xs
all_plain None xs st = ap (λ (all : List Area). all ++ []) (areas_plain xs)
all_plain (Some harts) xs st =
    ap (λ (all : List Area). all ++ other_areas true st harts (map unbased xs)) (areas_plain xs)
    ∙ ap (λ (all : List Area). map object_area xs ++ (map stack_area (range_with_len 0 harts) ++ all)) (static_plain xs st harts)

module _ (xs ys : List Loaded) (same : map unbased xs ≡ map unbased ys) where
  pub have_alike : (startup : Bool) (modules : List Module) (st : Statics) → HaveModules startup modules st ys → HaveModules startup modules st xs
  have_alike startup modules st have = have_back startup xs modules st (subst (HaveModules startup modules st) (sym same) (have_plain startup ys modules st have))

  pub modules_alike : (modules : List Module) → with_modules ys modules ≡ with_modules xs modules
  modules_alike modules = sym (modules_plain ys modules) ∙ ap (λ (os : List Loaded). with_modules os modules) (sym same) ∙ modules_plain xs modules

  pub areas_alike : (harts : Option ℕ) (st : Statics) → areas_by harts (statics_with ys st) ys ≡ areas_by harts (statics_with xs st) xs
  areas_alike harts st =
      ap (λ (s : Statics). areas_by harts s ys) (sym (statics_plain ys st) ∙ ap (λ (os : List Loaded). statics_with os st) (sym same) ∙ statics_plain xs st)
      ∙ sym (all_plain harts ys (statics_with xs st)) ∙ ap (areas_by harts (statics_with xs st)) (sym same) ∙ all_plain harts xs (statics_with xs st)

-- later what is wanted doesn't stand on static blocks
pub areas_of : (harts : Option ℕ) (late : Bool) (st new : Statics) (added : List Loaded) → is_some harts ≡ not late → (late ≡ false → new ≡ statics_with added st)
    → areas_by harts new added ≡ areas_by harts (statics_with added st) added
areas_of None late st new added is same = refl
areas_of (Some harts) true st new added is same = absurd (true≢false is)
areas_of (Some harts) false st new added is same = ap (λ (s : Statics). areas_by (Some harts) s added) (same refl)

-- each object has an area
pub enough_areas : (harts : Option ℕ) (st : Statics) (added : List Loaded) → length added ≤ length (areas_by harts st added)
enough_areas None st added = let len = length-append (map object_area added) [] in let all = length-map added object_area in omega (arith, len, all)
enough_areas (Some harts) st added =
    let len = length-append (map object_area added) (other_areas true st harts added) in let all = length-map added object_area in omega (arith, len, all)
