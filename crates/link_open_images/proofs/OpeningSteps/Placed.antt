-- The places of new modules.
use Rattle.std.proofs.Common.{◌≡◌, ℕ, ◌+◌, ◌<◌, Bool, true, false, not, List, [], ◌∷◌, length, Option, Some, None, refl, sym, ap, subst, ◌∙◌, arith}
use Rattle.std.specs.Prelude.{IsSomeAnd, IsTrue, if◌then◌else◌}
use Rattle.std.specs.List.{filter}
use Rattle.std.specs.Option.{option_map_or}
use Rattle.ld_base.specs.declared.linking.Loaded.{Loaded}
use Rattle.ld_base.specs.declared.linking.TlsPlace.{TlsPlace}
use Rattle.ld_base.specs.declared.object.TlsSeg.{TlsSeg}
use Rattle.history_event.specs.declared.state.Module.{Module}
use Rattle.history_state.specs.State.{Statics}
use Rattle.history_state.specs.Step.{has_module}
use Rattle.history_state.specs.Storage.{HaveModules, IsPlaceOf, IsStaticOffset, module_of_place, statics_with, statics_with_one, with_place}
use Rattle.tls_blocks.specs.Numbers.{IsLeastFree, ModuleTable, with_module}
use Rattle.tls_blocks.specs.Places.{IsOffset, tp_with}
use Rattle.link_open_images.specs.OpeningSteps.Steps.{statics_after, statics_of}

-- ---- a place is the one that a new module has

one_number : (modules : List Module) (a b : ℕ) → IsLeastFree modules a → IsLeastFree modules b → a ≡ b
one_number modules a b x y =
    let above : ¬ (a < b) = λ lt. x_taken lt in
    let below : ¬ (b < a) = λ lt. y_taken lt in
    omega (arith, above, below)
  where
    x_taken : a < b → ⊥
    x_taken lt = x.free (y.least a x.positive lt)

    y_taken : b < a → ⊥
    y_taken lt = y.free (x.least b y.positive lt)

one_offset : (tp size : ℕ) (seg : TlsSeg) (a b : ℕ) → IsOffset tp size seg a → IsOffset tp size seg b → a ≡ b
one_offset tp size seg a b x y = omega (arith, x.least b y.stands, y.least a x.stands)

pub one_place : (startup : Bool) (modules : List Module) (st : Statics) (serial : ℕ) (seg : TlsSeg) (tls : Option TlsSeg) (placed : Option TlsPlace) (place : TlsPlace) → tls ≡ Some seg
    → IsPlaceOf startup modules st serial tls placed → IsLeastFree modules place.number → (IsTrue (not startup) → place.offset ≡ None)
    → (not startup ≡ false → IsSomeAnd place.offset (IsOffset (tp_with serial seg st.tp) st.size seg)) → placed ≡ Some place
one_place startup modules st serial seg tls placed place some is least late static = by placed (subst (λ (t : Option TlsSeg). IsPlaceOf startup modules st serial t placed) some is)
  where
    offsets : (b : Bool) (x y : Option ℕ) → IsStaticOffset b st serial seg x → (IsTrue (not b) → y ≡ None) → (not b ≡ false → IsSomeAnd y (IsOffset (tp_with serial seg st.tp) st.size seg)) → x ≡ y
    offsets false x y none last first = none ∙ sym (last refl)
    offsets true None y none last first = absurd none
    offsets true (Some a) None at last first = absurd (first refl)
    offsets true (Some a) (Some b) at last first = ap (λ (n : ℕ). Some n) (one_offset (tp_with serial seg st.tp) st.size seg a b at (first refl))

    by : (p : Option TlsPlace) → IsPlaceOf startup modules st serial (Some seg) p → p ≡ Some place
    by None none = absurd none
    by (Some p) at =
        let number : p.number ≡ place.number = one_number modules p.number place.number at.0 least in
        let offset : p.offset ≡ place.offset = offsets startup p.offset place.offset at.1 late static in
        ap (λ (n : ℕ). Some (record { number = n; offset = p.offset })) number ∙ ap (λ (x : Option ℕ). Some (record { number = place.number; offset = x })) offset

-- ---- with an object's module

pub placed_is : (o : Loaded) (modules new : List Module) (place : TlsPlace) → o.«module» ≡ Some place
    → new ≡ with_module (record { number = place.number; serial = o.serial; offset = place.offset }) modules → new ≡ with_place o modules
placed_is o modules new place is new_is = new_is ∙ ap (λ (p : Option TlsPlace). option_map_or (λ (q : TlsPlace). with_module (module_of_place o.serial q) modules) p modules) (sym is)

-- ---- one object after another

-- where late modules stand doesn't matter
have_late : (modules : List Module) (one more : Statics) (objects : List Loaded) → HaveModules false modules one objects → HaveModules false modules more objects
have_late modules one more [] have = tt
have_late modules one more (o ∷ objects) have = (
  at o.object.tls o.«module» have.0,
  have_late (with_place o modules) (statics_with_one one o.serial o.object.tls o.«module») (statics_with_one more o.serial o.object.tls o.«module») objects have.1,
)
  where
    at : (tls : Option TlsSeg) (placed : Option TlsPlace) → IsPlaceOf false modules one o.serial tls placed → IsPlaceOf false modules more o.serial tls placed
    at None None is = is
    at None (Some p) is = is
    at (Some seg) None is = is
    at (Some seg) (Some p) is = is

pub have_more : (startup : Bool) (o : Loaded) (left rest : List Loaded) (before behind : ModuleTable) → left ≡ o ∷ rest → HaveModules startup before.modules (statics_of before) left
    → behind.modules ≡ with_place o before.modules → statics_of behind ≡ statics_after startup (o ∷ []) (statics_of before) → HaveModules startup behind.modules (statics_of behind) rest
have_more startup o left rest before behind are have modules statics =
    subst (λ (ms : List Module). HaveModules startup ms (statics_of behind) rest) (sym modules)
    (by startup statics (subst (λ (os : List Loaded). HaveModules startup before.modules (statics_of before) os) are have).1)
  where
    by : (b : Bool) → statics_of behind ≡ statics_after b (o ∷ []) (statics_of before)
        → HaveModules b (with_place o before.modules) (statics_with_one (statics_of before) o.serial o.object.tls o.«module») rest → HaveModules b (with_place o before.modules) (statics_of behind) rest
    by true is next = subst (λ (st : Statics). HaveModules true (with_place o before.modules) st rest) (sym is) next
    by false is next = have_late (with_place o before.modules) (statics_with_one (statics_of before) o.serial o.object.tls o.«module») (statics_of behind) rest next

pub statics_more : (startup : Bool) (o : Loaded) (left rest : List Loaded) (before behind : Statics) → left ≡ o ∷ rest → behind ≡ statics_after startup (o ∷ []) before
    → statics_after startup rest behind ≡ statics_after startup left before
statics_more true o left rest before behind are is = ap (statics_with rest) is ∙ ap (λ (os : List Loaded). statics_with os before) (sym are)
statics_more false o left rest before behind are is = is

pub generation_more : (o : Loaded) (left rest : List Loaded) (before behind total : ℕ) → left ≡ o ∷ rest → behind ≡ before + length (filter has_module (o ∷ [])) → before + length (filter has_module left) ≡ total
    → behind + length (filter has_module rest) ≡ total
generation_more o left rest before behind total are is sum = by (has_module o) refl (sum_at sum)
  where
    sum_at : before + length (filter has_module left) ≡ total → before + length (filter has_module (o ∷ rest)) ≡ total
    sum_at e = ap (λ (os : List Loaded). before + length (filter has_module os)) (sym are) ∙ e

    by : (b : Bool) → has_module o ≡ b → before + length (filter has_module (o ∷ rest)) ≡ total → behind + length (filter has_module rest) ≡ total
    by true e whole =
        let one : behind ≡ before + 1 = is ∙ ap (λ (x : Bool). before + length (if x then o ∷ [] else [])) e in
        let all : before + length (o ∷ filter has_module rest) ≡ total = ap (λ (x : Bool). before + length (if x then o ∷ filter has_module rest else filter has_module rest)) (sym e) ∙ whole in
        omega (arith, one, all)
    by false e whole =
        let one : behind ≡ before + 0 = is ∙ ap (λ (x : Bool). before + length (if x then o ∷ [] else [])) e in
        let all : before + length (filter has_module rest) ≡ total = ap (λ (x : Bool). before + length (if x then o ∷ filter has_module rest else filter has_module rest)) (sym e) ∙ whole in
        omega (arith, one, all)
