-- New objects with their places.
use Rattle.std.proofs.Common.{◌≡◌, ℕ, ◌≤◌, Bool, false, not, List, [], ◌∷◌, length, map, Option, refl, sym, ap, subst, ◌∙◌, arith}
use Rattle.std.specs.List.{Contains}
use Rattle.std.specs.Option.{is_some}
use Rattle.ld_base.specs.declared.linking.Loaded.{Loaded}
use Rattle.history_event.specs.declared.event.Range.{Range}
use Rattle.history_event.specs.declared.state.Module.{Module}
use Rattle.history_state.specs.Accepted.{IsAccepted}
use Rattle.history_state.specs.Areas.{Area, AreBased, AreGiven}
use Rattle.history_state.specs.Opening.{unplaced}
use Rattle.history_state.specs.State.{Statics}
use Rattle.history_state.specs.Storage.{HaveModules, statics_with, with_modules}
use Rattle.tls_blocks.specs.Numbers.{ModuleTable}
use Rattle.link_open_plan.specs.ObjectPlaces.Placing.{HavePlaces, areas_by, statics_of, unbased}
use Rattle.link_open_plan.proofs.ObjectPlaces.Given.{given_count}
use Rattle.link_open_plan.proofs.ObjectPlaces.Moduled.{areas_alike, areas_of, enough_areas, have_alike, modules_alike}
use Rattle.link_open_plan.proofs.ObjectPlaces.Same.{same_in}

-- who has the same but for bases has the same but for places
through : (xs : List Loaded) → map unplaced (map unbased xs) ≡ map unplaced xs
through [] = refl
through (x ∷ xs) = ap (λ (ys : List Loaded). unplaced x ∷ ys) (through xs)

pub unplaced_alike : (xs ys : List Loaded) → map unbased xs ≡ map unbased ys → map unplaced xs ≡ map unplaced ys
unplaced_alike xs ys same = sym (through xs) ∙ ap (map unplaced) same ∙ through ys

-- and the same objects
pub accepted_alike : (xs ys : List Loaded) → map unplaced xs ≡ map unplaced ys → ((o : Loaded) → Contains ys o → IsAccepted o.object) → (o : Loaded) → Contains xs o → IsAccepted o.object
accepted_alike xs ys same every o (i, lt, at) =
    let among = same_in unplaced xs ys i o o same lt (sym at) in
    subst IsAccepted (sym (ap (λ (x : Loaded). x.object) among.2)) (every among.0 among.1)

pub enough : (free : List ℕ) (harts : Option ℕ) (st : Statics) (added : List Loaded) (wanted : List Area) (ranges : List Range) (left : List ℕ) → wanted ≡ areas_by harts st added
    → AreGiven free wanted ranges left → length added ≤ length ranges
enough free harts st added wanted ranges left are given =
    let each = given_count free wanted ranges left given in
    let all = ap length are in
    let some = enough_areas harts st added in
    omega (arith, each, all, some)

statics_same : (a b : ModuleTable) → a.size ≡ b.size → a.tp ≡ b.tp → statics_of a ≡ statics_of b
statics_same a b size tp = ap (λ n. record { size = n; tp = a.tp }) size ∙ ap (λ n. record { size = b.size; tp = n }) tp

module _ (free : List ℕ) (table copy new : ModuleTable) (harts : Option ℕ) (late : Bool) (given : List Loaded)
    (modules : copy.modules ≡ table.modules) (size : copy.size ≡ table.size) (tp : copy.tp ≡ table.tp) (early : is_some harts ≡ not late)
    (have : HaveModules (not late) copy.modules (statics_of copy) given) (statics : late ≡ false → statics_of new ≡ statics_with given (statics_of copy)) where
  storage : HaveModules (is_some harts) table.modules (statics_of table) given
  storage =
      subst (λ (b : Bool). HaveModules b table.modules (statics_of table) given) (sym early)
      (subst (λ (ms : List Module). HaveModules (not late) ms (statics_of table) given) modules
      (subst (λ (st : Statics). HaveModules (not late) copy.modules st given) (statics_same copy table size tp) have))

  areas : (wanted : List Area) → wanted ≡ areas_by harts (statics_of new) given → wanted ≡ areas_by harts (statics_with given (statics_of table)) given
  areas wanted are =
      are ∙ areas_of harts late (statics_of copy) (statics_of new) given early statics
      ∙ ap (λ (st : Statics). areas_by harts (statics_with given st) given) (statics_same copy table size tp)

  pub have_places : (wanted : List Area) (ranges : List Range) (left : List ℕ) (based : List Loaded) → new.modules ≡ with_modules given copy.modules → wanted ≡ areas_by harts (statics_of new) given
      → AreGiven free wanted ranges left → map unbased based ≡ map unbased given → AreBased based ranges → HavePlaces free table harts based (record { modules = new; ranges = ranges })
  have_places wanted ranges left based are wants gives same bases = record {
    storage = have_alike based given same (is_some harts) table.modules (statics_of table) storage;
    modules = are ∙ ap (with_modules given) modules ∙ modules_alike based given same table.modules;
    left = left;
    given = subst (λ (xs : List Area). AreGiven free xs ranges left) (areas wanted wants ∙ areas_alike based given same harts (statics_of table)) gives;
    based = bases;
  }
