-- Turns as rows of the table.
use Rattle.std.proofs.Common.{◌≡◌, ℕ, ◌+◌, ◌*◌, Bool, List, [], ◌∷◌, Result, Err, refl, sym, ap, subst}
use Rattle.std.specs.List.{list_any}
use Rattle.history_event.specs.declared.event.Event.{Event}
use Rattle.history_event.specs.declared.hart_end.HartEnd.{HartEnd}
use Rattle.history_state.specs.Setting.{Setting}
use Rattle.rv_hart.specs.declared.bus.BusFault.{BusFault}
use Rattle.rv_hart.specs.declared.bus.Item.{Item}
use Rattle.rv_hart.specs.declared.bus.Item.TheVariants.{Read, Write}
use Rattle.rv_hart.specs.declared.stepping.Stop.{Stop}
use Rattle.rv_hart.specs.Registers.{Registers}
use Rattle.rv_hart.specs.Trail.{IsStep, Stopped, place_after}
use Rattle.hart_moves.specs.Copying.{Copy, doubleword_at, first_left}
use Rattle.hart_moves.specs.Due.{Due}
use Rattle.hart_moves.specs.Harts.{HartState}
use Rattle.hart_moves.specs.Moves.{CopiesBy, Did, StoresBy, copied_item, ended, spent}
use Rattle.hart_moves.specs.Moves as moves
use Rattle.hart_turns.specs.Turns.{Turns, TurnsTo, Watches}
use Rattle.hart_turns.specs.declared.turned.Turned.{Turned}
use Rattle.hart_turns.specs.declared.turned.Turned.TheVariants.{Over, Again, Ends}

-- a row within a row
turns_map : (R S : Did → HartState → Type 0) → ((did : Did) (c : HartState) → R did c → S did c) → (w : Setting) (past : List Event) (h : ℕ)
    (items : List Item) (result : Turned) (c : HartState) → TurnsTo R w past h items result c → TurnsTo S w past h items result c
turns_map R S within w past h items Over c x = within (Did.quiet items) c x
turns_map R S within w past h items (Again shown) c x = within (Did.quiet items) c x
turns_map R S within w past h items (Ends reason) c x = λ may. within _ (ended reason c) (x may)

-- a hart that is to end
pub ends_so : (w : Setting) (past : List Event) (h : ℕ) (b c : HartState) (items : List Item) (reason : HartEnd) (result : Turned)
    → result ≡ Ends reason → c ≡ spent b → TurnsTo (moves.TurnEnds w past h (spent b) items reason) w past h items result c
ends_so w past h b c items reason result is left =
    subst (λ (r : Turned). TurnsTo (moves.TurnEnds w past h (spent b) items reason) w past h items r c) (sym is)
    (λ may. record { may = may; is = refl; leaves = ap (λ (x : HartState). ended reason x) left })

module _ {B : Type 0} (does : B → Item → B → Type 0) (bus bus' : B) (b c : HartState) (result : Turned) where
  abbrev pub Comes : List Item → (Setting → List Event → ℕ → Did → HartState → Type 0) → Type 0
  Comes items Row = (w : Setting) (past : List Event) (h : ℕ) → TurnsTo (Row w past h) w past h items result c

  -- a copied doubleword
  abbrev pub IsCopy : Copy → ℕ → List ℕ → Result ℕ BusFault → ℕ → Type 0
  IsCopy copy start bytes answer first =
      does bus (Read (doubleword_at first) 8 answer) bus'
      → Comes (Read (doubleword_at first) 8 answer ∷ []) (λ w past h. CopiesBy w past h b (Read (doubleword_at first) 8 answer ∷ []) copy start bytes answer)
      → Turns does bus bus' (Due.copy copy start bytes) b c result

  copies_at : (copy : Copy) (start : ℕ) (bytes : List ℕ) (answer : Result ℕ BusFault) → IsCopy copy start bytes answer (first_left start bytes)
  copies_at copy start bytes answer = λ did comes. record {
    items = copied_item start bytes answer ∷ [];
    chain = (bus', did, refl);
    turn = λ w past h.
        turns_map (CopiesBy w past h b (copied_item start bytes answer ∷ []) copy start bytes answer) (moves.Copies w past h b copy start bytes)
        (λ did x row. record { answer = answer; comes = row }) w past h (copied_item start bytes answer ∷ []) result c (comes w past h);
  }

  pub copies : (copy : Copy) (start : ℕ) (bytes : List ℕ) (answer : Result ℕ BusFault) (first : ℕ) → first ≡ first_left start bytes → IsCopy copy start bytes answer first
  copies copy start bytes answer first from = subst (IsCopy copy start bytes answer) (sym from) (copies_at copy start bytes answer)

  -- a stored doubleword
  abbrev pub IsStore : (text stored word : ℕ) → List ℕ → Result Unit BusFault → ℕ → Type 0
  IsStore text stored word more answer address =
      does bus (Write address 8 word answer) bus'
      → Comes (Write address 8 word answer ∷ []) (λ w past h. StoresBy w past h b (Write address 8 word answer ∷ []) text stored more answer)
      → Turns does bus bus' (Due.store text stored word more) b c result

  stores_at : (text stored word : ℕ) (more : List ℕ) (answer : Result Unit BusFault) → IsStore text stored word more answer (text + 8 * stored)
  stores_at text stored word more answer = λ did comes. record {
    items = Write (text + 8 * stored) 8 word answer ∷ [];
    chain = (bus', did, refl);
    turn = λ w past h.
        turns_map (StoresBy w past h b (Write (text + 8 * stored) 8 word answer ∷ []) text stored more answer) (moves.StoresText w past h b text stored word more)
        (λ did x row. record { answer = answer; comes = row }) w past h (Write (text + 8 * stored) 8 word answer ∷ []) result c (comes w past h);
  }

  pub stores : (text stored word : ℕ) (more : List ℕ) (answer : Result Unit BusFault) (address : ℕ) → address ≡ text + 8 * stored → IsStore text stored word more answer address
  stores text stored word more answer address at = subst (IsStore text stored word more answer) (sym at) (stores_at text stored word more answer)

-- an instruction that stops its hart
pub stops_so : {B : Type 0} (does : B → Item → B → Type 0) (bus bus' : B) (b b' c : HartState) (r' : Registers) (stepped : Result Unit Stop) (stop : Stop)
    (asked : Bool) (result : Turned) → Watches does bus bus' b.registers r' stepped asked → stepped ≡ Err stop → b' ≡ b
    → ((w : Setting) (past : List Event) (h : ℕ) (items : List Item) → asked ≡ list_any moves.is_store items
    → TurnsTo (moves.TurnStops w past h b' items stop) w past h items result c)
    → Turns does bus bus' Due.instruction b c result
stops_so does bus bus' b b' c r' stepped stop asked result watched is same comes =
    let step : IsStep b.registers watched.items (Stopped r' stop) = subst (λ (x : Result Unit Stop). IsStep b.registers watched.items (place_after r' x)) is watched.step in
    record {
      items = watched.items;
      chain = watched.chain;
      turn = λ w past h.
          turns_map (moves.TurnStops w past h b watched.items stop) (moves.Instructs w past h b)
          (λ did x row. record { items = watched.items; place = Stopped r' stop; step = step; comes = row }) w past h watched.items result c
          (subst (λ (x : HartState). TurnsTo (moves.TurnStops w past h x watched.items stop) w past h watched.items result c) same (comes w past h watched.items watched.stores));
    }

-- a turn that makes no call of the bus
pub quietly : {B : Type 0} (does : B → Item → B → Type 0) (bus : B) (d : Due) (b c : HartState) (result : Turned) → result ≡ Over
    → ((w : Setting) (past : List Event) (h : ℕ) → moves.MovesAs w past h b d (Did.quiet []) c) → Turns does bus bus d b c result
quietly does bus d b c result is row = record {
  items = [];
  chain = refl;
  turn = λ w past h. subst (λ (r : Turned). TurnsTo (moves.MovesAs w past h b d) w past h [] r c) (sym is) (row w past h);
}
