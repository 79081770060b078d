-- The turns that need neither the linker nor a slot are taken alone.
use Rattle.std.proofs.Common.{◌≡◌, ℕ, ◌+◌, ◌*◌, true, false, List, [], ◌∷◌, Option, Some, None, Result, Ok, Err, refl, sym, ap, ◌∙◌}
use Rattle.history_event.specs.declared.event.Event.{Event}
use Rattle.history_event.specs.declared.event.Event.TheVariants.{Ended}
use Rattle.history_event.specs.declared.hart_end.HartEnd.{HartEnd}
use Rattle.rv_hart.specs.Doublewords.{DoesIn}
use Rattle.rv_hart.specs.Trail.{Place, Ready, Accessing, Stopped}
use Rattle.rv_hart.specs.declared.bus.BusFault.{BusFault}
use Rattle.rv_hart.specs.declared.bus.BusFault.TheVariants.{Role as RoleFault, Misaligned, Again as AgainFault}
use Rattle.rv_hart.specs.declared.bus.Item.{Item}
use Rattle.rv_hart.specs.declared.bus.Item.TheVariants.{Write}
use Rattle.rv_hart.specs.declared.doubleword.Doubleword.{Doubleword}
use Rattle.rv_hart.specs.declared.stepping.Stop.{Stop}
use Rattle.rv_hart.specs.declared.stepping.Stop.TheVariants as stop
use Rattle.history_state.specs.Setting.{Setting}
use Rattle.hart_moves.specs.Copying.{Copy, first_left}
use Rattle.hart_moves.specs.Due.{Due}
use Rattle.hart_moves.specs.Harts.{HartState}
use Rattle.hart_moves.specs.Moves.{Comes, CopiesBy, Did, TurnEnds as EndsBy, Goes, MovesAs, TurnRefuses, TurnStops, StoresBy, Trap, Traps, Unread, copied_item, stored_to, trap_of}
use Rattle.world_answers.specs.Answers.{is_service}
use Rattle.world_answers.specs.GuestsPart.GuestWorlds.Worlds.{setting_without}
use Rattle.hart_turns.specs.Turns.{TakesOwn, Turns, is_own}
use Rattle.hart_turns.specs.declared.turned.Turned.{Turned}
use Rattle.hart_turns.specs.declared.turned.Turned.TheVariants.{Over, Again, Ends}
use Rattle.world_turns.specs.Memory.{lowest}
use Rattle.world_answers.specs.GuestsPart.Alone.{GoesOn, TakesAlone}

-- ---- a turn that only made calls of the bus leaves its hart running

module _ (w : Setting) (past : List Event) (h : ℕ) (b : HartState) (made : List Item) (c : HartState) where
  abbrev RunsOn : Type 0
  RunsOn = c.«end» ≡ b.«end»

  goes : (x : HartState) (items : List Item) → x.«end» ≡ b.«end» → Goes items x (Did.quiet made) c → RunsOn
  goes x items same y = ap (λ (z : HartState). z.«end») y.leaves ∙ same

  ends_not : (x : HartState) (items : List Item) (reason : HartEnd) → EndsBy w past h x items reason (Did.quiet made) c → ⊥
  ends_not x items reason y = let is : Did.quiet made ≡ Did.serves items (Ended h reason ∷ []) = y.is in cc

  by_trap : (items : List Item) (trap : Trap) → Traps w past h b items trap (Did.quiet made) c → RunsOn
  by_trap items (Trap.exits code) x = absurd (ends_not _ items _ x)
  by_trap items (Trap.gives value) x = goes _ items refl x
  by_trap items Trap.writes x = goes _ items refl x

  by_refusal : (items : List Item) (address : ℕ) (fault : BusFault) → TurnRefuses w past h b items address fault (Did.quiet made) c → RunsOn
  by_refusal items address (RoleFault role) x = absurd (ends_not _ items _ x)
  by_refusal items address Misaligned x = absurd (ends_not _ items _ x)
  by_refusal items address (AgainFault shown) x = goes b items refl x

  by_stop : (items : List Item) (s : Stop) → TurnStops w past h b items s (Did.quiet made) c → RunsOn
  by_stop items stop.Ecall x = by_trap items (trap_of b.registers) x
  by_stop items stop.Break x = absurd (ends_not _ items _ x)
  by_stop items (stop.Bad word) x = absurd (ends_not _ items _ x)
  by_stop items (stop.Misaligned address) x = absurd (ends_not _ items _ x)
  by_stop items (stop.Refused address fault) x = by_refusal items address fault x

  by_place : (items : List Item) (place : Place) → Comes w past h b items place (Did.quiet made) c → RunsOn
  by_place items (Ready r) x = goes _ items refl x
  by_place items (Accessing r decoded) x = absurd x
  by_place items (Stopped r s) x = by_stop items s x

  by_unread : (items : List Item) (copy : Copy) (address : ℕ) → Unread w past h b items copy address (Did.quiet made) c → RunsOn
  by_unread items (Copy.of_name n) address x = absurd (ends_not _ items _ x)
  by_unread items (Copy.of_version name) address x = absurd (ends_not _ items _ x)
  by_unread items Copy.of_pair address x = absurd (ends_not _ items _ x)
  by_unread items (Copy.of_text count) address x = goes _ items refl x

  by_copy : (items : List Item) (copy : Copy) (start : ℕ) (bytes : List ℕ) (answer : Result ℕ BusFault) → CopiesBy w past h b items copy start bytes answer (Did.quiet made) c → RunsOn
  by_copy items copy start bytes (Ok word) x = goes _ items refl x
  by_copy items copy start bytes (Err (RoleFault role)) x = by_unread items copy (first_left start bytes) x
  by_copy items copy start bytes (Err Misaligned) x = absurd x
  by_copy items copy start bytes (Err (AgainFault shown)) x = goes b items refl x

  stored_end : (text stored : ℕ) (more : List ℕ) → (stored_to text stored more b).«end» ≡ b.«end»
  stored_end text stored [] = refl
  stored_end text stored (word ∷ more) = refl

  by_store : (items : List Item) (text stored : ℕ) (more : List ℕ) (answer : Result Unit BusFault) → StoresBy w past h b items text stored more answer (Did.quiet made) c → RunsOn
  by_store items text stored more (Ok done) x = goes (stored_to text stored more b) items (stored_end text stored more) x
  by_store items text stored more (Err (RoleFault role)) x = absurd (ends_not _ items _ x)
  by_store items text stored more (Err Misaligned) x = absurd x
  by_store items text stored more (Err (AgainFault shown)) x = goes b items refl x

  runs_on : (d : Due) → is_own d ≡ true → MovesAs w past h b d (Did.quiet made) c → RunsOn
  runs_on Due.nothing own x = absurd x
  runs_on (Due.exchange o) own x = absurd (let no : false ≡ true = own in cc)
  runs_on (Due.finish o found) own x = absurd (let no : false ≡ true = own in cc)
  runs_on Due.fuel_out own x = absurd (let no : false ≡ true = own in cc)
  runs_on Due.instruction own x = by_place x.items x.place x.comes
  runs_on (Due.copy copy start bytes) own x = by_copy (copied_item start bytes x.answer ∷ []) copy start bytes x.answer x.comes
  runs_on (Due.serve call back) own x = absurd (let no : false ≡ true = own in cc)
  runs_on (Due.wait for) own x = absurd (let no : false ≡ true = own in cc)
  runs_on (Due.store text stored word more) own x = by_store (Write (text + 8 * stored) 8 word x.answer ∷ []) text stored more x.answer x.comes
  runs_on (Due.enter function frames) own x = ap (λ (z : HartState). z.«end») x.leaves
  runs_on (Due.complete purpose object rest below) own x = absurd (let no : false ≡ true = own in cc)
  runs_on (Due.finalise code object) own x = absurd (let no : false ≡ true = own in cc)

-- ---- such a turn is taken alone

own_is_no_call : (d : Due) → is_own d ≡ true → is_service d ≡ false
own_is_no_call (Due.serve call back) own = absurd (let no : false ≡ true = own in cc)
own_is_no_call _ own = refl

module _ (words words' : List Doubleword) (d : Due) (b c : HartState) (own : is_own d ≡ true) (runs : b.«end» ≡ None) where
  goes_on : Turns (DoesIn lowest) words words' d b c Over → GoesOn words words' d b c
  goes_on x = record {
    did = Did.quiet x.items;
    quiet = refl;
    moves = x.turn;
    does = λ past. x.chain;
    runs = runs_on (setting_without 0 [] []) [] 0 b x.items c d own (x.turn (setting_without 0 [] []) [] 0) ∙ runs;
    no_call = own_is_no_call d own;
  }

  pub takes_alone : (result : Option Turned) → TakesOwn (DoesIn lowest) words words' d b c result → TakesAlone words words' d b c result
  takes_alone (Some Over) x = goes_on x.0
  takes_alone (Some (Again shown)) x = goes_on (record { items = x.0.items; chain = x.0.chain; turn = x.0.turn })
  takes_alone (Some (Ends reason)) x = record { items = x.0.items; chain = x.0.chain; moves = x.0.turn; place = ap (λ (y : HartState). y.resolving) x.1; no_call = own_is_no_call d own }
  takes_alone None x = absurd (let no : true ≡ false = sym own ∙ x.0 in cc)
