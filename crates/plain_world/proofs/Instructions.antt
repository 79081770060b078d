-- An instruction of a hart over guest memory.
use Rattle.std.proofs.Common.{◌≡◌, ℕ, ◌/◌, ◌-◌, Bool, true, false, List, [], ◌∷◌, Option, Some, None, Result, Ok, Err, refl, sym, ap, subst, ◌∙◌, true≢false}
use Rattle.std.specs.Prelude.{nat_lt, is_err, is_some}
use Rattle.std.specs.Option.{option_map}
use Rattle.std.proofs.lemmas.List.{set-get_or}
use Rattle.rv_isa.specs.declared.instr.Instr.{Instr}
use Rattle.rv_hart.specs.Doublewords.{DoesAt, DoesIn, address_of, nowhere, with_word_at, word_at}
use Rattle.rv_hart.specs.Registers.{Registers}
use Rattle.rv_hart.specs.Trail.{Begins, Chain, Ends, IsStep, Place, Ready, Accessing, Stopped, Steps, concluded}
use Rattle.rv_hart.specs.declared.action.Answer.{Answer}
use Rattle.rv_hart.specs.declared.bus.BusFault.{BusFault}
use Rattle.rv_hart.specs.declared.bus.Item.{Item}
use Rattle.rv_hart.specs.declared.bus.Item.TheVariants.{Fetch, Read, Write, Amo, Reserve, Conditional}
use Rattle.rv_hart.specs.declared.doubleword.Doubleword.{Doubleword}
use Rattle.rv_hart.specs.declared.stepping.Stop.{Stop}
use Rattle.history_state.specs.After.{after}
use Rattle.history_state.specs.State.{State, empty_state}
use Rattle.hart_moves.specs.Due.{Due, by_resolving, due}
use Rattle.hart_moves.specs.Harts.{HartState}
use Rattle.hart_moves.specs.Moves.{Did, MovesAs, spent}
use Rattle.history_event.specs.declared.hart_end.HartEnd.{HartEnd}
use Rattle.world_answers.specs.GuestsPart.GuestWorlds.Laws.{QuietTurns}
use Rattle.world_turns.specs.Memory.{lowest}
use Rattle.plain_world.specs.Stretches.{Instructs}

-- ---- where it stops its hart, memory stays

put_back : (first : ℕ) (words : List Doubleword) (a : ℕ) → with_word_at first words a (word_at first words a) ≡ words
put_back first words a = by (nat_lt a first) refl
  where
    by : (t : Bool) → nat_lt a first ≡ t → with_word_at first words a (word_at first words a) ≡ words
    by true lt = rw lt refl
    by false lt = rw lt (set-get_or words ((a - first) / 8) nowhere)

kept : (first : ℕ) (words left : List Doubleword) (item : Item) → ((word : Doubleword) → DoesAt (word_at first words (address_of item)) item word → word ≡ word_at first words (address_of item))
    → DoesIn first words item left → left ≡ words
kept first words left item same (word, does, are) =
    are ∙ ap (λ (x : Doubleword). with_word_at first words (address_of item) x) (same word does) ∙ put_back first words (address_of item)

fetched : (first : ℕ) (words left : List Doubleword) (r : Registers) (item : Item) (end : Place) → Begins r item end → DoesIn first words item left → left ≡ words
fetched first words left r (Fetch address answer) end begins does = kept first words left (Fetch address answer) (λ word x. x.1) does
fetched first words left r (Read address size answer) end begins does = absurd begins
fetched first words left r (Write address size value answer) end begins does = absurd begins
fetched first words left r (Amo address size op value answer) end begins does = absurd begins
fetched first words left r (Reserve address size answer) end begins does = absurd begins
fetched first words left r (Conditional address size value version answer) end begins does = absurd begins

-- an access whose answer stops its hart was refused
refused : {T : Type 0} (r s : Registers) (stop : Stop) (decoded : Option Instr) (address : ℕ) (kind : T → Answer) (answer : Result T BusFault)
    → Stopped s stop ≡ concluded r decoded address kind answer → (fault : BusFault) × (answer ≡ Err fault)
refused r s stop decoded address kind (Ok value) is = absurd (let no : Stopped s stop ≡ Ready _ = is in cc)
refused r s stop decoded address kind (Err fault) is = (fault, refl)

accessed : (first : ℕ) (words left : List Doubleword) (r s : Registers) (stop : Stop) (decoded : Option Instr) (item : Item) → Ends r decoded item (Stopped s stop)
    → DoesIn first words item left → left ≡ words
accessed first words left r s stop decoded (Fetch address answer) ends does = absurd ends
accessed first words left r s stop decoded (Read address size answer) ends does = kept first words left (Read address size answer) (λ word x. x.1) does
accessed first words left r s stop decoded (Reserve address size answer) ends does = kept first words left (Reserve address size answer) (λ word x. x.1) does
accessed first words left r s stop decoded (Write address size value (Ok done)) ends does = absurd (let no : Stopped s stop ≡ Ready _ = ends.1 in cc)
accessed first words left r s stop decoded (Write address size value (Err fault)) ends does =
    kept first words left (Write address size value (Err fault)) (λ word x. x.1) does
accessed first words left r s stop decoded (Amo address size op value (Ok found)) ends does = absurd (let no : Stopped s stop ≡ Ready _ = ends.1 in cc)
accessed first words left r s stop decoded (Amo address size op value (Err fault)) ends does =
    kept first words left (Amo address size op value (Err fault)) (λ word x. x.1) does
accessed first words left r s stop decoded (Conditional address size value version (Ok stored)) ends does =
    absurd (let no : Stopped s stop ≡ Ready _ = ends.1 in cc)
accessed first words left r s stop decoded (Conditional address size value version (Err fault)) ends does =
    kept first words left (Conditional address size value version (Err fault)) (λ word x. x.1) does

by_items : (first : ℕ) (words left : List Doubleword) (r s : Registers) (stop : Stop) (items : List Item) → IsStep r items (Stopped s stop)
    → Chain (DoesIn first) words items left → left ≡ words
by_items first words left r s stop [] step chain = absurd step
by_items first words left r s stop (fetch ∷ []) step (between, does, same) =
    sym same ∙ fetched first words between r fetch (Stopped s stop) step.0 does
by_items first words left r s stop (fetch ∷ (access ∷ [])) (decoded, begins, ends) (between, does, (behind, also, same)) =
    sym same ∙ accessed first between behind r s stop decoded access ends also ∙ fetched first words between r fetch (Accessing r decoded) begins does
by_items first words left r s stop (fetch ∷ (access ∷ (more ∷ rest))) step chain = absurd step

pub stops_as_before : (words left : List Doubleword) (r s : Registers) (result : Result Unit Stop) → is_err result ≡ true → Steps (DoesIn lowest) words left r s result
    → left ≡ words
stops_as_before words left r s (Ok done) is x = absurd (true≢false (sym is))
stops_as_before words left r s (Err stop) is x = by_items lowest words left r s stop x.items x.step x.chain

-- ---- else its hart runs on

pub none_served : {A B : Type 0} (f : A → B) (o : Option A) (found : Option B) → option_map f o ≡ found → is_some o ≡ false → found ≡ None
none_served f (Some x) found same none = absurd (true≢false none)
none_served f None found same none = sym same

runs_when_due : (s : State) (b : HartState) → due s b ≡ Due.instruction → b.«end» ≡ None
unfolding due
runs_when_due s b is = by b.«end» refl
  where
    by : (e : Option HartEnd) → b.«end» ≡ e → b.«end» ≡ None
    by None over = over
    by (Some reason) over =
        let ended : due s b ≡ Due.nothing = ap (λ (x : Option HartEnd). elim x [ Some y ↦ Due.nothing | None ↦ by_resolving s b b.resolving ]) over in
        absurd (let no : Due.nothing ≡ Due.instruction = sym ended ∙ is in cc)

pub instructed : QuietTurns → (words words' : List Doubleword) (b between c : HartState) (result : Result Unit Stop) → ((s : State) → due s b ≡ Due.instruction)
    → is_err result ≡ false → Steps (DoesIn lowest) words words' b.registers between.registers result
    → between ≡ record b { registers = between.registers } → c ≡ spent between → Instructs words words' b c
instructed law words words' b between c (Err stop) is went x same counts = absurd (true≢false went)
instructed law words words' b between c (Ok done) is went x same counts = record {
  runs = runs_when_due empty_state b (is empty_state);
  registers = between.registers;
  leaves = left_as;
  turn = λ w h world are there.
      law w h world words' b c (Did.quiet x.items) refl there
      (subst (λ (d : Due). MovesAs w world.journal h b d (Did.quiet x.items) c) (sym (is (after world.journal)))
      (record { items = x.items; place = Ready between.registers; step = x.step; comes = record { is = refl; leaves = left_as } }))
      (subst (λ (ws : List Doubleword). Chain (DoesIn lowest) ws x.items words') (sym are) x.chain);
}
  where
    left_as : c ≡ spent (record b { registers = between.registers })
    left_as = counts ∙ ap (λ (y : HartState). spent y) same
