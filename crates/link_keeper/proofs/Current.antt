-- The blocks that a hart keeps are its blocks of now.
use Rattle.std.proofs.Common.{◌≡◌, ⊎_elim, inl, ℕ, suc, ◌+◌, ◌<◌, ◌==◌, ◌&&◌, eq-eqb, ne_eqb, cond, Bool, true, false, if◌then◌else◌, List, [], ◌∷◌, ◌++◌, length, find, Option, None, Some, refl, sym, ap, subst, ◌∙◌, arith}
use Rattle.std.specs.List.{AllPairs, Contains}
use Rattle.std.specs.Option.{option_map, option_map_or}
use Rattle.std.proofs.lemmas.Bool.{and_from, and_parts, eqb-true, false≢true}
use Rattle.history_event.specs.declared.event.Event.{Event}
use Rattle.history_event.specs.declared.event.Event.TheVariants as events
use Rattle.history_event.specs.declared.state.Block.{Block}
use Rattle.history_event.specs.declared.state.Module.{Module}
use Rattle.word_rule.specs.declared.entry.Entry.{Entry}
use Rattle.word_rule.specs.declared.view.HartView.{HartView}
use Rattle.word_rule.specs.declared.view.KeeperView.{KeeperView}
use Rattle.word_rule.specs.Layout.{harts_at_most}
use Rattle.word_rule.specs.Views.{is_block, known_of, last_block, later_block, row_of}
use Rattle.tls_blocks.specs.Blocks.{BlockTable}
use Rattle.tls_blocks.specs.Numbers.{module_at}
use Rattle.history_state.specs.After.{after}
use Rattle.history_state.specs.Laws.{ModulesAreTidy}
use Rattle.history_state.specs.Legal.{Lawful}
use Rattle.history_state.specs.Lemmas.History.{after_push, legal_is_lawful, one_behind}
use Rattle.history_state.specs.Lemmas.Lists.{first_or_later, found_in, here, later, none_in, not_found}
use Rattle.history_state.specs.Lemmas.Lookups.{find_behind}
use Rattle.history_state.specs.Lookup.{MayHaveBlock}
use Rattle.history_state.specs.Read.{BeginsUntouched}
use Rattle.history_state.specs.Setting.{Machine, Setting}
use Rattle.history_state.specs.State.{State}
use Rattle.history_state.specs.Step.{add_block}
use Rattle.history_state.specs.Storage.{late_block, module_of, tls_block, tp_of}
use Rattle.history_calls.specs.Gives.{HasBlock}
use Rattle.history_calls.specs.Laws.{hart_of}
use Rattle.hart_moves.specs.Trails.{Located, block_of}
use Rattle.hart_trails.specs.Entries.{again_entry, answered, block_entry, entry_behind}
use Rattle.hart_trails.specs.Entries as entries
use Rattle.hart_linker.specs.Between.{AreCurrent, BlocksFit}
use Rattle.kept_words.specs.Handed.{IsIssued}
use Rattle.kept_words.specs.Kept.{AreKept}
use Rattle.link_keeper.proofs.BlocksStay.{blocks_stay, lawful_front, lawful_next}

-- ---- a new block

late_is : (s : State) (h serial : ℕ) → tls_block s h serial ≡ None → (y : Module) → module_of s serial ≡ Some y → (y.offset ≡ None) × (late_block s h serial ≡ None)
unfolding tls_block
late_is s h serial none y is = by y.offset refl (sym (ap (λ (f : Option Module). elim f [ Some q ↦ option_map_or (λ (offset : ℕ). Some (tp_of s h + offset)) q.offset (late_block s h serial) | None ↦ None ]) is) ∙ none)
  where
    by : (o : Option ℕ) → y.offset ≡ o → option_map_or (λ (offset : ℕ). Some (tp_of s h + offset)) o (late_block s h serial) ≡ None → (y.offset ≡ None) × (late_block s h serial ≡ None)
    by None e late = (e, late)
    by (Some offset) e late = absurd (let d : Some (tp_of s h + offset) ≡ None = late in cc)

none_late : (h serial : ℕ) (blocks : List Block) (b : Block) → option_map (λ (q : Block). q.address) (find (λ (q : Block). q.hart == h && q.serial == serial) blocks) ≡ None → Contains blocks b
    → (b.hart == h && b.serial == serial) ≡ false
none_late h serial blocks b none inside = by (find (λ (q : Block). q.hart == h && q.serial == serial) blocks) refl none
  where
    by : (found : Option Block) → find (λ (q : Block). q.hart == h && q.serial == serial) blocks ≡ found → option_map (λ (q : Block). q.address) found ≡ None → (b.hart == h && b.serial == serial) ≡ false
    by None e n = not_found (λ (q : Block). q.hart == h && q.serial == serial) blocks b e inside
    by (Some q) e n = absurd (let d : Some q.address ≡ None = n in cc)

block_got : (s : State) (h serial block : ℕ) → tls_block s h serial ≡ None → (y : Module) → module_of s serial ≡ Some y → tls_block (add_block h serial block s) h serial ≡ Some block
unfolding tls_block
block_got s h serial block none y is =
    let late = late_is s h serial none y is in
    let b : Block = record { hart = h; serial = serial; address = block } in
    let own : (h == h && serial == serial) ≡ true = and_from (h == h) (serial == serial) (eq-eqb h h refl) (eq-eqb serial serial refl) in
    let found : find (λ (q : Block). q.hart == h && q.serial == serial) (s.blocks ++ b ∷ []) ≡ Some b =
    find_behind (λ (q : Block). q.hart == h && q.serial == serial) s.blocks (b ∷ []) (λ q inside. none_late h serial s.blocks q late.1 inside)
    ∙ ap (λ (t : Bool). if t then Some b else None) own in
    ap (λ (f : Option Module). elim f [
      | Some q ↦ option_map_or (λ (offset : ℕ). Some (tp_of (add_block h serial block s) h + offset)) q.offset (late_block (add_block h serial block s) h serial)
      | None ↦ None
    ]) is
    ∙ ap (λ (o : Option ℕ). option_map_or (λ (offset : ℕ). Some (tp_of (add_block h serial block s) h + offset)) o (late_block (add_block h serial block s) h serial)) late.0
    ∙ ap (option_map (λ (q : Block). q.address)) found

-- a module is found by its number
by_number : (ms : List Module) (m : Module) → AllPairs (λ m n. m.number < n.number) ms → Contains ms m → module_at ms m.number ≡ Some m
by_number [] m rising there = absurd (none_in m there)
by_number (y ∷ rest) m rising there = ⊎_elim
    (λ (same : y ≡ m).
    ap (λ (b : Bool). cond b (Some y) (module_at rest m.number)) (eq-eqb y.number m.number (ap (λ (x : Module). x.number) same)) ∙ ap (λ (x : Module). Some x) same)
    (λ (more : Contains rest m).
    let low : y.number < m.number = subst (λ (x : Module). y.number < x.number) more.2 (rising 0 (suc more.0) m (omega arith) (let inside : more.0 < length rest = more.1 in omega (arith, inside))) in
    ap (λ (b : Bool). cond b (Some y) (module_at rest m.number)) (ne_eqb y.number m.number (λ same. absurd (omega (arith, low, same))))
    ∙ by_number rest m (λ i j d before inside. rising (suc i) (suc j) d (omega (arith, before)) (omega (arith, inside))) more)
    (first_or_later y rest m there)

-- ---- entries

-- the entry of a new block, at the generation that it has
module _ (tidy : (m : Machine) (journal : List Event) → Lawful m journal → ModulesAreTidy (after journal)) (begins : (m : Machine) (journal : List Event) → Lawful m journal → BeginsUntouched (after journal))
    (w : Setting) (journal : List Event) (lawful : Lawful w.machine journal) (h generation number : ℕ) (now : generation ≡ (after journal).generation) where
  -- it stays
  on : (past rest : List Event) (block : ℕ) → journal ≡ past ++ rest → generation ≡ (after past).generation → HasBlock (after past) h number block → HasBlock (after journal) h number block
  on past rest block are same x =
      subst (λ (es : List Event). HasBlock (after es) h number block) (sym are)
      (blocks_stay begins w.machine past rest h number block (subst (Lawful w.machine) are lawful)
      (ap (λ (es : List Event). (after es).generation) (sym are) ∙ sym now ∙ same) x)

  -- the parts of an entry's test
  record Tells (e : Entry) (slotted : Bool) : Type 0 where
    slot : e.slot ≡ number
    generation_is : e.generation ≡ generation
    marked : slotted ≡ true

  tells : (e : Entry) (slotted : Bool) → ((e.slot == number) && (e.generation == generation) && slotted) ≡ true → Tells e slotted
  tells e slotted is =
      let one = and_parts ((e.slot == number) && (e.generation == generation)) slotted is in
      let two = and_parts (e.slot == number) (e.generation == generation) one.0 in
      record { slot = eqb-true e.slot number two.0; generation_is = eqb-true e.generation generation two.1; marked = one.1 }

  new_block : (past rest : List Event) (owner address : ℕ) → journal ≡ past ++ events.Tls h owner address ∷ rest
      → Tells (entry_behind past (events.Tls h owner address)) (if (entry_behind past (events.Tls h owner address)).slot == 0 then false else true) → HasBlock (after journal) h number address
  unfolding entries.module_of
  new_block past rest owner address are x = by (module_of (after past) owner) refl
    where
      step_in : List Event
      step_in = past ++ events.Tls h owner address ∷ []

      split : journal ≡ (past ++ events.Tls h owner address ∷ []) ++ rest
      split = are ∙ sym (one_behind past (events.Tls h owner address) rest)

      before : Lawful w.machine (past ++ events.Tls h owner address ∷ rest)
      before = subst (Lawful w.machine) are lawful

      may : MayHaveBlock (after past) h owner address
      may = (lawful_next w.machine past (events.Tls h owner address) rest before).2

      by : (found : Option Module) → module_of (after past) owner ≡ found → HasBlock (after journal) h number address
      by None none =
          let zero_slot : (entry_behind past (events.Tls h owner address)).slot ≡ 0 = ap (λ (o : Option Module). option_map_or (λ m. m.number) o 0) none in
          absurd (false≢true (sym (ap (λ (b : Bool). if b then false else true) (eq-eqb (entry_behind past (events.Tls h owner address)).slot 0 zero_slot)) ∙ x.marked))
      by (Some m) found =
          let its = found_in (λ (y : Module). y.serial == owner) (after past).modules m found in
          let serial : m.serial ≡ owner = eqb-true m.serial owner its.1 in
          let numbered : m.number ≡ number = sym (ap (λ (o : Option Module). option_map_or (λ y. y.number) o 0) found) ∙ x.slot in
          let pushed : after (past ++ events.Tls h owner address ∷ []) ≡ add_block h owner address (after past) = after_push past (events.Tls h owner address) in
          on (past ++ events.Tls h owner address ∷ []) rest address split (sym x.generation_is)
          (record {
            of = m;
            there = ap (λ (s : State). module_at s.modules number) pushed ∙ ap (module_at (after past).modules) (sym numbered)
                ∙ by_number (after past).modules m (tidy w.machine past (lawful_front w.machine past (events.Tls h owner address ∷ rest) before)).numbered.rising its.0;
            is = ap (λ (s : State). tls_block s h m.serial) pushed ∙ ap (λ (n : ℕ). tls_block (add_block h owner address (after past)) h n) serial
                ∙ block_got (after past) h owner address may.wants.none m found;
          })

  -- only that of a new block has a module
  of_event : (past rest : List Event) (event : Event) → journal ≡ past ++ event ∷ rest → hart_of event ≡ Some h
      → Tells (entry_behind past event) (if (entry_behind past event).slot == 0 then false else true) → HasBlock (after journal) h number (answered (after past) event)
  unfolding entries.module_of answered
  of_event past rest (events.Tls k owner address) are own x =
      let same : k ≡ h = (let both : Some k ≡ Some h = own in cc) in
      new_block past rest owner address (are ∙ ap (λ (n : ℕ). past ++ events.Tls n owner address ∷ rest) same)
      (subst (λ (n : ℕ). Tells (entry_behind past (events.Tls n owner address)) (if (entry_behind past (events.Tls n owner address)).slot == 0 then false else true)) same x)
  of_event past rest _ are own x = absurd (false≢true x.marked)

  -- a block that was there
  block_had : (s : State) (l : Located) → block_of s h l.number ≡ Some l → HasBlock s h l.number l.block
  block_had s l is = by (module_at s.modules l.number) refl
    where
      of_module : Option Module → Option Located
      of_module found = elim found [
        | Some m ↦ elim (tls_block s h m.serial) [ Some block ↦ Some (record { number = l.number; block = block }) | None ↦ None ]
        | None ↦ None
      ]

      by : (found : Option Module) → module_at s.modules l.number ≡ found → HasBlock s h l.number l.block
      by None none = absurd (let no : None ≡ Some l = ap of_module (sym none) ∙ is in cc)
      by (Some m) found = go (tls_block s h m.serial) refl (ap of_module (sym found) ∙ is)
        where
          go : (b : Option ℕ) → tls_block s h m.serial ≡ b → of_module (Some m) ≡ Some l → HasBlock s h l.number l.block
          go None none at = absurd (let no : None ≡ Some l = sym (ap (λ (o : Option ℕ). elim o [ Some block ↦ Some (record { number = l.number; block = block }) | None ↦ None ]) none) ∙ at in cc)
          go (Some block) some at =
              let same : Some (record { number = l.number; block = block }) ≡ Some l =
              sym (ap (λ (o : Option ℕ). elim o [ Some b ↦ Some (record { number = l.number; block = b }) | None ↦ None ]) some) ∙ at in
              let one : record { number = l.number; block = block } ≡ l = cc in
              record { of = m; there = found; is = some ∙ ap (λ (x : Located). Some x.block) one }

  -- an answer of now is the hart's block
  pub entry_block : (e : Entry) → IsIssued w journal h e → is_block generation number e ≡ true → HasBlock (after journal) h number e.value
  entry_block e (IsIssued.of_event past rest event are own none is) block =
      subst (λ (x : Entry). HasBlock (after journal) h number x.value) (sym is)
      (of_event past rest event are own
      (tells (entry_behind past event) (if (entry_behind past event).slot == 0 then false else true) (subst (λ (x : Entry). is_block generation number x ≡ true) is block)))
  entry_block e (IsIssued.of_grant past rest n owner slot value choice are x) block =
      absurd (false≢true (tells e false (ap (λ (m : ℕ). (e.slot == number) && (e.generation == generation) && (if m == 2 then true else (if m == 1 then (if e.slot == 0 then false else true) else false))) (sym x.mark) ∙ block)).marked)
  entry_block e (IsIssued.of_block past rest l are located is) block =
      let at = tells (block_entry past l) true (subst (λ (x : Entry). is_block generation number x ≡ true) is block) in
      subst (λ (x : Entry). HasBlock (after journal) h number x.value) (sym is)
      (on past rest l.block are (sym at.generation_is) (subst (λ (n : ℕ). HasBlock (after past) h n l.block) at.slot (block_had (after past) l located)))
  entry_block e (IsIssued.of_again past rest call for are shows is) block =
      absurd (false≢true (tells (again_entry past for) false (subst (λ (x : Entry). is_block generation number x ≡ true) is block)).marked)
  entry_block e (IsIssued.of_wait past rest for are shows is) block =
      absurd (false≢true (tells (again_entry past for) false (subst (λ (x : Entry). is_block generation number x ≡ true) is block)).marked)

-- the last answer is an entry
last_in : (generation number value : ℕ) (es : List Entry) → last_block generation number es ≡ Some value → (e : Entry) × Contains es e × (is_block generation number e ≡ true) × (e.value ≡ value)
last_in generation number value [] is = absurd (let no : None ≡ Some value = is in cc)
last_in generation number value (e ∷ es) is = by (last_block generation number es) refl (last_in generation number value es)
  where
    by : (o : Option ℕ) → last_block generation number es ≡ o
        → (last_block generation number es ≡ Some value → (x : Entry) × Contains es x × (is_block generation number x ≡ true) × (x.value ≡ value))
        → (x : Entry) × Contains (e ∷ es) x × (is_block generation number x ≡ true) × (x.value ≡ value)
    by (Some b) found again =
        let same : Some b ≡ Some value = sym (ap (λ (o : Option ℕ). later_block o (is_block generation number e) e.value) found) ∙ is in
        let x = again (found ∙ same) in
        (x.0, later e es x.0 x.1, x.2, x.3)
    by None none again = here_is (is_block generation number e) refl
      where
        here_is : (b : Bool) → is_block generation number e ≡ b → (x : Entry) × Contains (e ∷ es) x × (is_block generation number x ≡ true) × (x.value ≡ value)
        here_is true found =
            let same : Some e.value ≡ Some value =
            sym (ap (λ (o : Option ℕ). later_block o (is_block generation number e) e.value) none ∙ ap (λ (b : Bool). later_block None b e.value) found) ∙ is in
            (e, here e es, found, (let one : e.value ≡ value = cc in one))
        here_is false not_here =
            absurd (let no : None ≡ Some value =
            sym (ap (λ (o : Option ℕ). later_block o (is_block generation number e) e.value) none ∙ ap (λ (b : Bool). later_block None b e.value) not_here) ∙ is in cc)

-- ---- what a hart keeps

-- at the generation of all that it has heard, whoever called
pub current_of : ((m : Machine) (journal : List Event) → Lawful m journal → ModulesAreTidy (after journal)) → ((m : Machine) (journal : List Event) → Lawful m journal → BeginsUntouched (after journal))
    → (w : Setting) (begun : List Event) (k : KeeperView) (h : HartView) (d : BlockTable) → AreKept w begun k → h.number < harts_at_most → known_of h.lane ≡ (row_of k h.number).issued → h.heard ≡ k.events
    → BlocksFit d h → d.generation ≡ (after k.events).generation → AreCurrent d h
current_of tidy begins w begun k h d kept low issued heard fit now = record {
  current = inl (now ∙ ap (λ (es : List Event). (after es).generation) (sym heard));
  are = λ number block at.
      let x = last_in d.generation number block (known_of h.lane) (sym (fit.same number) ∙ at) in
      let entry : IsIssued w k.events h.number x.0 = kept.issued h.number x.0 low (subst (λ (es : List Entry). Contains es x.0) issued x.1) in
      subst (λ (es : List Event). HasBlock (after es) h.number number block) (sym heard)
      (subst (λ (n : ℕ). HasBlock (after k.events) h.number number n) x.3
      (entry_block tidy begins w k.events (legal_is_lawful w k.events kept.legal) h.number d.generation number now x.0 entry x.2));
}
