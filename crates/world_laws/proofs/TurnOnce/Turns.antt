-- A turn of a hart from a world is one, failed reads and want of memory apart.
use Rattle.std.proofs.Common.{◌≡◌, inl, inr, ℕ, ◌+◌, ◌*◌, Bool, true, cond, List, [], ◌∷◌, ◌++◌, length, Some, Result, refl, sym, ap, subst, ◌∙◌}
use Rattle.std.specs.Prelude.{slice_set}
use Rattle.std.specs.List.{slice_get}
use Rattle.std.proofs.lemmas.Bool.{true≢false}
use Rattle.ld_base.specs.declared.linking.File.{File}
use Rattle.history_event.specs.declared.event.Event.{Event}
use Rattle.history_state.specs.After.{after}
use Rattle.history_state.specs.Legal.{Lawful, Legal}
use Rattle.history_state.specs.Setting.{Setting}
use Rattle.history_state.specs.State.{State}
use Rattle.history_state.specs.Lemmas.History.{legal_is_lawful}
use Rattle.history_calls.specs.Call.{Call}
use Rattle.history_calls.specs.Lemmas.Unique.{both_found}
use Rattle.rv_hart.specs.Doublewords.{DoesIn}
use Rattle.rv_hart.specs.Trail.{Chain, Place}
use Rattle.rv_hart.specs.declared.bus.BusFault.{BusFault}
use Rattle.rv_hart.specs.declared.bus.Item.{Item}
use Rattle.rv_hart.specs.declared.bus.Item.TheVariants.{Write}
use Rattle.rv_hart.specs.declared.doubleword.Doubleword.{Doubleword}
use Rattle.hart_moves.specs.Copying.{Copy, doubleword_at, first_left}
use Rattle.hart_moves.specs.Due.{Due, Return, due}
use Rattle.hart_moves.specs.Harts.{HartState, Offered}
use Rattle.hart_moves.specs.Laws.{OneHart}
use Rattle.hart_moves.specs.Moves.{Calls, Copies, Did, EndsObject, Instructs, Moves, MovesAs, StoresText, copied_item, events_of, settles}
use Rattle.world_laws.specs.StepOnce.Laws.{OneChain, OneRead, OneStep, OneWrite}
use Rattle.world_turns.specs.Laws.{TurnsAreSound}
use Rattle.world_turns.specs.Memory.{Does, RemakesAll, doubleword, lowest, word_count}
use Rattle.world_turns.specs.Next.{OneDue}
use Rattle.world_turns.specs.Sound.{Sound}
use Rattle.world_turns.specs.Turn.{Turn}
use Rattle.world_turns.specs.World.{World, found_harts, found_journal, settling}
use Rattle.world_turns.specs.Lemmas.Events.{legal_front}
use Rattle.world_turns.specs.Lemmas.Words.{keeps_chain}
use Rattle.world_turns.specs.WorldEnds.Lemmas.Settled.{found_keeps}
use Rattle.world_laws.specs.TurnOnce.Laws.{NothingFails, OneTurn}
use Rattle.world_laws.proofs.TurnOnce.Calls.{AnswerLaws, calls_same, takes_settles}
use Rattle.world_laws.proofs.TurnOnce.Did.{calls_of, copy_calls, copy_is, did_copy, did_place, did_store, place_calls, place_is, store_calls, store_is}
use Rattle.world_laws.proofs.TurnOnce.Finals.{Alike, core_of, finalises_alike}
use Rattle.world_laws.specs.TurnOnce.Lemmas.Memory.{all_remade}

pub record TurnLaws : Type 0 where
  pub chain : OneChain
  pub read : OneRead
  pub write : OneWrite
  pub step : OneStep
  pub hart : OneHart
  pub answers : AnswerLaws
  pub due : OneDue
  pub sound : TurnsAreSound

-- ---- the calls of the bus

pub record Called (words : List Doubleword) (did : Did) : Type 0 where
  pub left : List Doubleword
  pub chain : Chain (DoesIn lowest) words (calls_of did) left

called : (past : List Event) (did : Did) (old new : List Doubleword) → Does past old did new → Called old did
called past (Did.quiet items) old new x = record { left = new; chain = x }
called past (Did.serves items appended) old new (between, chain, remakes) = record { left = between; chain = chain }
called past (Did.waits for) old new x = record { left = old; chain = refl }
called past (Did.exchanges o found) old new x = record { left = old; chain = refl }
called past Did.finishes old new x = record { left = old; chain = refl }

one_item : (words : List Doubleword) (did : Did) (item : Item) → calls_of did ≡ item ∷ [] → Called words did → (left : List Doubleword) × DoesIn lowest words item left
one_item words did item is x =
    let chain : Chain (DoesIn lowest) words (item ∷ []) x.left = subst (λ (is : List Item). Chain (DoesIn lowest) words is x.left) is x.chain in
    (chain.0, chain.1)

-- ---- what was done

-- the word that an exchange found
abbrev Finds : List Doubleword → Did → Type 0
Finds words (Did.quiet items) = Unit {0}
Finds words (Did.serves items appended) = Unit {0}
Finds words (Did.waits for) = Unit {0}
Finds words (Did.exchanges o found) = found ≡ (doubleword words o.slot).value
Finds words Did.finishes = Unit {0}

finds : (past : List Event) (did : Did) (old new : List Doubleword) → Does past old did new → Finds old did
finds past (Did.quiet items) old new x = tt
finds past (Did.serves items appended) old new x = tt
finds past (Did.waits for) old new x = tt
finds past (Did.exchanges o found) old new x = x.0
finds past Did.finishes old new x = tt

module _ (laws : TurnLaws) (w : Setting) (files : List File) (told : w.files ≡ Some files) (h : ℕ) (old : World) (b : HartState) (did also : Did) (c d : HartState)
    (one : Called old.words did) (two : Called old.words also) (found : Finds old.words did) (saw : Finds old.words also) (none : NothingFails (events_of did)) (nor : NothingFails (events_of also))
    (lawful : Lawful w.machine (found_journal old did)) where
  exchange_same : (o : Offered) (f g : ℕ) → did ≡ Did.exchanges o f → also ≡ Did.exchanges o g → did ≡ also
  exchange_same o f g x y =
      let a : f ≡ (doubleword old.words o.slot).value = subst (Finds old.words) x found in
      let e : g ≡ (doubleword old.words o.slot).value = subst (Finds old.words) y saw in
      x ∙ ap (λ (n : ℕ). Did.exchanges o n) (a ∙ sym e) ∙ sym y

  instruct_same : Instructs w (found_journal old did) h b did c → Instructs w (found_journal old also) h b also d → did ≡ also
  instruct_same x y =
      let did_is : did ≡ did_place h b x.items x.place = place_is w (found_journal old did) h b x.items x.place did c x.comes in
      let also_is : also ≡ did_place h b y.items y.place = place_is w (found_journal old also) h b y.items y.place also d y.comes in
      let same = laws.step lowest b.registers old.words one.left two.left x.items y.items x.place y.place x.step y.step
      (subst (λ (is : List Item). Chain (DoesIn lowest) old.words is one.left) (ap calls_of did_is ∙ place_calls h b x.items x.place) one.chain)
      (subst (λ (is : List Item). Chain (DoesIn lowest) old.words is two.left) (ap calls_of also_is ∙ place_calls h b y.items y.place) two.chain) in
      did_is ∙ ap (λ (is : List Item). did_place h b is x.place) same.calls ∙ ap (λ (p : Place). did_place h b y.items p) same.place ∙ sym also_is

  copy_same : (copy : Copy) (start : ℕ) (bytes : List ℕ) → Copies w (found_journal old did) h b copy start bytes did c → Copies w (found_journal old also) h b copy start bytes also d → did ≡ also
  copy_same copy start bytes x y =
      let item : Result ℕ BusFault → Item = copied_item start bytes in
      let did_is : did ≡ did_copy h b (copied_item start bytes x.answer ∷ []) copy start bytes x.answer = copy_is w (found_journal old did) h b (copied_item start bytes x.answer ∷ []) copy start bytes x.answer did c x.comes in
      let also_is : also ≡ did_copy h b (copied_item start bytes y.answer ∷ []) copy start bytes y.answer = copy_is w (found_journal old also) h b (copied_item start bytes y.answer ∷ []) copy start bytes y.answer also d y.comes in
      let a = one_item old.words did (copied_item start bytes x.answer) (ap calls_of did_is ∙ copy_calls h b (copied_item start bytes x.answer ∷ []) copy start bytes x.answer) one in
      let e = one_item old.words also (copied_item start bytes y.answer) (ap calls_of also_is ∙ copy_calls h b (copied_item start bytes y.answer ∷ []) copy start bytes y.answer) two in
      let same : x.answer ≡ y.answer = laws.read lowest old.words a.0 e.0 (doubleword_at (first_left start bytes)) 8 x.answer y.answer a.1 e.1 in
      did_is ∙ ap (λ (r : Result ℕ BusFault). did_copy h b (copied_item start bytes r ∷ []) copy start bytes r) same ∙ sym also_is

  store_same : (text stored word : ℕ) (more : List ℕ) → StoresText w (found_journal old did) h b text stored word more did c → StoresText w (found_journal old also) h b text stored word more also d → did ≡ also
  store_same text stored word more x y =
      let did_is : did ≡ did_store h b (Write (text + 8 * stored) 8 word x.answer ∷ []) text stored x.answer = store_is w (found_journal old did) h b (Write (text + 8 * stored) 8 word x.answer ∷ []) text stored more x.answer did c x.comes in
      let also_is : also ≡ did_store h b (Write (text + 8 * stored) 8 word y.answer ∷ []) text stored y.answer = store_is w (found_journal old also) h b (Write (text + 8 * stored) 8 word y.answer ∷ []) text stored more y.answer also d y.comes in
      let a = one_item old.words did (Write (text + 8 * stored) 8 word x.answer) (ap calls_of did_is ∙ store_calls h b (Write (text + 8 * stored) 8 word x.answer ∷ []) text stored x.answer) one in
      let e = one_item old.words also (Write (text + 8 * stored) 8 word y.answer) (ap calls_of also_is ∙ store_calls h b (Write (text + 8 * stored) 8 word y.answer ∷ []) text stored y.answer) two in
      let same : x.answer ≡ y.answer = laws.write lowest old.words a.0 e.0 (text + 8 * stored) 8 word x.answer y.answer a.1 e.1 in
      did_is ∙ ap (λ (r : Result Unit BusFault). did_store h b (Write (text + 8 * stored) 8 word r ∷ []) text stored r) same ∙ sym also_is

  settled_past : (x : Did) → settles x ≡ true → found_journal old x ≡ old.journal ++ settling old.harts
  settled_past x is = ap (λ (t : Bool). old.journal ++ cond t (settling old.harts) []) is

  serve_same : (call : Call) (to : Return) → Calls w (found_journal old did) h b call to did c → Calls w (found_journal old also) h b call to also d → did ≡ also
  serve_same call to x y =
      let past : found_journal old also ≡ found_journal old did =
      settled_past also (takes_settles w (found_journal old also) h b call to y.answer y.appended also d y.takes) ∙ sym (settled_past did (takes_settles w (found_journal old did) h b call to x.answer x.appended did c x.takes)) in
      calls_same laws.answers w files (found_journal old did) h b call to did also c d told lawful x (subst (λ (es : List Event). Calls w es h b call to also d) past y) none nor

  alike : Alike (found_journal old did) (found_journal old also)
  alike = found_keeps State core_of (λ s number standing. refl) old did ∙ sym (found_keeps State core_of (λ s number standing. refl) old also)

  -- the end of an object's destructors: nothing is told, or what is settled comes before it
  finals_same : (code object : ℕ) → EndsObject w (found_journal old did) h b code object did c → EndsObject w (found_journal old also) h b code object also d → did ≡ also
  finals_same code object (inl x) (inl y) = finalises_alike w (found_journal old did) (found_journal old also) h b code object did also c d alike x y
  finals_same code object (inr x) y = absurd (true≢false (subst NothingFails (ap events_of x.is) none))
  finals_same code object (inl x) (inr y) = absurd (true≢false (subst NothingFails (ap events_of y.is) nor))

  did_same : (due_is : Due) → MovesAs w (found_journal old did) h b due_is did c → MovesAs w (found_journal old also) h b due_is also d → did ≡ also
  did_same Due.nothing x y = absurd x
  did_same (Due.exchange o) x y = exchange_same o x.found y.found x.is y.is
  did_same (Due.finish o f) x y = x.is ∙ sym y.is
  did_same Due.fuel_out x y = x.is ∙ sym y.is
  did_same Due.instruction x y = instruct_same x y
  did_same (Due.copy copy start bytes) x y = copy_same copy start bytes x y
  did_same (Due.serve call to) x y = serve_same call to x y
  did_same (Due.wait for) x y = x.is ∙ sym y.is
  did_same (Due.store text stored word more) x y = store_same text stored word more x y
  did_same (Due.enter function frames) x y = x.is ∙ sym y.is
  did_same (Due.complete purpose object rest below) x y = x.passes.is ∙ sym y.passes.is
  did_same (Due.finalise code object) x y = finals_same code object x y

-- ---- the words

module _ (laws : TurnLaws) (past : List Event) (old : List Doubleword) (all : length old ≡ word_count) where
  -- calls of the bus leave as many
  as_many : (items : List Item) (left : List Doubleword) → Chain (DoesIn lowest) old items left → length left ≡ word_count
  as_many items left chain = (keeps_chain (after past) [] items old left chain).leaves.all ∙ all

  does_same : (did : Did) (one other : List Doubleword) → Does past old did one → Does past old did other → one ≡ other
  does_same (Did.quiet items) one other x y = laws.chain lowest old one other items x y
  does_same (Did.serves items appended) one other (between, chain, remakes) (middle, calls, others) =
      let same : middle ≡ between = laws.chain lowest old middle between items calls chain in
      all_remade (after past) appended between one other (as_many items between chain) remakes (subst (λ (ws : List Doubleword). RemakesAll (after past) appended ws other) same others)
  does_same (Did.waits for) one other x y = x ∙ sym y
  does_same (Did.exchanges o found) one other x y = x.1 ∙ sym y.1
  does_same Did.finishes one other x y = x ∙ sym y

-- ---- a turn

module _ (laws : TurnLaws) (w : Setting) (files : List File) (told : w.files ≡ Some files) (h : ℕ) (old new other : World) (sound : Sound w old) (legal : Legal w new.journal) (one : Turn w h old new) (two : Turn w h old other)
    (none : NothingFails (events_of one.did)) (nor : NothingFails (events_of two.did)) where
  hart_same : one.before ≡ two.before
  hart_same = both_found (slice_get old.harts h) one.before two.before one.there two.there

  -- the second turn, by the first one's hart and by what was due to it
  moves_again : MovesAs w (found_journal old two.did) h one.before (due (after (found_journal old one.did)) one.before) two.did two.left
  moves_again =
      subst (λ (d : Due). MovesAs w (found_journal old two.did) h one.before d two.did two.left) (sym (laws.due w h old new other one two))
      (subst (λ (b : HartState). MovesAs w (found_journal old two.did) h b (due (after (found_journal old two.did)) two.before) two.did two.left) (sym hart_same) two.moves)

  did_is : one.did ≡ two.did
  did_is = did_same laws w files told h old one.before one.did two.did one.left two.left
      (called (found_journal old one.did) one.did old.words new.words one.does) (called (found_journal old two.did) two.did old.words other.words two.does)
      (finds (found_journal old one.did) one.did old.words new.words one.does) (finds (found_journal old two.did) two.did old.words other.words two.does)
      none nor
      (legal_is_lawful w (found_journal old one.did) (legal_front w (found_journal old one.did) (events_of one.did) (subst (Legal w) one.journal legal)))
      (due (after (found_journal old one.did)) one.before) one.moves moves_again

  left_is : one.left ≡ two.left
  left_is = laws.hart w (found_journal old one.did) h one.before one.left two.left one.did one.moves
      (subst (λ (x : Did). Moves w (found_journal old x) h one.before x two.left) (sym did_is)
      (subst (λ (b : HartState). Moves w (found_journal old two.did) h b two.did two.left) (sym hart_same) two.moves))

  words_are : new.words ≡ other.words
  words_are = does_same laws (found_journal old one.did) old.words sound.words one.did new.words other.words one.does
      (subst (λ (x : Did). Does (found_journal old x) old.words x other.words) (sym did_is) two.does)

  journal_is : new.journal ≡ other.journal
  journal_is = one.journal ∙ ap (λ (x : Did). found_journal old x ++ events_of x) did_is ∙ sym two.journal

  harts_are : new.harts ≡ other.harts
  harts_are = one.harts ∙ ap (λ (x : Did). slice_set (found_harts old x) h one.left) did_is ∙ ap (λ (b : HartState). slice_set (found_harts old two.did) h b) left_is ∙ sym two.harts

  pub worlds_are : new ≡ other
  worlds_are =
      ap (λ (es : List Event). record { journal = es; words = new.words; harts = new.harts }) journal_is
      ∙ ap (λ (ws : List Doubleword). record { journal = other.journal; words = ws; harts = new.harts }) words_are
      ∙ ap (λ (bs : List HartState). record { journal = other.journal; words = other.words; harts = bs }) harts_are

pub one_turn : TurnLaws → OneTurn
one_turn laws w files h old new other one two told only sound none nor =
    worlds_are laws w files told h old new other sound (laws.sound w h old new only sound one).legal one two none nor
