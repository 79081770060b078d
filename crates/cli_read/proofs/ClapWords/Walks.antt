-- The walk over the words of pieces takes them, and makes their rows.
use Rattle.std.proofs.Common.{◌≡◌, ℕ, suc, ◌&&◌, ◌||◌, ◌+◌, nat_lt, Bool, true, false, not, cond, List, [], ◌∷◌, ◌++◌, min, length, fold, Option, Some, None, is_some, codes, refl, sym, ap, ap₂, subst, ◌∙◌, arith}
use Rattle.std.specs.Bool.{⊤}
use Rattle.std.specs.Option.{option_map_or}
use Rattle.std.specs.Str.{bytes_eq}
use Rattle.std.proofs.lemmas.Bool.{true≢false}
use Rattle.std.proofs.lemmas.List.{append-nil}
use Rattle.clap.specs.Lexer.{long_of, usize_max}
use Rattle.clap.specs.Simple.{Shape}
use Rattle.clap.specs.Takes.{bundle_passes, flag_word_passes, long_passes, option_passes, other_passes, positional_passes, react_passes, settle_passes, step_passes, turn_passes, use_passes, walk_passes}
use Rattle.clap.specs.Walk.{Held, Outcome, Row, Rule, Step, Text, Waiting, Walk, after_flag, after_step, arg_by_id, arg_by_index, arg_by_long, flag_met, has_row, idle, is_pending, long_met, long_or_other, most_values, next, option, option_met, option_word, pending_count, plain_word, pushed, reacted, settled, settled_rows, short_or_plain, takes_values, to_positional, trailing, used, used_by_id, value, walked, word_met}
use Rattle.cli_words.specs.declared.switch.Switch.{Switch}
use Rattle.cli_words.specs.declared.switch.Switch.TheVariants as switches
use Rattle.cli_words.specs.Options.{Piece, Says, front_of, has_value, name_of, option_in, value_of, words_of}
use Rattle.cli_read.specs.ClapWords.Forms.{id_of}
use Rattle.cli_read.proofs.ClapWords.Front.{IsPlain, dashes, is_joined_word, joined, long_is, long_joined, named, no_dash, no_end_is, no_end_joined, no_option}
use Rattle.cli_read.proofs.ClapWords.Rows.{AreApart, AreFresh, AreOnce, IsPieceOf, built_option, built_word, flag_passes, flag_used, fresh_after, fresh_names, fresh_option, once_more, once_word, row, rows, value_passes, value_used, word_passes, word_used}

and_false : (b : Bool) → (b && false) ≡ false
and_false true = refl
and_false false = refl

or_false : (b : Bool) → (b || false) ≡ b
or_false true = refl
or_false false = refl

in_turn : (xs : List Row) (y : Row) (ys : List Row) → (xs ++ y ∷ []) ++ ys ≡ xs ++ y ∷ ys
in_turn [] y ys = refl
in_turn (x ∷ xs) y ys = ap (λ (l : List Row). x ∷ l) (in_turn xs y ys)

-- ---- what is asked of the arguments

-- an option that is known is found by its name
abbrev pub FindsOptions : List Rule → List Switch → Type 0
FindsOptions c known = (x : Switch) → option_in known (name_of x) ≡ Some x → (arg_by_long c (id_of x) ≡ Some (built_option x)) × (arg_by_id c (id_of x) ≡ Some (built_option x))

-- behind k others the words have these names
abbrev pub FindsWords : List Rule → ℕ → List Text → Type 0
FindsWords c k [] = ⊤
FindsWords c k (name ∷ names) =
    (arg_by_index c (suc k) ≡ Some (built_word (suc k) name)) × (arg_by_id c name ≡ Some (built_word (suc k) name)) × (min (suc k + 1) usize_max ≡ suc (suc k))
    × FindsWords c (suc k) names

-- between two words, with no option that waits for its value
abbrev pub walk_at : Held → ℕ → Bool → Walk
walk_at h k ended = record { held = h; waiting = idle; position = suc k; is_trailing = ended; stopped = None }

module _ (s : Shape) (known : List Switch) (finds : FindsOptions s.rules known) where
  -- what is held comes to these rows
  pub record Comes (h : Held) (rs : List Row) : Type 0 where
    pub settled : settled_rows s.rules h.pending h.rows ≡ rs
    pub passes : settle_passes s.rules s.args_override_self h ≡ true

  pub record Ends (w : Walk) (rs : List Row) : Type 0 where
    pub stopped : w.stopped ≡ None
    pub comes : Comes w.held rs

  abbrev pub Goes : Walk → List Text → List Row → Type 0
  Goes w words rs = Ends (fold (walked s.rules []) w words) rs × (walk_passes s [] w words ≡ true)

  goes : (w on : Walk) (word : Text) (rest : List Text) (rs : List Row) → turn_passes s [] w word ≡ true → walked s.rules [] w word ≡ on → Goes on rest rs
      → Goes w (word ∷ rest) rs
  unfolding walk_passes
  goes w on word rest rs turn step g =
      let h : Goes (walked s.rules [] w word) rest rs = subst (λ (x : Walk). Goes x rest rs) (sym step) g in
      (h.0, ap₂ (λ (a b : Bool). a && b) turn h.1)

  -- ---- another word

  abbrev at_word : Held → Text → Text → Held
  at_word h name word = record { rows = settled_rows s.rules h.pending h.rows; pending = Some (name, word ∷ []); skip = h.skip }

  word_comes : (h : Held) (k : ℕ) (name word : Text) (names : List Text) (rs : List Row) → FindsWords s.rules k (name ∷ names) → Comes h rs → has_row name rs ≡ false
      → Comes (at_word h name word) (rs ++ row name word ∷ [])
  word_comes h k name word names rs at comes none = record {
    settled =
        ap (λ (o : Option Rule). used_by_id o (word ∷ []) (settled_rows s.rules h.pending h.rows)) at.1
        ∙ ap (λ (r : List Row). used (built_word (suc k) name) (word ∷ []) r) comes.settled ∙ word_used (suc k) name word rs none;
    passes =
        ap (λ (o : Option Rule). option_map_or (λ (a : Rule). use_passes s.args_override_self a (word ∷ []) (settled_rows s.rules h.pending h.rows)) o true) at.1
        ∙ ap (λ (r : List Row). use_passes s.args_override_self (built_word (suc k) name) (word ∷ []) r) comes.settled ∙ word_passes (suc k) name word s.args_override_self rs none;
  }

  abbrev walk_made : Text → Text → Held → ℕ → Bool → Walk
  walk_made name word x n t = record { held = pushed name word x; waiting = idle; position = n; is_trailing = t; stopped = None }

  to_word : (h : Held) (k : ℕ) (ended : Bool) (name word : Text) (names : List Text) → FindsWords s.rules k (name ∷ names)
      → to_positional s.rules (arg_by_index s.rules (suc k)) word (walk_at h k ended) h ≡ walk_at (at_word h name word) (suc k) ended
  to_word h k ended name word names at =
      ap (λ (o : Option Rule). to_positional s.rules o word (walk_at h k ended) h) at.0
      ∙ ap (λ (b : Bool). walk_made name word (cond b h (settled s.rules h)) (min (suc k + 1) usize_max) (ended || false)) (and_false (is_pending (built_word (suc k) name) h.pending))
      ∙ ap (λ (n : ℕ). walk_made name word (settled s.rules h) n (ended || false)) at.2
      ∙ ap (λ (t : Bool). walk_made name word (settled s.rules h) (suc (suc k)) t) (or_false ended)

  word_step : (h : Held) (k : ℕ) (name : Text) (names : List Text) (rs : List Row) → FindsWords s.rules k (name ∷ names) → Comes h rs → step_passes s (suc k) h value ≡ true
  word_step h k name names rs at comes =
      ap (λ (o : Option Rule). option_map_or (λ (a : Rule). positional_passes s.rules s.args_override_self a h) o false) at.0
      ∙ ap (λ (b : Bool). b || settle_passes s.rules s.args_override_self h) (and_false (is_pending (built_word (suc k) name) h.pending)) ∙ comes.passes

  plain_met : (h : Held) (k : ℕ) (waiting : Waiting) (word : Text) → IsPlain word → long_or_other s.rules waiting word (long_of word) h ≡ plain_word s.rules waiting word h
  plain_met h k waiting word plain =
      ap (λ (l : Option (Text × Option Text)). long_or_other s.rules waiting word l h) plain.no_long ∙ ap (λ (l : Option Text). short_or_plain s.rules waiting word l h) plain.no_short

  word_met_is : (h : Held) (k : ℕ) (word : Text) → IsPlain word → word_met s.rules [] false idle (suc k) word h ≡ (h, value)
  word_met_is h k word plain =
      ap (λ (t : Bool). cond t (h, trailing (suc k)) (long_or_other s.rules idle word (long_of word) h)) plain.no_end ∙ plain_met h k idle word plain

  plain_passes : (h : Held) (word : Text) → IsPlain word → other_passes s None word h ≡ true
  plain_passes h word plain =
      ap (λ (t : Bool). t || flag_word_passes s.rules s.args_override_self (long_of word) word h) plain.no_end
      ∙ ap (λ (l : Option (Text × Option Text)). flag_word_passes s.rules s.args_override_self l word h) plain.no_long
      ∙ ap (λ (l : Option Text). option_map_or (λ (flags : Text). bundle_passes s.rules s.args_override_self flags h) l true) plain.no_short

  word_turn : (h : Held) (k : ℕ) (name word : Text) (names : List Text) (rs : List Row) → FindsWords s.rules k (name ∷ names) → Comes h rs → IsPlain word
      → turn_passes s [] (walk_at h k false) word ≡ true
  word_turn h k name word names rs at comes plain =
      ap₂ (λ (a b : Bool). a && b) (plain_passes h word plain)
      (ap (λ (m : Held × Step). step_passes s (suc k) m.0 m.1) (word_met_is h k word plain) ∙ word_step h k name names rs at comes)

  word_goes : (h : Held) (k : ℕ) (name word : Text) (names : List Text) → FindsWords s.rules k (name ∷ names) → IsPlain word
      → walked s.rules [] (walk_at h k false) word ≡ walk_at (at_word h name word) (suc k) false
  unfolding walked
  word_goes h k name word names at plain =
      ap (λ (m : Held × Step). after_step s.rules word (walk_at h k false) m.0 m.1) (word_met_is h k word plain) ∙ to_word h k false name word names at

  behind_turn : (h : Held) (k : ℕ) (name word : Text) (names : List Text) (rs : List Row) → FindsWords s.rules k (name ∷ names) → Comes h rs
      → turn_passes s [] (walk_at h k true) word ≡ true
  behind_turn h k name word names rs at comes = word_step h k name names rs at comes

  behind_goes : (h : Held) (k : ℕ) (name word : Text) (names : List Text) → FindsWords s.rules k (name ∷ names)
      → walked s.rules [] (walk_at h k true) word ≡ walk_at (at_word h name word) (suc k) true
  unfolding walked
  behind_goes h k name word names at = to_word h k true name word names at

  -- ---- an option by its long name

  takes_is : (c : Switch) → takes_values (built_option c) ≡ has_value c
  takes_is switches.Lib = refl
  takes_is switches.Preload = refl
  takes_is switches.Harts = refl
  takes_is switches.Fuel = refl
  takes_is switches.Now = refl
  takes_is switches.Trace = refl

  id_is : (c : Switch) → (built_option c).id ≡ id_of c
  id_is c = refl

  -- what a long name does
  abbrev does : Switch → Bool → Option Text → Held → Held × Outcome
  does c takes v h = cond takes (option_met s.rules (built_option c) v h) (flag_met s.rules (built_option c) v h)

  long_does : (h : Held) (k : ℕ) (c : Switch) (word : Text) (v : Option Text) → arg_by_long s.rules (id_of c) ≡ Some (built_option c) → bytes_eq word dashes ≡ false
      → long_of word ≡ Some (id_of c, v)
      → word_met s.rules [] false idle (suc k) word h ≡ after_flag s.rules idle word (does c (has_value c) v h).0 (does c (has_value c) v h).1
  long_does h k c word v found no_end long =
      ap (λ (t : Bool). cond t (h, trailing (suc k)) (long_or_other s.rules idle word (long_of word) h)) no_end
      ∙ ap (λ (l : Option (Text × Option Text)). long_or_other s.rules idle word l h) long
      ∙ ap (λ (o : Option Rule). after_flag s.rules idle word (long_met s.rules o v h).0 (long_met s.rules o v h).1) found
      ∙ ap (λ (t : Bool). after_flag s.rules idle word (does c t v h).0 (does c t v h).1) (takes_is c)

  long_asks : (h : Held) (c : Switch) (word : Text) (v : Option Text) → arg_by_long s.rules (id_of c) ≡ Some (built_option c) → bytes_eq word dashes ≡ false
      → long_of word ≡ Some (id_of c, v)
      → other_passes s None word h ≡ cond (has_value c) (option_passes s.rules s.args_override_self (built_option c) v h) (not (is_some v) && react_passes s.rules s.args_override_self (built_option c) [] h)
  long_asks h c word v found no_end long =
      ap (λ (t : Bool). t || flag_word_passes s.rules s.args_override_self (long_of word) word h) no_end
      ∙ ap (λ (l : Option (Text × Option Text)). flag_word_passes s.rules s.args_override_self l word h) long
      ∙ ap (λ (o : Option Rule). long_passes s.rules s.args_override_self o v h) found
      ∙ ap (λ (t : Bool). cond t (option_passes s.rules s.args_override_self (built_option c) v h) (not (is_some v) && react_passes s.rules s.args_override_self (built_option c) [] h)) (takes_is c)

  -- the rows of an option that is done
  reacted_comes : (h : Held) (c : Switch) (values : List Text) (rs after : List Row) → Comes h rs → used (built_option c) values rs ≡ after → Comes (reacted s.rules (built_option c) values h) after
  reacted_comes h c values rs after comes is = record { settled = ap (used (built_option c) values) comes.settled ∙ is; passes = refl }

  react_asks : (h : Held) (c : Switch) (values : List Text) (rs : List Row) → Comes h rs → use_passes s.args_override_self (built_option c) values rs ≡ true
      → react_passes s.rules s.args_override_self (built_option c) values h ≡ true
  react_asks h c values rs comes pass =
      ap₂ (λ (a b : Bool). a && b) comes.passes (ap (λ (r : List Row). use_passes s.args_override_self (built_option c) values r) comes.settled ∙ pass)

  -- ---- a flag

  flag_does : (h : Held) (k : ℕ) (c : Switch) → has_value c ≡ false → arg_by_long s.rules (id_of c) ≡ Some (built_option c)
      → word_met s.rules [] false idle (suc k) (name_of c) h ≡ (reacted s.rules (built_option c) [] h, next idle)
  flag_does h k c flag found =
      long_does h k c (name_of c) None found (no_end_is c) (long_is c)
      ∙ ap (λ (t : Bool). after_flag s.rules idle (name_of c) (does c t None h).0 (does c t None h).1) flag

  flag_turn : (h : Held) (k : ℕ) (c : Switch) (rs : List Row) → has_value c ≡ false → arg_by_long s.rules (id_of c) ≡ Some (built_option c) → Comes h rs → has_row (id_of c) rs ≡ false
      → turn_passes s [] (walk_at h k false) (name_of c) ≡ true
  flag_turn h k c rs flag found comes none =
      ap₂ (λ (a b : Bool). a && b)
      (long_asks h c (name_of c) None found (no_end_is c) (long_is c)
      ∙ ap (λ (t : Bool). cond t (option_passes s.rules s.args_override_self (built_option c) None h) (react_passes s.rules s.args_override_self (built_option c) [] h)) flag
      ∙ react_asks h c [] rs comes (flag_passes c s.args_override_self rs flag none))
      (ap (λ (m : Held × Step). step_passes s (suc k) m.0 m.1) (flag_does h k c flag found))

  flag_goes : (h : Held) (k : ℕ) (c : Switch) → has_value c ≡ false → arg_by_long s.rules (id_of c) ≡ Some (built_option c)
      → walked s.rules [] (walk_at h k false) (name_of c) ≡ walk_at (reacted s.rules (built_option c) [] h) k false
  unfolding walked
  flag_goes h k c flag found = ap (λ (m : Held × Step). after_step s.rules (name_of c) (walk_at h k false) m.0 m.1) (flag_does h k c flag found)

  -- ---- an option with a value that is joined to it

  joined_does : (h : Held) (k : ℕ) (c : Switch) (v : Text) → has_value c ≡ true → arg_by_long s.rules (id_of c) ≡ Some (built_option c)
      → word_met s.rules [] false idle (suc k) (joined c v) h ≡ (reacted s.rules (built_option c) (v ∷ []) h, next idle)
  joined_does h k c v valued found =
      long_does h k c (joined c v) (Some v) found (no_end_joined c v) (long_joined c v)
      ∙ ap (λ (t : Bool). after_flag s.rules idle (joined c v) (does c t (Some v) h).0 (does c t (Some v) h).1) valued

  joined_turn : (h : Held) (k : ℕ) (c : Switch) (v : Text) (rs : List Row) → has_value c ≡ true → arg_by_long s.rules (id_of c) ≡ Some (built_option c) → Comes h rs
      → has_row (id_of c) rs ≡ false → turn_passes s [] (walk_at h k false) (joined c v) ≡ true
  joined_turn h k c v rs valued found comes none =
      ap₂ (λ (a b : Bool). a && b)
      (long_asks h c (joined c v) (Some v) found (no_end_joined c v) (long_joined c v)
      ∙ ap (λ (t : Bool). cond t (react_passes s.rules s.args_override_self (built_option c) (v ∷ []) h) false) valued
      ∙ react_asks h c (v ∷ []) rs comes (value_passes c s.args_override_self v rs valued none))
      (ap (λ (m : Held × Step). step_passes s (suc k) m.0 m.1) (joined_does h k c v valued found))

  joined_goes : (h : Held) (k : ℕ) (c : Switch) (v : Text) → has_value c ≡ true → arg_by_long s.rules (id_of c) ≡ Some (built_option c)
      → walked s.rules [] (walk_at h k false) (joined c v) ≡ walk_at (reacted s.rules (built_option c) (v ∷ []) h) k false
  unfolding walked
  joined_goes h k c v valued found = ap (λ (m : Held × Step). after_step s.rules (joined c v) (walk_at h k false) m.0 m.1) (joined_does h k c v valued found)

  -- ---- an option whose value follows

  abbrev asked : Held → Switch → Held
  asked h c = record { rows = settled_rows s.rules h.pending h.rows; pending = Some (id_of c, []); skip = h.skip }

  abbrev walk_asking : Held → ℕ → Switch → Walk
  walk_asking h k c = record { held = asked h c; waiting = option (id_of c); position = suc k; is_trailing = false; stopped = None }

  name_does : (h : Held) (k : ℕ) (c : Switch) → has_value c ≡ true → arg_by_long s.rules (id_of c) ≡ Some (built_option c)
      → word_met s.rules [] false idle (suc k) (name_of c) h ≡ (asked h c, next (option (id_of c)))
  name_does h k c valued found =
      long_does h k c (name_of c) None found (no_end_is c) (long_is c)
      ∙ ap (λ (t : Bool). after_flag s.rules idle (name_of c) (does c t None h).0 (does c t None h).1) valued

  name_turn : (h : Held) (k : ℕ) (c : Switch) (rs : List Row) → has_value c ≡ true → arg_by_long s.rules (id_of c) ≡ Some (built_option c) → Comes h rs
      → turn_passes s [] (walk_at h k false) (name_of c) ≡ true
  name_turn h k c rs valued found comes =
      ap₂ (λ (a b : Bool). a && b)
      (long_asks h c (name_of c) None found (no_end_is c) (long_is c)
      ∙ ap (λ (t : Bool). cond t (settle_passes s.rules s.args_override_self h) (react_passes s.rules s.args_override_self (built_option c) [] h)) valued ∙ comes.passes)
      (ap (λ (m : Held × Step). step_passes s (suc k) m.0 m.1) (name_does h k c valued found))

  name_goes : (h : Held) (k : ℕ) (c : Switch) → has_value c ≡ true → arg_by_long s.rules (id_of c) ≡ Some (built_option c)
      → walked s.rules [] (walk_at h k false) (name_of c) ≡ walk_asking h k c
  unfolding walked
  name_goes h k c valued found = ap (λ (m : Held × Step). after_step s.rules (name_of c) (walk_at h k false) m.0 m.1) (name_does h k c valued found)

  one_value : (c : Switch) (v : Text) → has_value c ≡ true
      → cond (nat_lt (pending_count (built_option c) (Some (id_of c, v ∷ []))) (most_values (built_option c))) (option (id_of c)) idle ≡ idle
  one_value switches.Lib v valued = refl
  one_value switches.Preload v valued = refl
  one_value switches.Harts v valued = refl
  one_value switches.Fuel v valued = refl
  one_value switches.Now v valued = absurd (true≢false (sym valued))
  one_value switches.Trace v valued = absurd (true≢false (sym valued))

  value_does : (h : Held) (k : ℕ) (c : Switch) (v : Text) → has_value c ≡ true → IsPlain v → arg_by_id s.rules (id_of c) ≡ Some (built_option c)
      → word_met s.rules [] false (option (id_of c)) (suc k) v (asked h c) ≡ (at_word h (id_of c) v, next idle)
  value_does h k c v valued plain found =
      ap (λ (t : Bool). cond t (asked h c, trailing (suc k)) (long_or_other s.rules (option (id_of c)) v (long_of v) (asked h c))) plain.no_end
      ∙ plain_met (asked h c) k (option (id_of c)) v plain
      ∙ ap (λ (o : Option Rule). ((option_word o (id_of c) v (asked h c)).0, next (option_word o (id_of c) v (asked h c)).1)) found
      ∙ ap (λ (w : Waiting). (at_word h (id_of c) v, next w)) (one_value c v valued)

  value_turn : (h : Held) (k : ℕ) (c : Switch) (v : Text) → has_value c ≡ true → IsPlain v → arg_by_id s.rules (id_of c) ≡ Some (built_option c)
      → turn_passes s [] (walk_asking h k c) v ≡ true
  value_turn h k c v valued plain found =
      ap₂ (λ (a b : Bool). a && b) (plain_passes (asked h c) v plain)
      (ap (λ (m : Held × Step). step_passes s (suc k) m.0 m.1) (value_does h k c v valued plain found))

  value_goes : (h : Held) (k : ℕ) (c : Switch) (v : Text) → has_value c ≡ true → IsPlain v → arg_by_id s.rules (id_of c) ≡ Some (built_option c)
      → walked s.rules [] (walk_asking h k c) v ≡ walk_at (at_word h (id_of c) v) k false
  unfolding walked
  value_goes h k c v valued plain found = ap (λ (m : Held × Step). after_step s.rules v (walk_asking h k c) m.0 m.1) (value_does h k c v valued plain found)

  value_comes : (h : Held) (c : Switch) (v : Text) (rs : List Row) → has_value c ≡ true → arg_by_id s.rules (id_of c) ≡ Some (built_option c) → Comes h rs → has_row (id_of c) rs ≡ false
      → Comes (at_word h (id_of c) v) (rs ++ row (id_of c) v ∷ [])
  value_comes h c v rs valued found comes none = record {
    settled =
        ap (λ (o : Option Rule). used_by_id o (v ∷ []) (settled_rows s.rules h.pending h.rows)) found
        ∙ ap (λ (r : List Row). used (built_option c) (v ∷ []) r) comes.settled ∙ value_used c v rs valued none;
    passes =
        ap (λ (o : Option Rule). option_map_or (λ (a : Rule). use_passes s.args_override_self a (v ∷ []) (settled_rows s.rules h.pending h.rows)) o true) found
        ∙ ap (λ (r : List Row). use_passes s.args_override_self (built_option c) (v ∷ []) r) comes.settled ∙ value_passes c s.args_override_self v rs valued none;
  }

  -- ---- all words

  abbrev Walks : Bool → List Text → List Piece → Type 0
  Walks ended words pieces = (k : ℕ) (names : List Text) (h : Held) (rs : List Row) → FindsWords s.rules k names → AreApart names → Comes h rs → AreOnce rs pieces → AreFresh names rs
      → length (words_of pieces) ≡ length names → Goes (walk_at h k ended) words (rs ++ rows pieces names)

  later : (w : Walk) (words : List Text) (rs : List Row) (r : Row) (more : List Row) → Goes w words ((rs ++ r ∷ []) ++ more) → Goes w words (rs ++ r ∷ more)
  later w words rs r more g = subst (λ (l : List Row). Goes w words l) (in_turn rs r more) g

  no_words : (ended : Bool) → Walks ended [] []
  unfolding walk_passes
  no_words ended k names h rs at apart comes once fresh count =
      (record { stopped = refl; comes = subst (λ (l : List Row). Comes h l) (sym (append-nil rs)) comes }, refl)

  one_word : (word : Text) (rest : List Text) (pieces : List Piece) → IsPlain word → Walks false rest pieces → Walks false (word ∷ rest) (Piece.other word ∷ pieces)
  one_word word rest pieces plain goes_on k [] h rs at apart comes once fresh count = absurd (omega (arith, count))
  one_word word rest pieces plain goes_on k (name ∷ names) h rs at apart comes once fresh count =
      goes (walk_at h k false) (walk_at (at_word h name word) (suc k) false) word rest (rs ++ row name word ∷ rows pieces names)
      (word_turn h k name word names rs at comes plain) (word_goes h k name word names at plain)
      (later (walk_at (at_word h name word) (suc k) false) rest rs (row name word) (rows pieces names)
      (goes_on (suc k) names (at_word h name word) (rs ++ row name word ∷ []) at.3 apart.3 (word_comes h k name word names rs at comes fresh.0)
      (once_word word name pieces rs apart.1 once) (fresh_after names name word rs apart.2 fresh.1) (omega (arith, count))))

  one_behind : (word : Text) (rest : List Text) (pieces : List Piece) → Walks true rest pieces → Walks true (word ∷ rest) (Piece.other word ∷ pieces)
  one_behind word rest pieces goes_on k [] h rs at apart comes once fresh count = absurd (omega (arith, count))
  one_behind word rest pieces goes_on k (name ∷ names) h rs at apart comes once fresh count =
      goes (walk_at h k true) (walk_at (at_word h name word) (suc k) true) word rest (rs ++ row name word ∷ rows pieces names)
      (behind_turn h k name word names rs at comes) (behind_goes h k name word names at)
      (later (walk_at (at_word h name word) (suc k) true) rest rs (row name word) (rows pieces names)
      (goes_on (suc k) names (at_word h name word) (rs ++ row name word ∷ []) at.3 apart.3 (word_comes h k name word names rs at comes fresh.0)
      (once_word word name pieces rs apart.1 once) (fresh_after names name word rs apart.2 fresh.1) (omega (arith, count))))

  the_end : (rest : List Text) (pieces : List Piece) → Walks true rest pieces → Walks false (codes "--" ∷ rest) pieces
  unfolding walked
  the_end rest pieces goes_on k names h rs at apart comes once fresh count =
      goes (walk_at h k false) (walk_at h k true) (codes "--") rest (rs ++ rows pieces names) refl refl (goes_on k names h rs at apart comes once fresh count)

  one_flag : (c : Switch) (rest : List Text) (pieces : List Piece) → option_in known (name_of c) ≡ Some c → has_value c ≡ false → Walks false rest pieces
      → Walks false (name_of c ∷ rest) (Piece.flag c ∷ pieces)
  one_flag c rest pieces is flag goes_on k names h rs at apart comes once fresh count =
      let found = (finds c is).0 in
      let none = fresh_option c (Piece.flag c) (codes "true") pieces rs (IsPieceOf.flag c) once in
      let on = walk_at (reacted s.rules (built_option c) [] h) k false in
      goes (walk_at h k false) on (name_of c) rest (rs ++ row (id_of c) (codes "true") ∷ rows pieces names)
      (flag_turn h k c rs flag found comes none) (flag_goes h k c flag found)
      (later on rest rs (row (id_of c) (codes "true")) (rows pieces names)
      (goes_on k names (reacted s.rules (built_option c) [] h) (rs ++ row (id_of c) (codes "true") ∷ []) at apart (reacted_comes h c [] rs _ comes (flag_used c rs flag none))
      (once_more c (Piece.flag c) (codes "true") pieces rs (IsPieceOf.flag c) once) (fresh_names names c (codes "true") rs apart fresh) count))

  one_joined : (c : Switch) (v : Text) (rest : List Text) (pieces : List Piece) → option_in known (name_of c) ≡ Some c → has_value c ≡ true → Walks false rest pieces
      → Walks false (joined c v ∷ rest) (Piece.valued c v ∷ pieces)
  one_joined c v rest pieces is valued goes_on k names h rs at apart comes once fresh count =
      let found = (finds c is).0 in
      let none = fresh_option c (Piece.valued c v) v pieces rs (IsPieceOf.valued c v) once in
      let on = walk_at (reacted s.rules (built_option c) (v ∷ []) h) k false in
      goes (walk_at h k false) on (joined c v) rest (rs ++ row (id_of c) v ∷ rows pieces names)
      (joined_turn h k c v rs valued found comes none) (joined_goes h k c v valued found)
      (later on rest rs (row (id_of c) v) (rows pieces names)
      (goes_on k names (reacted s.rules (built_option c) (v ∷ []) h) (rs ++ row (id_of c) v ∷ []) at apart (reacted_comes h c (v ∷ []) rs _ comes (value_used c v rs valued none))
      (once_more c (Piece.valued c v) v pieces rs (IsPieceOf.valued c v) once) (fresh_names names c v rs apart fresh) count))

  one_valued : (c : Switch) (v : Text) (rest : List Text) (pieces : List Piece) → option_in known (name_of c) ≡ Some c → has_value c ≡ true → IsPlain v → Walks false rest pieces
      → Walks false (name_of c ∷ v ∷ rest) (Piece.valued c v ∷ pieces)
  one_valued c v rest pieces is valued plain goes_on k names h rs at apart comes once fresh count =
      let found = finds c is in
      let none = fresh_option c (Piece.valued c v) v pieces rs (IsPieceOf.valued c v) once in
      let on = walk_at (at_word h (id_of c) v) k false in
      goes (walk_at h k false) (walk_asking h k c) (name_of c) (v ∷ rest) (rs ++ row (id_of c) v ∷ rows pieces names)
      (name_turn h k c rs valued found.0 comes) (name_goes h k c valued found.0)
      (goes (walk_asking h k c) on v rest (rs ++ row (id_of c) v ∷ rows pieces names) (value_turn h k c v valued plain found.1) (value_goes h k c v valued plain found.1)
      (later on rest rs (row (id_of c) v) (rows pieces names)
      (goes_on k names (at_word h (id_of c) v) (rs ++ row (id_of c) v ∷ []) at apart (value_comes h c v rs valued found.1 comes none)
      (once_more c (Piece.valued c v) v pieces rs (IsPieceOf.valued c v) once) (fresh_names names c v rs apart fresh) count)))

  pub walks : (ended : Bool) (words : List Text) (pieces : List Piece) → Says known ended words pieces → Walks ended words pieces
  walks ended words pieces (Says.no_more _) = no_words ended
  walks ended words pieces (Says.ends rest others says) = the_end rest others (walks true rest others says)
  walks ended words pieces (Says.is_word word rest others plain says) = one_word word rest others (no_option word plain) (walks false rest others says)
  walks ended words pieces (Says.is_behind word rest others says) = one_behind word rest others (walks true rest others says)
  walks ended words pieces (Says.is_flag c word rest others dashed plain is flag says) =
      let name : name_of c ≡ word = named known word c is in
      subst (λ (w : Text). Walks false (w ∷ rest) (Piece.flag c ∷ others)) name
      (one_flag c rest others (ap (option_in known) name ∙ is) flag (walks false rest others says))
  walks ended words pieces (Says.is_valued c word v rest others dashed plain is valued dash says) =
      let name : name_of c ≡ word = named known word c is in
      subst (λ (w : Text). Walks false (w ∷ v ∷ rest) (Piece.valued c v ∷ others)) name
      (one_valued c v rest others (ap (option_in known) name ∙ is) valued (no_dash v dash) (walks false rest others says))
  walks ended words pieces (Says.is_joined_value c word rest others dashed signed is valued says) =
      let name : name_of c ≡ front_of word = named known (front_of word) c is in
      subst (λ (w : Text). Walks false (w ∷ rest) (Piece.valued c (value_of word) ∷ others)) (is_joined_word known word c signed is)
      (one_joined c (value_of word) rest others (ap (option_in known) name ∙ is) valued (walks false rest others says))
