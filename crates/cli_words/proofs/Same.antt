-- Words are one command.
use Rattle.std.proofs.Common.{◌≡◌, ℕ, ◌^◌, ◌-◌, ◌≤◌, Bool, true, false, List, [], ◌∷◌, Option, Some, None, codes, refl, sym, ap, ap₂, subst, ◌∙◌, arith, true≢false}
use Rattle.std.specs.Str.{bytes_eq}
use Rattle.std.proofs.lemmas.Fmt.{decimal_injective}
use Rattle.std.proofs.lemmas.Slice.Eq.{bytes_eq-Decides}
use Rattle.history_calls.specs.declared.link_served.startup.Setup.{Setup}
use Rattle.cli_words.specs.declared.switch.Switch.{Switch}
use Rattle.cli_words.specs.declared.switch.Switch.TheVariants as switches
use Rattle.cli_words.specs.declared.command.Bind.{Bind}
use Rattle.cli_words.specs.declared.command.Check.{Check}
use Rattle.cli_words.specs.declared.command.Command.{Command}
use Rattle.cli_words.specs.declared.command.Command.TheVariants as commands
use Rattle.cli_words.specs.declared.command.Run.{Run}
use Rattle.cli_words.specs.declared.command.Turns.{Turns}
use Rattle.cli_words.specs.Lemmas.Commands.{ReadsBehind, begins_with_word, word_of}
use Rattle.cli_words.specs.Options.{Piece, given, stands, words_of}
use Rattle.cli_words.specs.Reads.{Are, IsSetup, OneCommand, ReadsBind, ReadsCheck, ReadsNumber, ReadsRun, ReadsTurns, ReadsWord, bind_options, check_options, run_options, turns_options}
use Rattle.cli_words.specs.Values.{AreFolders, ArePreloads, Gives, IsFuel, IsNumber}
use Rattle.cli_words.proofs.Pieces.{one_saying}

abbrev Text : Type 0
Text = List ℕ

-- ---- values

same_parts : (byte most longest : ℕ) (value : Option Text) (parts others : List Text) → Gives byte most longest value parts → Gives byte most longest value others → parts ≡ others
same_parts byte most longest None parts others a b = a ∙ sym b
same_parts byte most longest (Some value) parts others a b = a.are ∙ sym b.are

same_preloads : (value : Option Text) (names others : List Text) → ArePreloads value names → ArePreloads value others → names ≡ others
same_preloads None names others a b = a ∙ sym b
same_preloads (Some value) names others a b = a.are ∙ sym b.are

same_number : (low high : ℕ) (text : Text) (m n : ℕ) → high ≤ 2 ^ 32 → IsNumber low high text m → IsNumber low high text n → m ≡ n
same_number low high text m n few a b =
    let m_to : m ≤ high = a.to in
    let n_to : n ≤ high = b.to in
    decimal_injective m n (omega (arith, few, m_to)) (omega (arith, few, n_to)) (sym a.is ∙ b.is)

same_fuel : (value : Option Text) (m n : ℕ) → IsFuel value m → IsFuel value n → m ≡ n
same_fuel None m n a b = a ∙ sym b
same_fuel (Some text) m n a b = same_number 1 (2 ^ 32) text m n (omega arith) a b

-- ---- what stands behind a command's word

same_pieces : (known : List Switch) (words : List Text) (pieces others : List Piece) (left left' : List Text) → Are known words pieces left → Are known words others left' → others ≡ pieces
same_pieces known words pieces others left left' a b = one_saying known words others pieces b.says a.says

same_left : (known : List Switch) (words : List Text) (pieces others : List Piece) (left left' : List Text) → Are known words pieces left → Are known words others left' → left ≡ left'
same_left known words pieces others left left' a b =
    sym a.left ∙ ap (λ (ps : List Piece). words_of ps) (sym (same_pieces known words pieces others left left' a b)) ∙ b.left

head_of : {X : Type 0} (x y : X) (xs ys : List X) → x ∷ xs ≡ y ∷ ys → x ≡ y
head_of x y xs ys e = cc

tail_of : {X : Type 0} (x y : X) (xs ys : List X) → x ∷ xs ≡ y ∷ ys → xs ≡ ys
tail_of x y xs ys e = cc

same_bind_parts : (b b' : Bind) → b.folders ≡ b'.folders → b.preload ≡ b'.preload → b.now ≡ b'.now → b.program ≡ b'.program → b ≡ b'
same_bind_parts b b' folders preload now program =
    ap (λ (x : List Text). record { folders = x; preload = b.preload; now = b.now; program = b.program }) folders
    ∙ ap (λ (x : List Text). record { folders = b'.folders; preload = x; now = b.now; program = b.program }) preload
    ∙ ap (λ (x : Bool). record { folders = b'.folders; preload = b'.preload; now = x; program = b.program }) now
    ∙ ap (λ (x : Text). record { folders = b'.folders; preload = b'.preload; now = b'.now; program = x }) program

same_setup_parts : (s s' : Setup) → s.program ≡ s'.program → s.folders ≡ s'.folders → s.preload ≡ s'.preload → s.bind_now ≡ s'.bind_now → s.harts ≡ s'.harts → s.fuel ≡ s'.fuel → s ≡ s'
same_setup_parts s s' program folders preload now harts fuel =
    ap (λ (x : Text). record { program = x; folders = s.folders; preload = s.preload; bind_now = s.bind_now; harts = s.harts; fuel = s.fuel }) program
    ∙ ap (λ (x : List Text). record { program = s'.program; folders = x; preload = s.preload; bind_now = s.bind_now; harts = s.harts; fuel = s.fuel }) folders
    ∙ ap (λ (x : List Text). record { program = s'.program; folders = s'.folders; preload = x; bind_now = s.bind_now; harts = s.harts; fuel = s.fuel }) preload
    ∙ ap (λ (x : Bool). record { program = s'.program; folders = s'.folders; preload = s'.preload; bind_now = x; harts = s.harts; fuel = s.fuel }) now
    ∙ ap (λ (x : List Text). record { program = s'.program; folders = s'.folders; preload = s'.preload; bind_now = s'.bind_now; harts = x; fuel = s.fuel }) harts
    ∙ ap (λ (x : ℕ). record { program = s'.program; folders = s'.folders; preload = s'.preload; bind_now = s'.bind_now; harts = s'.harts; fuel = x }) fuel

same_setup : (pieces : List Piece) (s s' : Setup) → s.program ≡ s'.program → IsSetup pieces s.program s → IsSetup pieces s'.program s' → s ≡ s'
same_setup pieces s s' program a b = same_setup_parts s s' program (same_parts 58 16 1000 (given switches.Lib pieces) s.folders s'.folders a.folders b.folders)
    (same_preloads (given switches.Preload pieces) s.preload s'.preload a.preload b.preload) (a.now ∙ sym b.now)
    (same_parts 44 15 255 (given switches.Harts pieces) s.harts s'.harts a.harts b.harts) (same_fuel (given switches.Fuel pieces) s.fuel s'.fuel a.fuel b.fuel)

same_bind : (words : List Text) (b b' : Bind) → ReadsBind words b → ReadsBind words b' → b ≡ b'
same_bind words b b' x y =
    let ps = same_pieces bind_options words x.pieces y.pieces (b.program ∷ []) (b'.program ∷ []) x.are y.are in
    same_bind_parts b b'
    (same_parts 58 16 1000 (given switches.Lib x.pieces) b.folders b'.folders x.folders (subst (λ (p : List Piece). AreFolders (given switches.Lib p) b'.folders) ps y.folders))
    (same_preloads (given switches.Preload x.pieces) b.preload b'.preload x.preload (subst (λ (p : List Piece). ArePreloads (given switches.Preload p) b'.preload) ps y.preload))
    (x.now ∙ sym (y.now ∙ ap (λ (p : List Piece). stands switches.Now p) ps))
    (head_of b.program b'.program [] [] (same_left bind_options words x.pieces y.pieces (b.program ∷ []) (b'.program ∷ []) x.are y.are))

same_turns : (words : List Text) (t t' : Turns) → ReadsTurns words t → ReadsTurns words t' → t ≡ t'
same_turns words t t' x y =
    let ps = same_pieces turns_options words x.pieces y.pieces (t.schedule ∷ t.setup.program ∷ []) (t'.schedule ∷ t'.setup.program ∷ []) x.are y.are in
    let left = same_left turns_options words x.pieces y.pieces (t.schedule ∷ t.setup.program ∷ []) (t'.schedule ∷ t'.setup.program ∷ []) x.are y.are in
    let schedules = head_of t.schedule t'.schedule (t.setup.program ∷ []) (t'.setup.program ∷ []) left in
    let programs = head_of t.setup.program t'.setup.program [] [] (tail_of t.schedule t'.schedule (t.setup.program ∷ []) (t'.setup.program ∷ []) left) in
    let setups = same_setup x.pieces t.setup t'.setup programs x.setup (subst (λ (p : List Piece). IsSetup p t'.setup.program t'.setup) ps y.setup) in
    ap₂ (λ (s : Setup) (w : Text). record { setup = s; schedule = w }) setups schedules

same_run : (words : List Text) (r r' : Run) → ReadsRun words r → ReadsRun words r' → r ≡ r'
same_run words r r' x y =
    let ps = same_pieces run_options words x.pieces y.pieces (r.setup.program ∷ []) (r'.setup.program ∷ []) x.are y.are in
    let programs = head_of r.setup.program r'.setup.program [] [] (same_left run_options words x.pieces y.pieces (r.setup.program ∷ []) (r'.setup.program ∷ []) x.are y.are) in
    let setups = same_setup x.pieces r.setup r'.setup programs x.setup (subst (λ (p : List Piece). IsSetup p r'.setup.program r'.setup) ps y.setup) in
    ap₂ (λ (s : Setup) (t : Bool). record { setup = s; trace = t }) setups (x.trace ∙ sym (y.trace ∙ ap (λ (p : List Piece). stands switches.Trace p) ps))

same_check : (words : List Text) (k k' : Check) → ReadsCheck words k → ReadsCheck words k' → k ≡ k'
same_check words k k' x y =
    let ps = same_pieces check_options words x.pieces y.pieces (k.trace ∷ []) (k'.trace ∷ []) x.are y.are in
    let folders = same_parts 58 16 1000 (given switches.Lib x.pieces) k.folders k'.folders x.folders (subst (λ (p : List Piece). AreFolders (given switches.Lib p) k'.folders) ps y.folders) in
    let traces = head_of k.trace k'.trace [] [] (same_left check_options words x.pieces y.pieces (k.trace ∷ []) (k'.trace ∷ []) x.are y.are) in
    ap₂ (λ (f : List Text) (t : Text). record { folders = f; trace = t }) folders traces

same_word : (words : List Text) (w w' : Text) → ReadsWord words w → ReadsWord words w' → w ≡ w'
same_word words w w' x y = head_of w w' [] [] (same_left [] words x.pieces y.pieces (w ∷ []) (w' ∷ []) x.are y.are)

same_generate : (words : List Text) (m n : ℕ) → ReadsNumber words m → ReadsNumber words n → m ≡ n
same_generate words m n x y = same_number 0 (2 ^ 32 - 1) x.word m n (omega arith) x.is
    (subst (λ (w : Text). IsNumber 0 (2 ^ 32 - 1) w n) (same_word words y.word x.word y.reads x.reads) y.is)

-- ---- commands

abbrev OneBehind : List Text → Command → Command → Type 0
OneBehind words c d = word_of c ≡ word_of d → ReadsBehind words c → ReadsBehind words d → c ≡ d

differ : (c d : Text) {A : Type 0} → bytes_eq c d ≡ false → c ≡ d → A
differ c d {A} unlike same = absurd (true≢false (sym (alike c) ∙ ap (bytes_eq c) same ∙ unlike))
  where
    alike : (x : Text) → bytes_eq x x ≡ true
    alike x = (bytes_eq-Decides x x).1 refl

one_behind : (words : List Text) (c d : Command) → OneBehind words c d
one_behind words (commands.Bind b) (commands.Bind b') same x y = ap commands.Bind (same_bind words b b' x y)
one_behind words (commands.Turns t) (commands.Turns t') same x y = ap commands.Turns (same_turns words t t' x y)
one_behind words (commands.Run r) (commands.Run r') same x y = ap commands.Run (same_run words r r' x y)
one_behind words (commands.Assemble p) (commands.Assemble p') same x y = ap commands.Assemble (same_word words p p' x y)
one_behind words (commands.Dump p) (commands.Dump p') same x y = ap commands.Dump (same_word words p p' x y)
one_behind words (commands.Generate n) (commands.Generate n') same x y = ap commands.Generate (same_generate words n n' x y)
one_behind words (commands.Bind b) (commands.Turns t') same x y = differ (codes "bind") (codes "turns") refl same
one_behind words (commands.Bind b) (commands.Run r') same x y = differ (codes "bind") (codes "run") refl same
one_behind words (commands.Bind b) (commands.Assemble p') same x y = differ (codes "bind") (codes "asm") refl same
one_behind words (commands.Bind b) (commands.Dump p') same x y = differ (codes "bind") (codes "dump") refl same
one_behind words (commands.Bind b) (commands.Generate n') same x y = differ (codes "bind") (codes "gen") refl same
one_behind words (commands.Turns t) (commands.Bind b') same x y = differ (codes "turns") (codes "bind") refl same
one_behind words (commands.Turns t) (commands.Run r') same x y = differ (codes "turns") (codes "run") refl same
one_behind words (commands.Turns t) (commands.Assemble p') same x y = differ (codes "turns") (codes "asm") refl same
one_behind words (commands.Turns t) (commands.Dump p') same x y = differ (codes "turns") (codes "dump") refl same
one_behind words (commands.Turns t) (commands.Generate n') same x y = differ (codes "turns") (codes "gen") refl same
one_behind words (commands.Run r) (commands.Bind b') same x y = differ (codes "run") (codes "bind") refl same
one_behind words (commands.Run r) (commands.Turns t') same x y = differ (codes "run") (codes "turns") refl same
one_behind words (commands.Run r) (commands.Assemble p') same x y = differ (codes "run") (codes "asm") refl same
one_behind words (commands.Run r) (commands.Dump p') same x y = differ (codes "run") (codes "dump") refl same
one_behind words (commands.Run r) (commands.Generate n') same x y = differ (codes "run") (codes "gen") refl same
one_behind words (commands.Assemble p) (commands.Bind b') same x y = differ (codes "asm") (codes "bind") refl same
one_behind words (commands.Assemble p) (commands.Turns t') same x y = differ (codes "asm") (codes "turns") refl same
one_behind words (commands.Assemble p) (commands.Run r') same x y = differ (codes "asm") (codes "run") refl same
one_behind words (commands.Assemble p) (commands.Dump p') same x y = differ (codes "asm") (codes "dump") refl same
one_behind words (commands.Assemble p) (commands.Generate n') same x y = differ (codes "asm") (codes "gen") refl same
one_behind words (commands.Dump p) (commands.Bind b') same x y = differ (codes "dump") (codes "bind") refl same
one_behind words (commands.Dump p) (commands.Turns t') same x y = differ (codes "dump") (codes "turns") refl same
one_behind words (commands.Dump p) (commands.Run r') same x y = differ (codes "dump") (codes "run") refl same
one_behind words (commands.Dump p) (commands.Assemble p') same x y = differ (codes "dump") (codes "asm") refl same
one_behind words (commands.Dump p) (commands.Generate n') same x y = differ (codes "dump") (codes "gen") refl same
one_behind words (commands.Generate n) (commands.Bind b') same x y = differ (codes "gen") (codes "bind") refl same
one_behind words (commands.Generate n) (commands.Turns t') same x y = differ (codes "gen") (codes "turns") refl same
one_behind words (commands.Generate n) (commands.Run r') same x y = differ (codes "gen") (codes "run") refl same
one_behind words (commands.Generate n) (commands.Assemble p') same x y = differ (codes "gen") (codes "asm") refl same
one_behind words (commands.Generate n) (commands.Dump p') same x y = differ (codes "gen") (codes "dump") refl same
one_behind words (commands.Check k) (commands.Check k') same x y = ap commands.Check (same_check words k k' x y)
one_behind words (commands.Bind b) (commands.Check k') same x y = differ (codes "bind") (codes "check") refl same
one_behind words (commands.Check k) (commands.Bind b') same x y = differ (codes "check") (codes "bind") refl same
one_behind words (commands.Turns t) (commands.Check k') same x y = differ (codes "turns") (codes "check") refl same
one_behind words (commands.Check k) (commands.Turns t') same x y = differ (codes "check") (codes "turns") refl same
one_behind words (commands.Run r) (commands.Check k') same x y = differ (codes "run") (codes "check") refl same
one_behind words (commands.Check k) (commands.Run r') same x y = differ (codes "check") (codes "run") refl same
one_behind words (commands.Assemble p) (commands.Check k') same x y = differ (codes "asm") (codes "check") refl same
one_behind words (commands.Check k) (commands.Assemble p') same x y = differ (codes "check") (codes "asm") refl same
one_behind words (commands.Dump p) (commands.Check k') same x y = differ (codes "dump") (codes "check") refl same
one_behind words (commands.Check k) (commands.Dump p') same x y = differ (codes "check") (codes "dump") refl same
one_behind words (commands.Generate n) (commands.Check k') same x y = differ (codes "gen") (codes "check") refl same
one_behind words (commands.Check k) (commands.Generate n') same x y = differ (codes "check") (codes "gen") refl same

pub one_command : OneCommand
one_command words c d x y =
    let b = begins_with_word words c x in
    let e = begins_with_word words d y in
    let both : word_of c ∷ b.rest ≡ word_of d ∷ e.rest = sym b.is ∙ e.is in
    one_behind b.rest c d (head_of (word_of c) (word_of d) b.rest e.rest both) b.reads
    (subst (λ (ws : List Text). ReadsBehind ws d) (sym (tail_of (word_of c) (word_of d) b.rest e.rest both)) e.reads)
