-- How far words are read.
use Rattle.std.proofs.Common.{◌≡◌, ℕ, ◌≤◌, ◌<◌, ◌+◌, ◌&&◌, ◌||◌, Bool, true, false, cond, List, [], ◌∷◌, ◌++◌, filter, length, nat_le, Option, Some, None, Bor, refl, sym, ap, ap₂, subst, ◌∙◌, arith, rules}
use Rattle.std.specs.List.{list_all, list_any}
use Rattle.std.specs.Option.{option_copied, option_or}
use Rattle.std.specs.Str.{bytes_eq}
use Rattle.std.proofs.lemmas.Bool.{true≢false}
use Rattle.std.proofs.lemmas.Slice.Eq.{bytes_eq-Decides}
use Rattle.std.proofs.lemmas.List.{append-nil}
use Rattle.cli_words.specs.declared.switch.Switch.{Switch}
use Rattle.cli_words.specs.declared.switch.Switch.TheVariants as switches
use Rattle.cli_words.specs.Options.{Piece, Says, all_switches, is_switch, is_of, name_of, stand_once, stands}
use Rattle.cli_read.specs.SaidWords.Said.{IsSaid, IsUnsaid, Tells, has_option, with_option, with_word}
use Rattle.cli_read.specs.SaidWords.Words.{Text, read_front, value_at}
use Rattle.cli_read.specs.declared.said_words.said.Said.{Said}
use Rattle.cli_read.specs.declared.said_words.front.Front.{Front}
use Rattle.cli_read.specs.declared.said_words.front.Front.TheVariants as fronts
use Rattle.cli_read.proofs.SaidWords.Pieces.{AreRight, Grows, IsPieceOf, has_is, nothing, others_of, right_end, same_piece, told_nothing, told_option, told_words}
use Rattle.cli_read.proofs.SaidWords.Saying.{Follow, FrontLeads, Leads, StandsAt, front_leads, has_front}

abbrev pub switches_of : List Piece → List Switch
switches_of [] = []
switches_of (Piece.flag c ∷ rest) = c ∷ switches_of rest
switches_of (Piece.valued c value ∷ rest) = c ∷ switches_of rest
switches_of (Piece.other word ∷ rest) = switches_of rest

-- ---- lists

grouped : {X : Type 0} (xs : List X) (y : X) (ys : List X) → (xs ++ y ∷ []) ++ ys ≡ xs ++ y ∷ ys
grouped [] y ys = refl
grouped (x ∷ xs) y ys = ap (λ l. x ∷ l) (grouped xs y ys)

switches_end : (acc more : List Piece) → switches_of (acc ++ more) ≡ switches_of acc ++ switches_of more
switches_end [] more = refl
switches_end (Piece.flag c ∷ acc) more = ap (λ (l : List Switch). c ∷ l) (switches_end acc more)
switches_end (Piece.valued c value ∷ acc) more = ap (λ (l : List Switch). c ∷ l) (switches_end acc more)
switches_end (Piece.other word ∷ acc) more = switches_end acc more

-- how often an option stands among options
abbrev pub times : Switch → List Switch → ℕ
times c seen = length (filter (is_switch c) seen)

times_first : (c d : Switch) (seen : List Switch) (b : Bool) → is_switch c d ≡ b → times c (d ∷ seen) ≡ cond b 1 0 + times c seen
times_first c d seen true is = ap (λ (t : Bool). length (cond t (d ∷ filter (is_switch c) seen) (filter (is_switch c) seen))) is ∙ omega arith
times_first c d seen false is = ap (λ (t : Bool). length (cond t (d ∷ filter (is_switch c) seen) (filter (is_switch c) seen))) is ∙ omega arith

times_end : (c : Switch) (xs ys : List Switch) → times c (xs ++ ys) ≡ times c xs + times c ys
times_end c [] ys = omega arith
times_end c (x ∷ xs) ys =
    let one : times c (x ∷ xs) ≡ cond (is_switch c x) 1 0 + times c xs = times_first c x xs (is_switch c x) refl in
    let all : times c (x ∷ xs ++ ys) ≡ cond (is_switch c x) 1 0 + times c (xs ++ ys) = times_first c x (xs ++ ys) (is_switch c x) refl in
    let more : times c (xs ++ ys) ≡ times c xs + times c ys = times_end c xs ys in
    omega (arith, one, all, more)

-- pieces of an option are as often as it stands among their options
pieces_times : (c : Switch) (pieces : List Piece) → length (filter (is_of c) pieces) ≡ times c (switches_of pieces)
pieces_times c [] = refl
pieces_times c (Piece.flag d ∷ rest) = same (is_switch c d) (filter (is_of c) rest) (filter (is_switch c) (switches_of rest)) (pieces_times c rest)
  where
    same : (b : Bool) (xs : List Piece) (ys : List Switch) → length xs ≡ length ys → length (cond b (Piece.flag d ∷ xs) xs) ≡ length (cond b (d ∷ ys) ys)
    same true xs ys e = omega (arith, e)
    same false xs ys e = e
pieces_times c (Piece.valued d value ∷ rest) = same (is_switch c d) (filter (is_of c) rest) (filter (is_switch c) (switches_of rest)) (pieces_times c rest)
  where
    same : (b : Bool) (xs : List Piece) (ys : List Switch) → length xs ≡ length ys → length (cond b (Piece.valued d value ∷ xs) xs) ≡ length (cond b (d ∷ ys) ys)
    same true xs ys e = omega (arith, e)
    same false xs ys e = e
pieces_times c (Piece.other word ∷ rest) = pieces_times c rest

has_times : (c : Switch) (seen : List Switch) → list_any (is_switch c) seen ≡ true → 1 ≤ times c seen
has_times c [] has = absurd (true≢false (sym has))
has_times c (d ∷ seen) has = either (is_switch c d) refl (has_times c seen)
  where
    either : (b : Bool) → is_switch c d ≡ b → (list_any (is_switch c) seen ≡ true → 1 ≤ times c seen) → 1 ≤ times c (d ∷ seen)
    either true is later = let one : times c (d ∷ seen) ≡ 1 + times c seen = times_first c d seen true is in omega (arith, one)
    either false is later =
        let one : times c (d ∷ seen) ≡ 0 + times c seen = times_first c d seen false is in
        let more : 1 ≤ times c seen = later (sym (ap (λ (t : Bool). t || list_any (is_switch c) seen) is) ∙ has) in
        omega (arith, one, more)

no_times : (c : Switch) (seen : List Switch) → list_any (is_switch c) seen ≡ false → times c seen ≡ 0
no_times c [] none = refl
no_times c (d ∷ seen) none = either (is_switch c d) refl (no_times c seen)
  where
    either : (b : Bool) → is_switch c d ≡ b → (list_any (is_switch c) seen ≡ false → times c seen ≡ 0) → times c (d ∷ seen) ≡ 0
    either true is later = absurd (true≢false (sym (ap (λ (t : Bool). t || list_any (is_switch c) seen) is) ∙ none))
    either false is later =
        let one : times c (d ∷ seen) ≡ 0 + times c seen = times_first c d seen false is in
        let more : times c seen ≡ 0 = later (sym (ap (λ (t : Bool). t || list_any (is_switch c) seen) is) ∙ none) in
        omega (arith, one, more)

same_switch : (c : Switch) → is_switch c c ≡ true
same_switch c = (bytes_eq-Decides (name_of c) (name_of c)).1 refl

stands_first : (c : Switch) (piece : Piece) (pieces : List Piece) → IsPieceOf c piece → 1 ≤ times c (switches_of (piece ∷ pieces))
stands_first c piece pieces IsPieceOf.flag = let one : times c (c ∷ switches_of pieces) ≡ 1 + times c (switches_of pieces) = times_first c c (switches_of pieces) true (same_switch c) in omega (arith, one)
stands_first c piece pieces (IsPieceOf.valued value) = let one : times c (c ∷ switches_of pieces) ≡ 1 + times c (switches_of pieces) = times_first c c (switches_of pieces) true (same_switch c) in omega (arith, one)

-- ---- each option once

abbrev pub AreOnce : List Switch → Type 0
AreOnce seen = (c : Switch) → times c seen ≤ 1

split : (a b : Bool) → (a && b) ≡ true → (a ≡ true) × (b ≡ true)
split true b e = (refl, e)
split false b e = absurd (true≢false (sym e))

first : (p : Switch → Bool) (c : Switch) (more : List Switch) → list_all p (c ∷ more) ≡ true → (p c ≡ true) × (list_all p more ≡ true)
first p c more all = split (p c) (list_all p more) all

each : (p : Switch → Bool) → list_all p all_switches ≡ true → (c : Switch) → p c ≡ true
each p all c =
    let lib = first p switches.Lib (switches.Preload ∷ switches.Harts ∷ switches.Fuel ∷ switches.Now ∷ switches.Trace ∷ []) all in
    let preload = first p switches.Preload (switches.Harts ∷ switches.Fuel ∷ switches.Now ∷ switches.Trace ∷ []) lib.1 in
    let harts = first p switches.Harts (switches.Fuel ∷ switches.Now ∷ switches.Trace ∷ []) preload.1 in
    let fuel = first p switches.Fuel (switches.Now ∷ switches.Trace ∷ []) harts.1 in
    let now = first p switches.Now (switches.Trace ∷ []) fuel.1 in
    let trace = first p switches.Trace [] now.1 in
    of_each lib.0 preload.0 harts.0 fuel.0 now.0 trace.0 c
  where
    of_each : p switches.Lib ≡ true → p switches.Preload ≡ true → p switches.Harts ≡ true → p switches.Fuel ≡ true → p switches.Now ≡ true → p switches.Trace ≡ true → (d : Switch) → p d ≡ true
    of_each lib preload harts fuel now trace switches.Lib = lib
    of_each lib preload harts fuel now trace switches.Preload = preload
    of_each lib preload harts fuel now trace switches.Harts = harts
    of_each lib preload harts fuel now trace switches.Fuel = fuel
    of_each lib preload harts fuel now trace switches.Now = now
    of_each lib preload harts fuel now trace switches.Trace = trace

most : (n : ℕ) → nat_le n 1 ≡ true → n ≤ 1
most n e = search (rules, e)

least : (n : ℕ) → n ≤ 1 → nat_le n 1 ≡ true
least n e = search (rules, e)

once_of : (pieces : List Piece) → stand_once pieces ≡ true → AreOnce (switches_of pieces)
once_of pieces all c =
    let at : length (filter (is_of c) pieces) ≤ 1 = most (length (filter (is_of c) pieces)) (each (λ d. nat_le (length (filter (is_of d) pieces)) 1) all c) in
    let same : length (filter (is_of c) pieces) ≡ times c (switches_of pieces) = pieces_times c pieces in
    omega (arith, at, same)

all_once : (p : Switch → Bool) (cs : List Switch) → ((c : Switch) → p c ≡ true) → list_all p cs ≡ true
all_once p [] each = refl
all_once p (c ∷ cs) each = ap₂ (λ (a b : Bool). a && b) (each c) (all_once p cs each)

to_once : (pieces : List Piece) → AreOnce (switches_of pieces) → stand_once pieces ≡ true
to_once pieces once = all_once (λ d. nat_le (length (filter (is_of d) pieces)) 1) all_switches
    (λ c. let few : times c (switches_of pieces) ≤ 1 = once c in let same : length (filter (is_of c) pieces) ≡ times c (switches_of pieces) = pieces_times c pieces in
    least (length (filter (is_of c) pieces)) (omega (arith, few, same)))

-- one that stands nowhere may stand once more
once_more : (c d : Switch) (seen : List Switch) → list_any (is_switch c) seen ≡ false → AreOnce seen → (b : Bool) → is_switch d c ≡ b → times d (seen ++ c ∷ []) ≤ 1
once_more c d seen none once true same =
    let all : times d (seen ++ c ∷ []) ≡ times d seen + times d (c ∷ []) = times_end d seen (c ∷ []) in
    let one : times d (c ∷ []) ≡ 1 + 0 = times_first d c [] true same in
    let like : times d seen ≡ times c seen = ap (λ (n : Text). length (filter (λ x. bytes_eq n (name_of x)) seen)) ((bytes_eq-Decides (name_of d) (name_of c)).0 same) in
    let no : times c seen ≡ 0 = no_times c seen none in
    omega (arith, all, one, like, no)
once_more c d seen none once false same =
    let all : times d (seen ++ c ∷ []) ≡ times d seen + times d (c ∷ []) = times_end d seen (c ∷ []) in
    let one : times d (c ∷ []) ≡ 0 + 0 = times_first d c [] false same in
    let few : times d seen ≤ 1 = once d in
    omega (arith, all, one, few)

-- words behind the end of the options
says_others : (known : List Switch) (words : List Text) → Says known true words (others_of words)
says_others known [] = Says.no_more true
says_others known (word ∷ words) = Says.is_behind word words (others_of words) (says_others known words)

no_switches : (words : List Text) → switches_of (others_of words) ≡ []
no_switches [] = refl
no_switches (word ∷ words) = no_switches words

any_switch : (c : Switch) (pieces : List Piece) → list_any (is_switch c) (switches_of pieces) ≡ stands c pieces
any_switch c [] = refl
any_switch c (Piece.flag d ∷ rest) = ap (λ (t : Bool). is_switch c d || t) (any_switch c rest)
any_switch c (Piece.valued d value ∷ rest) = ap (λ (t : Bool). is_switch c d || t) (any_switch c rest)
any_switch c (Piece.other word ∷ rest) = any_switch c rest

-- ---- so far

-- what words say begins with these pieces
pub record Behind (known : List Switch) (front : List Piece) (rest : List Text) (pieces : List Piece) : Type 0 where
  pub more : List Piece
  pub is : pieces ≡ front ++ more
  pub says : Says known false rest more

pub record At (known : List Switch) (words : List Text) (said : Said) (rest : List Text) : Type 0 where
  pub front : List Piece
  pub right : AreRight front
  pub tells : Tells front said
  pub once : AreOnce (switches_of front)
  pub forth : (more : List Piece) → Says known false rest more → Says known false words (front ++ more)
  pub back : (pieces : List Piece) → Says known false words pieces → Behind known front rest pieces
  pub room : said.others + length rest ≤ length words

pub start : (known : List Switch) (words : List Text) → At known words nothing words
start known words = record {
  front = [];
  right = tt;
  tells = told_nothing;
  once = λ c. omega arith;
  forth = λ more says. says;
  back = λ pieces says. record { more = pieces; is = refl; says = says };
  room = omega arith;
}

module _ (known : List Switch) (words : List Text) (said : Said) where
  -- nothing is left
  pub done : At known words said [] → IsSaid known words said
  done at = record {
    pieces = at.front;
    says = subst (Says known false words) (append-nil at.front) (at.forth [] (Says.no_more false));
    once = to_once at.front at.once;
    tells = at.tells;
  }

  module _ (word : Text) (rest behind : List Text) (at : At known words said (word ∷ rest)) where
    leads : (front : Front) → read_front known word rest ≡ Some (front, behind) → (length behind ≤ length rest) × Leads known front word rest behind
    leads front is = subst (FrontLeads known word rest) is (front_leads known word rest)

    -- what stands at the front is known
    abbrev Followed : Front → List Piece → Type 0
    Followed front pieces = Follow known front word rest behind pieces

    followed : (front : Front) → read_front known word rest ≡ Some (front, behind) → (pieces : List Piece) → Says known false (word ∷ rest) pieces → Followed front pieces
    followed front is pieces says =
        let has = has_front known word rest pieces says in
        let same : (has.front, has.behind) ≡ (front, behind) = same_some (has.front, has.behind) (front, behind) (sym has.is ∙ is) in
        subst (λ (p : Front × List Text). Follow known p.0 word rest p.1 pieces) same has.follow
      where
        same_some : (x y : Front × List Text) → Some x ≡ Some y → x ≡ y
        same_some x y e = cc

    pub room_behind : (front : Front) → read_front known word rest ≡ Some (front, behind) → said.others + length behind < length words
    room_behind front is =
        let less : length behind ≤ length rest = (leads front is).0 in
        let room : said.others + length (word ∷ rest) ≤ length words = at.room in
        omega (arith, less, room)

    pub shorter : (front : Front) → read_front known word rest ≡ Some (front, behind) → length behind ≤ length rest
    shorter front is = (leads front is).0

    grows_by : (w : Bor Text) → w.now ≡ word → Grows said (word ∷ []) (with_word said w)
    grows_by w is = record { kept = refl; count = refl; start = copied_or said.first w ∙ ap (λ (t : Text). option_or (option_copied said.first) (Some t)) is }
      where
        copied_or : (o : Option (Bor Text)) (x : Bor Text) → option_copied (option_or o (Some x)) ≡ option_or (option_copied o) (Some x.now)
        copied_or None x = refl
        copied_or (Some y) x = refl

    pub another : read_front known word rest ≡ Some (fronts.Word, behind) → (w : Bor Text) → w.now ≡ word → At known words (with_word said w) behind
    another is w named = record {
      front = at.front ++ Piece.other word ∷ [];
      right = right_end at.front (Piece.other word ∷ []) at.right (tt, tt);
      tells = told_words at.front said (with_word said w) (word ∷ []) at.tells (grows_by w named);
      once = subst AreOnce (sym (switches_end at.front (Piece.other word ∷ []) ∙ append-nil (switches_of at.front))) at.once;
      forth = λ more says. subst (Says known false words) (sym (grouped at.front (Piece.other word) more)) (at.forth (Piece.other word ∷ more) ((leads fronts.Word is).1 more says));
      back = λ pieces says. (let b = at.back pieces says in on b.more pieces b.is (followed fronts.Word is b.more b.says));
      room = (let r : said.others + length behind < length words = room_behind fronts.Word is in omega (arith, r));
    }
      where
        on : (more pieces : List Piece) → pieces ≡ at.front ++ more → Followed fronts.Word more → Behind known (at.front ++ Piece.other word ∷ []) behind pieces
        on more pieces same (Follow.at_word _ _ _ others says) = record { more = others; is = same ∙ sym (grouped at.front (Piece.other word) others); says = says }

    none_stands : (c : Switch) → has_option said c ≡ false → stands c at.front ≡ false
    none_stands c none = sym (has_is at.front said at.right at.tells c) ∙ none

    pub chosen : (c : Switch) → read_front known word rest ≡ Some (fronts.Option c, behind) → has_option said c ≡ false → (value : Option (Bor Text)) → option_copied value ≡ value_at c word rest
        → At known words (with_option said c value) behind
    chosen c is none value taken = record {
      front = at.front ++ piece ∷ [];
      right = right_end at.front (piece ∷ []) at.right (at_word.right, tt);
      tells = told_option c piece at.front said value at_word.of (at_word.value ∙ sym taken) (none_stands c none) at.tells;
      once = once;
      forth = λ more says. subst (Says known false words) (sym (grouped at.front piece more)) (at.forth (piece ∷ more) (lead.1.2 more says));
      back = λ pieces says. (let b = at.back pieces says in on b.more pieces b.is (followed (fronts.Option c) is b.more b.says));
      room = (let r : said.others + length behind < length words = room_behind (fronts.Option c) is in let same : (with_option said c value).others ≡ said.others = kept c in omega (arith, r, same));
    }
      where
        lead : (length behind ≤ length rest) × Leads known (fronts.Option c) word rest behind
        lead = leads (fronts.Option c) is

        piece : Piece
        piece = lead.1.0

        at_word : StandsAt c word rest piece
        at_word = lead.1.1

        kept : (d : Switch) → (with_option said d value).others ≡ said.others
        kept switches.Lib = refl
        kept switches.Preload = refl
        kept switches.Harts = refl
        kept switches.Fuel = refl
        kept switches.Now = refl
        kept switches.Trace = refl

        on : (more pieces : List Piece) → pieces ≡ at.front ++ more → Followed (fronts.Option c) more → Behind known (at.front ++ piece ∷ []) behind pieces
        on more pieces same (Follow.at_switch _ own _ _ _ others stands says) =
            let is_own : own ≡ piece = same_piece c own piece stands.of at_word.of (stands.value ∙ sym at_word.value) in
            record { more = others; is = same ∙ ap (λ (p : Piece). at.front ++ p ∷ others) is_own ∙ sym (grouped at.front piece others); says = says }

        chosen_is : (p : Piece) → IsPieceOf c p → switches_of (p ∷ []) ≡ c ∷ []
        chosen_is p IsPieceOf.flag = refl
        chosen_is p (IsPieceOf.valued v) = refl

        once : AreOnce (switches_of (at.front ++ piece ∷ []))
        once = subst AreOnce (sym (switches_end at.front (piece ∷ []) ∙ ap (λ (cs : List Switch). switches_of at.front ++ cs) (chosen_is piece at_word.of)))
            (λ d. once_more c d (switches_of at.front) (any_switch c at.front ∙ none_stands c none) at.once (is_switch d c) refl)

    -- the end of the options
    pub ended : read_front known word rest ≡ Some (fronts.End, behind) → (new : Said) → Grows said behind new → IsSaid known words new
    ended is new grows = record {
      pieces = at.front ++ others_of behind;
      says = at.forth (others_of behind) ((leads fronts.End is).1 (others_of behind) (says_others known behind));
      once = to_once (at.front ++ others_of behind)
          (subst AreOnce (sym (switches_end at.front (others_of behind) ∙ ap (λ (cs : List Switch). switches_of at.front ++ cs) (no_switches behind) ∙ append-nil (switches_of at.front))) at.once);
      tells = told_words at.front said new behind at.tells grows;
    }

    -- an option that stands already
    pub twice : (c : Switch) → read_front known word rest ≡ Some (fronts.Option c, behind) → has_option said c ≡ true → IsUnsaid known words
    twice c is has pieces says all =
        (let b = at.back pieces says in too_many b.more b.is (followed (fronts.Option c) is b.more b.says) (once_of pieces all c))
      where
        some : (more : List Piece) → Followed (fronts.Option c) more → 1 ≤ times c (switches_of more)
        some more (Follow.at_switch _ own _ _ _ others stands says) = stands_first c own others stands.of

        too_many : (more : List Piece) → pieces ≡ at.front ++ more → Followed (fronts.Option c) more → times c (switches_of pieces) ≤ 1 → ⊥
        too_many more same follow few =
            let split : times c (switches_of pieces) ≡ times c (switches_of at.front) + times c (switches_of more) =
            ap (λ (ps : List Piece). times c (switches_of ps)) same ∙ ap (times c) (switches_end at.front more) ∙ times_end c (switches_of at.front) (switches_of more) in
            let one : 1 ≤ times c (switches_of at.front) = has_times c (switches_of at.front) (any_switch c at.front ∙ sym (has_is at.front said at.right at.tells c) ∙ has) in
            let two : 1 ≤ times c (switches_of more) = some more follow in
            omega (arith, split, one, two, few)

  -- nothing that words may say
  pub stuck : (word : Text) (rest : List Text) → At known words said (word ∷ rest) → read_front known word rest ≡ None → IsUnsaid known words
  stuck word rest at none pieces says all =
      let has = has_front known word rest (at.back pieces says).more (at.back pieces says).says in
      none_some (has.front, has.behind) (sym none ∙ has.is)
    where
      none_some : (x : Front × List Text) → None ≡ Some x → ⊥
      none_some x e = let d : None ≡ Some x = e in cc
