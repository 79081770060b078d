-- What dlsym and dlvsym ask for fits, whatever the names.
use Rattle.std.proofs.Common.{◌≡◌, ℕ, ◌≤◌, Bool, true, false, List, length, Some, None, refl, ap, subst, arith}
use Rattle.std.proofs.lemmas.Bool.{leb-true, le-leb}
use Rattle.std.proofs.lemmas.List.{length-take}
use Rattle.history_event.specs.declared.event.SymAsk.{SymAsk}
use Rattle.history_state.specs.Asking.{is_too_long}
use Rattle.history_state.specs.Objects.{has_namespace}
use Rattle.history_state.specs.State.{State}
use Rattle.history_calls.specs.Call.{asked_version, caller_namespace, dlsym, dlvsym, known, looks_up}
use Rattle.history_calls.specs.Complete.{FitsSymbol}

known_most : (name : List ℕ) → length (known name) ≤ 256
known_most name = let is = length-take 256 name in omega (arith, is)

-- what is known of a name shows whether it is too long
known_long : (name : List ℕ) → is_too_long (known name) ≡ true → is_too_long name ≡ true
known_long name e =
    let is = length-take 256 name in
    let long : 256 ≤ length (known name) = leb-true 256 (length (known name)) e in
    le-leb 256 (length name) (omega (arith, is, long))

same_ask : (a b : SymAsk) → looks_up a ≡ looks_up b → a ≡ b
same_ask a b e = cc

pub dlsym_fits : (s : State) (ra handle : ℕ) (name : List ℕ) → has_namespace s (caller_namespace s ra) ≡ true → (ask : SymAsk) → dlsym s ra handle name ≡ looks_up ask → FitsSymbol s ask
dlsym_fits s ra handle name there ask e =
    subst (FitsSymbol s) (same_ask (record { ns = caller_namespace s ra; handle = handle; name = known name; version = None }) ask e)
    (record { namespace = there; name = known_most name; alone = λ long. refl; version = λ text none. absurd (let d : None ≡ Some text = none in cc) })

pub dlvsym_fits : (s : State) (ra handle : ℕ) (name version : List ℕ) → has_namespace s (caller_namespace s ra) ≡ true → (ask : SymAsk) → dlvsym s ra handle name version ≡ looks_up ask → FitsSymbol s ask
dlvsym_fits s ra handle name version there ask e =
    subst (FitsSymbol s) (same_ask (record { ns = caller_namespace s ra; handle = handle; name = known name; version = asked_version (is_too_long name) version }) ask e)
    (record {
      namespace = there;
      name = known_most name;
      alone = λ long. ap (λ (t : Bool). asked_version t version) (known_long name long);
      version = λ text is. few (is_too_long name) text is;
    })
  where
    few : (t : Bool) (text : List ℕ) → asked_version t version ≡ Some text → length text ≤ 256
    few true text is = absurd (let d : None ≡ Some text = is in cc)
    few false text is = let same : known version ≡ text = cc in subst (λ (xs : List ℕ). length xs ≤ 256) same (known_most version)
