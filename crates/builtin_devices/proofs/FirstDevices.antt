-- The first devices above a path, as more devices are looked at.
use Rattle.std.proofs.Common.{◌≡◌, ℕ, ◌+◌, ◌<◌, ◌&&◌, nat_eq, Bool, true, false, cond, List, [], ◌∷◌, ◌++◌, length, get_or, take, Option, Some, None, option_copied, unwrap_or, find, Bor, ⊎_elim, refl, sym, ap, ◌∙◌, true≢false, arith, le_of_lt, length-take-le}
use Rattle.std.specs.Option.{option_or}
use Rattle.std.specs.Cmp.Lexicographic.{bytes_decides}
use Rattle.std.proofs.lemmas.Bool.{and_parts, cases_eq, eq-eqb, eqb-true, false_from_ne_true, lt-ltb}
use Rattle.std.proofs.lemmas.List.{take_more}
use Rattle.std.proofs.lemmas.List.Folds.{find-append}
use Rattle.text_bytes.specs.Text.{Text}
use Rattle.text_tables.specs.Texts.{same_text}
use Rattle.device_core.specs.Values.{DeviceValue, EventValue, chain}
use Rattle.builtin_devices.specs.Devices.{device_before, is_at}
use Rattle.builtin_devices.specs.Files.{described_devices}
use Rattle.builtin_devices.specs.Upward.{first_before, is_above, is_cut}

-- none after a choice changes nothing
or_none : {X : Type 0} (o : Option X) → option_or o None ≡ o
or_none None = refl
or_none (Some x) = refl

-- it does not matter which two choices are made first
or_or : {X : Type 0} (a b c : Option X) → option_or (option_or a b) c ≡ option_or a (option_or b c)
or_or None b c = refl
or_or (Some x) b c = refl

-- of no devices none is above
none_before : (path : Text) (k : ℕ) → first_before [] path k ≡ None
unfolding first_before
none_before path k = elim (is_cut path k) as (λ (b : Bool). cond {A = Option DeviceValue} b None None ≡ None) [ true ↦ refl | false ↦ refl ]

-- no device more
pub none_more : (path : Text) (k : ℕ) (o : Option DeviceValue) → option_or o (first_before [] path k) ≡ o
none_more path k o = ap (option_or o) (none_before path k) ∙ or_none o

-- the first of more devices is that of the former, if there is one, and else that of the others
before_more : (xs ys : List DeviceValue) (path : Text) (k : ℕ) → first_before (xs ++ ys) path k ≡ option_or (first_before xs path k) (first_before ys path k)
unfolding first_before
before_more xs ys path k =
    let test = is_at (take k path) in
    elim (is_cut path k) as (λ (b : Bool). cond b (find test (xs ++ ys)) None ≡ option_or (cond b (find test xs) None) (cond b (find test ys) None))
    [ true ↦ find-append test xs ys | false ↦ refl ]

-- one device more
pub one_more : (ds : List DeviceValue) (path : Text) (k i : ℕ) (d : DeviceValue) (o : Option DeviceValue) → i < length ds → d ≡ get_or ds i d
    → option_or (option_or o (first_before (take i ds) path k)) (first_before (d ∷ []) path k) ≡ option_or o (first_before (take (i + 1) ds) path k)
one_more ds path k i d o l at =
    or_or o (first_before (take i ds) path k) (first_before (d ∷ []) path k)
    ∙ ap (option_or o) (sym (before_more (take i ds) (d ∷ []) path k)
    ∙ ap (λ (x : DeviceValue). first_before (take i ds ++ x ∷ []) path k) at
    ∙ ap (λ (xs : List DeviceValue). first_before xs path k) (sym (take_more ds i d l)))

-- a device alone, by its own path
module _ (path own : Text) (d : DeviceValue) (its : own ≡ d.path) where
  abbrev is_found : ℕ → Bool
  is_found k = is_cut path k && same_text (take k path) own

  alone : (k : ℕ) → first_before (d ∷ []) path k ≡ cond (is_found k) (Some d) None
  unfolding first_before
  alone k =
      let same = same_text (take k path) own in
      ap (λ (t : Text). cond (is_cut path k) (cond (same_text (take k path) t) (Some d) None) None) (sym its)
      ∙ elim (is_cut path k) as (λ (b : Bool). cond b (cond same (Some d) None) None ≡ cond (b && same) (Some d) None) [ true ↦ refl | false ↦ refl ]

  -- it is found nowhere but where its path ends
  found_at : (k : ℕ) → k < length path → is_found k ≡ true → k ≡ length own
  found_at k l found = sym (length-take-le k path (le_of_lt l)) ∙ ap length ((bytes_decides (take k path) own).0 (and_parts _ _ found).1)

  -- there it is found if it is above the path
  at_end : (k : ℕ) → k < length path → k ≡ length own → is_found k ≡ is_above own path
  unfolding is_above
  at_end k l e = ap is_found e ∙ ap (λ (b : Bool). b && is_found (length own)) (sym (lt-ltb (length own) (length path) (omega arith)))

  -- so it is found nowhere else, and there only if it is above the path
  elsewhere : (k : ℕ) → k < length path → (k ≡ length own → is_above own path ≡ false) → first_before (d ∷ []) path k ≡ None
  elsewhere k l apart =
      alone k
      ∙ ap (λ (b : Bool). cond b (Some d) None) (false_from_ne_true _ (λ found.
      let e = found_at k l found in
      true≢false (sym found ∙ at_end k l e ∙ apart e)))

  -- a device that is not above the path changes nothing
  pub low_stays : is_above own path ≡ false → (k : ℕ) → k < length path → (old : Option DeviceValue) → old ≡ option_or old (first_before (d ∷ []) path k)
  low_stays low k l old = sym (ap (option_or old) (elsewhere k l (λ e. low)) ∙ or_none old)

  -- one that is above it comes to its place, or leaves that to the one that is there
  pub high_comes : is_above own path ≡ true → (k : ℕ) → k < length path → (given held : Bor DeviceValue) (at : ℕ → Option (Bor DeviceValue)) (new : Option (Bor DeviceValue))
      → given.now ≡ d → held ≡ unwrap_or (at (length own)) given → new ≡ cond (nat_eq (length own) k) (Some held) (at k)
      → option_copied new ≡ option_or (option_copied (at k)) (first_before (d ∷ []) path k)
  high_comes high k l given held at new is held_is new_is = ⊎_elim here there (cases_eq k (length own))
    where
      first_of_two : (o : Option (Bor DeviceValue)) → Some (unwrap_or o given).now ≡ option_or (option_copied o) (Some d)
      first_of_two None = ap Some is
      first_of_two (Some x) = refl

      here : k ≡ length own → option_copied new ≡ option_or (option_copied (at k)) (first_before (d ∷ []) path k)
      here e =
          ap option_copied (new_is ∙ ap (λ (b : Bool). cond b (Some held) (at k)) (eq-eqb (length own) k (sym e)))
          ∙ ap (λ (x : Bor DeviceValue). Some x.now) (held_is ∙ ap (λ (q : ℕ). unwrap_or (at q) given) (sym e))
          ∙ first_of_two (at k)
          ∙ ap (option_or (option_copied (at k))) (sym (alone k ∙ ap (λ (b : Bool). cond b (Some d) None) (at_end k l e ∙ high)))

      there : (k ≡ length own → ⊥) → option_copied new ≡ option_or (option_copied (at k)) (first_before (d ∷ []) path k)
      there ne =
          let apart : nat_eq (length own) k ≡ false = false_from_ne_true _ (λ e. ne (sym (eqb-true (length own) k e))) in
          ap option_copied (new_is ∙ ap (λ (b : Bool). cond b (Some held) (at k)) apart)
          ∙ sym (ap (option_or (option_copied (at k))) (elsewhere k l (λ e. absurd (ne e))) ∙ or_none (option_copied (at k)))

-- the definition looks at the chain, and then at the others
before_is : (event : EventValue) (path : Text) (k : ℕ)
    → option_or (option_or (first_before (event.device ∷ []) path k) (first_before event.parents path k)) (first_before (described_devices event) path k) ≡ device_before event path k
unfolding first_before device_before
before_is event path k =
    let test = is_at (take k path) in
    let one = event.device ∷ [] in
    let ds = described_devices event in
    elim (is_cut path k) as (λ (b : Bool). option_or (option_or (cond b (find test one) None) (cond b (find test event.parents) None)) (cond b (find test ds) None) ≡ cond b (option_or (find test (chain event)) (find test ds)) None)
    [ true ↦ ap (λ o. option_or o (find test ds)) (sym (find-append test one event.parents)) | false ↦ refl ]

-- once the device, its parents and the others are looked at, the first of them is there
pub all_looked_at : (event : EventValue) (path : Text) (k : ℕ) (d : DeviceValue) (ps ds : List DeviceValue)
    → d ≡ event.device → ps ≡ event.parents → ds ≡ described_devices event
    → (none one two three : Option DeviceValue) → none ≡ None
    → one ≡ option_or none (first_before (d ∷ []) path k)
    → two ≡ option_or one (first_before ps path k)
    → three ≡ option_or two (first_before ds path k)
    → three ≡ device_before event path k
all_looked_at event path k d ps ds d_is ps_is ds_is None one two three e one_is two_is three_is = cc (before_is event path k)
all_looked_at event path k d ps ds d_is ps_is ds_is (Some x) one two three e one_is two_is three_is = cc
