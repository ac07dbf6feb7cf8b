-- The first answer that is not empty, and the devices that are asked.
use Rattle.std.proofs.Common.{◌≡◌, ◌↔◌, ℕ, suc, ◌+◌, Bool, true, false, not, ◌||◌, cond, List, [], ◌∷◌, ◌++◌, length, take, drop, map, find, flat_map, Some, None, unwrap_or, if◌then◌else◌, refl, sym, ap, ◌∙◌, true≢false, arith}
use Rattle.std.specs.List.{list_any, position_or_len}
use Rattle.std.proofs.lemmas.List.{append-nil, drop_at, map-append, take-map, take_at}
use Rattle.text_bytes.specs.Texts.{is_empty}
use Rattle.text_bytes.specs.declared.profile.Profile.{Profile}
use Rattle.text_bytes.specs.declared.profile.Profile.TheVariants.{Manual, Udev}
use Rattle.text_bytes.specs.Text.{Text}
use Rattle.text_tables.specs.Pairs.{Pair}
use Rattle.builtin_devices.specs.Knowledge.{Known}
use Rattle.eval_state.specs.declared.state.State.{State}
use Rattle.eval_commands.specs.LookUps.{Candidate, candidates, count_before_usb, counted_properties, first_found, found, is_last, modaliases, modaliases_by, modaliases_in, texts, through, udev_modaliases_of}
use Rattle.eval_commands.specs.declared.hwdb.Hwdb.{Hwdb}
use Rattle.eval_laws.specs.LookUps.{IsFirstAnswer, texts_of}

-- ---- answers

nothing_in : (properties : List Pair) → is_empty properties ≡ true → properties ≡ []
nothing_in [] e = refl
nothing_in (p ∷ properties) e = absurd (true≢false (sym e))

empty_is : (properties : List Pair) → properties ≡ [] → is_empty properties ≡ true
empty_is properties e = ap is_empty e

prefix_empty : (a b : List Pair) → a ++ b ≡ [] → a ≡ []
prefix_empty [] b e = refl
prefix_empty (p ∷ a) b e = absurd (cc)

back_empty : (a b : List Pair) → a ++ b ≡ [] → b ≡ []
back_empty [] b e = e
back_empty (p ∷ a) b e = absurd (cc)

module _ (f : Text → List Pair) where
  -- an answer that is empty is skipped, and one that is not is found
  skipped : (t : Text) (ts : List Text) → is_empty (f t) ≡ true → first_found (map f (t ∷ ts)) ≡ first_found (map f ts)
  skipped t ts e = ap (λ b. unwrap_or (cond (not b) (Some (f t)) (find (λ properties. not (is_empty properties)) (map f ts))) []) e

  taken : (t : Text) (ts : List Text) → is_empty (f t) ≡ false → first_found (map f (t ∷ ts)) ≡ f t
  taken t ts e = ap (λ b. unwrap_or (cond (not b) (Some (f t)) (find (λ properties. not (is_empty properties)) (map f ts))) []) e

  -- The first of the texts that gives something gives these properties.
  pub record IsFirst (ts : List Text) (properties : List Pair) : Type 0 where
    pub before : List Text
    pub text : Text
    pub following : List Text
    pub whole : ts ≡ before ++ text ∷ following
    pub nothing : flat_map f before ≡ []
    pub gives : f text ≡ properties

  pub first : (ts : List Text) (properties : List Pair) → is_empty properties ≡ false → first_found (map f ts) ≡ properties → IsFirst ts properties
  first [] properties some e = absurd (true≢false (ap is_empty e ∙ some))
  first (t ∷ ts) properties some e = by (is_empty (f t)) refl (first ts properties some)
    where
      by : (b : Bool) → is_empty (f t) ≡ b → (first_found (map f ts) ≡ properties → IsFirst ts properties) → IsFirst (t ∷ ts) properties
      by false is more = record { before = []; text = t; following = ts; whole = refl; nothing = refl; gives = sym (taken t ts is) ∙ e }
      by true is more =
          let h = more (sym (skipped t ts is) ∙ e) in
          record {
            before = t ∷ h.before;
            text = h.text;
            following = h.following;
            whole = ap (λ us. t ∷ us) h.whole;
            nothing = ap (λ p. p ++ flat_map f h.before) (nothing_in (f t) is) ∙ h.nothing;
            gives = h.gives;
          }

  first_after : (before : List Text) (t : Text) (following : List Text) → flat_map f before ≡ [] → is_empty (f t) ≡ false → first_found (map f (before ++ t ∷ following)) ≡ f t
  first_after [] t following nothing some = taken t following some
  first_after (b ∷ before) t following nothing some =
      skipped b (before ++ t ∷ following) (empty_is (f b) (prefix_empty (f b) (flat_map f before) nothing))
      ∙ first_after before t following (back_empty (f b) (flat_map f before) nothing) some

  pub first_back : (ts : List Text) (properties : List Pair) → is_empty properties ≡ false → IsFirst ts properties → first_found (map f ts) ≡ properties
  first_back ts properties some h =
      ap (λ us. first_found (map f us)) h.whole ∙ first_after h.before h.text h.following h.nothing (ap is_empty h.gives ∙ some) ∙ h.gives

  pub none_given : (ts : List Text) → first_found (map f ts) ≡ [] → flat_map f ts ≡ []
  none_given [] e = refl
  none_given (t ∷ ts) e = by (is_empty (f t)) refl (none_given ts)
    where
      by : (b : Bool) → is_empty (f t) ≡ b → (first_found (map f ts) ≡ [] → flat_map f ts ≡ []) → f t ++ flat_map f ts ≡ []
      by false is more = absurd (true≢false (sym (empty_is (f t) (sym (taken t ts is) ∙ e)) ∙ is))
      by true is more = ap (λ p. p ++ flat_map f ts) (nothing_in (f t) is) ∙ more (sym (skipped t ts is) ∙ e)

  pub none_found : (ts : List Text) → flat_map f ts ≡ [] → first_found (map f ts) ≡ []
  none_found [] e = refl
  none_found (t ∷ ts) e = skipped t ts (empty_is (f t) (prefix_empty (f t) (flat_map f ts) e)) ∙ none_found ts (back_empty (f t) (flat_map f ts) e)

pub first_is_found : (known : Known) (hwdb : Hwdb) (state : State) (properties : List Pair) → is_empty properties ≡ false
    → (found known hwdb state ≡ properties) ↔ IsFirstAnswer known hwdb (texts hwdb state) properties
unfolding found
first_is_found known hwdb state properties some = (
  λ e. let h = first (counted_properties known hwdb) (texts hwdb state) properties some e in
      record { before = h.before; text = h.text; following = h.following; whole = h.whole; nothing = h.nothing; gives = h.gives },
  λ h. first_back (counted_properties known hwdb) (texts hwdb state) properties some (record { before = h.before; text = h.text; following = h.following; whole = h.whole; nothing = h.nothing; gives = h.gives }),
)

pub none_is_found : (known : Known) (hwdb : Hwdb) (state : State) → (found known hwdb state ≡ []) ↔ (flat_map (counted_properties known hwdb) (texts hwdb state) ≡ [])
unfolding found
none_is_found known hwdb state = (none_given (counted_properties known hwdb) (texts hwdb state), none_found (counted_properties known hwdb) (texts hwdb state))

-- ---- devices

module _ {X : Type 0} (test : X → Bool) where
  through_all : (xs : List X) → list_any test xs ≡ false → through test xs ≡ xs
  through_all [] e = refl
  through_all (x ∷ xs) e = by (test x) e (through_all xs)
    where
      by : (b : Bool) → (b || list_any test xs) ≡ false → (list_any test xs ≡ false → through test xs ≡ xs) → (if b then x ∷ [] else x ∷ through test xs) ≡ x ∷ xs
      by true e more = absurd (true≢false e)
      by false e more = ap (λ ys. x ∷ ys) (more e)

  through_last : (before : List X) (x : X) (following : List X) → list_any test before ≡ false → test x ≡ true → through test (before ++ x ∷ following) ≡ before ++ x ∷ []
  through_last [] x following e is = ap (λ b. if b then x ∷ [] else x ∷ through test following) is
  through_last (y ∷ before) x following e is = by (test y) e (λ h. through_last before x following h is)
    where
      by : (b : Bool) → (b || list_any test before) ≡ false → (list_any test before ≡ false → through test (before ++ x ∷ following) ≡ before ++ x ∷ [])
          → (if b then y ∷ [] else y ∷ through test (before ++ x ∷ following)) ≡ y ∷ (before ++ x ∷ [])
      by true e more = absurd (true≢false e)
      by false e more = ap (λ ys. y ∷ ys) (more e)

  -- how many come before the first that passes
  count_here : (before : List X) (x : X) (following : List X) → list_any test before ≡ false → test x ≡ true → position_or_len test (before ++ x ∷ following) ≡ length before
  count_here [] x following e is = ap (λ b. cond (not b) (1 + position_or_len test following) 0) is
  count_here (y ∷ before) x following e is = by (test y) e (λ h. count_here before x following h is)
    where
      by : (b : Bool) → (b || list_any test before) ≡ false → (list_any test before ≡ false → position_or_len test (before ++ x ∷ following) ≡ length before)
          → cond (not b) (1 + position_or_len test (before ++ x ∷ following)) 0 ≡ suc (length before)
      by true e more = absurd (true≢false e)
      by false e more = let n : position_or_len test (before ++ x ∷ following) ≡ length before = more e in omega (arith, n)

  count_all : (xs : List X) → list_any test xs ≡ false → position_or_len test xs ≡ length xs
  count_all [] e = refl
  count_all (x ∷ xs) e = by (test x) e (count_all xs)
    where
      by : (b : Bool) → (b || list_any test xs) ≡ false → (list_any test xs ≡ false → position_or_len test xs ≡ length xs) → cond (not b) (1 + position_or_len test xs) 0 ≡ suc (length xs)
      by true e more = absurd (true≢false e)
      by false e more = let n : position_or_len test xs ≡ length xs = more e in omega (arith, n)

module _ (hwdb : Hwdb) where
  -- a modalias after the prefix
  abbrev prefixed : Text → Text
  prefixed modalias = hwdb.prefix ++ modalias

  -- the devices of an event, without a modalias that is given
  by_devices : (state : State) → hwdb.modalias ≡ None → texts hwdb state ≡ map prefixed (modaliases_by state.event.profile hwdb.subsystem (candidates state))
  by_devices state none = ap (λ given. map prefixed (modaliases state.event.profile hwdb given (candidates state))) none

  pub text_given : (state : State) (modalias : Text) → hwdb.modalias ≡ Some modalias → texts hwdb state ≡ (hwdb.prefix ++ modalias) ∷ []
  text_given state modalias e = ap (λ given. map prefixed (modaliases state.event.profile hwdb given (candidates state))) e

  pub texts_up_to : (state : State) (before following : List Candidate) (last : Candidate) → state.event.profile ≡ Manual → hwdb.modalias ≡ None → candidates state ≡ before ++ last ∷ following
      → list_any (is_last hwdb.subsystem) before ≡ false → is_last hwdb.subsystem last ≡ true → texts hwdb state ≡ texts_of hwdb (before ++ last ∷ [])
  texts_up_to state before following last manual none are others is =
      by_devices state none
      ∙ ap (λ p. map prefixed (modaliases_by p hwdb.subsystem (candidates state))) manual
      ∙ ap (λ ds. texts_of hwdb (through (is_last hwdb.subsystem) ds)) are
      ∙ ap (texts_of hwdb) (through_last (is_last hwdb.subsystem) before last following others is)

  -- those of some devices, and then the first of others
  two_parts : (before following : List Candidate)
      → map prefixed (modaliases_in hwdb.subsystem before ++ take 1 (modaliases_in hwdb.subsystem following)) ≡ texts_of hwdb before ++ take 1 (texts_of hwdb following)
  two_parts before following =
      map-append prefixed (modaliases_in hwdb.subsystem before) (take 1 (modaliases_in hwdb.subsystem following))
      ∙ ap (λ ts. texts_of hwdb before ++ ts) (sym (take-map prefixed 1 (modaliases_in hwdb.subsystem following)))

  -- devices that are parted so, by how many come first
  parted : (before following : List Candidate) (n : ℕ) → length before ≡ n
      → map prefixed (modaliases_in hwdb.subsystem (take n (before ++ following)) ++ take 1 (modaliases_in hwdb.subsystem (drop n (before ++ following))))
      ≡ texts_of hwdb before ++ take 1 (texts_of hwdb following)
  parted before following n is =
      ap (λ ds. map prefixed (modaliases_in hwdb.subsystem ds ++ take 1 (modaliases_in hwdb.subsystem (drop n (before ++ following))))) (take_at before following n is)
      ∙ ap (λ ds. map prefixed (modaliases_in hwdb.subsystem before ++ take 1 (modaliases_in hwdb.subsystem ds))) (drop_at before following n is)
      ∙ two_parts before following

  pub texts_from_usb : (state : State) (before following : List Candidate) (last : Candidate) → state.event.profile ≡ Udev → hwdb.modalias ≡ None → candidates state ≡ before ++ last ∷ following
      → list_any (is_last hwdb.subsystem) before ≡ false → is_last hwdb.subsystem last ≡ true → texts hwdb state ≡ texts_of hwdb before ++ take 1 (texts_of hwdb (last ∷ following))
  texts_from_usb state before following last udev none are others is =
      by_devices state none
      ∙ ap (λ p. map prefixed (modaliases_by p hwdb.subsystem (candidates state))) udev
      ∙ ap (λ ds. map prefixed (udev_modaliases_of hwdb.subsystem ds)) are
      ∙ parted before (last ∷ following) (count_before_usb hwdb.subsystem (before ++ last ∷ following)) (sym (count_here (is_last hwdb.subsystem) before last following others is))

  none_of_usb : (profile : Profile) (devices : List Candidate) → list_any (is_last hwdb.subsystem) devices ≡ false → map prefixed (modaliases_by profile hwdb.subsystem devices) ≡ texts_of hwdb devices
  none_of_usb Manual devices others = ap (texts_of hwdb) (through_all (is_last hwdb.subsystem) devices others)
  none_of_usb Udev devices others =
      let n : count_before_usb hwdb.subsystem devices ≡ length devices = count_all (is_last hwdb.subsystem) devices others in
      ap (λ ds. map prefixed (udev_modaliases_of hwdb.subsystem ds)) (sym (append-nil devices))
      ∙ parted devices [] (count_before_usb hwdb.subsystem (devices ++ [])) (sym (ap (count_before_usb hwdb.subsystem) (append-nil devices) ∙ n))
      ∙ append-nil (texts_of hwdb devices)

  pub texts_of_all : (state : State) → hwdb.modalias ≡ None → list_any (is_last hwdb.subsystem) (candidates state) ≡ false → texts hwdb state ≡ texts_of hwdb (candidates state)
  texts_of_all state none others = by_devices state none ∙ none_of_usb state.event.profile (candidates state) others
