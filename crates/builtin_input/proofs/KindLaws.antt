-- What the kinds of input devices exclude and imply.
use Rattle.std.specs.Prelude.{◌≡◌, ℕ, ◌+◌, ◌*◌, ◌≤◌, Bool, true, false, not, ◌&&◌, ◌||◌, cond, nat_le, ◌==◌, List, [], ◌∷◌, fold, length, refl}
use Rattle.std.specs.List.{list_any, range_with_len}
use Rattle.std.proofs.Common.{arith}
use Rattle.std.proofs.lemmas.Bool.{and_from, and_parts, and_right, eqb-true, le-leb, leb-true, or_left, false≢true}
use Rattle.std.proofs.lemmas.Grind.{common_steps}
use Rattle.builtin_input.specs.Bitmaps.{Bitmap, count_of, has}
use Rattle.builtin_input.specs.Groups.{is_in}
use Rattle.builtin_input.specs.Capabilities.{CapabilitiesValue, nothing}
use Rattle.builtin_input.specs.Signs.{has_multitouch, has_mouse_buttons, has_motion, has_pad_buttons, has_position, has_usual_keys, has_wheel, takes_touch, joystick_buttons, joystick_parts, key_event, takes_finger, takes_pen}
use Rattle.builtin_input.specs.Kinds.{has_keys, is_accelerometer, is_joystick, is_keyboard, is_mouse, is_of, is_plain_mouse, is_pointer, is_pointing_stick, is_tablet, is_tablet_pad, is_touchpad, is_touchscreen, kinds, may_be_joystick}
use Rattle.builtin_input.specs.declared.groups.Group.TheVariants as group
use Rattle.builtin_input.specs.declared.kinds.Kind.TheVariants as kind

-- a mouse, by its buttons or because it reports positions, is not a possible joystick
apart : (some place pen finger buttons touched aside others : Bool) → (buttons && not (aside || some && not (place && (pen || finger || buttons || touched))) && others || place && buttons && not pen && not finger) ≡ true → (some && not (place && (pen || finger || buttons || touched))) ≡ false
apart some place pen finger buttons touched aside others h = grind (arith, common_steps)

may_be_none : (c : CapabilitiesValue) → is_of kind.Mouse c ≡ true → may_be_joystick c ≡ false
unfolding is_of is_mouse is_plain_mouse may_be_joystick
may_be_none c h = apart (not (joystick_parts c == 0)) (has_position c) (takes_pen c) (takes_finger c) (has_mouse_buttons c) (takes_touch c) (is_tablet c || is_touchpad c) (has_motion c || not (has_position c)) (and_parts (not (is_accelerometer c)) (is_mouse c) h).1

pub mouse_apart : (c : CapabilitiesValue) → is_of kind.Mouse c ≡ true → is_of kind.Joystick c ≡ false
unfolding is_of is_joystick
mouse_apart c h = rw (may_be_none c h) (and_right (not (is_accelerometer c)) false refl)

-- what takes a finger is neither a touchscreen nor a mouse by its buttons
fingered : (c : CapabilitiesValue) → is_of kind.Touchpad c ≡ true → is_touchpad c ≡ true
unfolding is_of
fingered c h = (and_parts (not (is_accelerometer c)) (is_touchpad c) h).1

takes : (c : CapabilitiesValue) → is_of kind.Touchpad c ≡ true → takes_finger c ≡ true
unfolding is_touchpad
takes c h = (and_parts (has_position c || has_multitouch c) (takes_finger c) (fingered c h)).1

no_screen : (still pen touched rest : Bool) → (still && (pen && not true && touched && rest)) ≡ false
no_screen true true touched rest = refl
no_screen true false touched rest = refl
no_screen false pen touched rest = refl

pub screen_apart : (c : CapabilitiesValue) → is_of kind.Touchpad c ≡ true → is_of kind.Touchscreen c ≡ false
unfolding is_of is_touchscreen
screen_apart c h = rw (takes c h) (no_screen (not (is_accelerometer c)) (not (takes_pen c)) (takes_touch c) (has_multitouch c || has_position c && not (has_mouse_buttons c)))

no_buttons : (buttons tablet joystick rest : Bool) → (buttons && not (tablet || true || joystick) && rest) ≡ false
no_buttons true true joystick rest = refl
no_buttons true false joystick rest = refl
no_buttons false tablet joystick rest = refl

pub buttons_apart : (c : CapabilitiesValue) → is_of kind.Touchpad c ≡ true → is_plain_mouse c ≡ false
unfolding is_plain_mouse
buttons_apart c h = rw (fingered c h) (no_buttons (has_mouse_buttons c) (is_tablet c) (may_be_joystick c) (has_motion c || not (has_position c)))

-- a pad is a tablet
kept : (still tablet pad : Bool) → (still && (tablet && pad)) ≡ true → (still && tablet) ≡ true
kept true true pad h = refl
kept true false pad h = h
kept false tablet pad h = h

pub pad_is_tablet : (c : CapabilitiesValue) → is_of kind.TabletPad c ≡ true → is_of kind.Tablet c ≡ true
unfolding is_of is_tablet_pad
pad_is_tablet c h = kept (not (is_accelerometer c)) (is_tablet c) (has_pad_buttons c) h

-- as many numbers pass a test as pass a narrower one
added : (a b : Bool) → (a ≡ true → b ≡ true) → (m n : ℕ) → m ≤ n → m + cond a 1 0 ≤ n + cond b 1 0
added true true within m n h = omega arith
added true false within m n h = absurd (false≢true (within refl))
added false true within m n h = omega arith
added false false within m n h = omega arith

counted : (p q : ℕ → Bool) → ((number : ℕ) → p number ≡ true → q number ≡ true) → (numbers : List ℕ) (m n : ℕ) → m ≤ n → fold (λ (a x : ℕ). a + cond (p x) 1 0) m numbers ≤ fold (λ (a x : ℕ). a + cond (q x) 1 0) n numbers
counted p q within [] m n h = h
counted p q within (x ∷ numbers) m n h = counted p q within numbers (m + cond (p x) 1 0) (n + cond (q x) 1 0) (added (p x) (q x) (within x) m n h)

both : (p q member : Bool) → (p ≡ true → q ≡ true) → (p && member) ≡ true → (q && member) ≡ true
both p q member within h = and_from q member (within (and_parts p member h).0) (and_parts p member h).1

wider : (p q : ℕ → Bool) → ((number : ℕ) → p number ≡ true → q number ≡ true) → (words : Bitmap) → count_of p words ≤ count_of q words
unfolding count_of
wider p q within words = counted (λ number. p number && has words number) (λ number. q number && has words number) (λ number. both (p number) (q number) (has words number) (within number)) (range_with_len 0 (64 * length words)) 0 0 (omega arith)

-- the first keys are keys
first_is_key : (number : ℕ) → is_in group.FirstKey number ≡ true → is_in group.Key number ≡ true
unfolding is_in
first_is_key number h = or_left (nat_le 0 number && nat_le number 255) (nat_le 352 number && nat_le number 543 || nat_le 560 number && nat_le number 703) (and_from (nat_le 0 number) (nat_le number 255) (le-leb 0 number (omega arith)) (le-leb number 255 (let low : number ≤ 31 = leb-true number 31 (and_parts (nat_le 1 number) (nat_le number 31) h).1 in omega arith)))

some_key : (words : Bitmap) → (count_of (is_in group.FirstKey) words == 31) ≡ true → nat_le 1 (count_of (is_in group.Key) words) ≡ true
some_key words h = le-leb 1 (count_of (is_in group.Key) words) (omega (arith, eqb-true (count_of (is_in group.FirstKey) words) 31 h, wider (is_in group.FirstKey) (is_in group.Key) first_is_key words))

pub keyboard_is_key : (c : CapabilitiesValue) → is_of kind.Keyboard c ≡ true → is_of kind.Key c ≡ true
unfolding is_of is_keyboard has_keys
keyboard_is_key c h = let parts = and_parts (has c.events key_event) (count_of (is_in group.FirstKey) c.keys == 31) h in or_left (has_keys c) (not (is_pointer c) && has_wheel c) (and_from (has c.events key_event) (nat_le 1 (count_of (is_in group.Key) c.keys)) parts.0 (some_key c.keys parts.1))

-- an accelerometer is nothing else that points
pub alone : (c : CapabilitiesValue) → is_of kind.Accelerometer c ≡ true → list_any (λ k. is_of k c) (kind.PointingStick ∷ kind.Mouse ∷ kind.Touchpad ∷ kind.Touchscreen ∷ kind.Joystick ∷ kind.Tablet ∷ kind.TabletPad ∷ []) ≡ false
unfolding is_of
alone c h = rw h refl

-- a device that reports nothing about itself is of no kind
pub no_kind : (bus : ℕ) → kinds (nothing bus) ≡ []
unfolding kinds is_of has count_of is_accelerometer is_pointing_stick is_mouse is_plain_mouse is_touchpad is_touchscreen is_joystick may_be_joystick is_tablet is_tablet_pad is_pointer has_keys is_keyboard has_position has_multitouch has_motion has_wheel takes_pen takes_finger takes_touch has_mouse_buttons has_pad_buttons joystick_buttons joystick_parts has_usual_keys
no_kind bus = refl
