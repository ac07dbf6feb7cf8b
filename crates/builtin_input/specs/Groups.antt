-- Groups of keys and axes, by the kernel's input codes.
use Rattle.std.specs.Prelude.{ℕ, Bool, ◌||◌, ◌==◌, ◌∷◌, []}
use Rattle.std.specs.List.{list_any}
use Rattle.builtin_devices.specs.Numbers.{is_between}
use Rattle.builtin_input.specs.declared.groups.Group.{Group}
use Rattle.builtin_input.specs.declared.groups.Group.TheVariants.{MouseButton, JoystickButton, JoystickAxis, UsualKey, FirstKey, Key}

-- the members of each group
unfoldable pub is_in : Group → ℕ → Bool
is_in MouseButton number = is_between 0x110 0x11F number
is_in JoystickButton number = is_between 0x120 0x13F number || (is_between 0x220 0x223 number || is_between 0x2C0 0x2E7 number)
is_in JoystickAxis number = is_between 3 0x17 number
is_in UsualKey number = list_any (λ key. number == key) (29 ∷ 58 ∷ 69 ∷ 110 ∷ 113 ∷ 140 ∷ 144 ∷ 155 ∷ 164 ∷ 224 ∷ [])
is_in FirstKey number = is_between 1 31 number
is_in Key number = is_between 0 0xFF number || (is_between 0x160 0x21F number || is_between 0x230 0x2BF number)
