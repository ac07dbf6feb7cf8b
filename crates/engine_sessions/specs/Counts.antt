-- Counts of 64 bits, which stay at the greatest value.
use Rattle.std.specs.Prelude.{◌≡◌, ℕ, ◌+◌, ◌-◌, ◌^◌, min}

-- So many more were counted, up to the greatest value.
abbrev pub Counts : ℕ → ℕ → ℕ → Type 0
Counts more before now = now ≡ before + min more (2 ^ 64 - 1 - before)
