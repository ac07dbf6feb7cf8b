-- Counts, one after another.
use Rattle.std.proofs.Common.{◌≡◌, ℕ, ◌+◌, ◌-◌, ◌^◌, min, arith}
use Rattle.engine_sessions.specs.Counts.{Counts}

-- a count that may grow up to some value
capped : (top first second before between now : ℕ) → between ≡ before + min first (top - before) → now ≡ between + min second (top - between) → now ≡ before + min (first + second) (top - before)
capped top first second before between now e f = omega (arith, e, f)

pub counts-none : (count : ℕ) → Counts 0 count count
counts-none count = none (2 ^ 64 - 1)
  where
    none : (top : ℕ) → count ≡ count + min 0 (top - count)
    none top = omega arith

pub counts-more : (first second before between now : ℕ) → Counts first before between → Counts second between now → Counts (first + second) before now
counts-more first second before between now e f = capped (2 ^ 64 - 1) first second before between now e f
