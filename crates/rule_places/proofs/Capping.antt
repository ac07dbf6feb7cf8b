-- Sums that stop at a greatest number.
use Rattle.std.proofs.Common.{◌≡◌, ℕ, ◌+◌, ◌-◌, ◌^◌, min, arith}

pub capped_sum : (a b r : ℕ) → r ≡ min (a + b) (2 ^ 64 - 1) → min r (2 ^ 32 - 1) ≡ min (a + b) (2 ^ 32 - 1)
capped_sum a b r e = omega arith

pub capped_sums : (a b c r s : ℕ) → r ≡ min (a + b) (2 ^ 64 - 1) → s ≡ min (r + c) (2 ^ 64 - 1) → min s (2 ^ 32 - 1) ≡ min (a + b + c) (2 ^ 32 - 1)
capped_sums a b c r s e f = omega arith
