-- The first of texts, wherever they are in memory.
use Rattle.std.proofs.Common.{◌≡◌, ℕ, List, map, take}
use Rattle.std.proofs.lemmas.List.{take-map}

pub fewer : {X Y : Type 0} (f : X → Y) (n : ℕ) (xs : List X) → take n (map f xs) ≡ map f (take n xs)
fewer = take-map
