-- Lists that are read item by item, if each item can be.
use Rattle.std.proofs.Common.{List, ◌++◌, Option, option_map}

-- what is read of the items so far, and then of the others
abbrev pub after : {A : Type 0} → List A → Option (List A) → Option (List A)
after front rest = option_map (λ others. front ++ others) rest
