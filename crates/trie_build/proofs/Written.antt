-- What follows a list once all of another one is written there, or nothing if that was refused.
use Rattle.std.proofs.Common.{◌≡◌, ◌++◌, List, Result, Ok, Err, OnOk, ap, ◌∙◌, cond}
use Rattle.std.specs.Result.{is_ok}

pub all_after : {A T E : Type 0} (r : Result T E) (old new bytes whole : List A) → new ≡ cond (is_ok r) (old ++ bytes) old → bytes ≡ whole → OnOk r (new ≡ old ++ whole)
all_after (Ok x) old new bytes whole e same = e ∙ ap (λ l. old ++ l) same
all_after (Err x) old new bytes whole e same = tt
