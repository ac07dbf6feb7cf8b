-- A name that a table took as new.
use Rattle.std.proofs.Common.{◌≡◌, Bool, true, false, not, List, [], ◌∷◌, ◌++◌, Some, Ok, refl, ap, sym, ◌∙◌}
use Rattle.text_bytes.specs.Text.{Text}
use Rattle.text_tables.specs.Pairs.{Pair, named, with_value}
use Rattle.text_tables.proofs.Found.{set_after}
use Rattle.device_core.specs.Parts.{pair_of}
use Rattle.device_core.specs.Steps.{pair_step}

new_is : (new known : Bool) → new ≡ not known → new ≡ true → known ≡ false
new_is new true h e = cc
new_is new false h e = refl

module _ {V : Type 0} (known after : List (Text × V)) (name : Text) (value : V) (new : Bool) (says : new ≡ not (named known name)) (is : new ≡ true) (kept : after ≡ with_value known name value) where
  fresh : named known name ≡ false
  fresh = new_is new (named known name) says is

  following : after ≡ known ++ (name, value) ∷ []
  following = kept ∙ set_after known name value fresh

pub pair_added : (known after : List Pair) (name value rest : Text) (new : Bool) → pair_of rest ≡ Some (name, value) → new ≡ not (named known name) → new ≡ true → after ≡ with_value known name value → pair_step known rest ≡ Ok after
unfolding pair_step
pair_added known after name value rest new e says is kept = rw (e, fresh known after name value new says is kept) (ap Ok (sym (following known after name value new says is kept)))
