use Rattle.std.proofs.Common.{[], ◌∷◌, not, refl}
use Rattle.std.proofs.lemmas.List.Elements.{filter-append}
use Rattle.text_bytes.specs.Texts.{is_empty}
use Rattle.text_tables.specs.Pairs.{Pair}
use Rattle.eval_state.proofs.laws.an_empty_property_is_none_for_udev.Goals as goal

pub returns : goal.returns
returns c = record {
  manual = λ env. refl;
  none = refl;
  empty = λ before following name. filter-append (λ (property : Pair). not (is_empty property.1)) before ((name, []) ∷ following);
  filled = λ before following name text byte. filter-append (λ (property : Pair). not (is_empty property.1)) before ((name, byte ∷ text) ∷ following);
}
