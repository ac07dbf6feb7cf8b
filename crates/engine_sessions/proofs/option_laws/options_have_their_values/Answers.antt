use Rattle.std.proofs.Common.{refl}
use Rattle.engine_sessions.specs.Names.{flag_names, valued_names, repeated_names}
use Rattle.text_bytes.specs.Texts.{split_once}
use Rattle.engine_sessions.proofs.option_laws.options_have_their_values.Goals as goal

pub returns : goal.returns
unfolding flag_names valued_names repeated_names split_once
returns c = record {
  flag = refl;
  flag_with_value = refl;
  valued = refl;
  empty_value = refl;
  without_value = refl;
  repeated = refl;
  letter = refl;
  file = refl;
  another_file = refl;
  two_words = refl;
}
