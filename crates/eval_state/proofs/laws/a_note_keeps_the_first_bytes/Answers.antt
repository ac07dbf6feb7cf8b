use Rattle.std.proofs.Common.{refl}
use Rattle.std.proofs.lemmas.List.{take_all, take_at}
use Rattle.eval_state.proofs.laws.a_note_keeps_the_first_bytes.Goals as goal

pub returns : goal.returns
returns c = record {
  needs = λ text few. take_all 256 text few;
  more = λ text following many. take_at text following 256 many;
  other = λ text. refl;
}
