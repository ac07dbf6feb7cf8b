use Rattle.std.proofs.Common.{◌∷◌, ◌++◌, [], codes, cond, refl, ap}
use Rattle.eval_laws.proofs.shown_changes.each_kind_of_note_is_said_in_its_own_words.Goals as goal

pub returns : goal.returns
returns c = record {
  too_long = λ c s word. refl;
  name = λ c s word other. ap (λ b. (codes "NAME ignored, " ++ cond b (codes "no interface (IFINDEX)") (codes "no network device")) ∷ []) other;
  interface = λ c s word net. ap (λ b. (codes "NAME ignored, " ++ cond b (codes "no interface (IFINDEX)") (codes "no network device")) ∷ []) net;
  no_number = λ c s word. refl;
  no_value = λ c s word. refl;
  link = λ c s word. refl;
  mode = λ c s word. refl;
  tag = λ c s word. refl;
  attribute = λ c s word. refl;
  others = λ c s word. refl;
}
