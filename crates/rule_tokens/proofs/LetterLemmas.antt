-- The letters of a wrong prefix are those that are read.
use Rattle.std.proofs.Common.{◌≡◌, List, ℕ, ◌∷◌, refl}
use Rattle.std.proofs.lemmas.List.{take_at}
use Rattle.text_bytes.specs.Names.{double_quote}
use Rattle.rule_tokens.specs.Grammar.{is_letter}
use Rattle.rule_tokens.specs.Prefixes.{letters_at, quoted_at, AreWrongLetters}
use Rattle.rule_tokens.proofs.RunLemmas.{run_again}
use Rattle.rule_tokens.proofs.IsPresent.{quoted_head}

-- if there is a wrong prefix, its letters are read
pub letters_again : (text : List ℕ) → AreWrongLetters text (letters_at text)
unfolding letters_at quoted_at
letters_again text w =
    let head = quoted_head text w.head w.quoted w.letters w.rest w.is_present w.spelled w.letters_are in
    let count = run_again is_letter w.letters (double_quote ∷ w.rest) w.letters_are refl in
    rw head (rw w.spelled (rw count (take_at w.letters (double_quote ∷ w.rest) _ refl)))

-- so they are what is given for them
pub letters_only : (text letters : List ℕ) → letters ≡ letters_at text → AreWrongLetters text letters
letters_only text letters e w = rw e (letters_again text w)
