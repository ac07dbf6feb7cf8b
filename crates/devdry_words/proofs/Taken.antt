-- What clap finds in words, in those that it takes and in others.
use Rattle.std.proofs.Common.{◌≡◌, ◌∙◌, ◌⊎◌, ◌↔◌, ◌||◌, Bool, true, false, inl, inr, List, [], ◌∷◌, None, Option, Some, IsTrue, ap, cond, codes, option_map, refl, subst, sym, unwrap_or}
use Rattle.std.specs.Option.{option_map_or}
use Rattle.clap.specs.Words.{App, HasMatchesOf, IsAmong, Kinds, Row, Text, fault_of, first_of, is_simple, is_simple_and_free, subcommand_of, subcommand_rows_of}
use Rattle.clap.specs.declared.parser.matches.ArgMatches.{ArgMatches}
use Rattle.clap.specs.declared.error.kind.ErrorKind.{ErrorKind}
use Rattle.clap.specs.declared.error.kind.ErrorKind.TheVariants as kind
use Rattle.text_bytes.specs.Texts.{is_empty}
use Rattle.devdry_words.specs.Commands.{devdry}
use Rattle.devdry_words.specs.Options.{matches_in, options_in}
use Rattle.devdry_words.proofs.Asked.{devdry_is_simple, devdry_is_simple_and_free}

-- matches have the subcommand that the words name
pub asked_is : (a : App) (words : List Text) (m : ArgMatches) → a ≡ devdry → HasMatchesOf a words m → subcommand_rows_of m ≡ subcommand_of devdry words
asked_is a words m is matches = (matches (ap is_simple is ∙ devdry_is_simple)).1 ∙ ap (λ x. subcommand_of x words) is

-- words that are taken are not at fault
pub faultless : (a : App) (words : List Text) → a ≡ devdry → (is_simple_and_free a ≡ true → fault_of a words ≡ []) → fault_of devdry words ≡ []
faultless a words is free = sym (ap (λ x. fault_of x words) is) ∙ free (ap is_simple_and_free is ∙ devdry_is_simple_and_free)

-- the file of options in words that are taken
pub of_taken : (words : List Text) (asked : Option (Text × List Row)) → fault_of devdry words ≡ [] → asked ≡ subcommand_of devdry words
    → first_of (codes "options") (option_map_or (λ p. p.1) asked []) ≡ options_in words
of_taken words asked free is =
    ap (λ a. first_of (codes "options") (option_map_or (λ p. p.1) a [])) is
    ∙ sym (ap (λ (kinds : Kinds). cond (is_empty kinds) (first_of (codes "options") (matches_in words)) None) free)

none_among : (k : ErrorKind) (kinds : Kinds) (o : Option Text) → IsAmong k kinds → None ≡ cond (is_empty kinds) o None
none_among k [] o among = absurd among
none_among k (x ∷ xs) o among = refl

not_memory : (m : Bool) (A : Type 0) → (IsTrue m ↔ A) → m ≡ false → A → ⊥
not_memory true A iff fails a = absurd (cc)
not_memory false A iff fails a = let bad : false ≡ true = iff.1 a in absurd (cc)

-- words that are refused name no file of options
pub of_refused : (a : App) (words : List Text) (k seen : ErrorKind) (m : Bool) → a ≡ devdry
    → (is_simple_and_free a ≡ true → (k ≡ kind.OutOfMemory) ⊎ IsAmong k (fault_of a words)) → seen ≡ k → (IsTrue m ↔ (seen ≡ kind.OutOfMemory)) → m ≡ false
    → None ≡ options_in words
of_refused a words k seen m is refuses same iff fails = elim (refuses (ap is_simple_and_free is ∙ devdry_is_simple_and_free)) [
  | inl memory ↦ absurd (not_memory m (seen ≡ kind.OutOfMemory) iff fails (same ∙ memory))
  | inr among ↦ none_among k (fault_of devdry words) (first_of (codes "options") (matches_in words)) (subst (λ x. IsAmong k (fault_of x words)) is among)
]

-- the matches of the subcommand that is found
pub rows_are : (asked : Option (Text × List Row)) (rows : List Row) → Some rows ≡ option_map (λ p. p.1) asked → rows ≡ option_map_or (λ p. p.1) asked []
rows_are (Some p) rows e = ap (λ o. unwrap_or o []) e
rows_are None rows e = absurd (cc)

-- of two tests, the first holds
pub either_first : (r a b : Bool) → r ≡ true → r ≡ a → r ≡ (a || b)
either_first true true b holds is = refl
either_first true false b holds is = absurd (cc)
either_first false a b holds is = absurd (cc)

-- of two tests, the first does not hold
pub either_second : (r a s b : Bool) → r ≡ false → r ≡ a → s ≡ b → s ≡ (a || b)
either_second false false s b fails is second = second
either_second false true s b fails is second = absurd (cc)
either_second true a s b fails is second = absurd (cc)
