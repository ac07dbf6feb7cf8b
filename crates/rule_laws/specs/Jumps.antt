-- Where the jumps of the rules of several files land.
use Rattle.std.specs.Prelude.{◌≡◌, ◌+◌, ℕ, List, [], ◌∷◌, ◌++◌, map, Some}
use Rattle.text_bytes.specs.Text.{Text}
use Rattle.text_bytes.specs.declared.source_file.SourceFile.{SourceFile}
use Rattle.text_bytes.specs.declared.profile.Profile.TheVariants.{Manual}
use Rattle.rule_types.specs.Rules.{Rule}
use Rattle.rule_core.specs.Rules.{file_rules, set_of}
use Rattle.rule_laws.specs.Outcomes.{HasLabel}

-- the rules of files, each beside the number of its file; the files are counted from this number on
abbrev pub numbered_rules : ℕ → List SourceFile → List (ℕ × Rule)
numbered_rules n [] = []
numbered_rules n (f ∷ files) = map (λ r. (n, r)) (file_rules Manual f) ++ numbered_rules (n + 1) files

-- the rules apart from their numbers
abbrev pub rules_in : List (ℕ × Rule) → List Rule
rules_in numbered = map (λ x. x.1) numbered

-- the first of these rules that has the label is of the file with this number
pub record LandsIn (file : ℕ) (name : Text) (below : List (ℕ × Rule)) : Type 0 where
  pub between : List (ℕ × Rule)
  pub landing : Rule
  pub following : List (ℕ × Rule)
  pub below_is : below ≡ between ++ (file, landing) ∷ following
  pub label : landing.label ≡ Some name
  pub next : ¬ HasLabel name (rules_in between)

-- Each jump of the rules of files lands in its own file, whatever the files are called: the number beside the rule
-- that jumps is the number beside the rule at which it lands.
pub record JumpsStayInTheirFiles (files : List SourceFile) : Type 0 where
  pub rules : rules_in (numbered_rules 0 files) ≡ (set_of files).rules
  pub stay : (above : List (ℕ × Rule)) (file : ℕ) (r : Rule) (below : List (ℕ × Rule)) (name : Text)
      → numbered_rules 0 files ≡ above ++ (file, r) ∷ below → r.goto ≡ Some name → LandsIn file name below
