-- Jumps of rules as a relation, apart from how they are found.
use Rattle.std.specs.Prelude.{◌≡◌, ◌↔◌, IsTrue, List, ◌∷◌, ◌++◌, length, slice_get, Some}
use Rattle.text_bytes.specs.Text.{Text}
use Rattle.rule_types.specs.Jumps.{Names}
use Rattle.rule_types.specs.declared.jumps.Landing.{Landing}

-- a rule of these has the label
pub record HasLabel (name : Text) (rules : List Names) : Type 0 where
  pub above : List Names
  pub rule : Names
  pub below : List Names
  pub is_present : rules ≡ above ++ rule ∷ below
  pub has : rule.label ≡ Some name

-- a rule jumps over those between to another: that has its label, and none between has
pub record JumpsTo (leaving : Names) (between : List Names) (landing : Names) : Type 0 where
  pub name : Text
  pub goto : leaving.goto ≡ Some name
  pub label : landing.label ≡ Some name
  pub next : ¬ HasLabel name between

-- a rule jumps to one of those after it
pub record Reaches (leaving : Names) (following : List Names) : Type 0 where
  pub between : List Names
  pub landing : Names
  pub farther : List Names
  pub is_present : following ≡ between ++ landing ∷ farther
  pub jumps : JumpsTo leaving between landing

-- one of the rules before it jumps to a rule
pub record IsReached (before : List Names) (landing : Names) : Type 0 where
  pub farther : List Names
  pub leaving : Names
  pub between : List Names
  pub is_present : before ≡ farther ++ leaving ∷ between
  pub jumps : JumpsTo leaving between landing

-- a rule has a GOTO, and none of the rules after it has the label
pub record IsLost (rule : Names) (following : List Names) : Type 0 where
  pub name : Text
  pub goto : rule.goto ≡ Some name
  pub none : ¬ HasLabel name following

-- a rule has a label, and none of the rules before it jumps to it
pub record IsUnused (before : List Names) (rule : Names) : Type 0 where
  pub name : Text
  pub label : rule.label ≡ Some name
  pub none : ¬ IsReached before rule

-- what becomes of a rule after those before it and before those after it
pub record IsLanding (before : List Names) (rule : Names) (following : List Names) (found : Landing) : Type 0 where
  pub lost : IsTrue found.lost ↔ IsLost rule following
  pub unused : IsTrue found.unused ↔ IsUnused before rule

-- what becomes of each rule is at its place, and there is no more
pub record AreLandings (rules : List Names) (found : List Landing) : Type 0 where
  pub one_each : length found ≡ length rules
  pub each : (before : List Names) (rule : Names) (following : List Names) → rules ≡ before ++ rule ∷ following
      → (l : Landing) × (slice_get found (length before) ≡ Some l) × IsLanding before rule following l
