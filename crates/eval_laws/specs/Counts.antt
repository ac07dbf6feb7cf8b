-- How many notes the parts of a rule may leave.
use Rattle.std.specs.Prelude.{ℕ, ◌+◌, ◌*◌, length}
use Rattle.rule_types.specs.Rules.{Rule}

-- the most notes of a rule: an act may leave two, any other part that is evaluated one; its label and its jump leave none
abbrev pub most_notes : Rule → ℕ
most_notes r = length r.plain + length r.up + 2 * length r.acts + length r.results + length r.sets

-- with those on attributes that matches of one device and assignments ask for and that are not read: at most one more for each
abbrev pub most_told : Rule → ℕ
most_told r = most_notes r + length r.up + length r.sets
