-- Serves inner proofs only: what its functions keep.
use Rattle.std.specs.Prelude.{ℕ, ◌+◌, ◌-◌, false, not, ◌&&◌, ◌||◌, nat_lt, if◌then◌else◌, List, [], ◌∷◌, ◌++◌, length, map, Option, Some, None, Result, Ok, Err}
use Rattle.std.specs.Option.{option_map_or}
use Rattle.text_bytes.specs.declared.profile.Profile.{Profile}
use Rattle.text_bytes.specs.Text.{Text}
use Rattle.text_tables.specs.Texts.{with_texts}
use Rattle.file_messages.specs.declared.message.MessageKind.{MessageKind}
use Rattle.rule_types.specs.declared.jumps.Landing.{Landing}
use Rattle.rule_core.specs.Drafts.{Draft}
use Rattle.rule_core.specs.Rules.{Reading}
use Rattle.rule_lints.specs.declared.lint.Lint.{Lint}
use Rattle.rule_places.specs.Placed.{placed}
use Rattle.rule_places.specs.declared.kept.KeptLine.{KeptLine}
use Rattle.rule_places.specs.declared.placed_finding.PlacedFinding.{PlacedFinding}
use Rattle.rule_lints.specs.Assignments.{is_about_tags}
use Rattle.rule_file_lints.specs.ByName.{is_later, later_families}
use Rattle.rule_file_lints.specs.Compared.{assigned_value, compared_by, meant_spots}
use Rattle.rule_file_lints.specs.FileLints.{FileNames, RulesAbove, spots_by}
use Rattle.rule_file_lints.specs.FileRules.{FileRule}
use Rattle.rule_file_lints.specs.Guarded.{has_program, may_jump}
use Rattle.rule_file_lints.specs.Imported.{given_by, imported_by}
use Rattle.rule_file_lints.specs.Late.{access_file, has_access, has_tag}
use Rattle.rule_file_lints.specs.Matches.{is_match}
use Rattle.rule_file_lints.specs.Reached.{jumps_to}
use Rattle.rule_types.specs.Tokens.{WrittenPart}
use Rattle.rule_types.specs.declared.spot.Spot.{Spot}

-- no rules above
abbrev pub nothing_above : RulesAbove
nothing_above = record { given = []; jump = None; guarded = false; programs = false; tag = false }

-- one more rule above, which is then the nearest
abbrev pub with_rule : RulesAbove → FileRule → RulesAbove
with_rule a r = record {
  given = with_texts a.given (given_by r.draft.parts);
  jump = jumps_to r;
  guarded = may_jump r || a.guarded;
  programs = has_program r.draft.parts || a.programs;
  tag = has_tag r.draft.parts || a.tag;
}

-- the rule of a line, if it was read as one; where it is in its file does not matter to what is said of it here
abbrev pub rule_in : Result Draft (Spot MessageKind) → Landing → Option FileRule
rule_in (Ok d) landing = Some (record { number = 0; start = 0; draft = d; landing = landing })
rule_in (Err wrong) landing = None

-- what the rules above leave, after one more line
abbrev pub above_after : RulesAbove → Reading × Landing → RulesAbove
above_after a x = option_map_or (with_rule a) (rule_in x.0.read x.1) a

-- what is known of a file with a name before its first line
abbrev pub names_at_first : Text → FileNames
names_at_first path = record { imported = with_texts [] (later_families path); compared = []; tagged = false; late = is_later path access_file }

-- after one more rule
abbrev pub with_names : FileNames → FileRule → FileNames
with_names n r = record {
  imported = with_texts n.imported (imported_by r.draft.parts);
  compared = with_texts n.compared (compared_by r.draft.parts);
  tagged = n.tagged || is_about_tags r.draft.parts;
  late = n.late && not (has_access r.draft.parts);
}

-- after one more line
abbrev pub names_after : FileNames → Reading × Landing → FileNames
names_after n x = option_map_or (with_names n) (rule_in x.0.read x.1) n

-- after more lines
abbrev pub names_over : FileNames → List (Reading × Landing) → FileNames
names_over n [] = n
names_over n (x ∷ lines) = names_over (names_after n x) lines

-- what the lines of a file with a name are about
abbrev pub names_in : Text → List (Reading × Landing) → FileNames
names_in path lines = names_over (names_at_first path) lines

-- the lints of a line, by what its file and the rules above it are about
abbrev pub spots_at : Profile → FileNames → RulesAbove → Reading × Landing → List (Spot Lint)
spots_at profile n a x = option_map_or (spots_by profile n a) (rule_in x.0.read x.1) []

-- the lints of lines that follow so many bytes of others, at their places
abbrev pub lints_over : Profile → FileNames → List KeptLine → RulesAbove → ℕ → List (Reading × Landing) → List (PlacedFinding Lint)
lints_over profile n kept a start [] = []
lints_over profile n kept a start (x ∷ lines) =
    map (placed kept x.0.line start) (spots_at profile n a x)
    ++ lints_over profile n kept (above_after a x) (start + length x.0.text) lines

-- how many of so many matches follow a token, which may be the first of them
abbrev pub left_after : ℕ → WrittenPart → ℕ
left_after matches w = if is_match w.part then matches - 1 else matches

-- an assignment that so many matches follow, if there are any and what it gives is compared
abbrev pub before_matches : ℕ → List Text → WrittenPart → List (Spot Lint)
before_matches matches compared w = if nat_lt 0 matches then meant_spots compared w (assigned_value w.part) else []
