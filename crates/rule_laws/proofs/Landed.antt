-- The joined lines of a file with what becomes of their jumps, some lines below others.
use Rattle.std.proofs.Common.{ℕ, List, map, zip}
use Rattle.std.specs.List.{flat_map}
use Rattle.file_messages.specs.declared.message.Message.{Message}
use Rattle.text_bytes.specs.declared.profile.Profile.{Profile}
use Rattle.rule_core.specs.Lines.{NumberedLine}
use Rattle.rule_core.specs.Drafts.{draft_of}
use Rattle.rule_types.specs.Jumps.{Names, is_lost, is_unused, landings_below}
use Rattle.rule_types.specs.declared.jumps.Landing.{Landing}
use Rattle.rule_types.specs.Rules.{Rule}
use Rattle.rule_core.specs.Rules.{Reading, line_messages, line_rules, names_of, reading_of}

-- the names of lines for jumps
abbrev pub names_in : Profile → List NumberedLine → List Names
names_in by ls = map (λ r. names_of r.read) (map (reading_of by) ls)

-- the names of a line for jumps
abbrev pub names_at : Profile → NumberedLine → Names
names_at by l = names_of (draft_of by l.text)

-- what becomes of the jumps of a line, below those above and above those below
abbrev pub landing_at : Profile → List Names → NumberedLine → List NumberedLine → Landing
landing_at by above l ls = record { lost = is_lost (names_at by l).goto (names_in by ls); unused = is_unused (names_at by l).label above }

abbrev pub landed_below : Profile → List Names → List NumberedLine → List (Reading × Landing)
landed_below by above ls = zip (map (reading_of by) ls) (landings_below above (names_in by ls))

abbrev pub reported_below : Profile → List ℕ → List Names → List NumberedLine → List Message
reported_below by file above ls = flat_map (λ x. line_messages file x.0.line x.0.read x.1) (landed_below by above ls)

abbrev pub rules_below : Profile → List ℕ → List Names → List NumberedLine → List Rule
rules_below by file above ls = flat_map (λ x. line_rules by file x.0.line x.0.read x.1) (landed_below by above ls)
