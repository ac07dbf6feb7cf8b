-- The tokens that are left in rules are those that were counted in their lines.
use Rattle.std.proofs.Common.{◌≡◌, ℕ, ◌+◌, Bool, true, false, not, ◌&&◌, cond, List, [], ◌∷◌, ◌++◌, length, filter_map, Option, Some, None, is_some, sum_by, Result, Ok, Err, refl, ap, sym, ◌∙◌, arith}
use Rattle.std.specs.List.{count_by, flat_map}
use Rattle.std.proofs.lemmas.List.Sums.{sum_by-append, sum_by-cons}
use Rattle.text_bytes.specs.declared.profile.Profile.{Profile}
use Rattle.text_bytes.specs.declared.source_file.SourceFile.{SourceFile}
use Rattle.file_messages.specs.declared.message.Message.{Message}
use Rattle.file_messages.specs.declared.message.MessageKind.{MessageKind}
use Rattle.rule_types.specs.declared.jumps.Landing.{Landing}
use Rattle.rule_types.specs.Rules.{name_count, rule_tokens, tokens_in}
use Rattle.rule_types.specs.declared.part.Part.{Part}
use Rattle.rule_types.specs.declared.part.Part.TheVariants as part
use Rattle.rule_core.specs.Counts.{draft_tokens, is_counted, line_tokens, token_count}
use Rattle.rule_core.specs.Drafts.{Draft, act_in, acts_of, assignment_in, plain_in, result_in, sets_of, up_in}
use Rattle.rule_core.specs.Rules.{Reading, file_messages, file_rules, line_rules, name_of, rule_at, set_of_as}
use Rattle.rule_core.specs.Turns.{assignment_turns, turn_of_act, turn_of_assignment}
use Rattle.rule_types.specs.Tokens.{WrittenPart, parts_in}
use Rattle.rule_core.specs.declared.names.NamePlace.{NamePlace}
use Rattle.rule_types.specs.declared.spot.Spot.{Spot}
use Rattle.rule_core.proofs.Bounds.{act_below, assignment_below}
use Rattle.rule_core.proofs.Sorting.{all_in_turn}

-- how many parts of a rule there are, by what they are for
abbrev parts_for : List Part → ℕ
parts_for parts =
    length (filter_map plain_in parts) + (length (filter_map up_in parts) + (length (filter_map act_in parts) + (length (filter_map result_in parts) + length (filter_map assignment_in parts))))

parts_counted : (parts : List WrittenPart) → count_by (λ w. is_counted w.part) parts ≡ parts_for (parts_in parts)
parts_counted [] = refl
parts_counted (w ∷ parts) = sum_by-cons (λ x. cond (is_counted x.part) 1 0) w parts ∙ by w.part (parts_counted parts)
  where
    by : (p : Part) → count_by (λ x. is_counted x.part) parts ≡ parts_for (parts_in parts) → cond (is_counted p) 1 0 + count_by (λ x. is_counted x.part) parts ≡ parts_for (p ∷ parts_in parts)
    by (part.Plain m) h = omega (arith, h)
    by (part.Up m) h = omega (arith, h)
    by (part.Act a) h = omega (arith, h)
    by (part.Result c) h = omega (arith, h)
    by (part.Set a) h = omega (arith, h)
    by (part.Label name) h = omega (arith, h)
    by (part.Goto name) h = omega (arith, h)

label_counted : (label : Option NamePlace) → name_count (name_of label) ≡ cond (is_some label) 1 0
label_counted None = refl
label_counted (Some name) = refl

goto_counted : (lost : Bool) (goto : Option NamePlace) → name_count (cond lost None (name_of goto)) ≡ cond (is_some goto && not lost) 1 0
goto_counted true None = refl
goto_counted true (Some name) = refl
goto_counted false None = refl
goto_counted false (Some name) = refl

rule_counted : (by : Profile) (name : List ℕ) (line : ℕ) (d : Draft) (l : Landing) → rule_tokens (rule_at by name line d l) ≡ draft_tokens d l
unfolding rule_tokens
rule_counted by name line d l =
    let acts : length (acts_of (parts_in d.parts)) ≡ length (filter_map act_in (parts_in d.parts)) = all_in_turn turn_of_act 8 act_below (filter_map act_in (parts_in d.parts)) in
    let sets : length (sets_of by (parts_in d.parts)) ≡ length (filter_map assignment_in (parts_in d.parts)) =
    all_in_turn (turn_of_assignment by) (assignment_turns by) (assignment_below by) (filter_map assignment_in (parts_in d.parts)) in
    omega (arith, label_counted d.label, goto_counted l.lost d.goto, acts, sets, parts_counted d.parts)

line_counted : (by : Profile) (name : List ℕ) (line : ℕ) (read : Result Draft (Spot MessageKind)) (l : Landing) → tokens_in (line_rules by name line read l) ≡ line_tokens read l
line_counted by name line (Ok d) l = sum_by-cons rule_tokens (rule_at by name line d l) [] ∙ let e = rule_counted by name line d l in omega (arith, e)
line_counted by name line (Err wrong) l = refl

pub tokens_counted : (by : Profile) (name : List ℕ) (lines : List (Reading × Landing)) → tokens_in (flat_map (λ x. line_rules by name x.0.line x.0.read x.1) lines) ≡ token_count lines
tokens_counted by name [] = refl
tokens_counted by name (x ∷ lines) =
    let first = line_counted by name x.0.line x.0.read x.1 in
    let rest = tokens_counted by name lines in
    sum_by-append rule_tokens (line_rules by name x.0.line x.0.read x.1) (flat_map (λ y. line_rules by name y.0.line y.0.read y.1) lines)
    ∙ ap (λ (n : ℕ). n + tokens_in (flat_map (λ y. line_rules by name y.0.line y.0.read y.1) lines)) first
    ∙ ap (λ (n : ℕ). line_tokens x.0.read x.1 + n) rest
    ∙ sym (sum_by-cons (λ y. line_tokens y.0.read y.1) x lines)

-- the tokens left in the rules of files, counted file by file
pub all_tokens : (by : Profile) (files : List SourceFile) → tokens_in (set_of_as by files).rules ≡ sum_by (λ f. tokens_in (file_rules by f)) files
unfolding set_of_as
all_tokens by [] = refl
all_tokens by (f ∷ files) =
    sum_by-append rule_tokens (file_rules by f) (flat_map (file_rules by) files)
    ∙ ap (λ (n : ℕ). tokens_in (file_rules by f) + n) (all_tokens by files)
    ∙ sym (sum_by-cons (λ x. tokens_in (file_rules by x)) f files)

pub all_messages : (by : Profile) (files : List SourceFile) (start now : List Message) → start ≡ [] → now ≡ start ++ flat_map (file_messages by) files → now ≡ (set_of_as by files).messages
unfolding set_of_as
all_messages by files start now s m = m ∙ ap (λ (ms : List Message). ms ++ flat_map (file_messages by) files) s
