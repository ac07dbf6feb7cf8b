-- Each joined line gives one rule, or no rule and one message.
use Rattle.std.proofs.Common.{◌≡◌, ◌↔◌, ℕ, ◌||◌, Bool, true, false, not, cond, List, [], ◌∷◌, ◌++◌, Option, Some, None, Result, Ok, Err, refl, sym, ◌∙◌, ap}
use Rattle.std.proofs.lemmas.Bool.{false≢true}
use Rattle.std.proofs.lemmas.List.Folds.{Any-from_list_any, list_any-from_Any}
use Rattle.std.specs.Cmp.Lexicographic.{bytes_decides}
use Rattle.std.specs.List.{flat_map, list_any}
use Rattle.file_messages.specs.declared.message.Message.{Message}
use Rattle.text_bytes.specs.declared.source_file.SourceFile.{SourceFile}
use Rattle.text_bytes.specs.declared.profile.Profile.{Profile}
use Rattle.file_messages.specs.declared.message.MessageKind.{MessageKind}
use Rattle.rule_core.specs.Ends.{abandoned}
use Rattle.rule_core.specs.Lines.{NumberedLine, joined_lines}
use Rattle.rule_types.specs.declared.spot.Spot.{Spot}
use Rattle.rule_core.specs.Drafts.{Draft, draft_of}
use Rattle.rule_types.specs.Jumps.{Names, has_label, is_lost, is_named, is_unused, landings}
use Rattle.rule_types.specs.declared.jumps.Landing.{Landing}
use Rattle.rule_laws.specs.Outcomes.{AllBecome, Becomes, HasLabel, IsAbandoned, IsReadByLine, LineOutcome, messages_in, one_message, one_rule, rules_in}
use Rattle.rule_types.specs.Rules.{Rule}
use Rattle.rule_core.specs.Rules.{line_messages, line_rules, message_at, messages_unless, name_of, names_of, open_messages, rule_at, rules_unless}
use Rattle.rule_laws.proofs.Landed.{landing_at, names_at, names_in, reported_below, rules_below}

-- ---- labels of rules

-- a name that is found is the name
pub named_so : (name : List ℕ) (label : Option (List ℕ)) → is_named name label ≡ true → label ≡ Some name
named_so name None h = absurd (false≢true h)
named_so name (Some other) h = ap (λ n. Some n) (sym ((bytes_decides name other).0 h))

so_named : (name : List ℕ) (label : Option (List ℕ)) → label ≡ Some name → is_named name label ≡ true
so_named name label e = ap (is_named name) e ∙ (bytes_decides name name).1 refl

-- whether one of these rules has the label
abbrev pub bears : List ℕ → List Rule → Bool
bears name rules = list_any (λ r. is_named name r.label) rules

bears_so : (name : List ℕ) (rules : List Rule) → bears name rules ≡ true → HasLabel name rules
bears_so name rules h =
    let a = Any-from_list_any (λ (r : Rule). is_named name r.label) rules h in
    (a.0, a.1, a.2, a.3, named_so name a.1.label a.4)

pub so_bears : (name : List ℕ) (rules : List Rule) → HasLabel name rules → bears name rules ≡ true
so_bears name rules a = list_any-from_Any (λ (r : Rule). is_named name r.label) rules (a.0, a.1, a.2, a.3, so_named name a.1.label a.4)

-- the rules of lines have the labels of the lines
same_labels : (profile : Profile) (file : List ℕ) (above : List Names) (ls : List NumberedLine) (name : List ℕ) → bears name (rules_below profile file above ls) ≡ has_label name (names_in profile ls)
same_labels profile file above [] name = refl
same_labels profile file above (l ∷ ls) name = by (draft_of profile l.text) (landing_at profile above l ls) (rules_below profile file (names_at profile l ∷ above) ls) (same_labels profile file (names_at profile l ∷ above) ls name)
  where
    by : (read : Result Draft (Spot MessageKind)) (k : Landing) (rules : List Rule) → bears name rules ≡ has_label name (names_in profile ls)
        → bears name (line_rules profile file l.number read k ++ rules) ≡ (is_named name (names_of read).label || has_label name (names_in profile ls))
    by (Ok d) k rules e = ap (λ b. is_named name (name_of d.label) || b) e
    by (Err wrong) k rules e = e

-- a jump is kept exactly if one of these rules has its label
jump_kept : (goto : Option (List ℕ)) (below : List Names) (rules : List Rule) → ((name : List ℕ) → bears name rules ≡ has_label name below)
    → (name : List ℕ) → (cond (is_lost goto below) None goto ≡ Some name) ↔ ((goto ≡ Some name) × HasLabel name rules)
jump_kept None below rules same name = (λ e. cc, λ h. h.0)
jump_kept (Some other) below rules same name = by (has_label other below) refl
  where
    one : Some other ≡ Some name → other ≡ name
    one e = cc

    by : (b : Bool) → has_label other below ≡ b → (cond (not b) None (Some other) ≡ Some name) ↔ ((Some other ≡ Some name) × HasLabel name rules)
    by true e = (λ s. (s, bears_so name rules (same name ∙ ap (λ n. has_label n below) (sym (one s)) ∙ e)), λ h. h.0)
    by false e = (λ s. cc, λ h. absurd (false≢true (sym e ∙ ap (λ n. has_label n below) (one h.0) ∙ sym (same name) ∙ so_bears name rules h.1)))

-- ---- lines

-- the outcome of a line that is read in this way
abbrev outcome_of : Profile → List ℕ → ℕ → Result Draft (Spot MessageKind) → Landing → LineOutcome
outcome_of by file n (Ok d) k = one_rule (rule_at by file n d k) (line_messages file n (Ok d) k)
outcome_of by file n (Err wrong) k = one_message (message_at file n wrong)

-- the outcomes of lines below others
abbrev outcomes_below : Profile → List ℕ → List Names → List NumberedLine → List LineOutcome
outcomes_below profile file above [] = []
outcomes_below profile file above (l ∷ ls) = outcome_of profile file l.number (draft_of profile l.text) (landing_at profile above l ls) ∷ outcomes_below profile file (names_at profile l ∷ above) ls

rules_are : (profile : Profile) (file : List ℕ) (above : List Names) (ls : List NumberedLine) → rules_below profile file above ls ≡ flat_map rules_in (outcomes_below profile file above ls)
rules_are profile file above [] = refl
rules_are profile file above (l ∷ ls) = by (draft_of profile l.text) (landing_at profile above l ls) (rules_below profile file (names_at profile l ∷ above) ls) (outcomes_below profile file (names_at profile l ∷ above) ls) (rules_are profile file (names_at profile l ∷ above) ls)
  where
    by : (read : Result Draft (Spot MessageKind)) (k : Landing) (rules : List Rule) (os : List LineOutcome) → rules ≡ flat_map rules_in os → line_rules profile file l.number read k ++ rules ≡ flat_map rules_in (outcome_of profile file l.number read k ∷ os)
    by (Ok d) k rules os e = ap (λ rs. rule_at profile file l.number d k ∷ rs) e
    by (Err wrong) k rules os e = e

messages_are : (profile : Profile) (file : List ℕ) (above : List Names) (ls : List NumberedLine) → reported_below profile file above ls ≡ flat_map messages_in (outcomes_below profile file above ls)
messages_are profile file above [] = refl
messages_are profile file above (l ∷ ls) = by (draft_of profile l.text) (landing_at profile above l ls) (reported_below profile file (names_at profile l ∷ above) ls) (outcomes_below profile file (names_at profile l ∷ above) ls) (messages_are profile file (names_at profile l ∷ above) ls)
  where
    by : (read : Result Draft (Spot MessageKind)) (k : Landing) (reported : List Message) (os : List LineOutcome) → reported ≡ flat_map messages_in os → line_messages file l.number read k ++ reported ≡ flat_map messages_in (outcome_of profile file l.number read k ∷ os)
    by (Ok d) k reported os e = ap (λ ms. line_messages file l.number (Ok d) k ++ ms) e
    by (Err wrong) k reported os e = ap (λ ms. message_at file l.number wrong ∷ ms) e

all_come : (profile : Profile) (file : List ℕ) (above : List Names) (ls : List NumberedLine) → AllBecome profile file ls (outcomes_below profile file above ls)
all_come profile file above [] = tt
all_come profile file above (l ∷ ls) = (by (draft_of profile l.text) refl, all_come profile file (names_at profile l ∷ above) ls)
  where
    following : List Rule
    following = flat_map rules_in (outcomes_below profile file (names_at profile l ∷ above) ls)

    by : (read : Result Draft (Spot MessageKind)) → draft_of profile l.text ≡ read
        → Becomes profile file l (outcome_of profile file l.number read (record { lost = is_lost (names_of read).goto (names_in profile ls); unused = is_unused (names_of read).label above })) following
    by (Err wrong) e = record { wrong = wrong; reads = e; is = refl }
    by (Ok d) e = record {
      draft = d;
      landing = record { lost = is_lost (name_of d.goto) (names_in profile ls); unused = is_unused (name_of d.label) above };
      reads = e;
      is = refl;
      reported = refl;
      jump = jump_kept (name_of d.goto) (names_in profile ls) following (λ name. ap (bears name) (sym (rules_are profile file (names_at profile l ∷ above) ls)) ∙ same_labels profile file (names_at profile l ∷ above) ls name);
    }

pub read_by_line : (profile : Profile) (f : SourceFile) → abandoned profile f.bytes ≡ None → IsReadByLine profile f
unfolding landings
read_by_line profile f kept = record {
  outcomes = outcomes_below profile f.name [] (joined_lines profile f.bytes).lines;
  each = all_come profile f.name [] (joined_lines profile f.bytes).lines;
  rules = ap (rules_unless profile f) kept ∙ rules_are profile f.name [] (joined_lines profile f.bytes).lines;
  messages = ap (messages_unless profile f) kept ∙ ap (λ ms. ms ++ open_messages f.name (joined_lines profile f.bytes).open_at) (messages_are profile f.name [] (joined_lines profile f.bytes).lines);
}

-- a file that is given up has no rule and one message
pub abandoned_whole : (profile : Profile) (f : SourceFile) (line : ℕ) → abandoned profile f.bytes ≡ Some line → IsAbandoned profile f line
abandoned_whole profile f line e = record { rules = ap (rules_unless profile f) e; messages = ap (messages_unless profile f) e }
