-- How long an answer is.
use Rattle.std.proofs.Common.{◌≡◌, ℕ, ◌+◌, ◌*◌, ◌^◌, ◌≤◌, List, [], ◌∷◌, ◌++◌, length, map, IfSome, Ok, codes, unsigned_abs, flat_map, refl, ap, sym, subst, arith}
use Rattle.std.proofs.lemmas.List.{length-append}
use Rattle.std.proofs.lemmas.List.Folds.{flat_map-map}
use Rattle.std.proofs.lemmas.List.Sums.{sum_by-cons}
use Rattle.std.specs.List.{sum_by}
use Rattle.text_bytes.specs.Names.{newline, space}
use Rattle.text_bytes.specs.Escapes.{escape_text}
use Rattle.text_bytes.specs.declared.profile.Profile.{Profile}
use Rattle.text_bytes.specs.declared.source_file.SourceFile.{SourceFile}
use Rattle.text_bytes.specs.Text.{Text}
use Rattle.text_tables.specs.Pairs.{Pair}
use Rattle.builtin_devices.specs.Knowledge.{Known}
use Rattle.rule_core.specs.Rules.{set_of_as}
use Rattle.device_core.specs.Faults.{block_gives}
use Rattle.device_core.specs.Values.{DeviceValue, EventValue, by_profile}
use Rattle.eval_laws.specs.DeviceWeights.{device_weight, event_weight, given_weight, pair_weight, text_weight}
use Rattle.eval_laws.proofs.DeviceWeights.{event_within}
use Rattle.eval_unread.specs.Unread.{whole_outcome}
use Rattle.eval_rules.specs.declared.outcome.Outcome.{Outcome}
use Rattle.eval_laws.specs.Weights.{command_weight, most_about_a_block, note_weight, outcome_weight}
use Rattle.eval_effects.specs.Items.{item_name, label_item}
use Rattle.engine_answers.specs.Lines.{block_note_lines, note_line, pair_line, run_line, text_line}
use Rattle.engine_sessions.specs.EventLine.{event_line}
use Rattle.engine_answers.specs.Inner.{shown_line}
use Rattle.engine_answers.specs.Items.{ItemLine, env_lines, item_lines, label_lines, member_lines, node_lines, value_lines}
use Rattle.engine_answers.specs.Answers.{answer, lines_with}
use Rattle.engine_answers.proofs.InFront.{env_alone}
use Rattle.eval_laws.proofs.BlockNotes.{about_a_block_short}
use Rattle.eval_laws.proofs.Lines.{alone, escape_short, line_length, lines_short, note_line_short, pair_line_short, run_line_short, shown_line_short, text_line_short}
use Rattle.eval_laws.proofs.Nodes.{following, following_items, node_short}
use Rattle.eval_laws.proofs.Priorities.{outcome_small}
use Rattle.eval_laws.proofs.Weighing.{weight_by}

path_light : (d : DeviceValue) → text_weight d.path ≤ device_weight d
unfolding device_weight
path_light d = omega arith

-- the first line has nothing but texts of the event
event_line_short : (event : EventValue) → length (event_line event.action event.device.path) ≤ 4 * event_weight event
unfolding event_line event_weight
event_line_short event =
    let a = line_length (codes "event") (escape_text event.action ++ space ∷ escape_text event.device.path) in
    let b = length-append (escape_text event.action) (space ∷ escape_text event.device.path) in
    let c = escape_short event.action in
    let d = escape_short event.device.path in
    let e = path_light event.device in
    let f = sum_by-cons device_weight event.device event.parents in
    omega (arith, a, b, c, d, e, f)

-- a line for each of several things, beside its item
each_short : {X : Type 0} (weight : X → ℕ) (reported : X → ItemLine) → ((x : X) → length (reported x).1 ≤ 8 * weight x) → (xs : List X) → length (alone (map reported xs)) ≤ 8 * sum_by weight xs
each_short weight reported each xs =
    let a : length (alone (map reported xs)) ≡ length (flat_map (λ x. (reported x).1) xs) = ap length (flat_map-map (λ (l : ItemLine). l.1) reported xs) in
    subst (λ k. k ≤ 8 * sum_by weight xs) (sym a) (lines_short weight (λ x. (reported x).1) each xs)

-- the lines of properties
env_short : (pairs : List Pair) → length (alone (env_lines pairs)) ≤ 8 * sum_by pair_weight pairs
env_short pairs =
    let a : length (alone (env_lines pairs)) ≡ length (flat_map shown_line pairs) = ap length (env_alone (λ item. []) (λ item. refl) pairs) in
    subst (λ k. k ≤ 8 * sum_by pair_weight pairs) (sym a) (lines_short pair_weight shown_line shown_line_short pairs)

items_short : (profile : Profile) (o : Outcome) → IfSome o.priority (λ z. unsigned_abs z ≤ 2 ^ 31) → length (alone (item_lines profile o)) ≤ 8 * given_weight o.name + 8 * given_weight o.owner + 8 * given_weight o.group + 8 * given_weight o.mode + 21 + 8 + 8
    + 8 * sum_by pair_weight o.labels + 8 * sum_by text_weight o.links + 8 * sum_by text_weight o.tags + 8 * sum_by pair_weight o.env + 8 * sum_by pair_weight o.attrs + 8 * sum_by pair_weight o.sysctls
unfolding item_lines
items_short profile o fits =
    let to_labels : List ItemLine = node_lines o ++ label_lines profile o.labels in
    let to_links : List ItemLine = to_labels ++ member_lines (codes "link") o.links in
    let to_tags : List ItemLine = to_links ++ member_lines (codes "tag") o.tags in
    let to_env : List ItemLine = to_tags ++ env_lines o.env in
    let to_attrs : List ItemLine = to_env ++ value_lines (codes "attr") o.attrs in
    let labels = following_items (node_lines o) (label_lines profile o.labels) _ _ (node_short o fits) (each_short pair_weight (λ label. (label_item profile label, pair_line (codes "label") label)) (λ p. pair_line_short (codes "label") p (omega arith)) o.labels) in
    let links = following_items to_labels (member_lines (codes "link") o.links) _ _ labels (each_short text_weight (λ text. ((item_name (codes "link") text, []), text_line (codes "link") text)) (λ t. text_line_short (codes "link") t (omega arith)) o.links) in
    let tags = following_items to_links (member_lines (codes "tag") o.tags) _ _ links (each_short text_weight (λ text. ((item_name (codes "tag") text, []), text_line (codes "tag") text)) (λ t. text_line_short (codes "tag") t (omega arith)) o.tags) in
    let env = following_items to_tags (env_lines o.env) _ _ tags (env_short o.env) in
    let attrs = following_items to_env (value_lines (codes "attr") o.attrs) _ _ env (each_short pair_weight (λ pair. ((item_name (codes "attr") pair.0, pair.1), pair_line (codes "attr") pair)) (λ p. pair_line_short (codes "attr") p (omega arith)) o.attrs) in
    following_items to_attrs (value_lines (codes "sysctl") o.sysctls) _ _ attrs (each_short pair_weight (λ pair. ((item_name (codes "sysctl") pair.0, pair.1), pair_line (codes "sysctl") pair)) (λ p. pair_line_short (codes "sysctl") p (omega arith)) o.sysctls)

pub answer_short : (event : EventValue) (o : Outcome) → IfSome o.priority (λ z. unsigned_abs z ≤ 2 ^ 31) → length (answer event o) ≤ 8 * outcome_weight o + 4 * event_weight event + 64 + most_about_a_block event.profile
unfolding lines_with outcome_weight
answer_short event o fits =
    let items = following _ _ _ _ (event_line_short event) (items_short event.profile o fits) in
    let runs = following _ _ _ _ items (lines_short command_weight run_line run_line_short o.runs) in
    let about = following _ (block_note_lines event) _ (most_about_a_block event.profile) runs (about_a_block_short event) in
    let notes = following _ _ _ _ about (lines_short note_weight note_line note_line_short o.notes) in
    let whole = following _ (newline ∷ []) _ 1 notes (omega arith) in
    omega (arith, whole)

pub block_answer_short : (profile : Profile) (block : Text) (event : EventValue) (o : Outcome) → block_gives block ≡ Ok event → IfSome o.priority (λ z. unsigned_abs z ≤ 2 ^ 31)
    → length (answer (by_profile profile event) o) ≤ 8 * outcome_weight o + 4 * length block + 64 + most_about_a_block profile
block_answer_short profile block event o given fits =
    let a = answer_short (by_profile profile event) o fits in
    let b = event_within block event given in
    let c = weight_by profile event in
    omega (arith, a, b, c)

pub files_answer_short : (read profile : Profile) (files : List SourceFile) (known : Known) (block : Text) (event : EventValue) → block_gives block ≡ Ok event
    → length (answer (by_profile profile event) (whole_outcome (set_of_as read files).rules known (by_profile profile event)))
    ≤ 8 * outcome_weight (whole_outcome (set_of_as read files).rules known (by_profile profile event)) + 4 * length block + 64 + most_about_a_block profile
files_answer_short read profile files known block event given =
    block_answer_short profile block event (whole_outcome (set_of_as read files).rules known (by_profile profile event)) given (outcome_small read files known (by_profile profile event))
