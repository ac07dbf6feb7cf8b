-- How long the lines on a device's node are.
use Rattle.std.proofs.Common.{ℕ, ◌+◌, ◌*◌, ◌^◌, ◌≤◌, Bool, true, false, ℤ, pos, negsuc, List, ◌≡◌, ◌++◌, ap, sym, subst, length, Option, Some, None, IfSome, codes, unsigned_abs, arith}
use Rattle.std.proofs.lemmas.List.{length-append}
use Rattle.std.proofs.lemmas.List.Concat.{flat_map-append}
use Rattle.std.proofs.lemmas.Fmt.{length_signed_le}
use Rattle.std.specs.Fmt.{signed_decimal}
use Rattle.text_bytes.specs.Text.{Text}
use Rattle.eval_laws.specs.DeviceWeights.{given_weight}
use Rattle.eval_rules.specs.declared.outcome.Outcome.{Outcome}
use Rattle.engine_answers.specs.Items.{ItemLine, given_lines, node_lines, persist_lines, priority_lines, watch_lines}
use Rattle.engine_answers.specs.Lines.{line}
use Rattle.eval_laws.proofs.Lines.{alone, given_line_short, line_length, one_length}

watch_short : (watch : Option Bool) → length (alone (watch_lines watch)) ≤ 8
watch_short None = omega arith
watch_short (Some true) = omega arith
watch_short (Some false) = omega arith

persist_short : (persist : Bool) → length (alone (persist_lines persist)) ≤ 8
persist_short true = omega arith
persist_short false = omega arith

-- ten digits and a sign
number_short : (priority : ℤ) → unsigned_abs priority ≤ 2 ^ 31 → length (signed_decimal priority) ≤ 11
number_short (pos n) fits = length_signed_le 10 (pos n) (omega (arith, fits)) (omega (arith, fits))
number_short (negsuc n) fits = length_signed_le 10 (negsuc n) (omega (arith, fits)) (omega (arith, fits))

priority_short : (priority : Option ℤ) → IfSome priority (λ z. unsigned_abs z ≤ 2 ^ 31) → length (alone (priority_lines priority)) ≤ 21
priority_short None fits = omega arith
priority_short (Some priority) fits =
    let a = line_length (codes "priority") (signed_decimal priority) in
    let b = number_short priority fits in
    let c : length (line (codes "priority") (signed_decimal priority)) ≤ 21 = omega (arith, a, b) in
    subst (λ k. k ≤ 21) (sym (one_length (codes "priority", signed_decimal priority) (line (codes "priority") (signed_decimal priority)))) c

-- lines after others
pub following : (others one : Text) (m n : ℕ) → length others ≤ m → length one ≤ n → length (others ++ one) ≤ m + n
following others one m n a b = let c = length-append others one in omega (arith, a, b, c)

-- lines about items after others
pub following_items : (others more : List ItemLine) (m n : ℕ) → length (alone others) ≤ m → length (alone more) ≤ n → length (alone (others ++ more)) ≤ m + n
following_items others more m n a b =
    let c : length (alone (others ++ more)) ≡ length (alone others ++ alone more) = ap length (flat_map-append (λ (l : ItemLine). l.1) others more) in
    subst (λ k. k ≤ m + n) (sym c) (following (alone others) (alone more) m n a b)

pub node_short : (o : Outcome) → IfSome o.priority (λ z. unsigned_abs z ≤ 2 ^ 31)
    → length (alone (node_lines o)) ≤ 8 * given_weight o.name + 8 * given_weight o.owner + 8 * given_weight o.group + 8 * given_weight o.mode + 21 + 8 + 8
unfolding node_lines
node_short o fits =
    let to_owner : List ItemLine = given_lines (codes "name") o.name ++ given_lines (codes "owner") o.owner in
    let to_group : List ItemLine = to_owner ++ given_lines (codes "group") o.group in
    let to_mode : List ItemLine = to_group ++ given_lines (codes "mode") o.mode in
    let to_priority : List ItemLine = to_mode ++ priority_lines o.priority in
    let to_watch : List ItemLine = to_priority ++ watch_lines o.watch in
    let a = following_items (given_lines (codes "name") o.name) (given_lines (codes "owner") o.owner) (8 * given_weight o.name) (8 * given_weight o.owner) (given_line_short (codes "name") o.name (omega arith)) (given_line_short (codes "owner") o.owner (omega arith)) in
    let b = following_items to_owner (given_lines (codes "group") o.group) (8 * given_weight o.name + 8 * given_weight o.owner) (8 * given_weight o.group) a (given_line_short (codes "group") o.group (omega arith)) in
    let c = following_items to_group (given_lines (codes "mode") o.mode) (8 * given_weight o.name + 8 * given_weight o.owner + 8 * given_weight o.group) (8 * given_weight o.mode) b (given_line_short (codes "mode") o.mode (omega arith)) in
    let d = following_items to_mode (priority_lines o.priority) (8 * given_weight o.name + 8 * given_weight o.owner + 8 * given_weight o.group + 8 * given_weight o.mode) 21 c (priority_short o.priority fits) in
    let e = following_items to_priority (watch_lines o.watch) (8 * given_weight o.name + 8 * given_weight o.owner + 8 * given_weight o.group + 8 * given_weight o.mode + 21) 8 d (watch_short o.watch) in
    following_items to_watch (persist_lines o.persist) (8 * given_weight o.name + 8 * given_weight o.owner + 8 * given_weight o.group + 8 * given_weight o.mode + 21 + 8) 8 e (persist_short o.persist)
