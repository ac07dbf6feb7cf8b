-- Serves inner proofs only: for which actions a rule's first match holds.
use Rattle.std.specs.Prelude.{ℕ, Bool, ◌&&◌, List, [], ◌∷◌, map, position, Option, Some, None, codes}
use Rattle.text_bytes.specs.Texts.{is_empty}
use Rattle.text_bytes.specs.Text.{Text}
use Rattle.text_tables.specs.Texts.{same_text}
use Rattle.rule_types.specs.declared.roles.PlainKey.{PlainKey}
use Rattle.rule_types.specs.declared.roles.PlainKey.TheVariants as plain
use Rattle.rule_types.specs.declared.part.Comparison.{Comparison}
use Rattle.rule_types.specs.declared.part.PlainMatch.{PlainMatch}
use Rattle.rule_types.specs.Rules.{Rule}
use Rattle.eval_rendering.specs.Holding.{holds, one}
use Rattle.eval_core.specs.declared.actions.ByAction.{ByAction}

-- the actions that the kernel reports
abbrev pub actions : List Text
actions = codes "add" ∷ codes "bind" ∷ codes "change" ∷ codes "move" ∷ codes "offline" ∷ codes "online" ∷ codes "remove" ∷ codes "unbind" ∷ []

-- the place of an action among them
abbrev pub action_place : Text → Option ℕ
action_place action = position (same_text action) actions

-- whether a match of the action holds, for each of them
abbrev pub held_for : Comparison → List Bool
held_for wanted = map (λ action. holds (one action) wanted) actions

-- what is known of a rule whose first match has a key, if it is the action's
abbrev pub with_action : PlainKey → Comparison → Bool → Option ByAction
with_action plain.Action wanted guard = Some (record { held = held_for wanted; is_guard = guard })
with_action key wanted guard = None

-- whether a rule has nothing after its matches of the event and of a device
abbrev pub has_no_more : Rule → Bool
has_no_more r = is_empty r.acts && is_empty r.results && is_empty r.sets

-- whether a rule has nothing but its first match of the event, after which it has these
abbrev pub is_guard : Rule → List PlainMatch → Bool
is_guard r parts = is_empty parts && is_empty r.up && has_no_more r

-- what is known of a rule with these matches of the event
abbrev pub by_action_in : Rule → List PlainMatch → Option ByAction
by_action_in r [] = None
by_action_in r (part ∷ parts) = with_action part.key part.wanted (is_guard r parts)

-- what is known of a rule, if its first match is one of the action
abbrev pub by_action : Rule → Option ByAction
by_action r = by_action_in r r.plain
