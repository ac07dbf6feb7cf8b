-- What holds for rules, whatever they are.
use Rattle.std.specs.Prelude.{◌≡◌, ℕ, Bool, List}
use Rattle.std.specs.List.{list_all}
use Rattle.rule_types.specs.declared.part.UpMatch.{UpMatch}
use Rattle.rule_types.specs.Rules.{Rule}
use Rattle.eval_state.specs.declared.state.State.{State}
use Rattle.eval_rendering.specs.Holding.{holds}
use Rattle.eval_rendering.specs.Laws.{IsFirstToMeet}
use Rattle.eval_rendering.specs.Subjects.{plain_subject}
use Rattle.eval_state.specs.declared.scene.Scene.{Scene}
use Rattle.eval_rules.specs.declared.outcome.Outcome.{Outcome}

-- whether all matches of the event that a rule has hold
abbrev pub plain_hold : State → Rule → Bool
plain_hold state r = list_all (λ part. holds (plain_subject part.key state) part.wanted) r.plain

-- one scene is another apart from its notes
abbrev pub SameButNotes : Scene → Scene → Type 0
SameButNotes s t = (record t { notes = s.notes }) ≡ s

-- one outcome is another apart from its notes
abbrev pub SameOutcomeButNotes : Outcome → Outcome → Type 0
SameOutcomeButNotes o p = (record p { notes = o.notes }) ≡ o

-- One device of the chain meets all of these matches, and no nearer one does.
pub record IsMetByOneDevice (parts : List UpMatch) (state : State) : Type 0 where
  pub place : ℕ
  pub first : IsFirstToMeet parts state place
