-- Which keys `:=` makes final, and when an assignment comes too late.
use Rattle.std.specs.Prelude.{Bool, false, Option, Some, None}
use Rattle.text_bytes.specs.declared.profile.Profile.{Profile}
use Rattle.text_bytes.specs.declared.profile.Profile.TheVariants.{Manual, Udev}
use Rattle.rule_types.specs.declared.roles.AssignOperator.{AssignOperator}
use Rattle.rule_types.specs.declared.roles.AssignOperator.TheVariants.{AssignFinal}
use Rattle.rule_types.specs.declared.roles.Target.{Target}
use Rattle.rule_types.specs.declared.roles.Target.TheVariants as target
use Rattle.rule_types.specs.declared.rule_option.RuleOption.{RuleOption}
use Rattle.rule_types.specs.declared.rule_option.RuleOption.TheVariants as option
use Rattle.rule_types.specs.declared.part.Change.{Change}
use Rattle.rule_types.specs.declared.part.Change.TheVariants as change
use Rattle.eval_state.specs.Finals.{is_final, made_final}
use Rattle.eval_state.specs.declared.finals.FinalKey.{FinalKey}
use Rattle.eval_state.specs.declared.finals.FinalKey.TheVariants.{Owner, Group, Mode, Name, Symlink, Run, Priority, Watch}
use Rattle.eval_state.specs.declared.finals.Finals.{Finals}
use Rattle.eval_state.specs.declared.scene.Scene.{Scene}

-- the key of a text that `:=` makes final, if there is one
abbrev pub final_target : Target → Option FinalKey
final_target target.Owner = Some Owner
final_target target.Group = Some Group
final_target target.Mode = Some Mode
final_target target.Name = Some Name
final_target target.Symlink = Some Symlink
final_target t = None

-- the key of the priority of links that `:=` makes final: for udev it never is
abbrev pub final_priority : Profile → Option FinalKey
final_priority Manual = Some Priority
final_priority Udev = None

-- the key of an option that `:=` makes final, if there is one
abbrev pub final_option : Profile → RuleOption → Option FinalKey
final_option profile (option.LinkPriority n) = final_priority profile
final_option profile option.Watch = Some Watch
final_option profile option.NoWatch = Some Watch
final_option profile o = None

-- the key of an assignment that `:=` makes final, if there is one
abbrev pub final_key : Profile → Change → Option FinalKey
final_key profile (change.Option known) = final_option profile known
final_key profile (change.Text t template) = final_target t
final_key profile (change.Run kind template) = Some Run

-- whether a key, if there is one, no longer changes
abbrev pub is_settled : Option FinalKey → Finals → Bool
is_settled None f = false
is_settled (Some k) f = is_final f k

-- a scene in which a key, if there is one, no longer changes
abbrev pub settled : Option FinalKey → Scene → Scene
settled None s = s
settled (Some k) s = record s { finals = made_final s.finals k }

-- what follows an assignment that was made: `:=` makes its key final
abbrev pub finally : AssignOperator → Option FinalKey → Scene → Scene
finally AssignFinal k s = settled k s
finally _ k s = s
