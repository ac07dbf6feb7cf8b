-- When the end of a rule is reached: all its keys let it go on.
use Rattle.std.specs.Prelude.{◌≡◌, true, List, [], ◌∷◌, Some, fold}
use Rattle.std.specs.List.{list_all}
use Rattle.builtin_devices.specs.Knowledge.{Known}
use Rattle.rule_types.specs.Rules.{Rule}
use Rattle.rule_types.specs.declared.part.Act.{Act}
use Rattle.rule_types.specs.declared.part.UpMatch.{UpMatch}
use Rattle.eval_state.specs.declared.scene.Scene.{Scene}
use Rattle.eval_rendering.specs.Holding.{holds, one}
use Rattle.eval_acts.specs.Acts.{act_step}
use Rattle.eval_acts.specs.Reaching.{match_reached}
use Rattle.eval_rules.specs.Laws.{IsMetByOneDevice, plain_hold}
use Rattle.eval_rules.specs.Steps.{with_selected}

-- what the matches of the event leave: nothing but notes, which some leave by being reached
abbrev pub matched : Rule → Scene → Scene
matched r s = record s { notes = (fold (λ at part. match_reached r part.key at) s r.plain).notes }

-- Of the devices of the chain the nearest that meets all matches is selected; without a match nothing changes.
abbrev pub IsSearched : List UpMatch → Scene → Scene → Type 0
IsSearched [] s found = found ≡ s
IsSearched (part ∷ parts) s found =
    (met : IsMetByOneDevice (part ∷ parts) s.state) × (found ≡ record s { state = with_selected (Some met.place) s.state })

-- Acts are done one after another, and each lets the rule go on.
abbrev pub AllGoOn : Known → Rule → List Act → Scene → Scene → Type 0
AllGoOn known r [] s done = done ≡ s
AllGoOn known r (act ∷ acts) s done = ((act_step known r act s).1 ≡ true) × AllGoOn known r acts (act_step known r act s).0 done

-- All keys of a rule let it go on, from a scene up to another, over which it makes its assignments: the matches of the
-- event hold, one device meets the matches along the chain, each act lets it go on, and the matches of the result hold then.
pub record LetGoOn (known : Known) (r : Rule) (s done : Scene) : Type 0 where
  pub hold : plain_hold s.state r ≡ true
  pub found : Scene
  pub searched : IsSearched r.up (matched r s) found
  pub acted : AllGoOn known r r.acts found done
  pub results : list_all (holds (one done.state.result)) r.results ≡ true
