-- Names that are given again.
use Rattle.std.proofs.Common.{◌≡◌, ◌∙◌, ◌++◌, ◌∷◌, ℕ, List, [], ap, refl, filter_map}
use Rattle.file_messages.specs.declared.message.MessageKind.TheVariants.{GivenTwice}
use Rattle.file_messages.specs.declared.message.MessageKind.{MessageKind}
use Rattle.rule_tokens.specs.Grammar.{Placed}
use Rattle.rule_types.specs.declared.part.Part.{Part}
use Rattle.rule_types.specs.declared.part.Part.TheVariants as part
use Rattle.text_bytes.specs.declared.profile.Profile.TheVariants.{Manual}
use Rattle.rule_core.specs.Drafts.{again_in, given_again, given_again_after, given_twice, goto_at, label_at, name_place, part_again}
use Rattle.rule_core.specs.Laws.{GivesAgain, IsGivenAmong, IsReportedWhereAgain}
use Rattle.rule_types.specs.Spots.{value_spot}
use Rattle.rule_types.specs.Tokens.{WrittenPart}
use Rattle.rule_core.specs.declared.names.NamePlace.{NamePlace}
use Rattle.rule_types.specs.declared.spot.Spot.{Spot}
use Rattle.rule_core.proofs.Taking.{none_said, said_after}

abbrev token_of : Placed → Part → WrittenPart
token_of t p = record { token = t; part = p }

label_again : (before following : List WrittenPart) (t : Placed) (given : List ℕ) (name : NamePlace) → given_again (filter_map label_at (before ++ token_of t (part.Label given) ∷ following)) name ≡ given_twice name ∷ []
label_again [] following t given name = refl
label_again (w ∷ before) following t given name = by w.token w.part (label_again before following t given name)
  where
    by : (u : Placed) (p : Part) → given_again (filter_map label_at (before ++ token_of t (part.Label given) ∷ following)) name ≡ given_twice name ∷ []
        → given_again (filter_map label_at (token_of u p ∷ before ++ token_of t (part.Label given) ∷ following)) name ≡ given_twice name ∷ []
    by u (part.Plain m) e = e
    by u (part.Up m) e = e
    by u (part.Act a) e = e
    by u (part.Result c) e = e
    by u (part.Set a) e = e
    by u (part.Label l) e = refl
    by u (part.Goto l) e = e

no_label : (parts : List WrittenPart) → ((before following : List WrittenPart) (t : Placed) (given : List ℕ) → parts ≡ before ++ token_of t (part.Label given) ∷ following → ⊥) → filter_map label_at parts ≡ []
no_label [] none = refl
no_label (w ∷ parts) none = by w.token w.part (λ before following t given cut. none before following t given cut) (no_label parts (λ before following t given cut. none (w ∷ before) following t given (ap (λ (ws : List WrittenPart). w ∷ ws) cut)))
  where
    by : (u : Placed) (p : Part) → ((before following : List WrittenPart) (t : Placed) (given : List ℕ) → token_of u p ∷ parts ≡ before ++ token_of t (part.Label given) ∷ following → ⊥) → filter_map label_at parts ≡ [] → filter_map label_at (token_of u p ∷ parts) ≡ []
    by u (part.Plain m) gone e = e
    by u (part.Up m) gone e = e
    by u (part.Act a) gone e = e
    by u (part.Result c) gone e = e
    by u (part.Set a) gone e = e
    by u (part.Label l) gone e = absurd (gone [] parts u l refl)
    by u (part.Goto l) gone e = e

goto_again : (before following : List WrittenPart) (t : Placed) (given : List ℕ) (name : NamePlace) → given_again (filter_map goto_at (before ++ token_of t (part.Goto given) ∷ following)) name ≡ given_twice name ∷ []
goto_again [] following t given name = refl
goto_again (w ∷ before) following t given name = by w.token w.part (goto_again before following t given name)
  where
    by : (u : Placed) (p : Part) → given_again (filter_map goto_at (before ++ token_of t (part.Goto given) ∷ following)) name ≡ given_twice name ∷ []
        → given_again (filter_map goto_at (token_of u p ∷ before ++ token_of t (part.Goto given) ∷ following)) name ≡ given_twice name ∷ []
    by u (part.Plain m) e = e
    by u (part.Up m) e = e
    by u (part.Act a) e = e
    by u (part.Result c) e = e
    by u (part.Set a) e = e
    by u (part.Goto l) e = refl
    by u (part.Label l) e = e

no_goto : (parts : List WrittenPart) → ((before following : List WrittenPart) (t : Placed) (given : List ℕ) → parts ≡ before ++ token_of t (part.Goto given) ∷ following → ⊥) → filter_map goto_at parts ≡ []
no_goto [] none = refl
no_goto (w ∷ parts) none = by w.token w.part (λ before following t given cut. none before following t given cut) (no_goto parts (λ before following t given cut. none (w ∷ before) following t given (ap (λ (ws : List WrittenPart). w ∷ ws) cut)))
  where
    by : (u : Placed) (p : Part) → ((before following : List WrittenPart) (t : Placed) (given : List ℕ) → token_of u p ∷ parts ≡ before ++ token_of t (part.Goto given) ∷ following → ⊥) → filter_map goto_at parts ≡ [] → filter_map goto_at (token_of u p ∷ parts) ≡ []
    by u (part.Plain m) gone e = e
    by u (part.Up m) gone e = e
    by u (part.Act a) gone e = e
    by u (part.Result c) gone e = e
    by u (part.Set a) gone e = e
    by u (part.Goto l) gone e = absurd (gone [] parts u l refl)
    by u (part.Label l) gone e = e

-- what is said of a token more
reported_again : (parts : List WrittenPart) (w : WrittenPart) (name : List ℕ) → again_in Manual parts w ≡ value_spot GivenTwice name w.token ∷ [] → given_again_after Manual [] (parts ++ w ∷ []) ≡ given_again_after Manual [] parts ++ value_spot GivenTwice name w.token ∷ []
reported_again parts w name e = said_after Manual [] parts w ∙ ap (λ (fs : List (Spot MessageKind)). given_again_after Manual [] parts ++ fs) e

said_of_again : (before : List WrittenPart) (u : Placed) (earlier : Part) (following : List WrittenPart) (t : Placed) (p : Part) (name : List ℕ) → GivesAgain earlier p name → part_again Manual (before ++ token_of u earlier ∷ following) t p ≡ value_spot GivenTwice name t ∷ []
said_of_again before u (part.Label given) following t (part.Label later) name e = label_again before following u given (name_place t later) ∙ ap (λ (n : List ℕ). value_spot GivenTwice n t ∷ []) e
said_of_again before u (part.Goto given) following t (part.Goto later) name e = goto_again before following u given (name_place t later) ∙ ap (λ (n : List ℕ). value_spot GivenTwice n t ∷ []) e
said_of_again before u (part.Plain m) following t (part.Plain w) name e = absurd e
said_of_again before u (part.Plain m) following t (part.Up w) name e = absurd e
said_of_again before u (part.Plain m) following t (part.Act w) name e = absurd e
said_of_again before u (part.Plain m) following t (part.Result w) name e = absurd e
said_of_again before u (part.Plain m) following t (part.Set w) name e = absurd e
said_of_again before u (part.Plain m) following t (part.Label w) name e = absurd e
said_of_again before u (part.Plain m) following t (part.Goto w) name e = absurd e
said_of_again before u (part.Up m) following t (part.Plain w) name e = absurd e
said_of_again before u (part.Up m) following t (part.Up w) name e = absurd e
said_of_again before u (part.Up m) following t (part.Act w) name e = absurd e
said_of_again before u (part.Up m) following t (part.Result w) name e = absurd e
said_of_again before u (part.Up m) following t (part.Set w) name e = absurd e
said_of_again before u (part.Up m) following t (part.Label w) name e = absurd e
said_of_again before u (part.Up m) following t (part.Goto w) name e = absurd e
said_of_again before u (part.Act a) following t (part.Plain w) name e = absurd e
said_of_again before u (part.Act a) following t (part.Up w) name e = absurd e
said_of_again before u (part.Act a) following t (part.Act w) name e = absurd e
said_of_again before u (part.Act a) following t (part.Result w) name e = absurd e
said_of_again before u (part.Act a) following t (part.Set w) name e = absurd e
said_of_again before u (part.Act a) following t (part.Label w) name e = absurd e
said_of_again before u (part.Act a) following t (part.Goto w) name e = absurd e
said_of_again before u (part.Result c) following t (part.Plain w) name e = absurd e
said_of_again before u (part.Result c) following t (part.Up w) name e = absurd e
said_of_again before u (part.Result c) following t (part.Act w) name e = absurd e
said_of_again before u (part.Result c) following t (part.Result w) name e = absurd e
said_of_again before u (part.Result c) following t (part.Set w) name e = absurd e
said_of_again before u (part.Result c) following t (part.Label w) name e = absurd e
said_of_again before u (part.Result c) following t (part.Goto w) name e = absurd e
said_of_again before u (part.Set a) following t (part.Plain w) name e = absurd e
said_of_again before u (part.Set a) following t (part.Up w) name e = absurd e
said_of_again before u (part.Set a) following t (part.Act w) name e = absurd e
said_of_again before u (part.Set a) following t (part.Result w) name e = absurd e
said_of_again before u (part.Set a) following t (part.Set w) name e = absurd e
said_of_again before u (part.Set a) following t (part.Label w) name e = absurd e
said_of_again before u (part.Set a) following t (part.Goto w) name e = absurd e
said_of_again before u (part.Label l) following t (part.Plain w) name e = absurd e
said_of_again before u (part.Label l) following t (part.Up w) name e = absurd e
said_of_again before u (part.Label l) following t (part.Act w) name e = absurd e
said_of_again before u (part.Label l) following t (part.Result w) name e = absurd e
said_of_again before u (part.Label l) following t (part.Set w) name e = absurd e
said_of_again before u (part.Label l) following t (part.Goto w) name e = absurd e
said_of_again before u (part.Goto l) following t (part.Plain w) name e = absurd e
said_of_again before u (part.Goto l) following t (part.Up w) name e = absurd e
said_of_again before u (part.Goto l) following t (part.Act w) name e = absurd e
said_of_again before u (part.Goto l) following t (part.Result w) name e = absurd e
said_of_again before u (part.Goto l) following t (part.Set w) name e = absurd e
said_of_again before u (part.Goto l) following t (part.Label w) name e = absurd e

said_once : (parts : List WrittenPart) (t : Placed) (p : Part) → ((name : List ℕ) → IsGivenAmong parts (token_of t p) name → ⊥) → part_again Manual parts t p ≡ []
said_once parts t (part.Plain m) none = refl
said_once parts t (part.Up m) none = refl
said_once parts t (part.Act a) none = refl
said_once parts t (part.Result c) none = refl
said_once parts t (part.Set a) none = refl
said_once parts t (part.Label later) none =
    let gone : filter_map label_at parts ≡ [] = no_label parts (λ before following u given cut. none later (record { before = before; earlier = token_of u (part.Label given); following = following; cut = cut; again = refl })) in
    ap (λ (names : List NamePlace). given_again names (name_place t later)) gone
said_once parts t (part.Goto later) none =
    let gone : filter_map goto_at parts ≡ [] = no_goto parts (λ before following u given cut. none later (record { before = before; earlier = token_of u (part.Goto given); following = following; cut = cut; again = refl })) in
    ap (λ (names : List NamePlace). given_again names (name_place t later)) gone

pub is_reported : (parts : List WrittenPart) (w : WrittenPart) → IsReportedWhereAgain parts w
is_reported parts w = record {
  again = λ name g. reported_again parts w name (ap (λ (ws : List WrittenPart). again_in Manual ws w) g.cut ∙ said_of_again g.before g.earlier.token g.earlier.part g.following w.token w.part name g.again);
  once = λ none. none_said Manual parts w (said_once parts w.token w.part none);
}
