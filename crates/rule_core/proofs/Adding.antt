-- Rules put after others, part by part.
use Rattle.std.proofs.Common.{◌≡◌, ℕ, ◌+◌, ◌^◌, ◌<◌, ◌≤◌, List, ◌∷◌, [], ◌++◌, length, get_or, take, drop, map, sym, ◌∙◌, ap, subst, arith, Result, Err, IfErr, suc}
use Rattle.std.specs.List.{flat_map}
use Rattle.std.proofs.Math.Seq.{drop-cons}
use Rattle.std.proofs.lemmas.List.{map-id, take-append-drop}
use Rattle.std.proofs.lemmas.List.Concat.{flat_map-append}
use Rattle.std.proofs.lemmas.List.Sums.{sum_by-append}
use Rattle.rule_types.specs.Rules.{Rule, rule_tokens, tokens_in}
use Rattle.rule_core.specs.Rules.{ReadRules, file_messages, file_rules, set_of_as}
use Rattle.text_bytes.specs.declared.profile.Profile.{Profile}
use Rattle.file_messages.specs.declared.message.Message.{Message}
use Rattle.text_bytes.specs.declared.source_file.SourceFile.{SourceFile}
use Rattle.rule_core.specs.Gathering.{Adds, FailsAt}
use Rattle.rule_core.specs.declared.fault.RulesFault.{RulesFault}
use Rattle.rule_core.specs.declared.fault.RulesFault.TheVariants.{TooMany, Memory}

-- an element is between those before it and those after it
split_at : {X : Type 0} (xs : List X) (i : ℕ) (x : X) → i < length xs → x ≡ get_or xs i x → xs ≡ take i xs ++ x ∷ drop (i + 1) xs
split_at {X = X} xs i x h e =
    let next : i + 1 ≡ suc i = omega arith in
    let following : drop i xs ≡ x ∷ drop (i + 1) xs = drop-cons xs i x h ∙ ap (λ (y : X). y ∷ drop (suc i) xs) (sym e) ∙ ap (λ (n : ℕ). x ∷ drop n xs) (sym next) in
    sym (take-append-drop i xs) ∙ ap (λ (ys : List X). take i xs ++ ys) following

flat_map_at : {X Y : Type 0} (f : X → List Y) (xs : List X) (i : ℕ) (x : X) → i < length xs → x ≡ get_or xs i x → flat_map f xs ≡ flat_map f (take i xs) ++ (f x ++ flat_map f (drop (i + 1) xs))
flat_map_at {X = X} f xs i x h e = ap (flat_map f) (split_at xs i x h e) ∙ flat_map-append f (take i xs) (x ∷ drop (i + 1) xs)

-- if a part of rules can't be put after others, all of them can't
part_failed : (start now before part rest whole : List Rule) (e : RulesFault) → now ≡ start ++ before → whole ≡ before ++ (part ++ rest) → FailsAt now part e → FailsAt start whole e
part_failed start now before part rest whole TooMany a b h =
    let one : tokens_in (now ++ part) ≡ tokens_in now + tokens_in part = sum_by-append rule_tokens now part in
    let two : tokens_in now ≡ tokens_in start + tokens_in before = ap tokens_in a ∙ sum_by-append rule_tokens start before in
    let three : tokens_in (start ++ whole) ≡ tokens_in start + tokens_in whole = sum_by-append rule_tokens start whole in
    let four : tokens_in whole ≡ tokens_in before + tokens_in (part ++ rest) = ap tokens_in b ∙ sum_by-append rule_tokens before (part ++ rest) in
    let five : tokens_in (part ++ rest) ≡ tokens_in part + tokens_in rest = sum_by-append rule_tokens part rest in
    omega (arith, one, two, three, four, five, h)
part_failed start now before part rest whole Memory a b h = tt

-- a fault is passed on
pub returned : {T : Type 0} (a b p : List Rule) (r : Result T RulesFault) (y e : RulesFault) → r ≡ Err y → y ≡ e → FailsAt a p e → Adds a b p r
returned {T} a b p r y e f g h = subst (λ (x : Result T RulesFault). Adds {T = T} a b p x) (sym (f ∙ ap Err g)) h

-- one of the rules of a list can't be put after those before it
pub turn_failed : {X : Type 0} (f : X → List Rule) (start now : List Rule) (xs : List X) (i : ℕ) (x : X) (e : RulesFault)
    → i < length xs → x ≡ get_or xs i x → now ≡ start ++ flat_map f (take i xs) → FailsAt now (f x) e → FailsAt start (flat_map f xs) e
turn_failed f start now xs i x e h g n w =
    part_failed start now (flat_map f (take i xs)) (f x) (flat_map f (drop (i + 1) xs)) (flat_map f xs) e n (flat_map_at f xs i x h g) w

-- the items of a loop are those of a list
pub all_yielded : {X Y : Type 0} (f : X → List Y) (start now : List Y) (ys xs : List X) → now ≡ start ++ flat_map f ys → map (λ (x : X). x) ys ≡ xs → now ≡ start ++ flat_map f xs
all_yielded {X = X} f start now ys xs n e = n ∙ ap (λ (zs : List X). start ++ flat_map f zs) (sym (map-id ys) ∙ e)

pub all_added : {X : Type 0} (start now ys xs : List X) → now ≡ start ++ ys → map (λ (x : X). x) ys ≡ xs → now ≡ start ++ xs
all_added {X = X} start now ys xs n e = n ∙ ap (λ (zs : List X). start ++ zs) (sym (map-id ys) ∙ e)

-- nothing before
pub too_many_from_none : (start more : List Rule) (e : RulesFault) → start ≡ [] → FailsAt start more e → e ≡ TooMany → 2 ^ 24 < tokens_in more
too_many_from_none start more TooMany s h t = subst (λ (x : List Rule). 2 ^ 24 < tokens_in (x ++ more)) s h
too_many_from_none start more Memory s h t = cc

abbrev pub set_as : List Rule → List Message → ReadRules
set_as rules messages = record { rules = rules; messages = messages }

-- all files were read
pub set_read : (by : Profile) (files : List SourceFile) (start now rules : List Rule) (before messages : List Message) → start ≡ [] → before ≡ [] → now ≡ start ++ flat_map (file_rules by) files → messages ≡ before ++ flat_map (file_messages by) files → rules ≡ now
    → set_as rules messages ≡ set_of_as by files
unfolding set_of_as
set_read by files start now rules before messages s b r m i =
    ap (λ (x : List Rule). set_as x messages) (i ∙ r ∙ ap (λ (x : List Rule). x ++ flat_map (file_rules by) files) s)
    ∙ ap (λ (x : List Message). set_as (flat_map (file_rules by) files) x) (m ∙ ap (λ (x : List Message). x ++ flat_map (file_messages by) files) b)

pub within_read : (by : Profile) (files : List SourceFile) (start now : List Rule) → start ≡ [] → now ≡ start ++ flat_map (file_rules by) files → tokens_in now ≤ 2 ^ 24 → tokens_in (set_of_as by files).rules ≤ 2 ^ 24
unfolding set_of_as
within_read by files start now s r w = subst (λ (x : List Rule). tokens_in x ≤ 2 ^ 24) (r ∙ ap (λ (x : List Rule). x ++ flat_map (file_rules by) files) s) w

pub too_many_read : {T : Type 0} (by : Profile) (files : List SourceFile) (start : List Rule) (r : Result T RulesFault) (y e : RulesFault) → r ≡ Err y → y ≡ e → start ≡ [] → FailsAt start (flat_map (file_rules by) files) e
    → IfErr r (λ x. x ≡ TooMany → 2 ^ 24 < tokens_in (set_of_as by files).rules)
unfolding set_of_as
too_many_read {T} by files start r y e f g s h =
    subst (λ (x : Result T RulesFault). IfErr x (λ x. x ≡ TooMany → 2 ^ 24 < tokens_in (flat_map (file_rules by) files))) (sym (f ∙ ap Err g))
    (too_many_from_none start (flat_map (file_rules by) files) e s h)
