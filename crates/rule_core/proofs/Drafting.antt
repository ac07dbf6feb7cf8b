-- The tokens of a line read one by one, and its draft.
use Rattle.std.proofs.Common.{◌≡◌, ℕ, cond, List, [], ◌∷◌, ◌++◌, Option, None, Result, Ok, Err, refl, ap, sym, ◌∙◌, append_assoc, append-nil}
use Rattle.text_bytes.specs.declared.profile.Profile.{Profile}
use Rattle.file_messages.specs.declared.message.MessageKind.{MessageKind}
use Rattle.rule_tokens.specs.Grammar.{Item}
use Rattle.rule_core.specs.Drafts.{Draft, part_of_item, parts_of, with_part}
use Rattle.rule_core.specs.Rules.{name_of, rule_at}
use Rattle.rule_core.specs.Taking.{sorted_rule}
use Rattle.rule_types.specs.Tokens.{WrittenPart, parts_in}
use Rattle.rule_types.specs.declared.jumps.Landing.{Landing}
use Rattle.rule_types.specs.Rules.{Rule}
use Rattle.rule_core.specs.declared.names.NamePlace.{NamePlace}
use Rattle.rule_types.specs.declared.spot.Spot.{Spot}

-- parts in front of those that follow
abbrev pub prepended_to : List WrittenPart → Result (List WrittenPart) (Spot MessageKind) → Result (List WrittenPart) (Spot MessageKind)
prepended_to parts (Ok more) = Ok (parts ++ more)
prepended_to parts (Err wrong) = Err wrong

one_more : (parts : List WrittenPart) (p : WrittenPart) (rest : Result (List WrittenPart) (Spot MessageKind)) → prepended_to (parts ++ p ∷ []) rest ≡ prepended_to parts (with_part (Ok p) rest)
one_more parts p (Ok more) = ap Ok (append_assoc parts (p ∷ []) more)
one_more parts p (Err wrong) = refl

pub none_before : (rest : Result (List WrittenPart) (Spot MessageKind)) → prepended_to [] rest ≡ rest
none_before (Ok more) = refl
none_before (Err wrong) = refl

-- a part more is read
pub part_read : (by : Profile) (line : List ℕ) (before now : List WrittenPart) (p : WrittenPart) (i : Item) (left more : List Item) (all : Result (List WrittenPart) (Spot MessageKind))
    → prepended_to before (parts_of by line left) ≡ all → left ≡ i ∷ more → part_of_item by line i ≡ Ok p → now ≡ before ++ p ∷ [] → prepended_to now (parts_of by line more) ≡ all
part_read by line before now p i left more all h e f g =
    ap (λ (x : List WrittenPart). prepended_to x (parts_of by line more)) g
    ∙ one_more before p (parts_of by line more)
    ∙ ap (λ (x : Result WrittenPart (Spot MessageKind)). prepended_to before (with_part x (parts_of by line more))) (sym f)
    ∙ ap (λ (x : List Item). prepended_to before (parts_of by line x)) (sym e)
    ∙ h

-- an item has a fault
pub item_wrong : (by : Profile) (line : List ℕ) (before : List WrittenPart) (wrong : Spot MessageKind) (i : Item) (left more : List Item) (all : Result (List WrittenPart) (Spot MessageKind))
    → prepended_to before (parts_of by line left) ≡ all → left ≡ i ∷ more → part_of_item by line i ≡ Err wrong → all ≡ Err wrong
item_wrong by line before wrong i left more all h e f =
    sym h
    ∙ ap (λ (x : List Item). prepended_to before (parts_of by line x)) e
    ∙ ap (λ (x : Result WrittenPart (Spot MessageKind)). prepended_to before (with_part x (parts_of by line more))) f

-- no item is left
pub items_ended : (by : Profile) (line : List ℕ) (before : List WrittenPart) (left : List Item) (all : Result (List WrittenPart) (Spot MessageKind))
    → prepended_to before (parts_of by line left) ≡ all → left ≡ [] → all ≡ Ok before
items_ended by line before left all h e =
    sym h ∙ ap (λ (x : List Item). prepended_to before (parts_of by line x)) e ∙ ap Ok (append-nil before)

-- a rule of the names and the parts of a draft
pub rule_is : (by : Profile) (name : List ℕ) (line : ℕ) (d : Draft) (l : Landing) (label goto : Option (List ℕ)) (parts : List WrittenPart) (r : Rule) → r ≡ sorted_rule by name line label goto (parts_in parts)
    → label ≡ name_of d.label → goto ≡ cond l.lost None (name_of d.goto) → parts ≡ d.parts → r ≡ rule_at by name line d l
rule_is by name line d l label goto parts r e f g h =
    e
    ∙ ap (λ (x : Option (List ℕ)). sorted_rule by name line x goto (parts_in parts)) f
    ∙ ap (λ (x : Option (List ℕ)). sorted_rule by name line (name_of d.label) x (parts_in parts)) g
    ∙ ap (λ (x : List WrittenPart). sorted_rule by name line (name_of d.label) (cond l.lost None (name_of d.goto)) (parts_in x)) h

-- the jump that is kept
pub kept_is : (kept : Option (List ℕ)) (given : Option NamePlace) (d : Draft) (l : Landing) → kept ≡ cond l.lost None (name_of given) → given ≡ d.goto → kept ≡ cond l.lost None (name_of d.goto)
kept_is kept given d l k g = k ∙ ap (λ (x : Option NamePlace). cond l.lost None (name_of x)) g
