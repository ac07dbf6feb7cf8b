-- The tokens of a rule taken one by one.
use Rattle.std.proofs.Common.{◌≡◌, ℕ, suc, ◌+◌, ◌<◌, List, [], ◌∷◌, ◌++◌, length, get_or, take, Option, Some, None, refl, ap, sym, ◌∙◌, append_assoc, append-nil, arith}
use Rattle.std.proofs.Math.Seq.{take-suc}
use Rattle.std.specs.List.{filter_map}
use Rattle.std.proofs.lemmas.List.{map-append}
use Rattle.std.proofs.lemmas.List.Elements.{filter_map-append}
use Rattle.file_messages.specs.declared.message.MessageKind.{MessageKind}
use Rattle.rule_tokens.specs.Grammar.{Placed}
use Rattle.rule_types.specs.Rules.{Rule}
use Rattle.rule_types.specs.declared.part.Part.{Part}
use Rattle.rule_types.specs.declared.part.Part.TheVariants as part
use Rattle.text_bytes.specs.declared.profile.Profile.{Profile}
use Rattle.text_bytes.specs.declared.profile.Profile.TheVariants.{Manual, Udev}
use Rattle.text_bytes.specs.Texts.{first, last}
use Rattle.rule_core.specs.Drafts.{act_in, again_in, assignment_in, given_again, given_again_after, goto_at, label_again, label_among, label_at, name_place, plain_in, result_in, up_in}
use Rattle.rule_core.specs.Taking.{RuleNames, again, first_given, label_given, label_said, names_given, with_kind, with_name, written_rule}
use Rattle.rule_types.specs.Tokens.{WrittenPart, parts_in}
use Rattle.rule_core.specs.declared.names.NamePlace.{NamePlace}
use Rattle.rule_types.specs.declared.spot.Spot.{Spot}

-- an element is one of these, after those before it, or none
one_after : {X Y : Type 0} (is : X → Option Y) (xs : List X) (x : X) (y : Y) → is x ≡ Some y → filter_map is (xs ++ x ∷ []) ≡ filter_map is xs ++ y ∷ []
one_after is xs x y e = rw e at (filter_map-append is xs (x ∷ []))

none_after : {X Y : Type 0} (is : X → Option Y) (xs : List X) (x : X) → is x ≡ None → filter_map is (xs ++ x ∷ []) ≡ filter_map is xs
none_after is xs x e = rw e at (filter_map-append is xs (x ∷ [])) ∙ append-nil (filter_map is xs)

-- what is to be said of a token goes after what is said of those before it
pub said_after : (by : Profile) (before parts : List WrittenPart) (w : WrittenPart) → given_again_after by before (parts ++ w ∷ []) ≡ given_again_after by before parts ++ again_in by (before ++ parts) w
said_after by before [] w = append-nil (again_in by before w) ∙ ap (λ (ws : List WrittenPart). again_in by ws w) (sym (append-nil before))
said_after by before (v ∷ parts) w =
    ap (λ (fs : List (Spot MessageKind)). again_in by before v ++ fs) (said_after by (before ++ v ∷ []) parts w)
    ∙ sym (append_assoc (again_in by before v) (given_again_after by (before ++ v ∷ []) parts) (again_in by ((before ++ v ∷ []) ++ parts) w))
    ∙ ap (λ (ws : List WrittenPart). (again_in by before v ++ given_again_after by (before ++ v ∷ []) parts) ++ again_in by ws w) (append_assoc before (v ∷ []) parts)

pub none_said : (by : Profile) (parts : List WrittenPart) (w : WrittenPart) → again_in by parts w ≡ [] → given_again_after by [] (parts ++ w ∷ []) ≡ given_again_after by [] parts
none_said by parts w e = said_after by [] parts w ∙ ap (λ (fs : List (Spot MessageKind)). given_again_after by [] parts ++ fs) e ∙ append-nil (given_again_after by [] parts)

-- a name after others
first_after : (names : List NamePlace) (name : NamePlace) → first (names ++ name ∷ []) ≡ first_given (first names) name
first_after [] name = refl
first_after (other ∷ names) name = refl

said_again : (names : List NamePlace) (name : NamePlace) → given_again names name ≡ again (first names) name
said_again [] name = refl
said_again (other ∷ names) name = refl

last_after : (names : List NamePlace) (name : NamePlace) → last (names ++ name ∷ []) ≡ Some name
last_after [] name = refl
last_after (other ∷ []) name = refl
last_after (other ∷ more ∷ names) name = last_after (more ∷ names) name

label_after : (by : Profile) (names : List NamePlace) (name : NamePlace) → label_among by (names ++ name ∷ []) ≡ label_given by (label_among by names) name
label_after Manual names name = first_after names name
label_after Udev names name = last_after names name

label_reported : (by : Profile) (names : List NamePlace) (name : NamePlace) → label_again by names name ≡ label_said by (label_among by names) name
label_reported Manual names name = said_again names name
label_reported Udev names name = refl

-- no token so far
pub no_names : (by : Profile) → names_given Manual [] ≡ names_given by []
no_names Manual = refl
no_names Udev = refl

same_names : (m n : RuleNames) → m.label ≡ n.label → m.goto ≡ n.goto → m.findings ≡ n.findings → m ≡ n
same_names m n l g f = λ i. record { label = l i; goto = g i; findings = f i }

abbrev token_of : Placed → Part → WrittenPart
token_of t p = record { token = t; part = p }

-- one token more, which gives no name
same_after : (by : Profile) (parts : List WrittenPart) (w : WrittenPart) → label_at w ≡ None → goto_at w ≡ None → again_in by parts w ≡ [] → names_given by (parts ++ w ∷ []) ≡ names_given by parts
same_after by parts w l g a =
    same_names (names_given by (parts ++ w ∷ [])) (names_given by parts) (ap (label_among by) (none_after label_at parts w l)) (ap first (none_after goto_at parts w g)) (none_said by parts w a)

-- one token more
one_name_of : (by : Profile) (parts : List WrittenPart) (t : Placed) (p : Part) → names_given by (parts ++ token_of t p ∷ []) ≡ with_name by (names_given by parts) t p
one_name_of by parts t (part.Plain m) = same_after by parts (token_of t (part.Plain m)) refl refl refl
one_name_of by parts t (part.Up m) = same_after by parts (token_of t (part.Up m)) refl refl refl
one_name_of by parts t (part.Act a) = same_after by parts (token_of t (part.Act a)) refl refl refl
one_name_of by parts t (part.Result c) = same_after by parts (token_of t (part.Result c)) refl refl refl
one_name_of by parts t (part.Set a) = same_after by parts (token_of t (part.Set a)) refl refl refl
one_name_of by parts t (part.Label name) =
    let w : WrittenPart = token_of t (part.Label name) in
    same_names (names_given by (parts ++ w ∷ [])) (with_name by (names_given by parts) t (part.Label name))
    (ap (label_among by) (one_after label_at parts w (name_place t name) refl) ∙ label_after by (filter_map label_at parts) (name_place t name)) (ap first (none_after goto_at parts w refl))
    (said_after by [] parts w ∙ ap (λ (fs : List (Spot MessageKind)). given_again_after by [] parts ++ fs) (label_reported by (filter_map label_at parts) (name_place t name)))
one_name_of by parts t (part.Goto name) =
    let w : WrittenPart = token_of t (part.Goto name) in
    same_names (names_given by (parts ++ w ∷ [])) (with_name by (names_given by parts) t (part.Goto name))
    (ap (label_among by) (none_after label_at parts w refl)) (ap first (one_after goto_at parts w (name_place t name) refl) ∙ first_after (filter_map goto_at parts) (name_place t name))
    (said_after by [] parts w ∙ ap (λ (fs : List (Spot MessageKind)). given_again_after by [] parts ++ fs) (said_again (filter_map goto_at parts) (name_place t name)))

pub one_more_name : (by : Profile) (parts : List WrittenPart) (w : WrittenPart) → names_given by (parts ++ w ∷ []) ≡ with_name by (names_given by parts) w.token w.part
one_more_name by parts w = one_name_of by parts w.token w.part

-- the token at a place after those before it
pub names_next : (by : Profile) (parts : List WrittenPart) (i : ℕ) (w : WrittenPart) (before now : RuleNames) → i < length parts → w ≡ get_or parts i w → before ≡ names_given by (take i parts)
    → now ≡ with_name by before w.token w.part → now ≡ names_given by (take (i + 1) parts)
names_next by parts i w before now h e b f =
    let next : i + 1 ≡ suc i = omega arith in
    f
    ∙ ap (λ (n : RuleNames). with_name by n w.token w.part) b
    ∙ sym (one_more_name by (take i parts) w)
    ∙ ap (λ (v : WrittenPart). names_given by (take i parts ++ v ∷ [])) e
    ∙ sym (ap (names_given by) (take-suc parts i w h))
    ∙ ap (λ (n : ℕ). names_given by (take n parts)) (sym next)

-- one part more
same_rule : (j k : Rule) → j.file ≡ k.file → j.line ≡ k.line → j.label ≡ k.label → j.goto ≡ k.goto → j.plain ≡ k.plain → j.up ≡ k.up → j.acts ≡ k.acts → j.results ≡ k.results → j.sets ≡ k.sets → j ≡ k
same_rule j k f n l g p u a r s = λ i. record { file = f i; line = n i; label = l i; goto = g i; plain = p i; up = u i; acts = a i; results = r i; sets = s i }

one_kind_more : (file : List ℕ) (line : ℕ) (label goto : Option (List ℕ)) (parts : List Part) (p : Part) → written_rule file line label goto (parts ++ p ∷ []) ≡ with_kind (written_rule file line label goto parts) p
one_kind_more file line label goto parts (part.Plain m) =
    let p : Part = part.Plain m in
    same_rule (written_rule file line label goto (parts ++ p ∷ [])) (with_kind (written_rule file line label goto parts) p) refl refl refl refl (one_after plain_in parts p m refl) (none_after up_in parts p refl) (none_after act_in parts p refl) (none_after result_in parts p refl) (none_after assignment_in parts p refl)
one_kind_more file line label goto parts (part.Up m) =
    let p : Part = part.Up m in
    same_rule (written_rule file line label goto (parts ++ p ∷ [])) (with_kind (written_rule file line label goto parts) p) refl refl refl refl (none_after plain_in parts p refl) (one_after up_in parts p m refl) (none_after act_in parts p refl) (none_after result_in parts p refl) (none_after assignment_in parts p refl)
one_kind_more file line label goto parts (part.Act a) =
    let p : Part = part.Act a in
    same_rule (written_rule file line label goto (parts ++ p ∷ [])) (with_kind (written_rule file line label goto parts) p) refl refl refl refl (none_after plain_in parts p refl) (none_after up_in parts p refl) (one_after act_in parts p a refl) (none_after result_in parts p refl) (none_after assignment_in parts p refl)
one_kind_more file line label goto parts (part.Result c) =
    let p : Part = part.Result c in
    same_rule (written_rule file line label goto (parts ++ p ∷ [])) (with_kind (written_rule file line label goto parts) p) refl refl refl refl (none_after plain_in parts p refl) (none_after up_in parts p refl) (none_after act_in parts p refl) (one_after result_in parts p c refl) (none_after assignment_in parts p refl)
one_kind_more file line label goto parts (part.Set a) =
    let p : Part = part.Set a in
    same_rule (written_rule file line label goto (parts ++ p ∷ [])) (with_kind (written_rule file line label goto parts) p) refl refl refl refl (none_after plain_in parts p refl) (none_after up_in parts p refl) (none_after act_in parts p refl) (none_after result_in parts p refl) (one_after assignment_in parts p a refl)
one_kind_more file line label goto parts (part.Label name) =
    let p : Part = part.Label name in
    same_rule (written_rule file line label goto (parts ++ p ∷ [])) (with_kind (written_rule file line label goto parts) p) refl refl refl refl (none_after plain_in parts p refl) (none_after up_in parts p refl) (none_after act_in parts p refl) (none_after result_in parts p refl) (none_after assignment_in parts p refl)
one_kind_more file line label goto parts (part.Goto name) =
    let p : Part = part.Goto name in
    same_rule (written_rule file line label goto (parts ++ p ∷ [])) (with_kind (written_rule file line label goto parts) p) refl refl refl refl (none_after plain_in parts p refl) (none_after up_in parts p refl) (none_after act_in parts p refl) (none_after result_in parts p refl) (none_after assignment_in parts p refl)

pub one_more_part : (name : List ℕ) (line : ℕ) (label goto : Option (List ℕ)) (parts : List WrittenPart) (w : WrittenPart)
    → written_rule name line label goto (parts_in (parts ++ w ∷ [])) ≡ with_kind (written_rule name line label goto (parts_in parts)) w.part
one_more_part name line label goto parts w =
    ap (written_rule name line label goto) (map-append (λ (v : WrittenPart). v.part) parts (w ∷ [])) ∙ one_kind_more name line label goto (parts_in parts) w.part
