-- Likeness does not depend on order, and no two tokens are both the same and against each other.
use Rattle.std.proofs.Common.{◌≡◌, Bool, true, false, cond, not, ◌&&◌, ◌||◌, List, Option, Some, None, refl, ap, sym, ◌∙◌, true≢false}
use Rattle.std.specs.Bool.{beq}
use Rattle.std.specs.Cmp.{booleans_Decides, signed_Decides}
use Rattle.std.specs.Cmp.Lexicographic.{bytes_decides}
use Rattle.std.specs.List.{list_all}
use Rattle.std.specs.Option.{option_eq}
use Rattle.std.specs.Ordering.{int_eq}
use Rattle.std.specs.Prelude.{ℤ}
use Rattle.std.proofs.lemmas.Cmp.{int_eq_equiv}
use Rattle.text_bytes.specs.Text.{Text}
use Rattle.text_tables.specs.Texts.{is_among, same_text}
use Rattle.file_messages.specs.declared.message.MessageKind.{MessageKind}
use Rattle.file_messages.specs.declared.message.MessageKind.TheVariants.{MatchesExclude, SaidTwice}
use Rattle.rule_tokens.specs.declared.kinds.Operator.{Operator}
use Rattle.rule_tokens.specs.declared.kinds.Operator.TheVariants as op
use Rattle.rule_types.specs.Tokens.{same_operator}
use Rattle.rule_remarks.specs.Relations.{are_alike, are_disjoint, are_opposite, is_against, is_same, is_wordless, lacks_words, same_form, same_matter, same_way, same_words}
use Rattle.rule_remarks.specs.Pairs.{are_related, message_of}
use Rattle.rule_remarks.specs.Said.{Said}
use Rattle.rule_remarks.specs.Known.{key_of}
use Rattle.rule_remarks.specs.declared.pair_finding.PairKind.{PairKind}
use Rattle.rule_remarks.specs.declared.pair_finding.PairKind.TheVariants.{Same, Against}
use Rattle.rule_remarks.specs.declared.form.Form.{Form}
use Rattle.rule_remarks.specs.declared.form.Form.TheVariants as form
use Rattle.rule_remarks.proofs.Beginnings.{first_holds, second_holds}

-- tests that hold of the same are one
pub both_or_none : (a b : Bool) → (a ≡ true → b ≡ true) → (b ≡ true → a ≡ true) → a ≡ b
both_or_none true b f g = sym (f refl)
both_or_none false true f g = g refl
both_or_none false false f g = refl

text_reversed : (a b : Text) → same_text a b ≡ same_text b a
text_reversed a b =
    both_or_none (same_text a b) (same_text b a)
    (λ h. (bytes_decides b a).1 (sym ((bytes_decides a b).0 h)))
    (λ h. (bytes_decides a b).1 (sym ((bytes_decides b a).0 h)))

number_reversed : (a b : Option ℤ) → option_eq int_eq a b ≡ option_eq int_eq b a
number_reversed None None = refl
number_reversed None (Some y) = refl
number_reversed (Some x) None = refl
number_reversed (Some x) (Some y) = int_eq_equiv.symm x y

-- two forms that are one are the same
pub form_is : (a b : Form) → same_form a b ≡ true → a ≡ b
form_is form.AnySubsystem form.AnySubsystem h = refl
form_is form.Empty form.Empty h = refl
form_is form.Plain form.Plain h = refl
form_is form.Pattern form.Pattern h = refl
form_is form.PlainOrEmpty form.PlainOrEmpty h = refl
form_is form.PatternOrEmpty form.PatternOrEmpty h = refl
form_is form.Whole form.Whole h = refl
form_is _ _ h = absurd (true≢false (sym h))

form_itself : (a : Form) → same_form a a ≡ true
form_itself form.AnySubsystem = refl
form_itself form.Empty = refl
form_itself form.Plain = refl
form_itself form.Pattern = refl
form_itself form.PlainOrEmpty = refl
form_itself form.PatternOrEmpty = refl
form_itself form.Whole = refl

form_reversed : (a b : Form) → same_form a b ≡ same_form b a
form_reversed a b =
    both_or_none (same_form a b) (same_form b a)
    (λ h. ap (λ (f : Form). same_form f a) (sym (form_is a b h)) ∙ form_itself a)
    (λ h. ap (λ (f : Form). same_form f b) (sym (form_is b a h)) ∙ form_itself b)

bool_reversed : (a b : Bool) → beq a b ≡ beq b a
bool_reversed true true = refl
bool_reversed true false = refl
bool_reversed false true = refl
bool_reversed false false = refl

pub bool_is : (a b : Bool) → beq a b ≡ true → a ≡ b
bool_is a b h = (booleans_Decides a b).0 h

-- two operators that are one are the same
pub op_is : (o p : Operator) → same_operator o p ≡ true → o ≡ p
op_is op.Equal op.Equal h = refl
op_is op.NotEqual op.NotEqual h = refl
op_is op.Add op.Add h = refl
op_is op.Remove op.Remove h = refl
op_is op.AssignFinal op.AssignFinal h = refl
op_is op.Assign op.Assign h = refl
op_is _ _ h = absurd (true≢false (sym h))

number_is : (a b : Option ℤ) → option_eq int_eq a b ≡ true → a ≡ b
number_is None None h = refl
number_is None (Some y) h = absurd (true≢false (sym h))
number_is (Some x) None h = absurd (true≢false (sym h))
number_is (Some x) (Some y) h = ap Some ((signed_Decides x y).0 h)

and_reversed : (a b : Bool) → (a && b) ≡ (b && a)
and_reversed true true = refl
and_reversed true false = refl
and_reversed false true = refl
and_reversed false false = refl

pub matter_reversed : (a b : Said) → same_matter a b ≡ same_matter b a
matter_reversed a b = rw (text_reversed a.key b.key, text_reversed a.kind b.kind, text_reversed a.name b.name, number_reversed a.number b.number) refl

pub way_reversed : (a b : Said) → same_way a b ≡ same_way b a
way_reversed a b = rw (form_reversed a.form b.form, bool_reversed a.blind b.blind, bool_reversed a.trims b.trims) refl

-- if two tokens compare in one way, the words of both matter or of none
lacks_alike : (a b : Said) → same_way a b ≡ true → lacks_words a ≡ lacks_words b
lacks_alike a b h =
    let one : a.form ≡ b.form = form_is a.form b.form (first_holds (same_form a.form b.form) _ h) in
    let rest : (beq a.blind b.blind && beq a.trims b.trims) ≡ true = second_holds (same_form a.form b.form) _ h in
    let blind : a.blind ≡ b.blind = bool_is a.blind b.blind (first_holds (beq a.blind b.blind) _ rest) in
    let trims : a.trims ≡ b.trims = bool_is a.trims b.trims (second_holds (beq a.blind b.blind) _ rest) in
    ap (λ (f : Form). is_wordless f && (not a.blind && not a.trims)) one
    ∙ ap (λ (x : Bool). is_wordless b.form && (not x && not a.trims)) blind
    ∙ ap (λ (x : Bool). is_wordless b.form && (not b.blind && not x)) trims

-- tokens of one matter that compare in one way have one key
pub key_is : (a b : Said) (o : Operator) → (same_matter a b && same_way a b) ≡ true → key_of a o ≡ key_of b o
unfolding key_of
key_is a b o h =
    let matter : same_matter a b ≡ true = first_holds (same_matter a b) (same_way a b) h in
    let way : same_way a b ≡ true = second_holds (same_matter a b) (same_way a b) h in
    let rest : (same_text a.kind b.kind && (same_text a.name b.name && option_eq int_eq a.number b.number)) ≡ true = second_holds (same_text a.key b.key) (same_text a.kind b.kind && (same_text a.name b.name && option_eq int_eq a.number b.number)) matter in
    let last : (same_text a.name b.name && option_eq int_eq a.number b.number) ≡ true = second_holds (same_text a.kind b.kind) (same_text a.name b.name && option_eq int_eq a.number b.number) rest in
    let flags : (beq a.blind b.blind && beq a.trims b.trims) ≡ true = second_holds (same_form a.form b.form) (beq a.blind b.blind && beq a.trims b.trims) way in
    let key : a.key ≡ b.key = (bytes_decides a.key b.key).0 (first_holds (same_text a.key b.key) (same_text a.kind b.kind && (same_text a.name b.name && option_eq int_eq a.number b.number)) matter) in
    let kind : a.kind ≡ b.kind = (bytes_decides a.kind b.kind).0 (first_holds (same_text a.kind b.kind) (same_text a.name b.name && option_eq int_eq a.number b.number) rest) in
    let name : a.name ≡ b.name = (bytes_decides a.name b.name).0 (first_holds (same_text a.name b.name) (option_eq int_eq a.number b.number) last) in
    let number : a.number ≡ b.number = number_is a.number b.number (second_holds (same_text a.name b.name) (option_eq int_eq a.number b.number) last) in
    let form : a.form ≡ b.form = form_is a.form b.form (first_holds (same_form a.form b.form) (beq a.blind b.blind && beq a.trims b.trims) way) in
    let blind : a.blind ≡ b.blind = bool_is a.blind b.blind (first_holds (beq a.blind b.blind) (beq a.trims b.trims) flags) in
    let trims : a.trims ≡ b.trims = bool_is a.trims b.trims (second_holds (beq a.blind b.blind) (beq a.trims b.trims) flags) in
    rw (key, kind, name, number, form, blind, trims) refl

words_reversed : (ws vs : List Text) → same_words ws vs ≡ same_words vs ws
words_reversed ws vs = and_reversed (list_all (is_among vs) ws) (list_all (is_among ws) vs)

-- tests of two ways round are one, if the third and the fourth are one once the first two hold
opposite_by : (m n w v l k s t : Bool) → m ≡ n → w ≡ v → (w ≡ true → l ≡ k) → s ≡ t → ((m && w) && (l || s)) ≡ ((n && v) && (k || t))
opposite_by m n w v l k s t e f g h = rw (e, f, h) (by n v refl)
  where
    by : (x y : Bool) → v ≡ y → ((x && y) && (l || t)) ≡ ((x && y) && (k || t))
    by false y q = refl
    by true false q = refl
    by true true q = ap (λ (z : Bool). z || t) (g (f ∙ q))

-- which of two tokens is written first makes no difference for whether they are alike
pub alike_reversed : (a b : Said) → are_alike a b ≡ are_alike b a
alike_reversed a b =
    opposite_by (same_matter a b) (same_matter b a) (same_way a b) (same_way b a) (lacks_words a) (lacks_words b) (same_words a.words b.words) (same_words b.words a.words)
    (matter_reversed a b) (way_reversed a b) (lacks_alike a b) (words_reversed a.words b.words)

not_opposite : (o p : Operator) → same_operator o p ≡ true → are_opposite o p ≡ false
not_opposite op.Equal op.NotEqual h = absurd (true≢false (sym h))
not_opposite op.NotEqual op.Equal h = absurd (true≢false (sym h))
not_opposite _ _ h = refl

-- two tokens that say the same do not exclude each other
pub never_both : (a b : Said) → is_same a b ≡ true → is_against a b ≡ false
unfolding is_same is_against
never_both a b h =
    let alike : are_alike a b ≡ true = first_holds (are_alike a b) (same_operator a.operator b.operator) h in
    let one : same_operator a.operator b.operator ≡ true = second_holds (are_alike a b) (same_operator a.operator b.operator) h in
    ap (λ (x : Bool). cond x (are_opposite a.operator b.operator) (are_disjoint a b)) alike ∙ not_opposite a.operator b.operator one

-- the message about a pair, by whether both tokens say the same
pub message_is : (kind : PairKind) (a b : Said) → are_related kind a b ≡ true → message_of kind ≡ cond (is_same a b) SaidTwice MatchesExclude
message_is Same a b h = ap (λ (t : Bool). cond {A = MessageKind} t SaidTwice MatchesExclude) (sym h)
message_is Against a b h = by (is_same a b) refl
  where
    by : (t : Bool) → is_same a b ≡ t → MatchesExclude ≡ cond {A = MessageKind} (is_same a b) SaidTwice MatchesExclude
    by true e = absurd (true≢false (sym h ∙ never_both a b e))
    by false e = ap (λ (t : Bool). cond {A = MessageKind} t SaidTwice MatchesExclude) (sym e)
