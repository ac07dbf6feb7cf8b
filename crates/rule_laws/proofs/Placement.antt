-- What rules are defined by is what the grammar relates.
use Rattle.std.proofs.Common.{◌≡◌, ℕ, ◌+◌, List, [], ◌∷◌, length, Option, Some, None, sym, ◌∙◌, subst}
use Rattle.std.specs.Prelude.{All}
use Rattle.std.proofs.lemmas.List.Elements.{All-cons, All-nil}
use Rattle.rule_tokens.specs.declared.kinds.TokenFault.{TokenFault}
use Rattle.rule_tokens.specs.Values.{Means, has_escapes}
use Rattle.rule_tokens.specs.Grammar.{Placed, TokenAt, LexesAt, Lexes, faulty, last, more, answers}
use Rattle.rule_tokens.specs.Lines.{items_of, ItemsAreLexed, MeansUnquoted, ValuesAreMeant}
use Rattle.rule_tokens.proofs.Lines.{answers_same}
use Rattle.rule_tokens.proofs.Meanings.{means_only, means_unquoted, whole_value}
use Rattle.rule_tokens.proofs.Steps.{new_given, new_only}

lexed : (line : List ℕ) (tokens : List Placed) (end : Option TokenFault) → items_of line ≡ answers tokens end → Lexes line tokens end
lexed line tokens end e =
    let g = new_given line in
    let same = answers_same g.0 tokens g.1 end (sym g.3 ∙ e) in
    let some : Lexes line tokens g.1 = subst (λ ts. Lexes line ts g.1) same.0 g.2 in
    subst (Lexes line tokens) same.1 some

pub items_are_lexed : ItemsAreLexed
items_are_lexed line tokens end = (λ l. new_only line tokens end l, lexed line tokens end)

meant : (at : ℕ) (text : List ℕ) (t : Placed) (rest : List ℕ) → TokenAt at text t rest → MeansUnquoted t
meant at text t rest here bytes =
    let unread = means_unquoted t.parts.quote t.parts.value (whole_value t.parts.quote here.is_present.pieces t.parts.value here.is_present.value) in
    (means_only t.parts.quote t.parts.value bytes, λ e. subst (Means (has_escapes t.parts.quote) t.parts.value) e unread)

all_meant : (at : ℕ) (text : List ℕ) (tokens : List Placed) (end : Option TokenFault) → LexesAt at text tokens end → All MeansUnquoted tokens
all_meant at text [] None l = elim l [ ]
all_meant at text [] (Some fault) (faulty here is) = All-nil MeansUnquoted
all_meant at text (t ∷ []) None (last rest gap here between) = All-cons MeansUnquoted t [] (meant at text t rest here) (All-nil MeansUnquoted)
all_meant at text (t ∷ tokens) end (more rest gap next here between some following) =
    All-cons MeansUnquoted t tokens (meant at text t rest here) (all_meant (t.span.end + length gap) next tokens end following)

pub values_are_meant : ValuesAreMeant
values_are_meant line tokens end l = all_meant 0 line tokens end l
