-- What is spelled is read again, and what is faulty is refused for that fault.
use Rattle.std.proofs.Common.{◌≡◌, ◌≢◌, ℕ, suc, ◌+◌, inl, inr, Bool, true, false, cond, not, ◌==◌, List, [], ◌∷◌, ◌++◌, length, take, drop, Option, Some, None, Ok, Err, refl, sym, ◌∙◌, ap, arith, append_assoc}
use Rattle.std.specs.List.{AllPass, prefix_len, take_while}
use Rattle.std.proofs.lemmas.List.{drop_at, take_at}
use Rattle.std.proofs.lemmas.Bool.{and_parts}
use Rattle.text_bytes.specs.Names.{dollar, percent, plus, open_brace, close_brace}
use Rattle.text_bytes.specs.Texts.{begins_with, skip_while, split_once}
use Rattle.rule_tokens.specs.TemplateGrammar.{BeginsNotPlain, HasNoClose, IsFaulty, IsName, IsSign, IsSignWith, NamesNothing, Spells, in_braces}
use Rattle.rule_tokens.specs.Names.{long_names, named, short_names}
use Rattle.rule_tokens.specs.Number.{word_of}
use Rattle.rule_tokens.specs.TemplateReading.{FirstPiece, argument_of, bracketed, is_no_sign, numbered, first_at, result_piece, with_name}
use Rattle.rule_tokens.specs.declared.fault.TemplateFault.{TemplateFault}
use Rattle.rule_tokens.specs.declared.fault.TemplateFault.TheVariants as fault
use Rattle.rule_tokens.specs.declared.names.Substitution.{Substitution}
use Rattle.rule_tokens.specs.declared.names.Substitution.TheVariants as name
use Rattle.rule_tokens.specs.declared.piece.Piece.{Piece}
use Rattle.rule_tokens.specs.declared.piece.Piece.TheVariants as piece
use Rattle.rule_tokens.proofs.Closing.{braced_again, braces_are, lacks_again, none_again, split_again}
use Rattle.rule_tokens.proofs.TemplateNumbers.{from_again, no_word_again, word_again}
use Rattle.rule_tokens.proofs.Spelled.{substituted}
use Rattle.rule_tokens.proofs.Signs.{NameWell, Rows, is_ordered, named_again, named_well}

-- the piece at the front of a text; there is none if nothing is left
abbrev pub first_piece : List ℕ → FirstPiece
first_piece [] = Err fault.Memory
first_piece (b ∷ t) = first_at b t

long_again : (n : List ℕ) (s : Substitution) (rest : List ℕ) → IsName long_names n s rest → first_at dollar (n ++ rest) ≡ argument_of s rest
unfolding first_at
long_again n s rest h = ap substituted (named_again long_names n s rest refl h)

short_again : (n : List ℕ) (s : Substitution) (rest : List ℕ) → IsName short_names n s rest → first_at percent (n ++ rest) ≡ argument_of s rest
unfolding first_at
short_again n s rest h = ap substituted (named_again short_names n s rest refl h)

-- a sign asks for what its name does
sign_again : (s : Substitution) (sign rest : List ℕ) → IsSign s sign rest → first_piece (sign ++ rest) ≡ argument_of s rest
sign_again s sign rest (inl h) = ap (λ (l : List ℕ). first_piece (l ++ rest)) h.1 ∙ long_again h.0 s rest h.2
sign_again s sign rest (inr h) = ap (λ (l : List ℕ). first_piece (l ++ rest)) h.1 ∙ short_again h.0 s rest h.2

with_again : (s : Substitution) (content text rest : List ℕ) → IsSignWith s content text rest → first_piece (text ++ rest) ≡ argument_of s (in_braces content ++ rest)
with_again s content text rest h =
    ap (λ (l : List ℕ). first_piece (l ++ rest)) h.spelled
    ∙ ap first_piece (append_assoc h.sign (in_braces content) rest)
    ∙ sign_again s h.sign (in_braces content ++ rest) h.is_sign

attr_again : (n text rest : List ℕ) → n ≢ [] → IsSignWith name.Attr n text rest → first_piece (text ++ rest) ≡ Ok (piece.Attr n, rest)
unfolding argument_of
attr_again n text rest some h = with_again name.Attr n text rest h ∙ ap (with_name (λ m. piece.Attr m)) (braced_again n rest some h.no_close)

env_again : (n text rest : List ℕ) → n ≢ [] → IsSignWith name.Env n text rest → first_piece (text ++ rest) ≡ Ok (piece.Env n, rest)
unfolding argument_of
env_again n text rest some h = with_again name.Env n text rest h ∙ ap (with_name (λ m. piece.Env m)) (braced_again n rest some h.no_close)

-- a result alone, and one with braces
result_alone : (rest : List ℕ) → begins_with open_brace rest ≡ false → result_piece rest ≡ Ok (piece.Result, rest)
unfolding result_piece
result_alone [] e = refl
result_alone (b ∷ t) e = ap (λ (v : Bool). cond v (bracketed (split_once close_brace t)) (Ok (piece.Result, b ∷ t))) e

result_again : (text rest : List ℕ) → IsSign name.Result text rest → begins_with open_brace rest ≡ false → first_piece (text ++ rest) ≡ Ok (piece.Result, rest)
unfolding argument_of
result_again text rest h e = sign_again name.Result text rest h ∙ result_alone rest e

result_braces : (content rest : List ℕ) → HasNoClose content → result_piece (in_braces content ++ rest) ≡ numbered (word_of content) rest
unfolding result_piece
result_braces content rest none = ap result_piece (braces_are content rest) ∙ ap bracketed (split_again content rest none)

number_again : (content text rest : List ℕ) → IsSignWith name.Result content text rest → first_piece (text ++ rest) ≡ numbered (word_of content) rest
unfolding argument_of
number_again content text rest h = with_again name.Result content text rest h ∙ result_braces content rest h.no_close

-- plain bytes
run_again : (run rest : List ℕ) → AllPass is_no_sign run → BeginsNotPlain rest → prefix_len is_no_sign (run ++ rest) ≡ length run
run_again [] [] a o = refl
run_again [] (b ∷ rest) a o = ap (λ (v : Bool). cond v (1 + prefix_len is_no_sign rest) 0) o
run_again (b ∷ run) rest a o =
    let here : is_no_sign b ≡ true = a 0 0 (omega arith) in
    let others : prefix_len is_no_sign (run ++ rest) ≡ length run = run_again run rest (λ k d l. a (suc k) d (omega arith)) o in
    ap (λ (v : Bool). cond v (1 + prefix_len is_no_sign (run ++ rest)) 0) here ∙ omega arith

not_true : (b : Bool) → not b ≡ true → b ≡ false
not_true true h = sym h
not_true false h = refl

plain_first : (b : ℕ) (t : List ℕ) → is_no_sign b ≡ true → first_at b t ≡ Ok (piece.Plain (b ∷ take_while is_no_sign t), skip_while is_no_sign t)
unfolding first_at
plain_first b t h =
    let signs = and_parts (not (b == dollar)) (not (b == percent)) h in
    let last : FirstPiece = Ok (piece.Plain (b ∷ take_while is_no_sign t), skip_while is_no_sign t) in
    ap (λ (v : Bool). cond v (substituted (named long_names t)) (cond (b == percent) (substituted (named short_names t)) last)) (not_true (b == dollar) signs.0)
    ∙ ap (λ (v : Bool). cond v (substituted (named short_names t)) last) (not_true (b == percent) signs.1)

plain_again : (bytes rest : List ℕ) → bytes ≢ [] → AllPass is_no_sign bytes → BeginsNotPlain rest → first_piece (bytes ++ rest) ≡ Ok (piece.Plain bytes, rest)
plain_again [] rest some plain longest = absurd (some refl)
plain_again (b ∷ t) rest some plain longest =
    let here : is_no_sign b ≡ true = plain 0 0 (omega arith) in
    let long : prefix_len is_no_sign (t ++ rest) ≡ length t = run_again t rest (λ k d l. plain (suc k) d (omega arith)) longest in
    let prefix : take_while is_no_sign (t ++ rest) ≡ t = ap (λ (n : ℕ). take n (t ++ rest)) long ∙ take_at t rest (length t) refl in
    let following : skip_while is_no_sign (t ++ rest) ≡ rest = ap (λ (n : ℕ). drop n (t ++ rest)) long ∙ drop_at t rest (length t) refl in
    plain_first b (t ++ rest) here
    ∙ ap (λ (l : List ℕ). Ok (piece.Plain (b ∷ l), skip_while is_no_sign (t ++ rest))) prefix
    ∙ ap (λ (l : List ℕ). Ok (piece.Plain (b ∷ t), l)) following

-- each piece
pub spelled_again : (p : Piece) (text rest : List ℕ) → Spells p text rest → first_piece (text ++ rest) ≡ Ok (p, rest)
unfolding argument_of
spelled_again (piece.Plain bytes) text rest (inl h) = ap (λ (l : List ℕ). first_piece (l ++ rest)) h.same ∙ plain_again bytes rest h.some h.plain h.longest
spelled_again (piece.Plain bytes) text rest (inr (inl h)) = sign_again name.Dollar text rest h.1 ∙ ap (λ (l : List ℕ). Ok (piece.Plain l, rest)) (sym h.0)
spelled_again (piece.Plain bytes) text rest (inr (inr h)) = sign_again name.Percent text rest h.1 ∙ ap (λ (l : List ℕ). Ok (piece.Plain l, rest)) (sym h.0)
spelled_again piece.Kernel text rest h = sign_again name.Kernel text rest h
spelled_again piece.Number text rest h = sign_again name.Number text rest h
spelled_again piece.Devpath text rest h = sign_again name.Devpath text rest h
spelled_again piece.Id text rest h = sign_again name.Id text rest h
spelled_again piece.Driver text rest h = sign_again name.Driver text rest h
spelled_again (piece.Attr n) text rest h = attr_again n text rest h.0 h.1
spelled_again (piece.Env n) text rest h = env_again n text rest h.0 h.1
spelled_again piece.Major text rest h = sign_again name.Major text rest h
spelled_again piece.Minor text rest h = sign_again name.Minor text rest h
spelled_again piece.Result text rest h = result_again text rest h.0 h.1
spelled_again (piece.Word n) text rest h = number_again h.0 text rest h.2 ∙ ap (λ (o : Option Piece). numbered o rest) (word_again n h.0 h.1)
spelled_again (piece.From n) text rest h = number_again (h.0 ++ plus ∷ []) text rest h.2 ∙ ap (λ (o : Option Piece). numbered o rest) (from_again n h.0 h.1)
spelled_again piece.Parent text rest h = sign_again name.Parent text rest h
spelled_again piece.Name text rest h = sign_again name.Name text rest h
spelled_again piece.Links text rest h = sign_again name.Links text rest h
spelled_again piece.Root text rest h = sign_again name.Root text rest h
spelled_again piece.Sys text rest h = sign_again name.Sys text rest h
spelled_again piece.Devnode text rest h = sign_again name.Devnode text rest h

-- a sign that names nothing
nothing_by : (rows : Rows) (t : List ℕ) → ((n : List ℕ) (s : Substitution) (rest : List ℕ) → Rattle.rule_tokens.specs.TemplateGrammar.HasName rows n s → t ≢ n ++ rest) → (o : Option (Substitution × List ℕ)) → NameWell rows t o → o ≡ None
nothing_by rows t none None h = refl
nothing_by rows t none (Some x) h = absurd (none h.0 x.0 x.1 h.2.in_table h.1)

nothing_named : (rows : Rows) (t : List ℕ) → is_ordered rows ≡ true → NamesNothing rows t → substituted (named rows t) ≡ Err fault.Unknown
unfolding argument_of
nothing_named rows t order (inl none) = ap substituted (nothing_by rows t none (named rows t) (named_well rows t order))
nothing_named rows t order (inr h) = ap (λ (l : List ℕ). substituted (named rows l)) h.2 ∙ ap substituted (named_again rows h.0 name.Refused h.1 order h.3)

unknown_long : (t : List ℕ) → NamesNothing long_names t → first_at dollar t ≡ Err fault.Unknown
unfolding first_at
unknown_long t h = nothing_named long_names t refl h

unknown_short : (t : List ℕ) → NamesNothing short_names t → first_at percent t ≡ Err fault.Unknown
unfolding first_at
unknown_short t h = nothing_named short_names t refl h

open_result : (rest : List ℕ) → HasNoClose rest → result_piece (open_brace ∷ rest) ≡ Err fault.Brace
unfolding result_piece
open_result rest none = ap bracketed (none_again rest none)

-- each fault
pub fault_again : (e : TemplateFault) (text : List ℕ) → IsFaulty e text → first_piece text ≡ Err e
unfolding argument_of
fault_again fault.Unknown text (inl h) = ap first_piece h.1 ∙ unknown_long h.0 h.2
fault_again fault.Unknown text (inr h) = ap first_piece h.1 ∙ unknown_short h.0 h.2
fault_again fault.Brace text (sign, rest, parts, inl (inl h, lacks)) = ap first_piece parts ∙ sign_again name.Attr sign rest h ∙ ap (with_name (λ m. piece.Attr m)) (lacks_again rest lacks)
fault_again fault.Brace text (sign, rest, parts, inl (inr h, lacks)) = ap first_piece parts ∙ sign_again name.Env sign rest h ∙ ap (with_name (λ m. piece.Env m)) (lacks_again rest lacks)
fault_again fault.Brace text (sign, rest, parts, inr h) = ap first_piece parts ∙ sign_again name.Result sign rest h.0 ∙ ap result_piece h.1.1 ∙ open_result h.1.0 h.1.2
fault_again fault.Number text h = ap first_piece h.3 ∙ number_again h.1 h.0 h.2 h.4 ∙ ap (λ (o : Option Piece). numbered o h.2) (no_word_again h.1 h.5)
fault_again fault.Memory text h = absurd h
