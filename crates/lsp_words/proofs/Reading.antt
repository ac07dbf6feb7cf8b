-- How a token is read, part by part.
use Rattle.std.proofs.Common.{◌≡◌, ℕ, Bool, true, false, ◌&&◌, [], ◌∷◌, ◌++◌, refl, sym, ◌∙◌, ap, append_assoc, append-nil, arith}
use Rattle.std.specs.Prelude.{fold, Option, Some, None}
use Rattle.std.specs.List.{list_all}
use Rattle.std.proofs.lemmas.Grind.{common_steps}
use Rattle.std.proofs.lemmas.List.Sums.{fold-append}
use Rattle.text_bytes.specs.Names.{close_brace, double_quote, open_brace}
use Rattle.text_bytes.specs.Texts.{is_empty}
use Rattle.text_bytes.specs.Text.{Text}
use Rattle.rule_tokens.specs.Grammar.{AllAre, attribute_bytes, attribute_text, is_key_byte, operator_text}
use Rattle.rule_tokens.specs.declared.kinds.Operator.{Operator}
use Rattle.rule_tokens.specs.declared.kinds.Operator.TheVariants.{Equal, NotEqual, Add, Remove, AssignFinal, Assign}
use Rattle.lsp_words.specs.Classes.{class_of}
use Rattle.lsp_words.specs.Contexts.{Context, at_start, bounds_for, moved, next_move, step}
use Rattle.lsp_words.specs.Moves.{go, in_braces, in_value}
use Rattle.lsp_words.specs.Tokens.{head_text, in_value_of, is_in_braces, is_plain, is_plain_class}
use Rattle.lsp_words.specs.declared.classes.Class.{Class}
use Rattle.lsp_words.specs.declared.classes.Class.TheVariants as class
use Rattle.lsp_words.specs.declared.moves.Bounds.{Bounds}
use Rattle.lsp_words.specs.declared.moves.Place.{Place}
use Rattle.lsp_words.specs.declared.moves.Place.TheVariants as place
use Rattle.lsp_words.specs.declared.moves.Turn.TheVariants.{Longer}

-- a context by its parts
abbrev pub at_ : Place → Text → Text → Text → Text → Text → Text → Context
at_ p key braces operator prefix name word =
    record { place = p; key = key; braces = braces; operator = operator; prefix = prefix; name = name; word = word }

-- both parts of what is true together
both_left : (a b : Bool) → (a && b) ≡ true → a ≡ true
both_left true b e = refl
both_left false b e = e

both_right : (a b : Bool) → (a && b) ≡ true → b ≡ true
both_right true b e = e
both_right false b e = cc

-- a byte of keys is a letter
letter_class : (b : ℕ) → is_key_byte b ≡ true → class_of b ≡ class.Letter
unfolding class_of
letter_class b h = rw h refl

-- a key begins at a letter between tokens
gap_letter : (key braces operator prefix name word : Text) (b : ℕ) → is_key_byte b ≡ true
    → step (at_ place.Gap key braces operator prefix name word) b ≡ at_ place.Key key braces operator prefix name (b ∷ [])
unfolding step next_move
gap_letter key braces operator prefix name word b h =
    let c = at_ place.Gap key braces operator prefix name word
    in ap (λ cls. moved c (next_move place.Gap (bounds_for key braces operator prefix) word b cls) b) (letter_class b h)

-- a key goes on at a letter
key_letter : (key braces operator prefix name word : Text) (b : ℕ) → is_key_byte b ≡ true
    → step (at_ place.Key key braces operator prefix name word) b ≡ at_ place.Key key braces operator prefix name (word ++ b ∷ [])
unfolding step next_move
key_letter key braces operator prefix name word b h =
    let c = at_ place.Key key braces operator prefix name word
    in ap (λ cls. moved c (next_move place.Key (bounds_for key braces operator prefix) word b cls) b) (letter_class b h)

-- the rest of a key is read
key_read : (key braces operator prefix name word more : Text) → AllAre is_key_byte more
    → fold step (at_ place.Key key braces operator prefix name word) more ≡ at_ place.Key key braces operator prefix name (word ++ more)
key_read key braces operator prefix name word [] h = ap (at_ place.Key key braces operator prefix name) (sym (append-nil word))
key_read key braces operator prefix name word (b ∷ more) h =
    ap (λ c. fold step c more) (key_letter key braces operator prefix name word b (both_left (is_key_byte b) (list_all is_key_byte more) h))
    ∙ (key_read key braces operator prefix name (word ++ b ∷ []) more (both_right (is_key_byte b) (list_all is_key_byte more) h)
    ∙ ap (at_ place.Key key braces operator prefix name) (append_assoc word (b ∷ []) more))

-- a byte that does not close braces is of another class
brace_move : (b : ℕ) → is_in_braces b ≡ true → in_braces (class_of b) ≡ go place.Braces Longer
unfolding class_of
brace_move b h = grind (arith, common_steps)

brace_byte : (key braces operator prefix name word : Text) (b : ℕ) → is_in_braces b ≡ true
    → step (at_ place.Braces key braces operator prefix name word) b ≡ at_ place.Braces key braces operator prefix name (word ++ b ∷ [])
unfolding step next_move
brace_byte key braces operator prefix name word b h =
    let c = at_ place.Braces key braces operator prefix name word in ap (λ m. moved c m b) (brace_move b h)

-- the text in braces is read
braces_read : (key braces operator prefix name word more : Text) → AllAre is_in_braces more
    → fold step (at_ place.Braces key braces operator prefix name word) more ≡ at_ place.Braces key braces operator prefix name (word ++ more)
braces_read key braces operator prefix name word [] h = ap (at_ place.Braces key braces operator prefix name) (sym (append-nil word))
braces_read key braces operator prefix name word (b ∷ more) h =
    ap (λ c. fold step c more) (brace_byte key braces operator prefix name word b (both_left (is_in_braces b) (list_all is_in_braces more) h))
    ∙ (braces_read key braces operator prefix name (word ++ b ∷ []) more (both_right (is_in_braces b) (list_all is_in_braces more) h)
    ∙ ap (at_ place.Braces key braces operator prefix name) (append_assoc word (b ∷ []) more))

-- a plain byte belongs to the word of a value
value_move : (bounds : Bounds) (is_first : Bool) (sort : Class) → is_plain_class sort ≡ true → in_value bounds is_first sort ≡ go place.Value Longer
value_move bounds is_first class.Letter h = refl
value_move bounds is_first class.Operator h = refl
value_move bounds is_first class.Blank h = cc
value_move bounds is_first class.Quote h = cc
value_move bounds is_first class.OpenBrace h = refl
value_move bounds is_first class.CloseBrace h = refl
value_move bounds is_first class.Backslash h = cc
value_move bounds is_first class.Hash h = refl
value_move bounds is_first class.Bar h = cc
value_move bounds is_first class.Sign h = cc
value_move bounds is_first class.Other h = refl

value_byte : (key braces operator prefix name word : Text) (b : ℕ) → is_plain b ≡ true
    → step (at_ place.Value key braces operator prefix name word) b ≡ at_ place.Value key braces operator prefix name (word ++ b ∷ [])
unfolding step next_move
value_byte key braces operator prefix name word b h =
    let c = at_ place.Value key braces operator prefix name word
    in ap (λ m. moved c m b) (value_move (bounds_for key braces operator prefix) (is_empty word) (class_of b) h)

-- plain bytes of a value are read
value_read : (key braces operator prefix name word more : Text) → AllAre is_plain more
    → fold step (at_ place.Value key braces operator prefix name word) more ≡ at_ place.Value key braces operator prefix name (word ++ more)
value_read key braces operator prefix name word [] h = ap (at_ place.Value key braces operator prefix name) (sym (append-nil word))
value_read key braces operator prefix name word (b ∷ more) h =
    ap (λ c. fold step c more) (value_byte key braces operator prefix name word b (both_left (is_plain b) (list_all is_plain more) h))
    ∙ (value_read key braces operator prefix name (word ++ b ∷ []) more (both_right (is_plain b) (list_all is_plain more) h)
    ∙ ap (at_ place.Value key braces operator prefix name) (append_assoc word (b ∷ []) more))

-- an operator and a quote behind braces are read
operator_read : (key braces prefix name : Text) (o : Operator)
    → fold step (at_ place.Head key braces [] prefix name []) (operator_text o ++ double_quote ∷ [])
    ≡ at_ place.Value key braces (operator_text o) [] name []
unfolding step next_move class_of
operator_read key braces prefix name Equal = refl
operator_read key braces prefix name NotEqual = refl
operator_read key braces prefix name Add = refl
operator_read key braces prefix name Remove = refl
operator_read key braces prefix name AssignFinal = refl
operator_read key braces prefix name Assign = refl

-- an operator and a quote behind a key are read
bare_read : (key braces operator prefix name word : Text) (o : Operator)
    → fold step (at_ place.Key key braces operator prefix name word) (operator_text o ++ double_quote ∷ [])
    ≡ at_ place.Value word [] (operator_text o) [] name []
unfolding step next_move class_of
bare_read key braces operator prefix name word Equal = refl
bare_read key braces operator prefix name word NotEqual = refl
bare_read key braces operator prefix name word Add = refl
bare_read key braces operator prefix name word Remove = refl
bare_read key braces operator prefix name word AssignFinal = refl
bare_read key braces operator prefix name word Assign = refl

-- braces are opened behind a key
opened : (key braces operator prefix name word : Text)
    → step (at_ place.Key key braces operator prefix name word) open_brace ≡ at_ place.Braces word [] [] prefix name []
unfolding step next_move class_of
opened key braces operator prefix name word = refl

-- braces are closed
closed : (key braces operator prefix name word : Text)
    → step (at_ place.Braces key braces operator prefix name word) close_brace ≡ at_ place.Head key word operator prefix name []
unfolding step next_move class_of
closed key braces operator prefix name word = refl

-- what is in braces is read
attribute_read : (key braces operator prefix name word given : Text) → AllAre is_in_braces given
    → fold step (at_ place.Key key braces operator prefix name word) ((open_brace ∷ given) ++ close_brace ∷ [])
    ≡ at_ place.Head word given [] prefix name []
attribute_read key braces operator prefix name word given h =
    let c = at_ place.Key key braces operator prefix name word in
    fold-append step c (open_brace ∷ given) (close_brace ∷ [])
    ∙ (ap (λ s. step (fold step s given) close_brace) (opened key braces operator prefix name word)
    ∙ (ap (λ s. step s close_brace) (braces_read word [] [] prefix name [] given h)
    ∙ closed word [] [] prefix name given))

-- what is in braces, and the operator and the quote behind them, are read
tail_read : (key braces operator prefix name word : Text) (given : Option Text) (o : Operator) → AllAre is_in_braces (attribute_bytes given)
    → fold step (at_ place.Key key braces operator prefix name word) (attribute_text given ++ (operator_text o ++ double_quote ∷ []))
    ≡ at_ place.Value word (attribute_bytes given) (operator_text o) [] name []
tail_read key braces operator prefix name word None o h = bare_read key braces operator prefix name word o
tail_read key braces operator prefix name word (Some given) o h =
    let c = at_ place.Key key braces operator prefix name word in
    fold-append step c ((open_brace ∷ given) ++ close_brace ∷ []) (operator_text o ++ double_quote ∷ [])
    ∙ (ap (λ s. fold step s (operator_text o ++ double_quote ∷ [])) (attribute_read key braces operator prefix name word given h)
    ∙ operator_read word given prefix name o)

-- a token is read up to its quote
head_read : (c : Context) (k : ℕ) (key : Text) (given : Option Text) (o : Operator) → AllAre is_key_byte (k ∷ key)
    → AllAre is_in_braces (attribute_bytes given)
    → fold step (record c { place = place.Gap }) (head_text (k ∷ key) given o) ≡ in_value_of (k ∷ key) given o c.name []
head_read c k key given o h braced =
    let tail = attribute_text given ++ (operator_text o ++ double_quote ∷ []) in
    fold-append step (record c { place = place.Gap }) (k ∷ key) tail
    ∙ (ap (λ s. fold step (fold step s key) tail)
    (gap_letter c.key c.braces c.operator c.prefix c.name c.word k (both_left (is_key_byte k) (list_all is_key_byte key) h))
    ∙ (ap (λ s. fold step s tail)
    (key_read c.key c.braces c.operator c.prefix c.name (k ∷ []) key (both_right (is_key_byte k) (list_all is_key_byte key) h))
    ∙ tail_read c.key c.braces c.operator c.prefix c.name (k ∷ key) given o braced))

-- a token is read up to a plain byte of its value
pub token_read : (c : Context) (k : ℕ) (key : Text) (given : Option Text) (o : Operator) (value : Text) → AllAre is_key_byte (k ∷ key)
    → AllAre is_in_braces (attribute_bytes given) → AllAre is_plain value
    → fold step (record c { place = place.Gap }) (head_text (k ∷ key) given o ++ value) ≡ in_value_of (k ∷ key) given o c.name value
token_read c k key given o value h braced plain =
    fold-append step (record c { place = place.Gap }) (head_text (k ∷ key) given o) value
    ∙ (ap (λ s. fold step s value) (head_read c k key given o h braced)
    ∙ value_read (k ∷ key) (attribute_bytes given) (operator_text o) [] c.name [] value plain)

-- a key begins at a letter at the start of a row
indent_letter : (b : ℕ) → is_key_byte b ≡ true → step at_start b ≡ at_ place.Key [] [] [] [] [] (b ∷ [])
unfolding step next_move
indent_letter b h = ap (λ cls. moved at_start (next_move place.Indent (bounds_for [] [] [] []) [] b cls) b) (letter_class b h)

-- the first token of a row is read up to a plain byte of its value
pub first_read : (k : ℕ) (key : Text) (given : Option Text) (o : Operator) (value : Text) → AllAre is_key_byte (k ∷ key)
    → AllAre is_in_braces (attribute_bytes given) → AllAre is_plain value
    → fold step at_start (head_text (k ∷ key) given o ++ value) ≡ in_value_of (k ∷ key) given o [] value
first_read k key given o value h braced plain =
    let tail = attribute_text given ++ (operator_text o ++ double_quote ∷ []) in
    fold-append step at_start (head_text (k ∷ key) given o) value
    ∙ (ap (λ s. fold step s value)
    (fold-append step at_start (k ∷ key) tail
    ∙ (ap (λ s. fold step (fold step s key) tail) (indent_letter k (both_left (is_key_byte k) (list_all is_key_byte key) h))
    ∙ (ap (λ s. fold step s tail) (key_read [] [] [] [] [] (k ∷ []) key (both_right (is_key_byte k) (list_all is_key_byte key) h))
    ∙ tail_read [] [] [] [] [] (k ∷ key) given o braced)))
    ∙ value_read (k ∷ key) (attribute_bytes given) (operator_text o) [] [] [] value plain)
