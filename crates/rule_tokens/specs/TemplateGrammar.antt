-- How pieces are written, and what is not a piece, in terms of texts and what follows them, without a reader.
use Rattle.std.specs.Prelude.{◌≡◌, ◌≢◌, ◌↔◌, ℕ, ◌<◌, ◌≤◌, ◌⊎◌, false, not, ◌==◌, List, [], ◌∷◌, ◌++◌, length, Option, Some, None, Ok, Err}
use Rattle.std.specs.List.{AllPass}
use Rattle.text_bytes.specs.Text.{Text}
use Rattle.text_bytes.specs.Names.{dollar, percent, plus, open_brace, close_brace}
use Rattle.text_bytes.specs.Texts.{begins_with}
use Rattle.text_bytes.specs.Numbers.{is_digit, decimal}
use Rattle.rule_tokens.specs.Names.{long_names, short_names}
use Rattle.rule_tokens.specs.TemplateReading.{is_no_sign, pieces_of}
use Rattle.rule_tokens.specs.declared.fault.TemplateFault.{TemplateFault}
use Rattle.rule_tokens.specs.declared.fault.TemplateFault.TheVariants.{Unknown, Brace, Number, Memory}
use Rattle.rule_tokens.specs.declared.names.Substitution.{Substitution}
use Rattle.rule_tokens.specs.declared.names.Substitution.TheVariants as name
use Rattle.rule_tokens.specs.declared.piece.Piece.{Piece}
use Rattle.rule_tokens.specs.declared.piece.Piece.TheVariants as piece

-- a table of names has this name, which asks for s
abbrev pub HasName : List (Text × Substitution) → Text → Substitution → Type 0
HasName [] n s = ⊥
HasName (row ∷ rows) n s = ((row.0 ≡ n) × (row.1 ≡ s)) ⊎ HasName rows n s

-- n is a name of the table that asks for s, and with rest after it, no longer name of the table is there
pub record IsName (names : List (Text × Substitution)) (n : Text) (s : Substitution) (rest : Text) : Type 0 where
  pub in_table : HasName names n s
  pub longest : (m following : Text) (other : Substitution) → HasName names m other → n ++ rest ≡ m ++ following → length m ≤ length n

-- a `$` with a name that asks for s, or a `%` with a letter that does, followed by rest
abbrev pub IsSign : Substitution → Text → Text → Type 0
IsSign s sign rest =
    ((n : Text) × (sign ≡ dollar ∷ n) × IsName long_names n s rest)
    ⊎ ((n : Text) × (sign ≡ percent ∷ n) × IsName short_names n s rest)

-- a text in braces
abbrev pub in_braces : Text → Text
in_braces t = open_brace ∷ (t ++ close_brace ∷ [])

-- what braces may hold: no brace that closes them
abbrev pub HasNoClose : Text → Type 0
HasNoClose t = AllPass (λ b. not (b == close_brace)) t

-- a sign that asks for s with this content in braces, followed by rest
pub record IsSignWith (s : Substitution) (content text rest : Text) : Type 0 where
  pub sign : Text
  pub is_sign : IsSign s sign (in_braces content ++ rest)
  pub no_close : HasNoClose content
  pub spelled : text ≡ sign ++ in_braces content

-- decimal digits that write n, which is from 1 to 65535
pub record WritesNumber (n : ℕ) (digits : Text) : Type 0 where
  pub all_digits : AllPass is_digit digits
  pub value : decimal digits ≡ n
  pub not_zero : 0 < n
  pub below : n < 65536

-- a text that does not begin with a byte that stands for itself
abbrev pub BeginsNotPlain : Text → Type 0
BeginsNotPlain [] = Unit {0}
BeginsNotPlain (b ∷ t) = is_no_sign b ≡ false

-- bytes that stand for themselves, as many as do before rest
pub record IsPlainRun (bytes text rest : Text) : Type 0 where
  pub same : text ≡ bytes
  pub some : bytes ≢ []
  pub plain : AllPass is_no_sign bytes
  pub longest : BeginsNotPlain rest

-- the text is a spelling of the piece, if rest follows it
abbrev pub Spells : Piece → Text → Text → Type 0
Spells (piece.Plain bytes) text rest =
    IsPlainRun bytes text rest
    ⊎ (((bytes ≡ dollar ∷ []) × IsSign name.Dollar text rest) ⊎ ((bytes ≡ percent ∷ []) × IsSign name.Percent text rest))
Spells piece.Kernel text rest = IsSign name.Kernel text rest
Spells piece.Number text rest = IsSign name.Number text rest
Spells piece.Devpath text rest = IsSign name.Devpath text rest
Spells piece.Id text rest = IsSign name.Id text rest
Spells piece.Driver text rest = IsSign name.Driver text rest
Spells (piece.Attr n) text rest = (n ≢ []) × IsSignWith name.Attr n text rest
Spells (piece.Env n) text rest = (n ≢ []) × IsSignWith name.Env n text rest
Spells piece.Major text rest = IsSign name.Major text rest
Spells piece.Minor text rest = IsSign name.Minor text rest
Spells piece.Result text rest = IsSign name.Result text rest × (begins_with open_brace rest ≡ false)
Spells (piece.Word n) text rest = (digits : Text) × WritesNumber n digits × IsSignWith name.Result digits text rest
Spells (piece.From n) text rest = (digits : Text) × WritesNumber n digits × IsSignWith name.Result (digits ++ plus ∷ []) text rest
Spells piece.Parent text rest = IsSign name.Parent text rest
Spells piece.Name text rest = IsSign name.Name text rest
Spells piece.Links text rest = IsSign name.Links text rest
Spells piece.Root text rest = IsSign name.Root text rest
Spells piece.Sys text rest = IsSign name.Sys text rest
Spells piece.Devnode text rest = IsSign name.Devnode text rest

-- no name of the table begins the text, or the longest that does is refused
abbrev pub NamesNothing : List (Text × Substitution) → Text → Type 0
NamesNothing names t =
    ((n : Text) (s : Substitution) (rest : Text) → HasName names n s → t ≢ n ++ rest)
    ⊎ ((n : Text) × (rest : Text) × (t ≡ n ++ rest) × IsName names n name.Refused rest)

-- the text begins with no name in braces
abbrev pub LacksName : Text → Type 0
LacksName t = (n rest : Text) → n ≢ [] → HasNoClose n → t ≢ in_braces n ++ rest

-- the text begins with a brace that is not closed
abbrev pub IsNotClosed : Text → Type 0
IsNotClosed t = (rest : Text) × (t ≡ open_brace ∷ rest) × HasNoClose rest

-- the text is neither a number nor a number with a plus sign
abbrev pub IsNoNumber : Text → Type 0
IsNoNumber t = (n : ℕ) (digits : Text) → WritesNumber n digits → (t ≢ digits) × (t ≢ digits ++ plus ∷ [])

-- what makes a text at which reading stops faulty, each fault by its own reason
abbrev pub IsFaulty : TemplateFault → Text → Type 0
IsFaulty Unknown text =
    ((t : Text) × (text ≡ dollar ∷ t) × NamesNothing long_names t)
    ⊎ ((t : Text) × (text ≡ percent ∷ t) × NamesNothing short_names t)
IsFaulty Brace text =
    (sign : Text) × (rest : Text) × (text ≡ sign ++ rest)
    × (((IsSign name.Attr sign rest ⊎ IsSign name.Env sign rest) × LacksName rest) ⊎ (IsSign name.Result sign rest × IsNotClosed rest))
IsFaulty Number text =
    (prefix : Text) × (content : Text) × (rest : Text) × (text ≡ prefix ++ rest)
    × IsSignWith name.Result content prefix rest × IsNoNumber content
IsFaulty Memory text = ⊥

-- The text is these pieces, up to its end or the first fault.
pub data Reads : Text → List Piece → Option TemplateFault → Type 0 where
  -- nothing is left
  done : Reads [] [] None
  -- the text is faulty here
  faulty : {text : Text} {fault : TemplateFault} → IsFaulty fault text → Reads text [] (Some fault)
  -- a piece, and after it others, or a fault
  more : {text : Text} {p : Piece} {pieces : List Piece} {end : Option TemplateFault} (prefix rest : Text)
      → text ≡ prefix ++ rest → Spells p prefix rest → Reads rest pieces end → Reads text (p ∷ pieces) end

-- What is read of a text is just what it is: its pieces, or else the fault that comes first from the left.
pub record IsRead (text : Text) : Type 0 where
  pub pieces : (pieces : List Piece) → (pieces_of text ≡ Ok pieces) ↔ Reads text pieces None
  pub fault : (fault : TemplateFault) → (pieces_of text ≡ Err fault) ↔ ((pieces : List Piece) × Reads text pieces (Some fault))

-- No text is read in two ways: its pieces are the same, and if it is faulty, so are those before the fault.
abbrev pub OneAnswer : Type 0
OneAnswer =
    (text : Text) (some other : List Piece) (end stop : Option TemplateFault) → Reads text some end → Reads text other stop
    → (some ≡ other) × (end ≡ stop)
