-- Which rows an outline lists, and by which names.
use Rattle.std.proofs.Common.{◌≡◌, ℕ, Bool, true, false, not, ◌&&◌, ◌||◌, List, [], ◌∷◌, Option, Some, None, Ok, Err, refl, ap}
use Rattle.std.specs.Prelude.{All, IfSome, if◌then◌else◌, filter_map}
use Rattle.std.specs.List.{list_all}
use Rattle.std.specs.Option.{option_map_or}
use Rattle.std.proofs.lemmas.Bool.{and_parts}
use Rattle.std.proofs.lemmas.List.Elements.{All-head}
use Rattle.text_bytes.specs.Names.{is_blank, space, tab}
use Rattle.text_bytes.specs.Texts.{begins_with, first, is_empty, trimmed}
use Rattle.text_bytes.specs.declared.source_file.FileKind.{FileKind}
use Rattle.text_bytes.specs.declared.source_file.FileKind.TheVariants.{Hwdb, Rules}
use Rattle.text_bytes.specs.Text.{Text}
use Rattle.rule_tokens.specs.Grammar.{Item}
use Rattle.lsp_words.specs.Marks.{mark_kind}
use Rattle.lsp_words.specs.Rows.{body, is_comment, items_in, stripped}
use Rattle.lsp_words.specs.Symbols.{begun_rule, is_record, is_shown, label_by, label_in, label_of}
use Rattle.lsp_words.specs.Symbols.{matched, record_name, record_symbol, rule_name, rule_symbol, symbol, symbol_in}
use Rattle.lsp_words.specs.declared.marks.MarkKind.{MarkKind}
use Rattle.lsp_words.specs.declared.marks.MarkKind.TheVariants as mark
use Rattle.lsp_words.specs.declared.symbols.SymbolKind.TheVariants.{Label, Record, Rule}
use Rattle.lsp_words.proofs.RowLemmas.{blanks_gone, body_blank, comment_empty}
use Rattle.lsp_words.proofs.Written.{all_made}

-- a row without a rule is not listed
no_rule : (line : ℕ) (row : Text) → is_shown (body row) ≡ false → begun_rule line row ≡ None
unfolding begun_rule
no_rule line row e = ap (λ b. if b then Some (rule_symbol line row) else None) e

-- whether a rule goes on in it or not
no_entry : (line : ℕ) (goes_on : Bool) (row : Text) → begun_rule line row ≡ None → symbol_in Rules line goes_on row ≡ None
no_entry line true row e = refl
no_entry line false row e = e

pub comment_unlisted : (line : ℕ) (goes_on : Bool) (row : Text) → is_comment row ≡ true → symbol_in Rules line goes_on row ≡ None
comment_unlisted line goes_on row e = no_entry line goes_on row (no_rule line row (ap (λ t. is_shown t) (comment_empty row e)))

-- a row of blanks has no rule
blank_rule : (line : ℕ) (goes_on : Bool) (row : Text) → list_all is_blank row ≡ true → symbol_in Rules line goes_on row ≡ None
blank_rule line goes_on row e =
    no_entry line goes_on row (no_rule line row (ap (λ t. not (is_empty (trimmed t))) (blanks_gone (body row) (body_blank row e))))

-- a row that is no record is not listed
pub no_record : (line : ℕ) (row : Text) → is_record row ≡ false → record_symbol line row ≡ None
unfolding record_symbol
no_record line row e = ap (λ b. if b then Some (symbol Record line (record_name row)) else None) e

-- a row that begins with a blank is no record
pub indented_unlisted : (line b : ℕ) (row : Text) → is_blank b ≡ true → record_symbol line (b ∷ row) ≡ None
indented_unlisted line b row e = no_record line (b ∷ row) (ap (λ t. not t && is_shown (record_name (b ∷ row))) e)

-- nor is a row of blanks
blank_record : (line : ℕ) (row : Text) → list_all is_blank row ≡ true → record_symbol line row ≡ None
blank_record line [] e = no_record line [] refl
blank_record line (b ∷ row) e = indented_unlisted line b row (and_parts (is_blank b) (list_all is_blank row) e).0

pub blank_unlisted : (kind : FileKind) (line : ℕ) (goes_on : Bool) (row : Text) → list_all is_blank row ≡ true → symbol_in kind line goes_on row ≡ None
blank_unlisted Hwdb line goes_on row e = blank_record line row e
blank_unlisted Rules line goes_on row e = blank_rule line goes_on row e

-- a text that can be shown has a byte
shown_some : (text : Text) → is_shown text ≡ true → is_empty text ≡ false
shown_some [] e = absurd (cc)
shown_some (b ∷ text) e = refl

-- a text of which more can be shown than whitespace has something else
stripped_some : (text : Text) → is_shown text ≡ true → is_empty (stripped text) ≡ false
stripped_some text e = false_of (is_empty (stripped text)) e
  where
    false_of : (b : Bool) → not b ≡ true → b ≡ false
    false_of true e = absurd (cc)
    false_of false e = refl

-- a label that is listed can be shown
label_by_shown : (o : Option MarkKind) (name : Text) → IfSome (label_by o name) (λ t. is_empty t ≡ false)
label_by_shown None name = tt
label_by_shown (Some mark.Goto) name = tt
label_by_shown (Some mark.Label) name = by (is_shown name) refl
  where
    by : (b : Bool) → is_shown name ≡ b → IfSome (if b then Some name else None) (λ t. is_empty t ≡ false)
    by true e = shown_some name e
    by false e = tt

-- so it is of each item
label_shown : (item : Item) → Unit {0} → IfSome (label_of item) (λ t. is_empty t ≡ false)
unfolding label_of
label_shown (Err fault) h = tt
label_shown (Ok t) h = label_by_shown (mark_kind t.parts.head) t.parts.value

-- the first of some texts that have bytes
first_some : (texts : List Text) → All (λ t. is_empty t ≡ false) texts → IfSome (first texts) (λ t. is_empty t ≡ false)
first_some [] h = tt
first_some (t ∷ texts) h = All-head (λ t. is_empty t ≡ false) t texts h

-- the label of a row has bytes
label_some : (row : Text) → IfSome (label_in row) (λ t. is_empty t ≡ false)
label_some row =
    first_some (filter_map label_of (items_in row))
    (all_made (λ _. Unit {0}) (λ t. is_empty t ≡ false) label_of label_shown (items_in row) (λ k d h. tt))

-- so has the name of a rule
rule_name_some : (row : Text) → is_shown (body row) ≡ true → is_empty (rule_name row) ≡ false
rule_name_some row e = by (is_empty (matched row)) refl
  where
    by : (b : Bool) → is_empty (matched row) ≡ b → is_empty (if b then stripped (body row) else matched row) ≡ false
    by true f = stripped_some (body row) e
    by false f = f

-- and the entry of a rule
named_some : (line : ℕ) (row : Text) (o : Option Text) → is_shown (body row) ≡ true
    → IfSome o (λ t. is_empty t ≡ false) → is_empty (option_map_or (symbol Label line) o (symbol Rule line (rule_name row))).name ≡ false
named_some line row None e h = rule_name_some row e
named_some line row (Some name) e h = h

begun_named : (line : ℕ) (row : Text) → IfSome (begun_rule line row) (λ s. is_empty s.name ≡ false)
unfolding begun_rule
begun_named line row = by (is_shown (body row)) refl
  where
    by : (b : Bool) → is_shown (body row) ≡ b → IfSome (if b then Some (rule_symbol line row) else None) (λ s. is_empty s.name ≡ false)
    by true e = named_some line row (label_in row) e (label_some row)
    by false e = tt

record_named : (line : ℕ) (row : Text) → IfSome (record_symbol line row) (λ s. is_empty s.name ≡ false)
unfolding record_symbol
record_named line row = by (is_record row) refl
  where
    by : (b : Bool) → is_record row ≡ b → IfSome (if b then Some (symbol Record line (record_name row)) else None) (λ s. is_empty s.name ≡ false)
    by true e = shown_some (record_name row) (and_parts (not (begins_with space row || begins_with tab row)) (is_shown (record_name row)) e).1
    by false e = tt

pub entries_named : (kind : FileKind) (line : ℕ) (goes_on : Bool) (row : Text) → IfSome (symbol_in kind line goes_on row) (λ s. is_empty s.name ≡ false)
entries_named Hwdb line goes_on row = record_named line row
entries_named Rules line true row = tt
entries_named Rules line false row = begun_named line row
