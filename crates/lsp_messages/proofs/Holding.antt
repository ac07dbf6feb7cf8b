-- Documents that may be held, with one more and with one less.
use Rattle.std.proofs.Common.{◌≡◌, ℕ, ◌≤◌, Bool, true, false, not, cond, ◌&&◌, List, [], ◌∷◌, Some, None, length, filter, map, nat_le, refl, ap, sym, ◌∙◌, arith}
use Rattle.std.proofs.lemmas.List.Filters.{length-filter_both, sum_by-filter_both}
use Rattle.std.specs.Cmp.Lexicographic.{bytes_decides}
use Rattle.std.specs.Prelude.{sum_by}
use Rattle.std.specs.Map.{lookup, remove_entry}
use Rattle.indexmap.specs.IndexMap.{insert_entry}
use Rattle.text_tables.proofs.Held.{is_text, removed_name, same, seen, set}
use Rattle.text_tables.proofs.Found.{value_removed, value_set}
use Rattle.text_bytes.specs.Text.{Text}
use Rattle.text_tables.specs.Texts.{same_text}
use Rattle.text_tables.specs.Pairs.{value_of, with_value, without_name}
use Rattle.lsp_messages.specs.Documents.{bytes_of, may_be_held, size_of, with_document}
use Rattle.lsp_messages.specs.declared.documents.Document.{Document}

-- what passes a test has no greater sum
sum_of_some : {X : Type 0} (p : X → Bool) (f : X → ℕ) (xs : List X) → sum_by f (filter p xs) ≤ sum_by f xs
sum_of_some p f xs = let whole = sum_by-filter_both p (λ x. not (p x)) (λ x. refl) f xs in omega (arith, whole)

length_of_some : {X : Type 0} (p : X → Bool) (xs : List X) → length (filter p xs) ≤ length xs
length_of_some p xs = let whole = length-filter_both p (λ x. not (p x)) (λ x. refl) xs in omega (arith, whole)

both : (a b c d m n : ℕ) → c ≤ a → d ≤ b → nat_le a m && nat_le b n ≡ true → nat_le c m && nat_le d n ≡ true
both a b c d m n less fewer h = grind arith

-- documents may be held without one of them
pub held_without : (documents : List (Text × Document)) (uri : Text) → may_be_held documents ≡ true → may_be_held (without_name documents uri) ≡ true
held_without documents uri h =
    let test : Text × Document → Bool = λ pair. not (same_text uri pair.0) in
    both (length documents) (bytes_of documents) (length (without_name documents uri)) (bytes_of (without_name documents uri)) 1024 67108864
    (length_of_some test documents) (sum_of_some test (λ (document : Text × Document). size_of document.1) documents) h

-- a name that was set and is taken away is as if it had only been taken away
pub set_and_removed : (documents : List (Text × Document)) (uri : Text) (document : Document) → without_name (with_value documents uri document) uri ≡ without_name documents uri
set_and_removed [] uri document = ap (λ b. cond (not b) ((uri, document) ∷ []) []) ((bytes_decides uri uri).1 refl)
set_and_removed (p ∷ ps) uri document = by (same_text uri p.0) refl (set_and_removed ps uri document)
  where
    by : (b : Bool) → same_text uri p.0 ≡ b → without_name (with_value ps uri document) uri ≡ without_name ps uri
        → without_name (cond b ((p.0, document) ∷ ps) (p ∷ with_value ps uri document)) uri ≡ cond (not b) (p ∷ without_name ps uri) (without_name ps uri)
    by true e more = ap (λ b. cond (not b) ((p.0, document) ∷ without_name ps uri) (without_name ps uri)) e
    by false e more = ap (λ b. cond (not b) (p ∷ without_name (with_value ps uri document) uri) (without_name (with_value ps uri document) uri)) e ∙ ap (λ ds. p ∷ ds) more

module _ {K : Type 0} (text : K → Text) where
  -- what is held once a document is put in
  pub held_with : (es new : List (K × Document)) (k : K) (uri : Text) (document : Document) → new ≡ insert_entry (same text) es k document → text k ≡ uri
      → map (seen text (λ d. d)) new ≡ with_value (map (seen text (λ d. d)) es) uri document
  held_with es new k uri document is named =
      ap (map (seen text (λ d. d))) is ∙ set text (λ d. d) es k document ∙ ap (λ name. with_value (map (seen text (λ d. d)) es) name document) named

  -- and what is held once it is taken away again
  pub held_again : (es new gone : List (K × Document)) (uri : Text) (document : Document) → map (seen text (λ d. d)) new ≡ with_value (map (seen text (λ d. d)) es) uri document
      → gone ≡ remove_entry (is_text text uri) new → lookup (is_text text uri) gone ≡ None → map (seen text (λ d. d)) gone ≡ without_name (map (seen text (λ d. d)) es) uri
  held_again es new gone uri document put is none =
      ap (map (seen text (λ d. d))) is
      ∙ removed_name text (λ d. d) new uri (ap (lookup (is_text text uri)) (sym is) ∙ none)
      ∙ ap (λ ds. without_name ds uri) put
      ∙ set_and_removed (map (seen text (λ d. d)) es) uri document

-- documents that may be held are those with the new one
pub is_kept : (documents now : List (Text × Document)) (uri : Text) (document : Document) → now ≡ with_value documents uri document → may_be_held now ≡ true
    → now ≡ with_document documents uri document
is_kept documents now uri document is may = is ∙ ap (λ b. cond b (with_value documents uri document) (without_name documents uri)) (sym (ap may_be_held (sym is) ∙ may))

-- and otherwise those without one of its name
pub is_dropped : (documents more now : List (Text × Document)) (uri : Text) (document : Document) → more ≡ with_value documents uri document → may_be_held more ≡ false
    → now ≡ without_name documents uri → now ≡ with_document documents uri document
is_dropped documents more now uri document is may gone = gone ∙ ap (λ b. cond b (with_value documents uri document) (without_name documents uri)) (sym (ap may_be_held (sym is) ∙ may))

-- whatever is put in, documents that may be held are left
pub still_held : (documents : List (Text × Document)) (uri : Text) (document : Document) → may_be_held documents ≡ true → may_be_held (with_document documents uri document) ≡ true
still_held documents uri document h = by (may_be_held (with_value documents uri document)) refl
  where
    by : (b : Bool) → may_be_held (with_value documents uri document) ≡ b → may_be_held (cond b (with_value documents uri document) (without_name documents uri)) ≡ true
    by true is = is
    by false is = held_without documents uri h

-- what is found under the name of a document that was put in
pub own_found : (documents : List (Text × Document)) (uri : Text) (document : Document)
    → value_of (with_document documents uri document) uri ≡ cond (may_be_held (with_value documents uri document)) (Some document) None
own_found documents uri document = by (may_be_held (with_value documents uri document))
  where
    own : same_text uri uri ≡ true
    own = (bytes_decides uri uri).1 refl

    by : (b : Bool) → value_of (cond b (with_value documents uri document) (without_name documents uri)) uri ≡ cond b (Some document) None
    by true = value_set documents uri document uri ∙ ap (λ s. cond s (Some document) (value_of documents uri)) own
    by false = value_removed documents uri uri ∙ ap (λ s. cond s None (value_of documents uri)) own

-- and under another one
pub others_found : (documents : List (Text × Document)) (uri : Text) (document : Document) (other : Text) → same_text other uri ≡ false
    → value_of (with_document documents uri document) other ≡ value_of documents other
others_found documents uri document other h = by (may_be_held (with_value documents uri document))
  where
    by : (b : Bool) → value_of (cond b (with_value documents uri document) (without_name documents uri)) other ≡ value_of documents other
    by true = value_set documents uri document other ∙ ap (λ s. cond s (Some document) (value_of documents other)) h
    by false = value_removed documents uri other ∙ ap (λ s. cond s None (value_of documents other)) h
