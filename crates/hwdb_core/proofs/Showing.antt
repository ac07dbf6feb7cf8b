-- What the parts of a paragraph add.
use Rattle.std.proofs.Common.{◌≡◌, ℕ, ◌+◌, ◌<◌, ◌≤◌, suc, length-drop, None, Bool, true, false, cond, List, ◌∷◌, [], ◌++◌, length, map, get_or, drop, is_ok, Result, Ok, Err, refl, sym, ◌∙◌, ap, arith, add-zero, append-nil, ◌==◌, ◌&&◌}
use Rattle.std.specs.List.{flat_map, list_any, slice_get}
use Rattle.std.proofs.Math.Seq.{drop-cons}
use Rattle.std.proofs.lemmas.List.Concat.{flat_map_single}
use Rattle.text_bytes.specs.Numbers.{capped}
use Rattle.file_messages.specs.Messages.{message}
use Rattle.file_messages.specs.declared.message.MessageKind.{MessageKind}
use Rattle.text_core.specs.Spell.{spell}
use Rattle.text_core.specs.declared.glob_fault.GlobFault.{GlobFault}
use Rattle.text_core.specs.declared.item.Item.{Item}
use Rattle.text_bytes.specs.Lines.{NumberedLine}
use Rattle.hwdb_core.specs.Paragraphs.{Cut}
use Rattle.hwdb_core.specs.Properties.{Pair, cut_match_bytes, cut_properties, from_line, from_pair, from_spelled, pair_of, property_text}
use Rattle.hwdb_core.specs.Messages.{about_early, about_match, about_pair, about_property, about_spelled, cut_messages}
use Rattle.hwdb_core.specs.Found.{Found, found_in, join, nothing, only_messages}
use Rattle.hwdb_core.specs.Parts.{bare_found, cut_found, early_found, match_found, pair_found, property_found, rest_found}
use Rattle.hwdb_core.proofs.Joining.{found_as, found_in_is, found_in_messages, found_in_properties, same_found}

-- an element comes before what is after it
pub drop_item : {X : Type 0} (xs : List X) (i : ℕ) (x : X) → i < length xs → x ≡ get_or xs i x → drop i xs ≡ x ∷ drop (i + 1) xs
drop_item {X = X} xs i x h e =
    let next : i + 1 ≡ suc i = omega arith in
    drop-cons xs i x h ∙ ap (λ (y : X). y ∷ drop (suc i) xs) (sym e) ∙ ap (λ (n : ℕ). x ∷ drop n xs) (sym next)

pub bare_with_properties : (file : List ℕ) (matches properties : List NumberedLine) → (length properties == 0) ≡ false → bare_found file matches properties ≡ nothing
bare_with_properties file matches properties e = rw e refl

pub bare_without_matches : (file : List ℕ) (matches properties : List NumberedLine) → matches ≡ [] → bare_found file matches properties ≡ nothing
bare_without_matches file matches properties e =
    ap (λ (ms : List NumberedLine). bare_found file ms properties) e ∙ by_test (length properties == 0) where
      by_test : (b : Bool) → only_messages (cond b [] []) ≡ nothing
      by_test true = refl
      by_test false = refl

pub no_rest : (file : List ℕ) (rest : List NumberedLine) → rest ≡ [] → rest_found file rest ≡ nothing
no_rest file rest e = ap (rest_found file) e

pub same_message : (file : List ℕ) (kind : MessageKind) (n m : ℕ) (w v : List ℕ) → n ≡ m → w ≡ v → only_messages (message file n kind w ∷ []) ≡ only_messages (message file m kind v ∷ [])
same_message file kind n m w v e f = ap (λ (k : ℕ). only_messages (message file k kind w ∷ [])) e ∙ ap (λ (x : List ℕ). only_messages (message file m kind x ∷ [])) f

pub pair_given : (file : List ℕ) (pattern : List Item) (l : NumberedLine) (n : ℕ) (pair : Pair) → pair_of l ≡ Ok pair → n ≡ l.number
    → found_as (record { pattern = pattern; key = pair.key; value = pair.value; file = file; line = capped n } ∷ []) [] 0 ≡ pair_found file pattern l
pair_given file pattern l n pair e f =
    ap (λ (k : ℕ). found_as (record { pattern = pattern; key = pair.key; value = pair.value; file = file; line = capped k } ∷ []) [] 0) f
    ∙ ap (λ (r : Result Pair MessageKind). found_as (from_pair file pattern l.number r) [] 0) (sym e)

pub pair_missing : (file : List ℕ) (pattern : List Item) (l : NumberedLine) (kind : MessageKind) → pair_of l ≡ Err kind → pair_found file pattern l ≡ nothing
pair_missing file pattern l kind e = ap (λ (r : Result Pair MessageKind). found_as (from_pair file pattern l.number r) [] 0) e

pub property_reported : (file : List ℕ) (l : NumberedLine) (n : ℕ) (word : List ℕ) (kind : MessageKind) → pair_of l ≡ Err kind → n ≡ l.number → word ≡ property_text l
    → only_messages (message file n kind word ∷ []) ≡ property_found file l
property_reported file l n word kind e f g =
    same_message file kind n l.number word (property_text l) f g
    ∙ ap (λ (r : Result Pair MessageKind). only_messages (about_pair file l r)) (sym e)

pub property_good : (file : List ℕ) (l : NumberedLine) (pair : Pair) → pair_of l ≡ Ok pair → property_found file l ≡ nothing
property_good file l pair e = ap (λ (r : Result Pair MessageKind). only_messages (about_pair file l r)) e

-- a match that is a pattern: its bytes, and then its entries
pub match_read : (file : List ℕ) (ps : List NumberedLine) (l : NumberedLine) (text : List ℕ) (pattern : List Item) (len : ℕ) → text ≡ l.text → spell text ≡ Ok pattern
    → len ≡ cond (list_any (λ q. is_ok (pair_of q)) ps) (length l.text) 0
    → join (found_as [] [] len) (found_in (pair_found file pattern) ps) ≡ match_found file ps l
unfolding join
match_read file ps l text pattern len t e f =
    let spelled : spell l.text ≡ Ok pattern = ap spell (sym t) ∙ e in
    ap (λ (x : Found). join (found_as [] [] len) x) (found_in_properties (from_line file pattern) ps)
    ∙ ap (λ (n : ℕ). found_as (flat_map (from_line file pattern) ps) [] n) (add-zero len ∙ f)
    ∙ ap (λ (r : Result (List Item) GlobFault). found_as (from_spelled file ps r) (about_spelled file l r) (cond (is_ok r && list_any (λ q. is_ok (pair_of q)) ps) (length l.text) 0)) (sym spelled)

-- the parts of a paragraph, one after another
pub cut_joined : (file : List ℕ) (c : Cut)
    → join (found_in (early_found file) c.early) (join (bare_found file c.matches c.properties) (join (found_in (match_found file c.properties) c.matches) (join (found_in (property_found file) c.properties) (rest_found file c.rest)))) ≡ cut_found file c
unfolding join
cut_joined file c =
    let early : found_in (early_found file) c.early ≡ only_messages (map (about_early file) c.early) =
    found_in_messages (λ l. about_early file l ∷ []) c.early ∙ ap only_messages (flat_map_single (about_early file) c.early) in
    let reported : found_in (property_found file) c.properties ≡ only_messages (flat_map (about_property file) c.properties) = found_in_messages (about_property file) c.properties in
    let read : found_in (match_found file c.properties) c.matches ≡ found_as (cut_properties file c) (flat_map (about_match file) c.matches) (cut_match_bytes c) = found_in_is (match_found file c.properties) c.matches in
    ap (λ (x : Found). join x (join (bare_found file c.matches c.properties) (join (found_in (match_found file c.properties) c.matches) (join (found_in (property_found file) c.properties) (rest_found file c.rest))))) early
    ∙ ap (λ (x : Found). join (only_messages (map (about_early file) c.early)) (join (bare_found file c.matches c.properties) (join x (join (found_in (property_found file) c.properties) (rest_found file c.rest))))) read
    ∙ ap (λ (x : Found). join (only_messages (map (about_early file) c.early)) (join (bare_found file c.matches c.properties) (join (found_as (cut_properties file c) (flat_map (about_match file) c.matches) (cut_match_bytes c)) (join x (rest_found file c.rest))))) reported
    ∙ same_found (cut_properties file c ++ []) (cut_properties file c) (cut_messages file c) (cut_messages file c) (0 + (0 + (cut_match_bytes c + 0))) (cut_match_bytes c) (append-nil (cut_properties file c)) refl (omega arith)

pub nothing_left : {X : Type 0} (xs : List X) (i : ℕ) → length xs ≤ i → length (drop i xs) ≡ 0
nothing_left xs i h = omega (arith, length-drop i xs)

pub empty_at_start : {X : Type 0} (xs : List X) → slice_get xs 0 ≡ None → xs ≡ []
empty_at_start [] e = refl
empty_at_start (x ∷ xs) e = cc
