-- Where texts and names are, and what a value is written as.
use Rattle.std.proofs.Common.{◌≡◌, ℕ, ◌+◌, ◌<◌, ◌≤◌, List, [], length, take, flat_map, get_or, sym, ◌∙◌, ap, subst, arith, length-append, zero-add, All}
use Rattle.std.proofs.Math.ListN.{get_or-map as get_or-mapped}
use Rattle.std.proofs.Math.Seq.{take-length}
use Rattle.std.proofs.lemmas.List.{get_or-map, length-map}
use Rattle.std.proofs.lemmas.List.Elements.{All-get_or}
use Rattle.std.proofs.lemmas.List.Folds.{length-flat_map-take}
use Rattle.std.proofs.lemmas.List.FromFn.{get_or-map-range_with_len, length-map-range_with_len}
use Rattle.std.specs.Borrow.{Bor}
use Rattle.trie_nodes.specs.declared.entry.Entry.{Entry}
use Rattle.trie_build.specs.Content.{entry_at, no_entry, shown}
use Rattle.trie_build.specs.Distinct.{IsIn, number_in}
use Rattle.text_bytes.specs.Insertion.{text_order}
use Rattle.trie_build.proofs.Distinguishing.{get_in, in_get}
use Rattle.trie_build.proofs.Orders.{texts_order}
use Rattle.trie_build.specs.declared.records.ValueRecord.{ValueRecord}
use Rattle.trie_build.specs.Image.{all_names, own_text}
use Rattle.trie_build.proofs.Members.{number_within}
use Rattle.trie_build.specs.Writing.{name_before, name_places, named, place_before, value_record}
use Rattle.trie_build.proofs.Parts.{taken_more}

pub text_at : (ws : List (Bor (List ℕ))) (k : ℕ) (d : Bor (List ℕ)) → get_or (shown ws) k d.now ≡ (get_or ws k d).now
text_at ws k d = get_or-mapped (λ (t : Bor (List ℕ)). t.now) ws k d

pub length_shown : (ws : List (Bor (List ℕ))) → length (shown ws) ≡ length ws
length_shown ws = length-map ws (λ (t : Bor (List ℕ)). t.now)

pub names_more : (names : List (List ℕ)) (k : ℕ) → k < length names → length (all_names (take (k + 1) names)) ≡ length (all_names (take k names)) + length (get_or names k [])
names_more names k h = ap length (taken_more (λ (name : List ℕ). name) names k [] h) ∙ length-append (all_names (take k names)) (get_or names k [])

pub name_within : (names : List (List ℕ)) (k : ℕ) → k < length names → length (all_names (take k names)) + length (get_or names k []) ≤ length (all_names names)
name_within names k h = length-flat_map-take (λ (name : List ℕ). name) names k [] h

pub member_short : (names : List (List ℕ)) (x : List ℕ) → IsIn x names → length x ≤ length (all_names names)
member_short names x i =
    let w = in_get [] x names i in
    let same : length x ≡ length (get_or names w.0 []) = ap length w.2 in
    omega (arith, same, name_within names w.0 w.1)

pub length_named : (es : List Entry) (order : List ℕ) → length (named es order) ≡ length order
length_named es order = length-map order (entry_at es)

pub texts_within : (es : List Entry) (j : ℕ) → j < length es → place_before es j + length (own_text (entry_at es j)) ≤ length (flat_map own_text es)
texts_within es j h = length-flat_map-take own_text es j no_entry h

pub texts_more : (es : List Entry) (j : ℕ) → j < length es → place_before es (j + 1) ≡ place_before es j + length (own_text (entry_at es j))
texts_more es j h = ap length (taken_more own_text es j no_entry h) ∙ length-append (flat_map own_text (take j es)) (own_text (entry_at es j))

pub in_named : (es : List Entry) (order : List ℕ) → All (λ n. n < length es) order → (j : ℕ) → j < length order → IsIn (entry_at (named es order) j) es
in_named es order within j h =
    let own : entry_at (named es order) j ≡ entry_at es (get_or order j 0) = get_or-map (entry_at es) order j 0 no_entry h in
    subst (λ e. IsIn e es) (sym own) (get_in no_entry es (get_or order j 0) (All-get_or (λ n. n < length es) order j 0 h within))

pub length_places : (es : List Entry) (names : List (List ℕ)) (places : List ℕ) → places ≡ name_places es names → length places ≡ length names + 1
length_places es names places is = ap length is ∙ length-map-range_with_len (name_before es names) 0 (length names + 1)

-- an entry as it is written, by where its texts and its file's name begin
abbrev made : ℕ → ℕ → Entry → ValueRecord
made place name e = record {
  key = record { place = place; len = length e.key };
  value = record { place = place + length e.key; len = length e.value };
  order = e.order;
  file = record { place = name; len = length e.file };
  line = e.line;
}

pub value_reported : (es : List Entry) (names : List (List ℕ)) (places : List ℕ) (j place : ℕ) (e : Entry) → places ≡ name_places es names → place ≡ place_before es j → e ≡ entry_at es j → IsIn e.file names
    → made place (get_or places (number_in text_order names e.file) 0) e ≡ value_record es names j
value_reported es names places j place e is at same there =
    let k : ℕ = number_in text_order names e.file in
    let inside : k < length names = number_within text_order texts_order e.file names there in
    let name : get_or places k 0 ≡ name_before es names k =
    ap (λ l. get_or l k 0) is ∙ get_or-map-range_with_len (name_before es names) 0 (length names + 1) k k 0 (omega (arith, inside)) (zero-add k) in
    ap (λ n. made place n e) name ∙ ap (λ p. made p (name_before es names k) e) at
    ∙ ap (λ x. made (place_before es j) (name_before es names (number_in text_order names x.file)) x) same

-- where the last name ends
pub text_reported : (es : List Entry) (names : List (List ℕ)) (places : List ℕ) (n d : ℕ) → places ≡ name_places es names → n ≡ length names → get_or places n d ≡ length (flat_map own_text es) + length (all_names names)
text_reported es names places n d is last =
    ap (λ l. get_or l n d) is ∙ get_or-map-range_with_len (name_before es names) 0 (length names + 1) n n d (omega (arith, last)) (zero-add n)
    ∙ ap (name_before es names) last ∙ ap (λ l. length (flat_map own_text es) + length (all_names l)) (take-length names)
