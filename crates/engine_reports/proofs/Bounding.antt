-- The entries of files that are not too many keep the bounds of a trie.
use Rattle.std.proofs.Common.{◌≡◌, ℕ, zero, suc, ◌+◌, ◌≤◌, Bool, true, false, ◌&&◌, ◌||◌, cond, nat_lt, List, ◌∷◌, [], length, map, flat_map, refl, sym, ◌∙◌, ap, subst, arith, inl, inr, Result, Ok, Err}
use Rattle.std.proofs.lemmas.List.Sums.{sum_by-append, sum_by-cons}
use Rattle.std.specs.List.{list_any, sum_by}
use Rattle.std.specs.Prelude.{is_ok}
use Rattle.text_core.specs.Spell.{items_at, max_len, spell, spell_by, with_first, with_item, first_item}
use Rattle.text_core.specs.declared.glob_fault.GlobFault.{GlobFault}
use Rattle.text_core.specs.declared.glob_fault.GlobFault.TheVariants.{TooLong}
use Rattle.text_core.specs.declared.item.Item.{Item}
use Rattle.text_core.specs.declared.reading.Reading.TheVariants.{Exact}
use Rattle.text_core.specs.declared.spell.Head.{Head}
use Rattle.file_messages.specs.declared.message.MessageKind.{MessageKind}
use Rattle.text_bytes.specs.declared.SourceFile.{SourceFile}
use Rattle.text_bytes.specs.Lines.{NumberedLine}
use Rattle.hwdb_core.specs.Paragraphs.{Cut}
use Rattle.hwdb_core.specs.Properties.{Pair, Property, cut_match_bytes, cut_properties, from_line, from_pair, from_spelled, gives_entry, pair_of}
use Rattle.hwdb_core.specs.Sources.{WithinBounds, cuts_of, entries_from, entries_of, entry_at, match_bytes_of, properties_of, text_len}
use Rattle.hwdb_core.proofs.Bounds.{HoldFew, within_few}
use Rattle.trie_nodes.specs.declared.entry.Entry.{Entry}
use Rattle.trie_build.specs.Distinct.{IsIn}
use Rattle.trie_build.specs.Paths.{paths_of, patterns_of}
use Rattle.trie_build.specs.Sizes.{KeepsBounds, names_of}
use Rattle.trie_build.proofs.Counting.{few_names, few_paths, few_sets}
use Rattle.trie_build.proofs.Distinguishing.{flat_map_in, in_flat_map, in_map, map_in}

-- there are no more items than bytes that spell them
items_few : (t : List ℕ) (passed at : ℕ) (items : List Item) → items_at Exact t passed at ≡ Ok items → length items ≤ length t
items_few [] passed at items e = let same : ◌≡◌ {A = List Item} [] items = cc in let len : length {A = Item} [] ≡ length items = ap length same in omega (arith, len)
items_few (b ∷ t) zero at items e = by_first_item (λ n rest f. items_few t n (at + 1) rest f) (first_item Exact at b t) e where
  by_rest : (x : Item) (r : Result (List Item) GlobFault) → ((rest : List Item) → r ≡ Ok rest → length rest ≤ length t) → with_item x r ≡ Ok items → length items ≤ length (b ∷ t)
  by_rest x (Ok rest) few f = let same : x ∷ rest ≡ items = cc in let len : length (x ∷ rest) ≡ length items = ap length same in let short : length rest ≤ length t = few rest refl in omega (arith, len, short)
  by_rest x (Err fault) few f = cc

  by_first_item : ((n : ℕ) (rest : List Item) → items_at Exact t n (at + 1) ≡ Ok rest → length rest ≤ length t) → (h : Result Head GlobFault)
      → with_first h (λ n. items_at Exact t n (at + 1)) ≡ Ok items → length items ≤ length (b ∷ t)
  by_first_item few (Ok head) f = by_rest head.item (items_at Exact t head.following (at + 1)) (λ rest g. few head.following rest g) f
  by_first_item few (Err fault) f = cc
items_few (b ∷ t) (suc n) at items e = let short : length items ≤ length t = items_few t n (at + 1) items e in omega (arith, short)

spell_few : (t : List ℕ) (items : List Item) → spell t ≡ Ok items → length items ≤ length t
unfolding spell spell_by
spell_few t items e = by (nat_lt max_len (length t)) e where
  by : (v : Bool) → cond v (Err TooLong) (items_at Exact t 0 0) ≡ Ok items → length items ≤ length t
  by true f = cc
  by false f = items_few t 0 0 items f

-- the pattern of a match that is one
abbrev spelled : Result (List Item) GlobFault → List (List Item)
spelled (Ok p) = p ∷ []
spelled (Err e) = []

abbrev match_patterns : List NumberedLine → NumberedLine → List (List Item)
match_patterns properties l = cond (gives_entry properties l) (spelled (spell l.text)) []

abbrev cut_patterns : Cut → List (List Item)
cut_patterns c = flat_map (match_patterns c.properties) c.matches

abbrev file_patterns : SourceFile → List (List Item)
file_patterns f = flat_map cut_patterns (cuts_of f)

-- sums over joined lists
sum_flat : {X : Type 0} (g : X → List (List Item)) (h : X → ℕ) → ((x : X) → sum_by length (g x) ≤ h x) → (xs : List X) → sum_by length (flat_map g xs) ≤ sum_by h xs
sum_flat g h each [] = omega arith
sum_flat g h each (x ∷ xs) =
    let rest : sum_by length (flat_map g xs) ≤ sum_by h xs = sum_flat g h each xs in
    omega (arith, each x, rest, sum_by-append length (g x) (flat_map g xs), sum_by-cons h x xs)

match_few : (properties : List NumberedLine) (l : NumberedLine) → sum_by length (match_patterns properties l) ≤ cond (gives_entry properties l) (length l.text) 0
match_few properties l = by (gives_entry properties l) where
  by_spelled : (r : Result (List Item) GlobFault) → spell l.text ≡ r → sum_by length (spelled r) ≤ length l.text
  by_spelled (Ok p) e = let short : length p ≤ length l.text = spell_few l.text p e in omega (arith, short, sum_by-cons length p [])
  by_spelled (Err fault) e = omega arith

  by : (v : Bool) → sum_by length (cond v (spelled (spell l.text)) []) ≤ cond v (length l.text) 0
  by true = by_spelled (spell l.text) refl
  by false = omega arith

all_few : (files : List SourceFile) → sum_by length (flat_map file_patterns files) ≤ match_bytes_of files
all_few files =
    sum_flat file_patterns (λ f. sum_by cut_match_bytes (cuts_of f))
    (λ f. sum_flat cut_patterns cut_match_bytes (λ c. sum_flat (match_patterns c.properties) (λ l. cond (gives_entry c.properties l) (length l.text) 0) (match_few c.properties) c.matches) (cuts_of f)) files

some_any : {X : Type 0} (p : X → Bool) (x : X) (xs : List X) → IsIn x xs → p x ≡ true → list_any p xs ≡ true
some_any p x [] i h = absurd i
some_any p x (y ∷ ys) (inl e) h = let own : p y ≡ true = ap p (sym e) ∙ h in ap (λ v. v || list_any p ys) own
some_any p x (y ∷ ys) (inr i) h = either (p y) (some_any p x ys i h) where
  either : (v : Bool) {w : Bool} → w ≡ true → (v || w) ≡ true
  either true e = refl
  either false e = e

-- a property is below a match that gives an entry
record IsPresent (name : List ℕ) (properties : List NumberedLine) (l : NumberedLine) (q : Property) : Type 0 where
  file : q.file ≡ name
  pattern : IsIn q.pattern (match_patterns properties l)

is_present : (file : List ℕ) (properties : List NumberedLine) (l : NumberedLine) (q : Property) → IsIn q (from_spelled file properties (spell l.text)) → IsPresent file properties l q
is_present file properties l q i = by (spell l.text) refl i where
  by_pair : (pattern : List Item) (number : ℕ) (r : Result Pair MessageKind) → IsIn q (from_pair file pattern number r) → (q.file ≡ file) × (q.pattern ≡ pattern) × (is_ok r ≡ true)
  by_pair pattern number (Ok pair) (inl e) = (ap (λ (p : Property). p.file) e, ap (λ (p : Property). p.pattern) e, refl)
  by_pair pattern number (Ok pair) (inr none) = absurd none
  by_pair pattern number (Err kind) none = absurd none

  by : (r : Result (List Item) GlobFault) → spell l.text ≡ r → IsIn q (from_spelled file properties r) → IsPresent file properties l q
  by (Ok pattern) e j =
      let w = in_flat_map (from_line file pattern) q properties j in
      let own = by_pair pattern w.0.number (pair_of w.0) w.2 in
      let any : list_any (λ p. is_ok (pair_of p)) properties ≡ true = some_any (λ p. is_ok (pair_of p)) w.0 properties w.1 own.2 in
      let gives : gives_entry properties l ≡ true = ap (λ r. is_ok r && list_any (λ p. is_ok (pair_of p)) properties) e ∙ any in
      let listed : match_patterns properties l ≡ pattern ∷ [] = ap (λ v. cond v (spelled (spell l.text)) []) gives ∙ ap spelled e in
      record { file = own.0; pattern = subst (IsIn q.pattern) (sym listed) (inl own.1) }
  by (Err fault) e none = absurd none

-- an entry is a property of a file
entry_is : (n : ℕ) (ps : List Property) (e : Entry) → IsIn e (entries_from n ps) → (q : Property) × IsIn q ps × (e.pattern ≡ q.pattern) × (e.file ≡ q.file)
entry_is n [] e i = absurd i
entry_is n (p ∷ ps) e (inl same) = (p, inl refl, ap (λ (x : Entry). x.pattern) same, ap (λ (x : Entry). x.file) same)
entry_is n (p ∷ ps) e (inr i) = let w = entry_is (n + 1) ps e i in (w.0, inr w.1, w.2, w.3)

record Comes (files : List SourceFile) (e : Entry) : Type 0 where
  file : IsIn e.file (map (λ f. f.name) files)
  pattern : IsIn e.pattern (flat_map file_patterns files)

comes : (files : List SourceFile) (e : Entry) → IsIn e (entries_of files) → Comes files e
comes files e i =
    let w = entry_is 0 (properties_of files) e i in
    let q : Property = w.0 in
    let f = in_flat_map (λ f. flat_map (cut_properties f.name) (cuts_of f)) q files w.1 in
    let c = in_flat_map (cut_properties f.0.name) q (cuts_of f.0) f.2 in
    let l = in_flat_map (λ l. from_spelled f.0.name c.0.properties (spell l.text)) q c.0.matches c.2 in
    let own : IsPresent f.0.name c.0.properties l.0 q = is_present f.0.name c.0.properties l.0 q l.2 in
    record {
      file = subst (λ n. IsIn n (map (λ (g : SourceFile). g.name) files)) (sym (w.3 ∙ own.file)) (map_in (λ (g : SourceFile). g.name) f.0 files f.1);
      pattern = subst (λ p. IsIn p (flat_map file_patterns files)) (sym w.2)
          (flat_map_in file_patterns q.pattern f.0 files f.1 (flat_map_in cut_patterns q.pattern c.0 (cuts_of f.0) c.1 (flat_map_in (match_patterns c.0.properties) q.pattern l.0 c.0.matches l.1 own.pattern)));
    }

count_entries : (n : ℕ) (ps : List Property) → length (entries_from n ps) ≡ length ps
count_entries n [] = refl
count_entries n (p ∷ ps) = let rest : length (entries_from (n + 1) ps) ≡ length ps = count_entries (n + 1) ps in omega (arith, rest)

text_entries : (n : ℕ) (ps : List Property) → sum_by (λ e. length e.key + length e.value) (entries_from n ps) ≡ sum_by text_len ps
text_entries n [] = refl
text_entries n (p ∷ ps) =
    sum_by-cons (λ (e : Entry). length e.key + length e.value) (entry_at n p) (entries_from (n + 1) ps) ∙ ap (λ m. text_len p + m) (text_entries (n + 1) ps) ∙ sym (sum_by-cons text_len p ps)

sum_names : (files : List SourceFile) → sum_by length (map (λ f. f.name) files) ≡ sum_by (λ f. length f.name) files
sum_names [] = refl
sum_names (f ∷ fs) =
    sum_by-cons length f.name (map (λ (g : SourceFile). g.name) fs) ∙ ap (λ m. length f.name + m) (sum_names fs) ∙ sym (sum_by-cons (λ (g : SourceFile). length g.name) f fs)

pub never_too_large : (files : List SourceFile) → WithinBounds files → KeepsBounds (entries_of files)
never_too_large files few =
    let within : HoldFew files = within_few files few in
    let es : List Entry = entries_of files in
    let count : length es ≡ length (properties_of files) = count_entries 0 (properties_of files) in
    let paths : length (paths_of es) ≤ 1 + sum_by length (flat_map file_patterns files) =
    few_paths (patterns_of es) (flat_map file_patterns files) (λ p i.
    let w = in_map (λ (e : Entry). e.pattern) p es i in subst (λ q. IsIn q (flat_map file_patterns files)) (sym w.2) (comes files w.0 w.1).pattern) in
    let names : sum_by length (names_of es) ≤ sum_by length (map (λ (f : SourceFile). f.name) files) = few_names es (map (λ (f : SourceFile). f.name) files) (λ e i. (comes files e i).file) in
    record {
      entries = omega (arith, count, within.entries);
      nodes = omega (arith, paths, all_few files, within.match_bytes);
      index = omega (arith, count, paths, names, few_sets es, all_few files, sum_names files, text_entries 0 (properties_of files), within.entries, within.match_bytes, within.text_bytes, within.name_bytes);
    }
