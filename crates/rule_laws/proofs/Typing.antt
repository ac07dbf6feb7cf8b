-- The entries of files that are not too many have the types of entries.
use Rattle.std.proofs.Common.{◌≡◌, ℕ, zero, suc, ◌+◌, ◌-◌, ◌^◌, ◌<◌, List, ◌∷◌, [], length, get_or, take, flat_map, Result, Ok, Err, refl, sym, ◌∙◌, ap, subst, arith, inl, inr}
use Rattle.std.proofs.Math.Nat.{min-le_right}
use Rattle.std.specs.List.{AllByRecursion}
use Rattle.text_core.specs.Spell.{spell}
use Rattle.text_core.specs.declared.glob_fault.GlobFault.{GlobFault}
use Rattle.text_core.specs.declared.item.Item.{Item}
use Rattle.text_core.specs.declared.item.Item.TheVariants.{One}
use Rattle.text_bytes.specs.Numbers.{capped}
use Rattle.file_messages.specs.declared.message.MessageKind.{MessageKind}
use Rattle.text_bytes.specs.declared.SourceFile.{SourceFile}
use Rattle.text_bytes.specs.Lines.{NumberedLine}
use Rattle.hwdb_core.specs.Properties.{Pair, Property, cut_properties, from_line, from_pair, from_spelled, pair_of}
use Rattle.hwdb_core.specs.Sources.{WithinBounds, cuts_of, entries_from, entries_of, entry_at, properties_of}
use Rattle.hwdb_core.proofs.Bounds.{within_few}
use Rattle.trie_nodes.specs.declared.entry.Entry.{Entry}
use Rattle.trie_build.specs.Distinct.{IsDistinctOf, IsIn}
use Rattle.trie_build.specs.Paths.{paths_of, patterns_of}
use Rattle.trie_build.specs.Sizes.{last_label, set_in, sets_of}
use Rattle.text_bytes.specs.Insertion.{text_order}
use Rattle.trie_build.proofs.Distinguishing.{all_in, distinct_is, get_in, in_flat_map, in_map}
use Rattle.trie_build.proofs.Orders.{texts_order}
use Rattle.trie_build.proofs.Paths.{path_is_prefix}
use Rattle.trie_nodes.specs.Bounds.{set_len}
use Rattle.trie_build.specs.Numbers.{IsSmall}
use Rattle.trie_build.specs.Entries.{AreTyped}
use Rattle.rule_laws.proofs.HwdbSpelling.{AreWhole, IsWhole, whole_spell}

small_line : (number : ℕ) → IsSmall (capped number)
small_line number = omega (arith, min-le_right number (2 ^ 32 - 1))

-- a property whose line has 32 bits, and whose sets have 32 bytes
record IsTyped (q : Property) : Type 0 where
  line : IsSmall q.line
  sets : AllByRecursion IsWhole q.pattern

typed_pair : (file : List ℕ) (pattern : List Item) (number : ℕ) (r : Result Pair MessageKind) (q : Property) → AllByRecursion IsWhole pattern → IsIn q (from_pair file pattern number r) → IsTyped q
typed_pair file pattern number (Ok pair) q whole (inl e) =
    record { line = subst IsSmall (sym (ap (λ (p : Property). p.line) e)) (small_line number); sets = subst (AllByRecursion IsWhole) (sym (ap (λ (p : Property). p.pattern) e)) whole }
typed_pair file pattern number (Ok pair) q whole (inr none) = absurd none
typed_pair file pattern number (Err kind) q whole none = absurd none

typed_spelled : (file : List ℕ) (properties : List NumberedLine) (r : Result (List Item) GlobFault) (q : Property) → AreWhole r → IsIn q (from_spelled file properties r) → IsTyped q
typed_spelled file properties (Ok pattern) q whole i =
    let l = in_flat_map (from_line file pattern) q properties i in
    typed_pair file pattern l.0.number (pair_of l.0) q whole l.2
typed_spelled file properties (Err fault) q whole none = absurd none

typed_property : (files : List SourceFile) (q : Property) → IsIn q (properties_of files) → IsTyped q
typed_property files q i =
    let f = in_flat_map (λ f. flat_map (cut_properties f.name) (cuts_of f)) q files i in
    let c = in_flat_map (cut_properties f.0.name) q (cuts_of f.0) f.2 in
    let l = in_flat_map (λ l. from_spelled f.0.name c.0.properties (spell l.text)) q c.0.matches c.2 in
    typed_spelled f.0.name c.0.properties (spell l.0.text) q (whole_spell l.0.text) l.2

-- an entry is a property at its place
entry_is : (n : ℕ) (ps : List Property) (e : Entry) → IsIn e (entries_from n ps) → (q : Property) × IsIn q ps × (k : ℕ) × (k < n + length ps) × (e ≡ entry_at k q)
entry_is n [] e i = absurd i
entry_is n (p ∷ ps) e (inl same) = (p, inl refl, n, omega arith, same)
entry_is n (p ∷ ps) e (inr i) = let w = entry_is (n + 1) ps e i in (w.0, inr w.1, w.2, omega (arith, w.3), w.4)

prepended : {A : Type 0} (x : A) (n : ℕ) (xs : List A) → IsIn x (take n xs) → IsIn x xs
prepended x zero xs i = absurd i
prepended x (suc n) [] i = absurd i
prepended x (suc n) (y ∷ ys) (inl e) = inl e
prepended x (suc n) (y ∷ ys) (inr i) = inr (prepended x n ys i)

module _ (files : List SourceFile) where
  abbrev es : List Entry
  es = entries_of files

  whole_pattern : (p : List Item) → IsIn p (patterns_of es) → AllByRecursion IsWhole p
  whole_pattern p i =
      let e = in_map (λ (e : Entry). e.pattern) p es i in
      let w = entry_is 0 (properties_of files) e.0 e.1 in
      subst (AllByRecursion IsWhole) (sym (e.2 ∙ ap (λ (x : Entry). x.pattern) w.4)) (typed_property files w.0 w.1).sets

  -- a path is a front of a pattern, and its last label is one of that
  whole_path : (p : List Item) → IsIn p (paths_of es) → IsWhole (last_label p)
  whole_path [] i = tt
  whole_path (x ∷ p) i =
      let w = path_is_prefix (patterns_of es) (x ∷ p) i (omega arith) in
      let label : Item = last_label (x ∷ p) in
      let last : IsIn label (x ∷ p) = get_in One (x ∷ p) (length (x ∷ p) - 1) (omega arith) in
      all_in IsWhole label w.0 (whole_pattern w.0 w.1) (prepended label (length (x ∷ p)) w.0 (subst (IsIn label) w.3 last))

  whole_set : (bits : List ℕ) → IsIn bits (sets_of es) → length bits ≡ set_len
  whole_set bits i =
      let written : List (List ℕ) = flat_map (λ p. set_in (last_label p)) (paths_of es) in
      let is : IsDistinctOf text_order written (sets_of es) = distinct_is text_order texts_order written in
      let w = in_flat_map (λ p. set_in (last_label p)) bits (paths_of es) (is.only bits i) in
      all_in (λ (b : List ℕ). length b ≡ set_len) bits (set_in (last_label w.0)) (whole_path w.0 w.1) w.2

  pub are_typed : WithinBounds files → AreTyped es
  are_typed within = record {
    orders = λ k d h.
        let w = entry_is 0 (properties_of files) (get_or es k d) (get_in d es k h) in
        let order : (get_or es k d).order ≡ w.2 = ap (λ (e : Entry). e.order) w.4 in
        omega (arith, order, w.3, (within_few files within).entries);
    lines = λ k d h.
        let w = entry_is 0 (properties_of files) (get_or es k d) (get_in d es k h) in
        subst IsSmall (sym (ap (λ (e : Entry). e.line) w.4)) (typed_property files w.0 w.1).line;
    sets = λ k d h. whole_set (get_or (sets_of es) k d) (get_in d (sets_of es) k h);
  }
