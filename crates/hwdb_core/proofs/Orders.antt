-- The entries of all files rise, and none has an empty key.
use Rattle.std.proofs.Common.{◌≡◌, ◌≢◌, ℕ, zero, suc, ◌+◌, ◌<◌, ◌≤◌, Bool, true, false, cond, List, ◌∷◌, [], length, take, drop, get_or, Option, Some, None, Result, Ok, Err, refl, sym, subst, ap, arith, ◌==◌}
use Rattle.std.specs.List.{All, AllAdjacentBelow, filter, flat_map, position}
use Rattle.std.proofs.lemmas.Bool.{eq-eqb}
use Rattle.std.proofs.lemmas.List.{length-take-le}
use Rattle.std.proofs.lemmas.List.Elements.{All-append, All-cons, All-push}
use Rattle.text_bytes.specs.Names.{equals}
use Rattle.file_messages.specs.declared.message.MessageKind.TheVariants.{EmptyKey}
use Rattle.text_bytes.specs.declared.SourceFile.{SourceFile}
use Rattle.text_core.specs.Spell.{spell}
use Rattle.text_core.specs.declared.glob_fault.GlobFault.{GlobFault}
use Rattle.text_core.specs.declared.item.Item.{Item}
use Rattle.trie_nodes.specs.Orders.{Rising}
use Rattle.trie_nodes.specs.declared.Entry.{Entry}
use Rattle.text_bytes.specs.Lines.{NumberedLine}
use Rattle.hwdb_core.specs.Paragraphs.{Cut}
use Rattle.hwdb_core.specs.Properties.{Property, cut_properties, from_line, from_pair, from_spelled, pair_at, property_text}
use Rattle.hwdb_core.specs.Sources.{cuts_of, entries_from, entries_of, entry_at, properties_of}
use Rattle.hwdb_core.specs.Found.{counting}
use Rattle.text_core.specs.Fits.{fits}
use Rattle.hwdb_core.proofs.Finding.{position_some}

abbrev Keyed : Property → Type 0
Keyed p = p.key ≢ []

no_item : {X : Type 0} (P : X → Type 0) → All P []
no_item P k d h = absurd (omega arith)

all_flat : {X A : Type 0} (P : A → Type 0) (f : X → List A) (xs : List X) → ((x : X) → All P (f x)) → All P (flat_map f xs)
all_flat P f [] h = no_item P
all_flat P f (x ∷ xs) h = All-append P (f x) (flat_map f xs) (h x) (all_flat P f xs h)

-- what comes before an `=` that is not at the front
has_key : (t : List ℕ) (at : ℕ) → position (λ b. b == equals) t ≡ Some at → (at == 0) ≡ false → take at t ≢ []
has_key t at e first n =
    let found = position_some (λ b. b == equals) t at e in
    let within : at < length t = found.1 in
    let len : length (take at t) ≡ at = length-take-le at t (omega arith) in
    let none : length (take at t) ≡ 0 = ap length n in
    let zero : at ≡ 0 = omega arith in
    let right : (at == 0) ≡ true = eq-eqb at 0 zero in
    cc

keyed_pair : (file : List ℕ) (pattern : List Item) (number : ℕ) (t : List ℕ) (o : Option ℕ) → position (λ b. b == equals) t ≡ o → All Keyed (from_pair file pattern number (pair_at t o))
keyed_pair file pattern number t None e = no_item Keyed
keyed_pair file pattern number t (Some at) e = by_place (at == 0) refl where
  by_place : (first : Bool) → (at == 0) ≡ first → All Keyed (from_pair file pattern number (cond first (Err EmptyKey) (Ok (record { key = take at t; value = drop (at + 1) t }))))
  by_place true f = no_item Keyed
  by_place false f = All-push Keyed [] _ (no_item Keyed) (has_key t at e f)

keyed_line : (file : List ℕ) (pattern : List Item) (l : NumberedLine) → All Keyed (from_line file pattern l)
keyed_line file pattern l = keyed_pair file pattern l.number (property_text l) (position (λ b. b == equals) (property_text l)) refl

keyed_spelled : (file : List ℕ) (ps : List NumberedLine) (r : Result (List Item) GlobFault) → All Keyed (from_spelled file ps r)
keyed_spelled file ps (Ok pattern) = all_flat Keyed (from_line file pattern) ps (keyed_line file pattern)
keyed_spelled file ps (Err fault) = no_item Keyed

keyed_cut : (file : List ℕ) (c : Cut) → All Keyed (cut_properties file c)
keyed_cut file c = all_flat Keyed (λ l. from_spelled file c.properties (spell l.text)) c.matches (λ l. keyed_spelled file c.properties (spell l.text))

keyed_files : (files : List SourceFile) → All Keyed (properties_of files)
keyed_files files =
    all_flat Keyed (λ f. flat_map (cut_properties f.name) (cuts_of f)) files (λ f. all_flat Keyed (cut_properties f.name) (cuts_of f) (keyed_cut f.name))

-- ---- the entries that count rise

-- no order is below this one
abbrev From : ℕ → List Entry → Type 0
From n es = All (λ (e : Entry). n ≤ e.order) es

abbrev Rises : List Entry → Type 0
Rises es = AllAdjacentBelow (λ (e next : Entry). e.order < next.order) es (length es)

rises_none : Rises []
rises_none k d h = absurd (omega arith)

next_is : (k : ℕ) → k + 1 ≡ suc k
next_is k = omega arith

rises_after : (e : Entry) (es : List Entry) → From (e.order + 1) es → Rises es → Rises (e ∷ es)
rises_after e [] f r k d h = absurd (omega arith)
rises_after e (x ∷ es) f r zero d h = subst (λ (n : ℕ). e.order < (get_or (e ∷ x ∷ es) n d).order) (sym (next_is 0)) (let b : e.order + 1 ≤ x.order = f 0 x (omega arith) in omega arith)
rises_after e (x ∷ es) f r (suc k) d h =
    subst (λ (n : ℕ). (get_or (x ∷ es) k d).order < (get_or (e ∷ x ∷ es) n d).order) (sym (next_is (suc k)))
    (subst (λ (n : ℕ). (get_or (x ∷ es) k d).order < (get_or (x ∷ es) n d).order) (next_is k) (r k d (omega arith)))

from_later : (n m : ℕ) (es : List Entry) → n ≤ m → From m es → From n es
from_later n m es h f k d b = omega (arith, f k d b)

module _ (p : Entry → Bool) where
  from_more : (b : Bool) (n : ℕ) (q : Property) (es : List Entry) → From (n + 1) es → From n (cond b (entry_at n q ∷ es) es)
  from_more true n q es h = All-cons (λ (e : Entry). n ≤ e.order) (entry_at n q) es (omega arith) (from_later n (n + 1) es (omega arith) h)
  from_more false n q es h = from_later n (n + 1) es (omega arith) h

  from_entries : (n : ℕ) (ps : List Property) → From n (filter p (entries_from n ps))
  from_entries n [] = no_item (λ (e : Entry). n ≤ e.order)
  from_entries n (q ∷ ps) = from_more (p (entry_at n q)) n q (filter p (entries_from (n + 1) ps)) (from_entries (n + 1) ps)

  rises_more : (b : Bool) (n : ℕ) (q : Property) (es : List Entry) → From (n + 1) es → Rises es → Rises (cond b (entry_at n q ∷ es) es)
  rises_more true n q es h r = rises_after (entry_at n q) es h r
  rises_more false n q es h r = r

  rises_filter : (n : ℕ) (ps : List Property) → Rises (filter p (entries_from n ps))
  rises_filter n [] = rises_none
  rises_filter n (q ∷ ps) = rises_more (p (entry_at n q)) n q (filter p (entries_from (n + 1) ps)) (from_entries (n + 1) ps) (rises_filter (n + 1) ps)

  keyed_more : (b : Bool) (n : ℕ) (q : Property) (es : List Entry) → q.key ≢ [] → All (λ (e : Entry). e.key ≢ []) es → All (λ (e : Entry). e.key ≢ []) (cond b (entry_at n q ∷ es) es)
  keyed_more true n q es k h = All-cons (λ (e : Entry). e.key ≢ []) (entry_at n q) es k h
  keyed_more false n q es k h = h

  keyed_filter : (n : ℕ) (ps : List Property) → All Keyed ps → All (λ (e : Entry). e.key ≢ []) (filter p (entries_from n ps))
  keyed_filter n [] h = no_item (λ (e : Entry). e.key ≢ [])
  keyed_filter n (q ∷ ps) h = keyed_more (p (entry_at n q)) n q (filter p (entries_from (n + 1) ps)) (h 0 q (omega arith)) (keyed_filter (n + 1) ps (λ j x m. h (suc j) x (omega arith)))

-- each order is the place
order_at : (n : ℕ) (ps : List Property) (k : ℕ) (d : Entry) → k < length (entries_from n ps) → (get_or (entries_from n ps) k d).order ≡ n + k
order_at n [] k d h = absurd (omega arith)
order_at n (p ∷ ps) zero d h = omega arith
order_at n (p ∷ ps) (suc k) d h =
    let next : (get_or (entries_from (n + 1) ps) k d).order ≡ n + 1 + k = order_at (n + 1) ps k d (omega arith) in
    omega arith

keyed_entries : (n : ℕ) (ps : List Property) → All Keyed ps → All (λ (e : Entry). e.key ≢ []) (entries_from n ps)
keyed_entries n [] h = no_item (λ (e : Entry). e.key ≢ [])
keyed_entries n (p ∷ ps) h =
    All-cons (λ (e : Entry). e.key ≢ []) (entry_at n p) (entries_from (n + 1) ps) (h 0 p (omega arith)) (keyed_entries (n + 1) ps (λ j q m. h (suc j) q (omega arith)))

rising_entries : (files : List SourceFile) → Rising (entries_from 0 (properties_of files))
rising_entries files = record {
  orders = λ k d h. omega (arith, order_at 0 (properties_of files) k d (omega arith), order_at 0 (properties_of files) (k + 1) d (omega arith));
  keys = keyed_entries 0 (properties_of files) (keyed_files files);
}

pub rising_counting : (w : Option (List ℕ)) (files : List SourceFile) → Rising (counting w (entries_of files))
rising_counting None files = rising_entries files
rising_counting (Some modalias) files = record {
  orders = rises_filter (λ (e : Entry). fits e.pattern modalias) 0 (properties_of files);
  keys = keyed_filter (λ (e : Entry). fits e.pattern modalias) 0 (properties_of files) (keyed_files files);
}
