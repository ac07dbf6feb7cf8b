-- Adding parts to what was found, and to what is held.
use Rattle.std.proofs.Common.{◌≡◌, ℕ, ◌+◌, List, ◌∷◌, [], ◌++◌, length, map, Option, Some, None, Result, Ok, Err, refl, sym, ◌∙◌, ap, subst, arith, append_assoc, append-nil, add_assoc, add-zero, zero-add, length-append}
use Rattle.std.specs.List.{flat_map, sum_by}
use Rattle.std.proofs.lemmas.List.Sums.{sum_by-append, sum_by-cons}
use Rattle.std.proofs.lemmas.List.Elements.{filter-append}
use Rattle.file_messages.specs.declared.message.Message.{Message}
use Rattle.text_core.specs.Fits.{fits}
use Rattle.trie_nodes.specs.declared.Entry.{Entry}
use Rattle.hwdb_core.specs.Properties.{Property}
use Rattle.hwdb_core.specs.Sources.{entries_from, entry_at, text_len}
use Rattle.hwdb_core.specs.Found.{Adds, FailsAt, Found, Held, IsKept, counting, found_in, join, nothing, only_messages, onto}
use Rattle.hwdb_core.specs.declared.fault.HwdbFault.{HwdbFault}
use Rattle.hwdb_core.specs.declared.fault.HwdbFault.TheVariants.{TooMany, Memory}

abbrev pub found_as : List Property → List Message → ℕ → Found
found_as ps ms n = record { properties = ps; messages = ms; match_bytes = n }

pub same_found : (ps qs : List Property) (ms ns : List Message) (a b : ℕ) → ps ≡ qs → ms ≡ ns → a ≡ b → found_as ps ms a ≡ found_as qs ns b
same_found ps qs ms ns a b e f g = ap (λ (x : List Property). found_as x ms a) e ∙ ap (λ (x : List Message). found_as qs x a) f ∙ ap (λ (x : ℕ). found_as qs ns x) g

pub join_assoc : (a b c : Found) → join (join a b) c ≡ join a (join b c)
unfolding join
join_assoc a b c =
    same_found ((a.properties ++ b.properties) ++ c.properties) (a.properties ++ (b.properties ++ c.properties))
    ((a.messages ++ b.messages) ++ c.messages) (a.messages ++ (b.messages ++ c.messages))
    (a.match_bytes + b.match_bytes + c.match_bytes) (a.match_bytes + (b.match_bytes + c.match_bytes))
    (append_assoc a.properties b.properties c.properties) (append_assoc a.messages b.messages c.messages) (add_assoc a.match_bytes b.match_bytes c.match_bytes)

pub join_nothing : (a : Found) → join a nothing ≡ a
unfolding join
join_nothing a =
    same_found (a.properties ++ []) a.properties (a.messages ++ []) a.messages (a.match_bytes + 0) a.match_bytes
    (append-nil a.properties) (append-nil a.messages) (add-zero a.match_bytes)

pub nothing_join : (a : Found) → join nothing a ≡ a
unfolding join
nothing_join a =
    same_found a.properties a.properties a.messages a.messages (0 + a.match_bytes) a.match_bytes
    refl refl (zero-add a.match_bytes)

-- ---- what is held

abbrev pub held_as : Option (List ℕ) → List Entry → ℕ → ℕ → ℕ → List Message → Held
held_as w es c m t ms = record { wanted = w; entries = es; count = c; match_bytes = m; text_bytes = t; messages = ms }

pub same_held : (w : Option (List ℕ)) (es fs : List Entry) (c d m n t u : ℕ) (ms ns : List Message) → es ≡ fs → c ≡ d → m ≡ n → t ≡ u → ms ≡ ns → held_as w es c m t ms ≡ held_as w fs d n u ns
same_held w es fs c d m n t u ms ns e f g h k =
    ap (λ (x : List Entry). held_as w x c m t ms) e ∙ ap (λ (x : ℕ). held_as w fs x m t ms) f ∙ ap (λ (x : ℕ). held_as w fs d x t ms) g
    ∙ ap (λ (x : ℕ). held_as w fs d n x ms) h ∙ ap (λ (x : List Message). held_as w fs d n u x) k

pub counting_append : (w : Option (List ℕ)) (es fs : List Entry) → counting w (es ++ fs) ≡ counting w es ++ counting w fs
counting_append None es fs = refl
counting_append (Some modalias) es fs = filter-append (λ (e : Entry). fits e.pattern modalias) es fs

pub counting_nil : (w : Option (List ℕ)) → counting w [] ≡ []
counting_nil None = refl
counting_nil (Some modalias) = refl

pub entries_append : (n : ℕ) (ps qs : List Property) → entries_from n (ps ++ qs) ≡ entries_from n ps ++ entries_from (n + length ps) qs
entries_append n [] qs = ap (λ (k : ℕ). entries_from k qs) (sym (add-zero n))
entries_append n (p ∷ ps) qs =
    let at : n + 1 + length ps ≡ n + length (p ∷ ps) = omega arith in
    ap (λ (es : List Entry). entry_at n p ∷ es) (entries_append (n + 1) ps qs ∙ ap (λ (k : ℕ). entries_from (n + 1) ps ++ entries_from k qs) at)

pub onto_join : (h : Held) (a b : Found) → onto (onto h a) b ≡ onto h (join a b)
unfolding onto join
onto_join h a b =
    let n : ℕ = h.count in
    let entries : (h.entries ++ counting h.wanted (entries_from n a.properties)) ++ counting h.wanted (entries_from (n + length a.properties) b.properties) ≡ h.entries ++ counting h.wanted (entries_from n (a.properties ++ b.properties)) =
    append_assoc h.entries (counting h.wanted (entries_from n a.properties)) (counting h.wanted (entries_from (n + length a.properties) b.properties))
    ∙ ap (λ (es : List Entry). h.entries ++ es) (sym (counting_append h.wanted (entries_from n a.properties) (entries_from (n + length a.properties) b.properties)) ∙ ap (counting h.wanted) (sym (entries_append n a.properties b.properties))) in
    let len : length (a.properties ++ b.properties) ≡ length a.properties + length b.properties = length-append a.properties b.properties in
    let texts : sum_by text_len (a.properties ++ b.properties) ≡ sum_by text_len a.properties + sum_by text_len b.properties = sum_by-append text_len a.properties b.properties in
    same_held h.wanted _ _ (n + length a.properties + length b.properties) (n + length (a.properties ++ b.properties))
    (h.match_bytes + a.match_bytes + b.match_bytes) (h.match_bytes + (a.match_bytes + b.match_bytes))
    (h.text_bytes + sum_by text_len a.properties + sum_by text_len b.properties) (h.text_bytes + sum_by text_len (a.properties ++ b.properties))
    ((h.messages ++ a.messages) ++ b.messages) (h.messages ++ (a.messages ++ b.messages))
    entries (omega (arith, len)) (add_assoc h.match_bytes a.match_bytes b.match_bytes) (omega (arith, texts)) (append_assoc h.messages a.messages b.messages)

pub onto_nothing : (h : Held) → onto h nothing ≡ h
unfolding onto
onto_nothing h =
    same_held h.wanted (h.entries ++ counting h.wanted []) h.entries (h.count + 0) h.count (h.match_bytes + 0) h.match_bytes (h.text_bytes + 0) h.text_bytes (h.messages ++ []) h.messages
    (ap (λ (es : List Entry). h.entries ++ es) (counting_nil h.wanted) ∙ append-nil h.entries) (add-zero h.count) (add-zero h.match_bytes) (add-zero h.text_bytes) (append-nil h.messages)

-- what is asked for stays
pub onto_wanted : (h : Held) (a : Found) → (onto h a).wanted ≡ h.wanted
unfolding onto
onto_wanted h a = refl

-- what may be held with more may be held without it
pub kept_before : (h : Held) (b : Found) → IsKept (onto h b) → IsKept h
unfolding onto
kept_before h b k = record { entries = omega (arith, k.entries); match_bytes = omega (arith, k.match_bytes); text_bytes = omega (arith, k.text_bytes) }

-- the first of two parts was not added
pub first_failed : (a : Held) (p q : Found) (e : HwdbFault) → FailsAt a p e → FailsAt a (join p q) e
first_failed a p q TooMany h = λ k. h (kept_before (onto a p) q (subst IsKept (sym (onto_join a p q)) k))
first_failed a p q Memory h = tt

-- the first of two parts was added, and the second was not
pub second_failed : (a b : Held) (p q : Found) (e : HwdbFault) → b ≡ onto a p → FailsAt b q e → FailsAt a (join p q) e
second_failed a b p q TooMany e h = λ k. h (subst IsKept (sym (onto_join a p q) ∙ ap (λ (y : Held). onto y q) (sym e)) k)
second_failed a b p q Memory e h = tt

-- both parts were added
pub both_added : (a b c : Held) (p q : Found) → b ≡ onto a p → c ≡ onto b q → c ≡ onto a (join p q)
both_added a b c p q e h = h ∙ ap (λ (y : Held). onto y q) e ∙ onto_join a p q

-- the first of two parts was added, and then the second or it was not
pub second_part : {T : Type 0} (a b c : Held) (p q : Found) (r : Result T HwdbFault) → b ≡ onto a p → Adds b c q r → Adds a c (join p q) r
second_part a b c p q (Ok x) e h = both_added a b c p q e h
second_part a b c p q (Err f) e h = second_failed a b p q f e h

-- a part by another name
pub same_part : {T : Type 0} (a b : Held) (p q : Found) (r : Result T HwdbFault) → p ≡ q → Adds a b p r → Adds a b q r
same_part {T} a b p q r e h = subst (λ (x : Found). Adds {T = T} a b x r) e h

pub same_failed : (a : Held) (p q : Found) (e : HwdbFault) → p ≡ q → FailsAt a p e → FailsAt a q e
same_failed a p q e f h = subst (λ (x : Found). FailsAt a x e) f h

-- a fault is passed on
pub returned : {T : Type 0} (a b : Held) (p : Found) (r : Result T HwdbFault) (y e : HwdbFault) → r ≡ Err y → y ≡ e → FailsAt a p e → Adds a b p r
returned {T} a b p r y e f g h = subst (λ (x : Result T HwdbFault). Adds {T = T} a b p x) (sym (f ∙ ap Err g)) h

module _ {X : Type 0} (f : X → Found) where
  -- how far a loop over a list has come
  abbrev pub Proceeds : Held → Held → List X → List X → Type 0
  Proceeds start now xs left = onto now (found_in f left) ≡ onto start (found_in f xs)

  pub proceeds : (start now next : Held) (xs left : List X) (x : X) (more : List X) → Proceeds start now xs left → left ≡ x ∷ more → next ≡ onto now (f x) → Proceeds start next xs more
  unfolding found_in
  proceeds start now next xs left x more h e a =
      ap (λ (y : Held). onto y (found_in f more)) a ∙ onto_join now (f x) (found_in f more) ∙ ap (λ (ys : List X). onto now (found_in f ys)) (sym e) ∙ h

  pub fails : (start now : Held) (xs left : List X) (x : X) (more : List X) (e : HwdbFault) → Proceeds start now xs left → left ≡ x ∷ more → FailsAt now (f x) e → FailsAt start (found_in f xs) e
  unfolding found_in
  fails start now xs left x more TooMany h e a =
      λ k. a (kept_before (onto now (f x)) (found_in f more) (subst IsKept (sym (onto_join now (f x) (found_in f more) ∙ ap (λ (ys : List X). onto now (found_in f ys)) (sym e) ∙ h)) k))
  fails start now xs left x more Memory h e a = tt

  pub ends : (start now : Held) (xs left : List X) → Proceeds start now xs left → length left ≡ 0 → now ≡ onto start (found_in f xs)
  unfolding found_in
  ends start now xs [] h e = sym (onto_nothing now) ∙ h
  ends start now xs (x ∷ more) h e = absurd (omega arith)

  -- what is found in a list up to its last, and in that
  pub found_in_last : (xs : List X) (x : X) → join (found_in f xs) (f x) ≡ found_in f (xs ++ x ∷ [])
  unfolding found_in
  found_in_last [] x = nothing_join (f x) ∙ sym (join_nothing (f x))
  found_in_last (y ∷ xs) x = join_assoc (f y) (found_in f xs) (f x) ∙ ap (join (f y)) (found_in_last xs x)

  -- what is found in a list, list by list
  pub found_in_is : (xs : List X) → found_in f xs ≡ found_as (flat_map (λ x. (f x).properties) xs) (flat_map (λ x. (f x).messages) xs) (sum_by (λ x. (f x).match_bytes) xs)
  unfolding found_in join
  found_in_is [] = refl
  found_in_is (x ∷ xs) =
      ap (λ (y : Found). join (f x) y) (found_in_is xs)
      ∙ ap (λ (n : ℕ). found_as ((f x).properties ++ flat_map (λ x. (f x).properties) xs) ((f x).messages ++ flat_map (λ x. (f x).messages) xs) n) (sym (sum_by-cons (λ x. (f x).match_bytes) x xs))

pub found_in_messages : {X : Type 0} (g : X → List Message) (xs : List X) → found_in (λ x. only_messages (g x)) xs ≡ only_messages (flat_map g xs)
unfolding found_in join
found_in_messages g [] = refl
found_in_messages g (x ∷ xs) = ap (λ (y : Found). join (only_messages (g x)) y) (found_in_messages g xs)

pub found_in_properties : {X : Type 0} (g : X → List Property) (xs : List X) → found_in (λ x. found_as (g x) [] 0) xs ≡ found_as (flat_map g xs) [] 0
unfolding found_in join
found_in_properties g [] = refl
found_in_properties g (x ∷ xs) = ap (λ (y : Found). join (found_as (g x) [] 0) y) (found_in_properties g xs)

pub found_in-map : {X Y : Type 0} (f : Y → Found) (g : X → Y) (xs : List X) → found_in f (map g xs) ≡ found_in (λ x. f (g x)) xs
unfolding found_in
found_in-map f g [] = refl
found_in-map f g (x ∷ xs) = ap (λ (y : Found). join (f (g x)) y) (found_in-map f g xs)
