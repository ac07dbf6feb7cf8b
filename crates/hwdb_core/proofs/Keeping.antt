-- What is held, one thing more.
use Rattle.std.proofs.Common.{◌≡◌, ℕ, ◌+◌, ◌-◌, ◌<◌, ◌≤◌, ◌⊎◌, inl, inr, true, false, List, ◌∷◌, [], ◌++◌, Option, Some, None, Result, Ok, Err, refl, sym, ◌∙◌, ap, arith, append-nil, add-zero}
use Rattle.std.specs.List.{sum_by}
use Rattle.file_messages.specs.declared.message.Message.{Message}
use Rattle.trie_nodes.specs.declared.Entry.{Entry}
use Rattle.trie_nodes.specs.Bounds.{max_entries, max_match_bytes, max_text_bytes}
use Rattle.hwdb_core.specs.Properties.{Property}
use Rattle.hwdb_core.specs.Sources.{entry_at, text_len}
use Rattle.hwdb_core.specs.declared.fault.HwdbFault.{HwdbFault}
use Rattle.hwdb_core.specs.declared.fault.HwdbFault.TheVariants.{TooMany, Memory}
use Rattle.std.specs.Prelude.{OnOk, OnErr}
use Rattle.hwdb_core.specs.Found.{Adds, FailsAt, Held, IsKept, counting, counts, one_more, only_messages, onto, with_entry}
use Rattle.hwdb_core.proofs.Joining.{counting_nil, found_as, same_held}

-- a message more
pub reported : (h : Held) (m : Message) → record h { messages = h.messages ++ m ∷ [] } ≡ onto h (only_messages (m ∷ []))
unfolding onto
reported h m =
    same_held h.wanted h.entries (h.entries ++ counting h.wanted []) h.count (h.count + 0) h.match_bytes (h.match_bytes + 0) h.text_bytes (h.text_bytes + 0) (h.messages ++ m ∷ []) (h.messages ++ m ∷ [])
    (sym (append-nil h.entries) ∙ ap (λ (es : List Entry). h.entries ++ es) (sym (counting_nil h.wanted))) (sym (add-zero h.count)) (sym (add-zero h.match_bytes)) (sym (add-zero h.text_bytes)) refl

-- a match more
pub match_counted : (h : Held) (len : ℕ) → record h { match_bytes = h.match_bytes + len } ≡ onto h (found_as [] [] len)
unfolding onto
match_counted h len =
    same_held h.wanted h.entries (h.entries ++ counting h.wanted []) h.count (h.count + 0) (h.match_bytes + len) (h.match_bytes + len) h.text_bytes (h.text_bytes + 0) h.messages (h.messages ++ [])
    (sym (append-nil h.entries) ∙ ap (λ (es : List Entry). h.entries ++ es) (sym (counting_nil h.wanted))) (sym (add-zero h.count)) refl (sym (add-zero h.text_bytes)) (sym (append-nil h.messages))

pub too_many_match_bytes : (h : Held) (len : ℕ) → h.match_bytes ≤ max_match_bytes → max_match_bytes - h.match_bytes < len → IsKept (onto h (found_as [] [] len)) → ⊥
unfolding onto
too_many_match_bytes h len fits over k = omega (arith, k.match_bytes)

-- one more entry, if it counts and if it does not
counted_alone : (w : Option (List ℕ)) (n : ℕ) (p : Property) → counts w p.pattern ≡ true → counting w (entry_at n p ∷ []) ≡ entry_at n p ∷ []
counted_alone None n p e = refl
counted_alone (Some modalias) n p e = rw e refl

skipped : (w : Option (List ℕ)) (n : ℕ) (p : Property) → counts w p.pattern ≡ false → counting w (entry_at n p ∷ []) ≡ []
skipped None n p e = cc
skipped (Some modalias) n p e = rw e refl

sum_alone : (p : Property) → sum_by text_len (p ∷ []) ≡ text_len p
sum_alone p = omega arith

pub entry_added : (h : Held) (p : Property) → counts h.wanted p.pattern ≡ true → with_entry (entry_at h.count p) (one_more (text_len p) h) ≡ onto h (found_as (p ∷ []) [] 0)
unfolding onto
entry_added h p e =
    same_held h.wanted (h.entries ++ entry_at h.count p ∷ []) (h.entries ++ counting h.wanted (entry_at h.count p ∷ [])) (h.count + 1) (h.count + 1) h.match_bytes (h.match_bytes + 0)
    (h.text_bytes + text_len p) (h.text_bytes + sum_by text_len (p ∷ [])) h.messages (h.messages ++ [])
    (ap (λ (es : List Entry). h.entries ++ es) (sym (counted_alone h.wanted h.count p e))) refl (sym (add-zero h.match_bytes)) (ap (λ (n : ℕ). h.text_bytes + n) (sym (sum_alone p))) (sym (append-nil h.messages))

pub entry_skipped : (h : Held) (p : Property) → counts h.wanted p.pattern ≡ false → one_more (text_len p) h ≡ onto h (found_as (p ∷ []) [] 0)
unfolding onto
entry_skipped h p e =
    same_held h.wanted h.entries (h.entries ++ counting h.wanted (entry_at h.count p ∷ [])) (h.count + 1) (h.count + 1) h.match_bytes (h.match_bytes + 0)
    (h.text_bytes + text_len p) (h.text_bytes + sum_by text_len (p ∷ [])) h.messages (h.messages ++ [])
    (sym (append-nil h.entries) ∙ ap (λ (es : List Entry). h.entries ++ es) (sym (skipped h.wanted h.count p e))) refl (sym (add-zero h.match_bytes)) (ap (λ (n : ℕ). h.text_bytes + n) (sym (sum_alone p))) (sym (append-nil h.messages))

pub too_many : (h : Held) (p : Property) (len : ℕ) → len ≡ text_len p → (max_entries ≤ h.count) ⊎ (max_text_bytes < h.text_bytes + len) → IsKept (onto h (found_as (p ∷ []) [] 0)) → ⊥
unfolding onto
too_many h p len e (inl full) k = omega (arith, k.entries)
too_many h p len e (inr over) k = omega (arith, k.text_bytes, sum_alone p)

pub too_many_at : (h : Held) (p : Property) (len : ℕ) (e : HwdbFault) → len ≡ text_len p → (max_entries ≤ h.count) ⊎ (max_text_bytes < h.text_bytes + len) → FailsAt h (found_as (p ∷ []) [] 0) e
too_many_at h p len TooMany e o = too_many h p len e o
too_many_at h p len Memory e o = tt

-- ---- the same, if what was held before has another name

pub reported_as : (h start : Held) (now : List Message) (made m : Message) → made ≡ m → now ≡ h.messages ++ made ∷ [] → h ≡ start → record h { messages = now } ≡ onto start (only_messages (m ∷ []))
reported_as h start now made m e n s =
    ap (λ (ms : List Message). record h { messages = ms }) (n ∙ ap (λ (x : Message). h.messages ++ x ∷ []) e) ∙ reported h m ∙ ap (λ (x : Held). onto x (only_messages (m ∷ []))) s

pub match_counted_as : (h start : Held) (len : ℕ) → h ≡ start → record h { match_bytes = h.match_bytes + len } ≡ onto start (found_as [] [] len)
match_counted_as h start len s = match_counted h len ∙ ap (λ (x : Held). onto x (found_as [] [] len)) s

pub entry_skipped_as : (h mid : Held) (p : Property) (len : ℕ) → len ≡ text_len p → mid ≡ one_more len h → false ≡ counts mid.wanted p.pattern → mid ≡ onto h (found_as (p ∷ []) [] 0)
entry_skipped_as h mid p len l m e =
    m ∙ ap (λ (n : ℕ). one_more n h) l ∙ entry_skipped h p (sym (e ∙ ap (λ (x : Held). counts x.wanted p.pattern) m))

pub entry_added_as : (h mid now : Held) (p : Property) (len : ℕ) (e : Entry) → len ≡ text_len p → mid ≡ one_more len h → true ≡ counts mid.wanted p.pattern
    → e ≡ entry_at h.count p → now ≡ with_entry e mid → now ≡ onto h (found_as (p ∷ []) [] 0)
entry_added_as h mid now p len e l m k i n =
    n ∙ ap (λ (x : Entry). with_entry x mid) i ∙ ap (λ (x : Held). with_entry (entry_at h.count p) x) (m ∙ ap (λ (c : ℕ). one_more c h) l)
    ∙ entry_added h p (sym (k ∙ ap (λ (x : Held). counts x.wanted p.pattern) m))

-- an entry that is counted alone, or was not
pub counted_adds : {T : Type 0} (h now : Held) (p : Property) (len : ℕ) (r : Result T HwdbFault) → len ≡ text_len p → counts h.wanted p.pattern ≡ false
    → OnOk r (now ≡ one_more len h) → OnErr r ((max_entries ≤ h.count) ⊎ (max_text_bytes < h.text_bytes + len)) → Adds h now (found_as (p ∷ []) [] 0) r
counted_adds h now p len (Ok x) l u counted many = counted ∙ ap (λ (n : ℕ). one_more n h) l ∙ entry_skipped h p u
counted_adds h now p len (Err e) l u counted many = too_many_at h p len e l many
