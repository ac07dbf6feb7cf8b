-- What is found in all files, as the database has it.
use Rattle.std.proofs.Common.{◌≡◌, ℕ, ◌≤◌, List, ◌∷◌, [], length, Option, refl, sym, ◌∙◌, ap, subst, arith}
use Rattle.std.specs.List.{flat_map, sum_by}
use Rattle.std.proofs.lemmas.List.Sums.{sum_by-cons}
use Rattle.text_bytes.specs.declared.SourceFile.{SourceFile}
use Rattle.trie_nodes.specs.Bounds.{max_name_bytes}
use Rattle.hwdb_core.specs.Properties.{cut_match_bytes, cut_properties}
use Rattle.hwdb_core.specs.Messages.{cut_messages}
use Rattle.hwdb_core.specs.Sources.{WithinBounds, cuts_of, entries_of, match_bytes_of, messages_of, properties_of}
use Rattle.hwdb_core.specs.Found.{FailsAt, Found, Held, IsKept, begun, counting, found_in, join, onto}
use Rattle.hwdb_core.specs.Parts.{cut_found, file_found}
use Rattle.hwdb_core.specs.declared.fault.HwdbFault.{HwdbFault}
use Rattle.hwdb_core.specs.declared.fault.HwdbFault.TheVariants.{TooMany, Memory}
use Rattle.hwdb_core.proofs.Bounds.{HoldFew, few_within, within_few}
use Rattle.hwdb_core.proofs.Joining.{found_as, found_in_is}

pub all_found : (files : List SourceFile) → found_in file_found files ≡ found_as (properties_of files) (messages_of files) (match_bytes_of files)
unfolding found_in join
all_found [] = refl
all_found (f ∷ fs) =
    ap (λ (x : Found). join x (found_in file_found fs)) (found_in_is (cut_found f.name) (cuts_of f))
    ∙ ap (λ (x : Found). join (found_as (flat_map (cut_properties f.name) (cuts_of f)) (flat_map (cut_messages f.name) (cuts_of f)) (sum_by cut_match_bytes (cuts_of f))) x) (all_found fs)
    ∙ ap (λ (n : ℕ). found_as (properties_of (f ∷ fs)) (messages_of (f ∷ fs)) n) (sym (sum_by-cons (λ f. sum_by cut_match_bytes (cuts_of f)) f fs))

-- the result of reading from the start
pub read_all : (w : Option (List ℕ)) (now : Held) (files : List SourceFile) → now ≡ onto (begun w) (found_in file_found files) → now ≡ onto (begun w) (found_as (properties_of files) (messages_of files) (match_bytes_of files))
read_all w now files e = e ∙ ap (onto (begun w)) (all_found files)

pub read_entries : (w : Option (List ℕ)) (now : Held) (files : List SourceFile) → now ≡ onto (begun w) (found_in file_found files) → now.entries ≡ counting w (entries_of files)
unfolding onto
read_entries w now files e = ap (λ (h : Held). h.entries) (read_all w now files e)

pub read_messages : (w : Option (List ℕ)) (now : Held) (files : List SourceFile) → now ≡ onto (begun w) (found_in file_found files) → now.messages ≡ messages_of files
unfolding onto
read_messages w now files e = ap (λ (h : Held). h.messages) (read_all w now files e)

pub within : (w : Option (List ℕ)) (now : Held) (files : List SourceFile) → now ≡ onto (begun w) (found_in file_found files) → IsKept now → sum_by (λ f. length f.name) files ≤ max_name_bytes → WithinBounds files
unfolding onto
within w now files e k n =
    let kept : IsKept (onto (begun w) (found_as (properties_of files) (messages_of files) (match_bytes_of files))) = subst IsKept (read_all w now files e) k in
    few_within files (record { entries = omega (arith, kept.entries); match_bytes = omega (arith, kept.match_bytes); text_bytes = omega (arith, kept.text_bytes); name_bytes = n })

pub beyond : (w : Option (List ℕ)) (files : List SourceFile) → (IsKept (onto (begun w) (found_in file_found files)) → ⊥) → WithinBounds files → ⊥
unfolding onto
beyond w files h within =
    let b : HoldFew files = within_few files within in
    let kept : IsKept (onto (begun w) (found_as (properties_of files) (messages_of files) (match_bytes_of files))) =
    record { entries = omega (arith, b.entries); match_bytes = omega (arith, b.match_bytes); text_bytes = omega (arith, b.text_bytes) } in
    h (subst IsKept (sym (ap (onto (begun w)) (all_found files))) kept)

pub beyond_at : (w : Option (List ℕ)) (start : Held) (files : List SourceFile) (e : HwdbFault) → start ≡ begun w → FailsAt start (found_in file_found files) e → e ≡ TooMany → WithinBounds files → ⊥
beyond_at w start files TooMany s h t b = beyond w files (subst (λ (x : Held). IsKept (onto x (found_in file_found files)) → ⊥) s h) b
beyond_at w start files Memory s h t b = cc
