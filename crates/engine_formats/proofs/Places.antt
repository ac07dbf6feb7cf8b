-- The words of messages about a database, in their lines.
use Rattle.std.proofs.Common.{◌≡◌, ℕ, ◌+◌, ◌-◌, ◌^◌, ◌<◌, Bool, true, false, cond, List, [], ◌++◌, drop, length, take, refl, ap, sym, ◌∙◌, arith, append_assoc, length-append}
use Rattle.std.specs.List.{prefix_len, suffix_len}
use Rattle.std.proofs.lemmas.List.{drop_at, take-append-drop, take_at}
use Rattle.text_bytes.specs.Names.{hash, is_blank, is_whitespace}
use Rattle.text_bytes.specs.Texts.{trimmed, unindented, up_to}
use Rattle.file_messages.specs.declared.message.MessageKind.{MessageKind}
use Rattle.engine_formats.specs.Placing.{is_about_property, place_in, reported_text}

-- a text begins another
Begins : List ℕ → List ℕ → Type 0
Begins prefix text = (rest : List ℕ) × (text ≡ prefix ++ rest)

first_begin : (n : ℕ) (text : List ℕ) → Begins (take n text) text
unfolding Begins
first_begin n text = (drop n text, sym (take-append-drop n text))

begin_of_begin : (first second text : List ℕ) → Begins first second → Begins second text → Begins first text
unfolding Begins
begin_of_begin first second text h k =
    (h.0 ++ k.0, k.1 ∙ ap (λ (t : List ℕ). t ++ k.0) h.1 ∙ append_assoc first h.0 k.0)

clean_begins : (source : List ℕ) → Begins (trimmed (up_to hash source)) source
clean_begins source =
    let text : List ℕ = up_to hash source in
    begin_of_begin (trimmed text) text source (first_begin (length text - suffix_len is_whitespace text) text) (first_begin _ source)

-- what comes before the text that is reported
before_reported : (clean : List ℕ) (kind : MessageKind) → (lead : List ℕ) × (clean ≡ lead ++ reported_text clean kind)
before_reported clean kind = by_test (is_about_property kind) where
  by_test : (v : Bool) → (lead : List ℕ) × (clean ≡ lead ++ cond v (unindented clean) clean)
  by_test true = (take (prefix_len is_blank clean) clean, sym (take-append-drop (prefix_len is_blank clean) clean))
  by_test false = ([], refl)

found : (lead word rest : List ℕ) (at len : ℕ) → length lead ≡ at → length word ≡ len → take len (drop at ((lead ++ word) ++ rest)) ≡ word
found lead word rest at len p q =
    ap (λ (t : List ℕ). take len (drop at t)) (append_assoc lead word rest) ∙ ap (take len) (drop_at lead (word ++ rest) at p) ∙ take_at word rest len q

pub word_at : (source : List ℕ) (kind : MessageKind) → length source < 2 ^ 32 - 1
    → (0 < (place_in source kind).column) × ((place_in source kind).end ≡ (place_in source kind).column + length (place_in source kind).word)
    × (take ((place_in source kind).end - (place_in source kind).column) (drop ((place_in source kind).column - 1) source) ≡ (place_in source kind).word)
unfolding Begins
word_at source kind short =
    let clean : List ℕ = trimmed (up_to hash source) in
    let word : List ℕ = reported_text clean kind in
    let following = clean_begins source in
    let lead = before_reported clean kind in
    let whole : length source ≡ length clean + length following.0 = ap length following.1 ∙ length-append clean following.0 in
    let parts : length clean ≡ length lead.0 + length word = ap length lead.1 ∙ length-append lead.0 word in
    let column : ℕ = (place_in source kind).column in
    let end : ℕ = (place_in source kind).end in
    let at : column ≡ length lead.0 + 1 = omega (arith, short, whole, parts) in
    let stop : end ≡ length lead.0 + length word + 1 = omega (arith, short, whole, parts) in (
      omega (arith, at),
      omega (arith, at, stop),
      ap (λ (t : List ℕ). take (end - column) (drop (column - 1) t)) (following.1 ∙ ap (λ (t : List ℕ). t ++ following.0) lead.1)
          ∙ found lead.0 word following.0 (column - 1) (end - column) (omega (arith, at)) (omega (arith, at, stop)),
    )
