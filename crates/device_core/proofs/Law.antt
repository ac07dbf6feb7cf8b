-- The sections of a text byte by byte, and how those of two texts join.
use Rattle.std.specs.Prelude.{◌≡◌, ◌≢◌, ◌+◌, ◌<◌, take, length, ℕ, ◌==◌, ◌&&◌, Bool, true, false, List, [], ◌∷◌, ◌++◌, refl}
use Rattle.std.proofs.Common.{append_assoc, get_or, ap, sym, ◌∙◌, subst}
use Rattle.std.proofs.lemmas.List.{append-nil, take_more}
use Rattle.std.specs.List.{onto_first}
use Rattle.device_core.specs.Runs.{lines_inclusive, Sections, sections_of, next_line, onto_first_section, not_empty, complete_runs, rest_of, runs}
use Rattle.device_core.specs.Holding.{begins_after}

-- the sections byte by byte, from a place where a line begins or not
abbrev pub sections_from : Bool → List ℕ → Sections
sections_from start [] = record { followed = []; rest = [] }
sections_from start (byte ∷ text) = next_line (start && (byte == 10)) (byte ∷ []) (sections_from (byte == 10) text)

-- the sections of lines of which the first is not empty, whatever it holds
abbrev pub open_sections : List (List ℕ) → Sections
open_sections [] = record { followed = []; rest = [] }
open_sections (line ∷ lines) = next_line false line (sections_of lines)

onto_first_section-append : (first second : List ℕ) (sections : List (List ℕ)) (rest : List ℕ)
    → next_line false first (onto_first_section second sections rest) ≡ onto_first_section (first ++ second) sections rest
onto_first_section-append first second [] rest = ap (λ l. record { followed = []; rest = l }) (sym (append_assoc first second rest))
onto_first_section-append first second (section ∷ sections) rest = ap (λ l. record { followed = l ∷ sections; rest = rest }) (sym (append_assoc first second section))

byte_onto : (byte : ℕ) (lines : List (List ℕ)) → (byte == 10) ≡ false → sections_of (onto_first byte lines) ≡ next_line false (byte ∷ []) (open_sections lines)
byte_onto byte [] e = rw e refl
byte_onto byte ([] ∷ lines) e = rw e (sym (onto_first_section-append (byte ∷ []) [] (sections_of lines).followed (sections_of lines).rest))
byte_onto byte ((more ∷ line) ∷ lines) e = sym (onto_first_section-append (byte ∷ []) (more ∷ line) (sections_of lines).followed (sections_of lines).rest)

byte_onto_open : (byte : ℕ) (lines : List (List ℕ)) → open_sections (onto_first byte lines) ≡ next_line false (byte ∷ []) (open_sections lines)
byte_onto_open byte [] = refl
byte_onto_open byte (line ∷ lines) = sym (onto_first_section-append (byte ∷ []) line (sections_of lines).followed (sections_of lines).rest)

-- one byte more in front
step_at_start : (newline : Bool) (byte : ℕ) (text : List ℕ) → (byte == 10) ≡ newline
    → sections_of (lines_inclusive text) ≡ sections_from true text → open_sections (lines_inclusive text) ≡ sections_from false text
    → sections_of (lines_inclusive (byte ∷ text)) ≡ next_line (true && newline) (byte ∷ []) (sections_from newline text)
step_at_start true byte text e at_start inside = rw (e, e) (ap (next_line true (byte ∷ [])) at_start)
step_at_start false byte text e at_start inside = rw e (byte_onto byte (lines_inclusive text) e ∙ ap (next_line false (byte ∷ [])) inside)

step_inside : (newline : Bool) (byte : ℕ) (text : List ℕ) → (byte == 10) ≡ newline
    → sections_of (lines_inclusive text) ≡ sections_from true text → open_sections (lines_inclusive text) ≡ sections_from false text
    → open_sections (lines_inclusive (byte ∷ text)) ≡ next_line false (byte ∷ []) (sections_from newline text)
step_inside true byte text e at_start inside = rw e (ap (next_line false (byte ∷ [])) at_start)
step_inside false byte text e at_start inside = rw e (byte_onto_open byte (lines_inclusive text) ∙ ap (next_line false (byte ∷ [])) inside)

-- the sections byte by byte are those of the lines
sections_are : (text : List ℕ) → (sections_of (lines_inclusive text) ≡ sections_from true text) × (open_sections (lines_inclusive text) ≡ sections_from false text)
sections_are [] = (refl, refl)
sections_are (byte ∷ text) = let h = sections_are text in (
  step_at_start (byte == 10) byte text refl h.0 h.1,
  step_inside (byte == 10) byte text refl h.0 h.1,
)

-- the second text's sections after the first's
abbrev pub joined : Sections → Sections → Sections
joined first second = let both = onto_first_section first.rest second.followed second.rest in record { followed = first.followed ++ both.followed; rest = both.rest }

joined-onto : (byte : ℕ) (sections : List (List ℕ)) (rest : List ℕ) (seconds : List (List ℕ)) (last : List ℕ)
    → joined (onto_first_section (byte ∷ []) sections rest) (record { followed = seconds; rest = last })
    ≡ next_line false (byte ∷ []) (joined (record { followed = sections; rest = rest }) (record { followed = seconds; rest = last }))
joined-onto byte [] rest [] last = refl
joined-onto byte [] rest (second ∷ seconds) last = refl
joined-onto byte (section ∷ sections) rest seconds last = refl

joined-next : (empty : Bool) (byte : ℕ) (first second : Sections)
    → joined (next_line empty (byte ∷ []) first) second ≡ next_line empty (byte ∷ []) (joined first second)
joined-next true byte first second = refl
joined-next false byte first second = joined-onto byte first.followed first.rest second.followed second.rest

onto_first_section-nil : (sections : List (List ℕ)) (rest : List ℕ) → onto_first_section [] sections rest ≡ record { followed = sections; rest = rest }
onto_first_section-nil [] rest = refl
onto_first_section-nil (section ∷ sections) rest = refl

-- the sections of two texts joined
sections_from-append : (start : Bool) (s t : List ℕ) → sections_from start (s ++ t) ≡ joined (sections_from start s) (sections_from (begins_after start s) t)
sections_from-append start [] t = sym (onto_first_section-nil (sections_from start t).followed (sections_from start t).rest)
sections_from-append start (byte ∷ s) t =
    ap (next_line (start && (byte == 10)) (byte ∷ [])) (sections_from-append (byte == 10) s t)
    ∙ sym (joined-next (start && (byte == 10)) byte (sections_from (byte == 10) s) (sections_from (begins_after (byte == 10) s) t))

-- Nothing is cut off the text, or its rest begins where a line does.
pub data RestBegins (start : Bool) (text : List ℕ) (sections : Sections) : Type 0 where
  whole : sections ≡ record { followed = []; rest = text } → RestBegins start text sections
  later : (first : List ℕ) (others : List (List ℕ)) (rest : List ℕ) → sections ≡ record { followed = first ∷ others; rest = rest }
      → sections_from true rest ≡ record { followed = []; rest = rest } → begins_after true rest ≡ begins_after start text → RestBegins start text sections

rest_begins_step : (start newline : Bool) (byte : ℕ) (text : List ℕ) → RestBegins newline text (sections_from newline text)
    → begins_after start (byte ∷ text) ≡ begins_after newline text
    → RestBegins start (byte ∷ text) (next_line (start && newline) (byte ∷ []) (sections_from newline text))
rest_begins_step true true byte text (whole e) same = later [] [] text (ap (next_line true (byte ∷ [])) e) e (sym same)
rest_begins_step true true byte text (later first others rest e alone begins) same = later [] (first ∷ others) rest (ap (next_line true (byte ∷ [])) e) alone (begins ∙ sym same)
rest_begins_step true false byte text (whole e) same = whole (ap (next_line false (byte ∷ [])) e)
rest_begins_step true false byte text (later first others rest e alone begins) same = later (byte ∷ first) others rest (ap (next_line false (byte ∷ [])) e) alone (begins ∙ sym same)
rest_begins_step false newline byte text (whole e) same = whole (ap (next_line false (byte ∷ [])) e)
rest_begins_step false newline byte text (later first others rest e alone begins) same = later (byte ∷ first) others rest (ap (next_line false (byte ∷ [])) e) alone (begins ∙ sym same)

rest_begins : (start : Bool) (text : List ℕ) → RestBegins start text (sections_from start text)
rest_begins start [] = whole refl
rest_begins start (byte ∷ text) = rest_begins_step start (byte == 10) byte text (rest_begins (byte == 10) text) refl

-- what holds of the rest of a text that begins a line
pub record IsOpen (start : Bool) (rest : List ℕ) : Type 0 where
  pub alone : sections_from true rest ≡ record { followed = []; rest = rest }
  pub begins : begins_after true rest ≡ start

rest_is_open : (text : List ℕ) (sections : Sections) → sections ≡ sections_from true text → RestBegins true text sections → IsOpen (begins_after true text) sections.rest
rest_is_open text sections is (whole e) = rw e (record { alone = sym is ∙ e; begins = refl })
rest_is_open text sections is (later first others rest e o b) = rw e (record { alone = o; begins = b })

pub rest_of-open : (text : List ℕ) → IsOpen (begins_after true text) (rest_of text)
rest_of-open text = rest_is_open text (sections_of (lines_inclusive text)) (sections_are text).0 (subst (RestBegins true text) (sym (sections_are text).0) (rest_begins true text))

-- no run is complete in the rest, and it is its own rest
pub rest_of-alone : (text : List ℕ) → (complete_runs (rest_of text) ≡ []) × (rest_of (rest_of text) ≡ rest_of text)
rest_of-alone text = let p = (sections_are (rest_of text)).0 ∙ (rest_of-open text).alone in (ap (λ q. not_empty q.followed) p, ap (λ q. q.rest) p)

not_empty-append : (first second : List (List ℕ)) → not_empty (first ++ second) ≡ not_empty first ++ not_empty second
not_empty-append [] second = refl
not_empty-append ([] ∷ first) second = not_empty-append first second
not_empty-append ((byte ∷ text) ∷ first) second = ap (λ l. (byte ∷ text) ∷ l) (not_empty-append first second)

-- the sections of a longer text are the first's, and those of its rest with what follows
sections-append : (s t : List ℕ) → sections_of (lines_inclusive (s ++ t)) ≡ (let later = sections_of (lines_inclusive (rest_of s ++ t)) in record { followed = (sections_of (lines_inclusive s)).followed ++ later.followed; rest = later.rest })
sections-append s t = let o = rest_of-open s in
    rw ((sections_are (s ++ t)).0, (sections_are (rest_of s ++ t)).0, sections_from-append true s t, sections_from-append true (rest_of s) t, o.alone, o.begins, rest_of, (sections_are s).0) refl

-- the complete runs of a longer text
pub complete_runs-append : (s t : List ℕ) → complete_runs (s ++ t) ≡ complete_runs s ++ complete_runs (rest_of s ++ t)
complete_runs-append s t = ap (λ p. not_empty p.followed) (sections-append s t) ∙ not_empty-append (sections_of (lines_inclusive s)).followed (sections_of (lines_inclusive (rest_of s ++ t))).followed

pub rest_of-append : (s t : List ℕ) → rest_of (s ++ t) ≡ rest_of (rest_of s ++ t)
rest_of-append s t = ap (λ p. p.rest) (sections-append s t)

-- one byte after a run that no empty line follows
one_byte : (held : List ℕ) (start empty : Bool) (byte : ℕ) → IsOpen start held → (start && (byte == 10)) ≡ empty
    → sections_of (lines_inclusive (held ++ byte ∷ [])) ≡ joined (record { followed = []; rest = held }) (next_line empty (byte ∷ []) (record { followed = []; rest = [] }))
one_byte held start empty byte o e = rw ((sections_are (held ++ byte ∷ [])).0, sections_from-append true held (byte ∷ []), o.alone, o.begins, e) refl

held_is_open : (text held : List ℕ) (start : Bool) → rest_of text ≡ held → start ≡ begins_after true held → IsOpen start held
held_is_open text held start e b = record { alone = rw e at (rest_of-open text).alone; begins = sym b }

-- the byte goes onto the run
pub byte_stays : (text held : List ℕ) (start : Bool) (byte : ℕ) → rest_of text ≡ held → start ≡ begins_after true held → (start && (byte == 10)) ≡ false
    → (complete_runs (text ++ byte ∷ []) ≡ complete_runs text) × (rest_of (text ++ byte ∷ []) ≡ held ++ byte ∷ [])
byte_stays text held start byte e b f =
    let p = one_byte held start false byte (held_is_open text held start e b) f in (
      complete_runs-append text (byte ∷ []) ∙ ap (λ r. complete_runs text ++ complete_runs (r ++ byte ∷ [])) e ∙ ap (λ q. complete_runs text ++ not_empty q.followed) p ∙ append-nil (complete_runs text),
      rest_of-append text (byte ∷ []) ∙ ap (λ r. rest_of (r ++ byte ∷ [])) e ∙ ap (λ q. q.rest) p,
    )

-- the byte is the newline of an empty line
pub byte_ends : (text held : List ℕ) (start : Bool) (byte : ℕ) → rest_of text ≡ held → start ≡ begins_after true held → (start && (byte == 10)) ≡ true
    → (complete_runs (text ++ byte ∷ []) ≡ complete_runs text ++ not_empty (held ∷ [])) × (rest_of (text ++ byte ∷ []) ≡ [])
byte_ends text held start byte e b f =
    let p = one_byte held start true byte (held_is_open text held start e b) f in (
      complete_runs-append text (byte ∷ []) ∙ ap (λ r. complete_runs text ++ complete_runs (r ++ byte ∷ [])) e ∙ ap (λ q. complete_runs text ++ not_empty q.followed) p ∙ ap (λ r. complete_runs text ++ not_empty (r ∷ [])) (append-nil held),
      rest_of-append text (byte ∷ []) ∙ ap (λ r. rest_of (r ++ byte ∷ [])) e ∙ ap (λ q. q.rest) p,
    )

pub begins_after-push : (start : Bool) (text : List ℕ) (byte : ℕ) → begins_after start (text ++ byte ∷ []) ≡ (byte == 10)
begins_after-push start [] byte = refl
begins_after-push start (first ∷ text) byte = begins_after-push (first == 10) text byte

-- the same at a byte of a piece
more : (before piece : List ℕ) (i : ℕ) → i < length piece → before ++ take (i + 1) piece ≡ (before ++ take i piece) ++ get_or piece i 0 ∷ []
more before piece i h = ap (λ l. before ++ l) (take_more piece i 0 h) ∙ sym (append_assoc before (take i piece) (get_or piece i 0 ∷ []))

pub piece_stays : (before piece : List ℕ) (i : ℕ) (held : List ℕ) (start : Bool) → i < length piece → rest_of (before ++ take i piece) ≡ held → start ≡ begins_after true held
    → (start && (get_or piece i 0 == 10)) ≡ false → complete_runs (before ++ take i piece) ≡ []
    → (complete_runs (before ++ take (i + 1) piece) ≡ []) × (rest_of (before ++ take (i + 1) piece) ≡ held ++ get_or piece i 0 ∷ [])
piece_stays before piece i held start h e b f none =
    let p = byte_stays (before ++ take i piece) held start (get_or piece i 0) e b f in
    rw (more before piece i h) (p.0 ∙ none, p.1)

pub piece_ends : (before piece : List ℕ) (i : ℕ) (held : List ℕ) (start : Bool) → i < length piece → rest_of (before ++ take i piece) ≡ held → start ≡ begins_after true held
    → (start && (get_or piece i 0 == 10)) ≡ true → complete_runs (before ++ take i piece) ≡ []
    → (complete_runs (before ++ take (i + 1) piece) ≡ not_empty (held ∷ [])) × (rest_of (before ++ take (i + 1) piece) ≡ [])
piece_ends before piece i held start h e b f none =
    let p = byte_ends (before ++ take i piece) held start (get_or piece i 0) e b f in
    rw (more before piece i h) (p.0 ∙ ap (λ l. l ++ not_empty (held ∷ [])) none, p.1)

pub not_empty-one : (held : List ℕ) → length held ≢ 0 → not_empty (held ∷ []) ≡ held ∷ []
not_empty-one [] h = absurd (h refl)
not_empty-one (byte ∷ held) h = refl

-- the runs of a longer text
pub runs-append : (s t : List ℕ) → runs (s ++ t) ≡ complete_runs s ++ runs (rest_of s ++ t)
runs-append s t =
    ap (λ l. l ++ not_empty (rest_of (s ++ t) ∷ [])) (complete_runs-append s t)
    ∙ append_assoc (complete_runs s) (complete_runs (rest_of s ++ t)) (not_empty (rest_of (s ++ t) ∷ []))
    ∙ ap (λ r. complete_runs s ++ (complete_runs (rest_of s ++ t) ++ not_empty (r ∷ []))) (rest_of-append s t)

-- the runs are these, and the first begins with a text
pub record BeginsWith (found : List (List ℕ)) (text : List ℕ) : Type 0 where
  pub more : List ℕ
  pub others : List (List ℕ)
  pub is : found ≡ (text ++ more) ∷ others

first_of : (held : List ℕ) (sections : List (List ℕ)) (rest : List ℕ) → held ≢ [] → BeginsWith (not_empty (onto_first_section held sections rest).followed ++ not_empty ((onto_first_section held sections rest).rest ∷ [])) held
first_of [] sections rest h = absurd (h refl)
first_of (byte ∷ held) [] rest h = record { more = rest; others = []; is = refl }
first_of (byte ∷ held) (section ∷ sections) rest h = record { more = section; others = not_empty sections ++ not_empty (rest ∷ []); is = refl }

-- a rest goes on as the first of the runs that follow
pub runs-rest : (s t : List ℕ) → rest_of s ≢ [] → BeginsWith (runs (rest_of s ++ t)) (rest_of s)
runs-rest s t h = let o = rest_of-open s in
    let p : sections_of (lines_inclusive (rest_of s ++ t)) ≡ onto_first_section (rest_of s) (sections_from (begins_after true s) t).followed (sections_from (begins_after true s) t).rest
    = rw ((sections_are (rest_of s ++ t)).0, sections_from-append true (rest_of s) t, o.alone, o.begins) refl in
    subst (λ q. BeginsWith (not_empty q.followed ++ not_empty (q.rest ∷ [])) (rest_of s)) (sym p) (first_of (rest_of s) (sections_from (begins_after true s) t).followed (sections_from (begins_after true s) t).rest h)
