-- What is read of texts, one after another.
use Rattle.std.proofs.Common.{◌%◌, ◌≡◌, ◌≢◌, ℕ, ◌+◌, ◌-◌, ◌^◌, ◌<◌, ◌≤◌, ◌==◌, Bool, true, false, cond, nat_le, nat_lt, List, [], ◌∷◌, ◌++◌, Option, Some, None, codes, decimal, length, map, flat_map, refl, sym, ◌∙◌, ap, subst, append_assoc, length-append, arith, ne_eqb}
use Rattle.std.specs.List.{AllByRecursion}
use Rattle.std.specs.Option.{option_to_list}
use Rattle.std.proofs.lemmas.Bool.Decides.{nat_tests}
use Rattle.std.proofs.lemmas.Fmt.{decimal_by_steps, length-decimal-le}
use Rattle.std.proofs.lemmas.List.{append-nil}
use Rattle.text_bytes.specs.Names.{carriage_return, newline}
use Rattle.lsp_server.specs.Framed.{framed, header_end, header_of}
use Rattle.lsp_server.specs.Headers.{content_length, is_ended}
use Rattle.lsp_server.specs.Held.{Held, start}
use Rattle.lsp_server.specs.Held.Held.{Header, Content, Passing}
use Rattle.lsp_server.specs.Items.{Taken, completes, content_taken, headed, header_taken, held_after, holds, items, items_after, most_content, most_header, passed, taken}
use Rattle.lsp_server.specs.FrameLaws.{HasNoNewline, HoldsLittle}
use Rattle.lsp_server.specs.declared.frames.Item.{Item}
use Rattle.lsp_server.specs.declared.frames.Item.TheVariants as item
use Rattle.lsp_server.proofs.HeaderEnds.{ended, goes_on, goes_on_line, twice}
use Rattle.lsp_server.proofs.HeaderLemmas.{gives, header_none}

pub held_both : (held : Held) (first second : List ℕ) → held_after held (first ++ second) ≡ held_after (held_after held first) second
held_both held [] second = refl
held_both held (byte ∷ first) second = held_both (taken held byte).held first second

pub items_both : (held : Held) (first second : List ℕ) → items_after held (first ++ second) ≡ items_after held first ++ items_after (held_after held first) second
items_both held [] second = refl
items_both held (byte ∷ first) second =
    ap (λ more. option_to_list (taken held byte).item ++ more) (items_both (taken held byte).held first second)
    ∙ sym (append_assoc (option_to_list (taken held byte).item) (items_after (taken held byte).held first) (items_after (held_after (taken held byte).held first) second))

-- What is held after a text, and the items that it completes.
pub record Reads (held : Held) (text : List ℕ) (now : Held) (found : List Item) : Type 0 where
  pub held_is : held_after held text ≡ now
  pub items_are : items_after held text ≡ found

reads-none : (held : Held) → Reads held [] held []
reads-none held = record { held_is = refl; items_are = refl }

reads-byte : (held : Held) (byte : ℕ) (now : Taken) → taken held byte ≡ now → Reads held (byte ∷ []) now.held (option_to_list now.item)
reads-byte held byte now e = record {
  held_is = ap (λ t. t.held) e;
  items_are = ap (λ t. option_to_list t.item ++ []) e ∙ append-nil (option_to_list now.item);
}

pub reads-after : (held middle now : Held) (first second : List ℕ) (found more : List Item) → Reads held first middle found → Reads middle second now more → Reads held (first ++ second) now (found ++ more)
reads-after held middle now first second found more a b = record {
  held_is = held_both held first second ∙ ap (λ h. held_after h second) a.held_is ∙ b.held_is;
  items_are = items_both held first second ∙ ap (λ is. is ++ items_after (held_after held first) second) a.items_are
      ∙ ap (λ h. found ++ items_after h second) a.held_is ∙ ap (λ is. found ++ is) b.items_are;
}

-- ---- header parts

below_false : (a b : ℕ) → b < a → nat_le a b ≡ false
below_false a b h = grind (arith, nat_tests)

-- a byte after which a header part goes on
header_more : (header : List ℕ) → is_ended header ≡ false → length header < most_header → header_taken header ≡ holds (Header header)
header_more header e short =
    ap (λ v. cond v (headed (content_length header)) (cond (nat_le most_header (length header)) (completes item.NoFrame) (holds (Header header)))) e
    ∙ ap (λ v. cond v (completes item.NoFrame) (holds (Header header))) (below_false most_header (length header) short)

-- bytes without a newline
header_text : (header text : List ℕ) → HasNoNewline text → length header + length text < most_header → Reads (Header header) text (Header (header ++ text)) []
header_text header [] n short = subst (λ h. Reads (Header header) [] (Header h) []) (sym (append-nil header)) (reads-none (Header header))
header_text header (byte ∷ text) n short =
    let more : length (header ++ byte ∷ []) ≡ length header + 1 = length-append header (byte ∷ []) in
    let first = reads-byte (Header header) byte (holds (Header (header ++ byte ∷ []))) (header_more (header ++ byte ∷ []) (goes_on header byte n.0) (omega (arith, more, short))) in
    let others = header_text (header ++ byte ∷ []) text n.1 (omega (arith, more, short)) in
    let both = reads-after (Header header) (Header (header ++ byte ∷ [])) (Header ((header ++ byte ∷ []) ++ text)) (byte ∷ []) text [] [] first others in
    subst (λ h. Reads (Header header) (byte ∷ text) (Header h) []) (append_assoc header (byte ∷ []) text) both

header_whole : (header : List ℕ) → header_taken (header ++ header_end) ≡ headed (content_length (header ++ header_end))
header_whole header =
    let whole = header ++ header_end in
    ap (λ v. cond v (headed (content_length whole)) (cond (nat_le most_header (length whole)) (completes item.NoFrame) (holds (Header whole)))) (ended header)

not_newline : carriage_return ≢ newline
not_newline e = omega (arith, e)

-- the end of a header part
header_ends : (before : List ℕ) (last : ℕ) → last ≢ newline → length before + 5 < most_header → Reads (Header (before ++ last ∷ [])) header_end (headed (content_length ((before ++ last ∷ []) ++ header_end))).held (option_to_list (headed (content_length ((before ++ last ∷ []) ++ header_end))).item)
header_ends before last other short =
    let header = before ++ last ∷ [] in
    let one = header ++ carriage_return ∷ [] in
    let two = one ++ newline ∷ [] in
    let three = two ++ carriage_return ∷ [] in
    let end = headed (content_length (header ++ header_end)) in
    let long : length header ≡ length before + 1 = length-append before (last ∷ []) in
    let one_long : length one ≡ length header + 1 = length-append header (carriage_return ∷ []) in
    let two_long : length two ≡ length one + 1 = length-append one (newline ∷ []) in
    let fourth = reads-byte (Header three) newline end (ap header_taken (sym (twice header)) ∙ header_whole header) in
    let third = header_text two (carriage_return ∷ []) (not_newline, tt) (omega (arith, long, one_long, two_long, short)) in
    let second = reads-byte (Header one) newline (holds (Header two)) (header_more two (goes_on_line before last other) (omega (arith, long, one_long, two_long, short))) in
    let first = header_text header (carriage_return ∷ []) (not_newline, tt) (omega (arith, long, short)) in
    let after_two = reads-after (Header two) (Header three) end.held (carriage_return ∷ []) (newline ∷ []) [] (option_to_list end.item) third fourth in
    let after_one = reads-after (Header one) (Header two) end.held (newline ∷ []) (carriage_return ∷ newline ∷ []) [] (option_to_list end.item) second after_two in
    reads-after (Header header) (Header one) end.held (carriage_return ∷ []) (newline ∷ carriage_return ∷ newline ∷ []) [] (option_to_list end.item) first after_one

-- a number in digits ends in no newline
decimal_ends : (size : ℕ) → size < 2 ^ 64 → (front : List ℕ) × (last : ℕ) × (decimal size ≡ front ++ last ∷ []) × (last ≢ newline)
decimal_ends size small = decimal_by_steps (λ n ds. (front : List ℕ) × (last : ℕ) × (ds ≡ front ++ last ∷ []) × (last ≢ newline))
    (λ n h. ([], 48 + n, refl, λ e. omega (arith, e))) (λ n ds h p. (ds, 48 + n % 10, refl, λ e. omega (arith, e))) size small

-- our header part, after what stands before it in its line
header_reads : (before : List ℕ) (size : ℕ) → HasNoNewline before → length before ≤ 4000 → size < 2 ^ 32 → Reads start (before ++ header_of size) (headed (Some size)).held (option_to_list (headed (Some size)).item)
header_reads before size n few below =
    let small : size < 2 ^ 64 = omega (arith, below) in
    let digits : length (decimal size) ≤ 20 = length-decimal-le 20 size (omega arith) (omega (arith, below)) small in
    let named = codes "Content-Length: " ++ decimal size in
    let header = before ++ named in
    let long : length header ≡ length before + length named = length-append before named in
    let named_long : length named ≡ 16 + length (decimal size) = length-append (codes "Content-Length: ") (decimal size) in
    let d = decimal_ends size small in
    let front = before ++ (codes "Content-Length: " ++ d.0) in
    let front_is : header ≡ front ++ d.1 ∷ [] = ap (λ ds. before ++ (codes "Content-Length: " ++ ds)) d.2 ∙ sym (append_assoc before (codes "Content-Length: " ++ d.0) (d.1 ∷ [])) in
    let front_long : length header ≡ length front + 1 = ap length front_is ∙ length-append front (d.1 ∷ []) in
    let end = headed (content_length (header ++ header_end)) in
    let first = header_text [] header (header_none before size n small) (omega (arith, long, named_long, digits, few)) in
    let second : Reads (Header header) header_end end.held (option_to_list end.item) =
    subst (λ h. Reads (Header h) header_end (headed (content_length (h ++ header_end))).held (option_to_list (headed (content_length (h ++ header_end))).item)) (sym front_is)
    (header_ends front d.1 d.3 (omega (arith, front_long, long, named_long, digits, few))) in
    let whole : header ++ header_end ≡ before ++ header_of size = append_assoc before named header_end in
    let both = reads-after start (Header header) end.held header header_end [] (option_to_list end.item) first second in
    let length_is : content_length (header ++ header_end) ≡ Some size = ap content_length whole ∙ gives before size n below in
    subst (λ found. Reads start (before ++ header_of size) (headed found).held (option_to_list (headed found).item)) length_is
    (subst (λ text. Reads start text end.held (option_to_list end.item)) whole both)

-- ---- contents

content_more : (missing : ℕ) (content : List ℕ) → 1 < missing → content_taken missing content ≡ holds (Content (missing - 1) content)
content_more missing content more = ap (λ v. cond v (completes (item.Content content)) (holds (Content (missing - 1) content))) (below_false missing 1 more)

-- all that was missing
content_reads : (missing : ℕ) (content text : List ℕ) → length text ≡ missing → 0 < missing → Reads (Content missing content) text start (item.Content (content ++ text) ∷ [])
content_reads missing content [] e some = absurd (omega (arith, e, some))
content_reads missing content (byte ∷ []) e some = rw (← e) (reads-byte (Content 1 content) byte (completes (item.Content (content ++ byte ∷ []))) refl)
content_reads missing content (byte ∷ next ∷ text) e some =
    let more : 1 < missing = omega (arith, e) in
    let first = reads-byte (Content missing content) byte (holds (Content (missing - 1) (content ++ byte ∷ []))) (content_more missing (content ++ byte ∷ []) more) in
    let others = content_reads (missing - 1) (content ++ byte ∷ []) (next ∷ text) (omega (arith, e)) (omega (arith, more)) in
    let both = reads-after (Content missing content) (Content (missing - 1) (content ++ byte ∷ [])) start (byte ∷ []) (next ∷ text) [] (item.Content ((content ++ byte ∷ []) ++ (next ∷ text)) ∷ []) first others in
    subst (λ c. Reads (Content missing content) (byte ∷ next ∷ text) start (item.Content c ∷ [])) (append_assoc content (byte ∷ []) (next ∷ text)) both

passed_more : (left : ℕ) → 1 < left → passed left ≡ holds (Passing (left - 1))
passed_more left more = ap (λ v. cond v (holds start) (holds (Passing (left - 1)))) (below_false left 1 more)

-- all that is passed over
passing_reads : (left : ℕ) (text : List ℕ) → length text ≡ left → 0 < left → Reads (Passing left) text start []
passing_reads left [] e some = absurd (omega (arith, e, some))
passing_reads left (byte ∷ []) e some = rw (← e) (reads-byte (Passing 1) byte (holds start) refl)
passing_reads left (byte ∷ next ∷ text) e some =
    let more : 1 < left = omega (arith, e) in
    reads-after (Passing left) (Passing (left - 1)) start (byte ∷ []) (next ∷ text) [] [] (reads-byte (Passing left) byte (holds (Passing (left - 1))) (passed_more left more))
    (passing_reads (left - 1) (next ∷ text) (omega (arith, e)) (omega (arith, more)))

lt_true : (a b : ℕ) → a < b → nat_lt a b ≡ true
lt_true a b h = grind (arith, nat_tests)

lt_false : (a b : ℕ) → b ≤ a → nat_lt a b ≡ false
lt_false a b h = grind (arith, nat_tests)

-- a content that is neither empty nor too long comes
headed_some : (size : ℕ) → 0 < size → size ≤ most_content → headed (Some size) ≡ holds (Content size [])
headed_some size some fits =
    ap (λ v. cond v (record { held = Passing size; item = Some item.TooLong }) (cond (size == 0) (completes (item.Content [])) (holds (Content size [])))) (lt_false most_content size fits)
    ∙ ap (λ v. cond v (completes (item.Content [])) (holds (Content size []))) (ne_eqb size 0 (λ e. omega (arith, some, e)))

headed_long : (size : ℕ) → most_content < size → headed (Some size) ≡ record { held = Passing size; item = Some item.TooLong }
headed_long size long = ap (λ v. cond v (record { held = Passing size; item = Some item.TooLong }) (cond (size == 0) (completes (item.Content [])) (holds (Content size [])))) (lt_true most_content size long)

-- a frame of ours, after what stands before it in its line
pub frame_reads : (before content : List ℕ) → HasNoNewline before → length before ≤ 4000 → length content ≤ most_content → Reads start (before ++ framed content) start (item.Content content ∷ [])
unfolding framed
frame_reads before [] n few fits =
    subst (λ text. Reads start text start (item.Content [] ∷ [])) (ap (λ text. before ++ text) (sym (append-nil (header_of 0)))) (header_reads before 0 n few (omega arith))
frame_reads before (byte ∷ rest) n few fits =
    let content = byte ∷ rest in
    let size = length content in
    let head = header_reads before size n few (omega (arith, fits)) in
    let first : Reads start (before ++ header_of size) (Content size []) [] =
    subst (λ t. Reads start (before ++ header_of size) t.held (option_to_list t.item)) (headed_some size (omega arith) fits) head in
    let both = reads-after start (Content size []) start (before ++ header_of size) content [] (item.Content content ∷ []) first (content_reads size [] content refl (omega arith)) in
    subst (λ text. Reads start text start (item.Content content ∷ [])) (append_assoc before (header_of size) content) both

-- one that is too long
pub long_reads : (content : List ℕ) → most_content < length content → length content < 2 ^ 32 → Reads start (framed content) start (item.TooLong ∷ [])
unfolding framed
long_reads content long below =
    let size = length content in
    let head = header_reads [] size tt (omega arith) below in
    let first : Reads start (header_of size) (Passing size) (item.TooLong ∷ []) =
    subst (λ t. Reads start (header_of size) t.held (option_to_list t.item)) (headed_long size long) head in
    reads-after start (Passing size) start (header_of size) content (item.TooLong ∷ []) [] first (passing_reads size content refl (omega (arith, long)))

-- frames of ours, one after another
pub frames_read : (contents : List (List ℕ)) → AllByRecursion (λ content. length content ≤ most_content) contents → Reads start (flat_map framed contents) start (map item.Content contents)
frames_read [] fit = reads-none start
frames_read (content ∷ contents) fit =
    reads-after start start start (framed content) (flat_map framed contents) (item.Content content ∷ []) (map item.Content contents)
    (frame_reads [] content tt (omega arith) fit.0) (frames_read contents fit.1)

-- what follows is read as it would be alone
pub then_read : (first later : List ℕ) (found : List Item) → Reads start first start found → items (first ++ later) ≡ found ++ items later
then_read first later found r = (reads-after start start (held_after start later) first later found (items later) r (record { held_is = refl; items_are = refl })).items_are

-- ---- what is held

headed_little : (found : Option ℕ) → HoldsLittle (headed found).held
headed_little None = omega arith
headed_little (Some size) = by_long (nat_lt most_content size) refl
  where
    by_none : (v : Bool) → (size == 0) ≡ v → size ≤ most_content → HoldsLittle (cond v (completes (item.Content [])) (holds (Content size []))).held
    by_none true e fits = omega arith
    by_none false e fits = (grind (arith, nat_tests), omega (arith, fits))

    by_long : (v : Bool) → nat_lt most_content size ≡ v → HoldsLittle (cond v (record { held = Passing size; item = Some item.TooLong }) (cond (size == 0) (completes (item.Content [])) (holds (Content size [])))).held
    by_long true e = tt
    by_long false e = by_none (size == 0) refl (grind (arith, nat_tests))

header_little : (header : List ℕ) → HoldsLittle (header_taken header).held
header_little header = by_end (is_ended header) refl
  where
    by_long : (v : Bool) → nat_le most_header (length header) ≡ v → HoldsLittle (cond v (completes item.NoFrame) (holds (Header header))).held
    by_long true e = omega arith
    by_long false e = grind (arith, nat_tests)

    by_end : (v : Bool) → is_ended header ≡ v → HoldsLittle (cond v (headed (content_length header)) (cond (nat_le most_header (length header)) (completes item.NoFrame) (holds (Header header)))).held
    by_end true e = headed_little (content_length header)
    by_end false e = by_long (nat_le most_header (length header)) refl

content_little : (missing : ℕ) (content : List ℕ) → missing + length content ≤ most_content + 1 → HoldsLittle (content_taken missing content).held
content_little missing content fits = by (nat_le missing 1) refl
  where
    by : (v : Bool) → nat_le missing 1 ≡ v → HoldsLittle (cond v (completes (item.Content content)) (holds (Content (missing - 1) content))).held
    by true e = omega arith
    by false e = let more : 1 < missing = grind (arith, nat_tests) in (omega (arith, more), omega (arith, more, fits))

passed_little : (left : ℕ) → HoldsLittle (passed left).held
passed_little left = by (nat_le left 1)
  where
    by : (v : Bool) → HoldsLittle (cond v (holds start) (holds (Passing (left - 1)))).held
    by true = omega arith
    by false = tt

little_more : (held : Held) (byte : ℕ) → HoldsLittle held → HoldsLittle (taken held byte).held
little_more (Header header) byte h = header_little (header ++ byte ∷ [])
little_more (Content missing content) byte h = content_little missing (content ++ byte ∷ []) (omega (arith, h.1, length-append content (byte ∷ [])))
little_more (Passing left) byte h = passed_little left

pub little_after : (held : Held) (text : List ℕ) → HoldsLittle held → HoldsLittle (held_after held text)
little_after held [] h = h
little_after held (byte ∷ text) h = little_after (taken held byte).held text (little_more held byte h)

pub little : (text : List ℕ) → HoldsLittle (held_after start text)
little text = little_after start text (omega arith)
