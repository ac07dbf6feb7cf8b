-- A room, filled a run at a time.
use Rattle.std.proofs.Common.{◌≡◌, ◌≢◌, ℕ, ◌+◌, ◌-◌, ◌<◌, ◌≤◌, ◌==◌, ◌&&◌, Bool, true, false, List, [], ◌∷◌, ◌++◌, length, take, drop, get_or, append_assoc, ap, sym, ◌∙◌, arith, add-zero, drop-drop}
use Rattle.std.proofs.lemmas.List.{append-nil, get_or-drop, take_more}
use Rattle.std.proofs.Math.Seq.{take-add}
use Rattle.std.proofs.lemmas.Grind.{common_steps}
use Rattle.device_core.specs.Runs.{complete_runs, rest_of}
use Rattle.device_core.specs.Filling.{first_run, taken, Completes, Overflows}
use Rattle.device_core.specs.Holding.{begins_after, IsPending}
use Rattle.device_core.proofs.Law.{rest_of-alone, piece_ends, not_empty-one}
use Rattle.device_core.proofs.Chunks.{Proceeds, chunk_stays, run_proceeds, take_chunk, begins_after-chunk}

-- after i bytes of the piece, these bytes are to be held
pub record Filling (before piece : List ℕ) (i : ℕ) (held : List ℕ) (start : Bool) : Type 0 where
  pub inside : i ≤ length piece
  pub begins : start ≡ begins_after true held
  pub none : complete_runs (before ++ take i piece) ≡ []
  pub rest : rest_of (before ++ take i piece) ≡ held

-- an empty line while nothing is held
pub skips : {before piece : List ℕ} {i : ℕ} {held : List ℕ} {start : Bool} → Filling before piece i held start → i < length piece → held ≡ [] → (start && (get_or piece i 0 == 10)) ≡ true → Filling before piece (i + 1) held start
skips {before} {piece} {i} {held} {start} f h z e =
    let p = piece_ends before piece i held start h f.rest f.begins e f.none in
    record { inside = omega arith; begins = f.begins; none = rw z at p.0; rest = p.1 ∙ sym z }

-- the run is complete
pub ends : {before piece : List ℕ} {i : ℕ} {held : List ℕ} {start : Bool} → Filling before piece i held start → i < length piece → length held ≢ 0 → (start && (get_or piece i 0 == 10)) ≡ true → Completes before piece (i + 1) held
ends {before} {piece} {i} {held} {start} f h some e =
    let p = piece_ends before piece i held start h f.rest f.begins e f.none in
    record { has_byte = omega (arith, some); run = p.0 ∙ not_empty-one held some; rest = p.1; moves = omega arith }

-- the bytes of a run that does not begin with an empty line
proceeds : (start : Bool) (piece : List ℕ) (i n : ℕ) → (start && (get_or piece i 0 == 10)) ≡ false → n ≤ length (first_run (drop i piece)) → Proceeds start (take n (drop i piece))
proceeds start piece i n e l =
    let first : get_or (drop i piece) 0 0 ≡ get_or piece i 0 = get_or-drop i piece 0 0 ∙ ap (λ k. get_or piece k 0) (add-zero i) in
    run_proceeds start (drop i piece) n l (ap (λ b. start && (b == 10)) first ∙ e)

pub stays : {before piece : List ℕ} {i : ℕ} {held : List ℕ} {start : Bool} (n : ℕ) → Filling before piece i held start → (start && (get_or piece i 0 == 10)) ≡ false → n ≤ length (first_run (drop i piece))
    → (complete_runs (before ++ take (i + n) piece) ≡ []) × (rest_of (before ++ take (i + n) piece) ≡ held ++ take n (drop i piece))
stays {before} {piece} {i} {held} {start} n f e l =
    let p = chunk_stays (before ++ take i piece) held (take n (drop i piece)) start f.rest f.begins (proceeds start piece i n e l) in
    (ap complete_runs (take_chunk before piece i n) ∙ p.0 ∙ f.none, ap rest_of (take_chunk before piece i n) ∙ p.1)

-- a run, or what the piece has of it, goes on after what is held
pub puts : {before piece : List ℕ} {i : ℕ} {held : List ℕ} {start : Bool} (n : ℕ) (now : List ℕ) → Filling before piece i held start → (start && (get_or piece i 0 == 10)) ≡ false
    → 0 < n → n ≤ length (first_run (drop i piece)) → i + n ≤ length piece → now ≡ held ++ take n (drop i piece)
    → Filling before piece (i + n) now (get_or piece (i + n - 1) 0 == 10)
puts {before} {piece} {i} {held} {start} n now f e some l inside is =
    let p = stays n f e l in
    record {
      inside = inside;
      begins = sym (ap (begins_after true) is ∙ begins_after-chunk held piece i n some inside);
      none = p.0;
      rest = p.1 ∙ sym is;
    }

-- the run is longer than the room
pub overflows : {before piece : List ℕ} {i : ℕ} {held : List ℕ} {start : Bool} (n room : ℕ) (now : List ℕ) → Filling before piece i held start → (start && (get_or piece i 0 == 10)) ≡ false
    → n + 1 ≤ length (first_run (drop i piece)) → i + n < length piece → now ≡ held ++ take n (drop i piece) → length now ≡ room
    → Overflows before piece (i + n) now room
overflows {before} {piece} {i} {held} {start} n room now f e l inside is full =
    let q = stays (n + 1) f e l in
    let next : i + (n + 1) ≡ i + n + 1 = omega arith in
    let here : n < length (drop i piece) = grind (arith, common_steps) in
    record {
      within = inside;
      full = full;
      byte = get_or (drop i piece) n 0;
      none = ap (λ k. complete_runs (before ++ take k piece)) (sym next) ∙ q.0;
      rest = ap (λ k. rest_of (before ++ take k piece)) (sym next) ∙ q.1
          ∙ ap (λ l. held ++ l) (take_more (drop i piece) n 0 here)
          ∙ sym (append_assoc held (take n (drop i piece)) (get_or (drop i piece) n 0 ∷ []))
          ∙ ap (λ l. l ++ get_or (drop i piece) n 0 ∷ []) (sym is);
    }

-- before anything of a piece is used
pub none_used : (before piece : List ℕ) (start : Bool) → IsPending before start → Filling before piece 0 (before ++ taken piece 0 0) start
none_used before piece start pending =
    let held : before ++ taken piece 0 0 ≡ before = append-nil before in
    record {
      inside = omega arith;
      begins = pending.begins ∙ ap (begins_after true) (sym held);
      none = ap complete_runs (append-nil before) ∙ pending.none;
      rest = ap rest_of (append-nil before) ∙ pending.rest ∙ sym held;
    }

-- how many bytes there are from a place up to another
pub taken_size : (piece : List ℕ) (start end : ℕ) → start ≤ end → end ≤ length piece → length (taken piece start end) ≡ end - start
taken_size piece start end after inside = grind (arith, common_steps)

-- more bytes from the same place on
pub taken_more : (piece : List ℕ) (start end n : ℕ) → start ≤ end → taken piece start (end + n) ≡ taken piece start end ++ take n (drop end piece)
taken_more piece start end n after =
    let size : end + n - start ≡ end - start + n = omega arith in
    let place : start + (end - start) ≡ end = omega arith in
    ap (λ k. take k (drop start piece)) size ∙ take-add (end - start) n (drop start piece)
    ∙ ap (λ l. taken piece start end ++ take n l) (drop-drop (end - start) start piece ∙ ap (λ k. drop k piece) place)

-- nothing is held if nothing was pending, and nothing is taken
pub nothing_held : (before piece : List ℕ) (start end : ℕ) → length before + (end - start) ≡ 0 → before ++ taken piece start end ≡ []
nothing_held [] piece start end h = let none : end - start ≡ 0 = omega (arith, h) in ap (λ k. take k (drop start piece)) none
nothing_held (b ∷ before) piece start end h = absurd (omega (arith, h))

-- what a text holds of a run that is not complete
pub held_is_pending : (text held : List ℕ) (begins : Bool) → rest_of text ≡ held → begins ≡ begins_after true held → IsPending held begins
held_is_pending text held begins e b = let p = rest_of-alone text in record { none = rw e at p.0; rest = rw e at p.1; begins = b }
