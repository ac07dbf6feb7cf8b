-- Bytes that are taken one after another, and where that stops.
use Rattle.std.proofs.Common.{◌≡◌, ℕ, ◌+◌, ◌<◌, true, false, is_some, [], ◌∷◌, ◌++◌, Option, Some, None, Result, Ok, Err, OnOk, IfOk, IfErr, length, take, drop, get_or, refl, ap, sym, ◌∙◌, subst, append_assoc}
use Rattle.std.specs.Option.{option_to_list}
use Rattle.std.proofs.lemmas.List.{append-nil, take_more, take-append-drop}
use Rattle.text_bytes.specs.Text.{Text}
use Rattle.engine_sessions.specs.Sinks.{SinkState}
use Rattle.engine_sessions.specs.Serves.{WritesOut}
use Rattle.lsp_server.specs.Held.{Held}
use Rattle.lsp_server.specs.Items.{Taken, items_after, taken}
use Rattle.lsp_server.specs.declared.frames.Item.{Item}
use Rattle.lsp_server.specs.AnyServer.{IsFirstOf, Said, Server, acting, led, moved, reply_to, said_to, unless_exit}
use Rattle.lsp_server.specs.Taking.{ExitsIn, GoesBy, Situation, StopsIn, StopsInReply, TakesBy, said_by, situation}
use Rattle.lsp_server.specs.declared.replying.Exit.{Exit}
use Rattle.lsp_server.specs.declared.sending.SessionFault.{SessionFault}
use Rattle.lsp_server.specs.declared.sending.SessionFault.TheVariants.{Memory}
use Rattle.engine_sessions.proofs.WriteLemmas.{writes-after, writes-none}

pub led-both : (first second : Text) (later : Said) → led first (led second later) ≡ led (first ++ second) later
led-both first second later = ap (λ text. record { text = text; exit = later.exit }) (sym (append_assoc first second later.text))

first_said : (exit : Option Exit) (text : Text) (later : Said) → IsFirstOf text (unless_exit exit text later).text
first_said None text later = (later.text, refl)
first_said (Some exit) text later = ([], sym (append-nil text))

-- the bytes up to one, that one, and those after it
whole : (piece : Text) (at : ℕ) → at < length piece → (take at piece ++ get_or piece at 0 ∷ []) ++ drop (at + 1) piece ≡ piece
whole piece at h = ap (λ part. part ++ drop (at + 1) piece) (sym (take_more piece at 0 h)) ∙ take-append-drop (at + 1) piece

-- what is taken, by what is held then and by an item
abbrev as_taken : Held → Option Item → Taken
as_taken held item = record { held = held; item = item }

pub at_field : (new : Held) (field other : Option Item) (t : Taken) → field ≡ other → as_taken new field ≡ t → as_taken new other ≡ t
at_field new field other t f e = subst (λ (i : Option Item). as_taken new i ≡ t) f e

module _ {A : Type 0} where
  pub goes-none : (now : Situation A) (sink : SinkState) → GoesBy now [] now sink sink
  goes-none now sink = record { said = []; leads = λ later. refl; writes = writes-none sink }

  pub goes-after : (old middle now : Situation A) (part more : Text) (before after sink : SinkState) → GoesBy old part middle before after → GoesBy middle more now after sink → GoesBy old (part ++ more) now before sink
  goes-after old middle now part more before after sink a b = record {
    said = a.said ++ b.said;
    leads = λ later. ap (said_by old) (append_assoc part more later) ∙ a.leads (more ++ later) ∙ ap (led a.said) (b.leads later) ∙ led-both a.said b.said (said_by now later);
    writes = writes-after before after sink a.said b.said a.writes b.writes;
  }

  pub exits-after : (exit : Exit) (old middle : Situation A) (part more : Text) (before after sink : SinkState) → GoesBy old part middle before after → ExitsIn exit middle more after sink → ExitsIn exit old (part ++ more) before sink
  exits-after exit old middle part more before after sink a b = record {
    said = a.said ++ b.said;
    leads = λ later. ap (said_by old) (append_assoc part more later) ∙ a.leads (more ++ later) ∙ ap (led a.said) (b.leads later);
    writes = writes-after before after sink a.said b.said a.writes b.writes;
  }

  -- the client exited before what follows
  pub exits-more : (exit : Exit) (old : Situation A) (part more : Text) (before sink : SinkState) → ExitsIn exit old part before sink → ExitsIn exit old (part ++ more) before sink
  exits-more exit old part more before sink e = record {
    said = e.said;
    leads = λ later. ap (said_by old) (append_assoc part more later) ∙ e.leads (more ++ later);
    writes = e.writes;
  }

  pub stops-after : (fault : SessionFault) (old middle : Situation A) (part more : Text) (before after now : SinkState) → GoesBy old part middle before after → StopsIn fault middle more after now → StopsIn fault old (part ++ more) before now
  stops-after fault old middle part more before after now a s = record {
    said = a.said ++ s.said;
    after = s.after;
    writes = writes-after before after s.after a.said s.said a.writes s.writes;
    next = s.next;
    leads = λ later.
        let there = s.leads later in
        let text : (said_by old ((part ++ more) ++ later)).text ≡ a.said ++ (said_by middle (more ++ later)).text =
        ap (λ text. (said_by old text).text) (append_assoc part more later) ∙ ap (λ said. said.text) (a.leads (more ++ later)) in
        (there.0, text ∙ ap (λ text. a.said ++ text) there.1 ∙ sym (append_assoc a.said (s.said ++ s.next) there.0) ∙ ap (λ text. text ++ there.0) (sym (append_assoc a.said s.said s.next)));
    stops = s.stops;
  }

  pub stops-more : (fault : SessionFault) (old : Situation A) (part more : Text) (before now : SinkState) → StopsIn fault old part before now → StopsIn fault old (part ++ more) before now
  stops-more fault old part more before now s = record {
    said = s.said;
    after = s.after;
    writes = s.writes;
    next = s.next;
    leads = λ later. let there = s.leads (more ++ later) in (there.0, ap (λ text. (said_by old text).text) (append_assoc part more later) ∙ there.1);
    stops = s.stops;
  }

  -- ---- one byte

  -- a byte that completes no item
  pub goes-byte : (held : Held) (server : Server A) (byte : ℕ) (new : Held) (sink : SinkState) → record { held = new; item = None } ≡ taken held byte → GoesBy (situation held server) (byte ∷ []) (situation new server) sink sink
  goes-byte held server byte new sink e = record {
    said = [];
    leads = λ later. ap (λ (t : Taken). said_to server (option_to_list t.item ++ items_after t.held later)) (sym e);
    writes = writes-none sink;
  }

  -- what is said to the bytes from one on that completes an item
  item_said : (held : Held) (server : Server A) (byte : ℕ) (new : Held) (item : Item) (later : Text) → record { held = new; item = Some item } ≡ taken held byte
      → said_by (situation held server) (byte ∷ later) ≡ unless_exit (reply_to server item).exit (reply_to server item).text (said_by (situation new (moved server item)) later)
  item_said held server byte new item later e = ap (λ (t : Taken). said_to server (option_to_list t.item ++ items_after t.held later)) (sym e)

  pub takes-item : (held : Held) (server : Server A) (byte : ℕ) (new : Held) (item : Item) (exit : Option Exit) (before sink : SinkState) → record { held = new; item = Some item } ≡ taken held byte
      → exit ≡ (reply_to server item).exit → WritesOut before (reply_to server item).text sink → TakesBy exit (situation held server) (byte ∷ []) (situation new (moved server item)) before sink
  takes-item held server byte new item None before sink e exits w = record {
    said = (reply_to server item).text;
    leads = λ later. item_said held server byte new item later e ∙ ap (λ x. unless_exit x (reply_to server item).text (said_by (situation new (moved server item)) later)) (sym exits);
    writes = w;
  }
  takes-item held server byte new item (Some exit) before sink e exits w = record {
    said = (reply_to server item).text;
    leads = λ later. item_said held server byte new item later e ∙ ap (λ x. unless_exit x (reply_to server item).text (said_by (situation new (moved server item)) later)) (sym exits);
    writes = w;
  }

  -- it stops in the reply
  pub stops-item : (fault : SessionFault) (held : Held) (server : Server A) (byte : ℕ) (new : Held) (item : Item) (before now : SinkState) → record { held = new; item = Some item } ≡ taken held byte
      → StopsInReply fault (reply_to server item).text before now → StopsIn fault (situation held server) (byte ∷ []) before now
  stops-item fault held server byte new item before now e s = record {
    said = [];
    after = before;
    writes = writes-none before;
    next = (reply_to server item).text;
    leads = λ later.
        let there = first_said (reply_to server item).exit (reply_to server item).text (said_by (situation new (moved server item)) later) in
        (there.0, ap (λ said. said.text) (item_said held server byte new item later e) ∙ there.1);
    stops = s;
  }

  -- it stops at the byte
  pub stops-byte : (held : Held) (server : Server A) (byte : ℕ) (sink : SinkState) → StopsIn Memory (situation held server) (byte ∷ []) sink sink
  stops-byte held server byte sink = record {
    said = [];
    after = sink;
    writes = writes-none sink;
    next = [];
    leads = λ later. ((said_by (situation held server) (byte ∷ later)).text, refl);
    stops = refl;
  }

  -- ---- a piece

  pub piece-more : (old middle now : Situation A) (piece : Text) (at : ℕ) (before after sink : SinkState) → at < length piece → GoesBy old (take at piece) middle before after → GoesBy middle (get_or piece at 0 ∷ []) now after sink → GoesBy old (take (at + 1) piece) now before sink
  piece-more old middle now piece at before after sink h a b =
      subst (λ part. GoesBy old part now before sink) (sym (take_more piece at 0 h)) (goes-after old middle now (take at piece) (get_or piece at 0 ∷ []) before after sink a b)

  pub piece-exits : (exit : Exit) (old middle : Situation A) (piece : Text) (at : ℕ) (before after sink : SinkState) → at < length piece → GoesBy old (take at piece) middle before after → ExitsIn exit middle (get_or piece at 0 ∷ []) after sink → ExitsIn exit old piece before sink
  piece-exits exit old middle piece at before after sink h a e =
      subst (λ part. ExitsIn exit old part before sink) (whole piece at h)
      (exits-more exit old (take at piece ++ get_or piece at 0 ∷ []) (drop (at + 1) piece) before sink (exits-after exit old middle (take at piece) (get_or piece at 0 ∷ []) before after sink a e))

  pub piece-stops : (fault : SessionFault) (old middle : Situation A) (piece : Text) (at : ℕ) (before after now : SinkState) → at < length piece → GoesBy old (take at piece) middle before after → StopsIn fault middle (get_or piece at 0 ∷ []) after now → StopsIn fault old piece before now
  piece-stops fault old middle piece at before after now h a s =
      subst (λ part. StopsIn fault old part before now) (whole piece at h)
      (stops-more fault old (take at piece ++ get_or piece at 0 ∷ []) (drop (at + 1) piece) before now (stops-after fault old middle (take at piece) (get_or piece at 0 ∷ []) before after now a s))

  -- ---- calls

  pub reply_ok : (r : Result (Option Exit) SessionFault) (held : Held) (server : Server A) (byte : ℕ) (new : Held) (item : Item) (state : A) (before sink : SinkState) → record { held = new; item = Some item } ≡ taken held byte
      → IfOk r (λ exit. exit ≡ (reply_to server item).exit) → OnOk r (WritesOut before (reply_to server item).text sink) → OnOk r (state ≡ server.after server.state item)
      → IfOk r (λ exit. TakesBy exit (situation held server) (byte ∷ []) (situation new (acting server.reply server.after state)) before sink)
  reply_ok (Ok exit) held server byte new item state before sink e exits w m =
      subst (λ s. TakesBy exit (situation held server) (byte ∷ []) (situation new (acting server.reply server.after s)) before sink) (sym m) (takes-item held server byte new item exit before sink e exits w)
  reply_ok (Err fault) held server byte new item state before sink e exits w m = tt

  pub reply_err : (r : Result (Option Exit) SessionFault) (held : Held) (server : Server A) (byte : ℕ) (new : Held) (item : Item) (before now : SinkState) → record { held = new; item = Some item } ≡ taken held byte
      → IfErr r (λ fault. StopsInReply fault (reply_to server item).text before now) → IfErr r (λ fault. StopsIn fault (situation held server) (byte ∷ []) before now)
  reply_err (Ok exit) held server byte new item before now e s = tt
  reply_err (Err fault) held server byte new item before now e s = stops-item fault held server byte new item before now e s

  -- the client exits at a byte of a piece
  pub piece-ends : (exit : Option Exit) (old middle now end : Situation A) (piece : Text) (at : ℕ) (before after sink : SinkState) → is_some exit ≡ true → at < length piece → GoesBy old (take at piece) middle before after
      → TakesBy exit middle (get_or piece at 0 ∷ []) now after sink → TakesBy exit old piece end before sink
  piece-ends None old middle now end piece at before after sink some h a t = absurd cc
  piece-ends (Some exit) old middle now end piece at before after sink some h a t = piece-exits exit old middle piece at before after sink h a t

  -- or it does not
  pub piece-goes : (exit : Option Exit) (old middle now : Situation A) (piece : Text) (at : ℕ) (before after sink : SinkState) → is_some exit ≡ false → at < length piece → GoesBy old (take at piece) middle before after
      → TakesBy exit middle (get_or piece at 0 ∷ []) now after sink → GoesBy old (take (at + 1) piece) now before sink
  piece-goes None old middle now piece at before after sink none h a t = piece-more old middle now piece at before after sink h a t
  piece-goes (Some exit) old middle now piece at before after sink none h a t = absurd cc
