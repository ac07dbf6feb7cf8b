-- Tokens of one group.
use Rattle.std.proofs.Common.{◌≡◌, ℕ, ◌==◌, not, Bool, true, false, ◌||◌, List, [], ◌∷◌, ◌++◌, Option, Some, None, is_some, cond, refl, ap, sym, ◌∙◌, subst, ◌↔◌}
use Rattle.std.proofs.lemmas.Bool.{eq-eqb, eqb-true, false≢true, or_left, or_right}
use Rattle.std.specs.List.{AllByRecursion, list_any}
use Rattle.rule_lints.specs.Devices.{group_of, is_kind, is_of_net, is_other, number, stranger, stranger_by}
use Rattle.rule_lints.specs.Laws.{AreOfOneGroup, AsksForNet, IsStranger}
use Rattle.rule_types.specs.Tokens.{WrittenPart}
use Rattle.rule_lints.specs.declared.devices.Group.{Group}
use Rattle.rule_lints.specs.declared.devices.Group.TheVariants.{UsbDevice, UsbInterface, Input, Pci, Tty, Net, Block, Hidraw, Sound, Video}
use Rattle.rule_lints.specs.declared.devices.Side.{Side}
use Rattle.rule_lints.specs.declared.devices.Side.TheVariants.{Event}

-- no token is of another group
abbrev NoneOther : Side → Group → List WrittenPart → Type 0
NoneOther side group tokens = AllByRecursion (λ w. is_other group (group_of side w.part) ≡ false) tokens

own : (group : Group) → is_other group (Some group) ≡ false
own group = ap not (eq-eqb (number group) (number group) refl)

-- the kind with a number
abbrev numbered : ℕ → Group
numbered n =
    cond (n == 0) UsbDevice
    (cond (n == 1) UsbInterface
    (cond (n == 2) Input
    (cond (n == 3) Pci
    (cond (n == 4) Tty
    (cond (n == 5) Net
    (cond (n == 6) Block
    (cond (n == 7) Hidraw
    (cond (n == 8) Sound Video))))))))

found_again : (group : Group) → numbered (number group) ≡ group
found_again UsbDevice = refl
found_again UsbInterface = refl
found_again Input = refl
found_again Pci = refl
found_again Tty = refl
found_again Net = refl
found_again Block = refl
found_again Hidraw = refl
found_again Sound = refl
found_again Video = refl

not_other : (b : Bool) → not b ≡ false → b ≡ true
not_other true h = refl
not_other false h = absurd (false≢true (sym h))

one : (group other : Group) → is_other group (Some other) ≡ false → group ≡ other
one group other h =
    sym (found_again group)
    ∙ ap numbered (eqb-true (number group) (number other) (not_other (number group == number other) h))
    ∙ found_again other

abbrev IsThere : Option WrittenPart → Type 0
IsThere None = ⊥
IsThere (Some w) = Unit {0}

some_is_none : (w : WrittenPart) → Some w ≡ None → ⊥
some_is_none w e = subst IsThere e tt

-- after a token of a group, each is of that or of none
all_after : (side : Side) (group : Group) (tokens : List WrittenPart) → stranger_by side (Some group) tokens ≡ None → NoneOther side group tokens
all_after side group [] h = tt
all_after side group (w ∷ tokens) h = by (is_other group (group_of side w.part)) refl h (λ g. all_after side group tokens g)
  where
    by : (b : Bool) → is_other group (group_of side w.part) ≡ b → cond b (Some w) (stranger_by side (Some group) tokens) ≡ None → (stranger_by side (Some group) tokens ≡ None → NoneOther side group tokens) → NoneOther side group (w ∷ tokens)
    by true e g more = absurd (some_is_none w g)
    by false e g more = (e, more g)

all_one : (side : Side) (tokens : List WrittenPart) → stranger_by side None tokens ≡ None → AreOfOneGroup side tokens
all_one side [] h = record { group = UsbDevice; none_other = tt }
all_one side (w ∷ tokens) h = by (group_of side w.part) refl h (λ g. all_one side tokens g)
  where
    by : (o : Option Group) → group_of side w.part ≡ o → stranger_by side o tokens ≡ None → (stranger_by side None tokens ≡ None → AreOfOneGroup side tokens) → AreOfOneGroup side (w ∷ tokens)
    by None e g more =
        let rest = more g in
        record { group = rest.group; none_other = (ap (is_other rest.group) e, rest.none_other) }
    by (Some group) e g more = record { group = group; none_other = (ap (is_other group) e ∙ own group, all_after side group tokens g) }

none_following : (side : Side) (group : Group) (tokens : List WrittenPart) → NoneOther side group tokens → stranger_by side (Some group) tokens ≡ None
none_following side group [] h = refl
none_following side group (w ∷ tokens) h = ap (λ (b : Bool). cond b (Some w) (stranger_by side (Some group) tokens)) h.0 ∙ none_following side group tokens h.1

none_reported : (side : Side) (group : Group) (tokens : List WrittenPart) → NoneOther side group tokens → stranger_by side None tokens ≡ None
none_reported side group [] h = refl
none_reported side group (w ∷ tokens) h = by (group_of side w.part) refl (none_reported side group tokens h.1)
  where
    by : (o : Option Group) → group_of side w.part ≡ o → stranger_by side None tokens ≡ None → stranger_by side (group_of side w.part) tokens ≡ None
    by None e more = ap (λ (o : Option Group). stranger_by side o tokens) e ∙ more
    by (Some other) e more =
        ap (λ (o : Option Group). stranger_by side o tokens) (e ∙ ap Some (sym (one group other (ap (is_other group) (sym e) ∙ h.0))))
        ∙ none_following side group tokens h.1

pub strangers : (side : Side) (tokens : List WrittenPart) → (stranger side tokens ≡ None) ↔ AreOfOneGroup side tokens
strangers side tokens = (all_one side tokens, λ g. none_reported side g.group tokens g.none_other)

-- a token, or another if there is none
abbrev found_or : WrittenPart → Option WrittenPart → WrittenPart
found_or w None = w
found_or w (Some v) = v

none_is_some : (w : WrittenPart) → None ≡ Some w → ⊥
none_is_some w e = some_is_none w (sym e)

-- the first token of another group than this
record First (side : Side) (group : Group) (tokens : List WrittenPart) (w : WrittenPart) : Type 0 where
  before : List WrittenPart
  following : List WrittenPart
  whole : tokens ≡ before ++ w ∷ following
  none_other : NoneOther side group before
  other : is_other group (group_of side w.part) ≡ true

first_of : (side : Side) (group : Group) (tokens : List WrittenPart) (w : WrittenPart) → stranger_by side (Some group) tokens ≡ Some w → First side group tokens w
first_of side group [] w h = absurd (none_is_some w h)
first_of side group (v ∷ tokens) w h = by (is_other group (group_of side v.part)) refl h (λ g. first_of side group tokens w g)
  where
    by : (b : Bool) → is_other group (group_of side v.part) ≡ b → cond b (Some v) (stranger_by side (Some group) tokens) ≡ Some w → (stranger_by side (Some group) tokens ≡ Some w → First side group tokens w) → First side group (v ∷ tokens) w
    by true e g more =
        let same : v ≡ w = ap (found_or v) g in
        record { before = []; following = tokens; whole = ap (λ (x : WrittenPart). x ∷ tokens) same; none_other = tt; other = ap (λ (x : WrittenPart). is_other group (group_of side x.part)) (sym same) ∙ e }
    by false e g more =
        let rest = more g in
        record { before = v ∷ rest.before; following = rest.following; whole = ap (λ (ts : List WrittenPart). v ∷ ts) rest.whole; none_other = (e, rest.none_other); other = rest.other }

pub stranger_found : (side : Side) (tokens : List WrittenPart) (w : WrittenPart) → stranger_by side None tokens ≡ Some w → IsStranger side tokens w
stranger_found side [] w h = absurd (none_is_some w h)
stranger_found side (v ∷ tokens) w h = by (group_of side v.part) refl h (λ g. stranger_found side tokens w g)
  where
    by : (o : Option Group) → group_of side v.part ≡ o → stranger_by side o tokens ≡ Some w → (stranger_by side None tokens ≡ Some w → IsStranger side tokens w) → IsStranger side (v ∷ tokens) w
    by None e g more =
        let rest = more g in
        record {
          group = rest.group;
          before = v ∷ rest.before;
          following = rest.following;
          whole = ap (λ (ts : List WrittenPart). v ∷ ts) rest.whole;
          some = or_right (is_some (group_of side v.part)) (list_any (λ x. is_some (group_of side x.part)) rest.before) rest.some;
          none_other = (ap (is_other rest.group) e, rest.none_other);
          other = rest.other;
        }
    by (Some group) e g more =
        let rest = first_of side group tokens w g in
        record {
          group = group;
          before = v ∷ rest.before;
          following = rest.following;
          whole = ap (λ (ts : List WrittenPart). v ∷ ts) rest.whole;
          some = or_left (is_some (group_of side v.part)) (list_any (λ x. is_some (group_of side x.part)) rest.before) (ap (λ (o : Option Group). is_some o) e);
          none_other = (ap (is_other group) e ∙ own group, rest.none_other);
          other = rest.other;
        }

-- a kind is there exactly if it is this one
kind_is : (g : Option Group) → is_kind Net g ≡ true → g ≡ Some Net
kind_is None h = absurd (false≢true h)
kind_is (Some g) h = ap Some (sym (one Net g (ap not h)))

is_net : (g : Option Group) → g ≡ Some Net → is_kind Net g ≡ true
is_net g e = ap (is_kind Net) e

net_asked : (tokens : List WrittenPart) → is_of_net tokens ≡ true → AsksForNet tokens
net_asked [] h = absurd (false≢true h)
net_asked (w ∷ tokens) h = by (is_kind Net (group_of Event w.part)) refl h (λ g. net_asked tokens g)
  where
    by : (b : Bool) → is_kind Net (group_of Event w.part) ≡ b → (b || is_of_net tokens) ≡ true → (is_of_net tokens ≡ true → AsksForNet tokens) → AsksForNet (w ∷ tokens)
    by true e g more = record { before = []; w = w; following = tokens; whole = refl; net = kind_is (group_of Event w.part) e }
    by false e g more =
        let rest = more g in
        record { before = w ∷ rest.before; w = rest.w; following = rest.following; whole = ap (λ (ts : List WrittenPart). w ∷ ts) rest.whole; net = rest.net }

asked_net : (before : List WrittenPart) (w : WrittenPart) (following : List WrittenPart) → group_of Event w.part ≡ Some Net → is_of_net (before ++ w ∷ following) ≡ true
asked_net [] w following e = or_left (is_kind Net (group_of Event w.part)) (is_of_net following) (is_net (group_of Event w.part) e)
asked_net (v ∷ before) w following e = or_right (is_kind Net (group_of Event v.part)) (is_of_net (before ++ w ∷ following)) (asked_net before w following e)

pub asks_for_net : (tokens : List WrittenPart) → (is_of_net tokens ≡ true) ↔ AsksForNet tokens
asks_for_net tokens = (net_asked tokens, λ a. ap is_of_net a.whole ∙ asked_net a.before a.w a.following a.net)
