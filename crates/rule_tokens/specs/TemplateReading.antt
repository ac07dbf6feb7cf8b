-- Reading a template: each step gives the piece at the front of a text, and what is left of the text after it.
-- That this is the language of Grammar is a law of the crate.
use Rattle.std.specs.Prelude.{ℕ, zero, suc, Bool, not, true, false, ◌==◌, ◌&&◌, nat_lt, List, [], ◌∷◌, length}
use Rattle.std.specs.Prelude.{take_while, Option, Some, None, Result, Ok, Err, is_err, if◌then◌else◌}
use Rattle.text_bytes.specs.Text.{Text}
use Rattle.text_bytes.specs.Names.{dollar, percent, open_brace, close_brace}
use Rattle.text_bytes.specs.Texts.{begins_with, skip_while, split_once}
use Rattle.text_bytes.specs.declared.profile.Profile.{Profile}
use Rattle.text_bytes.specs.declared.profile.Profile.TheVariants.{Manual, Udev}
use Rattle.rule_tokens.specs.Braces.{braced}
use Rattle.rule_tokens.specs.Names.{named, long_names_as, short_names_as}
use Rattle.rule_tokens.specs.Number.{udev_word_of, word_of}
use Rattle.rule_tokens.specs.declared.fault.TemplateFault.{TemplateFault}
use Rattle.rule_tokens.specs.declared.fault.TemplateFault.TheVariants as fault
use Rattle.rule_tokens.specs.declared.names.Substitution.{Substitution}
use Rattle.rule_tokens.specs.declared.names.Substitution.TheVariants as name
use Rattle.rule_tokens.specs.declared.piece.Piece.{Piece}
use Rattle.rule_tokens.specs.declared.piece.Piece.TheVariants as piece

-- a byte that is not a sign
abbrev pub is_no_sign : ℕ → Bool
is_no_sign b = not (b == dollar) && not (b == percent)

-- a piece, and what is left of the text after it; or a fault
abbrev pub FirstPiece : Type 0
FirstPiece = Result (Piece × Text) TemplateFault

-- the piece that the content of the braces asks for, if it is a number
abbrev pub numbered : Option Piece → Text → FirstPiece
numbered None rest = Err fault.Number
numbered (Some p) rest = Ok (p, rest)

-- the same for braces that are closed
abbrev pub bracketed : Option (Text × Text) → FirstPiece
bracketed None = Err fault.Brace
bracketed (Some x) = numbered (word_of x.0) x.1

-- what `$result` or `%c` asks for, by what follows it
unfoldable pub result_piece : Text → FirstPiece
result_piece [] = Ok (piece.Result, [])
result_piece (b ∷ t) = if b == open_brace then bracketed (split_once close_brace t) else Ok (piece.Result, b ∷ t)

-- a piece that needs a name in braces
abbrev pub with_name : (Text → Piece) → Result (Text × Text) TemplateFault → FirstPiece
with_name make (Ok x) = Ok (make x.0, x.1)
with_name make (Err e) = Err e

-- what a substitution asks for, by what follows its name
unfoldable pub argument_of : Substitution → Text → FirstPiece
argument_of name.Kernel t = Ok (piece.Kernel, t)
argument_of name.Number t = Ok (piece.Number, t)
argument_of name.Devpath t = Ok (piece.Devpath, t)
argument_of name.Id t = Ok (piece.Id, t)
argument_of name.Driver t = Ok (piece.Driver, t)
argument_of name.Attr t = with_name (λ n. piece.Attr n) (braced t)
argument_of name.Env t = with_name (λ n. piece.Env n) (braced t)
argument_of name.Major t = Ok (piece.Major, t)
argument_of name.Minor t = Ok (piece.Minor, t)
argument_of name.Result t = result_piece t
argument_of name.Parent t = Ok (piece.Parent, t)
argument_of name.Name t = Ok (piece.Name, t)
argument_of name.Links t = Ok (piece.Links, t)
argument_of name.Root t = Ok (piece.Root, t)
argument_of name.Sys t = Ok (piece.Sys, t)
argument_of name.Devnode t = Ok (piece.Devnode, t)
argument_of name.Dollar t = Ok (piece.Plain (dollar ∷ []), t)
argument_of name.Percent t = Ok (piece.Plain (percent ∷ []), t)
argument_of name.Refused t = Err fault.Unknown

-- what a substitution asks udev for, by what its braces hold and what is left after them; for one that needs no
-- braces they mean nothing
unfoldable pub asked_with : Substitution → Text → Text → FirstPiece
asked_with name.Attr content rest = Ok (piece.Attr content, rest)
asked_with name.Env content rest = Ok (piece.Env content, rest)
asked_with name.Result content rest = numbered (udev_word_of content) rest
asked_with s content rest = argument_of s rest

-- the same for braces that udev takes, which hold at most 1,023 bytes
abbrev pub with_braces : Substitution → Result (Text × Text) TemplateFault → FirstPiece
with_braces s (Ok x) = if nat_lt 1023 (length x.0) then Err fault.Brace else asked_with s x.0 x.1
with_braces s (Err e) = Err e

-- a sign written twice, after which udev takes no braces
abbrev pub is_twice : Substitution → Bool
is_twice name.Dollar = true
is_twice name.Percent = true
is_twice s = false

-- what a substitution asks udev for, by what follows its name
unfoldable pub udev_asked : Substitution → Text → FirstPiece
udev_asked s t = if not (is_twice s) && begins_with open_brace t then with_braces s (braced t) else argument_of s t

-- what a substitution asks for, by a profile
abbrev pub asked_as : Profile → Substitution → Text → FirstPiece
asked_as Manual = argument_of
asked_as Udev = udev_asked

-- the piece that the name after a sign asks for, by what names ask for
abbrev pub substituted_by : (Substitution → Text → FirstPiece) → Option (Substitution × Text) → FirstPiece
substituted_by ask None = Err fault.Unknown
substituted_by ask (Some x) = ask x.0 x.1

-- plain bytes, of which this is the first, up to the next sign
abbrev pub plain_first : ℕ → Text → FirstPiece
plain_first b t = Ok (piece.Plain (b ∷ take_while is_no_sign t), skip_while is_no_sign t)

-- the piece at the front of a text of which this is the first byte, by a profile
abbrev pub first_as : Profile → ℕ → Text → FirstPiece
first_as profile b t =
    if b == dollar then substituted_by (asked_as profile) (named (long_names_as profile) t)
    else if b == percent then substituted_by (asked_as profile) (named (short_names_as profile) t)
    else plain_first b t

-- the piece at the front by the manual
unfoldable pub first_at : ℕ → Text → FirstPiece
first_at b t = first_as Manual b t

-- the piece at the front by udev
unfoldable pub udev_first : ℕ → Text → FirstPiece
udev_first b t = first_as Udev b t

-- a piece, and those after it
abbrev pub with_piece : Piece → Result (List Piece) TemplateFault → Result (List Piece) TemplateFault
with_piece p (Ok ps) = Ok (p ∷ ps)
with_piece p (Err e) = Err e

-- the piece at the front, and those of what is left
abbrev pub with_first : (Text → Result (List Piece) TemplateFault) → FirstPiece → Result (List Piece) TemplateFault
with_first others (Ok x) = with_piece x.0 (others x.1)
with_first others (Err e) = Err e

-- the pieces of a text that has at most so many, by how the piece at the front is read
abbrev pub pieces_by : (ℕ → Text → FirstPiece) → ℕ → Text → Result (List Piece) TemplateFault
pieces_by prefix zero t = Ok []
pieces_by prefix (suc n) [] = Ok []
pieces_by prefix (suc n) (b ∷ t) = with_first (pieces_by prefix n) (prefix b t)

-- the same by the manual
abbrev pub pieces_within : ℕ → Text → Result (List Piece) TemplateFault
pieces_within = pieces_by first_at

-- the pieces of a text, or the first fault from the left
unfoldable pub pieces_of : Text → Result (List Piece) TemplateFault
pieces_of t = pieces_within (length t) t

-- the same by udev
unfoldable pub udev_pieces : Text → Result (List Piece) TemplateFault
udev_pieces t = pieces_by udev_first (length t) t

-- whether udev reports a fault in a text
unfoldable pub is_faulty : Text → Bool
is_faulty t = is_err (udev_pieces t)

-- What udev takes for the piece at the front of a text, of which this is the first byte, and what it reads on: a sign with an unknown name is a
-- byte, and at any other fault nothing is read on.
abbrev pub kept : ℕ → Text → FirstPiece → Option (Piece × Text)
kept b t (Ok x) = Some x
kept b t (Err fault.Unknown) = Some (piece.Plain (b ∷ []), t)
kept b t (Err e) = None

-- a piece that is kept, and those of what is left
abbrev pub with_kept : (Text → List Piece) → Option (Piece × Text) → List Piece
with_kept others None = []
with_kept others (Some x) = x.0 ∷ others x.1

-- the pieces that udev takes from a text that has at most so many
abbrev pub left_within : ℕ → Text → List Piece
left_within zero t = []
left_within (suc n) [] = []
left_within (suc n) (b ∷ t) = with_kept (left_within n) (kept b t (udev_first b t))

-- the pieces that udev takes from a text, whether or not it reports a fault
unfoldable pub left_of : Text → List Piece
left_of t = left_within (length t) t

-- the pieces of a text by a profile: the manual refuses a text with a fault, and udev takes what is left of such a
-- text
abbrev pub pieces_as : Profile → Text → Result (List Piece) TemplateFault
pieces_as Manual t = pieces_of t
pieces_as Udev t = Ok (left_of t)
