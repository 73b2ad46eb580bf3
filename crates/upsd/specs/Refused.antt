-- What is said of a refused line of a file.
use Rattle.std.specs.Prelude.{◌≡◌, ◌==◌, ◌||◌, ℕ, ◌-◌, Bool, false, List, [], ◌∷◌, Option, None, Some}
use Rattle.std.specs.Prelude.{Result, Ok, Err, if◌then◌else◌, length, slice_get, unwrap_or, nat_lt, take, eqb}
use Rattle.std.specs.List.{starts_with, ends_with, position, list_any}
use Rattle.nutwords.specs.Bytes.{is_blank}
use Rattle.std.specs.Option.{option_map_or}
use Rattle.std.specs.Str.{IsTrimAscii}
use Rattle.nutwords.specs.Scan.{read_line}
use Rattle.nutwords.specs.Text.{lines_of}
use Rattle.nutwords.specs.declared.limits.TheConstants.{LINE_LIMIT}
use Rattle.nutwords.specs.declared.faults.BadLine.{BadLine}
use Rattle.nutwords.specs.declared.faults.BadLine.TheVariants as bad_lines
use Rattle.nutusers.specs.declared.fault.Cause.{Cause}
use Rattle.nutusers.specs.declared.fault.Cause.TheVariants as causes
use Rattle.upsd.specs.declared.refused.Flaw.{Flaw}
use Rattle.upsd.specs.declared.refused.Flaw.TheVariants as flaws
use Rattle.upsd.specs.declared.refused.Remark.{Remark}
use Rattle.upsd.specs.declared.refused.Shape.{Shape}
use Rattle.upsd.specs.declared.refused.Shape.TheVariants as shapes
use Rattle.upsd.specs.declared.refused.TheConstants.{SHOWN_LIMIT}

-- The line of this number, which is counted from 1.
abbrev pub line_at : List ℕ → ℕ → List ℕ
line_at file number = unwrap_or (slice_get (lines_of file) (number - 1)) []

-- A key ends before this byte: a blank, `=` or a quote.
abbrev pub ends_key : ℕ → Bool
ends_key b = is_blank b || (b == 61 || b == 34)

-- The key of a setting.
abbrev pub key : List ℕ → List ℕ
key text = option_map_or (λ end. take end text) (position ends_key text) text

-- The line without the blanks around it begins with `[`.
abbrev pub opens_section : List ℕ → Bool
opens_section text = starts_with eqb text (91 ∷ [])

-- What is shown of a line without the blanks around it: all, but of a setting only its key, since
-- the value may be a password.
abbrev pub front : Shape → List ℕ → List ℕ
front shapes.Table text = text
front shapes.Sections text = if opens_section text then text else key text

-- How to write a line that is neither a section nor a comment.
abbrev pub form : Shape → Flaw
form shapes.Sections = flaws.NoSetting
form shapes.Table = flaws.NoEntry

-- One of the words begins with `#`.
abbrev pub has_comment : List (List ℕ) → Bool
has_comment words = list_any (λ word. starts_with eqb word (35 ∷ [])) words

-- What is wrong with a line that reads so.
abbrev pub flaw_of_words : Shape → Result (List (List ℕ)) BadLine → Flaw
flaw_of_words shape (Err bad_lines.ControlByte) = flaws.ControlByte
flaw_of_words shape (Err bad_lines.OpenQuote) = flaws.OpenQuote
flaw_of_words shape (Err bad_lines.QuoteInside) = form shape
flaw_of_words shape (Err bad_lines.AfterQuote) = flaws.AfterQuote
flaw_of_words shape (Err bad_lines.LoneBackslash) = flaws.LoneBackslash
flaw_of_words shape (Ok words) =
    if has_comment words then flaws.Comment else form shape

-- The line is to begin a section.
abbrev pub is_of_section : Shape → List ℕ → Bool
is_of_section shapes.Table text = false
is_of_section shapes.Sections text = opens_section text

-- What is wrong with the shape of a line, which without the blanks around it is the text.
abbrev pub flaw_of : Shape → List ℕ → List ℕ → Flaw
flaw_of shape line text = if starts_with eqb line (239 ∷ 187 ∷ 191 ∷ []) then flaws.ByteOrderMark
    else (if ends_with eqb line (13 ∷ []) then flaws.CarriageReturn
    else (if nat_lt LINE_LIMIT (length line) then flaws.TooLong
    else (if is_of_section shape text then flaws.NoSection
    else flaw_of_words shape (read_line line))))

-- The flaw that is named: none where the line isn't refused for its shape.
abbrev pub flaw_named : Shape → Cause → List ℕ → List ℕ → Option Flaw
flaw_named shape causes.Malformed line text = Some (flaw_of shape line text)
flaw_named shape cause line text = None

-- What is said of the line that is refused for this cause.
pub record IsRemark (shape : Shape) (cause : Cause) (line : List ℕ) (remark : Remark) : Type 0 where
  pub text : List ℕ
  pub trimmed : IsTrimAscii line text
  pub shown : remark.shown.items ≡ take SHOWN_LIMIT (front shape text)
  pub flaw : remark.flaw ≡ flaw_named shape cause line text
