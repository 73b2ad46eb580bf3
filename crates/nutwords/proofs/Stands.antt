-- Where the bytes so far stand in the grammar, from left to right.
use Rattle.std.proofs.Common.{◌≡◌, ℕ, ◌<◌, Bool, true, false, List, [], ◌∷◌}
use Rattle.std.proofs.Common.{◌++◌, length, refl, sym, subst, ap, ◌∙◌, append_assoc}
use Rattle.std.proofs.Common.{append-nil, length-append, arith, MatchResult}
use Rattle.nutwords.specs.Bytes.{is_lawful, is_blank, is_bare, is_quotable}
use Rattle.nutwords.specs.Grammar.{Units, none, itself, escaped, IsBareWord, IsQuotedWord, Spells}
use Rattle.nutwords.specs.Grammar.{bare, quoted, Reads, end, ReadsToBoundary, before_blank}
use Rattle.nutwords.specs.Fault.{Begins, EndsIn, EndsInBareWord, EndsInQuotedWord, EndsInOpenQuote}
use Rattle.nutwords.specs.Fault.{EndsInBareBackslash, EndsInQuotedBackslash, IsByteFault, control}
use Rattle.nutwords.specs.Fault.{quote_inside, after_quote, IsEndFault, bare_backslash}
use Rattle.nutwords.specs.Fault.{quoted_backslash, open_quote}
use Rattle.nutwords.specs.Scan.{step, finish}
use Rattle.nutwords.specs.declared.scan.Class.{Class}
use Rattle.nutwords.specs.declared.scan.Class.TheVariants.{Blank, Quote, Backslash, Other, Control}
use Rattle.nutwords.specs.declared.scan.ScanState.{ScanState}
use Rattle.nutwords.specs.declared.scan.ScanState.TheVariants.{Between, Bare, BareEscape, Quoted, QuotedEscape, Closed}
use Rattle.nutwords.proofs.Classes.{Kind, kind, lawful_of, lawful_quotable, quotable_bare}
use Rattle.nutwords.proofs.Classes as classes
use Rattle.nutwords.proofs.Joins.{Units-append, Reads-behind, Reads-word}

-- what the place of the scan says of the bytes so far
abbrev pub Stands : ScanState → List ℕ → Type 0
Stands Between front = (ws : List (List ℕ)) × ReadsToBoundary front ws
Stands Bare front = EndsInBareWord front
Stands BareEscape front = EndsInBareBackslash front
Stands Quoted front = EndsInOpenQuote front
Stands QuotedEscape front = EndsInQuotedBackslash front
Stands Closed front = EndsInQuotedWord front

-- bytes after a part
whole_more : (front before part : List ℕ) (b : ℕ) → front ≡ before ++ part → front ++
    b ∷ [] ≡ before ++ (part ++ b ∷ [])
whole_more front before part b e = ap (λ x. x ++ b ∷ []) e ∙ append_assoc before part (b ∷ [])

-- one byte of a word, in its two spellings
one_itself : (p : ℕ → Bool) (text w : List ℕ) (b : ℕ) → p b ≡ true →
    Units p text w → Units p (text ++ b ∷ []) (w ++ b ∷ [])
one_itself p text w b h u = Units-append p text (b ∷ []) w (b ∷ []) u (itself h none)

one_escaped : (p : ℕ → Bool) (text w : List ℕ) (b : ℕ) → is_lawful b ≡ true →
    Units p text w → Units p ((text ++ 92 ∷ []) ++ b ∷ []) (w ++ b ∷ [])
one_escaped p text w b h u = subst (λ x. Units p x (w ++ b ∷ []))
    (sym (append_assoc text (92 ∷ []) (b ∷ [])))
    (Units-append p text (92 ∷ b ∷ []) w (b ∷ []) u (escaped h none))

longer : (w : List ℕ) (b : ℕ) → 0 < length (w ++ b ∷ [])
longer w b = omega (arith, length-append w (b ∷ []))

-- a line that is given in other words
Reads-at : (x y : List ℕ) (vs us : List (List ℕ)) → x ≡ y → vs ≡ us → Reads x vs → Reads y us
Reads-at x y vs us e f r = subst (λ ws. Reads y ws) f (subst (λ z. Reads z vs) e r)

-- what reads apart is a line
pub Reads-from_apart : (front : List ℕ) (ws : List (List ℕ)) → ReadsToBoundary front ws → Reads front ws
Reads-from_apart front ws r = Reads-at (front ++ []) front (ws ++ []) ws (append-nil front)
    (append-nil ws) (Reads-behind front [] ws [] r end)

-- a word after words
pub Reads-from_word : (front : List ℕ) (P : List ℕ → List ℕ → Type 0) →
    ((part w : List ℕ) → P part w → Spells part w) → EndsIn P front → (ws : List (List ℕ)) × Reads front ws
Reads-from_word front P spell s = (
  s.words ++ s.word ∷ [],
  subst (λ x. Reads x (s.words ++ s.word ∷ [])) (sym s.whole)
      (Reads-behind s.before s.part s.words (s.word ∷ []) s.apart
      (Reads-word s.part s.word (spell s.part s.word s.is_part))),
)

-- a blank after a line
blank_behind : (front : List ℕ) (b : ℕ) → (ws : List (List ℕ)) × Reads front ws →
    is_blank b ≡ true → Stands Between (front ++ b ∷ [])
blank_behind front b r h = (r.0, before_blank b r.1 h refl)

bare_spells : (part w : List ℕ) → IsBareWord part w → Spells part w
bare_spells part w h = bare h

quoted_spells : (part w : List ℕ) → IsQuotedWord part w → Spells part w
quoted_spells part w h = quoted h

-- a byte of a word that has begun
bare_itself : (front : List ℕ) (b : ℕ) → is_bare b ≡ true → EndsInBareWord front →
    EndsInBareWord (front ++ b ∷ [])
bare_itself front b h s = record {
  before = s.before;
  words = s.words;
  part = s.part ++ b ∷ [];
  word = s.word ++ b ∷ [];
  apart = s.apart;
  is_part = (one_itself is_bare s.part s.word b h s.is_part.0, longer s.word b);
  whole = whole_more front s.before s.part b s.whole;
}

bare_escaped : (front : List ℕ) (b : ℕ) → is_lawful b ≡ true →
    EndsInBareBackslash front → EndsInBareWord (front ++ b ∷ [])
bare_escaped front b h s = record {
  before = s.before;
  words = s.words;
  part = s.part ++ b ∷ [];
  word = s.word ++ b ∷ [];
  apart = s.apart;
  is_part = (
    subst (λ x. Units is_bare (x ++ b ∷ []) (s.word ++ b ∷ [])) (sym s.is_part.2)
        (one_escaped is_bare s.is_part.0 s.word b h s.is_part.1),
    longer s.word b,
  );
  whole = whole_more front s.before s.part b s.whole;
}

quoted_itself : (front : List ℕ) (b : ℕ) → is_quotable b ≡ true →
    EndsInOpenQuote front → EndsInOpenQuote (front ++ b ∷ [])
quoted_itself front b h s = record {
  before = s.before;
  words = s.words;
  part = s.part ++ b ∷ [];
  word = s.word ++ b ∷ [];
  apart = s.apart;
  is_part = (
    s.is_part.0 ++ b ∷ [],
    one_itself is_quotable s.is_part.0 s.word b h s.is_part.1,
    ap (λ x. x ++ b ∷ []) s.is_part.2,
  );
  whole = whole_more front s.before s.part b s.whole;
}

quoted_escaped : (front : List ℕ) (b : ℕ) → is_lawful b ≡ true →
    EndsInQuotedBackslash front → EndsInOpenQuote (front ++ b ∷ [])
quoted_escaped front b h s = record {
  before = s.before;
  words = s.words;
  part = s.part ++ b ∷ [];
  word = s.word ++ b ∷ [];
  apart = s.apart;
  is_part = (
    (s.is_part.0 ++ 92 ∷ []) ++ b ∷ [],
    one_escaped is_quotable s.is_part.0 s.word b h s.is_part.1,
    ap (λ x. x ++ b ∷ []) s.is_part.2,
  );
  whole = whole_more front s.before s.part b s.whole;
}

-- One byte more leads to the next place, or is the fault that the step answers.
pub Stands-step : (place : ScanState) (front : List ℕ) (b : ℕ) (k : Class) → Kind b k →
    Stands place front → MatchResult (step place k) (λ next. Stands next (front ++ b ∷ []))
    (λ e. IsByteFault front b e)
Stands-step Between front b Blank (classes.blank h q) s = blank_behind front b (s.0, Reads-from_apart front s.0 s.1) h
Stands-step Between front b Quote (classes.quote e) s = record {
  before = front;
  words = s.0;
  part = b ∷ [];
  word = [];
  apart = s.1;
  is_part = ([], none, ap (λ x. x ∷ []) e);
  whole = refl;
}
Stands-step Between front b Backslash (classes.backslash e) s = record {
  before = front;
  words = s.0;
  part = b ∷ [];
  word = [];
  apart = s.1;
  is_part = ([], none, ap (λ x. x ∷ []) e);
  whole = refl;
}
Stands-step Between front b Other (classes.other h) s = record {
  before = front;
  words = s.0;
  part = b ∷ [];
  word = b ∷ [];
  apart = s.1;
  is_part = (itself h none, omega arith);
  whole = refl;
}
Stands-step Bare front b Blank (classes.blank h q) s =
    blank_behind front b (Reads-from_word front IsBareWord bare_spells s) h
Stands-step Bare front b Quote (classes.quote e) s = quote_inside e s
Stands-step Bare front b Backslash (classes.backslash e) s = record {
  before = s.before;
  words = s.words;
  part = s.part ++ b ∷ [];
  word = s.word;
  apart = s.apart;
  is_part = (s.part, s.is_part.0, ap (λ x. s.part ++ x ∷ []) e);
  whole = whole_more front s.before s.part b s.whole;
}
Stands-step Bare front b Other (classes.other h) s = bare_itself front b h s
Stands-step BareEscape front b Blank (classes.blank h q) s = bare_escaped front b (lawful_quotable b q) s
Stands-step BareEscape front b Quote (classes.quote e) s =
    bare_escaped front b (lawful_of b Quote (classes.quote e) (λ x. cc)) s
Stands-step BareEscape front b Backslash (classes.backslash e) s =
    bare_escaped front b (lawful_of b Backslash (classes.backslash e) (λ x. cc)) s
Stands-step BareEscape front b Other (classes.other h) s =
    bare_escaped front b (lawful_of b Other (classes.other h) (λ x. cc)) s
Stands-step Quoted front b Blank (classes.blank h q) s = quoted_itself front b q s
Stands-step Quoted front b Quote (classes.quote e) s = record {
  before = s.before;
  words = s.words;
  part = s.part ++ b ∷ [];
  word = s.word;
  apart = s.apart;
  is_part = (
    s.is_part.0,
    s.is_part.1,
    ap (λ x. x ++ b ∷ []) s.is_part.2 ∙
        ap (λ x. 34 ∷ (s.is_part.0 ++ x ∷ [])) e,
  );
  whole = whole_more front s.before s.part b s.whole;
}
Stands-step Quoted front b Backslash (classes.backslash e) s = record {
  before = s.before;
  words = s.words;
  part = s.part ++ b ∷ [];
  word = s.word;
  apart = s.apart;
  is_part = (
    s.is_part.0,
    s.is_part.1,
    ap (λ x. x ++ b ∷ []) s.is_part.2 ∙
        ap (λ x. 34 ∷ (s.is_part.0 ++ x ∷ [])) e,
  );
  whole = whole_more front s.before s.part b s.whole;
}
Stands-step Quoted front b Other (classes.other h) s = quoted_itself front b (quotable_bare b h) s
Stands-step QuotedEscape front b Blank (classes.blank h q) s = quoted_escaped front b (lawful_quotable b q) s
Stands-step QuotedEscape front b Quote (classes.quote e) s =
    quoted_escaped front b (lawful_of b Quote (classes.quote e) (λ x. cc)) s
Stands-step QuotedEscape front b Backslash (classes.backslash e) s =
    quoted_escaped front b (lawful_of b Backslash (classes.backslash e) (λ x. cc)) s
Stands-step QuotedEscape front b Other (classes.other h) s =
    quoted_escaped front b (lawful_of b Other (classes.other h) (λ x. cc)) s
Stands-step Closed front b Blank (classes.blank h q) s =
    blank_behind front b (Reads-from_word front IsQuotedWord quoted_spells s) h
Stands-step Closed front b Quote (classes.quote e) s = after_quote (lawful_of b Quote (classes.quote e) (λ x. cc)) s
Stands-step Closed front b Backslash (classes.backslash e) s =
    after_quote (lawful_of b Backslash (classes.backslash e) (λ x. cc)) s
Stands-step Closed front b Other (classes.other h) s = after_quote (lawful_of b Other (classes.other h) (λ x. cc)) s
Stands-step Between front b Control (classes.control h) s = control (λ l. let bad : true ≡ false = sym l ∙ h in cc)
Stands-step Bare front b Control (classes.control h) s = control (λ l. let bad : true ≡ false = sym l ∙ h in cc)
Stands-step BareEscape front b Control (classes.control h) s =
    control (λ l. let bad : true ≡ false = sym l ∙ h in cc)
Stands-step Quoted front b Control (classes.control h) s = control (λ l. let bad : true ≡ false = sym l ∙ h in cc)
Stands-step QuotedEscape front b Control (classes.control h) s =
    control (λ l. let bad : true ≡ false = sym l ∙ h in cc)
Stands-step Closed front b Control (classes.control h) s = control (λ l. let bad : true ≡ false = sym l ∙ h in cc)

-- What the end of the line is there: a line of words, or the fault.
pub Stands-finish : (place : ScanState) (line : List ℕ) → Stands place line →
    MatchResult (finish place) (λ _. (ws : List (List ℕ)) × Reads line ws) (λ e. IsEndFault line e)
Stands-finish Between line s = (s.0, Reads-from_apart line s.0 s.1)
Stands-finish Bare line s = Reads-from_word line IsBareWord bare_spells s
Stands-finish BareEscape line s = bare_backslash s
Stands-finish Quoted line s = open_quote s
Stands-finish QuotedEscape line s = quoted_backslash s
Stands-finish Closed line s = Reads-from_word line IsQuotedWord quoted_spells s

-- The bytes so far begin a line.
pub Stands-begins : (place : ScanState) (front : List ℕ) → Stands place front → Begins front
Stands-begins Between front s = (
  [],
  s.0,
  Reads-at front (front ++ []) s.0 s.0 (sym (append-nil front)) refl (Reads-from_apart front s.0 s.1),
)
Stands-begins Bare front s = let r = Reads-from_word front IsBareWord bare_spells s in
    ([], r.0, Reads-at front (front ++ []) r.0 r.0 (sym (append-nil front)) refl r.1)
Stands-begins BareEscape front s = let r =
    Reads-from_word (front ++ 32 ∷ []) IsBareWord bare_spells (bare_escaped front 32 refl s) in (32 ∷ [], r.0, r.1)
Stands-begins Quoted front s = let r =
    Reads-from_word (front ++ 34 ∷ []) IsQuotedWord quoted_spells
    (Stands-step Quoted front 34 Quote (classes.quote refl) s) in (34 ∷ [], r.0, r.1)
Stands-begins QuotedEscape front s =
    let t = Stands-step Quoted (front ++ 32 ∷ []) 34 Quote (classes.quote refl) (quoted_escaped front 32 refl s) in
    let r = Reads-from_word ((front ++ 32 ∷ []) ++ 34 ∷ []) IsQuotedWord quoted_spells t in (
      32 ∷ 34 ∷ [],
      r.0,
      Reads-at ((front ++ 32 ∷ []) ++ 34 ∷ []) (front ++ 32 ∷ 34 ∷ [])
          r.0 r.0 (append_assoc front (32 ∷ []) (34 ∷ [])) refl r.1,
    )
Stands-begins Closed front s = let r = Reads-from_word front IsQuotedWord quoted_spells s in
    ([], r.0, Reads-at front (front ++ []) r.0 r.0 (sym (append-nil front)) refl r.1)

-- What begins a line, its fronts begin too.
pub Begins-front : (a b : List ℕ) → Begins (a ++ b) → Begins a
Begins-front a b h = (
  b ++ h.0,
  h.1,
  Reads-at ((a ++ b) ++ h.0) (a ++ (b ++ h.0)) h.1 h.1 (append_assoc a b h.0) refl h.2,
)
