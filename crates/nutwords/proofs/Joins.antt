-- Laws of the grammar: what reads apart, and a line after it.
use Rattle.std.proofs.Common.{ℕ, Bool, List, [], ◌∷◌, ◌++◌, sym, subst, ap, ◌∙◌}
use Rattle.std.proofs.Common.{append_assoc, append-nil}
use Rattle.std.specs.Prelude.{IsTrue}
use Rattle.nutwords.specs.Bytes.{is_blank}
use Rattle.nutwords.specs.Grammar.{Units, none, itself, escaped, Spells, WordEndsBefore, Reads, end}
use Rattle.nutwords.specs.Grammar.{blank, word, ReadsToBoundary, nothing, before_blank}

-- one unit more at the end
pub Units-append : (may_stand : ℕ → Bool) (text more w v : List ℕ) →
    Units may_stand text w → Units may_stand more v → Units may_stand (text ++ more) (w ++ v)
Units-append p _ more _ v none m = m
Units-append p _ more _ v (itself {b = b} {text = text} {word = w} h u) m = itself h (Units-append p text more w v u m)
Units-append p _ more _ v (escaped {b = b} {text = text} {word = w} h u) m =
    escaped h (Units-append p text more w v u m)

-- what stands apart, with more after it, also stands apart
apart_more : (rest : List ℕ) (b : ℕ) (more : List ℕ) → WordEndsBefore rest →
    IsTrue (is_blank b) → WordEndsBefore (rest ++ b ∷ more)
apart_more [] b more s h = h
apart_more (c ∷ rest) b more s h = s

-- a line, a blank and another line
pub Reads-join : (line more : List ℕ) (b : ℕ) (ws vs : List (List ℕ)) → Reads line ws →
    IsTrue (is_blank b) → Reads more vs → Reads (line ++ b ∷ more) (ws ++ vs)
Reads-join _ more b _ vs end h r = blank h r
Reads-join _ more b ws vs (blank {b = c} {line = line} {words = ws'} k l) h r =
    blank k (Reads-join line more b ws' vs l h r)
Reads-join line more b _ vs (word {text = text} {rest = rest} {word = w} {words = ws} e s a l) h r =
    word (ap (λ x. x ++ b ∷ more) e ∙ append_assoc text rest (b ∷ more)) s
    (apart_more rest b more a h) (Reads-join rest more b ws vs l h r)

-- the same of what reads apart
pub Reads-behind : (front more : List ℕ) (ws vs : List (List ℕ)) →
    ReadsToBoundary front ws → Reads more vs → Reads (front ++ more) (ws ++ vs)
Reads-behind _ more _ vs nothing r = r
Reads-behind front more ws vs (before_blank {line = line} b l h e) r =
    subst (λ x. Reads x (ws ++ vs))
    (sym (ap (λ x. x ++ more) e ∙ append_assoc line (b ∷ []) more)) (Reads-join line more b ws vs l h r)

-- a single word is a line
pub Reads-word : (text w : List ℕ) → Spells text w → Reads text (w ∷ [])
Reads-word text w s = word (sym (append-nil text)) s tt end
