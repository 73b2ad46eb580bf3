-- A text of answers is cut into them in one way.
use Rattle.std.proofs.Common.{◌≡◌, ℕ, true, false, List, [], ◌∷◌, ◌++◌, Some}
use Rattle.std.proofs.Common.{refl, sym, ap, ◌∙◌, subst, append_assoc, All}
use Rattle.std.specs.List.{concat}
use Rattle.std.proofs.lemmas.List.Elements.{All-head, All-tail}
use Rattle.nutwords.specs.SplitLine.{split_line}
use Rattle.nutwords.specs.Cut.{has_lf}
use Rattle.nutwords.specs.SplitLine.{with_lf}
use Rattle.nutwords.specs.Answers.{begins_listing, ends_listing, GoesToEnd, ends, goes_on, IsAnswer}
use Rattle.nutwords.specs.Answers.{one_line, listing, FirstAnswersAreTheFirst}
use Rattle.nutwords.specs.Answers.{AnswersAreCutInOneWay}
use Rattle.nutwords.proofs.Pieces.{parts}
use Rattle.nutwords.proofs.Splits.{line-cut}

-- two first lines of a text are the same, and so is what follows them
pub one_line_first : (l m x y : List ℕ) → has_lf l ≡ false → has_lf m ≡ false → with_lf l ++
    x ≡ with_lf m ++ y → (l ≡ m) × (x ≡ y)
one_line_first l m x y h k e =
    let mine = line-cut (with_lf l ++ x) l x (append_assoc l (10 ∷ []) x) h in
    let other = line-cut (with_lf l ++ x) m y (e ∙ append_assoc m (10 ∷ []) y) k in
    parts l x m y (sym mine ∙ other)

-- and so of what stands after the first line of a text
one_line_behind : (l m s t x y : List ℕ) → has_lf l ≡ false → has_lf m ≡ false →
    (with_lf l ++ s) ++ x ≡ (with_lf m ++ t) ++ y → (l ≡ m) × (s ++ x ≡ t ++ y)
one_line_behind l m s t x y h k e =
    one_line_first l m (s ++ x) (t ++ y) h k (sym (append_assoc (with_lf l) s x) ∙ e ∙ append_assoc (with_lf m) t y)

both : (l m s t : List ℕ) → l ≡ m → s ≡ t → with_lf l ++ s ≡ with_lf m ++ t
both l m s t e f = ap (λ z. with_lf z ++ s) e ∙ ap (λ z. with_lf m ++ z) f

one_end : (a b x y : List ℕ) → GoesToEnd a → GoesToEnd b → a ++ x ≡ b ++ y → (a ≡ b) × (x ≡ y)
one_end _ _ x y (ends l h e) (ends m k f) same = let p = one_line_first l m x y h k same in (ap with_lf p.0, p.1)
one_end _ _ x y (ends l h e) (goes_on m t k f rest) same =
    let p = one_line_first l m x (t ++ y) h k (same ∙ append_assoc (with_lf m) t y) in
    let ended : ends_listing m ≡ true = subst (λ z. ends_listing z ≡ true) p.0 e in
    absurd (cc)
one_end _ _ x y (goes_on l s h e rest) (ends m k f) same =
    let p = one_line_first l m (s ++ x) y h k (sym (append_assoc (with_lf l) s x) ∙ same) in
    let going : ends_listing m ≡ false = subst (λ z. ends_listing z ≡ false) p.0 e in
    absurd (cc)
one_end _ _ x y (goes_on l s h e rest) (goes_on m t k f more) same =
    let p = one_line_behind l m s t x y h k same in
    let q = one_end s t x y rest more p.1 in
    (both l m s t p.0 q.0, q.1)

one_answer : (a b x y : List ℕ) → IsAnswer a → IsAnswer b → a ++ x ≡ b ++ y → (a ≡ b) × (x ≡ y)
one_answer _ _ x y (one_line l h e) (one_line m k f) same = let p =
    one_line_first l m x y h k same in (ap with_lf p.0, p.1)
one_answer _ _ x y (one_line l h e) (listing m t k f rest) same =
    let p = one_line_first l m x (t ++ y) h k (same ∙ append_assoc (with_lf m) t y) in
    let alone : begins_listing m ≡ false = subst (λ z. begins_listing z ≡ false) p.0 e in
    absurd (cc)
one_answer _ _ x y (listing l s h e rest) (one_line m k f) same =
    let p = one_line_first l m (s ++ x) y h k (sym (append_assoc (with_lf l) s x) ∙ same) in
    let begins : begins_listing m ≡ true = subst (λ z. begins_listing z ≡ true) p.0 e in
    absurd (cc)
one_answer _ _ x y (listing l s h e rest) (listing m t k f more) same =
    let p = one_line_behind l m s t x y h k same in
    let q = one_end s t x y rest more p.1 in
    (both l m s t p.0 q.0, q.1)

-- an answer isn't empty
some_byte : (l x : List ℕ) → with_lf l ++ x ≡ [] → ⊥
some_byte [] x e = cc e
some_byte (b ∷ l) x e = cc e

not_empty : (a x : List ℕ) → IsAnswer a → a ++ x ≡ [] → ⊥
not_empty _ x (one_line l h e) none = some_byte l x none
not_empty _ x (listing l s h e rest) none = some_byte l (s ++ x) (sym (append_assoc (with_lf l) s x) ∙ none)

pub first_answers : FirstAnswersAreTheFirst
first_answers answers [] rest h k e = (answers, refl, e)
first_answers [] (f ∷ fs) rest h k e =
    absurd (not_empty f (concat fs ++ rest) (All-head IsAnswer f fs k) (sym (append_assoc f (concat fs) rest) ∙ e))
first_answers (a ∷ others) (f ∷ fs) rest h k e =
    let p = one_answer f a (concat fs ++ rest) (concat others) (All-head IsAnswer f fs k)
    (All-head IsAnswer a others h) (sym (append_assoc f (concat fs) rest) ∙ e) in
    let q = first_answers others fs rest (All-tail IsAnswer a others h) (All-tail IsAnswer f fs k) p.1 in
    (q.0, ap (λ z. f ∷ z) q.1 ∙ ap (λ z. z ∷ others) p.0, q.2)

pub one_way : AnswersAreCutInOneWay
one_way [] [] h k e = refl
one_way [] (o ∷ os) h k e = absurd (not_empty o (concat os) (All-head IsAnswer o os k) e)
one_way (a ∷ others) [] h k e = absurd (not_empty a (concat others) (All-head IsAnswer a others h) (sym e))
one_way (a ∷ others) (o ∷ os) h k e =
    let p = one_answer o a (concat os) (concat others) (All-head IsAnswer o os k) (All-head IsAnswer a others h) e in
    let q = one_way others os (All-tail IsAnswer a others h) (All-tail IsAnswer o os k) p.1 in
    ap (λ z. o ∷ z) q ∙ ap (λ z. z ∷ others) p.0
