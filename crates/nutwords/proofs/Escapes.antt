-- What a spelling stands for.
use Rattle.std.proofs.Common.{◌≡◌, ℕ, suc, ◌<◌, ◌≤◌, Bool, true, false, eqb, cond}
use Rattle.std.proofs.Common.{List, [], ◌∷◌, length, Option, Some, None, refl, ap, arith}
use Rattle.std.specs.Option.{IsSome}
use Rattle.std.specs.Prelude.{MatchOption}
use Rattle.nutwords.specs.Bytes.{is_quotable, is_bare}
use Rattle.nutwords.proofs.Classes.{quotable_bare}
use Rattle.nutwords.proofs.Splitting.{not_backslash}
use Rattle.nutwords.specs.Grammar.{Units, none, itself, escaped}
use Rattle.nutwords.specs.Split.{unescaped}

-- A word is no longer than its spelling.
pub unescaped-length : (text : List ℕ) (pending : Bool) → length (unescaped text pending) ≤ length text
unescaped-length [] pending = omega arith
unescaped-length (b ∷ text) true = omega (arith, unescaped-length text false)
unescaped-length (b ∷ text) false =
    elim (eqb b 92) as (λ v. length (cond v (unescaped text true) (b ∷ unescaped text false)) ≤
    suc (length text)) [
      | true ↦ omega (arith, unescaped-length text true)
      | false ↦ omega (arith, unescaped-length text false)
    ]

-- where there is room, there is a result
pub some_within : {A : Type 0} (P : A → Type 0) (most n : ℕ) (r : Option A) →
    MatchOption r (most < n) P → n ≤ most → IsSome r
some_within P most n None h k = absurd (omega (arith, h, k))
some_within P most n (Some x) h k = refl

-- What the grammar says that a text spells.
Units-spelled : (may_stand : ℕ → Bool) (text word : List ℕ) →
    ((b : ℕ) → may_stand b ≡ true → eqb b 92 ≡ false) → Units may_stand text word →
    unescaped text false ≡ word
Units-spelled m _ _ plain none = refl
Units-spelled m _ _ plain (itself {b = b} {text = text} {word = w} h u) =
    rw (plain b h) (ap (λ t. b ∷ t) (Units-spelled m text w plain u))
Units-spelled m _ _ plain (escaped {b = b} {text = text} {word = w} h u) =
    ap (λ t. b ∷ t) (Units-spelled m text w plain u)

pub quoted_spelled : (text word : List ℕ) → Units is_quotable text word → unescaped text false ≡ word
quoted_spelled text word u = Units-spelled is_quotable text word not_backslash u

pub bare_spelled : (text word : List ℕ) → Units is_bare text word → unescaped text false ≡ word
bare_spelled text word u = Units-spelled is_bare text word (λ b h. not_backslash b (quotable_bare b h)) u
