-- Cutting a text that comes in pieces.
use Rattle.std.proofs.Common.{◌≡◌, ℕ, zero, suc, ◌+◌, ◌<◌, ◌≤◌, ◌↔◌}
use Rattle.std.proofs.Common.{inl, inr, true, false, eqb, List, [], ◌∷◌, ◌++◌, length}
use Rattle.std.proofs.Common.{take, drop, Option, Some, None, refl, sym, ap, subst, ◌∙◌}
use Rattle.std.proofs.Common.{arith, append_assoc, append-nil, length-append}
use Rattle.std.specs.List.{concat, flat_map}
use Rattle.std.proofs.Math.Seq.{drop-append-add}
use Rattle.std.proofs.lemmas.Bool.{eqb-true, cases_lt}
use Rattle.std.proofs.lemmas.List.{take-append-le}
use Rattle.nutwords.specs.SplitLine.{split_line}
use Rattle.nutwords.specs.Lines.{Tail, Unfinished, Overlong, IsCutInto, line, unfinished, overlong}
use Rattle.nutwords.specs.Lines.{CutsPieces, a_line, no_line_yet, too_long, all_used}
use Rattle.nutwords.specs.declared.limits.TheConstants.{LINE_ROOM}
use Rattle.nutwords.proofs.Lines.{split_line-other, split_line-append, none-of_map, with_byte, with_front}

pub some_none : {A : Type 0} {x : A} → Some x ≡ None → ⊥
some_none h = cc

-- the parts of a split that is known in two ways
front_of : Option (List ℕ × List ℕ) → List ℕ
front_of None = []
front_of (Some s) = s.0

rest_of : Option (List ℕ × List ℕ) → List ℕ
rest_of None = []
rest_of (Some s) = s.1

pub parts : (a b c d : List ℕ) →
    ◌≡◌ {A = Option (List ℕ × List ℕ)} (Some (a, b)) (Some (c, d)) → (a ≡ c) × (b ≡ d)
unfolding front_of rest_of
parts a b c d h = (ap front_of h, ap rest_of h)

-- what a byte more before the first line leaves
pub with_byte-some : (x : ℕ) (o : Option (List ℕ × List ℕ)) (first rest : List ℕ) →
    with_byte x o ≡ Some (first, rest) → (more : List ℕ) × (o ≡ Some (more, rest)) × (first ≡ x ∷ more)
with_byte-some x None first rest h = absurd (some_none (sym h))
with_byte-some x (Some s) first rest h = let p = parts (x ∷ s.0) s.1 first rest h in
    (s.0, ap (λ r. Some (s.0, r)) p.1, sym p.0)

-- the first byte of a text is an LF, or another byte of its first line
pub at_lf : (x : ℕ) (text : List ℕ) → eqb x 10 ≡ true → split_line (x ∷ text) ≡ Some ([], text)
at_lf x text h = rw h

-- The bytes are the first line, its LF and the rest.
pub split_line-whole : (text first rest : List ℕ) → split_line text ≡ Some (first, rest) →
    text ≡ first ++ 10 ∷ rest
split_line-whole [] first rest h = absurd (some_none (sym h))
split_line-whole (x ∷ text) first rest h =
    elim (eqb x 10) as (λ v. eqb x 10 ≡ v → x ∷ text ≡ first ++ 10 ∷ rest) [
      | true ↦ λ e.
          let p = parts [] text first rest (sym (at_lf x text e) ∙ h) in
          ap (λ y. y ∷ text) (eqb-true x 10 e) ∙ ap (λ r. 10 ∷ r) p.1 ∙ ap (λ f. f ++ 10 ∷ rest) p.0
      | false ↦ λ e.
          let s = with_byte-some x (split_line text) first rest (sym (split_line-other x text e) ∙ h) in
          ap (λ t. x ∷ t) (split_line-whole text s.0 rest s.1) ∙ ap (λ f. f ++ 10 ∷ rest) (sym s.2)
    ] refl

-- Bytes after a whole line belong to the rest.
pub split_line-more : (text more first rest : List ℕ) → split_line text ≡
    Some (first, rest) → split_line (text ++ more) ≡ Some (first, rest ++ more)
split_line-more [] more first rest h = absurd (some_none (sym h))
split_line-more (x ∷ text) more first rest h =
    elim (eqb x 10) as (λ v. eqb x 10 ≡ v → split_line (x ∷ (text ++ more)) ≡ Some (first, rest ++ more)) [
      | true ↦ λ e.
          let p = parts [] text first rest (sym (at_lf x text e) ∙ h) in
          at_lf x (text ++ more) e ∙ ap (λ f. Some (f, text ++ more)) p.0 ∙ ap (λ r. Some (first, r ++ more)) p.1
      | false ↦ λ e.
          let s = with_byte-some x (split_line text) first rest (sym (split_line-other x text e) ∙ h) in
          split_line-other x (text ++ more) e ∙
          ap (with_byte x) (split_line-more text more s.0 rest s.1) ∙ ap (λ f. Some (f, rest ++ more)) (sym s.2)
    ] refl

-- A front of bytes that have no LF.
pub split_line-front : (n : ℕ) (text : List ℕ) → split_line text ≡ None → split_line (take n text) ≡ None
split_line-front zero text h = refl
split_line-front (suc n) [] h = refl
split_line-front (suc n) (x ∷ text) h =
    elim (eqb x 10) as (λ v. eqb x 10 ≡ v → split_line (x ∷ take n text) ≡ None) [
      | true ↦ λ e. absurd (some_none (sym (at_lf x text e) ∙ h))
      | false ↦ λ e. split_line-other x (take n text) e ∙
          ap (with_byte x) (split_line-front n text
          (none-of_map (λ s. (x ∷ s.0, s.1)) (split_line text) (sym (split_line-other x text e) ∙ h)))
    ] refl

-- A front of the first line, and a front with all of it.
pub split_line-short : (n : ℕ) (text first rest : List ℕ) → split_line text ≡
    Some (first, rest) → n ≤ length first → split_line (take n text) ≡ None
split_line-short zero text first rest h k = refl
split_line-short (suc n) [] first rest h k = refl
split_line-short (suc n) (x ∷ text) first rest h k =
    elim (eqb x 10) as (λ v. eqb x 10 ≡ v → split_line (x ∷ take n text) ≡ None) [
      | true ↦ λ e. let p = ap length (parts [] text first rest (sym (at_lf x text e) ∙ h)).0
          in absurd (omega (arith, p, k))
      | false ↦ λ e.
          let s = with_byte-some x (split_line text) first rest (sym (split_line-other x text e) ∙ h) in
          let l = ap length s.2 in
          split_line-other x (take n text) e ∙
          ap (with_byte x) (split_line-short n text s.0 rest s.1 (omega (arith, l, k)))
    ] refl

pub split_line-long : (n : ℕ) (text first rest : List ℕ) → split_line text ≡
    Some (first, rest) → length first < n → split_line (take n text) ≡ None → ⊥
split_line-long zero text first rest h k none = absurd (omega (arith, k))
split_line-long (suc n) [] first rest h k none = some_none (sym h)
split_line-long (suc n) (x ∷ text) first rest h k none =
    elim (eqb x 10) as (λ v. eqb x 10 ≡ v → ⊥) [
      | true ↦ λ e. some_none (sym (at_lf x (take n text) e) ∙ none)
      | false ↦ λ e.
          let s = with_byte-some x (split_line text) first rest (sym (split_line-other x text e) ∙ h) in
          let l = ap length s.2 in
          split_line-long n text s.0 rest s.1 (omega (arith, l, k))
          (none-of_map (λ s. (x ∷ s.0, s.1)) (split_line (take n text))
          (sym (split_line-other x (take n text) e) ∙ none))
    ] refl

-- What pieces give is what their joined text gives.
pub CutsPieces-cut : (held : List ℕ) (pieces lines : List (List ℕ)) (tail : Tail) →
    split_line held ≡ None → length held < LINE_ROOM → CutsPieces held pieces lines tail →
    IsCutInto (held ++ concat pieces) lines tail
CutsPieces-cut held _ _ _ h k all_used =
    subst (λ t. IsCutInto t [] (Unfinished held)) (sym (append-nil held)) (unfinished h k)
CutsPieces-cut held _ _ tail h k (a_line {piece = piece} {after = after} {pieces = pieces}
    {lines = lines} first used c r) =
    let s = split_line-more (held ++ piece) (concat pieces) first.items (drop used piece) c.0 in
    let l = ap length c.3 in
    let inner = CutsPieces-cut after (drop used piece ∷ pieces) lines tail (ap split_line c.3) (omega (arith, l)) r in
    line (ap split_line (sym (append_assoc held piece (concat pieces))) ∙ s) c.2
    (subst (λ a. IsCutInto (a ++ (drop used piece ++ concat pieces)) lines tail) c.3 inner)
CutsPieces-cut held _ lines tail h k (no_line_yet {piece = piece} {after = after} {pieces = pieces} c r) =
    let l = ap length c.2 in
    let inner = CutsPieces-cut after pieces lines tail (ap split_line c.2 ∙ c.0) (omega (arith, l, c.1)) r in
    subst (λ t. IsCutInto t lines tail)
    (ap (λ a. a ++ concat pieces) c.2 ∙ append_assoc held piece (concat pieces)) inner
CutsPieces-cut held _ _ _ h k (too_long {piece = piece} {pieces = pieces} c) =
    let l = length-append (held ++ piece) (concat pieces) in
    subst (λ t. IsCutInto t [] Overlong) (append_assoc held piece (concat pieces))
    (overlong (ap split_line (take-append-le LINE_ROOM (held ++ piece) (concat pieces) c.1) ∙ c.0)
    (omega (arith, l, c.1)))

-- A text is cut in one way.
pub IsCutInto-one : (text : List ℕ) (lines others : List (List ℕ)) (tail end : Tail) →
    IsCutInto text lines tail → IsCutInto text others end → (others ≡ lines) × (end ≡ tail)
IsCutInto-one text _ _ tail end (line {rest = rest} {first = first} {lines = lines} s k r)
    (line {rest = rest'} {first = first'} {lines = lines'} s' k' r') =
    let p = parts first rest first' rest' (sym s ∙ s') in
    let q = IsCutInto-one rest lines lines' tail end r (subst (λ t. IsCutInto t lines' end) (sym p.1) r') in
    (ap (λ ls. first' ∷ ls) q.0 ∙ ap (λ f. f ∷ lines) (sym p.0), q.1)
IsCutInto-one text _ _ tail _ (line s k r) (unfinished s' k') = absurd (some_none (sym s ∙ s'))
IsCutInto-one text _ _ tail _ (line {rest = rest} {first = first} s k r) (overlong s' k') =
    absurd (split_line-long LINE_ROOM text first rest s k s')
IsCutInto-one text _ _ _ end (unfinished s k) (line s' k' r') = absurd (some_none (sym s' ∙ s))
IsCutInto-one text _ _ _ _ (unfinished s k) (unfinished s' k') = (refl, refl)
IsCutInto-one text _ _ _ _ (unfinished s k) (overlong s' k') = absurd (omega (arith, k, k'))
IsCutInto-one text _ _ _ end (overlong s k) (line {rest = rest} {first = first} s' k' r') =
    absurd (split_line-long LINE_ROOM text first rest s' k' s)
IsCutInto-one text _ _ _ _ (overlong s k) (unfinished s' k') = absurd (omega (arith, k, k'))
IsCutInto-one text _ _ _ _ (overlong s k) (overlong s' k') = (refl, refl)

-- The lines, each with its LF, and the unfinished line are all of the text.
pub IsCutInto-whole : (text rest : List ℕ) (lines : List (List ℕ)) (tail : Tail) →
    IsCutInto text lines tail → tail ≡ Unfinished rest → text ≡
    flat_map (λ whole. whole ++ 10 ∷ []) lines ++ rest
IsCutInto-whole text rest _ tail (line {rest = behind} {first = first} {lines = lines} s k r) e =
    split_line-whole text first behind s
    ∙ ap (λ t. first ++ 10 ∷ t) (IsCutInto-whole behind rest lines tail r e)
    ∙ sym (append_assoc first (10 ∷ []) (flat_map (λ whole. whole ++ 10 ∷ []) lines ++ rest))
    ∙ sym (append_assoc (first ++ 10 ∷ []) (flat_map (λ whole. whole ++ 10 ∷ []) lines) rest)
IsCutInto-whole text rest _ _ (unfinished s k) e = unfinished_is text rest e
  where
    unfinished_is : (a b : List ℕ) → Unfinished a ≡ Unfinished b → a ≡ b
    unfinished_is a b h = cc
IsCutInto-whole text rest _ _ (overlong s k) e = absurd (other e)
  where
    other : Overlong ≡ Unfinished rest → ⊥
    other h = cc

-- Where the first line ends in the piece.
pub split_line-behind : (held piece first rest : List ℕ) → split_line held ≡ None →
    split_line (held ++ piece) ≡ Some (first, rest) → (inner : List ℕ) ×
    (first ≡ held ++ inner) × (piece ≡ inner ++ 10 ∷ rest)
split_line-behind held piece first rest none h = go (split_line piece) refl
  where
    go : (o : Option (List ℕ × List ℕ)) → split_line piece ≡ o → (inner : List ℕ) ×
        (first ≡ held ++ inner) × (piece ≡ inner ++ 10 ∷ rest)
    go None e = absurd (some_none (sym h ∙ split_line-append held piece none ∙ ap (with_front held) e))
    go (Some s) e =
        let p = parts (held ++ s.0) s.1 first rest
        (sym (split_line-append held piece none ∙ ap (with_front held) e) ∙ h) in
        (s.0, sym p.0, split_line-whole piece s.0 s.1 e ∙ ap (λ r. s.0 ++ 10 ∷ r) p.1)

-- how much is left to be handed in
weight : List (List ℕ) → ℕ
weight [] = 0
weight (piece ∷ pieces) = suc (length piece + weight pieces)

-- what a cutter makes of the pieces
abbrev pub Outcome : List ℕ → List (List ℕ) → Type 0
Outcome held pieces = (lines : List (List ℕ)) × (tail : Tail) × CutsPieces held pieces lines tail

module _ (held piece : List ℕ) (pieces : List (List ℕ)) (none : split_line held ≡ None)
    (short : length held < LINE_ROOM) where
  -- the next answer is a line
  next_line : (first rest : List ℕ) → split_line (held ++ piece) ≡ Some (first, rest) →
      length first < LINE_ROOM → ((left : List ℕ) → length left < length piece →
      Outcome [] (left ∷ pieces)) → Outcome held (piece ∷ pieces)
  next_line first rest e k goes_on =
      let b = split_line-behind held piece first rest none e in
      let used : ℕ = length b.0 + 1 in
      let left : drop used piece ≡ rest = ap (drop used) b.2 ∙ drop-append-add b.0 (10 ∷ rest) 1 in
      let l : length piece ≡ length b.0 + suc (length rest) = ap length b.2 ∙ length-append b.0 (10 ∷ rest) in
      let m = ap length left in
      let o = goes_on (drop used piece) (omega (arith, l, m)) in (
        first ∷ o.0,
        o.1,
        a_line (record { items = first }) used
            (e ∙ ap (λ r. Some (first, r)) (sym left), omega (arith, l), k, refl) o.2,
      )

  -- or that the bytes are too long
  next_too_long : split_line (take LINE_ROOM (held ++ piece)) ≡ None → LINE_ROOM ≤
      length (held ++ piece) → Outcome held (piece ∷ pieces)
  next_too_long e k = ([], Overlong, too_long (e, k, refl))

  next : ((left : List ℕ) → length left < length piece → Outcome [] (left ∷ pieces)) →
      (split_line (held ++ piece) ≡ None → length (held ++ piece) < LINE_ROOM →
      Outcome (held ++ piece) pieces) → Outcome held (piece ∷ pieces)
  next goes_on holds = go (split_line (held ++ piece)) refl
    where
      go : (o : Option (List ℕ × List ℕ)) → split_line (held ++ piece) ≡ o → Outcome held (piece ∷ pieces)
      go None e = elim (cases_lt (length (held ++ piece)) LINE_ROOM) [
        | inl k ↦ let o = holds e k in (o.0, o.1, no_line_yet (e, k, refl) o.2)
        | inr k ↦ next_too_long (split_line-front LINE_ROOM (held ++ piece) e) k
      ]
      go (Some s) e = elim (cases_lt (length s.0) LINE_ROOM) [
        | inl k ↦ next_line s.0 s.1 e k goes_on
        | inr k ↦
            let l = ap length (split_line-whole (held ++ piece) s.0 s.1 e) ∙ length-append s.0 (10 ∷ s.1) in
            next_too_long (split_line-short LINE_ROOM (held ++ piece) s.0 s.1 e k) (omega (arith, l, k))
      ]

-- A cutter comes to the end of any pieces.
CutsPieces-ends : (n : ℕ) (held : List ℕ) (pieces : List (List ℕ)) → weight pieces < n →
    split_line held ≡ None → length held < LINE_ROOM → Outcome held pieces
unfolding weight
CutsPieces-ends zero held pieces w h k = absurd (omega (arith, w))
CutsPieces-ends (suc n) held [] w h k = ([], Unfinished held, all_used)
CutsPieces-ends (suc n) held (piece ∷ pieces) w h k =
    next held piece pieces h k
    (λ left shorter. CutsPieces-ends n [] (left ∷ pieces) (omega (arith, w, shorter)) refl (omega arith))
    (λ none short. CutsPieces-ends n (held ++ piece) pieces (omega (arith, w)) none short)

-- A new cutter gives exactly the lines of the joined text.
pub pieces_give_the_lines : (pieces lines : List (List ℕ)) (tail : Tail) →
    CutsPieces [] pieces lines tail ↔ IsCutInto (concat pieces) lines tail
pieces_give_the_lines pieces lines tail = (λ r. CutsPieces-cut [] pieces lines tail refl (omega arith) r, back)
  where
    back : IsCutInto (concat pieces) lines tail → CutsPieces [] pieces lines tail
    back c =
        let o = CutsPieces-ends (suc (weight pieces)) [] pieces (omega arith) refl (omega arith) in
        let one = IsCutInto-one (concat pieces) lines o.0 tail o.1 c
        (CutsPieces-cut [] pieces o.0 o.1 refl (omega arith) o.2) in
        subst (λ t. CutsPieces [] pieces lines t) one.1 (subst (λ ls. CutsPieces [] pieces ls o.1) one.0 o.2)

-- Pieces of the same text give the same.
pub cuts_do_not_matter : (pieces others lines : List (List ℕ)) (tail : Tail) → concat others ≡
    concat pieces → CutsPieces [] pieces lines tail → CutsPieces [] others lines tail
cuts_do_not_matter pieces others lines tail same gives =
    (pieces_give_the_lines others lines tail).1
    (subst (λ t. IsCutInto t lines tail) (sym same) ((pieces_give_the_lines pieces lines tail).0 gives))

-- Each text is cut.
pub IsCutInto-some : (text : List ℕ) → (lines : List (List ℕ)) × (tail : Tail) × IsCutInto text lines tail
IsCutInto-some text =
    let o = CutsPieces-ends (suc (weight (text ∷ []))) [] (text ∷ []) (omega arith) refl (omega arith) in (
      o.0,
      o.1,
      subst (λ t. IsCutInto t o.0 o.1) (append-nil text)
          (CutsPieces-cut [] (text ∷ []) o.0 o.1 refl (omega arith) o.2),
    )

-- Whole lines with more after them.
pub IsCutInto-append : (text more : List ℕ) (lines others : List (List ℕ)) (whole tail : Tail)
    → IsCutInto text lines whole → whole ≡ Unfinished [] → IsCutInto more others tail →
    IsCutInto (text ++ more) (lines ++ others) tail
IsCutInto-append text more _ others whole tail (line {rest = rest} {first = first} {lines = lines} s k r) e m =
    line (split_line-more text more first rest s) k (IsCutInto-append rest more lines others whole tail r e m)
IsCutInto-append text more _ others _ tail (unfinished s k) e m =
    subst (λ t. IsCutInto (t ++ more) others tail) (sym (nothing text e)) m
  where
    nothing : (a : List ℕ) → Unfinished a ≡ Unfinished [] → a ≡ []
    nothing a h = cc
IsCutInto-append text more _ others _ tail (overlong s k) e m = absurd (other e)
  where
    other : Overlong ≡ Unfinished [] → ⊥
    other h = cc
