-- Whether an order's line is among the lines that were executed.
use Rattle.std.proofs.Common.{◌≡◌, ◌∙◌, ◌⊎◌, inl, inr, ℕ, Bool, true, false}
use Rattle.std.proofs.Common.{List, [], ◌∷◌, ◌++◌}
use Rattle.std.proofs.Common.{append_assoc, drop, length, refl, ap, subst}
use Rattle.std.specs.Prelude.{◌||◌, ◌&&◌, All, eqb}
use Rattle.std.specs.List.{starts_with}
use Rattle.std.proofs.Math.Seq.{drop-append_seam}
use Rattle.std.proofs.lemmas.Bool.Decides.{Decides-eqb}
use Rattle.std.proofs.lemmas.List.Elements.{All-head, All-tail}
use Rattle.std.proofs.lemmas.Slice.Eq.{starts_is}
use Rattle.nutwords.specs.SplitLine.{with_lf}
use Rattle.nutusers.specs.declared.ups_list.UpsId.{UpsId}
use Rattle.nutcore.specs.History.{Execution, of_line, of_notice, lines_of}
use Rattle.nutrequest.specs.Orders.{is_order, has_order_in}
use Rattle.nutrequest.specs.Request.{request_line}
use Rattle.nutrequest.specs.declared.request.Request.{Request}
use Rattle.endtoend.specs.OneOrder.{given_by_lines}
use Rattle.endtoend.specs.Served.{IsLineOf}
use Rattle.endtoend.proofs.Aligned.{AreServed, nothing, noticed, served, IsQuiet}
use Rattle.nutclient.proofs.Ordering.{in_next}

in_served : (r : Request) (left : List Request) (line lines rest : List ℕ) → IsLineOf r line
    → has_order_in (r ∷ left) ((with_lf line ++ lines) ++ rest) ≡
    (is_order r || has_order_in left (lines ++ rest))
in_served r left line lines rest asks =
    ap (has_order_in (r ∷ left)) (append_assoc (with_lf line) lines rest ∙ ap (λ t. t ++ (lines ++ rest)) asks)
    ∙ in_next r left (lines ++ rest)

or_true : (b : Bool) → (b || true) ≡ true
or_true true = refl
or_true false = refl

-- the order's line is there, or nothing was given
pub order_there : (front : List Request) (order : Request) → is_order order ≡ true → All IsQuiet front
    → (all : List Request) → all ≡ front ++ order ∷ [] → (xs : List Execution) → AreServed all xs
    → ((u : UpsId) → given_by_lines u xs ≡ [])
    ⊎ ((rest : List ℕ) → has_order_in all (lines_of xs ++ rest) ≡ true)
order_there front order orders quiet all is [] nothing = inl (λ u. refl)
order_there front order orders quiet all is (of_notice s c ∷ xs) (noticed _ _ more) =
    order_there front order orders quiet all is xs more
order_there [] order orders quiet (request ∷ all) is (of_line s c line ∷ xs) (served _ _ asks more) =
    let same : request ≡ order = cc is in
    inr (λ rest. in_served request all line (lines_of xs) rest asks
    ∙ ap (λ b. b || has_order_in all (lines_of xs ++ rest)) (ap is_order same ∙ orders))
order_there (first ∷ front) order orders quiet (request ∷ all) is (of_line s c line ∷ xs) (served _ _ asks more) =
    let same : request ≡ first = cc is in
    let rest : all ≡ front ++ order ∷ [] = cc is in
    let its : IsLineOf first line = subst (λ r. IsLineOf r line) same asks in
    let silent : IsQuiet first = All-head IsQuiet first front quiet in
    elim (order_there front order orders (All-tail IsQuiet first front quiet) all rest xs more) [
      | inl none ↦ inl (λ u. ap (λ t. t ++ given_by_lines u xs) (silent s c line its u) ∙ none u)
      | inr there ↦ inr (λ more. in_served request all line (lines_of xs) more asks
          ∙ ap (λ b. is_order request || b) (there more) ∙ or_true (is_order request))
    ]
order_there front order orders quiet [] is (of_line s c line ∷ xs) some = elim some [ ]
