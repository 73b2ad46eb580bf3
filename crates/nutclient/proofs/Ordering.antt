-- Whether an order was sent, of requests of which some were sent.
use Rattle.std.proofs.Common.{◌≡◌, ℕ, Bool, true, false, List, [], ◌∷◌, ◌++◌, Option, Some, None}
use Rattle.std.proofs.Common.{Err, refl, sym, ap, ◌∙◌, append_assoc, append-nil, drop, length, arith}
use Rattle.std.specs.Prelude.{◌||◌, ◌&&◌, eqb}
use Rattle.std.specs.List.{join_with_byte, starts_with}
use Rattle.std.specs.Io.KnownBytes.{Appends}
use Rattle.std.proofs.Math.Seq.{drop-append_seam}
use Rattle.std.proofs.lemmas.Bool.Decides.{Decides-eqb}
use Rattle.std.proofs.lemmas.List.{length-append}
use Rattle.std.proofs.lemmas.Slice.Eq.{starts_is}
use Rattle.nutrequest.specs.Orders.{is_order, has_order_in, IsSentOf, NotesOrder}
use Rattle.nutrequest.specs.Request.{request_line, request_words}
use Rattle.nutrequest.specs.declared.item.Item.{Item}
use Rattle.nutrequest.specs.declared.request.Request.{Request}
use Rattle.nutrequest.specs.declared.faults.ClientFault.{ClientFault}
use Rattle.nutclient.specs.Requests.{TakesOrders}

-- what begins with some bytes
begins : (xs more : List ℕ) → starts_with eqb (xs ++ more) xs ≡ true
begins xs more = (starts_is Decides-eqb (xs ++ more) xs (starts_with eqb (xs ++ more) xs) refl).1 more refl

too_short : (front : List ℕ) (next : ℕ) (rest more : List ℕ) → front ≡
    (front ++ next ∷ rest) ++ more → ⊥
too_short front next rest more e =
    omega (arith, ap length e, length-append (front ++ next ∷ rest) more, length-append front (next ∷ rest))

-- what ends before them doesn't
stops_before : (front : List ℕ) (next : ℕ) (rest : List ℕ) →
    starts_with eqb front (front ++ next ∷ rest) ≡ false
stops_before front next rest = by (starts_with eqb front (front ++ next ∷ rest))
    (starts_is Decides-eqb front (front ++ next ∷ rest) (starts_with eqb front (front ++ next ∷ rest)) refl).0
  where
    by : (b : Bool) → (b ≡ true → front ≡ (front ++ next ∷ rest) ++
        drop (length (front ++ next ∷ rest)) front)
        → b ≡ false
    by true h = absurd (too_short front next rest (drop (length (front ++ next ∷ rest)) front) (h refl))
    by false h = refl

no_line : (xs : List ℕ) → starts_with eqb [] (xs ++ 10 ∷ []) ≡ false
no_line [] = stops_before [] 10 []
no_line (x ∷ xs) = stops_before [] x (xs ++ 10 ∷ [])

-- nothing is no order
in_nothing : (left : List Request) → has_order_in left [] ≡ false
in_nothing [] = refl
in_nothing (r ∷ left) =
    ap (λ b. b && (is_order r || has_order_in left (drop (length (request_line r)) [])))
    (no_line (join_with_byte 32 (request_words r)))

or_false : (b : Bool) → (b || false) ≡ b
or_false true = refl
or_false false = refl

or_assoc : (a b c : Bool) → (a || (b || c)) ≡ ((a || b) || c)
or_assoc true b c = refl
or_assoc false b c = refl

-- in what begins with the next line
pub in_next : (r : Request) (left : List Request) (more : List ℕ)
    → has_order_in (r ∷ left) (request_line r ++ more) ≡ (is_order r || has_order_in left more)
in_next r left more =
    ap (λ b. b && (is_order r || has_order_in left (drop (length (request_line r)) (request_line r ++ more))))
    (begins (request_line r) more)
    ∙ ap (λ bs. is_order r || has_order_in left bs) (drop-append_seam (request_line r) more)

-- in the next line, or less
in_line : (r : Request) (left : List Request) (front : List ℕ) (whole : Bool) →
    IsSentOf (request_line r) front whole → has_order_in (r ∷ left) front ≡ (whole && is_order r)
in_line r left front true h =
    ap (has_order_in (r ∷ left)) (h ∙ sym (append-nil (request_line r))) ∙ in_next r left []
    ∙ ap (λ b. is_order r || b) (in_nothing left) ∙ or_false (is_order r)
in_line r left front false h =
    ap (λ b. b && (is_order r || has_order_in left (drop (length (request_line r)) front)))
    (ap (starts_with eqb front) h.2 ∙ stops_before front h.0 h.1)

appends_nothing : (a : Option (List ℕ)) → Appends a a []
appends_nothing None = tt
appends_nothing (Some xs) = sym (append-nil xs)

appends_joins : (a b c : Option (List ℕ)) (x y : List ℕ) → Appends a b x → Appends b c y →
    Appends a c (x ++ y)
appends_joins None b c x y h k = tt
appends_joins (Some xs) None c x y h k = absurd h
appends_joins (Some xs) (Some ys) None x y h k = absurd k
appends_joins (Some xs) (Some ys) (Some zs) x y h k = k ∙ ap (λ t. t ++ y) h ∙ append_assoc xs x y

module _ {W : Type 0} (con : W → Option (List ℕ)) (all : List Request) (before : Bool) (writer : W) where
  -- Of all requests these are left: what was taken of those before, and whether an order's line is
  -- in it.
  pub record IsOrdering (left : List Request) (now : Bool) (sent : W) : Type 0 where
    pub bytes : List ℕ
    pub taken : Appends (con writer) (con sent) bytes
    pub noted : (more : List ℕ)
        → (before || has_order_in all (bytes ++ more)) ≡ (now || has_order_in left more)

  pub ordering_starts : IsOrdering all before writer
  ordering_starts = record {
    bytes = [];
    taken = appends_nothing (con writer);
    noted = λ more. refl;
  }

  -- one line more is sent
  pub ordering_goes_on : (r : Request) (left : List Request) (now next : Bool) (mid sent : W)
      → IsOrdering (r ∷ left) now mid → Appends (con mid) (con sent) (request_line r)
      → next ≡ (now || is_order r) → IsOrdering left next sent
  ordering_goes_on r left now next mid sent i h e = record {
    bytes = i.bytes ++ request_line r;
    taken = appends_joins (con writer) (con mid) (con sent) i.bytes (request_line r) i.taken h;
    noted = λ more. ap (λ bs. before || has_order_in all bs) (append_assoc i.bytes (request_line r) more)
        ∙ i.noted (request_line r ++ more) ∙ ap (λ b. now || b) (in_next r left more)
        ∙ or_assoc now (is_order r) (has_order_in left more)
        ∙ ap (λ b. b || has_order_in left more) (sym e);
  }

  -- the next one isn't granted
  pub ordering_stops : (r : Request) (left : List Request) (now next : Bool) (mid sent : W)
      (fault : ClientFault) → IsOrdering (r ∷ left) now mid
      → NotesOrder {A = List Item} con r mid sent now (Err fault) next
      → TakesOrders con all writer sent before next
  ordering_stops r left now next mid sent fault i o = (
    i.bytes ++ o.1,
    appends_joins (con writer) (con mid) (con sent) i.bytes o.1 i.taken o.3,
    o.4 ∙ ap (λ b. now || b) (sym (in_line r left o.1 o.0 o.2)) ∙ sym (i.noted o.1),
  )

  -- all are granted
  pub ordering_ends : (now : Bool) (sent : W) → IsOrdering [] now sent → TakesOrders con all writer sent before now
  ordering_ends now sent i = (
    i.bytes,
    i.taken,
    sym (or_false now) ∙ sym (i.noted []) ∙ ap (λ bs. before || has_order_in all bs) (append-nil i.bytes),
  )
