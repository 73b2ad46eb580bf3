-- Which lines of a client a run executed: those of its requests, in order, as far as they came.
use Rattle.std.proofs.Common.{◌≡◌, ◌∙◌, ◌⊎◌, inl, inr, ℕ, Bool, true, false, cond, eqb, List, []}
use Rattle.std.proofs.Common.{◌∷◌, ◌++◌, append_assoc, length, length-append, unwrap_or}
use Rattle.std.proofs.Common.{refl, sym, ap, subst, arith}
use Rattle.std.specs.Prelude.{Option, Some, All}
use Rattle.std.specs.List.{flat_map, join_with_byte}
use Rattle.std.proofs.lemmas.Bool.{eq-eqb}
use Rattle.std.proofs.lemmas.List.Elements.{All-head, All-tail}
use Rattle.nutwords.specs.SplitLine.{split_line}
use Rattle.nutwords.specs.Cut.{has_lf}
use Rattle.nutwords.specs.SplitLine.{with_lf}
use Rattle.nutwords.proofs.PublicLaws.{first_line_is_cut_off}
use Rattle.nutusers.specs.declared.ups_list.UpsId.{UpsId}
use Rattle.nutcore.specs.ByRight.{IsAmong}
use Rattle.nutcore.specs.DriverOrders.{given_by_line}
use Rattle.nutcore.specs.History.{Execution, of_line, of_notice, client_of, lines_of, of_client}
use Rattle.nutcore.specs.Server.{ServerState}
use Rattle.nutrequest.specs.Request.{request_line, request_words}
use Rattle.nutrequest.specs.declared.request.Request.{Request}
use Rattle.endtoend.specs.OneOrder.{given_by_lines}
use Rattle.endtoend.specs.Served.{IsLineOf, IsReadAsAsked, command_asked}
use Rattle.endtoend.proofs.OneLine.{command-no_lf}
use Rattle.nutwords.proofs.Answers.{one_line_first}

pub data AreServed : List Request → List Execution → Type 0 where
  nothing : {requests : List Request} → AreServed requests []
  noticed : {requests : List Request} {xs : List Execution} (s : ServerState) (c : ℕ)
      → AreServed requests xs → AreServed requests (of_notice s c ∷ xs)
  served : {request : Request} {requests : List Request} {line : List ℕ} {xs : List Execution}
      (s : ServerState) (c : ℕ) → IsLineOf request line → AreServed requests xs
      → AreServed (request ∷ requests) (of_line s c line ∷ xs)

abbrev pub HasNoLf : Execution → Type 0
HasNoLf (of_line s c line) = has_lf line ≡ false
HasNoLf (of_notice s c) = Unit {0}

pub no_more : (line more rest : List ℕ) → (with_lf line ++ more) ++ rest ≡ [] → ⊥
no_more line more rest same =
    let none : length ((with_lf line ++ more) ++ rest) ≡ 0 = ap length same in
    omega (
      arith,
      length-append (with_lf line ++ more) rest,
      length-append (with_lf line) more,
      length-append line (10 ∷ []),
    )

pub are_served : (requests : List Request) → All IsReadAsAsked requests → (xs : List Execution)
    → All HasNoLf xs → (rest : List ℕ) → lines_of xs ++ rest ≡ flat_map request_line requests
    → AreServed requests xs
are_served requests read [] whole rest same = nothing
are_served requests read (of_notice s c ∷ xs) whole rest same =
    noticed s c (are_served requests read xs (All-tail HasNoLf (of_notice s c) xs whole) rest same)
are_served [] read (of_line s c line ∷ xs) whole rest same = absurd (no_more line (lines_of xs) rest same)
are_served (request ∷ requests) read (of_line s c line ∷ xs) whole rest same =
    let sent : List ℕ = join_with_byte 32 (request_words request) in
    let reads : IsReadAsAsked request = All-head IsReadAsAsked request requests read in
    let one = one_line_first line sent (lines_of xs ++ rest) (flat_map request_line requests)
    (All-head HasNoLf (of_line s c line) xs whole)
    (command-no_lf sent (command_asked request) (reads sent refl))
    (sym (append_assoc (with_lf line) (lines_of xs) rest) ∙ same) in
    served s c (ap with_lf one.0)
    (are_served requests (All-tail IsReadAsAsked request requests read) xs
    (All-tail HasNoLf (of_line s c line) xs whole) rest one.1)

-- so each line of such executions is one of a request
abbrev pub IsOfOne : (Request → Type 0) → Execution → Type 0
IsOfOne P (of_line s c line) = (request : Request) × P request × IsLineOf request line
IsOfOne P (of_notice s c) = Unit {0}

pub each_of_one : (P : Request → Type 0) (requests : List Request) → All P requests → (xs : List Execution)
    → AreServed requests xs → (x : Execution) → IsAmong x xs → IsOfOne P x
each_of_one P requests all [] nothing x ([], after, is) = cc is
each_of_one P requests all [] nothing x (y ∷ before, after, is) = cc is
each_of_one P requests all (of_notice s c ∷ xs) (noticed _ _ more) x ([], after, is) =
    subst (IsOfOne P) (let same : of_notice s c ≡ x = cc is in same) tt
each_of_one P requests all (of_notice s c ∷ xs) (noticed _ _ more) x (y ∷ before, after, is) =
    each_of_one P requests all xs more x (before, after, (let same : xs ≡ before ++ x ∷ after = cc is in same))
each_of_one P (request ∷ requests) all (of_line s c line ∷ xs) (served _ _ asks more) x ([], after, is) =
    subst (IsOfOne P) (let same : of_line s c line ≡ x = cc is in same)
    (request, All-head P request requests all, asks)
each_of_one P (request ∷ requests) all (of_line s c line ∷ xs) (served _ _ asks more) x (y ∷ before, after, is) =
    each_of_one P requests (All-tail P request requests all) xs more x
    (before, after, (let same : xs ≡ before ++ x ∷ after = cc is in same))
each_of_one P [] all (of_line s c line ∷ xs) some x among = elim some [ ]

-- the line of the last of them among the executions, of which this holds
pub record IsExecuted (front : List Request) (order : Request)
    (Holds : ServerState → ℕ → List ℕ → Type 0) (xs : List Execution) : Type 0 where
  pub before : List Execution
  pub after : List Execution
  pub server : ServerState
  pub client : ℕ
  pub line : List ℕ
  pub is : xs ≡ before ++ of_line server client line ∷ after
  pub asks : IsLineOf order line
  pub behind : AreServed front before
  pub quiet_before : (u : UpsId) → given_by_lines u before ≡ []
  pub quiet_after : (u : UpsId) → given_by_lines u after ≡ []
  pub holds : Holds server client line

-- a request whose line gives no driver anything
abbrev pub IsQuiet : Request → Type 0
IsQuiet request = (s : ServerState) (c : ℕ) (line : List ℕ) → IsLineOf request line → (u : UpsId)
    → given_by_line u (of_line s c line) ≡ []

pub none_served : (xs : List Execution) → AreServed [] xs → (u : UpsId) → given_by_lines u xs ≡ []
none_served [] nothing u = refl
none_served (of_notice s c ∷ xs) (noticed _ _ more) u = none_served xs more u
none_served (of_line s c line ∷ xs) served_some u = elim served_some [ ]

module _ {front : List Request} {order : Request} {Holds : ServerState → ℕ → List ℕ → Type 0} where
  pub behind_notice : (s : ServerState) (c : ℕ) (xs : List Execution) → IsExecuted front order Holds xs
      → IsExecuted front order Holds (of_notice s c ∷ xs)
  behind_notice s c xs e = record {
    before = of_notice s c ∷ e.before;
    after = e.after;
    server = e.server;
    client = e.client;
    line = e.line;
    is = ap (λ (ys : List Execution). of_notice s c ∷ ys) e.is;
    asks = e.asks;
    behind = noticed s c e.behind;
    quiet_before = e.quiet_before;
    quiet_after = e.quiet_after;
    holds = e.holds;
  }

  pub behind_line : (request : Request) → IsQuiet request → (s : ServerState) (c : ℕ) (line : List ℕ)
      (xs : List Execution) → IsLineOf request line → IsExecuted front order Holds xs
      → IsExecuted (request ∷ front) order Holds (of_line s c line ∷ xs)
  behind_line request quiet s c line xs asks e = record {
    before = of_line s c line ∷ e.before;
    after = e.after;
    server = e.server;
    client = e.client;
    line = e.line;
    is = ap (λ (ys : List Execution). of_line s c line ∷ ys) e.is;
    asks = e.asks;
    behind = served s c asks e.behind;
    quiet_before = λ u. ap (λ t. t ++ given_by_lines u e.before) (quiet s c line asks u) ∙ e.quiet_before u;
    quiet_after = e.quiet_after;
    holds = e.holds;
  }

pub executed_first : (order : Request) (Holds : ServerState → ℕ → List ℕ → Type 0) (s : ServerState) (c : ℕ)
    (line : List ℕ) (xs : List Execution) → IsLineOf order line → AreServed [] xs → Holds s c line
    → IsExecuted [] order Holds (of_line s c line ∷ xs)
executed_first order Holds s c line xs asks more holds = record {
  before = [];
  after = xs;
  server = s;
  client = c;
  line = line;
  is = refl;
  asks = asks;
  behind = nothing;
  quiet_before = λ u. refl;
  quiet_after = none_served xs more;
  holds = holds;
}

-- it was executed, or nothing was given
abbrev pub Any : ServerState → ℕ → List ℕ → Type 0
Any s c line = Unit {0}

pub executed_or_not : (front : List Request) (order : Request) → All IsQuiet front → (all : List Request)
    → all ≡ front ++ order ∷ [] → (xs : List Execution) → AreServed all xs
    → ((u : UpsId) → given_by_lines u xs ≡ []) ⊎ IsExecuted front order Any xs
executed_or_not front order quiet all is [] nothing = inl (λ u. refl)
executed_or_not front order quiet all is (of_notice s c ∷ xs) (noticed _ _ more) =
    elim (executed_or_not front order quiet all is xs more) [
      | inl none ↦ inl none
      | inr e ↦ inr (behind_notice s c xs e)
    ]
executed_or_not [] order quiet (request ∷ all) is (of_line s c line ∷ xs) (served _ _ asks more) =
    let same : request ≡ order = cc is in
    let last : all ≡ [] = cc is in
    inr (executed_first order Any s c line xs (subst (λ r. IsLineOf r line) same asks)
    (subst (λ rs. AreServed rs xs) last more) tt)
executed_or_not (first ∷ front) order quiet (request ∷ all) is (of_line s c line ∷ xs) (served _ _ asks more) =
    let same : request ≡ first = cc is in
    let rest : all ≡ front ++ order ∷ [] = cc is in
    let its : IsLineOf first line = subst (λ r. IsLineOf r line) same asks in
    let silent : IsQuiet first = All-head IsQuiet first front quiet in
    elim (executed_or_not front order (All-tail IsQuiet first front quiet) all rest xs more) [
      | inl none ↦ inl (λ u. ap (λ t. t ++ given_by_lines u xs) (silent s c line its u) ∙ none u)
      | inr e ↦ inr (behind_line first silent s c line xs its e)
    ]
executed_or_not front order quiet [] is (of_line s c line ∷ xs) some = elim some [ ]

-- a client's executions among all
pub record IsSplit (c : ℕ) (all before after : List Execution) (x : Execution) : Type 0 where
  pub front : List Execution
  pub rest : List Execution
  pub is : all ≡ front ++ x ∷ rest
  pub front_is : of_client c front ≡ before

pub split_of_client : (c : ℕ) (all before after : List Execution) (x : Execution)
    → of_client c all ≡ before ++ x ∷ after → IsSplit c all before after x
split_of_client c [] [] after x e = cc e
split_of_client c [] (y ∷ before) after x e = cc e
split_of_client c (z ∷ zs) before after x e =
    by (eqb (client_of z) c) refl before e (λ before h. split_of_client c zs before after x h)
  where
    by : (b : Bool) → eqb (client_of z) c ≡ b → (before : List Execution)
        → cond b (z ∷ of_client c zs) (of_client c zs) ≡ before ++ x ∷ after
        → ((before : List Execution) → of_client c zs ≡ before ++ x ∷ after → IsSplit c zs before after x)
        → IsSplit c (z ∷ zs) before after x
    by true own [] h later = record {
      front = [];
      rest = zs;
      is = ap (λ (w : Execution). w ∷ zs) (let same : z ≡ x = cc h in same);
      front_is = refl;
    }
    by true own (y ∷ before) h later =
        let p = later before (let same : of_client c zs ≡ before ++ x ∷ after = cc h in same) in
        let same : z ≡ y = cc h in record {
          front = z ∷ p.front;
          rest = p.rest;
          is = ap (λ (ws : List Execution). z ∷ ws) p.is;
          front_is = rw own (ap (λ (ws : List Execution). z ∷ ws) p.front_is
              ∙ ap (λ (w : Execution). w ∷ before) same);
        }
    by false own before h later =
        let p = later before h in record {
          front = z ∷ p.front;
          rest = p.rest;
          is = ap (λ (ws : List Execution). z ∷ ws) p.is;
          front_is = rw own p.front_is;
        }

-- one of them, which is the client's, is one of the client's
pub among_own : (c : ℕ) (x : Execution) → client_of x ≡ c → (xs : List Execution) → IsAmong x xs
    → IsAmong x (of_client c xs)
among_own c x own [] ([], after, is) = cc is
among_own c x own [] (y ∷ before, after, is) = cc is
among_own c x own (z ∷ zs) ([], after, is) =
    let same : z ≡ x = cc is in
    rw (ap (λ (w : Execution). eqb (client_of w) c) same ∙ eq-eqb (client_of x) c own)
    ([], of_client c zs, ap (λ (w : Execution). w ∷ of_client c zs) same)
among_own c x own (z ∷ zs) (y ∷ before, after, is) =
    by (eqb (client_of z) c)
    (among_own c x own zs (before, after, (let same : zs ≡ before ++ x ∷ after = cc is in same)))
  where
    by : (b : Bool) → IsAmong x (of_client c zs) → IsAmong x (cond b (z ∷ of_client c zs) (of_client c zs))
    by true (front, rest, e) = (z ∷ front, rest, ap (λ (ws : List Execution). z ∷ ws) e)
    by false h = h
