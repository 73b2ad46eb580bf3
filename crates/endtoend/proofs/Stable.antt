-- A reply that is whole stays so, whatever comes after it.
use Rattle.std.proofs.Common.{◌≡◌, ◌∙◌, ℕ, Bool, true, false, List, [], ◌∷◌, ◌++◌, append-nil}
use Rattle.std.proofs.Common.{Option, Some, None, Result, Ok, Err, refl, sym, ap, subst}
use Rattle.std.specs.Prelude.{All, codes}
use Rattle.std.specs.List.{list_all}
use Rattle.std.proofs.lemmas.List.Elements.{All-head, All-tail}
use Rattle.nutwords.specs.Lines.{Tail, Unfinished as Rest, Overlong, IsCutInto}
use Rattle.nutwords.specs.Lines.{line as a_line, unfinished, overlong}
use Rattle.nutwords.specs.Reading.{read_name}
use Rattle.nutwords.specs.Scan.{words_of}
use Rattle.nutwords.specs.declared.faults.BadName.{BadName}
use Rattle.nutwords.specs.WholeLines.{whole_lines, tail_after, unfinished_after}
use Rattle.nutwords.proofs.PublicLaws.{whole_lines_are_the_cut}
use Rattle.nutrequest.specs.Lines.{FoundLine, Line, found, lines}
use Rattle.nutrequest.specs.Reply.{Reply, Whole, Refused, Bad, Unfinished, reply}
use Rattle.nutrequest.specs.Reply.{reply_from, after_expected, after_first, first_of, first_or, one_item}
use Rattle.nutrequest.specs.Reply.{expected_of, refusal_of, refusal_of_word, refusal_by, only_word}
use Rattle.nutrequest.specs.Reply.{is_error_byte, behind as behind_words}
use Rattle.nutrequest.specs.declared.item.Item.{Item}
use Rattle.nutrequest.specs.declared.request.Request.{Request}
use Rattle.nutrequest.proofs.PublicLaws.{the_first_line_is_found}
use Rattle.nutclient.specs.Printed.{Prints, printed, printed_of}
use Rattle.nutclient.specs.Requests.{last_reply_after, reply_behind}
use Rattle.nutclient.specs.declared.form.Form.{Form}

-- a request whose reply is one line
abbrev pub HasOneLine : Request → Type 0
HasOneLine request = (value rest : List ℕ) → after_expected request value rest ≡ Whole (one_item value) rest

-- bytes after a whole reply are left, and a refusal is one whatever follows
abbrev pub extended : List ℕ → Reply → Reply
extended more (Whole items rest) = Whole items (rest ++ more)
extended more (Refused word) = Refused word
extended more Bad = Bad
extended more Unfinished = Unfinished

abbrev pub IsDecided : Reply → Type 0
IsDecided (Whole items rest) = Unit {0}
IsDecided (Refused word) = Unit {0}
IsDecided Bad = ⊥
IsDecided Unfinished = ⊥

module _ (request : Request) (one : HasOneLine request) (came more : List ℕ) where
  refusal_stays : (words : List (List ℕ)) (behind : List ℕ) →
      after_first request (refusal_of words) (behind ++ more) ≡
      extended more (after_first request (refusal_of words) behind)
  refusal_stays words behind = by_word (only_word (behind_words (codes "ERR" ∷ []) words))
    where
      by_bytes : (word : List ℕ) (b : Bool) → list_all is_error_byte word ≡ b →
          after_first request (refusal_by (Ok word)) (behind ++ more) ≡
          extended more (after_first request (refusal_by (Ok word)) behind)
      by_bytes word true e = rw e refl
      by_bytes word false e = rw e refl

      by_name : (r : Result (List ℕ) BadName) → after_first request (refusal_by r) (behind ++ more) ≡
          extended more (after_first request (refusal_by r) behind)
      by_name (Ok word) = by_bytes word (list_all is_error_byte word) refl
      by_name (Err bad) = refl

      by_word : (o : Option (List ℕ)) → after_first request (refusal_of_word o) (behind ++ more) ≡
          extended more (after_first request (refusal_of_word o) behind)
      by_word (Some word) = by_name (read_name word)
      by_word None = refl

  first_stays : (words : List (List ℕ)) (behind : List ℕ) →
      after_first request (first_of request words) (behind ++ more) ≡
      extended more (after_first request (first_of request words) behind)
  first_stays words behind = by (expected_of request words)
    where
      by : (o : Option (List ℕ)) → after_first request (first_or o (refusal_of words)) (behind ++ more) ≡
          extended more (after_first request (first_or o (refusal_of words)) behind)
      by (Some value) = one value (behind ++ more) ∙ ap (extended more) (sym (one value behind))
      by None = refusal_stays words behind

  at_cut : (ls : List (List ℕ)) (tail : Tail) → whole_lines came ≡ ls → tail_after came ≡ tail →
      IsCutInto came ls tail → IsDecided (reply request came) →
      reply request (came ++ more) ≡ extended more (reply request came)
  at_cut (first ∷ ls) tail e f (a_line {rest = behind} split short cut) decided =
      let found_first : lines came ≡ Line first behind ∷ lines behind =
      ap lines (sym (append-nil came)) ∙ the_first_line_is_found came first behind [] split short ∙
      ap (λ (x : List ℕ). Line first x ∷ lines x) (append-nil behind) in
      ap (reply_from request) (the_first_line_is_found came first behind more split short) ∙
      first_stays (words_of first) behind ∙
      ap (λ (ls : List FoundLine). extended more (reply_from request ls)) (sym found_first)
  at_cut [] (Rest end) e f (unfinished split short) decided =
      let none : reply request came ≡ Unfinished =
      ap (λ (ls : List (List ℕ)). reply_from request (found ls (tail_after came) (unfinished_after came))) e ∙
      ap (λ (t : Tail). reply_from request (found [] t (unfinished_after came))) f in
      absurd (subst IsDecided none decided)
  at_cut [] Overlong e f (overlong split long) decided =
      let bad : reply request came ≡ Bad =
      ap (λ (ls : List (List ℕ)). reply_from request (found ls (tail_after came) (unfinished_after came))) e ∙
      ap (λ (t : Tail). reply_from request (found [] t (unfinished_after came))) f in
      absurd (subst IsDecided bad decided)

  pub reply_stays : (r : Reply) → IsDecided r → reply request came ≡ r →
      reply request (came ++ more) ≡ extended more r
  reply_stays r decided is =
      at_cut (whole_lines came) (tail_after came) refl refl (whole_lines_are_the_cut came)
      (subst IsDecided (sym is) decided) ∙ ap (extended more) is

last_stays : (requests : List Request) → All HasOneLine requests → (before items : List Item)
    (came more rest : List ℕ) → last_reply_after before requests came ≡ Whole items rest →
    last_reply_after before requests (came ++ more) ≡ Whole items (rest ++ more)
last_stays [] one before items came more rest h = ap (extended more) h
last_stays (request ∷ requests) one before items came more rest h =
    by (last_stays requests (All-tail HasOneLine request requests one)) (reply request came) refl h
  where
    by : ((before items : List Item) (came more rest : List ℕ) →
        last_reply_after before requests came ≡ Whole items rest →
        last_reply_after before requests (came ++ more) ≡ Whole items (rest ++ more)) → (r : Reply)
        → reply request came ≡ r →
        reply_behind r (λ all rest. last_reply_after all requests rest) ≡ Whole items rest →
        last_reply_after before (request ∷ requests) (came ++ more) ≡ Whole items (rest ++ more)
    by later (Whole all behind) e k =
        ap (λ (r : Reply). reply_behind r (λ all rest. last_reply_after all requests rest))
        (reply_stays request (All-head HasOneLine request requests one) came more (Whole all behind) tt e)
        ∙ later all items behind more rest k
    by later (Refused word) e k = cc k
    by later Bad e k = cc k
    by later Unfinished e k = cc k

-- So what is printed of it is printed, whatever comes after it.
pub printed_stays : (requests : List Request) → All HasOneLine requests → (form : Form) (came more text : List ℕ)
    → printed requests form came ≡ Prints text → printed requests form (came ++ more) ≡ Prints text
printed_stays requests one form came more text h = by (last_reply_after [] requests came) refl h
  where
    by : (r : Reply) → last_reply_after [] requests came ≡ r → printed_of form r ≡ Prints text →
        printed requests form (came ++ more) ≡ Prints text
    by (Whole items rest) e k =
        ap (printed_of form) (last_stays requests one [] items came more rest e) ∙ k
    by (Refused word) e k = cc k
    by Bad e k = cc k
    by Unfinished e k = cc k
